-- Judging batch after batch by the words marks exactly the needed edges of a forest.
use Rattle.std.specs.Prelude.{◌≡◌, ℕ, zero, suc, ◌+◌, ◌-◌, ◌<◌, ◌≤◌, Bool, true, false, cond, not, ◌&&◌, ◌⊎◌, List, [], ◌∷◌, length, nat_eq, nat_le, nat_lt, slice_index, slice_index_or, refl}
use native.Mathlib.Omega.{arith}
use Rattle.std.proofs.Math.Path.{ap, sym}
use Rattle.std.proofs.Common.{◌∙◌, inl, inr, ⊎_elim}
use Rattle.std.specs.Bool.{xor}
use borrow.Author.Tests.{eq-eqb, eqb-true, lt-ltb, ltb-true, leb-true, le-ltb}
use Rattle.base_finite.specs.Below.{count_below, tabulate}
use Rattle.base_finite.specs.Laws.Below.{any_cong, lt_or_ge, get_d_tabulate}
use Rattle.base_finite.specs.Laws.Test.{either, and_left, and_right}
use Rattle.base_limits.specs.Limits.{max_vertices}
use Rattle.format_record.specs.Bits.{bit_at}
use Rattle.theory_steiner.specs.Problem.{Problem, separates}
use Rattle.theory_steiner.specs.Pruning.{needed, mark_of}
use Rattle.survey_core.specs.Survey.{groups_alone, problem_of, vertex_count, edge_count, same_group, member}
use Rattle.survey_groups.specs.Mate.{mate_of}
use Rattle.survey_groups.specs.Laws.Mate.{separates_mates}
use Rattle.base_buffer.specs.Store.{remade}
use Rattle.base_buffer.proofs.Laws.Store.{length_remade}
use Rattle.theory_graph.specs.Path.{crosses}
use Rattle.theory_steiner.proofs.Laws.Cut.{needed_by_cut}
use Rattle.survey_components.specs.Labels.{picked_in}
use Rattle.plan_drop.specs.Word.{word_bits, in_batch, Alone, CutEndsBelow}
use Rattle.plan_drop.specs.Tried.{tried_words}
use Rattle.plan_drop.specs.Laws.Tried.{tried_words_alone}
use Rattle.plan_drop.specs.Prunable.{Prunable, unweighted}
use Rattle.plan_drop.specs.Parted.{parted_below}
use Rattle.plan_drop.specs.Needed.{side_in, judged, raised}
use Rattle.plan_drop.specs.Laws.Needed.{batch_before, batch_after, batch_in, parted_bit}
use Rattle.plan_drop.specs.Dropped.{dropped_marks}
use Rattle.plan_drop.specs.Judge.{pruned_marks, batch_marks}
use Rattle.plan_drop.specs.Laws.Word.{count_lt}

-- ---- stores at rising places

remade_cong : (f g : ℕ → ℕ → ℕ) (n : ℕ) (l : List ℕ) → ((k x : ℕ) → k < n → f k x ≡ g k x) → remade f n l ≡ remade g n l
unfolding remade
remade_cong f g zero l h = refl
remade_cong f g (suc n) [] h = refl
remade_cong f g (suc n) (x ∷ l) h = rw (h 0 x (omega arith), remade_cong (λ k. f (suc k)) (λ k. g (suc k)) n l (λ k y b. h (suc k) y (omega arith)))

-- One pass after another.
remade_twice : (f g : ℕ → ℕ → ℕ) (n : ℕ) (l : List ℕ) → remade g n (remade f n l) ≡ remade (λ k x. g k (f k x)) n l
unfolding remade
remade_twice f g zero l = refl
remade_twice f g (suc n) [] = refl
remade_twice f g (suc n) (x ∷ l) = ap (λ t. g 0 (f 0 x) ∷ t) (remade_twice (λ k. f (suc k)) (λ k. g (suc k)) n l)

-- ---- a batch

record InBatch (base i : ℕ) : Type 0 where
  from : base ≤ i
  below : i - base < word_bits

in_batch_law : (base i : ℕ) → in_batch base i ≡ true → InBatch base i
unfolding in_batch
in_batch_law base i h =
    record {
      from = leb-true base i (and_left (nat_le base i) (nat_lt (i - base) word_bits) h);
      below = ltb-true (i - base) word_bits (and_right (nat_le base i) (nat_lt (i - base) word_bits) h);
    }

-- ---- all groups at once

module _ (words mates : List ℕ) where
  -- A bit says whether its cut separates a group.
  parted_separates : (groups : List ℕ) → length groups ≤ max_vertices → mates ≡ tabulate max_vertices (mate_of groups)
      → (k : ℕ) → bit_at (parted_below words mates (length groups)) k ≡ separates (problem_of (groups_alone groups)) (side_in words k)
  parted_separates groups few h k =
      parted_bit words mates (length groups) k
      ∙ any_cong (length groups) _ _
      (λ v b. ap (λ w. xor (side_in words k v) (side_in words k w)) (ap (λ l. slice_index l v) h ∙ get_d_tabulate max_vertices (mate_of groups) v 0 (omega arith)))
      ∙ sym (separates_mates groups (side_in words k))

separates_cong : (p : Problem) (S T : ℕ → Bool) → ((v : ℕ) → v < p.vertices → S v ≡ T v) → separates p S ≡ separates p T
unfolding separates
separates_cong p S T h =
    any_cong p.vertices _ _
    (λ u bu.
    rw (h u bu)
    (ap (λ x. T u && x) (any_cong p.vertices _ _ (λ v bv. ap (λ x. not x && p.required u v) (h v bv)))))

-- Only the groups say what a cut separates.
separates_groups : (groups firsts seconds : List ℕ) (S : ℕ → Bool) → separates (problem_of (groups_alone groups)) S ≡ separates (unweighted groups firsts seconds) S
unfolding separates problem_of vertex_count same_group member
separates_groups groups firsts seconds S = refl

module _ (groups firsts seconds picked : List ℕ) (ok : Prunable groups firsts seconds picked) where
  abbrev p : Problem
  p = unweighted groups firsts seconds

  abbrev F : ℕ → Bool
  F = picked_in picked

  ends_below : CutEndsBelow max_vertices (λ e. slice_index firsts e) (λ e. slice_index seconds e) (length firsts)
  unfolding problem_of edge_count vertex_count
  ends_below e b =
      let few = ok.few in
      let first : slice_index_or firsts e 0 < length groups = ok.sound.first_below_law e b in
      let second : slice_index_or seconds e 0 < length groups = ok.sound.second_below e b in
      (omega arith, omega arith)

  -- Judging a picked edge by its bit is finding whether it is needed.
  bit_needed : (base e : ℕ) {words : List ℕ} → Alone (λ e. slice_index firsts e) (λ e. slice_index seconds e) F base (length firsts) words → e < length firsts → F e ≡ true
      → InBatch base (count_below e F) → separates (problem_of (groups_alone groups)) (side_in words (count_below e F - base)) ≡ needed p F e
  unfolding problem_of edge_count vertex_count side_in
  bit_needed base e {words} alone b t i =
      let from = i.from in
      let cut : (f : ℕ) → F f ≡ true → crosses p.first p.second (side_in words (count_below e F - base)) f ≡ nat_eq e f =
      λ f h. alone.crossed e f (count_below e F - base) b (ok.bounded f h) t h (omega arith) i.below in
      separates_groups groups firsts seconds (side_in words (count_below e F - base))
      ∙ sym
      (needed_by_cut p ok.sound F ok.joins e (side_in words (count_below e F - base)) (cut e t ∙ eq-eqb e e refl)
      (λ f h c. sym (eqb-true e f (sym (cut f h) ∙ c)))
      ok.bounded
      t)

  -- A batch by the words is the batch of the definition.
  pub batch_is : (base : ℕ) (guess marks : List ℕ) {mates after words : List ℕ} → mates ≡ tabulate max_vertices (mate_of groups)
      → words ≡ tried_words max_vertices guess (λ e. slice_index firsts e) (λ e. slice_index seconds e) F base (length firsts)
      → after ≡ remade (raised F (judged (parted_below words mates (length groups)) base)) (length firsts) marks
      → after ≡ batch_marks p F base (length firsts) marks
  unfolding batch_marks raised judged problem_of
  batch_is base guess marks {mates} {after} {words} m h r =
      r ∙ remade_cong _ _ (length firsts) marks (λ e x b. ap (λ t. cond t 2 x) (by e b (either (F e)) (either (in_batch base (count_below e F)))))
    where
      bits : ℕ
      bits = parted_below words mates (length groups)

      by : (e : ℕ) → e < length firsts → (F e ≡ true) ⊎ (F e ≡ false) → (in_batch base (count_below e F) ≡ true) ⊎ (in_batch base (count_below e F) ≡ false)
          → (F e && (in_batch base (count_below e F) && bit_at bits (count_below e F - base))) ≡ (F e && (in_batch base (count_below e F) && needed p F e))
      by e b (inr t) i = rw t
      by e b (inl t) (inr i) = rw (t, i)
      by e b (inl t) (inl i) =
          rw
          (t, i)
          (parted_separates words mates groups ok.few m (count_below e F - base)
          ∙ bit_needed base e (tried_words_alone max_vertices guess _ _ F base (length firsts) ends_below ok.forest h) b t (in_batch_law base (count_below e F) i))

-- ---- batch after batch

-- The marks after the batches below base.
unfoldable pub marks_below : Problem → (ℕ → Bool) → (base m : ℕ) → List ℕ → List ℕ
marks_below p F base m marks = remade (λ e mark. mark_of (F e) (nat_lt (count_below e F) base && needed p F e)) m marks

unraised : (f k n : Bool) → cond (f && (false && n)) 2 (mark_of f k) ≡ mark_of f k
unraised true k n = refl
unraised false k n = refl

unmarked : (f k n : Bool) → f ≡ false → mark_of f k ≡ mark_of f n
unfolding mark_of
unmarked f k n h = rw h

newly_raised : (f n : Bool) → cond (f && (true && n)) 2 (mark_of f (false && n)) ≡ mark_of f (true && n)
unfolding mark_of
newly_raised true true = refl
newly_raised true false = refl
newly_raised false n = refl

module _ (p : Problem) (F : ℕ → Bool) (m : ℕ) where
  pub length_below : (base : ℕ) (marks : List ℕ) → length (marks_below p F base m marks) ≡ length marks
  unfolding marks_below
  length_below base marks = length_remade _ m marks

  below_none : (marks : List ℕ) → dropped_marks F m marks ≡ marks_below p F 0 m marks
  unfolding dropped_marks marks_below
  below_none marks = remade_cong _ _ m marks (λ e x b. ap (mark_of (F e)) (sym (ap (λ t. t && needed p F e) (le-ltb (count_below e F) 0 (omega arith)))))

  below_dropped : (base : ℕ) (marks : List ℕ) → marks_below p F base m (dropped_marks F m marks) ≡ marks_below p F base m marks
  unfolding dropped_marks marks_below
  below_dropped base marks = remade_twice _ _ m marks

  -- Before the first batch.
  pub below_start : (marks : List ℕ) {dropped : List ℕ} → dropped ≡ dropped_marks F m marks → dropped ≡ marks_below p F 0 m dropped
  below_start marks h = h ∙ below_none marks ∙ sym (below_dropped 0 marks) ∙ ap (marks_below p F 0 m) (sym h)

  raise : (base e : ℕ) → cond (F e && (in_batch base (count_below e F) && needed p F e)) 2 (mark_of (F e) (nat_lt (count_below e F) base && needed p F e))
      ≡ mark_of (F e) (nat_lt (count_below e F) (base + word_bits) && needed p F e)
  raise base e =
      let i : ℕ = count_below e F in
      ⊎_elim
      (λ (l : i < base).
      rw
      (lt-ltb i base l, batch_before base i l, lt-ltb i (base + word_bits) (omega arith))
      (unraised (F e) (true && needed p F e) (needed p F e)))
      (λ (l : base ≤ i).
      ⊎_elim
      (λ (u : i < base + word_bits).
      rw
      (le-ltb i base l, batch_in base i l (omega arith), lt-ltb i (base + word_bits) u)
      (newly_raised (F e) (needed p F e)))
      (λ (u : base + word_bits ≤ i).
      rw
      (le-ltb i base l, batch_after base i l (omega arith), le-ltb i (base + word_bits) u)
      (unraised (F e) (false && needed p F e) (needed p F e)))
      (lt_or_ge i (base + word_bits)))
      (lt_or_ge i base)

  -- One more batch.
  pub below_more : (base : ℕ) (marks : List ℕ) {before after : List ℕ} → before ≡ marks_below p F base m marks → after ≡ batch_marks p F base m before
      → after ≡ marks_below p F (base + word_bits) m marks
  unfolding marks_below batch_marks
  below_more base marks h r =
      r ∙ rw h (remade_twice _ _ m marks ∙ remade_cong _ _ m marks (λ e x b. raise base e))

  -- No edge has a higher index.
  below_all : (base : ℕ) (marks : List ℕ) → count_below m F ≤ base → marks_below p F base m marks ≡ pruned_marks p F m marks
  unfolding marks_below pruned_marks
  below_all base marks h = remade_cong _ _ m marks (λ e x b. by e b (either (F e)))
    where
      by : (e : ℕ) → e < m → (F e ≡ true) ⊎ (F e ≡ false) → mark_of (F e) (nat_lt (count_below e F) base && needed p F e) ≡ mark_of (F e) (needed p F e)
      by e b (inl t) =
          let l : count_below e F < count_below m F = count_lt m e F b t in
          let u : count_below e F < base = omega arith in
          rw (lt-ltb (count_below e F) base u)
      by e b (inr t) = unmarked (F e) (nat_lt (count_below e F) base && needed p F e) (needed p F e) t

  -- After the last batch.
  pub below_end : (base : ℕ) (marks : List ℕ) {dropped after : List ℕ} → count_below m F ≤ base → dropped ≡ dropped_marks F m marks
      → after ≡ marks_below p F base m dropped → after ≡ pruned_marks p F m marks
  below_end base marks few h r = r ∙ ap (marks_below p F base m) h ∙ below_dropped base marks ∙ below_all base marks few
