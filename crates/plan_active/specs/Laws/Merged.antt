-- When two components become one, the flags of these three are all that changes (`theory_steiner`, law `active_other`), and that of the new one is
-- found by the mates, before the labels change.
use Rattle.std.specs.Prelude.{ℕ, ◌<◌, ◌≤◌, ◌≡◌, refl, ◌⊎◌, Bool, true, false, ◌&&◌, ◌||◌, not, List}
use Rattle.std.proofs.Common.{arith, ◌∙◌, inl, inr, ⊎_elim, eq-eqb, ne_eqb}
use Rattle.std.proofs.Math.Decide.{ℕ_discrete}
use Rattle.std.proofs.Math.Path.{ap, sym}
use Rattle.std.proofs.Math.Bool.{xor, cond, and-false}
use Rattle.std.proofs.Math.ListN.{length, get_or, set, get_or-eq_default}
use Rattle.std.proofs.lemmas.List.{length-replicate}
use Rattle.std.proofs.Math.Dec.{eqb}
use Rattle.base_finite.specs.Below.{counted, any_below, tabulate}
use Rattle.base_finite.specs.Laws.Below.{any_intro, any_elim, any_cong, counted_false, get_d_tabulate, lt_or_ge}
use Rattle.base_finite.specs.Laws.Test.{or_cases, or_right, true_not_false, same_test_law}
use Rattle.base_limits.specs.Limits.{max_vertices, max_duals}
use Rattle.theory_graph.specs.Component.{merged}
use Rattle.theory_steiner.specs.Problem.{separates}
use Rattle.theory_steiner.specs.Growth.{active}
use Rattle.theory_steiner.proofs.Laws.Joined.{separates_cong}
use Rattle.theory_steiner.proofs.Laws.Activity.{active_cong, active_other, active_gone}
use Rattle.survey_core.specs.Survey.{groups_alone, vertex_count, problem_of}
use Rattle.survey_core.proofs.Laws.Member.{member_elim}
use Rattle.survey_groups.specs.Mate.{mate_of}
use Rattle.survey_groups.specs.Laws.Mate.{Mated, mated, separates_mates}
use Rattle.base_buffer.proofs.Laws.Store.{set_table, remade_passed}
use Rattle.plan_active.specs.Flags.{active_flags, has_mate, MatesListed, of_either, apart_from_mate, joined_active, relabelled_first, merged_flags}
use Rattle.plan_active.specs.Laws.Listed.{any_gathered}

-- ---- apart from a mate

xor_same : (t : Bool) → xor t t ≡ false
unfolding xor
xor_same true = refl
xor_same false = refl

-- A vertex that has no mate but itself is never apart from it.
apart_mated : (mates labels : List ℕ) (x y v : ℕ) → (has_mate mates v && apart_from_mate mates labels x y v) ≡ apart_from_mate mates labels x y v
unfolding has_mate apart_from_mate
apart_mated mates labels x y v = by (ℕ_discrete (get_or mates v 0) v)
  where
    by : Dec (get_or mates v 0 ≡ v)
        → (not (eqb (get_or mates v 0) v) && xor (of_either x y (get_or labels v 0)) (of_either x y (get_or labels (get_or mates v 0) 0)))
        ≡ xor (of_either x y (get_or labels v 0)) (of_either x y (get_or labels (get_or mates v 0) 0))
    by (yes e) =
        let none : xor (of_either x y (get_or labels v 0)) (of_either x y (get_or labels (get_or mates v 0) 0)) ≡ false =
        ap (λ w. xor (of_either x y (get_or labels v 0)) (of_either x y (get_or labels w 0))) e ∙ xor_same (of_either x y (get_or labels v 0)) in
        rw none (and-false (not (eqb (get_or mates v 0) v)))
    by (no d) = ap (λ t. not t && xor (of_either x y (get_or labels v 0)) (of_either x y (get_or labels (get_or mates v 0) 0))) (ne_eqb (get_or mates v 0) v d)

-- A number past the vertices is its own mate.
mate_past : (groups : List ℕ) (v : ℕ) → length groups ≤ v → mate_of groups v ≡ v
mate_past groups v b = by (mated groups v)
  where
    by : (mate_of groups v ≡ v) ⊎ Mated groups v → mate_of groups v ≡ v
    by (inl e) = e
    by (inr m) =
        let k = member_elim (groups_alone groups) refl m.group v m.own in
        absurd (k.some (sym k.same ∙ get_or-eq_default groups 0 b))

-- ---- the merged component, from the labels before

module _ (groups labels : List ℕ) {mates members : List ℕ} {count : ℕ} (few : length groups ≤ max_vertices) (m : MatesListed groups mates members count) where
  module _ (x y : ℕ) where
    abbrev held : ℕ → Bool
    held v = of_either x y (get_or labels v 0)

    apart_is : (v : ℕ) → v < max_vertices → apart_from_mate mates labels x y v ≡ xor (held v) (held (mate_of groups v))
    unfolding apart_from_mate
    apart_is v b = ap (λ w. xor (held v) (held w)) (ap (λ l. get_or l v 0) m.mates_are ∙ get_d_tabulate max_vertices (mate_of groups) v 0 b)

    -- One vertex that is apart from its mate is enough.
    apart_separates : (v : ℕ) → v < max_vertices → apart_from_mate mates labels x y v ≡ true → separates (problem_of (groups_alone groups)) held ≡ true
    apart_separates v b h = separates_mates groups held ∙ by (lt_or_ge v (length groups))
      where
        by : (v < length groups) ⊎ (length groups ≤ v) → any_below (length groups) (λ v. xor (held v) (held (mate_of groups v))) ≡ true
        by (inl c) = any_intro (length groups) (λ v. xor (held v) (held (mate_of groups v))) v c (sym (apart_is v b) ∙ h)
        by (inr c) =
            true_not_false (apart_from_mate mates labels x y v) h
            (apart_is v b ∙ ap (λ w. xor (held v) (held w)) (mate_past groups v c) ∙ xor_same (held v))

    -- The list has them all.
    listed_apart : any_below count (λ k. apart_from_mate mates labels x y (get_or members k 0)) ≡ any_below (length groups) (apart_from_mate mates labels x y)
    listed_apart =
        let room = length-replicate {A = ℕ} max_vertices 0 in
        rw (m.members_are, m.count_is)
        (any_gathered (has_mate mates) (apart_from_mate mates labels x y) (length groups) _ (omega arith)
        ∙ any_cong (length groups) _ _ (λ v b. apart_mated mates labels x y v))

    separates_apart : separates (problem_of (groups_alone groups)) held ≡ true → any_below (length groups) (apart_from_mate mates labels x y) ≡ true
    separates_apart h =
        let f = any_elim (length groups) (λ v. xor (held v) (held (mate_of groups v))) (sym (separates_mates groups held) ∙ h) in
        let b = f.below in
        any_intro (length groups) (apart_from_mate mates labels x y) f.at b (apart_is f.at (omega arith) ∙ f.passes)

    -- Any two vertices may be tried first.
    tried : (u v : ℕ) → u < length groups → v < length groups
        → (apart_from_mate mates labels x y u
        || (apart_from_mate mates labels x y v || any_below count (λ k. apart_from_mate mates labels x y (get_or members k 0))))
        ≡ separates (problem_of (groups_alone groups)) held
    tried u v bu bv =
        rw listed_apart
        (same_test_law
        (apart_from_mate mates labels x y u || (apart_from_mate mates labels x y v || any_below (length groups) (apart_from_mate mates labels x y)))
        (separates (problem_of (groups_alone groups)) held)
        forth
        (λ h.
        or_right (apart_from_mate mates labels x y u) _
        (or_right (apart_from_mate mates labels x y v) (any_below (length groups) (apart_from_mate mates labels x y)) (separates_apart h))))
      where
        all : any_below (length groups) (apart_from_mate mates labels x y) ≡ true → separates (problem_of (groups_alone groups)) held ≡ true
        all h = let f = any_elim (length groups) (apart_from_mate mates labels x y) h in let b = f.below in apart_separates f.at (omega arith) f.passes

        forth : (apart_from_mate mates labels x y u || (apart_from_mate mates labels x y v || any_below (length groups) (apart_from_mate mates labels x y))) ≡ true
            → separates (problem_of (groups_alone groups)) held ≡ true
        forth h =
            ⊎_elim
            (apart_separates u (omega arith))
            (λ k. ⊎_elim (apart_separates v (omega arith)) all (or_cases (apart_from_mate mates labels x y v) (any_below (length groups) (apart_from_mate mates labels x y)) k))
            (or_cases (apart_from_mate mates labels x y u) (apart_from_mate mates labels x y v || any_below (length groups) (apart_from_mate mates labels x y)) h)

  module _ (first second z : ℕ) (first_below_law : first < length groups) (second_below : second < length groups)
      (fresh : (v : ℕ) → v < length groups → get_or labels v 0 ≡ z → ⊥) where
    abbrev label_z : ℕ → ℕ
    label_z = merged (get_or labels first 0) (get_or labels second 0) z (λ v. get_or labels v 0)

    in_merged : (b : Bool) (l : ℕ) → (l ≡ z → ⊥) → eqb (cond b z l) z ≡ b
    in_merged true l d = eq-eqb z z refl
    in_merged false l d = ne_eqb l z d

    -- Whether the merged component is active, for a number that is no label yet.
    pub joined_active_law : joined_active mates labels members count first second ≡ active (problem_of (groups_alone groups)) label_z z
    unfolding joined_active of_either active merged problem_of vertex_count
    joined_active_law =
        tried (get_or labels first 0) (get_or labels second 0) first second first_below_law second_below
        ∙ separates_cong (problem_of (groups_alone groups)) _ _ (λ v b. by v b)
      where
        by : (v : ℕ) → v < length groups → of_either (get_or labels first 0) (get_or labels second 0) (get_or labels v 0) ≡ eqb (label_z v) z
        by v b = sym (in_merged (of_either (get_or labels first 0) (get_or labels second 0) (get_or labels v 0)) (get_or labels v 0) (fresh v b))

-- ---- the flags

-- One flag is taken away.
cleared : (n : ℕ) (f : ℕ → ℕ) (x : ℕ) → set (tabulate n f) x 0 ≡ tabulate n (λ c. cond (eqb c x) 0 (f c))
cleared n f x =
    set_table n f (λ c. cond (eqb c x) 0 (f c)) x 0 (sym (ap (λ t. cond t 0 (f x)) (eq-eqb x x refl))) (λ c d. sym (ap (λ t. cond t 0 (f c)) (ne_eqb c x d)))

module _ (groups labels : List ℕ) (x y z : ℕ) (few : length groups ≤ max_vertices) (long : length labels ≡ max_vertices) where
  abbrev before : ℕ → ℕ
  before c = counted (active (problem_of (groups_alone groups)) (λ v. get_or labels v 0) c) 1

  abbrev after : ℕ → ℕ
  after c = counted (active (problem_of (groups_alone groups)) (λ v. get_or (relabelled_first (length groups) x y z labels) v 0) c) 1

  label_after_law : (v : ℕ) → v < length groups → get_or (relabelled_first (length groups) x y z labels) v 0 ≡ merged x y z (λ v. get_or labels v 0) v
  unfolding relabelled_first merged
  label_after_law v b = remade_passed (λ v. merged x y z (λ l. l)) (length groups) labels v b (omega arith)

  active_after : (c : ℕ) → active (problem_of (groups_alone groups)) (λ v. get_or (relabelled_first (length groups) x y z labels) v 0) c
      ≡ active (problem_of (groups_alone groups)) (merged x y z (λ v. get_or labels v 0)) c
  unfolding problem_of vertex_count
  active_after c = active_cong (problem_of (groups_alone groups)) _ _ c label_after_law

  gone : (c : ℕ) → (c ≡ x) ⊎ (c ≡ y) → (c ≡ z → ⊥) → 0 ≡ after c
  gone c old d = sym (counted_false (active_after c ∙ active_gone (problem_of (groups_alone groups)) (λ v. get_or labels v 0) x y z c old d) 1)

  stays : (c : ℕ) → (c ≡ z → ⊥) → Dec (c ≡ x) → Dec (c ≡ y) → cond (eqb c y) 0 (cond (eqb c x) 0 (before c)) ≡ after c
  stays c d p (yes q) = ap (λ t. cond t 0 (cond (eqb c x) 0 (before c))) (eq-eqb c y q) ∙ gone c (inr q) d
  stays c d (yes p) (no q) = rw (eq-eqb c x p, ne_eqb c y q) (gone c (inl p) d)
  stays c d (no p) (no q) =
      rw
      (ne_eqb c x p, ne_eqb c y q)
      (sym (ap (λ t. counted t 1) (active_after c ∙ active_other (problem_of (groups_alone groups)) (λ v. get_or labels v 0) x y z c p q d)))

  -- The flags follow the labels, if z's flag does.
  pub flags_follow : {flag : ℕ} {flags labels_after_ flags_after : List ℕ} → flags ≡ active_flags groups labels
      → flag ≡ counted (active (problem_of (groups_alone groups)) (merged x y z (λ v. get_or labels v 0)) z) 1
      → labels_after_ ≡ relabelled_first (length groups) x y z labels → flags_after ≡ merged_flags x y z flag flags
      → flags_after ≡ active_flags groups labels_after_
  unfolding merged_flags active_flags
  flags_follow {flag} f a l r =
      r ∙ rw (f, l)
      (ap (λ t. set (set t y 0) z flag) (cleared max_duals before x)
      ∙ ap (λ t. set t z flag) (cleared max_duals (λ c. cond (eqb c x) 0 (before c)) y)
      ∙ set_table max_duals (λ c. cond (eqb c y) 0 (cond (eqb c x) 0 (before c))) after z flag
      (a ∙ ap (λ t. counted t 1) (sym (active_after z)))
      (λ c d. stays c d (ℕ_discrete c x) (ℕ_discrete c y)))

-- The components of two vertices become one, whose number is no label yet: with the flag by mates the flags are those of the new labels.
pub flags_merged : (groups labels : List ℕ) {flags mates members labels_after_ flags_after : List ℕ} {count first second z : ℕ}
    → length groups ≤ max_vertices → length labels ≡ max_vertices → MatesListed groups mates members count
    → first < length groups → second < length groups → ((v : ℕ) → v < length groups → get_or labels v 0 ≡ z → ⊥)
    → flags ≡ active_flags groups labels
    → labels_after_ ≡ relabelled_first (length groups) (get_or labels first 0) (get_or labels second 0) z labels
    → flags_after ≡ merged_flags (get_or labels first 0) (get_or labels second 0) z (counted (joined_active mates labels members count first second) 1) flags
    → flags_after ≡ active_flags groups labels_after_
flags_merged groups labels {first = first} {second = second} {z = z} few long m bf bs fresh f l r =
    flags_follow groups labels (get_or labels first 0) (get_or labels second 0) z few long f
    (ap (λ t. counted t 1) (joined_active_law groups labels few m first second z bf bs fresh))
    l
    r

-- ---- what calls leave

not_xor : (t : Bool) → not t ≡ xor true t
unfolding xor
not_xor true = refl
not_xor false = refl

xor_none : (t : Bool) → t ≡ xor false t
unfolding xor
xor_none true = refl
xor_none false = refl

-- Vertex v and its mate, as calls read them.
module _ (mates labels : List ℕ) (x y v : ℕ) {own other : Bool} {i read mate a b : ℕ} (i_is : i ≡ v) (m : read ≡ get_or mates i 0) (n : mate ≡ read) (p : a ≡ get_or labels i 0)
    (q : own ≡ of_either x y a) (r : b ≡ get_or labels mate 0) (s : other ≡ of_either x y b) where
  parted_read : xor own other ≡ apart_from_mate mates labels x y v
  unfolding apart_from_mate
  parted_read = rw (s, r, n, m, q, p, i_is)

  pub parted_in : own ≡ true → not other ≡ apart_from_mate mates labels x y v
  parted_in h = not_xor other ∙ ap (λ t. xor t other) (sym h) ∙ parted_read

  pub parted_out : own ≡ false → other ≡ apart_from_mate mates labels x y v
  parted_out h = xor_none other ∙ ap (λ t. xor t other) (sym h) ∙ parted_read

-- A listed vertex, as calls read and try it.
pub apart_by : (mates labels : List ℕ) (x y : ℕ) {r s : Bool} {v w : ℕ} → r ≡ apart_from_mate mates labels x y v → v ≡ w → r ≡ s → apart_from_mate mates labels x y w ≡ s
apart_by mates labels x y h k t = ap (apart_from_mate mates labels x y) (sym k) ∙ sym h ∙ t

-- The flag, by the answers of three calls.
module _ (mates labels members : List ℕ) (count first second : ℕ) {x y : ℕ} {one : Bool} (x_is : x ≡ get_or labels first 0) (y_is : y ≡ get_or labels second 0)
    (h : one ≡ apart_from_mate mates labels x y first) where
  pub flag_first : one ≡ true → 1 ≡ counted (joined_active mates labels members count first second) 1
  unfolding joined_active counted
  flag_first t = rw (← x_is, ← y_is, sym h ∙ t)

  module _ {two : Bool} (k : two ≡ apart_from_mate mates labels x y second) (f : one ≡ false) where
    pub flag_second : two ≡ true → 1 ≡ counted (joined_active mates labels members count first second) 1
    unfolding joined_active counted
    flag_second t = rw (← x_is, ← y_is, sym h ∙ f, sym k ∙ t)

    module _ {all : Bool} (l : all ≡ any_below count (λ k. apart_from_mate mates labels x y (get_or members k 0))) (g : two ≡ false) where
      pub flag_all : counted all 1 ≡ counted (joined_active mates labels members count first second) 1
      unfolding joined_active
      flag_all = rw (← x_is, ← y_is, sym h ∙ f, sym k ∙ g) (ap (λ t. counted t 1) l)

-- The three stores, at places that were read.
pub flags_by : (flags : List ℕ) (x y z flag : ℕ) {i j k : ℕ} {one two three : List ℕ} → one ≡ set flags i 0 → two ≡ set one j 0 → three ≡ set two k flag
    → i ≡ x → j ≡ y → k ≡ z → three ≡ merged_flags x y z flag flags
unfolding merged_flags
flags_by flags x y z flag p q r i j k = r ∙ rw (q, p, i, j, k)
