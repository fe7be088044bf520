-- What the functions of the call find and store, case by case. Their proofs cite it.
use Rattle.std.specs.Prelude.{ℕ, zero, suc, ◌+◌, ◌*◌, ◌-◌, ◌/◌, ◌%◌, ◌^◌, ◌≤◌, ◌<◌, ◌≡◌, Bool, true, false, cond, List, length, get_or, drop, replicate, eqb}
use Rattle.std.proofs.Common.{arith, add-one, ◌∙◌, subst, eq-eqb, ne_eqb, lt-ltb, le-ltb}
use Rattle.std.proofs.Math.Nat.{sub-zero}
use Rattle.std.proofs.Math.Path.{ap, sym}
use Rattle.std.proofs.Math.ListN.{take}
use Rattle.std.proofs.lemmas.List.{length-replicate}
use Rattle.std.proofs.Math.Seq.{take_at}
use Rattle.base_finite.specs.Below.{counted, sum_below, count_below, tabulate}
use Rattle.base_finite.specs.Laws.Below.{length_tabulate, counted_true, counted_false, sum_suc, sum_limit}
use Rattle.base_buffer.specs.Store.{remade}
use Rattle.base_buffer.proofs.Laws.Store.{remade_ahead}
use Rattle.base_limits.specs.Limits.{max_vertices, max_edges, max_weight}
use Rattle.base_limits.specs.Verdict.{◌before◌, lowest_below, Outcome, refusal, answer, outcome}
use Rattle.base_limits.specs.declared.Verdict.{Verdict}
use Rattle.base_limits.specs.declared.Verdict.TheVariants.{Fine, Refused}
use Rattle.base_limits.specs.Laws.Verdict.{before_fine, before_refused, fine_left, passed_on, goes_on_law, refuse_true, refuse_false}
use Rattle.theory_steiner.specs.Problem.{all_usable}
use Rattle.theory_steiner.specs.Strength.{strength_bits, has_bit}
use Rattle.survey_core.specs.Survey.{Survey, survey_with, edge_count, problem_of}
use Rattle.survey_core.specs.Sound.{ByteGroups}
use Rattle.survey_core.specs.Refusal.{survey_refusal, group_refusal}
use Rattle.survey_components.specs.Labels.{chosen}
use Rattle.survey_components.specs.declared.Chosen.TheVariants.{All}
use Rattle.plan_rule.specs.declared.Figured.{Figured}
use Rattle.plan_rule.specs.declared.Figured.TheVariants.{Finished as FiguresFinished, Refused as FiguresRefused}
use Rattle.plan_rule.specs.Figures.{FigureCounts, figures_refusal, figuring, marks_figured, figured_outcome}
use Rattle.plan_rule.proofs.Laws.Ready.{groups_of_all}
use Rattle.plan_core.specs.Laws.Finish.{remade_front}
use Rattle.winter_rule.specs.declared.Winter.TheVariants.{Finished as WinterFinished, Refused as WinterRefused}
use Rattle.winter_rule.specs.Winter.{strength_count, strength_of, strength_refusal, strengths_refusal, given_refusal, winter_refusal, total_price, wintering, copies_over, copies_after, winter_outcome}
use Rattle.winter_rule.specs.Promise.{WinterReady, WinterPromises}
use Rattle.winter_rule.proofs.Laws.Refusal.{list_decides}
use Rattle.winter_rule.proofs.Laws.Promise.{after_fine, after_refused, winter_promises}
use Rattle.winter_core.specs.Bit.{carries, bit_group, passing, passed, pair_carries, bit_survey, figured_cost, bit_price, Room}
use Rattle.winter_core.proofs.Laws.Passing.{length_passing, count_more}
use Rattle.winter_core.proofs.Laws.Copies.{bit_price_few}

-- 1 to 6, 18 and 8 as they are found.
figures_found : (s : Survey) (marks : List ℕ) {v : Verdict} → v ≡ (survey_refusal s before group_refusal s 8 (chosen All marks)) → v ≡ figures_refusal s
unfolding figures_refusal
figures_found s marks h = h ∙ ap (λ w. survey_refusal s before w) (sym (groups_of_all s 8 marks))

-- ---- bits

pub power_at : (k b : ℕ) → b ≡ k → 2 ^ k ≡ 2 ^ b
power_at k b e = ap (λ x. 2 ^ x) (sym e)

pub power_some : (b : ℕ) → b < strength_bits → 1 ≤ 2 ^ b
power_some zero h = omega arith
power_some (suc zero) h = omega arith
power_some (suc (suc zero)) h = omega arith
power_some (suc (suc (suc zero))) h = omega arith
power_some (suc (suc (suc (suc b)))) h = absurd (omega arith)

module _ (x b : ℕ) {p : ℕ} (p_is : p ≡ 2 ^ b) where
  pub bit_set : x / p % 2 ≡ 1 → true ≡ has_bit x b
  unfolding has_bit
  bit_set h = sym (eq-eqb (x / 2 ^ b % 2) 1 (ap (λ q. x / q % 2) (sym p_is) ∙ h))

  pub bit_clear : (x / p % 2 ≡ 1 → ⊥) → false ≡ has_bit x b
  unfolding has_bit
  bit_clear h = sym (ne_eqb (x / 2 ^ b % 2) 1 (λ k. h (ap (λ q. x / q % 2) p_is ∙ k)))

pub strength_none : (strengths : List ℕ) {g x : ℕ} → g < 1 → x ≡ get_or strengths 0 0 → x ≡ strength_of strengths g
unfolding strength_of
strength_none strengths {g} b h = let none : 0 ≡ g - 1 = omega arith in h ∙ ap (λ i. get_or strengths i 0) none

pub strength_some : (strengths : List ℕ) {g i x : ℕ} → i ≡ g → x ≡ get_or strengths (i - 1) 0 → x ≡ strength_of strengths g
unfolding strength_of
strength_some strengths same h = h ∙ ap (λ i. get_or strengths (i - 1) 0) same

pub carries_read : (strengths : List ℕ) (b g : ℕ) {x : ℕ} {r : Bool} → x ≡ strength_of strengths g → r ≡ has_bit x b → r ≡ carries strengths b g
unfolding carries
carries_read strengths b g same h = h ∙ ap (λ x. has_bit x b) same

pub carries_at : (strengths : List ℕ) (b : ℕ) {g x : ℕ} {r : Bool} → x ≡ g → r ≡ carries strengths b x → r ≡ carries strengths b g
carries_at strengths b same h = h ∙ ap (carries strengths b) same

pub group_at : (strengths : List ℕ) (b : ℕ) {g x y : ℕ} → x ≡ g → y ≡ bit_group strengths b x → y ≡ bit_group strengths b g
group_at strengths b same h = h ∙ ap (bit_group strengths b) same

-- ---- what is stored or counted where a test holds

pub stored_when : {k : Bool} {x : List ℕ} (y l : List ℕ) → k ≡ true → x ≡ y → x ≡ cond k y l
stored_when y l h e = e ∙ sym (ap (λ (b : Bool). cond b y l) h)

pub left_when : {k : Bool} (y l : List ℕ) → k ≡ false → l ≡ cond k y l
left_when y l h = sym (ap (λ (b : Bool). cond b y l) h)

pub more_when : (n x : ℕ) {k : Bool} → k ≡ true → n + x ≡ n + counted k x
more_when n x h = ap (λ y. n + y) (sym (counted_true h x))

pub same_when : (n x : ℕ) {k : Bool} → k ≡ false → n ≡ n + counted k x
same_when n x h = omega (arith, counted_false h x)

pub count_on : (t : ℕ → Bool) (i : ℕ) {count next : ℕ} {keep : Bool} → count ≡ count_below i t → keep ≡ t i → next ≡ count + counted keep 1
    → next ≡ count_below (i + 1) t
count_on t i {count} {next} {keep} count_is keep_is h =
    h
    ∙ ap (λ x. x + counted keep 1) count_is
    ∙ ap (λ (k : Bool). count_below i t + counted k 1) keep_is
    ∙ sym (count_more t i)
    ∙ ap (λ k. count_below k t) (sym (add-one i))

pub count_end : (t : ℕ → Bool) {n i count : ℕ} → i ≤ n → n ≤ i → count ≡ count_below i t → count ≡ count_below n t
count_end t {n} {i} b c h = let e : i ≡ n = omega arith in h ∙ ap (λ k. count_below k t) e

-- A byte that has not been passed has the room that it had.
pub room_ahead : (f : ℕ → ℕ → ℕ) (lent : List ℕ) (times : ℕ) {m e x : ℕ} {now : List ℕ} → Room lent m times → e < m → now ≡ remade f e lent → x ≡ get_or now e 0
    → x + times < 256
room_ahead f lent times {e = e} room below now_is x_is =
    let same = x_is ∙ ap (λ (l : List ℕ). get_or l e 0) now_is ∙ remade_ahead f e lent e (omega arith) in omega (arith, room e below, same)

pub more_read : (times : ℕ) {copies mark a b x : ℕ} → copies ≡ a → mark ≡ b → x ≡ copies + counted (eqb mark 2) times → x ≡ a + counted (eqb b 2) times
more_read times {copies} {mark} {a} copies_is mark_is h =
    h ∙ ap (λ n. n + counted (eqb mark 2) times) copies_is ∙ ap (λ n. a + counted (eqb n 2) times) mark_is

pub cost_finished : {f : Figured} {t c b r : ℕ} → f ≡ FiguresFinished t c b r → c ≡ figured_cost (figured_outcome f)
unfolding figured_cost figured_outcome
cost_finished h = sym (ap (λ (f : Figured). figured_cost (figured_outcome f)) h)

pub cost_refused : {f : Figured} {number place : ℕ} → f ≡ FiguresRefused number place → 0 ≡ figured_cost (figured_outcome f)
unfolding figured_cost figured_outcome
cost_refused h = sym (ap (λ (f : Figured). figured_cost (figured_outcome f)) h)

-- ---- the survey that is planned for a bit

module _ (s : Survey) (strengths : List ℕ) (b : ℕ) where
  abbrev test : ℕ → Bool
  test = pair_carries strengths s.others b

  own_part : length s.groups ≤ max_vertices → {own : List ℕ}
      → own ≡ remade (λ v x. bit_group strengths b (get_or s.groups v 0)) (length s.groups) (replicate max_vertices 0)
      → take (length s.groups - 0) own ≡ tabulate (length s.groups) (λ v. bit_group strengths b (get_or s.groups v 0))
  own_part few {own} h =
      ap (λ (n : ℕ). take n own) (sub-zero (length s.groups))
      ∙ ap (take (length s.groups))
      (h ∙ remade_front (λ v x. bit_group strengths b (get_or s.groups v 0)) (length s.groups) (replicate max_vertices 0) room)
      ∙ take_at (tabulate (length s.groups) (λ v. bit_group strengths b (get_or s.groups v 0))) (drop (length s.groups) (replicate max_vertices 0))
      (length s.groups) (length_tabulate (length s.groups) _)
    where
      room : length s.groups ≤ length (replicate {A = ℕ} max_vertices 0)
      room = subst (λ x. length s.groups ≤ x) (sym (length-replicate {A = ℕ} max_vertices 0)) few

  pair_part : (l room : List ℕ) (n : ℕ) {count : ℕ} {held : List ℕ} → count ≡ count_below n test → held ≡ passed test l room n → take (count - 0) held ≡ passing test l n
  unfolding passed
  pair_part l room n {count} {held} count_is h =
      ap (λ (k : ℕ). take k held) (sub-zero count ∙ count_is)
      ∙ ap (take (count_below n test)) h
      ∙ take_at (passing test l n) (drop (count_below n test) room) (count_below n test) (length_passing test l n)

  module _ (few : length s.groups ≤ max_vertices) (left right : List ℕ) {own carriers carried : List ℕ} {count : ℕ}
      (own_is : own ≡ remade (λ v x. bit_group strengths b (get_or s.groups v 0)) (length s.groups) (replicate max_vertices 0))
      (count_is : count ≡ count_below (length s.owners) test) (carriers_are : carriers ≡ passed test s.owners left (length s.owners))
      (carried_are : carried ≡ passed test s.others right (length s.owners)) where
    lent : survey_with (take (length s.groups - 0) own) s.firsts s.seconds s.weights (take (count - 0) carriers) (take (count - 0) carried)
        ≡ bit_survey s strengths b
    lent i =
        survey_with (own_part few own_is i) s.firsts s.seconds s.weights (pair_part s.owners left (length s.owners) count_is carriers_are i)
        (pair_part s.others right (length s.owners) count_is carried_are i)

    pub figures_lent : {o : Outcome FigureCounts}
        → o ≡ figuring
        (survey_with (take (length s.groups - 0) own) s.firsts s.seconds s.weights (take (count - 0) carriers) (take (count - 0) carried))
        → o ≡ figuring (bit_survey s strengths b)
    figures_lent h = h ∙ ap figuring lent

    pub marks_lent : (past : List ℕ) {marks : List ℕ}
        → marks ≡ marks_figured
        (survey_with (take (length s.groups - 0) own) s.firsts s.seconds s.weights (take (count - 0) carriers) (take (count - 0) carried)) past
        → marks ≡ marks_figured (bit_survey s strengths b) past
    marks_lent past h = h ∙ ap (λ (q : Survey). marks_figured q past) lent

-- ---- refusals

pub found_at : (i : ℕ) {x y : ℕ} {v : Verdict} → x ≡ y → v ≡ strength_refusal x (i + 1) → v ≡ strength_refusal y (i + 1)
found_at i same h = h ∙ ap (λ n. strength_refusal n (i + 1)) same

pub list_decided : (strengths : List ℕ) → length strengths ≡ strength_count → {v : Verdict}
    → v ≡ lowest_below strength_count (λ i. strength_refusal (get_or strengths i 0) (i + 1)) → v ≡ strengths_refusal strengths
list_decided strengths long h = h ∙ sym (list_decides strengths long)

module _ (s : Survey) (strengths : List ℕ) {v : Verdict} (v_is : v ≡ survey_refusal s) where
  pub unsound_stops : {number place : ℕ} → v ≡ Refused number place → v ≡ given_refusal s strengths
  unfolding given_refusal
  unsound_stops h = passed_on v_is h _

  pub strengths_decide : v ≡ Fine → {w : Verdict} → w ≡ strengths_refusal strengths → w ≡ given_refusal s strengths
  unfolding given_refusal
  strengths_decide h k = goes_on_law v_is h k

module _ (s : Survey) (strengths : List ℕ) (room : ℕ) {v : Verdict} (v_is : v ≡ given_refusal s strengths) where
  pub given_stops : {number place : ℕ} → v ≡ Refused number place → v ≡ winter_refusal s strengths room
  unfolding winter_refusal
  given_stops h = passed_on v_is h _

  pub short_stops : v ≡ Fine → room < length s.firsts → Refused 7 0 ≡ winter_refusal s strengths room
  unfolding winter_refusal edge_count
  short_stops h b = goes_on_law v_is h (sym (before_is (refuse_true (lt-ltb room (length s.firsts) b) 7 0)))
    where
      before_is : {r : Verdict} → r ≡ Refused 7 0 → (r before group_refusal s 8 (all_usable (problem_of s))) ≡ Refused 7 0
      before_is e = before_refused e _

  pub groups_decide : v ≡ Fine → length s.firsts ≤ room → (marks : List ℕ) {w : Verdict}
      → w ≡ (survey_refusal s before group_refusal s 8 (chosen All marks)) → w ≡ winter_refusal s strengths room
  unfolding winter_refusal given_refusal edge_count figures_refusal
  groups_decide h b marks k =
      let sound : survey_refusal s ≡ Fine = fine_left (survey_refusal s) (strengths_refusal strengths) (sym v_is ∙ h) in
      goes_on_law v_is h
      (figures_found s marks k ∙ before_fine sound _ ∙ sym (before_fine (refuse_false (le-ltb room (length s.firsts) b) 7 0) _))

-- ---- the whole call

pub ready_same : (s : Survey) (strengths : List ℕ) {n k : ℕ} → n ≡ k → WinterReady s strengths n → WinterReady s strengths k
ready_same s strengths e h = subst (λ n. WinterReady s strengths n) e h

module _ (s : Survey) (numbered : ByteGroups s) (strengths : List ℕ) {room : ℕ} (ready : WinterReady s strengths room) where
  pub total_few : (b : ℕ) → b ≤ strength_bits → sum_below b (bit_price s strengths) ≤ b * (8 * (max_edges * max_weight))
  total_few b few =
      sum_limit b (8 * (max_edges * max_weight)) (bit_price s strengths) (λ i below. bit_price_few s numbered strengths ready i (omega arith))

pub total_more : (s : Survey) (strengths : List ℕ) (b : ℕ) {total price next : ℕ} → total ≡ sum_below b (bit_price s strengths) → price ≡ bit_price s strengths b
    → next ≡ total + price → next ≡ sum_below (b + 1) (bit_price s strengths)
total_more s strengths b total_is price_is h =
    h ∙ omega (arith, total_is, price_is, sum_suc b (bit_price s strengths)) ∙ ap (λ k. sum_below k (bit_price s strengths)) (sym (add-one b))

module _ (s : Survey) (numbered : ByteGroups s) (strengths lent : List ℕ) {v : Verdict} (v_is : v ≡ winter_refusal s strengths (length lent)) where
  pub winter_stops : {number place : ℕ} → v ≡ Refused number place
      → (winter_outcome (WinterRefused number place) ≡ wintering s strengths (length lent))
      × ((lent ≡ copies_after s strengths lent) × WinterPromises s strengths lent lent (winter_outcome (WinterRefused number place)))
  unfolding winter_outcome wintering outcome
  winter_stops {number} {place} h =
      let told : refusal number place ≡ wintering s strengths (length lent) = sym (ap (λ v. outcome v (total_price s strengths)) (sym v_is ∙ h)) in
      let same : lent ≡ copies_after s strengths lent = sym (after_refused s strengths lent (sym v_is ∙ h)) in
      (told, (same, winter_promises s numbered strengths lent told same))

  pub winter_goes : {total : ℕ} {after : List ℕ} → v ≡ Fine → total ≡ total_price s strengths → after ≡ copies_over s strengths lent
      → (winter_outcome (WinterFinished total) ≡ wintering s strengths (length lent))
      × ((after ≡ copies_after s strengths lent) × WinterPromises s strengths lent after (winter_outcome (WinterFinished total)))
  unfolding winter_outcome wintering outcome
  winter_goes {total} {after} h total_is after_is =
      let told : answer total ≡ wintering s strengths (length lent) = ap answer total_is ∙ sym (ap (λ v. outcome v (total_price s strengths)) (sym v_is ∙ h)) in
      let same : after ≡ copies_after s strengths lent = after_is ∙ sym (after_fine s strengths lent (sym v_is ∙ h)) in
      (told, (same, winter_promises s numbered strengths lent told same))
