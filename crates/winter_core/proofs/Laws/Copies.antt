-- What the plan of a bit's survey adds: its kept tracks are those of the bit's problem, each counts 2 ^ b times more, and the price rises by as much.
-- `add_bit` and `add_bits` cite it.
use Rattle.std.specs.Prelude.{ℕ, zero, suc, ◌+◌, ◌*◌, ◌^◌, ◌≤◌, ◌<◌, ◌≡◌, Bool, true, false, not, replicate}
use native.Mathlib.Omega.{arith}
use Rattle.std.proofs.Math.Nat.{mul-le-mul}
use Rattle.std.proofs.Common.{add-one, sym, ◌∙◌, subst}
use Rattle.std.proofs.Math.Path.{refl, ap}
use mathlib.Core.List.{List, ◌++◌}
use Rattle.std.proofs.Math.ListN.{length, get_or, drop, length-append, length-drop, get_or-append}
use Rattle.std.proofs.lemmas.List.{length-replicate}
use Rattle.std.proofs.Math.Seq.{drop_at}
use Rattle.std.proofs.Math.Dec.{eqb}
use Rattle.base_finite.specs.Below.{counted, sum_below, tabulate}
use Rattle.base_finite.specs.Laws.Test.{and_left, true_not_false}
use Rattle.base_finite.specs.Laws.Below.{length_tabulate, get_d_tabulate, sum_limit, counted_le}
use Rattle.base_buffer.specs.Store.{remade}
use Rattle.base_buffer.proofs.Laws.Store.{tabulate_cong}
use Rattle.base_limits.specs.Limits.{max_edges, max_weight}
use Rattle.base_limits.specs.Verdict.{Outcome, outcome, written}
use Rattle.base_limits.specs.declared.Verdict.{Verdict}
use Rattle.base_limits.specs.declared.Verdict.TheVariants.{Fine, Refused}
use Rattle.theory_graph.specs.Path.{without}
use Rattle.theory_steiner.specs.Problem.{Problem, joined, cost}
use Rattle.theory_steiner.specs.Pruning.{needed, picked, kept, mark_of, mark}
use Rattle.theory_steiner.specs.Strength.{strength_bits, bit_problem, copies}
use Rattle.theory_steiner.proofs.Laws.Strength.{copies_below, copies_price}
use Rattle.survey_core.specs.Survey.{Survey, edge_count, problem_of}
use Rattle.survey_core.specs.Sound.{ByteGroups, SurveySound}
use Rattle.plan_rule.specs.Plan.{plan_of}
use Rattle.plan_rule.specs.Figures.{FigureCounts, figures_refusal, figure_counts_of, figuring, marks_figured}
use Rattle.plan_core.specs.Laws.Finish.{remade_front}
use Rattle.winter_rule.specs.Winter.{strengths_of, copies_of, total_price, copies_over}
use Rattle.winter_rule.specs.Promise.{WinterReady}
use Rattle.winter_core.specs.Bit.{bit_survey, figured_cost, bit_price, CopiedFor, copies_for, Room}
use Rattle.winter_core.proofs.Laws.Bit.{bit_survey_problem}
use Rattle.winter_core.proofs.Laws.Pairs.{bit_survey_sound, bit_survey_fine}

pub power_few : (b : ℕ) → b < strength_bits → 2 ^ b ≤ 8
power_few zero h = omega arith
power_few (suc zero) h = omega arith
power_few (suc (suc zero)) h = omega arith
power_few (suc (suc (suc zero))) h = omega arith
power_few (suc (suc (suc (suc b)))) h = absurd (omega arith)

-- A mark is 2 exactly if the edge is kept.
marked_kept : (a b : Bool) → (b ≡ true → a ≡ true) → eqb (mark_of a b) 2 ≡ b
unfolding mark_of
marked_kept true true h = refl
marked_kept true false h = refl
marked_kept false false h = refl
marked_kept false true h = true_not_false false (h refl) refl

kept_picked : (p : Problem) (e : ℕ) → kept p e ≡ true → picked p e ≡ true
unfolding kept needed
kept_picked p e h = and_left (picked p e) (not (joined p (without (picked p) e))) h

-- Marks written over an array are as many as it had places.
written_long : (s : Survey) → SurveySound s → (v : Verdict)
    → length (written v ((plan_of (problem_of s)).marks ++ drop (edge_count s) (replicate max_edges 0)) (replicate max_edges 0)) ≡ max_edges
unfolding written plan_of problem_of edge_count
written_long s sound Fine =
    let few = sound.edges_few in
    omega (
      arith,
      few,
      length-append (tabulate (length s.firsts) (mark (problem_of s))) (drop (length s.firsts) (replicate max_edges 0)),
      length_tabulate (length s.firsts) (mark (problem_of s)),
      length-drop (length s.firsts) (replicate {A = ℕ} max_edges 0),
      length-replicate {A = ℕ} max_edges 0,
    )
written_long s sound (Refused number place) = length-replicate {A = ℕ} max_edges 0

module _ (s : Survey) (numbered : ByteGroups s) (strengths : List ℕ) {room : ℕ} (ready : WinterReady s strengths room) (b : ℕ) where
  abbrev into : Survey
  into = bit_survey s strengths b

  abbrev Q : Problem
  Q = bit_problem (problem_of s) (strengths_of s strengths) b

  pub marks_long : {marks : List ℕ} → marks ≡ marks_figured into (replicate max_edges 0) → length marks ≡ max_edges
  unfolding marks_figured
  marks_long h = ap length h ∙ written_long into (bit_survey_sound s numbered ready.survey strengths b) (figures_refusal into)

  -- The cost of the bit's plan.
  pub bit_cost : {o : Outcome FigureCounts} → o ≡ figuring into → figured_cost o ≡ cost Q (kept Q)
  unfolding figuring figured_cost outcome figure_counts_of plan_of
  bit_cost h =
      ap figured_cost (h ∙ ap (λ v. outcome v (figure_counts_of (plan_of (problem_of into)))) (bit_survey_fine s numbered ready.survey strengths b ready.joinable))
      ∙ ap (λ (p : Problem). cost p (kept p)) (bit_survey_problem s strengths b numbered)

  -- Its kept tracks.
  pub bit_kept : {marks : List ℕ} (before : List ℕ) → marks ≡ marks_figured into before → (e : ℕ) → e < edge_count s → eqb (get_or marks e 0) 2 ≡ kept Q e
  unfolding marks_figured written plan_of problem_of edge_count mark
  bit_kept {marks} before h e below =
      ap (λ x. eqb x 2) at
      ∙ marked_kept (picked (problem_of into) e) (kept (problem_of into) e) (kept_picked (problem_of into) e)
      ∙ ap (λ (p : Problem). kept p e) (bit_survey_problem s strengths b numbered)
    where
      at : get_or marks e 0 ≡ mark_of (picked (problem_of into) e) (kept (problem_of into) e)
      at =
          ap (λ (l : List ℕ). get_or l e 0)
          (h ∙ ap (λ v. written v ((plan_of (problem_of into)).marks ++ drop (edge_count into) before) before) (bit_survey_fine s numbered ready.survey strengths b ready.joinable))
          ∙ get_or-append (tabulate (length s.firsts) (mark (problem_of into))) (drop (length s.firsts) before) 0 e
          (subst (λ m. e < m) (sym (length_tabulate (length s.firsts) (mark (problem_of into)))) below)
          ∙ get_d_tabulate (length s.firsts) (mark (problem_of into)) e 0 below

  -- The price of one bit, and that it is small.
  cost_few : cost Q (kept Q) ≤ max_edges * max_weight
  unfolding cost problem_of edge_count
  cost_few =
      let m : length s.firsts ≤ max_edges = ready.survey.edges_few in
      let each = sum_limit (length s.firsts) max_weight (λ e. counted (kept Q e) (get_or s.weights e 0))
      (λ e l. omega (arith, counted_le (kept Q e) (get_or s.weights e 0), (ready.survey.edges e l).weight_le)) in
      let all = mul-le-mul {n₁ = length s.firsts} {m₁ = max_weight} {n₂ = max_edges} {m₂ = max_weight} m (omega arith) in
      omega arith

  pub times_few : b < strength_bits → {times paid : ℕ} → times ≡ 2 ^ b → paid ≡ cost Q (kept Q) → times * paid ≤ 8 * (max_edges * max_weight)
  times_few few {times} {paid} t p =
      let a : times ≤ 8 = omega (arith, power_few b few) in
      let c : paid ≤ max_edges * max_weight = omega (arith, cost_few) in
      mul-le-mul {n₁ = times} {m₁ = paid} {n₂ = 8} {m₂ = max_edges * max_weight} a c

  pub bit_price_law : {times paid r : ℕ} → times ≡ 2 ^ b → paid ≡ cost Q (kept Q) → r ≡ times * paid → r ≡ bit_price s strengths b
  unfolding bit_price
  bit_price_law {times} {paid} t p h = h ∙ ap (λ x. x * paid) t ∙ ap (λ x. 2 ^ b * x) p

  pub bit_price_few : b < strength_bits → bit_price s strengths b ≤ 8 * (max_edges * max_weight)
  unfolding bit_price
  bit_price_few few = times_few few refl refl

  -- ---- copies

  module _ (few : b < strength_bits) (lent : List ℕ) (holds : CopiedFor s strengths b lent) where
    pub copies_fit : {times : ℕ} → times ≡ 2 ^ b → Room lent (edge_count s) times
    copies_fit t e below =
        omega (arith, holds e below, copies_below (problem_of s) (strengths_of s strengths) b e, power_few b few)

    pub copies_more : edge_count s ≤ length lent → {marks after : List ℕ} {times : ℕ} (before : List ℕ) → marks ≡ marks_figured into before → times ≡ 2 ^ b
        → after ≡ remade (λ e x. x + counted (eqb (get_or marks e 0) 2) times) (edge_count s) lent → after ≡ copies_for s strengths lent (b + 1)
    unfolding copies_for copies sum_below
    copies_more fits {marks} {after} {times} before marks_are t h =
        h
        ∙ remade_front (λ e x. x + counted (eqb (get_or marks e 0) 2) times) (edge_count s) lent fits
        ∙ ap (λ (l : List ℕ). l ++ drop (edge_count s) lent)
        (tabulate_cong (edge_count s) (λ e. get_or lent e 0 + counted (eqb (get_or marks e 0) 2) times) (copies (problem_of s) (strengths_of s strengths) (suc b))
        (λ e below.
        ap (λ x. x + counted (eqb (get_or marks e 0) 2) times) (holds e below)
        ∙ ap (λ x. copies (problem_of s) (strengths_of s strengths) b e + counted (eqb (get_or marks e 0) 2) x) t
        ∙ ap (λ (k : Bool). copies (problem_of s) (strengths_of s strengths) b e + counted k (2 ^ b)) (bit_kept before marks_are e below))
        ∙ ap (λ (k : ℕ). tabulate (edge_count s) (copies (problem_of s) (strengths_of s strengths) k)) (sym (add-one b)))

-- ---- all bits

module _ (s : Survey) (strengths lent : List ℕ) where
  copies_long : (b : ℕ) → length (tabulate (edge_count s) (copies (problem_of s) (strengths_of s strengths) b)) ≡ edge_count s
  copies_long b = length_tabulate (edge_count s) (copies (problem_of s) (strengths_of s strengths) b)

  pub for_holds : (b : ℕ) {now : List ℕ} → now ≡ copies_for s strengths lent b → CopiedFor s strengths b now
  unfolding copies_for
  for_holds b h e below =
      ap (λ (l : List ℕ). get_or l e 0) h
      ∙ get_or-append (tabulate (edge_count s) (copies (problem_of s) (strengths_of s strengths) b)) (drop (edge_count s) lent) 0 e
      (subst (λ n. e < n) (sym (copies_long b)) below)
      ∙ get_d_tabulate (edge_count s) (copies (problem_of s) (strengths_of s strengths) b) e 0 below

  -- Written over those of fewer bits, they are written over what was lent.
  pub for_again : (b k : ℕ) {now after : List ℕ} → now ≡ copies_for s strengths lent b → after ≡ copies_for s strengths now k → after ≡ copies_for s strengths lent k
  unfolding copies_for
  for_again b k now_is h =
      h
      ∙ ap (λ (l : List ℕ). tabulate (edge_count s) (copies (problem_of s) (strengths_of s strengths) k) ++ l)
      (ap (drop (edge_count s)) now_is
      ∙ drop_at (tabulate (edge_count s) (copies (problem_of s) (strengths_of s strengths) b)) (drop (edge_count s) lent) (edge_count s) (copies_long b))

  -- What is written over itself stays.
  pub for_self : (b : ℕ) {now : List ℕ} → now ≡ copies_for s strengths lent b → now ≡ copies_for s strengths now b
  for_self b {now} h = h ∙ sym (for_again b b h refl)

  -- All.
  pub for_all : {b : ℕ} {now : List ℕ} → b ≡ strength_bits → now ≡ copies_for s strengths lent b → now ≡ copies_over s strengths lent
  unfolding copies_for copies_over copies_of
  for_all e h = h ∙ ap (λ (k : ℕ). tabulate (edge_count s) (copies (problem_of s) (strengths_of s strengths) k) ++ drop (edge_count s) lent) e

  module _ (room : edge_count s ≤ length lent) where
    pub length_for : (b : ℕ) → length (copies_for s strengths lent b) ≡ length lent
    unfolding copies_for
    length_for b =
        omega (
          arith,
          length-append (tabulate (edge_count s) (copies (problem_of s) (strengths_of s strengths) b)) (drop (edge_count s) lent),
          copies_long b,
          length-drop (edge_count s) lent,
        )

    -- None yet.
    pub for_none : {now : List ℕ} → now ≡ remade (λ e x. 0) (edge_count s) lent → now ≡ copies_for s strengths lent 0
    unfolding copies_for copies sum_below
    for_none h =
        h
        ∙ remade_front (λ e x. 0) (edge_count s) lent room
        ∙ ap (λ (l : List ℕ). l ++ drop (edge_count s) lent)
        (tabulate_cong (edge_count s) (λ e. 0) (copies (problem_of s) (strengths_of s strengths) 0) (λ e below. refl))

pub total_all : (s : Survey) (strengths : List ℕ) {b total : ℕ} → b ≡ strength_bits → total ≡ sum_below b (bit_price s strengths) → total ≡ total_price s strengths
unfolding total_price copies_of bit_price
total_all s strengths e h =
    h ∙ ap (λ (k : ℕ). sum_below k (bit_price s strengths)) e ∙ sym (copies_price (problem_of s) (strengths_of s strengths) strength_bits)
