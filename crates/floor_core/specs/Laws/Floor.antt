-- The floor that the call answers, of the plan's figures and the ascent.
use Rattle.std.specs.Prelude.{ℕ, ◌+◌, ◌/◌, ◌%◌, ◌≤◌, ◌<◌, ◌≡◌}
use Rattle.std.proofs.Common.{arith, sym, ◌∙◌, subst, lt-ltb, le-ltb}
use Rattle.std.proofs.Math.Path.{ap}
use Rattle.base_limits.specs.Verdict.{Outcome, refusal, answer, outcome}
use Rattle.base_limits.specs.declared.Verdict.TheVariants.{Fine}
use Rattle.base_limits.specs.Laws.Verdict.{answer_fine, refusal_found}
use Rattle.survey_core.specs.Survey.{Survey, problem_of}
use Rattle.survey_core.specs.Sound.{ByteGroups, SurveySound}
use Rattle.plan_rule.specs.Plan.{plan_of}
use Rattle.plan_rule.specs.Figures.{figures_refusal, FigureCounts, figure_counts_of, figuring, figured_outcome}
use Rattle.plan_rule.specs.declared.Figured.{Figured}
use Rattle.plan_rule.specs.declared.Figured.TheVariants.{Finished, Refused}
use Rattle.floor_rule.specs.Floor.{greater, half_up, ascent_of, floor_of, FloorCounts, floor_counts_of, flooring}
use Rattle.floor_rule.specs.Promise.{FloorPromises}
use Rattle.floor_rule.proofs.Laws.Promise.{fine_floorable, floor_promises}

half_sum : (b : ℕ) → b / 2 + b % 2 ≡ half_up b
unfolding half_up
half_sum b = omega arith

pub greater_half : (ascent b : ℕ) {half : ℕ} → half ≡ b / 2 + b % 2 → ascent < half → half ≡ greater ascent (half_up b)
unfolding greater
greater_half ascent b half_is h =
    let c : ascent < half_up b = omega (arith, half_is, half_sum b, h) in rw (lt-ltb ascent (half_up b) c) (half_is ∙ half_sum b)

pub greater_ascent : (ascent b : ℕ) {half : ℕ} → half ≡ b / 2 + b % 2 → half ≤ ascent → ascent ≡ greater ascent (half_up b)
unfolding greater
greater_ascent ascent b half_is h = let c : half_up b ≤ ascent = omega (arith, half_is, half_sum b, h) in rw (le-ltb ascent (half_up b) c)

module _ (s : Survey) {figured : Figured} (is : figured_outcome figured ≡ figuring s) where
  module _ {terminals cost bound rounds : ℕ} (told : figured ≡ Finished terminals cost bound rounds) where
    found : (figures_refusal s ≡ Fine) × (figure_counts_of (plan_of (problem_of s)) ≡ record { terminals = terminals; cost = cost; bound = bound; rounds = rounds })
    unfolding figuring figured_outcome
    found = answer_fine (figures_refusal s) (figure_counts_of (plan_of (problem_of s))) (record { terminals = terminals; cost = cost; bound = bound; rounds = rounds }) (sym is ∙ ap figured_outcome told)

    pub figured_sound : ByteGroups s → SurveySound s
    figured_sound numbered = (fine_floorable s numbered found.0).survey

    pub floor_finished : {ascent floor : ℕ} → ascent ≡ ascent_of s → floor ≡ greater ascent (half_up bound)
        → answer (record { floor = floor; terminals = terminals; cost = cost; bound = bound }) ≡ flooring s
    unfolding flooring floor_counts_of floor_of figure_counts_of outcome
    floor_finished {ascent} {floor} ascent_is floor_is =
        let b : bound ≡ (plan_of (problem_of s)).bound = ap (λ (f : FigureCounts). f.bound) (sym found.1) in
        let k : terminals ≡ (plan_of (problem_of s)).terminals = ap (λ (f : FigureCounts). f.terminals) (sym found.1) in
        let c : cost ≡ (plan_of (problem_of s)).cost = ap (λ (f : FigureCounts). f.cost) (sym found.1) in
        let g : floor ≡ greater (ascent_of s) (half_up (plan_of (problem_of s)).bound) =
        floor_is ∙ ap (λ x. greater x (half_up bound)) ascent_is ∙ ap (λ x. greater (ascent_of s) (half_up x)) b in
        (λ i. answer (record { floor = g i; terminals = k i; cost = c i; bound = b i }))
        ∙ ap (λ v. outcome v (floor_counts_of s)) (sym found.0)

  pub floor_refused : {number place : ℕ} → figured ≡ Refused number place → refusal number place ≡ flooring s
  unfolding figuring figured_outcome flooring outcome
  floor_refused told =
      let v = refusal_found (figures_refusal s) (figure_counts_of (plan_of (problem_of s))) (sym is ∙ ap figured_outcome told) in
      ap (λ w. outcome w (floor_counts_of s)) (sym v)

-- What is promised of the definition is promised of the answer.
pub floor_promised : (s : Survey) → ByteGroups s → {o : Outcome FloorCounts} → o ≡ flooring s → FloorPromises s o
floor_promised s numbered h = subst (FloorPromises s) (sym h) (floor_promises s numbered)
