-- What is answered for a survey, by what is answered for its poured lists. `sound_answer` and its parts cite it.
use Rattle.std.specs.Prelude.{ℕ, false}
use Rattle.std.proofs.Common.{arith}
use Rattle.std.proofs.Math.Path.{◌≡◌, refl, ap}
use mathlib.Core.List.{List, []}
use Rattle.base_limits.specs.Verdict.{Outcome, refusal, answer}
use Rattle.survey_core.specs.Survey.{Survey, survey_from, lists_of}
use Rattle.survey_core.specs.Sound.{SurveySound}
use Rattle.survey_lists.specs.Pouring.{poured_groups}
use Rattle.plan_rule.specs.Figures.{FigureCounts, figuring}
use Rattle.plan_core.specs.Planned.{joinable, figures_joined}
use Rattle.plan_core.specs.Laws.Figures.{lists_parted, figures_finished}
use Rattle.closed_rule.specs.Closed.{ClosedCounts}
use Rattle.closed_core.specs.LeftOut.{closed_of}

refused_by : (o : Outcome FigureCounts) {number place : ℕ} → closed_of o ≡ refusal number place → o ≡ refusal number place
unfolding closed_of
refused_by (refusal a b) h = λ i. refusal (number_of_law (h i)) (place_of (h i))
  where
    number_of_law : Outcome ClosedCounts → ℕ
    number_of_law (refusal n q) = n
    number_of_law (answer f) = a

    place_of : Outcome ClosedCounts → ℕ
    place_of (refusal n q) = q
    place_of (answer f) = b
refused_by (answer f) h = absurd (let z : ◌≡◌ {A = ℕ} 0 1 = cc in omega arith)

module _ (s : Survey) (sound : SurveySound s) {part : List ℕ} (part_is : part ≡ poured_groups (lists_of s)) where
  abbrev into : Survey
  into = survey_from part s.firsts s.seconds s.weights

  -- 8
  pub answer_parted : {number place : ℕ} → closed_of (figures_joined into) ≡ refusal number place → joinable s ≡ false
  answer_parted h = lists_parted s sound part_is refl (refused_by (figures_joined into) h)

  finished_by : (f : Outcome FigureCounts) → f ≡ figures_joined into → {c : ClosedCounts} → closed_of f ≡ answer c → closed_of f ≡ closed_of (figuring s)
  unfolding closed_of
  finished_by (refusal a b) f_is h = absurd (let z : ◌≡◌ {A = ℕ} 0 1 = cc in omega arith)
  finished_by (answer f) f_is h = ap closed_of (figures_finished s sound part_is [] f_is refl refl).0

  -- cost and bound
  pub answer_finished : {c : ClosedCounts} → closed_of (figures_joined into) ≡ answer c → closed_of (figures_joined into) ≡ closed_of (figuring s)
  answer_finished h = finished_by (figures_joined into) refl h
