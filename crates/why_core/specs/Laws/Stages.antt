-- The refusals as the code finds them, one after the other: v is the survey's, x that of the lists, y that of the track.
use Rattle.std.specs.Prelude.{ℕ, ◌-◌, ◌≤◌, ◌<◌, ◌≡◌, List, length, leb}
use Rattle.std.proofs.Math.Path.{ap, sym}
use Rattle.std.proofs.Common.{◌∙◌, lt-ltb, le-ltb}
use Rattle.base_limits.specs.Verdict.{refuse_if, ◌before◌}
use Rattle.base_limits.specs.declared.Verdict.{Verdict}
use Rattle.base_limits.specs.declared.Verdict.TheVariants.{Fine, Refused}
use Rattle.base_limits.specs.Laws.Verdict.{before_fine, before_refused, refuse_true, refuse_false, passed_on, goes_on_law}
use Rattle.theory_steiner.specs.Problem.{all_usable}
use Rattle.survey_core.specs.Survey.{Survey, vertex_count, edge_count, problem_of}
use Rattle.survey_core.specs.Refusal.{survey_refusal, group_refusal}
use Rattle.survey_components.specs.Labels.{chosen}
use Rattle.survey_components.specs.declared.Chosen.TheVariants.{All}
use Rattle.plan_rule.proofs.Laws.Ready.{groups_of_all}
use Rattle.why_rule.specs.Why.{why_refusal}

module _ (s : Survey) (route_length e : ℕ) {v : Verdict} (v_is : v ≡ survey_refusal s) where
  -- 1 to 6 and 18
  pub survey_stops : {number place : ℕ} → v ≡ Refused number place → v ≡ why_refusal s route_length e
  unfolding why_refusal
  survey_stops h = passed_on v_is h _

  module _ (fine : v ≡ Fine) where
    -- 7
    pub route_stops : route_length < length s.groups - 1 → Refused 7 0 ≡ why_refusal s route_length e
    unfolding why_refusal vertex_count
    route_stops h = goes_on_law v_is fine (sym (before_refused (refuse_true (lt-ltb route_length (length s.groups - 1) h) 7 0) _))

    -- 8, then 19
    pub lists_decide : (marks : List ℕ) {x y z : Verdict} → length s.groups - 1 ≤ route_length → x ≡ (survey_refusal s before group_refusal s 8 (chosen All marks))
        → y ≡ refuse_if (leb (length s.firsts) e) 19 e → z ≡ (x before y) → z ≡ why_refusal s route_length e
    unfolding why_refusal vertex_count edge_count
    lists_decide marks {x} {y} fits x_is y_is z_is =
        let lists : x ≡ group_refusal s 8 (all_usable (problem_of s)) = x_is ∙ before_fine (sym v_is ∙ fine) _ ∙ sym (groups_of_all s 8 marks) in
        goes_on_law v_is fine
        (z_is
        ∙ ap (λ (w : Verdict). w before y) lists
        ∙ ap (λ (w : Verdict). group_refusal s 8 (all_usable (problem_of s)) before w) y_is
        ∙ sym (before_fine (refuse_false (le-ltb route_length (length s.groups - 1) fits) 7 0) _))
