-- With two sites the floor is the plan's cost (document 02, No. 14: 'Where near best is best'): the bound is then twice the cost.
use Rattle.std.specs.Prelude.{◌*◌, ◌≤◌, ◌<◌, ◌≡◌}
use Rattle.std.proofs.Common.{arith}
use Rattle.theory_steiner.specs.Problem.{Joins, all_usable, cost, terminals}
use Rattle.theory_steiner.specs.Growth.{grown}
use Rattle.theory_steiner.specs.Pruning.{kept, dual_bound}
use Rattle.theory_steiner.proofs.Laws.Exact.{two_bound}
use Rattle.survey_core.specs.Survey.{Survey, vertex_count, problem_of}
use Rattle.survey_core.specs.Sound.{SurveySound}
use Rattle.survey_core.proofs.Laws.Refusal.{survey_sound}
use Rattle.plan_rule.specs.Plan.{plan_of}
use Rattle.floor_rule.specs.Floor.{floor_of}
use Rattle.floor_rule.proofs.Laws.Promise.{floor_half, floor_plan}

some : (s : Survey) → SurveySound s → 0 < (problem_of s).vertices
unfolding problem_of vertex_count
some s sound = sound.some

pub two_sites_floor : (s : Survey) → SurveySound s → Joins (problem_of s) (all_usable (problem_of s)) → terminals (problem_of s) ≡ 2 → floor_of s ≡ (plan_of (problem_of s)).cost
unfolding plan_of
two_sites_floor s sound joinable two =
    let half : dual_bound (problem_of s) (grown (problem_of s)) ≤ 2 * floor_of s = floor_half s sound joinable in
    let above : floor_of s ≤ cost (problem_of s) (kept (problem_of s)) = floor_plan s sound joinable in
    omega (arith, half, above, two_bound (problem_of s) (survey_sound s sound) (some s sound) joinable two)
