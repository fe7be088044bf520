-- `judge` meets its contract: the three counts are the definition's, and 15 decides.
use mathlib.Core.List.{[]}
use Rattle.theory_steiner.specs.Problem.{terminal, terminals, cost}
use Rattle.survey_core.specs.Survey.{survey_from, vertex_count, edge_count, member, same_group, problem_of}
use Rattle.check_core.specs.Stage.{checked_outcome}
use Rattle.check_rule.specs.Check.{checked_of}
use Rattle.check_core.specs.Laws.Stage.{judged_passed, judged_refused}
use Rattle.check_core.specs.Cost.{kept_cost_all}
use Rattle.check_core.proofs.judge.Goals as goal

pub bound-bound-requires : goal.bound-bound-requires
bound-bound-requires c = c.requires.duals

pub rule_refusal-found-requires : goal.rule_refusal-found-requires
rule_refusal-found-requires c = rw (c.terminals-terminals.ensures, kept_cost_all _ _ _ c.requires.edges_few c.kept_cost-cost.ensures, c.bound-bound.ensures) c.requires.counts

-- passed
pub returns-in-Fine : goal.returns-in-Fine
unfolding checked_outcome checked_of terminals terminal cost problem_of vertex_count edge_count same_group member
returns-in-Fine c = let args = c.args in
    let counts = checked_of (survey_from args.groups.now args.firsts.now [] args.weights.now) args.marks.now args.records.now in
    judged_passed counts c.terminals-terminals.ensures (kept_cost_all _ _ _ c.requires.edges_few c.kept_cost-cost.ensures) c.bound-bound.ensures c.rule_refusal-found.ensures c.in-Fine.is

-- 15
pub returns-in-Refused : goal.returns-in-Refused
unfolding checked_outcome checked_of terminals terminal cost problem_of vertex_count edge_count same_group member
returns-in-Refused c = let args = c.args in
    let counts = checked_of (survey_from args.groups.now args.firsts.now [] args.weights.now) args.marks.now args.records.now in
    judged_refused counts c.terminals-terminals.ensures (kept_cost_all _ _ _ c.requires.edges_few c.kept_cost-cost.ensures) c.bound-bound.ensures c.rule_refusal-found.ensures c.in-Refused.is
