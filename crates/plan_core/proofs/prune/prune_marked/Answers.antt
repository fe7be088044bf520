-- `prune_marked` meets its contract: what is found of the poured groups is said of the lists (`judged_verdict`), and the marks are the same (`judged_marks`).
use mathlib.Core.Path.{sym, ◌∙◌}
use native.Mathlib.Omega.{arith}
use Rattle.survey_lists.proofs.Laws.Room.{part_poured}
use Rattle.check_core.specs.Cost.{kept_cost_all}
use Rattle.plan_core.specs.Laws.Picks.{picks_taken, judged_verdict, judged_marks, refused_answer, finished_answer}
use Rattle.plan_core.proofs.prune.prune_marked.Goals as goal

pub prune_picks-pruned-requires : goal.prune_picks-pruned-requires
prune_picks-pruned-requires c =
    picks_taken _ _ c.requires c.kept_picks-all.ensures (record { own_byte = λ v. omega (arith, c.shared_slice_known-1.given v); other_byte = λ i. omega (arith, c.shared_slice_known-6-1.given i) }) (part_poured _ c.requires.survey.few c.pour-poured.ensures)

pub list_refusal-found-requires : goal.list_refusal-found-requires
list_refusal-found-requires c = c.requires.survey

-- 21 or 14
pub returns-in-Refused : goal.returns-in-Refused
returns-in-Refused c =
    let part = part_poured _ c.requires.survey.few c.pour-poured.ensures in record { result_value = refused_answer _ _ (judged_verdict _ _ c.requires c.kept_picks-all.ensures (record { own_byte = λ v. omega (arith, c.shared_slice_known-1.given v); other_byte = λ i. omega (arith, c.shared_slice_known-6-1.given i) }) part c.prune_picks-pruned.ensures.result_value c.list_refusal-found.ensures) c.in-Refused.is; marks_value = judged_marks _ _ c.requires c.kept_picks-all.ensures (record { own_byte = λ v. omega (arith, c.shared_slice_known-1.given v); other_byte = λ i. omega (arith, c.shared_slice_known-6-1.given i) }) part c.prune_picks-pruned.ensures.result_value c.prune_picks-pruned.ensures.marks_value }

-- the marks that are left
pub returns : goal.returns
returns c =
    let part = part_poured _ c.requires.survey.few c.pour-poured.ensures in
    let verdict = judged_verdict _ _ c.requires c.kept_picks-all.ensures (record { own_byte = λ v. omega (arith, c.shared_slice_known-1.given v); other_byte = λ i. omega (arith, c.shared_slice_known-6-1.given i) }) part c.prune_picks-pruned.ensures.result_value c.list_refusal-found.ensures in
    let left = judged_marks _ _ c.requires c.kept_picks-all.ensures (record { own_byte = λ v. omega (arith, c.shared_slice_known-1.given v); other_byte = λ i. omega (arith, c.shared_slice_known-6-1.given i) }) part c.prune_picks-pruned.ensures.result_value c.prune_picks-pruned.ensures.marks_value in record {
      result_value = finished_answer _ _ c.requires c.kept_picks-all.ensures (record { own_byte = λ v. omega (arith, c.shared_slice_known-1.given v); other_byte = λ i. omega (arith, c.shared_slice_known-6-1.given i) }) part (sym verdict ∙ c.in_default.is) left c.terminals-terminals.ensures
          (kept_cost_all _ _ _ c.requires.survey.edges_few c.kept_cost-cost.ensures);
      marks_value = left;
    }
