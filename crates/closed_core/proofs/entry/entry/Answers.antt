-- `entry` meets its contract: 19 (`entry_unknown`), a track that the whole plan does not pick (`entry_unpicked`), any other (`left_out_asked`).
use mathlib.Core.Path.{refl}
use native.Mathlib.Omega.{arith}
use mathlib.Core.Path.{ap, sym, ◌∙◌}
use lib.ListN.{replicate}
use Rattle.base_limits.specs.Limits.{max_edges}
use Rattle.plan_rule.specs.Figures.{figured_outcome}
use Rattle.closed_rule.specs.Closed.{closed_outcome}
use Rattle.closed_core.specs.Laws.Entry.{entry_unknown, entry_unpicked}
use Rattle.closed_core.specs.Laws.LeftOut.{left_out_asked}
use Rattle.closed_core.proofs.entry.entry.Goals as goal

-- 19
pub returns-then-firsts-c : goal.returns-then-firsts-c
unfolding closed_outcome
returns-then-firsts-c c = entry_unknown _ refl c.if-firsts-c.true

-- not picked
pub returns-in-Finished : goal.returns-in-Finished
unfolding closed_outcome figured_outcome
returns-in-Finished c =
    entry_unpicked _ _ c.if-firsts-c.false (record { own_byte = λ v. omega (arith, c.shared_slice_known-1.given v); other_byte = λ i. omega (arith, c.shared_slice_known-6-1.given i) }) c.requires.survey_sound refl (replicate max_edges 0) c.requires.whole_value
    (ap figured_outcome c.in-Finished.is) c.requires.marks_value (sym c.is_picked.ensures ∙ c.if-not-is_picked.true)

pub answer_without-requires : goal.answer_without-requires
answer_without-requires c = record { survey_sound = c.requires.survey_sound; c_in_bounds = c.if-firsts-c.false }

-- planned anew
pub returns : goal.returns
returns c = left_out_asked _ c.requires.survey_sound refl c.if-firsts-c.false c.answer_without.ensures
