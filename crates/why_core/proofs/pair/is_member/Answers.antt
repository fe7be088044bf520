-- `is_member` meets its contract.
use mathlib.Core.Path.{◌∙◌}
use Rattle.survey_core.specs.Lists.{lists_from}
use Rattle.why_core.specs.Laws.Member.{no_list, by_pairs, by_group}
use Rattle.why_core.proofs.pair.is_member.Goals as goal

pub returns-then-g-eq0 : goal.returns-then-g-eq0
returns-then-g-eq0 c = no_list (lists_from _ _ _) _ _ c.if-g-eq0.true

pub returns-then-is_paired : goal.returns-then-is_paired
returns-then-is_paired c = by_pairs _ _ _ _ _ c.if-g-eq0.false c.is_paired.ensures c.if-is_paired.true

pub returns : goal.returns
returns c = by_group _ _ _ _ _ c.if-g-eq0.false c.is_paired.ensures c.if-is_paired.false (c.from.ensures ∙ c.at.ensures)
