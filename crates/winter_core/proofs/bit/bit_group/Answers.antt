-- `bit_group` meets its contract: the group, or none.
use mathlib.Core.Path.{sym, ◌∙◌}
use Rattle.winter_core.proofs.Laws.Bit.{group_carried, group_lacking}
use Rattle.winter_core.proofs.bit.bit_group.Goals as goal

pub returns-then-carries : goal.returns-then-carries
returns-then-carries c =
    let a = c.args in
    sym (group_carried a.strengths.now a.bit a.group (sym c.carries.ensures ∙ c.if-carries.true))

pub returns : goal.returns
returns c =
    let a = c.args in
    sym (group_lacking a.strengths.now a.bit a.group (sym c.carries.ensures ∙ c.if-carries.false))
