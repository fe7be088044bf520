-- `is_apart` meets its contract.
use mathlib.Core.Path.{sym, ◌∙◌}
use Rattle.why_core.specs.Laws.Member.{labels_apart}
use Rattle.std.proofs.Common.{not, ap}
use Rattle.why_core.proofs.pair.is_apart.Goals as goal

pub returns-then-not-is_member : goal.returns-then-not-is_member
returns-then-not-is_member c = rw (sym c.is_member.ensures ∙ c.if-not-is_member.true)

pub returns : goal.returns
returns c =
    let args = c.args in
    labels_apart _ _ _ args.labels.now args.u c.is_member.ensures (ap not c.if-not-is_member.false) c.at.ensures c.at-2.ensures
