-- `mark_but` meets its contract: each return by its test.
use mathlib.Core.Path.{sym, ◌∙◌}
use Rattle.why_core.specs.Laws.PartedFound.{not_among, left_out_law, marked_two}
use Rattle.why_core.proofs.parted.mark_but.Goals as goal

pub returns-then-e-out : goal.returns-then-e-out
returns-then-e-out c = left_out_law _ _ _ _ c.if-e-out.true

pub returns-then-is_among : goal.returns-then-is_among
returns-then-is_among c = marked_two _ _ _ _ c.at.ensures (sym c.is_among.ensures ∙ c.if-is_among.true) c.if-e-out.false

pub returns : goal.returns
returns c = not_among _ _ _ _ c.at.ensures (sym c.is_among.ensures ∙ c.if-is_among.false)
