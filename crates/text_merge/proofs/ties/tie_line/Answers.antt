-- `tie_line` meets its contract: each return by its test.
use mathlib.Core.Path.{◌∙◌}
use Rattle.format_also.specs.Answer.{pair_step}
use Rattle.text_merge.specs.Laws.Ties.{line_past, line_read}
use Rattle.text_merge.proofs.ties.tie_line.Goals as goal

pub returns-then-i-ge-MAX_TIES : goal.returns-then-i-ge-MAX_TIES
unfolding pair_step
returns-then-i-ge-MAX_TIES c = line_past c.args.text.now _ _ c.if-i-ge-MAX_TIES.true

pub returns : goal.returns
returns c = c.tie_at.ensures ∙ line_read c.args.text.now _ _ c.if-i-ge-MAX_TIES.false
