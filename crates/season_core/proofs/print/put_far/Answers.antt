-- `put_far`: none, or the three numbers.
use mathlib.Core.Path.{ap, sym}
use Rattle.format_write.proofs.Laws.Wrote.{wrote_as}
use Rattle.season_rule.specs.Text.{far_key, none_word, far_line}
use Rattle.season_core.proofs.print.put_far.Goals as goal

-- none
pub returns-in-Nothing : goal.returns-in-Nothing
unfolding far_key none_word far_line
returns-in-Nothing c =
    wrote_as c.put_bytes.ensures (sym (ap far_line c.in-Nothing.is))

-- a plan
pub returns-in-At : goal.returns-in-At
unfolding far_line
returns-in-At c =
    wrote_as c.put_at.ensures (sym (ap far_line c.in-At.is))
