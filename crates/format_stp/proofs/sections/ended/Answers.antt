-- `format_stp::sections::ended` meets its contract: the end is looked for behind the empty lines.
use Prim.Native.Nat.{ℕ}
use mathlib.Core.Path.{ap, sym, ◌∙◌}
use Rattle.format_read.specs.Bytes.{end_at}
use Rattle.format_read.proofs.Laws.Bytes.{end_here, end_later}
use Rattle.format_read.specs.Answer.{number_step}
use Rattle.format_stp.specs.StpWord.{after_empty}
use Rattle.format_stp.proofs.sections.ended.Goals as goal

-- something stands there
pub returns-then-at-text : goal.returns-then-at-text
unfolding number_step after_empty
returns-then-at-text c = sym (end_later c.args.text.now _ c.if-at-text.true) ∙ ap (λ (k : ℕ). end_at c.args.text.now k) c.skip-last.ensures

pub returns : goal.returns
unfolding number_step after_empty
returns c = sym (end_here c.args.text.now _ c.if-at-text.false) ∙ ap (λ (k : ℕ). end_at c.args.text.now k) c.skip-last.ensures
