-- `given_line` meets its contract: read, then tested.
use mathlib.Core.Path.{ap, sym, ◌∙◌}
use Rattle.text_winter.specs.Given.{given_step}
use Rattle.text_winter.proofs.Laws.Given.{line_malformed, line_refused, line_fine}
use Rattle.text_winter.proofs.given.given_line.Goals as goal

-- malformed
pub returns-in_default : goal.returns-in_default
unfolding given_step
returns-in_default c =
    let a = c.args in
    let told = c.in_default.is in
    ap given_step told ∙ sym (line_malformed a.text.now a.low a.cursor.at (sym c.given_at-line.ensures ∙ ap given_step told))

-- it passes
pub returns-in-Fine : goal.returns-in-Fine
unfolding given_step
returns-in-Fine c =
    let a = c.args in
    let told = c.in-Given.is in
    sym (line_fine a.text.now a.low a.cursor.at (sym c.given_at-line.ensures ∙ ap given_step told) (sym c.given_test.ensures ∙ c.in-Fine.is))

-- 24
pub returns-in-Refused : goal.returns-in-Refused
unfolding given_step
returns-in-Refused c =
    let a = c.args in
    let told = c.in-Given.is in
    sym (line_refused a.text.now a.low a.cursor.at (sym c.given_at-line.ensures ∙ ap given_step told) (sym c.given_test.ensures ∙ c.in-Refused.is))
