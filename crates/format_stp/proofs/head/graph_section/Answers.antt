-- `format_stp::head::graph_section` meets its contract: the letter decides.
use mathlib.Core.Path.{sym, ◌∙◌}
use Rattle.format_read.specs.Answer.{number_step}
use Rattle.format_stp.proofs.Laws.HeadTurn.{section_comment, section_graph, section_other}
use Rattle.format_stp.proofs.head.graph_section.Goals as goal

pub returns-then-letter-eq67 : goal.returns-then-letter-eq67
returns-then-letter-eq67 c =
    let a = c.args in
    c.comment_section.ensures ∙ sym (section_comment a.text.now a.cursor.at (sym c.at-letter.ensures ∙ c.if-letter-eq67.true))

pub returns-then-letter-eq71 : goal.returns-then-letter-eq71
returns-then-letter-eq71 c =
    let a = c.args in
    c.fixed.ensures ∙ sym (section_graph a.text.now a.cursor.at (sym c.at-letter.ensures ∙ c.if-letter-eq71.true))

pub returns : goal.returns
unfolding number_step
returns c =
    let a = c.args in
    sym (section_other a.text.now a.cursor.at (λ q. c.if-letter-eq67.false (c.at-letter.ensures ∙ q)) (λ q. c.if-letter-eq71.false (c.at-letter.ensures ∙ q)))
