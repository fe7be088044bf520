-- `format_survey::tail::tail_lines` meets its contract: a refused also line stays, the edge lines follow the also lines, and the number of pairs is handed on.
use mathlib.Core.Path.{ap, sym, ◌∙◌}
use lib.Seq.{sets}
use Rattle.format_read.proofs.Laws.Step.{then_found, then_refused}
use Rattle.format_read.specs.Answer.{number_step}
use Rattle.format_survey.specs.Line.{firsts_of, seconds_of, weights_of, tail_at}
use Rattle.format_survey.proofs.Laws.LinesBody.{tail_refused, tail_found}
use Rattle.format_survey.proofs.tail.tail_lines.Goals as goal

-- an also line is refused
pub returns-in_default : goal.returns-in_default
unfolding number_step tail_at firsts_of seconds_of weights_of
returns-in_default c =
    let a = c.args in
    let told = ap number_step c.in_default.is in
    let l = tail_refused a.room a.text.now a.groups.now a.edges a.cursor.at (sym c.pair_lines-also.ensures.0 ∙ told) in (
      told ∙ sym l.0,
      sym (ap (λ es. sets a.firsts.now 0 (firsts_of es)) l.1),
      sym (ap (λ es. sets a.seconds.now 0 (seconds_of es)) l.1),
      sym (ap (λ es. sets a.weights.now 0 (weights_of es)) l.1),
      c.pair_lines-also.ensures.1,
      c.pair_lines-also.ensures.2,
    )

-- an edge line is refused
pub returns-in_default-links : goal.returns-in_default-links
unfolding number_step tail_at
returns-in_default-links c =
    let a = c.args in
    let told = ap number_step c.in_default-links.is in
    let l = tail_found a.room a.text.now a.groups.now a.edges a.cursor.at (sym c.pair_lines-also.ensures.0 ∙ ap number_step c.in-Value.is) in (
      told ∙ sym (l.0 ∙ then_refused _ (sym c.edge_lines-links.ensures.0 ∙ told)),
      c.edge_lines-links.ensures.1 ∙ sym (ap (λ es. sets a.firsts.now 0 (firsts_of es)) l.1),
      c.edge_lines-links.ensures.2 ∙ sym (ap (λ es. sets a.seconds.now 0 (seconds_of es)) l.1),
      c.edge_lines-links.ensures.3 ∙ sym (ap (λ es. sets a.weights.now 0 (weights_of es)) l.1),
      c.pair_lines-also.ensures.1,
      c.pair_lines-also.ensures.2,
    )

-- all lines are read
pub returns : goal.returns
unfolding number_step tail_at
returns c =
    let a = c.args in
    let l = tail_found a.room a.text.now a.groups.now a.edges a.cursor.at (sym c.pair_lines-also.ensures.0 ∙ ap number_step c.in-Value.is) in (
      sym (l.0 ∙ then_found _ (sym c.edge_lines-links.ensures.0 ∙ ap number_step c.in-Value-links.is)),
      c.edge_lines-links.ensures.1 ∙ sym (ap (λ es. sets a.firsts.now 0 (firsts_of es)) l.1),
      c.edge_lines-links.ensures.2 ∙ sym (ap (λ es. sets a.seconds.now 0 (seconds_of es)) l.1),
      c.edge_lines-links.ensures.3 ∙ sym (ap (λ es. sets a.weights.now 0 (weights_of es)) l.1),
      c.pair_lines-also.ensures.1,
      c.pair_lines-also.ensures.2,
    )
