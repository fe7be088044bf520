-- `format_stp::read_lines` meets its contract: the first pass over the tracks stores nothing, and the second stores where all is read.
use mathlib.Core.List.{List}
use mathlib.Core.Path.{ap, sym, ◌∙◌}
use Prim.Native.Nat.{ℕ}
use lib.Seq.{sets}
use Rattle.format_read.proofs.Laws.Step.{then_found, then_refused}
use Rattle.format_read.specs.Answer.{number_step}
use Rattle.format_survey.specs.Line.{firsts_of, seconds_of, weights_of}
use Rattle.format_stp.specs.StpReading.{stp_edges}
use Rattle.format_stp.proofs.Laws.Lines.{lines_early, lines_late, lines_said, said_found, said_refused, kept_by_law, stored_by_law, pass_nothing, groups_kept, groups_made}
use Rattle.format_stp.proofs.read_lines.Goals as goal

-- a track is refused
pub returns-in_default : goal.returns-in_default
unfolding number_step
returns-in_default c =
    let a = c.args in
    let told = ap number_step c.in_default.is in
    let es = stp_edges a.vertices a.text.now a.edges a.cursor.at in
    let l = lines_early a.vertices a.edges a.text.now a.cursor.at (sym c.edge_lines-tracks.ensures.0 ∙ told) in (
      told ∙ sym (then_refused _ l),
      kept_by_law _ a.groups.now l,
      pass_nothing (firsts_of es.values) a.firsts.now c.edge_lines-tracks.ensures.1 ∙ kept_by_law _ a.firsts.now l,
      pass_nothing (seconds_of es.values) a.seconds.now c.edge_lines-tracks.ensures.2 ∙ kept_by_law _ a.seconds.now l,
      pass_nothing (weights_of es.values) a.weights.now c.edge_lines-tracks.ensures.3 ∙ kept_by_law _ a.weights.now l,
    )

-- a line behind the tracks is refused
pub returns-in_default-last : goal.returns-in_default-last
unfolding number_step
returns-in_default-last c =
    let a = c.args in
    let told = ap number_step c.in_default-last.is in
    let es = stp_edges a.vertices a.text.now a.edges a.cursor.at in
    let r = said_refused (sym c.terminals-last.ensures.0 ∙ told) in
    let l = lines_late a.vertices a.edges a.text.now a.cursor.at (sym c.edge_lines-tracks.ensures.0 ∙ ap number_step c.in-Value.is) r in (
      told ∙ sym (then_refused _ l),
      c.terminals-last.ensures.1 ∙ groups_kept a.groups.now r ∙ kept_by_law _ a.groups.now l,
      pass_nothing (firsts_of es.values) a.firsts.now c.edge_lines-tracks.ensures.1 ∙ kept_by_law _ a.firsts.now l,
      pass_nothing (seconds_of es.values) a.seconds.now c.edge_lines-tracks.ensures.2 ∙ kept_by_law _ a.seconds.now l,
      pass_nothing (weights_of es.values) a.weights.now c.edge_lines-tracks.ensures.3 ∙ kept_by_law _ a.weights.now l,
    )

-- all is read
pub returns : goal.returns
unfolding number_step
returns c =
    let a = c.args in
    let es = stp_edges a.vertices a.text.now a.edges a.cursor.at in
    let told = ap number_step c.in-Value-last.is in
    let r = said_found (sym c.terminals-last.ensures.0 ∙ told) in
    let l = lines_said a.vertices a.edges a.text.now a.cursor.at (sym c.edge_lines-tracks.ensures.0 ∙ ap number_step c.in-Value.is) r.is in (
      c.terminals-last.ensures.0 ∙ then_found _ r.is ∙ sym (then_found _ l),
      c.terminals-last.ensures.1 ∙ groups_made a.groups.now r.is ∙ stored_by_law (λ x. x.groups) a.groups.now l,
      c.edge_lines.ensures.1 ∙ ap (λ (o : List ℕ). sets o 0 (firsts_of es.values)) (pass_nothing (firsts_of es.values) a.firsts.now c.edge_lines-tracks.ensures.1) ∙ stored_by_law (λ x. firsts_of x.lines) a.firsts.now l,
      c.edge_lines.ensures.2 ∙ ap (λ (o : List ℕ). sets o 0 (seconds_of es.values)) (pass_nothing (seconds_of es.values) a.seconds.now c.edge_lines-tracks.ensures.2) ∙ stored_by_law (λ x. seconds_of x.lines) a.seconds.now l,
      c.edge_lines.ensures.3 ∙ ap (λ (o : List ℕ). sets o 0 (weights_of es.values)) (pass_nothing (weights_of es.values) a.weights.now c.edge_lines-tracks.ensures.3) ∙ stored_by_law (λ x. weights_of x.lines) a.weights.now l,
    )
