-- `format_stp::read_stp` meets its contract, by the cases of the counts and of the lines behind them.
use mathlib.Core.Path.{ap, sym, ◌∙◌}
use Rattle.base_limits.specs.Verdict.{answer}
use Rattle.format_read.specs.Step.{stopped}
use Rattle.format_read.specs.Answer.{number_step}
use Rattle.format_survey.proofs.Laws.Reading.{buffer_kept}
use Rattle.format_survey.specs.LinesAnswer.{counts_step}
use Rattle.format_survey.specs.Line.{SurveyCounts, firsts_of, seconds_of, weights_of}
use Rattle.format_stp.specs.StpReading.{stp_outcome}
use Rattle.format_stp.specs.Answer.{stp_answer, stp_counts_of}
use Rattle.format_stp.proofs.Laws.Lines.{said_found, said_refused}
use Rattle.format_stp.proofs.Laws.StpParts.{stp_refused, stp_stopped, stp_found, stp_fits, buffer_none, buffer_all}
use Rattle.format_stp.proofs.Laws.Promises.{promised}
use Rattle.format_stp.specs.Promises.{stp_buffers}
use Rattle.format_stp.proofs.read_stp.Goals as goal

-- the counts are refused
pub returns-in_default : goal.returns-in_default
unfolding stp_answer stp_counts_of counts_step stopped stp_outcome
returns-in_default c =
    let a = c.args in
    let told = c.in_default.is in
    let r = stp_refused a.text.now a.groups.now a.firsts.now a.seconds.now a.weights.now (sym c.counts-head.ensures ∙ ap counts_step told) in
    let counts = c.stopped_counts.ensures ∙ ap (λ x. stp_outcome (stopped {B = SurveyCounts} (counts_step x))) told ∙ sym (ap stp_counts_of r) in
    let gs = buffer_kept (λ x. x.groups) a.groups.now r in
    let fs = buffer_kept (λ x. firsts_of x.lines) a.firsts.now r in
    let ss = buffer_kept (λ x. seconds_of x.lines) a.seconds.now r in
    let ws = buffer_kept (λ x. weights_of x.lines) a.weights.now r in
    record { result_value = counts; groups_value = gs; firsts_value = fs; seconds_value = ss; weights_value = ws; promises = promised a.text.now (stp_buffers a.groups.now a.firsts.now a.seconds.now a.weights.now) counts gs fs ss ws }

-- a line is refused
pub returns-in_default-lines : goal.returns-in_default-lines
unfolding stp_answer stp_counts_of counts_step number_step stopped stp_outcome
returns-in_default-lines c =
    let a = c.args in
    let told = c.in_default-lines.is in
    let b = said_refused (sym c.read_lines-lines.ensures.0 ∙ ap number_step told) in
    let e = sym c.counts-head.ensures ∙ ap counts_step c.in-Counts.is in
    let r = stp_stopped a.text.now a.groups.now a.firsts.now a.seconds.now a.weights.now e b in
    let counts = c.stopped_lines.ensures ∙ ap (λ x. stp_outcome (stopped {B = SurveyCounts} (number_step x))) told ∙ sym (ap stp_counts_of r) in
    let gs = c.read_lines-lines.ensures.1 ∙ buffer_none (λ x. x.groups) a.groups.now r b in
    let fs = c.read_lines-lines.ensures.2 ∙ buffer_none (λ x. firsts_of x.lines) a.firsts.now r b in
    let ss = c.read_lines-lines.ensures.3 ∙ buffer_none (λ x. seconds_of x.lines) a.seconds.now r b in
    let ws = c.read_lines-lines.ensures.4 ∙ buffer_none (λ x. weights_of x.lines) a.weights.now r b in
    record { result_value = counts; groups_value = gs; firsts_value = fs; seconds_value = ss; weights_value = ws; promises = promised a.text.now (stp_buffers a.groups.now a.firsts.now a.seconds.now a.weights.now) counts gs fs ss ws }

-- all is read
pub returns : goal.returns
unfolding stp_answer stp_counts_of counts_step number_step
returns c =
    let a = c.args in
    let b = said_found (sym c.read_lines-lines.ensures.0 ∙ ap number_step c.in-Value.is) in
    let e = sym c.counts-head.ensures ∙ ap counts_step c.in-Counts.is in
    let r = stp_found a.text.now a.groups.now a.firsts.now a.seconds.now a.weights.now e b.is in
    let fit = stp_fits a.text.now a.groups.now a.firsts.now a.seconds.now a.weights.now e b.is in
    let counts = sym (ap stp_counts_of r ∙ (λ i. answer (record { vertices = fit.0 i; edges = fit.1 i }))) in
    let gs = c.read_lines-lines.ensures.1 ∙ buffer_all (λ x. x.groups) a.groups.now r b.is fit.2.groups in
    let fs = c.read_lines-lines.ensures.2 ∙ buffer_all (λ x. firsts_of x.lines) a.firsts.now r b.is fit.2.firsts in
    let ss = c.read_lines-lines.ensures.3 ∙ buffer_all (λ x. seconds_of x.lines) a.seconds.now r b.is fit.2.seconds in
    let ws = c.read_lines-lines.ensures.4 ∙ buffer_all (λ x. weights_of x.lines) a.weights.now r b.is fit.2.weights in
    record { result_value = counts; groups_value = gs; firsts_value = fs; seconds_value = ss; weights_value = ws; promises = promised a.text.now (stp_buffers a.groups.now a.firsts.now a.seconds.now a.weights.now) counts gs fs ss ws }
