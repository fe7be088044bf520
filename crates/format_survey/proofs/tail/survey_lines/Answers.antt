-- `format_survey::survey_lines` meets its contract: 7 where the group buffer is short, a refused group line stays, and the tail follows the group lines.
use mathlib.Core.Path.{refl, ap, sym, ◌∙◌}
use lib.Seq.{sets}
use Rattle.format_read.specs.Answer.{number_step}
use Rattle.format_also.specs.Pair.{owners_of, others_of}
use Rattle.format_survey.specs.Line.{firsts_of, seconds_of, weights_of}
use Rattle.format_survey.proofs.Laws.LinesBody.{with_short, lines_refused, lines_found}
use Rattle.format_survey.proofs.tail.survey_lines.Goals as goal

-- 7: the group buffer is short
pub returns-then-groups-vertices : goal.returns-then-groups-vertices
unfolding number_step firsts_of seconds_of weights_of owners_of others_of
returns-then-groups-vertices c =
    let a = c.args in
    let w = with_short a.room a.text.now a.vertices a.edges a.cursor.at c.if-groups-vertices.true in (
      sym (ap (λ x. x.end) w),
      sym (ap (λ x. sets a.groups.now 0 x.groups) w),
      sym (ap (λ x. sets a.firsts.now 0 (firsts_of x.edges)) w),
      sym (ap (λ x. sets a.seconds.now 0 (seconds_of x.edges)) w),
      sym (ap (λ x. sets a.weights.now 0 (weights_of x.edges)) w),
      sym (ap (λ x. sets a.owners.now 0 (owners_of x.pairs)) w),
      sym (ap (λ x. sets a.others.now 0 (others_of x.pairs)) w),
    )

-- a group line is refused
pub returns-in_default : goal.returns-in_default
unfolding number_step firsts_of seconds_of weights_of owners_of others_of
returns-in_default c =
    let a = c.args in
    let told = ap number_step c.in_default.is in
    let l = lines_refused _ a.room a.text.now a.vertices a.edges a.cursor.at c.if-groups-vertices.false (sym c.group_lines-heads.ensures.0 ∙ told) in (
      told ∙ sym l.end,
      c.group_lines-heads.ensures.1 ∙ sym (ap (sets a.groups.now 0) l.groups),
      sym (ap (λ es. sets a.firsts.now 0 (firsts_of es)) l.edges),
      sym (ap (λ es. sets a.seconds.now 0 (seconds_of es)) l.edges),
      sym (ap (λ es. sets a.weights.now 0 (weights_of es)) l.edges),
      sym (ap (λ ps. sets a.owners.now 0 (owners_of ps)) l.pairs),
      sym (ap (λ ps. sets a.others.now 0 (others_of ps)) l.pairs),
    )

-- the tail follows
pub returns : goal.returns
unfolding number_step
returns c =
    let a = c.args in
    let l = lines_found _ a.room a.text.now a.vertices a.edges a.cursor.at c.if-groups-vertices.false a.groups.now _ refl c.group_lines-heads.ensures.1 (sym c.group_lines-heads.ensures.0 ∙ ap number_step c.in-Value.is) in (
      c.tail_lines.ensures.0 ∙ sym l.end,
      c.group_lines-heads.ensures.1 ∙ sym (ap (sets a.groups.now 0) l.groups),
      c.tail_lines.ensures.1 ∙ sym (ap (λ es. sets a.firsts.now 0 (firsts_of es)) l.edges),
      c.tail_lines.ensures.2 ∙ sym (ap (λ es. sets a.seconds.now 0 (seconds_of es)) l.edges),
      c.tail_lines.ensures.3 ∙ sym (ap (λ es. sets a.weights.now 0 (weights_of es)) l.edges),
      c.tail_lines.ensures.4 ∙ sym (ap (λ ps. sets a.owners.now 0 (owners_of ps)) l.pairs),
      c.tail_lines.ensures.5 ∙ sym (ap (λ ps. sets a.others.now 0 (others_of ps)) l.pairs),
    )
