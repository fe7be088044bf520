-- `format_read::fixed_from` meets its contract: the bytes that are left are read where the loop stands.
use mathlib.Core.Path.{◌≡◌, sym, ◌∙◌}
use lib.ListN.{drop}
use Rattle.format_read.specs.Answer.{number_step}
use Rattle.format_read.specs.Bytes.{fixed_at}
use Rattle.format_read.specs.Step.{refused}
use Rattle.format_read.proofs.Laws.Bytes.{fixed_more, fixed_short, fixed_other, fixed_done}
use Rattle.format_read.proofs.fixed_from.Goals as goal
use Rattle.format_read.proofs.fixed_from.Goals.{then-text-at-via-then-text-at}
use Rattle.format_read.proofs.fixed_from.Goals.{then-text-at-via-else-text-at+then-text-at-2}

-- the text ends, or has another byte
pub returns-then-text-at : goal.returns-then-text-at
unfolding number_step
returns-then-text-at c =
    let t = c.args.text.now in
    let bytes = c.args.bytes.now in
    let l = c.loop-b in
    let more = c.loop-b-test.true in
    let ends : fixed_at (drop l.b-index bytes) t l.at ≡ refused 16 l.at =
    elim c.then-text-at.branch [
      | then-text-at-via-then-text-at w ↦ fixed_short bytes t l.b-index l.at more w.if-text-at.true
      | then-text-at-via-else-text-at+then-text-at-2 w ↦ fixed_other bytes t l.b-index l.at more w.if-text-at-2.true
    ] in
    sym ends ∙ l.invariant

pub loop-b-preserved : goal.loop-b-preserved
loop-b-preserved c =
    let t = c.args.text.now in
    let l = c.loop-b in
    let more = c.loop-b-test.true in
    sym (fixed_more c.args.bytes.now t l.b-index l.at more c.if-text-at.false c.if-text-at-2.false) ∙ l.invariant

pub returns : goal.returns
unfolding number_step
returns c =
    let a = c.args in
    let l = c.loop-b in
    sym (fixed_done a.bytes.now a.text.now l.b-index l.at c.loop-b-test.false) ∙ l.invariant
