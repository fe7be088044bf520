-- `put_record` meets its contract: a record in its part of the buffer.
use mathlib.Core.Path.{ap, ◌∙◌}
use Rattle.format_record.specs.Record.{with_value}
use Rattle.plan_draw.proofs.Laws.Members.{copied_whole, place_long, put_whole}
use Rattle.plan_draw.proofs.append.put_record.Goals as goal

pub returns : goal.returns
returns c =
    let a = c.args in
    let whole = copied_whole a.set.now _ c.write_record-arg-2-1.given (place_long a.k a.records.now c.requires.room) in
    put_whole a.k a.records.now (c.write_record.ensures ∙ ap (λ l. with_value l a.x) whole)
