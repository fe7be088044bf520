-- `write_record` meets its contract: the bytes of the set, then the value.
use mathlib.Core.Path.{ap, ◌∙◌}
use Rattle.format_record.specs.Record.{with_value}
use Rattle.plan_draw.proofs.record.write_record.Goals as goal

pub returns : goal.returns
returns c =
    let a = c.args in
    c.write_value.ensures ∙ ap (λ l. with_value l a.x) c.copy_record.ensures
