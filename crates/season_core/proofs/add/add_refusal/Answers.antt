-- `add_refusal` meets its contract.
use native.Mathlib.Omega.{arith}
use mathlib.Core.Path.{sym, ap, ◌∙◌}
use Rattle.season_core.specs.Room.{count_refusal}
use Rattle.season_core.specs.Laws.Room.{count_refusal_law, count_fits, unchanged, refusal_after}
use Rattle.season_core.proofs.add.add_refusal.Goals as goal

-- 3
pub returns-in_default : goal.returns-in_default
returns-in_default c =
    let r = c.args.report in
    let found = c.count_refusal-found.ensures ∙ ap (count_refusal r.surveys) c.at-count.ensures ∙ count_refusal_law _ _ _ in
    record { verdict_value = found; report_value = unchanged _ _ found c.in_default.is }

pub overflow_add-count : goal.overflow_add-count
overflow_add-count c =
    omega (arith, (count_fits c.count_refusal-found.ensures c.in-Fine.is).count_fits)

pub overflow_add-next : goal.overflow_add-next
overflow_add-next c =
    omega (arith, (count_fits c.count_refusal-found.ensures c.in-Fine.is).surveys_few)

pub returns : goal.returns
returns c =
    let r = c.args.report in
    let found = c.count_refusal-found.ensures ∙ ap (count_refusal r.surveys) c.at-count.ensures ∙ count_refusal_law _ _ _ in
    let fine = c.in-Fine.is in
    record { verdict_value = sym fine ∙ found; report_value = refusal_after _ _ _ found fine c.at-count.ensures c.put.ensures }
