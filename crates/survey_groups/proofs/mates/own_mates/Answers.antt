-- `own_mates` meets its contract: the call at each place gives the place.
use native.Mathlib.Omega.{arith}
use mathlib.Core.Path.{sym, ◌∙◌}
use Rattle.std.specs.Prelude.{◌<◌}
use Rattle.std.proofs.Common.{ext_get_or}
use Rattle.base_finite.specs.Below.{tabulate}
use Rattle.base_finite.specs.Laws.Below.{length_tabulate, get_d_tabulate}
use Rattle.base_limits.specs.Limits.{max_vertices}
use Rattle.survey_groups.proofs.mates.own_mates.Goals as goal

pub returns : goal.returns
returns c =
    let items = c.from_fn.ensures.items in
    ext_get_or 0 c.from_fn.result (tabulate max_vertices (λ v. v)) (items.long ∙ sym (length_tabulate max_vertices (λ v. v)))
    (λ i b.
    let below : i < max_vertices = omega (arith, items.long) in
    let call = (items.at i 0 below).2.met in
    omega (arith, get_d_tabulate max_vertices (λ v. v) i 0 below))
