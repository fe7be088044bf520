-- `is_parted` meets its contract: each return by where the vertex is.
use mathlib.Core.Path.{refl}
use Rattle.plan_active.specs.Laws.Merged.{parted_in, parted_out}
use Rattle.plan_active.proofs.parted.is_parted.Goals as goal

-- the vertex is in x or y
pub returns-then-own : goal.returns-then-own
returns-then-own c =
    let args = c.args in
    parted_in args.mates.now args.labels.now args.x args.y args.v refl c.at-mate.ensures refl c.at.ensures
    c.is_either-own.ensures c.at-2.ensures c.is_either-other.ensures c.if-own.true

-- it is in neither
pub returns : goal.returns
returns c =
    let args = c.args in
    parted_out args.mates.now args.labels.now args.x args.y args.v refl c.at-mate.ensures refl c.at.ensures
    c.is_either-own.ensures c.at-2.ensures c.is_either-other.ensures c.if-own.false
