-- `merge` meets its contract: the labels, then the three flags.
use mathlib.Core.Path.{refl}
use Rattle.plan_active.specs.Laws.Merged.{flags_by}
use Rattle.plan_active.proofs.merge.Goals as goal

pub returns : goal.returns
returns c =
    let args = c.args in record {
      labels_value = c.relabel_first.ensures;
      flags_value = flags_by args.flags.now args.x args.y args.z args.flag c.put.ensures c.put-2.ensures c.put-3.ensures
          refl refl refl;
    }
