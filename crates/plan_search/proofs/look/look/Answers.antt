-- `look` meets its contract: what it reads of the edge is what the tables say of it.
use Rattle.plan_search.specs.Tables.{tables_from}
use Rattle.plan_search.proofs.Laws.Scan.{capped_small}
use Rattle.plan_search.proofs.Laws.Tables.{best_read, keys_read}
use Rattle.plan_search.proofs.look.look.Goals as goal

pub note_edge-requires : goal.note_edge-requires
note_edge-requires c = capped_small _ c.capped_time-capped.ensures

pub returns : goal.returns
returns c =
    let args = c.args in
    let tables = tables_from args.firsts.now args.seconds.now args.weights.now args.labels.now args.loads.now args.flags.now in
    let capped = c.capped_time-capped.ensures in
    let u = c.at-a.ensures in
    let v = c.at-b.ensures in
    let a = c.end_at-first.ensures in
    let b = c.end_at-second.ensures in
    let w = c.at.ensures in
    record { result_value = best_read tables _ _ capped u v a b w _ c.note_edge.ensures.result_value; keys_value = keys_read tables _ _ capped u v a b w args.keys.now c.note_edge.ensures.keys_value }
