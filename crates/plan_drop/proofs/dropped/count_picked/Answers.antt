-- `count_picked` meets its contract: it counts the edges that pass.
use Rattle.std.proofs.Common.{◌∙◌, arith, rules, tests}
use Rattle.std.proofs.lemmas.Iterator.{YieldsList-from_range}
use Rattle.std.proofs.lemmas.Iterator.Consumers.{YieldsList-from_filter, count_from_yields_List}
use Rattle.survey_components.specs.Labels.{picked_in}
use Rattle.plan_drop.specs.Laws.Dropped.{filter_counts}
use Rattle.plan_drop.proofs.dropped.count_picked.Goals as goal

pub returns : goal.returns
returns c =
    let m = c.args.m in
    let picks = picked_in c.args.picked.now in
    count_from_yields_List c.filter.result c.count.result c.count.ensures.ran
    (YieldsList-from_filter _ picks (YieldsList-from_range 0 m m (cc) (omega arith)) c.filter.ensures.closure (λ x b q k. search (rules, tests)))
    ∙ filter_counts m picks
