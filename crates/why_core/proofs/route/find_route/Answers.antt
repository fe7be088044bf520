-- `find_route` meets its contract: a refusal stops it with nothing stored; otherwise a walk over no visited vertex stores the route, or there is none.
use mathlib.Core.Path.{refl, sym, ◌∙◌}
use lib.ListN.{length}
use borrow.Author.Rules.{rules}
use Rattle.base_limits.specs.Laws.Verdict.{written_refused, written_fine}
use Rattle.survey_core.specs.Survey.{survey_from}
use Rattle.why_core.specs.Laws.Found.{forest_sound, walk_starts, walk_ended, route_stops, route_short, route_fits}
use Rattle.why_core.proofs.route.find_route.Goals as goal

-- not a forest that joins every group
pub returns-in_default : goal.returns-in_default
returns-in_default c =
    let stop = c.in_default.is in
    let is = route_stops (survey_from c.args.groups.now c.args.firsts.now c.args.seconds.now c.args.weights.now) c.args.kept.now (length c.args.route.now) c.forest_refusal-found.ensures stop in
    record { result_value = written_refused _ _ is stop; route_value = written_refused _ _ is stop }

pub overflow_sub-n : goal.overflow_sub-n
overflow_sub-n c = let some = (forest_sound (survey_from c.args.groups.now c.args.firsts.now c.args.seconds.now c.args.weights.now) c.args.kept.now (sym c.forest_refusal-found.ensures ∙ c.in-Fine.is)).some in search (rules, some)

-- 7
pub returns-then-route-n : goal.returns-then-route-n
returns-then-route-n c =
    let is = route_short (survey_from c.args.groups.now c.args.firsts.now c.args.seconds.now c.args.weights.now) c.args.kept.now (length c.args.route.now) c.forest_refusal-found.ensures c.in-Fine.is c.if-route-n.true in
    record { result_value = written_refused _ _ is refl; route_value = written_refused _ _ is refl }

pub slice_bounds-visited-end : goal.slice_bounds-visited-end
slice_bounds-visited-end c = let few = (forest_sound (survey_from c.args.groups.now c.args.firsts.now c.args.seconds.now c.args.weights.now) c.args.kept.now (sym c.forest_refusal-found.ensures ∙ c.in-Fine.is)).few in search (rules, few)

pub walk-walked-requires : goal.walk-walked-requires
walk-walked-requires c = walk_starts (survey_from c.args.groups.now c.args.firsts.now c.args.seconds.now c.args.weights.now) c.args.kept.now (sym c.forest_refusal-found.ensures ∙ c.in-Fine.is) refl

-- arrived, or lost
pub returns : goal.returns
returns c =
    let fine = c.in-Fine.is in
    let s = survey_from c.args.groups.now c.args.firsts.now c.args.seconds.now c.args.weights.now in
    let fits = route_fits s c.args.kept.now (length c.args.route.now) c.forest_refusal-found.ensures fine c.if-route-n.false in
    let got = walk_ended s c.args.kept.now (sym c.forest_refusal-found.ensures ∙ fine) refl c.walk-walked.result c.if-route-n.false c.walk-walked.ensures in
    record { result_value = c.unwrap_or.ensures ∙ got.0 ∙ written_fine _ _ fits fine; route_value = got.1 ∙ written_fine _ _ fits fine }
