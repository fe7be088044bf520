-- `walk` meets its contract: the vertex is visited first, and each edge that leaves it is tried.
use Rattle.std.proofs.Common.{◌<◌, refl, sym, ◌∙◌, subst, arith}
use Rattle.why_core.specs.Walk.{unvisited}
use Rattle.why_core.specs.Laws.Walk.{is_free_law, visit_made, walk_refused, walk_here, walk_falls, walk_next, far_below, walking_start, walking_skip, walking_lost, walking_stored, walking_end}
use Rattle.why_core.proofs.route.+walk.Goals as goal
use Rattle.why_core.proofs.route.+walk.Goals.{then-is_at+in_default, else-is_at}

-- visited before
pub returns-then-not-visit : goal.returns-then-not-visit
returns-then-not-visit t c = walk_refused c.args.visited.now c.args.v c.visit.ensures.value c.visit.ensures.visited_value c.if-not-visit.true

-- there
pub returns-then-v-goal : goal.returns-then-v-goal
returns-then-v-goal t c =
    walk_here c.args.v (is_free_law c.args.visited.now c.args.v c.visit.ensures.value c.visit.ensures.visited_value c.if-not-visit.false) c.if-v-goal.true

pub loop-e-init : goal.loop-e-init
loop-e-init t c = (walking_start _, refl)

pub overflow_add-depth : goal.overflow_add-depth
overflow_add-depth t c =
    let free = is_free_law c.args.visited.now c.args.v c.visit.ensures.value c.visit.ensures.visited_value c.if-not-visit.false in
    let made = visit_made c.args.visited.now c.args.v c.visit.ensures.value c.visit.ensures.visited_value c.if-not-visit.false in
    let k = walk_falls c.args.visited.now c.args.v free made c.loop-e.invariant.0.explored in
    let f = c.requires.fits in omega arith

-- fewer are unvisited
pub walk-walked-requires : goal.walk-walked-requires
walk-walked-requires t c =
    let free = is_free_law c.args.visited.now c.args.v c.visit.ensures.value c.visit.ensures.visited_value c.if-not-visit.false in
    let made = visit_made c.args.visited.now c.args.v c.visit.ensures.value c.visit.ensures.visited_value c.if-not-visit.false in (
      subst (λ j. unvisited c.loop-e.visited < j) c.decreases (walk_falls c.args.visited.now c.args.v free made c.loop-e.invariant.0.explored),
      walk_next c.args.visited.now c.args.v free made c.loop-e.invariant.0.explored c.requires,
    )

-- there by this edge
pub returns-in-Some : goal.returns-in-Some
returns-in-Some t c =
    let free = is_free_law c.args.visited.now c.args.v c.visit.ensures.value c.visit.ensures.visited_value c.if-not-visit.false in
    let made = visit_made c.args.visited.now c.args.v c.visit.ensures.value c.visit.ensures.visited_value c.if-not-visit.false in
    walking_stored free made c.loop-e.invariant (sym c.is_at.ensures ∙ c.if-is_at.true) c.far_end-next.ensures c.walk-walked.ensures c.in-Some.is c.put.ensures refl

pub loop-e-preserved : goal.loop-e-preserved
loop-e-preserved t c =
    let made = visit_made c.args.visited.now c.args.v c.visit.ensures.value c.visit.ensures.visited_value c.if-not-visit.false in
    elim c.if-is_at.branch [
      | then-is_at+in_default w ↦
          let lost = walking_lost c.loop-e.invariant.0 c.loop-e-test.true w.far_end-next.ensures (far_below c.args.v c.requires made c.loop-e.invariant.0.explored c.loop-e-test.true) w.walk-walked.ensures w.in_default.is in
          (rw w.visited-is lost.0, w.route-is ∙ lost.1 ∙ c.loop-e.invariant.1)
      | else-is_at w ↦
          (rw w.visited-is (walking_skip c.loop-e.invariant.0 c.loop-e-test.true c.is_at.ensures w.if-is_at.false), w.route-is ∙ c.loop-e.invariant.1)
    ]

-- no edge leads there
pub returns : goal.returns
returns t c =
    let free = is_free_law c.args.visited.now c.args.v c.visit.ensures.value c.visit.ensures.visited_value c.if-not-visit.false in
    let made = visit_made c.args.visited.now c.args.v c.visit.ensures.value c.visit.ensures.visited_value c.if-not-visit.false in
    walking_end free made c.if-v-goal.false c.requires.bounded c.loop-e.invariant.0 c.loop-e-test.false c.loop-e.invariant.1
