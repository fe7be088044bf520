-- `is_alone` meets its contract: before each turn the edges below e have passed.
use Rattle.std.specs.Int.{from_bool}
use Rattle.base_finite.specs.Below.{counted}
use Rattle.std.proofs.Common.{◌≡◌, ℕ, ◌+◌, Bool, length, sym, ◌∙◌, arith}
use Rattle.base_finite.specs.Laws.Below.{count_le, counted_le}
use Rattle.survey_components.specs.Labels.{picked_in}
use Rattle.plan_drop.specs.Laws.Word.{count_start, next_index}
use Rattle.plan_drop.specs.Laws.Dropped.{bool_counts}
use Rattle.plan_drop.specs.Laws.Alone.{alone_none, alone_more, alone_end, alone_fails}
use Rattle.plan_drop.proofs.sides.is_alone.Goals as goal

pub loop-e-init : goal.loop-e-init
loop-e-init c = (count_start _, alone_none _ _ _ _ _)

-- an edge that fails
pub returns-then-not-is_own : goal.returns-then-not-is_own
returns-then-not-is_own c =
    let args = c.args in
    sym
    (alone_fails _ _ _ _ _ (length args.firsts.now) c.loop-e.e (omega arith)
    (rw (← c.loop-e.invariant.0) (sym c.is_own.ensures ∙ c.if-not-is_own.true)))

-- one index more, if the edge is picked
next : (F : Bool) (i : ℕ) {one : ℕ} {t : Bool} → t ≡ F → one ≡ from_bool t → i + one ≡ i + counted F 1
next F i e o = rw (o, e, bool_counts F)

pub overflow_add-i : goal.overflow_add-i
overflow_add-i c =
    let one = next (picked_in c.args.picked.now c.loop-e.e) c.loop-e.i c.is_picked.ensures c.from-i.ensures in
    omega (arith, count_le c.loop-e.e (picked_in c.args.picked.now), counted_le (picked_in c.args.picked.now c.loop-e.e) 1)

pub loop-e-preserved : goal.loop-e-preserved
loop-e-preserved c = (
  next_index _ _ c.loop-e.invariant.0 (next _ _ c.is_picked.ensures c.from-i.ensures),
  alone_more _ _ _ _ _ _ c.loop-e.invariant.1
      (rw (← c.loop-e.invariant.0) (sym c.is_own.ensures ∙ c.if-not-is_own.false)),
)

-- none
pub returns : goal.returns
returns c = sym (alone_end _ _ _ _ _ _ _ c.loop-e.auto.e-end c.loop-e-test.false c.loop-e.invariant.1)
