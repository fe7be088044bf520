-- The ends of an edge by the tables of a round, and the delay between them (laws of `plan_rounds` say that it is the definition's).
use Rattle.std.specs.Prelude.{ℕ, ◌+◌, ◌*◌, ◌-◌, cond, List, get_or, eqb, Option, Some, None}
use Rattle.theory_steiner.specs.Growth.{ActiveEnds, none_active, one_active, both_active, Delay, never, after, delay_of, Winner, nobody, edge}
use Rattle.plan_search.specs.Held.{settled_by}
use Rattle.plan_search.specs.declared.delay.End.{End}
use Rattle.plan_search.specs.declared.delay.ActiveEnds.{ActiveEnds as CodeEnds}
use Rattle.plan_search.specs.declared.delay.ActiveEnds.TheVariants.{Neither, One, Both}
use Rattle.plan_search.specs.declared.delay.Winner.{Winner as CodeWinner}

-- The definition's delay, case and winner that the code's answers are.
unfoldable pub delay_in : Option ℕ → Delay
delay_in None = never
delay_in (Some d) = after d

unfoldable pub ends_in : CodeEnds → ActiveEnds
ends_in Neither = none_active
ends_in One = one_active
ends_in Both = both_active

unfoldable pub winner_in : Option CodeWinner → Winner
winner_in None = nobody
winner_in (Some w) = edge w.e w.d

-- The end of an edge at vertex v: by the component numbers, what is held for the loads, and 1 for each active component number.
unfoldable pub vertex_end : (labels loads flags : List ℕ) → (time v : ℕ) → End
vertex_end labels loads flags time v =
    let c = get_or labels v 0 in
    record { label = c; flag = get_or flags c 0; load = settled_by time (eqb (get_or flags c 0) 1) (get_or loads v 0) }

-- What remains of an edge of weight w between two ends.
unfoldable pub slack_between : (a b : End) → (w : ℕ) → ℕ
slack_between a b w = 2 * w - (a.load + b.load)

-- Its delay; inside a component there is none.
unfoldable pub delay_between : (a b : End) → (w : ℕ) → Delay
delay_between a b w = cond (eqb a.label b.label) never (delay_of (eqb a.flag 1) (eqb b.flag 1) (slack_between a b w))
