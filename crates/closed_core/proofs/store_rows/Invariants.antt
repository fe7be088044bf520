-- `store_rows` meets its contract: one more row in each turn (`rows_more`).
use Prim.Native.Nat.{◌≤◌, ◌-◌}
use mathlib.Core.Path.{◌≡◌}
use lib.ListN.{length}
use Rattle.survey_core.specs.Survey.{survey_with}
use Rattle.closed_core.specs.LeftOut.{rows_over}
use Rattle.closed_core.proofs.store_rows.Given as goal

abbrev pub invariant-loop-i : goal.invariant-loop-i
invariant-loop-i l =
    (l.i ≤ length l.tracks) × (l.res ≡ rows_over (survey_with l.groups l.firsts l.seconds l.weights l.owners l.others) l.tracks l.initial.res l.i)
