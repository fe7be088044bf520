-- `wake_ends` meets its contract: part after part.
use Rattle.std.proofs.Common.{◌≡◌, ◌+◌, ◌-◌, ◌*◌, ◌/◌, ◌<◌, ◌≤◌, ℕ, List, Bool, true, false, cond, ltb, min, refl, arith}
use borrow.Author.Tests.{ltb-false}
use Rattle.plan_search.proofs.Laws.Min.{min_second}
use Rattle.plan_wake.specs.Wake.{KeyNotes, least_of, part_end, wake_edges}
use Rattle.plan_wake.specs.Laws.Loops.{Within, WakingParts, parts_start, parts_more, parts_end, least_le, part_within}
use Rattle.plan_wake.proofs.ends.wake_ends.Goals as goal

min_least : (m k : ℕ) → min m k ≡ least_of m k
unfolding least_of
min_least m k = min_second m k

-- A whole part ends where the part that begins there ends.
whole_end : (from least : ℕ) → from + wake_edges ≤ least → from + wake_edges ≡ part_end from least
unfolding part_end
whole_end from least b = by (ltb wake_edges (least - from)) refl
  where
    by : (t : Bool) → ltb wake_edges (least - from) ≡ t → from + wake_edges ≡ cond t (from + wake_edges) least
    by true h = refl
    by false h = let l = ltb-false wake_edges (least - from) h in omega arith

whole_within : (least part : ℕ) → part < least / wake_edges → Within (wake_edges * part) (wake_edges * part + wake_edges) least
whole_within least part b = part_within (wake_edges * part) least (omega arith) (whole_end (wake_edges * part) least (omega arith))

at_same : {wakes : ℕ → Bool} {fresh : ℕ → ℕ} {s : KeyNotes} {least a b : ℕ} {keys floors : List ℕ} → a ≡ b → WakingParts wakes fresh s least a keys floors
    → WakingParts wakes fresh s least b keys floors
at_same e h = rw e at h

pub loop-part-init : goal.loop-part-init
loop-part-init c = parts_start _ _ _ _

pub loop-part-preserved : goal.loop-part-preserved
loop-part-preserved c =
    at_same (omega arith)
    (parts_more c.loop-part.invariant _ (whole_within _ _ (omega (arith, c.min-parts.ensures, c.loop-part-test.true))) c.wake_part.ensures)

pub returns : goal.returns
returns c =
    parts_end
    (at_same (omega (arith, c.loop-part-test.false, c.loop-part.auto.part-end)) c.loop-part.invariant)
    _
    (least_le _ _ (min_least _ _)).0
    c.wake_edges.ensures
