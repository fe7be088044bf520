-- `format_also::test::pair_test` meets its contract: each test decides a case of the definition.
use native.Mathlib.Omega.{arith}
use Prim.Native.Nat.{ℕ, ◌≤◌, ◌<◌}
use mathlib.Core.Path.{sym, ◌∙◌, subst}
use Rattle.format_also.specs.Pair.{pair_of, rank}
use Rattle.format_also.specs.Laws.Tests.{also_high, also_out, also_none, also_own, also_falls, also_full, also_fine}
use Rattle.format_also.proofs.test.pair_test.Goals as goal

-- 17: no group
pub returns-then-other-ge-GROUPS : goal.returns-then-other-ge-GROUPS
returns-then-other-ge-GROUPS c =
    let a = c.args in
    sym (also_high a.groups.now a.room a.low a.i (pair_of a.owner a.other) c.if-other-ge-GROUPS.true)

-- 18: no vertex
pub returns-then-groups-place : goal.returns-then-groups-place
returns-then-groups-place c =
    let a = c.args in
    sym (also_out a.groups.now a.room a.low a.i (pair_of a.owner a.other) c.if-other-ge-GROUPS.false c.if-groups-place.true)

-- 18: no group given
pub returns-then-other-eq0 : goal.returns-then-other-eq0
returns-then-other-eq0 c =
    let a = c.args in
    sym (also_none a.groups.now a.room a.low a.i (pair_of a.owner a.other) c.if-other-ge-GROUPS.false c.if-groups-place.false c.if-other-eq0.true)

-- 18: the own group
pub returns-then-other-own : goal.returns-then-other-own
returns-then-other-own c =
    let a = c.args in
    let own = c.from-own.ensures ∙ c.at.ensures in
    sym (also_own a.groups.now a.room a.low a.i (pair_of a.owner a.other) c.if-other-ge-GROUPS.false c.if-groups-place.false c.if-other-eq0.false (c.if-other-own.true ∙ own))

-- 18: the pair does not rise
pub returns-then-above-low : goal.returns-then-above-low
returns-then-above-low c =
    let a = c.args in
    let own = c.from-own.ensures ∙ c.at.ensures in
    let h = c.if-above-low.true in
    let e = c.rank-above.ensures in
    let falls : rank (pair_of a.owner a.other) ≤ a.low = omega arith in
    sym (also_falls a.groups.now a.room a.low a.i (pair_of a.owner a.other) c.if-other-ge-GROUPS.false c.if-groups-place.false c.if-other-eq0.false (λ e. c.if-other-own.false (e ∙ sym own)) falls)

-- 7: no room for the pair
pub returns-then-room-i : goal.returns-then-room-i
returns-then-room-i c =
    let a = c.args in
    let own = c.from-own.ensures ∙ c.at.ensures in
    sym (also_full a.groups.now a.room a.low a.i (pair_of a.owner a.other) c.if-other-ge-GROUPS.false c.if-groups-place.false c.if-other-eq0.false (λ e. c.if-other-own.false (e ∙ sym own)) (subst (λ (k : ℕ). a.low < k) c.rank-above.ensures c.if-above-low.false) c.if-room-i.true)

-- the pair passes
pub returns : goal.returns
returns c =
    let a = c.args in
    let own = c.from-own.ensures ∙ c.at.ensures in
    sym (also_fine a.groups.now a.room a.low a.i (pair_of a.owner a.other) c.if-other-ge-GROUPS.false c.if-groups-place.false c.if-other-eq0.false (λ e. c.if-other-own.false (e ∙ sym own)) (subst (λ (k : ℕ). a.low < k) c.rank-above.ensures c.if-above-low.false) c.if-room-i.false)
