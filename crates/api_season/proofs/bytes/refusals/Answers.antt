-- `refusals` meets its contract: it stores at rising places.
use Prim.Native.Nat.{ℕ}
use native.Mathlib.Omega.{arith}
use mathlib.Core.Path.{refl}
use lib.ListN.{length-replicate}
use Rattle.season_rule.specs.Report.{refusal_numbers}
use Rattle.api_season.specs.Laws.Bytes.{storing_start, storing_turn, storing_end}
use Rattle.api_season.proofs.bytes.refusals.Goals as goal

pub loop-k-init : goal.loop-k-init
loop-k-init c = storing_start _ _

pub loop-k-preserved : goal.loop-k-preserved
loop-k-preserved c =
    let long = length-replicate {A = ℕ} refusal_numbers 0 in
    storing_turn _ _ c.loop-k.invariant (omega (arith, c.loop-k-test.true)) c.figure.ensures refl

pub returns : goal.returns
returns c =
    let long = length-replicate {A = ℕ} refusal_numbers 0 in
    storing_end _ _ c.loop-k.invariant (omega (arith, c.loop-k-test.false))
