-- `format_stp::head::skip` meets its contract: what is left of the empty lines ends where all of them end.
use native.Mathlib.Omega.{arith}
use mathlib.Core.Path.{◌≡◌, ◌∙◌, refl}
use Rattle.format_stp.proofs.Laws.HeadTurn.{skip_on, skip_stop, skip_end}
use Rattle.format_stp.proofs.head.skip.Goals as goal

pub loop-at-init : goal.loop-at-init
loop-at-init c = record { rest = refl; upto = omega arith }

pub returns-then-text-at-ne10 : goal.returns-then-text-at-ne10
returns-then-text-at-ne10 c = skip_stop c.args.text.now c.loop-at.at c.if-text-at-ne10.true ∙ c.loop-at.invariant.rest

pub loop-at-preserved : goal.loop-at-preserved
loop-at-preserved c = record {
  rest = skip_on c.args.text.now c.loop-at.at c.loop-at-test.true c.if-text-at-ne10.false ∙ c.loop-at.invariant.rest;
  upto = omega arith;
}

pub returns : goal.returns
returns c =
    let e : c.max.result ≡ c.loop-at.at = omega arith in
    e ∙ skip_end c.args.text.now c.loop-at.at c.loop-at-test.false ∙ c.loop-at.invariant.rest
