-- `format_stp::free::leads_to` meets its contract: a digit of v is dropped at each turn.
use mathlib.Core.Path.{◌∙◌, sym, refl}
use Rattle.format_stp.proofs.Laws.Turn.{leads_there, leads_on_law, leads_last}
use Rattle.format_stp.proofs.free.leads_to.Goals as goal

pub returns-then-x-rest : goal.returns-then-x-rest
returns-then-x-rest c =
    sym (leads_there c.loop-left._left c.args.x c.loop-left.rest c.loop-left-test.true c.if-x-rest.true) ∙ c.loop-left.invariant

pub loop-left-preserved : goal.loop-left-preserved
loop-left-preserved c =
    sym (leads_on_law c.loop-left._left c.args.x c.loop-left.rest c.loop-left-test.true c.if-x-rest.false) ∙ c.loop-left.invariant

pub returns : goal.returns
returns c =
    sym (leads_last c.loop-left._left c.args.x c.loop-left.rest c.loop-left-test.false) ∙ c.loop-left.invariant
