-- `format_stp::free::leads_to` meets its contract: a digit of v is dropped at each turn.
use mathlib.Core.Path.{◌≡◌}
use Rattle.format_stp.specs.StpNumber.{leads_to}
use Rattle.format_stp.proofs.free.leads_to.Given as goal

abbrev pub invariant-loop-left : goal.invariant-loop-left
invariant-loop-left l = leads_to l._left l.x l.rest ≡ leads_to l.more l.x l.v
