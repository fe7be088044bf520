-- `edge_fault` meets its contract: its four tests, one after the other.
use mir.Val.{bool_byte}
use mathlib.Core.Path.{refl, ◌∙◌}
use Rattle.std.specs.Prelude.{◌≡◌, Bool, true, false}
use Rattle.base_finite.specs.Below.{counted}
use Rattle.survey_refusal.specs.Fault.{faulty}
use Rattle.survey_refusal.specs.Laws.Fault.{or_counted}
use Rattle.survey_refusal.proofs.fault.edge_fault.Goals as goal

as_counted : (t : Bool) → bool_byte t ≡ counted t 1
unfolding counted
as_counted true = refl
as_counted false = refl

pub returns : goal.returns
unfolding faulty
returns c =
    or_counted _ _
    (or_counted _ _
    (or_counted _ _ (c.from.ensures ∙ as_counted _) (c.from-2.ensures ∙ as_counted _))
    (c.from-3.ensures ∙ as_counted _))
    (c.from-4.ensures ∙ as_counted _)
