-- `shown`: half the bound is compared.
use Prim.Native.Nat.{ℕ, ◌/◌}
use mathlib.Core.Bool.{Bool, true, false}
use mathlib.Core.Path.{◌≡◌, refl, ◌∙◌}
use borrow.Author.Tests.{leb-true, leb-false}
use lib.Dec.{leb}
use mir.Val.{bool_byte}
use Rattle.format_plan.specs.Remark.{shown}
use Rattle.format_plan.proofs.Laws.Remark.{half_shows, half_hides}
use Rattle.format_plan.proofs.remark.shown.Goals as goal

of_half : (c b : ℕ) (t : Bool) → leb c (b / 2) ≡ t → bool_byte t ≡ shown c b
of_half c b true e = half_shows c b (leb-true c (b / 2) e)
of_half c b false e = half_hides c b (leb-false c (b / 2) e)

pub returns : goal.returns
returns c = c.from.ensures ∙ of_half _ _ _ refl
