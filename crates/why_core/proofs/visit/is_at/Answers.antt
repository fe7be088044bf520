-- `is_at` meets its contract.
use mathlib.Core.Path.{sym, ◌∙◌}
use borrow.Author.Tests.{eq-eqb, ne_eqb}
use Rattle.theory_route.specs.Route.{is_end}
use Rattle.why_core.specs.Laws.Visit.{not_of_forest}
use Rattle.std.proofs.Common.{not, ap}
use Rattle.why_core.proofs.visit.is_at.Goals as goal

-- not of the forest
pub returns-then-not-is_picked : goal.returns-then-not-is_picked
returns-then-not-is_picked c = not_of_forest _ _ _ c.is_picked.ensures (ap not c.if-not-is_picked.true)

-- at its first end
pub returns-then-at-v : goal.returns-then-at-v
unfolding is_end
returns-then-at-v c = rw (sym c.is_picked.ensures ∙ c.if-not-is_picked.false, eq-eqb _ _ (sym c.at.ensures ∙ c.if-at-v.true))

-- or at its second
pub returns : goal.returns
unfolding is_end
returns c =
    rw (
      sym c.is_picked.ensures ∙ c.if-not-is_picked.false,
      ne_eqb _ _ (λ same. c.if-at-v.false (c.at.ensures ∙ same)),
      ← c.at-2.ensures,
    )
