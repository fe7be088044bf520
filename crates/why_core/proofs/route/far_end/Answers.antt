-- `far_end` meets its contract: the second end where the first is at hand.
use mathlib.Core.Path.{sym, ◌∙◌}
use borrow.Author.Tests.{eq-eqb, ne_eqb}
use Rattle.theory_route.specs.Route.{far_end}
use Rattle.why_core.proofs.route.far_end.Goals as goal

pub returns-then-first-v : goal.returns-then-first-v
unfolding far_end
returns-then-first-v c = rw (eq-eqb _ _ (sym c.at-first.ensures ∙ c.if-first-v.true)) c.at.ensures

pub returns : goal.returns
unfolding far_end
returns c =
    let first = c.at-first.ensures in
    rw (ne_eqb _ _ (λ same. c.if-first-v.false (first ∙ same))) first
