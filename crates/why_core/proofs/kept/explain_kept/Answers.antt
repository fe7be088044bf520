-- `explain_kept` meets its contract: the pair and the route are those that its calls find.
use Rattle.std.proofs.Common.{◌≡◌, ℕ, min, arith, sym, ⊎_elim}
use Rattle.base_finite.specs.Laws.Below.{lt_or_ge}
use Rattle.base_limits.specs.Limits.{max_edges}
use Rattle.why_core.specs.Kept.{held_marks}
use Rattle.why_core.specs.Parted.{least_mark}
use Rattle.why_core.specs.Laws.Held.{held_many, held_few, held_le, but_long}
use Rattle.why_core.specs.Laws.Answer.{kept_found}
use borrow.Author.Rules.{rules}
use Rattle.why_core.proofs.kept.explain_kept.Goals as goal

-- as many of m marks as there is room for
held_min : (m : ℕ) {r : ℕ} → r ≡ min m max_edges → r ≡ held_marks m
held_min m r_is =
    ⊎_elim
    (λ b. let h = held_many m b in omega arith)
    (λ b. let h = held_few m b in omega arith)
    (lt_or_ge max_edges m)

pub slice_bounds-parted_pair-end : goal.slice_bounds-parted_pair-end
slice_bounds-parted_pair-end c = sym (but_long _ _ _ _ c.marks_but-rest.ensures)

pub slice_bounds-find_route-end : goal.slice_bounds-find_route-end
slice_bounds-find_route-end c = let few = held_le _ (held_min _ c.min-size.ensures) in search (rules, few)

pub returns : goal.returns
unfolding least_mark
returns c =
    kept_found _ _ _ _ _ _ c.marks_but-rest.ensures c.parted_pair-pair.ensures c.marks_but-kept.ensures (held_min _ c.min-size.ensures) c.find_route-entries.ensures.result_value c.find_route-entries.ensures.route_value c.kept_answer.ensures
