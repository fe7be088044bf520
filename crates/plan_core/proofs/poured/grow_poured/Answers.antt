-- `grow_poured` meets its contract: each call leaves its part of what growing leaves.
use Rattle.std.proofs.Common.{◌≡◌, ℕ, zero, suc, ◌≤◌, min, List, [], ◌∷◌, ◌++◌, length, get_or, take, drop, arith, refl, ap, sym, ◌∙◌}
use native.Mathlib.Numerals.{unary_clauses}
use Rattle.base_buffer.specs.Store.{remade}
use Rattle.base_finite.specs.Laws.Below.{length_tabulate}
use Rattle.base_limits.specs.Limits.{max_vertices, max_edges, max_duals}
use Rattle.plan_core.proofs.poured.grow_poured.Goals as goal

-- the front is copied, and the rest stays
copied : (m : ℕ) (picked marks : List ℕ) → m ≤ length picked
    → take (min m (length marks)) picked ++ drop (min m (length marks)) marks ≡ remade (λ e mark. get_or picked e 0) m marks
unfolding remade
copied zero picked marks h = simp unary_clauses
copied (suc m) picked [] h = simp unary_clauses
copied (suc m) [] (x ∷ marks) h = absurd (omega arith)
copied (suc m) (p ∷ picked) (x ∷ marks) h = simp unary_clauses (ap (λ l. p ∷ l) (copied m picked marks (omega arith)))

pub grow_rounds-grown-requires : goal.grow_rounds-grown-requires
grow_rounds-grown-requires c = record { survey_sound = c.requires; values_value = (refl, refl, refl) }

pub slice_bounds-draw-end : goal.slice_bounds-draw-end
slice_bounds-draw-end c = sym (ap length c.grow_rounds-grown.ensures.values_are ∙ length_tabulate max_duals _)

pub slice_bounds-draw-end-2 : goal.slice_bounds-draw-end-2
slice_bounds-draw-end-2 c = sym (ap length c.grow_rounds-grown.ensures.order_is ∙ length_tabulate max_vertices _)

-- the growth, marks, records, counts
pub returns : goal.returns
returns c =
    record {
      growth = _;
      grew = c.grow_rounds-grown.ensures;
      marks_are =
          let few = c.requires.edges_few in
          let long = ap length c.grow_rounds-grown.ensures.picked_are ∙ length_tabulate max_edges _ in
          rw (c.copy_from_slice.ensures.after, c.min-m.ensures) (copied _ _ _ (omega arith));
      records_are = c.draw-duals.ensures.written;
      counts_are = rw (← c.terminals-terminals.ensures, ← c.draw-duals.ensures.count) c.grown_counts.ensures;
    }
