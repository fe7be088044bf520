-- `note_edges` meets its contract: it counts upwards, modulo 2^32, and after e edges the buffers are those of the definition.
use Rattle.std.proofs.Common.{◌≡◌, ℕ, ◌+◌, ◌%◌, ◌^◌, Bool, true, false, cond, length, sym, refl, ap, ◌∙◌, add-one, arith}
use Rattle.base_finite.specs.Below.{counted, sum_below, count_below}
use Rattle.base_finite.specs.Laws.Below.{sum_suc}
use Rattle.survey_components.specs.Labels.{picked_in}
use Rattle.plan_drop.specs.Laws.Peel.{edges_none, edges_more, edges_end}
use Rattle.plan_drop.proofs.peel.note_edges.Goals as goal

counts : (t : Bool) (x : ℕ) → cond t ((x % 2 ^ 32 + 1) % 2 ^ 32) (x % 2 ^ 32) ≡ (x + counted t 1) % 2 ^ 32
unfolding counted
counts true x = omega arith
counts false x = omega arith

more : (e : ℕ) (F : ℕ → Bool) {i next : ℕ} → i ≡ count_below e F % 2 ^ 32 → next ≡ cond (F e) ((i + 1) % 2 ^ 32) i → next ≡ count_below (e + 1) F % 2 ^ 32
unfolding count_below
more e F h k = k ∙ rw h (counts (F e) _) ∙ ap (λ x. x % 2 ^ 32) (sym (ap (λ n. sum_below n (λ i. counted (F i) 1)) (add-one e) ∙ sum_suc e (λ i. counted (F i) 1)))

pub loop-e-init : goal.loop-e-init
unfolding count_below sum_below
loop-e-init c = (refl, sym (edges_none _ _ _ _))

pub loop-e-preserved : goal.loop-e-preserved
loop-e-preserved c =
    let inv = c.loop-e.invariant in
    (more _ _ inv.0 c.note_edge-i.ensures.value, edges_more _ _ _ _ _ inv.0 inv.1 c.note_edge-i.ensures.marks_value)

pub returns : goal.returns
returns c =
    let args = c.args in
    let last : c.loop-e.e ≡ length args.firsts.now = omega arith in
    record { value = c.loop-e.invariant.0 ∙ ap (λ n. count_below n (picked_in args.picked.now) % 2 ^ 32) last; marks_value = edges_end _ _ _ _ _ _ c.loop-e.auto.e-end c.loop-e-test.false c.loop-e.invariant.1 }
