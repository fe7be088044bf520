-- `taken_words` meets its contract: after e edges the buffers are those of the definition.
use Rattle.std.proofs.Common.{ℕ, sym, refl, ◌∙◌, arith}
use lib.ListN.{length-replicate}
use Rattle.base_finite.specs.Laws.Below.{count_le}
use Rattle.base_limits.specs.Limits.{max_vertices}
use Rattle.base_buffer.proofs.Laws.Store.{remade_table, replicate_table}
use Rattle.survey_components.specs.Labels.{picked_in}
use Rattle.plan_drop.specs.Laws.Word.{count_start, next_index}
use Rattle.plan_drop.specs.Laws.Taken.{taken_none, taken_more, labels_long, words_long, taken_end}
use Rattle.plan_drop.proofs.taken.taken_words.Goals as goal

pub loop-e-init : goal.loop-e-init
loop-e-init c =
    let none = taken_none max_vertices _ _ _ _ (c.own_labels.ensures ∙ remade_table (λ v x. v) max_vertices _ (λ v. v) (length-replicate {A = ℕ} max_vertices 0) (λ v b. refl)) (replicate_table max_vertices 0) in
    (count_start _, none.0, none.1)

pub slice_bounds-take_edge-end : goal.slice_bounds-take_edge-end
slice_bounds-take_edge-end c = sym (labels_long max_vertices _ _ _ _ _ c.loop-e.invariant.1)

pub slice_bounds-take_edge-end-in-loop-e : goal.slice_bounds-take_edge-end-in-loop-e
slice_bounds-take_edge-end-in-loop-e c = sym (words_long max_vertices _ _ _ _ _ c.loop-e.invariant.2)

pub take_edge-i-requires : goal.take_edge-i-requires
take_edge-i-requires c =
    omega (arith, count_le c.loop-e.e (picked_in c.args.picked.now))

pub loop-e-preserved : goal.loop-e-preserved
loop-e-preserved c =
    let inv = c.loop-e.invariant in
    let more = taken_more max_vertices _ _ _ _ _ inv.0 inv.1 inv.2 c.take_edge-i.ensures in
    (next_index _ _ inv.0 c.take_edge-i.ensures.index, more.0, more.1)

pub returns : goal.returns
returns c = taken_end max_vertices _ _ _ _ _ _ c.loop-e.auto.e-end c.loop-e-test.false c.loop-e.invariant.2
