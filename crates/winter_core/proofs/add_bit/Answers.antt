-- `add_bit` meets its contract: what the bit's plan keeps is copied (`copies_more`), at its price (`bit_price_law`).
use Prim.Native.Nat.{ℕ}
use mathlib.Core.Path.{refl, sym, ◌∙◌}
use lib.ListN.{replicate}
use Rattle.base_limits.specs.Limits.{max_edges}
use Rattle.survey_core.specs.Survey.{survey_with, edge_count}
use Rattle.winter_core.proofs.Laws.Copies.{marks_long, bit_cost, times_few, bit_price_law, copies_fit, copies_more}
use borrow.Author.Rules.{rules}
use Rattle.winter_core.proofs.add_bit.Goals as goal

pub plan_bit-figures-requires : goal.plan_bit-figures-requires
plan_bit-figures-requires c =
    record { survey_sound = c.requires.winter_ready.survey; bit_lt_strength_bits = c.requires.bit_lt_strength_bits }

pub slice_bounds-add_kept-end : goal.slice_bounds-add_kept-end
slice_bounds-add_kept-end c =
    let a = c.args in
    let s = survey_with a.groups.now a.firsts.now a.seconds.now a.weights.now a.owners.now a.others.now in
    sym (marks_long s c.requires.byte_groups a.strengths.now c.requires.winter_ready a.bit c.plan_bit-figures.ensures.marks_value)

pub add_kept-requires : goal.add_kept-requires
unfolding edge_count
add_kept-requires c =
    let a = c.args in
    let s = survey_with a.groups.now a.firsts.now a.seconds.now a.weights.now a.owners.now a.others.now in
    copies_fit s c.requires.byte_groups a.strengths.now c.requires.winter_ready a.bit c.requires.bit_lt_strength_bits a.copies.now c.requires.copied_for c.power-times.ensures

pub overflow_mul-result : goal.overflow_mul-result
overflow_mul-result c =
    let a = c.args in
    let s = survey_with a.groups.now a.firsts.now a.seconds.now a.weights.now a.owners.now a.others.now in
    let few = times_few s c.requires.byte_groups a.strengths.now c.requires.winter_ready a.bit c.requires.bit_lt_strength_bits (c.from.ensures ∙ c.power-times.ensures) (c.cost_of.ensures ∙ bit_cost s c.requires.byte_groups a.strengths.now c.requires.winter_ready a.bit c.plan_bit-figures.ensures.result_value) in
    search (rules, few)

pub returns : goal.returns
unfolding edge_count
returns c =
    let a = c.args in
    let s = survey_with a.groups.now a.firsts.now a.seconds.now a.weights.now a.owners.now a.others.now in record { result_value = bit_price_law s c.requires.byte_groups a.strengths.now c.requires.winter_ready a.bit (c.from.ensures ∙ c.power-times.ensures) (c.cost_of.ensures ∙ bit_cost s c.requires.byte_groups a.strengths.now c.requires.winter_ready a.bit c.plan_bit-figures.ensures.result_value) refl; copies_value = copies_more s c.requires.byte_groups a.strengths.now c.requires.winter_ready a.bit c.requires.bit_lt_strength_bits a.copies.now c.requires.copied_for c.requires.winter_ready.copies_long (replicate {A = ℕ} max_edges 0) c.plan_bit-figures.ensures.marks_value c.power-times.ensures c.add_kept.ensures }
