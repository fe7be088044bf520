-- `plan_bit` meets its contract: the lists with the bit, planned (`figures_lent`, `marks_lent`).
use Prim.Native.Nat.{ℕ}
use native.Mathlib.Omega.{arith}
use lib.ListN.{length, replicate, length-replicate}
use Rattle.base_finite.specs.Laws.Below.{count_le}
use Rattle.base_limits.specs.Limits.{max_pairs}
use Rattle.survey_core.specs.Survey.{survey_with}
use Rattle.winter_core.specs.Bit.{pair_carries}
use Rattle.winter_core.proofs.Laws.Pairs.{pairs_few}
use Rattle.winter_core.proofs.Laws.Call.{figures_lent, marks_lent}
use borrow.Author.Rules.{rules}
use Rattle.winter_core.proofs.copies.plan_bit.Goals as goal

pub bit_pairs-count-requires : goal.bit_pairs-count-requires
bit_pairs-count-requires c =
    let a = c.args in
    let s = survey_with a.groups.now a.firsts.now a.seconds.now a.weights.now a.owners.now a.others.now in
    let few = pairs_few s c.requires.survey_sound in record { bit_lt_strength_bits = c.requires.bit_lt_strength_bits; owners_len_bound = few; owners_in_bounds = omega (arith, few, length-replicate {A = ℕ} max_pairs 0); owners_in_bounds_2 = omega (arith, few, length-replicate {A = ℕ} max_pairs 0) }

pub slice_bounds-figures-end : goal.slice_bounds-figures-end
slice_bounds-figures-end c =
    let few = c.requires.survey_sound.few in search (rules, few)

pub slice_bounds-figures-end-2 : goal.slice_bounds-figures-end-2
slice_bounds-figures-end-2 c =
    let a = c.args in
    let s = survey_with a.groups.now a.firsts.now a.seconds.now a.weights.now a.owners.now a.others.now in
    let few = pairs_few s c.requires.survey_sound in let counted = c.bit_pairs-count.ensures.value in let most = count_le (length a.owners.now) (pair_carries a.strengths.now a.others.now a.bit) in search (rules, few, counted, most)

pub slice_bounds-figures-end-3 : goal.slice_bounds-figures-end-3
slice_bounds-figures-end-3 c =
    let a = c.args in
    let s = survey_with a.groups.now a.firsts.now a.seconds.now a.weights.now a.owners.now a.others.now in
    let few = pairs_few s c.requires.survey_sound in let counted = c.bit_pairs-count.ensures.value in let most = count_le (length a.owners.now) (pair_carries a.strengths.now a.others.now a.bit) in search (rules, few, counted, most)

pub returns : goal.returns
returns c =
    let a = c.args in
    let zeros = replicate {A = ℕ} max_pairs 0 in
    let s = survey_with a.groups.now a.firsts.now a.seconds.now a.weights.now a.owners.now a.others.now in record { result_value = figures_lent s a.strengths.now a.bit c.requires.survey_sound.few zeros zeros c.bit_groups-own.ensures c.bit_pairs-count.ensures.value c.bit_pairs-count.ensures.carriers_value c.bit_pairs-count.ensures.carried_value c.figures.ensures.result_value; marks_value = marks_lent s a.strengths.now a.bit c.requires.survey_sound.few zeros zeros c.bit_groups-own.ensures c.bit_pairs-count.ensures.value c.bit_pairs-count.ensures.carriers_value c.bit_pairs-count.ensures.carried_value a.marks.now c.figures.ensures.marks_value }
