-- `add_bits` meets its contract: no copies, then those of one bit more in each turn.
use native.Mathlib.Omega.{arith}
use mathlib.Core.Path.{◌≡◌, refl, ap, sym, ◌∙◌}
use lib.ListN.{length}
use Rattle.base_finite.specs.Below.{sum_below}
use Rattle.survey_core.specs.Survey.{survey_with, edge_count}
use Rattle.theory_steiner.specs.Strength.{strength_bits}
use Rattle.winter_core.proofs.Laws.Copies.{length_for, for_holds, for_again, for_self, for_none, for_all, bit_price_few, total_all}
use Rattle.winter_core.proofs.Laws.Call.{ready_same, total_few, total_more}
use borrow.Author.Rules.{rules}
use Rattle.winter_core.proofs.add_bits.Goals as goal

pub loop-bit-init : goal.loop-bit-init
unfolding sum_below edge_count
loop-bit-init c =
    let a = c.args in
    let s = survey_with a.groups.now a.firsts.now a.seconds.now a.weights.now a.owners.now a.others.now in
    (omega arith, (refl, for_self s a.strengths.now a.copies.now 0 (for_none s a.strengths.now a.copies.now c.requires.winter_ready.copies_long c.clear.ensures)))

pub add_bit-total-requires : goal.add_bit-total-requires
unfolding edge_count
add_bit-total-requires c =
    let a = c.args in
    let s = survey_with a.groups.now a.firsts.now a.seconds.now a.weights.now a.owners.now a.others.now in
    let none = for_none s a.strengths.now a.copies.now c.requires.winter_ready.copies_long c.clear.ensures in
    let lent = a.copies.now in
    let room = c.requires.winter_ready.copies_long in
    let now = for_again s a.strengths.now lent 0 c.loop-bit.bit none c.loop-bit.invariant.1.1 in
    record { byte_groups = c.requires.byte_groups; winter_ready = ready_same s a.strengths.now (sym (ap length now ∙ length_for s a.strengths.now lent room c.loop-bit.bit)) c.requires.winter_ready; bit_lt_strength_bits = c.loop-bit-test.true; copied_for = for_holds s a.strengths.now lent c.loop-bit.bit now }

pub overflow_add-total : goal.overflow_add-total
overflow_add-total c =
    let a = c.args in
    let s = survey_with a.groups.now a.firsts.now a.seconds.now a.weights.now a.owners.now a.others.now in
    let few = total_few s c.requires.byte_groups a.strengths.now c.requires.winter_ready c.loop-bit.bit c.loop-bit.invariant.0 in
    let more = bit_price_few s c.requires.byte_groups a.strengths.now c.requires.winter_ready c.loop-bit.bit c.loop-bit-test.true in
    let total = c.loop-bit.invariant.1.0 in
    let price = c.add_bit-total.ensures.result_value in
    let within = c.loop-bit-test.true in
    search (rules, few, more, total, price, within)

pub loop-bit-preserved : goal.loop-bit-preserved
loop-bit-preserved c =
    let a = c.args in
    let s = survey_with a.groups.now a.firsts.now a.seconds.now a.weights.now a.owners.now a.others.now in (
      omega (arith, c.loop-bit-test.true),
      (
        total_more s a.strengths.now c.loop-bit.bit c.loop-bit.invariant.1.0 c.add_bit-total.ensures.result_value refl,
        for_again s a.strengths.now _ c.loop-bit.bit _ c.loop-bit.invariant.1.1 c.add_bit-total.ensures.copies_value,
      ),
    )

pub returns : goal.returns
unfolding edge_count
returns c =
    let a = c.args in
    let s = survey_with a.groups.now a.firsts.now a.seconds.now a.weights.now a.owners.now a.others.now in
    let all : c.loop-bit.bit ≡ strength_bits = omega (arith, c.loop-bit.invariant.0, c.loop-bit-test.false) in record {
      result_value = total_all s a.strengths.now all c.loop-bit.invariant.1.0;
      copies_value = for_all s a.strengths.now a.copies.now all
          (for_again s a.strengths.now a.copies.now 0 c.loop-bit.bit (for_none s a.strengths.now a.copies.now c.requires.winter_ready.copies_long c.clear.ensures) c.loop-bit.invariant.1.1);
    }
