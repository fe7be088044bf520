-- `format_stp::number::digits_after` meets its contract: what is left of the digits is what follows those before them.
use native.Mathlib.Omega.{arith}
use Prim.Native.Nat.{ℕ, ◌-◌}
use mathlib.Core.Path.{◌≡◌, ◌∙◌, sym, ap, refl}
use lib.ListN.{get_or}
use Rattle.format_stp.specs.StpNumber.{is_free, stop_byte, digits_after}
use Rattle.format_stp.proofs.Laws.NumberTurn.{digits_on, digits_stay, goes_facts, goes_inside, digit_fits, digit_left}
use Rattle.format_stp.proofs.number.digits_after.Goals as goal

pub loop-more-init : goal.loop-more-init
loop-more-init c = record { room = c.requires; rest = refl }

pub goes_on-requires : goal.goes_on-requires
goes_on-requires c = digit_fits c.loop-more.x c.loop-more.more c.loop-more-test.true c.loop-more.invariant.room

-- no digit goes on
pub returns-then-not-goes_on : goal.returns-then-not-goes_on
returns-then-not-goes_on c =
    let a = c.args in
    let g = sym c.goes_on.ensures ∙ c.if-not-goes_on.true in
    c.free_end.ensures ∙ sym (digits_stay (is_free a.groups.now a.low a.high) a.high a.spaced c.loop-more.x a.text.now c.loop-more.at c.loop-more.more c.loop-more-test.true g) ∙ c.loop-more.invariant.rest

pub with_digit-x-requires : goal.with_digit-x-requires
with_digit-x-requires c = digit_fits c.loop-more.x c.loop-more.more c.loop-more-test.true c.loop-more.invariant.room

pub overflow_add-at : goal.overflow_add-at
overflow_add-at c =
    let a = c.args in
    let g = sym c.goes_on.ensures ∙ c.if-not-goes_on.false in
    omega (arith, goes_inside (is_free a.groups.now a.low a.high) a.high (c.loop-more.more - 1) c.loop-more.x a.text.now c.loop-more.at g)

pub loop-more-preserved : goal.loop-more-preserved
loop-more-preserved c =
    let a = c.args in
    let h = c.loop-more-test.true in
    let g = sym c.goes_on.ensures ∙ c.if-not-goes_on.false in
    let f = goes_facts (is_free a.groups.now a.low a.high) a.high (c.loop-more.more - 1) c.loop-more.x (get_or a.text.now c.loop-more.at 0) g in
    record {
      room = rw (c.with_digit-x.ensures, c.at.ensures) (digit_left c.loop-more.x (get_or a.text.now c.loop-more.at 0) c.loop-more.more h f.0 f.1 c.loop-more.invariant.room);
      rest = rw (c.with_digit-x.ensures, c.at.ensures) (sym (digits_on (is_free a.groups.now a.low a.high) a.high a.spaced c.loop-more.x a.text.now c.loop-more.at c.loop-more.more h g) ∙ c.loop-more.invariant.rest);
    }

-- no more digits may follow
pub returns : goal.returns
returns c =
    let a = c.args in
    let h = c.loop-more-test.false in
    let z : 0 ≡ c.loop-more.more = omega arith in
    c.free_end-2.ensures ∙ ap (λ (k : ℕ). digits_after (is_free a.groups.now a.low a.high) a.high (stop_byte a.spaced) k c.loop-more.x a.text.now c.loop-more.at) z ∙ c.loop-more.invariant.rest
