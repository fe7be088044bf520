-- A text has no more items than bytes: each item goes on by a byte at least, so that fuel past the bytes that are left changes nothing.
use Rattle.std.specs.Prelude.{ℕ, suc, ◌+◌, ◌-◌, ◌≤◌, ◌<◌, ◌≡◌, List, [], ◌∷◌, length}
use Rattle.std.proofs.Common.{arith}
use Rattle.format_write.specs.Key.{newline, colon, kept_key, dual_key}
use Rattle.base_limits.specs.Limits.{kept_digits, member_digits, value_digits}
use Rattle.format_read.specs.Number.{number_at, number_to, number_line}
use Rattle.format_plan.specs.Lines.{keep_line, keep_reader, separator, member_step, member_reader, members_at, PrintedDual, dual_head, dual_line_at, dual_reader}
use Rattle.format_plan.proofs.Laws.Lines.{members_end}
use Rattle.format_read.specs.Bytes.{fixed_at}
use Rattle.format_read.specs.Items.{items_from, Goes}
use Rattle.format_read.proofs.Laws.Bytes.{fixed_goes}
use Rattle.format_read.proofs.Laws.Items.{items_fuel, items_forward}
use Rattle.format_read.proofs.Laws.Step.{then_value, checked_next}
use Rattle.format_read.specs.Step.{found}
use Rattle.format_read.proofs.Laws.Near.{number_goes}

keep_goes : (t : List ℕ) (m low i at : ℕ) {e p : ℕ} → at ≤ length t → keep_line t m low i at ≡ found e p → Goes t at p
unfolding keep_line number_line number_to
keep_goes t m low i at {e} {p} h q =
    let line = then_value (number_line kept_key kept_digits t at) _ q in
    let key = then_value (fixed_at kept_key t at) _ line.2 in
    let number = then_value (number_at kept_digits t key.1) _ key.3 in
    let stop = then_value (fixed_at (newline ∷ []) t number.1) _ number.3 in
    let a = fixed_goes kept_key t at key.2 in
    let b = number_goes kept_digits t key.1 number.2 in
    let c = fixed_goes (newline ∷ []) t number.1 stop.2 in
    let a0 = a.on in
    let b0 = b.on in
    let c0 = c.on in
    let c1 = c.inside b.inside in
    let last : stop.1 ≡ line.1 = cc stop.3 in
    let same : line.1 ≡ p = checked_next _ _ _ line.3 in
    record { on = omega arith; inside = omega arith }

member_goes : (t : List ℕ) (low i at : ℕ) {v p : ℕ} → at ≤ length t → member_step t low i at ≡ found v p → Goes t at p
unfolding member_step
member_goes t low i at h q =
    let sep = then_value (fixed_at (separator i) t at) _ q in
    let a = (fixed_goes (separator i) t at sep.2).on in
    let b = number_goes member_digits t sep.1 sep.3 in
    let b0 = b.on in
    let b1 = b.inside in
    record { on = omega arith; inside = b1 }

-- The keep lines, and the members of a moat.
pub keep_fuel : (t : List ℕ) (m fuel low i at : ℕ) → at ≤ length t → length t - at < fuel → items_from (keep_reader t m) (suc fuel) low i at ≡ items_from (keep_reader t m) fuel low i at
unfolding keep_reader
keep_fuel t m fuel low i at h k = items_fuel (keep_reader t m) t (λ l j a e p b q. keep_goes t m l j a b q) fuel low i at h k

pub member_fuel : (t : List ℕ) (fuel low i at : ℕ) → at ≤ length t → length t - at < fuel → items_from (member_reader t) (suc fuel) low i at ≡ items_from (member_reader t) fuel low i at
unfolding member_reader
member_fuel t fuel low i at h k = items_fuel (member_reader t) t (λ l j a v p b q. member_goes t l j a b q) fuel low i at h k

dual_goes : (t : List ℕ) (i at : ℕ) {d : PrintedDual} {p : ℕ} → at ≤ length t → dual_line_at t i at ≡ found d p → Goes t at p
unfolding dual_line_at dual_head members_at member_reader
dual_goes t i at {d} {p} h q =
    let head = then_value (dual_head t at) _ q in
    let list = then_value (members_at t head.1).end _ head.3 in
    let key = then_value (fixed_at dual_key t at) _ head.2 in
    let number = then_value (number_at value_digits t key.1) _ key.3 in
    let mark = then_value (fixed_at (colon ∷ []) t number.1) _ number.3 in
    let a = (fixed_goes dual_key t at key.2).on in
    let b = number_goes value_digits t key.1 number.2 in
    let b0 = b.on in
    let c = fixed_goes (colon ∷ []) t number.1 mark.2 in
    let c0 = c.on in
    let c1 = c.inside b.inside in
    let start : mark.1 ≡ head.1 = cc mark.3 in
    let f : head.1 ≤ list.1 = items_forward (member_reader t) t (λ l j x v y k r. member_goes t l j x k r) (length t) 0 0 head.1 (omega arith) list.2 in
    let z : list.1 < length t = members_end t head.1 list.2 in
    let same : list.1 + 1 ≡ p = checked_next _ _ _ list.3 in
    record { on = omega arith; inside = omega arith }

pub dual_fuel : (t : List ℕ) (fuel low i at : ℕ) → at ≤ length t → length t - at < fuel → items_from (dual_reader t) (suc fuel) low i at ≡ items_from (dual_reader t) fuel low i at
unfolding dual_reader
dual_fuel t fuel low i at h k = items_fuel (dual_reader t) t (λ l j x d y b q. dual_goes t j x b q) fuel low i at h k
