-- Laws of stores one after another: they leave a buffer its length.
use Rattle.std.specs.Prelude.{ℕ, ◌+◌, ◌*◌, ◌/◌, ◌≡◌, refl, Bool, true, false, cond, List, length, take, drop, ltb}
use Rattle.std.proofs.Common.{ap, sym, ◌∙◌, length-set, length-append, take-append-drop}
use Rattle.std.proofs.Math.Seq.{length-sets}
use Rattle.std.proofs.lemmas.List.Edits.{sets}
use Rattle.base_limits.specs.Limits.{value_bytes, record_bytes}
use Rattle.format_record.specs.Bits.{with_member}
use Rattle.format_record.specs.Record.{with_member_in}
use Rattle.format_record.proofs.Laws.Bits.{length_with_member}
use Rattle.format_plan.specs.Lines.{PrintedDual, put_mark, put_member, put_dual, dual_record}

pub mark_length : (l : List ℕ) (i e : ℕ) → length (put_mark l i e) ≡ length l
mark_length l i e = length-set l e 2

pub member_length : (l : List ℕ) (i v : ℕ) → length (put_member l i v) ≡ length l
unfolding with_member_in
member_length l i v =
    length-append (take value_bytes l) (with_member (drop value_bytes l) v)
    ∙ ap (λ (n : ℕ). length (take value_bytes l) + n) (length_with_member (drop value_bytes l) v)
    ∙ sym (length-append (take value_bytes l) (drop value_bytes l))
    ∙ ap length (take-append-drop value_bytes l)

pub dual_length : (l : List ℕ) (i : ℕ) (d : PrintedDual) → length (put_dual l i d) ≡ length l
unfolding put_dual
dual_length l i d = by_room (ltb i (length l / record_bytes))
  where
    by_room : (b : Bool) → length (cond b (sets l (record_bytes * i) (dual_record d)) l) ≡ length l
    by_room true = length-sets l (record_bytes * i) (dual_record d)
    by_room false = refl
