-- The two sides of the cut that a record is, as labels: a record has no member past its bytes, so they serve for any number of vertices. The code of refusal 12 uses it.
use Rattle.std.specs.Prelude.{ℕ, ◌*◌, ◌/◌, ◌%◌, ◌≤◌, ◌≡◌, false, List, length, get_or, drop}
use Rattle.std.proofs.Common.{arith, ap, sym, ◌∙◌, ⊎_elim, length-take, length-drop}
use Rattle.std.proofs.Math.Nat.{min-le_left}
use Rattle.std.proofs.Math.ListN.{get_or-eq_default}
use Rattle.base_finite.specs.Below.{counted, tabulate}
use Rattle.base_finite.specs.Laws.Below.{lt_or_ge, counted_false, length_tabulate, get_d_tabulate}
use Rattle.base_limits.specs.Limits.{max_vertices, value_bytes, record_bytes}
use Rattle.format_record.specs.Bits.{bit_at, member_at}
use Rattle.format_record.specs.Record.{member_in, record_at}
use Rattle.format_record.proofs.Laws.Bits.{bit_of_zero}
use Rattle.survey_groups.specs.Spread.{Sides}

pub record_short : (records : List ℕ) (i : ℕ) → length (record_at records i) ≤ record_bytes
unfolding record_at
record_short records i = rw (length-take record_bytes (drop (record_bytes * i) records)) (min-le_left _ _)

no_member_past : (part : List ℕ) (v : ℕ) → length part ≤ record_bytes → max_vertices ≤ v → member_in part v ≡ false
unfolding member_in member_at
no_member_past part v short past =
    let long = length-drop value_bytes part in
    let out : length (drop value_bytes part) ≤ v / 8 = omega arith in
    ap (λ b. bit_at b (v % 8)) (get_or-eq_default (drop value_bytes part) 0 out) ∙ bit_of_zero (v % 8)

pub sides_of_record : (part : List ℕ) (n : ℕ) {labels : List ℕ} → length part ≤ record_bytes → labels ≡ tabulate max_vertices (λ v. counted (member_in part v) 1)
    → Sides (member_in part) n labels
sides_of_record part n {labels} short h v b =
    ap (λ l. get_or l v 0) h
    ∙ ⊎_elim
    (λ l. get_d_tabulate max_vertices side v 0 l)
    (λ past. get_or-eq_default (tabulate max_vertices side) 0 (rw (length_tabulate max_vertices side) past) ∙ sym (counted_false (no_member_past part v short past) 1))
    (lt_or_ge v max_vertices)
  where
    side : ℕ → ℕ
    side v = counted (member_in part v) 1
