-- Law of room: `why_room` bytes hold every reason within the limits.
use Rattle.std.specs.Prelude.{ℕ, suc, ◌+◌, ◌*◌, ◌≤◌, ◌<◌, ◌≡◌, List, [], ◌∷◌, ◌++◌, get_or, eqb}
use native.Mathlib.Omega.{arith}
use Rattle.std.proofs.Common.{le-ltb}
use Rattle.std.proofs.Math.Logic.{⊎_elim}
use Rattle.std.proofs.Math.ListN.{length, length-append}
use Rattle.base_finite.specs.Laws.Test.{either}
use Rattle.base_limits.specs.Limits.{max_edges, word_digits, why_room}
use Rattle.base_limits.specs.Verdict.{refuse_if}
use Rattle.format_write.specs.Key.{track_key, mark_key, group_key, from_key, to_key, route_key, round_key, comma, newline}
use Rattle.format_write.specs.Decimal.{decimal}
use Rattle.format_write.specs.Text.{line_of, listed}
use Rattle.format_write.proofs.Laws.Decimal.{length_decimal}
use Rattle.format_print.specs.Print.{print_refusal, answer_of, printed}
use Rattle.format_print.specs.declared.Printed.TheVariants.{Length}
use Rattle.format_print.specs.Laws.Room.{word_digits_law, length_line}
use Rattle.format_why.specs.ReasonText.{route_line, kept_text, mark_text, reason_text}
use Rattle.format_why.specs.Within.{ReasonWithin}

-- A list of tracks takes at most four digits and a comma for each.
length_listed : (es : List ℕ) → ((i : ℕ) → get_or es i 0 < max_edges) → length (listed es) ≤ 5 * length es
unfolding listed
length_listed [] h = omega arith
length_listed (e ∷ []) h =
    let below : e < max_edges = h 0 in
    let digits : length (decimal e) ≤ 4 = length_decimal 3 e (omega arith) in
    omega arith
length_listed (e ∷ f ∷ es) h =
    let below : e < max_edges = h 0 in
    let digits : length (decimal e) ≤ 4 = length_decimal 3 e (omega arith) in
    let ih : length (listed (f ∷ es)) ≤ 5 * length (f ∷ es) = length_listed (f ∷ es) (λ i. h (suc i)) in
    let a = length-append (decimal e ++ (comma ∷ [])) (listed (f ∷ es)) in
    let b = length-append (decimal e) (comma ∷ []) in
    omega arith

length_route : (route : List ℕ) → length (route_line route) ≡ 7 + length (listed route)
unfolding route_line route_key
length_route route =
    let a = length-append (route_key ++ listed route) (newline ∷ []) in
    let b = length-append route_key (listed route) in
    omega arith

length_kept : (group low high : ℕ) (route : List ℕ)
    → length (kept_text group low high route) ≡ 24 + length (decimal group) + length (decimal low) + length (decimal high) + length (listed route)
unfolding kept_text group_key from_key to_key
length_kept group low high route =
    let l₁ = line_of group_key group in
    let l₂ = line_of from_key low in
    let l₃ = line_of to_key high in
    let e₁ : length l₁ ≡ 6 + length (decimal group) + 1 = length_line group_key group in
    let e₂ : length l₂ ≡ 5 + length (decimal low) + 1 = length_line from_key low in
    let e₃ : length l₃ ≡ 3 + length (decimal high) + 1 = length_line to_key high in
    let e₄ = length_route route in
    let s₁ = length-append l₁ l₂ in
    let s₂ = length-append (l₁ ++ l₂) l₃ in
    let s₃ = length-append (l₁ ++ l₂ ++ l₃) (route_line route) in
    omega arith

module _ (track mark group low high round : ℕ) (route : List ℕ) (w : ReasonWithin track mark group low high round route) where
  length_mark : length (mark_text mark group low high round route) ≤ 24 + 3 * word_digits + 5 * length route
  unfolding mark_text round_key
  length_mark =
      let kept = length_kept group low high route in
      let list = length_listed route w.route_tracks in
      let g = word_digits_law group w.group_fits in
      let l = word_digits_law low w.low_fits in
      let h = word_digits_law high w.high_fits in
      let r = word_digits_law round w.round_fits in
      let line : length (line_of round_key round) ≡ 6 + length (decimal round) + 1 = length_line round_key round in
      ⊎_elim
      (λ is. rw is (omega arith))
      (λ no. rw no (⊎_elim (λ is. rw is (omega arith)) (λ not. rw not (omega arith)) (either (eqb mark 0))))
      (either (eqb mark 2))

  pub reason_text_le : length (reason_text track mark group low high round route) ≤ why_room
  unfolding reason_text track_key mark_key
  reason_text_le =
      let rest = mark_text mark group low high round route in
      let l₁ = line_of track_key track in
      let l₂ = line_of mark_key mark in
      let e₁ : length l₁ ≡ 6 + length (decimal track) + 1 = length_line track_key track in
      let e₂ : length l₂ ≡ 5 + length (decimal mark) + 1 = length_line mark_key mark in
      let s₁ = length-append l₁ l₂ in
      let s₂ = length-append (l₁ ++ l₂) rest in
      let d₁ = word_digits_law track w.track_fits in
      let d₂ = word_digits_law mark w.mark_fits in
      let m = length_mark in
      let short = w.route_short in
      omega arith

  -- Room for every such reason: it is never refused with 7.
  pub reason_room : (out : List ℕ) → why_room ≤ length out → printed (reason_text track mark group low high round route) out ≡ Length (length (reason_text track mark group low high round route))
  unfolding printed print_refusal refuse_if answer_of
  reason_room out room =
      let le = reason_text_le in
      let fits : length (reason_text track mark group low high round route) ≤ length out = omega arith in
      rw (le-ltb (length out) (length (reason_text track mark group low high round route)) fits)
