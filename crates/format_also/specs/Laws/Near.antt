-- How far reading also lines looks: 256 lines, and the byte behind them.
use Prim.Native.Nat.{ℕ, zero, suc, ◌+◌, ◌*◌, ◌-◌, ◌≤◌, ◌<◌}
use native.Mathlib.Omega.{arith}
use Rattle.std.proofs.Math.Path.{◌≡◌, refl, sym}
use Rattle.std.proofs.Common.{ap, ◌∙◌}
use Rattle.std.specs.Prelude.{Bool, not}
use Rattle.std.proofs.Math.Bool.{true, false, cond}
use mathlib.Core.List.{List, [], ◌∷◌}
use Rattle.std.proofs.Math.Dec.{leb}
use borrow.Author.Tests.{leb-true, leb-false}
use Rattle.base_limits.specs.Limits.{max_pairs, also_digits}
use Rattle.format_write.specs.Key.{also_key, comma, newline}
use Rattle.format_read.specs.Step.{Step, found, refused, ◌then◌}
use Rattle.format_read.specs.Bytes.{byte_is}
use Rattle.format_read.specs.Lines.{following, whole}
use Rattle.format_read.specs.Items.{items_from}
use Rattle.format_read.specs.Language.{LooksWithin, Any}
use Rattle.format_read.proofs.Laws.Bytes.{byte_alike}
use Rattle.format_read.proofs.Laws.Local.{local_value, local_checked, local_then, local_as, local_fixed}
use Rattle.format_read.proofs.Laws.Stands.{take_less}
use Rattle.format_read.proofs.Laws.Step.{then_value}
use Rattle.format_read.specs.Number.{also_letter}
use Rattle.format_read.proofs.Laws.Near.{local_number}
use Rattle.format_also.specs.Pair.{Pair, pair_of, rank, pair_at, also_test, also_line, also_reader, also_turns, also_at}
use Rattle.format_also.specs.Render.{pair_bytes}
use Rattle.format_also.specs.Laws.Tests.{line_past, line_read}

-- The bytes that are looked at.
abbrev pub also_look : ℕ
also_look = max_pairs * pair_bytes + 1

module _ (groups : List ℕ) (room : ℕ) where
  local_line : (low i : ℕ) → i < max_pairs → LooksWithin (λ t at. also_line t groups room low i at) pair_bytes Any
  unfolding pair_at
  local_line low i h =
      local_as (λ t at. sym (line_read t groups room low i at h)) (omega arith) (λ a x. tt)
      (local_then {c = 0} {Q = Any}
      (local_then {Q = Any} (local_fixed also_key) λ z x.
      local_then {Q = Any} (local_number also_digits comma (omega arith)) λ v x.
      local_then {Q = Any} (local_number also_digits newline (omega arith)) λ g x.
      local_value (pair_of v g))
      (λ x y. local_as (λ t at. refl) (omega arith) (λ a x. tt) (local_checked (also_test groups room low i x) x)))

  abbrev lines : (fuel low i : ℕ) → List ℕ → ℕ → Step (List Pair)
  lines fuel low i t at = whole (items_from (also_reader t groups room) fuel low i at)

  -- One turn more, where a line begins like an also line.
  line_then : (fuel low i : ℕ) → List ℕ → ℕ → Step (List Pair)
  line_then fuel low i t at = also_line t groups room low i at then λ x p. lines fuel (rank x) (i + 1) t p then λ l q. found (x ∷ l) q

  lines_unfold : (fuel low i : ℕ) (t : List ℕ) (at : ℕ) → lines (suc fuel) low i t at ≡ cond (not (byte_is t at also_letter)) (found [] at) (line_then fuel low i t at)
  unfolding line_then items_from following also_reader whole ◌then◌
  lines_unfold fuel low i t at = by_stop (not (byte_is t at also_letter)) (also_line t groups room low i at)
    where
      by_end : (x : Pair) (l : List Pair) (s : Step ℕ) → (s then λ z p. found (x ∷ l) p) ≡ ((s then λ z p. found l p) then λ m q. found (x ∷ m) q)
      by_end x l (found z p) = refl
      by_end x l (refused n p) = refl

      by_stop : (b : Bool) (s : Step Pair) → whole (cond b (record { values = []; end = found low at }) (following s (λ x p. items_from (also_reader t groups room) fuel (rank x) (i + 1) p)))
          ≡ cond b (found [] at) (s then λ x p. lines fuel (rank x) (i + 1) t p then λ l q. found (x ∷ l) q)
      by_stop true s = refl
      by_stop false (found x p) = by_end x (items_from (also_reader t groups room) fuel (rank x) (i + 1) p).values (items_from (also_reader t groups room) fuel (rank x) (i + 1) p).end
      by_stop false (refused n p) = refl

  -- So many bytes from line i on.
  abbrev look : ℕ → ℕ
  look i = (max_pairs - i) * pair_bytes + 1

  abbrev turn : (fuel low i : ℕ) → List ℕ → ℕ → Step (List Pair)
  turn fuel low i t at = cond (not (byte_is t at also_letter)) (found [] at) (line_then fuel low i t at)

  -- A turn looks no farther than its line, and at its first byte.
  local_turn : (fuel low i : ℕ) → LooksWithin (line_then fuel low i) (look i) Any → LooksWithin (turn fuel low i) (look i) Any
  local_turn fuel low i r =
      record {
        same = λ t u at e.
            by_byte_law t u at (byte_alike t u at also_letter at (omega arith) (take_less t u (at + 1) (at + look i) (omega arith) e)) (r.same t u at e);
        near = λ t at l p e. (near_byte t at l p (byte_is t at also_letter) e, tt);
      }
    where
      stop_near : {at p : ℕ} {l : List Pair} → ◌≡◌ {A = Step (List Pair)} (found [] at) (found l p) → p ≤ at + look i
      stop_near {at} {p} e = let q : at ≡ p = cc in omega arith

      by_byte_law : (t u : List ℕ) (at : ℕ) → byte_is t at also_letter ≡ byte_is u at also_letter → line_then fuel low i t at ≡ line_then fuel low i u at → turn fuel low i t at ≡ turn fuel low i u at
      by_byte_law t u at k e = ap (λ (x : Bool). cond (not x) (found [] at) (line_then fuel low i t at)) k ∙ ap (λ (s : Step (List Pair)). cond (not (byte_is u at also_letter)) (found [] at) s) e

      near_byte : (t : List ℕ) (at : ℕ) (l : List Pair) (p : ℕ) (b : Bool) → cond (not b) (found [] at) (line_then fuel low i t at) ≡ found l p → p ≤ at + look i
      near_byte t at l p true e = (r.near t at l p e).0
      near_byte t at l p false e = stop_near e

  -- Past the last line nothing is looked at.
  local_past : (fuel low i : ℕ) → max_pairs ≤ i → LooksWithin (line_then fuel low i) (look i) Any
  unfolding line_then ◌then◌
  local_past fuel low i m = record { same = λ t u at e. rw (line_past t groups room low i at m, line_past u groups room low i at m) refl; near = λ t at l p e. absurd (none t at l p e) }
    where
      none : (t : List ℕ) (at : ℕ) (l : List Pair) (p : ℕ) → (also_line t groups room low i at then λ x p. lines fuel (rank x) (i + 1) t p then λ l q. found (x ∷ l) q) ≡ found l p → ⊥
      none t at l p e = let f = then_value (also_line t groups room low i at) _ e in let z : ◌≡◌ {A = ℕ} 0 1 = cc (f.2, line_past t groups room low i at m) in omega arith

  local_lines : (fuel low i : ℕ) → LooksWithin (lines fuel low i) (look i) Any
  unfolding items_from whole line_then ◌then◌
  local_lines zero low i = record { same = λ t u at e. refl; near = λ t at l p e. absurd (never e) }
    where
      never : {at p : ℕ} {l : List Pair} → refused 16 at ≡ found l p → ⊥
      never e = let z : ◌≡◌ {A = ℕ} 0 1 = cc in omega arith
  local_lines (suc fuel) low i = local_as (λ t at. sym (lines_unfold fuel low i t at)) (omega arith) (λ a x. tt) (local_turn fuel low i (by_count (leb max_pairs i) refl (λ x. local_lines fuel (rank x) (i + 1))))
    where
      by_count : (b : Bool) → leb max_pairs i ≡ b → ((x : Pair) → LooksWithin (lines fuel (rank x) (i + 1)) (look (i + 1)) Any) → LooksWithin (line_then fuel low i) (look i) Any
      by_count true h ih = local_past fuel low i (leb-true max_pairs i h)
      by_count false h ih =
          let m = leb-false max_pairs i h in
          local_as (λ t at. refl) (omega arith) (λ a x. tt) (local_then {Q = Any} (local_line low i m) λ x y. local_then {Q = Any} (ih x) λ l z. local_value (x ∷ l))

  pub local_also : LooksWithin (λ t at. whole (also_at t groups room at)) also_look Any
  unfolding also_at
  local_also = local_as (λ t at. refl) (omega arith) (λ a x. tt) (local_lines also_turns 0 0)
