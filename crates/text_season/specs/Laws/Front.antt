-- Moving the rest of a buffer to its front: a byte that is still to move has not changed.
use Rattle.std.specs.Prelude.{ℕ, ◌+◌, ◌-◌, ◌≤◌, ◌<◌, ◌≡◌, List, get_or, set}
use native.Mathlib.Omega.{arith}
use Rattle.std.proofs.Math.Path.{refl}
use Rattle.std.proofs.Common.{ap, ◌∙◌, length-set}
use Rattle.std.proofs.Math.ListN.{length}
use Rattle.base_buffer.specs.Store.{remade}
use Rattle.base_buffer.proofs.Laws.Store.{remade_ahead, remade_more, remade_end}

-- The first i bytes have moved.
pub record Moved (from : ℕ) (before : List ℕ) (i : ℕ) (after : List ℕ) : Type 0 where
  pub within : i ≤ length before - from
  pub long : length after ≡ length before
  pub made : after ≡ remade (λ k x. get_or before (from + k) 0) i before

module _ (from : ℕ) (before : List ℕ) where
  pub moved_start : Moved from before 0 before
  unfolding remade
  moved_start = record { within = omega arith; long = refl; made = refl }

  pub moved_turn : {i x : ℕ} {now after : List ℕ} → Moved from before i now → i < length before - from → x ≡ get_or now (from + i) 0 → after ≡ set now i x
      → Moved from before (i + 1) after
  moved_turn {i} {x} {now} {after} h b is made =
      let f : ℕ → ℕ → ℕ = λ k y. get_or before (from + k) 0 in
      let same : x ≡ get_or before (from + i) 0 = is ∙ ap (λ l. get_or l (from + i) 0) h.made ∙ remade_ahead f i before (from + i) (omega arith) in
      record {
        within = omega arith;
        long = ap length made ∙ length-set now i x ∙ h.long;
        made = made ∙ remade_more f i before now x h.made same;
      }

  pub moved_end : {i : ℕ} {after : List ℕ} → Moved from before i after → length before - from ≤ i
      → after ≡ remade (λ k x. get_or before (from + k) 0) (length before - from) before
  moved_end {i} h b = h.made ∙ remade_end (λ k x. get_or before (from + k) 0) (length before - from) i before h.within b

  pub moved_none : length before < from → before ≡ remade (λ k x. get_or before (from + k) 0) (length before - from) before
  unfolding remade
  moved_none h = let e : length before - from ≡ 0 = omega arith in rw e
