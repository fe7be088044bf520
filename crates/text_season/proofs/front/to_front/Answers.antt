-- `to_front` meets its contract: the copy is what storing at rising places leaves.
use Prim.Native.Nat.{zero, suc}
use native.Mathlib.Omega.{arith}
use Rattle.std.specs.Prelude.{ℕ, ◌+◌, ◌-◌, ◌≤◌, ◌≡◌, List, [], ◌∷◌, ◌++◌, length, get_or, take, drop}
use Rattle.std.proofs.Common.{refl, ap, sym, ◌∙◌, get_or-drop, length-drop, zero-add}
use Rattle.base_buffer.specs.Store.{remade}
use Rattle.text_season.specs.Laws.Front.{moved_none}
use Rattle.text_season.proofs.front.to_front.Goals as goal

-- What stores at rising places is a copy, where it stores what stands in another list.
copied : (f : ℕ → ℕ → ℕ) (n : ℕ) (s l : List ℕ) → ((k x : ℕ) → f k x ≡ get_or s k 0) → n ≤ length s → n ≤ length l → take n s ++ drop n l ≡ remade f n l
unfolding remade
copied f zero s l is b d = refl
copied f (suc n) [] l is b d = absurd (omega arith)
copied f (suc n) (y ∷ s) [] is b d = absurd (omega arith)
copied f (suc n) (y ∷ s) (x ∷ l) is b d =
    ap (λ (z : ℕ). z ∷ (take n s ++ drop n l)) (sym (is 0 x)) ∙ ap (λ (t : List ℕ). f 0 x ∷ t) (copied (λ k. f (suc k)) n s l (λ k z. is (suc k) z) (omega arith) (omega arith))

pub returns-then-from-n : goal.returns-then-from-n
returns-then-from-n c =
    let from = c.args.from in
    let bytes = c.args.bytes.now in
    (simp zero-add at c.copy_within.ensures.after)
    ∙ copied (λ i x. get_or bytes (from + i) 0) (length bytes - from) (drop from bytes) bytes (λ k x. sym (get_or-drop from bytes k 0)) (omega (arith, length-drop from bytes)) (omega arith)

pub returns-else-from-n : goal.returns-else-from-n
returns-else-from-n c = moved_none _ _ c.if-from-n.false
