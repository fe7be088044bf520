-- `clear` meets its contract: the bytes of the front, or all of them, are 0.
use Rattle.std.proofs.Common.{◌≡◌, ◌∙◌, ◌++◌, ◌∷◌, [], ℕ, zero, suc, List, length, take, drop, replicate, min, arith, refl, ap}
use Rattle.base_buffer.specs.Store.{remade}
use Rattle.winter_core.proofs.copies.clear.Goals as goal

cleared : (m n : ℕ) (l : List ℕ) → n ≡ min m (length l) → replicate (length (take n l)) 0 ++ drop n l ≡ remade (λ e x. 0) m l
unfolding remade
cleared zero zero l h = refl
cleared zero (suc n) l h = absurd (omega arith)
cleared (suc m) zero [] h = refl
cleared (suc m) (suc n) [] h = absurd (omega arith)
cleared (suc m) zero (x ∷ l) h = absurd (omega arith)
cleared (suc m) (suc n) (x ∷ l) h = ap (λ t. 0 ∷ t) (cleared m n l (omega arith))

pub returns : goal.returns
returns c =
    ap (λ t. t ++ drop c.min-n.result c.args.copies.now) (c.fill.ensures.after (λ y h. h))
    ∙ cleared c.args.m c.min-n.result c.args.copies.now c.min-n.ensures
