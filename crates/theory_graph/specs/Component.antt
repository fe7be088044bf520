-- Connected components, as labels: two vertices have the same label exactly if they are linked (law `components_iff`).
use Rattle.std.specs.Prelude.{ℕ, zero, suc, Bool, ◌||◌, cond, eqb}
use Rattle.base_finite.specs.Below.{memo}

-- Labels with z in place of x and of y: two components become one.
unfoldable pub merged : (x y z : ℕ) → (ℕ → ℕ) → ℕ → ℕ
merged x y z label v = cond (eqb (label v) x || eqb (label v) y) z (label v)

-- Labels of the components that the edges of F below m make; at first each vertex is its own. n only says how many are worth storing.
unfoldable pub components : (n : ℕ) (a b : ℕ → ℕ) → (ℕ → Bool) → (m : ℕ) → ℕ → ℕ
components n a b F zero = λ v. v
components n a b F (suc e) =
    let label = components n a b F e in cond (F e) (memo n (merged (label (a e)) (label (b e)) (label (a e)) label)) label
