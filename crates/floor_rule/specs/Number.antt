-- Lists that share a member are one group of the ascent, numbered by the lowest of their numbers.
use Rattle.std.specs.Prelude.{ℕ, zero, suc, ◌||◌, cond, List, length, get_or, eqb, ltb}
use Rattle.base_finite.specs.Below.{counted, tabulate}
use Rattle.survey_core.specs.Lists.{Lists}
use Rattle.survey_lists.specs.Pouring.{poured_groups}

-- The lower of two numbers of lists, where 0 is none.
unfoldable pub lower_number : ℕ → ℕ → ℕ
lower_number x y = cond (eqb y 0) x (cond (eqb x 0 || ltb y x) y x)

-- The lowest number of the lists that members of poured group c are in, 0 for none: by the own groups of the vertices below n, then by the pairs below i.
unfoldable pub lowest_own : (poured groups : List ℕ) → (c n : ℕ) → ℕ
lowest_own poured groups c zero = 0
lowest_own poured groups c (suc v) =
    lower_number (lowest_own poured groups c v) (counted (eqb (get_or poured v 0) c) (get_or groups v 0))

unfoldable pub lowest_paired : (poured groups owners others : List ℕ) → (c i : ℕ) → ℕ
lowest_paired poured groups owners others c zero = lowest_own poured groups c (length groups)
lowest_paired poured groups owners others c (suc i) =
    lower_number (lowest_paired poured groups owners others c i)
    (counted (eqb (get_or poured (get_or owners i 0) 0) c) (get_or others i 0))

-- The number of poured group c; 0 is no group.
unfoldable pub number_of : (poured groups owners others : List ℕ) → (c : ℕ) → ℕ
number_of poured groups owners others c = cond (eqb c 0) 0 (lowest_paired poured groups owners others c (length owners))

-- The groups of the ascent.
unfoldable pub numbered_groups : Lists → List ℕ
numbered_groups l =
    let poured = poured_groups l in
    tabulate (length l.groups) (λ v. number_of poured l.groups l.owners l.others (get_or poured v 0))
