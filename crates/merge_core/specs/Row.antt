-- The groups of one junction of the result, where it is junction w of the first survey and v of the second (document 02, No. 9), as a row of flags.
use Rattle.std.specs.Prelude.{ℕ, Bool, cond, ◌&&◌, ◌||◌, not, List, length, get_or, eqb}
use Rattle.base_finite.specs.Below.{any_below, tabulate}
use Rattle.survey_core.specs.Lists.{Lists, in_list}

-- The flags of the groups that pass are 1, the others stay.
unfoldable pub marked : (ℕ → Bool) → List ℕ → List ℕ
marked t flags = tabulate (length flags) (λ g. cond (t g) 1 (get_or flags g 0))

-- One of the first k pairs is (v, g).
unfoldable pub paired_below : (owners others : List ℕ) → (k g v : ℕ) → Bool
paired_below owners others k g v = any_below k (λ i. eqb (get_or owners i 0) v && eqb (get_or others i 0) g)

-- 'its own is that of the first survey, or of the second where that is 0'.
unfoldable pub own_with : (groups second : List ℕ) → (w v : ℕ) → ℕ
own_with groups second w v = cond (eqb (get_or groups w 0) 0) (get_or second v 0) (get_or groups w 0)

-- 'and every other is a pair once'.
unfoldable pub further_with : (first second : Lists) → (w v g : ℕ) → Bool
further_with first second w v g = (in_list first g w || in_list second g v) && not (eqb g (own_with first.groups second.groups w v))
