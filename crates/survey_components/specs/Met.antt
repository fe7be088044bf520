-- The two ends of an edge that come into one tree.
use Rattle.std.specs.Prelude.{ℕ, cond, List, get_or, eqb}
use Rattle.survey_components.specs.Roots.{ends_hung}

-- Two vertices come into one tree; nothing is written where both hang on one vertex, for they are in one already (law `trees_met`).
unfoldable pub ends_met : (k a b : ℕ) → List ℕ → List ℕ
ends_met k a b parents = cond (eqb (get_or parents a 0) (get_or parents b 0)) parents (ends_hung k a b parents)
