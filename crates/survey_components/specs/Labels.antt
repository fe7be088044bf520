-- The sets of edges that are joined, and the labels of the components that they make.
use Rattle.std.specs.Prelude.{ℕ, ◌≡◌, Bool, true, not, List, length, get_or, eqb}
use Rattle.base_finite.specs.Below.{tabulate}
use Rattle.theory_graph.specs.Component.{components}
use Rattle.base_limits.specs.Limits.{max_vertices}
use Rattle.survey_components.specs.declared.Chosen.{Chosen}
use Rattle.survey_components.specs.declared.Chosen.TheVariants.{All, Kept}
use Rattle.survey_core.specs.Survey.{Survey}
use Rattle.survey_components.specs.Buffer.{EndsWithin}

-- All tracks, or those marked 2.
unfoldable pub chosen_mark : Chosen → ℕ → Bool
chosen_mark All mark = true
chosen_mark Kept mark = eqb mark 2

unfoldable pub chosen : Chosen → (marks : List ℕ) → ℕ → Bool
chosen set marks e = chosen_mark set (get_or marks e 0)

-- The edges that a buffer of marks picks: those with anything but 0.
unfoldable pub picked_in : (marks : List ℕ) → ℕ → Bool
picked_in marks e = not (eqb (get_or marks e 0) 0)

-- Every vertex of the buffer is its own component, and every end has a label there.
pub record EndsFit (firsts seconds labels : List ℕ) : Type 0 where
  pub own : labels ≡ tabulate (length labels) (λ v. v)
  pub ends : EndsWithin (length labels) (length firsts) (λ e. get_or firsts e 0) (λ e. get_or seconds e 0)

-- The labels of the components that a set of edges makes, in a buffer for every survey.
unfoldable pub labels_of : Survey → (ℕ → Bool) → List ℕ
labels_of s F = tabulate max_vertices (components max_vertices (λ e. get_or s.firsts e 0) (λ e. get_or s.seconds e 0) F (length s.firsts))
