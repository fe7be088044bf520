-- Tracks by their marks, and the pair of a list's members that they leave apart.
use Rattle.std.specs.Prelude.{ℕ, ◌≡◌, Bool, ◌&&◌, not, List, length, get_or, replicate, eqb, leb}
use Rattle.base_limits.specs.Limits.{max_vertices}
use Rattle.base_limits.specs.Verdict.{◌before◌, written}
use Rattle.survey_core.specs.Survey.{Survey, survey_from, lists_of}
use Rattle.survey_core.specs.Lists.{in_list}
use Rattle.survey_core.specs.Refusal.{survey_refusal, group_refusal}
use Rattle.survey_components.specs.Labels.{chosen, labels_of}
use Rattle.survey_components.specs.declared.Chosen.TheVariants.{Kept}
use Rattle.theory_route.specs.First.{first_below}
use Rattle.why_rule.specs.Reason.{place_of}
use Rattle.why_core.specs.declared.parted.Pair.{Pair}
use Rattle.why_core.specs.declared.parted.Tracks.{Tracks}
use Rattle.why_core.specs.declared.parted.Tracks.TheVariants.{Picks, Keeps}

-- The lowest mark of these tracks: 1 picked, 2 kept.
unfoldable pub least_mark : Tracks → ℕ
least_mark Picks = 1
least_mark Keeps = 2

-- e has at least this mark, and is not the one left out.
unfoldable pub marked_but : (marks : List ℕ) → (least out e : ℕ) → Bool
marked_but marks least out e = leb least (get_or marks e 0) && not (eqb e out)

-- The labels of the components that the tracks marked 2 make.
unfoldable pub label_in : Survey → (marks : List ℕ) → ℕ → ℕ
label_in s marks v =
    let plain = survey_from s.groups s.firsts s.seconds s.weights in
    get_or (written (survey_refusal plain) (labels_of plain (chosen Kept marks)) (replicate max_vertices 0)) v 0

-- The lowest list that they leave apart, its lowest member, and the lowest with another label.
pub record PairOf (s : Survey) (marks : List ℕ) (p : Pair) : Type 0 where
  pub group_is : p.group ≡ place_of (survey_refusal s before group_refusal s 0 (chosen Kept marks))
  pub smaller_is : p.smaller ≡ first_below (length s.groups) (in_list (lists_of s) p.group)
  pub larger_is :
      p.larger
      ≡ first_below (length s.groups) (λ v. in_list (lists_of s) p.group v && not (eqb (label_in s marks p.smaller) (label_in s marks v)))
