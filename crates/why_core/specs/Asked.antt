-- What explaining asks.
use Rattle.std.specs.Prelude.{ℕ, ◌<◌, ◌≡◌, true, List, length, get_or}
use Rattle.theory_steiner.specs.Pruning.{kept, mark}
use Rattle.survey_core.specs.Survey.{Survey, lists_of, problem_of}
use Rattle.survey_core.specs.Sound.{ByteGroups}
use Rattle.survey_lists.specs.Pouring.{poured_groups}
use Rattle.why_rule.specs.Promise.{Explainable}

-- None of the refusals applies, and the lists are those that the survey's are poured into.
pub record Asked (s : Survey) (lists : List ℕ) (route_length e : ℕ) : Type 0 where
  pub numbered : ByteGroups s
  pub ok : Explainable s route_length e
  pub poured : lists ≡ poured_groups (lists_of s)

-- The track is kept, and the marks are the plan's.
pub record KeptAsked (s : Survey) (lists marks : List ℕ) (route_length e : ℕ) : Type 0 where
  pub asked : Asked s lists route_length e
  pub marks_are : (f : ℕ) → f < length s.firsts → get_or marks f 0 ≡ mark (problem_of s) f
  pub is_kept : kept (problem_of s) e ≡ true
