-- What is kept, by paths (document 01, 'How moats grow', the last rule, and demand 2): a picked track is kept exactly if the other picked tracks leave two members of a group without a
-- path; what is kept links all members of every group, and none of it can be spared.
use Rattle.std.specs.Prelude.{ℕ, ◌<◌, ◌≡◌, ◌↔◌, Bool, true, List}
use Rattle.theory_graph.specs.Path.{Linked, without}
use Rattle.survey_core.specs.Survey.{Survey, vertex_count, member, problem_of, JoinsGroup}
use Rattle.survey_components.specs.Labels.{picked_in}
use Rattle.check_rule.specs.Check.{kept_by}

-- Two members of one group that no path of tracks of F links.
pub record MembersApart (s : Survey) (F : ℕ → Bool) : Type 0 where
  pub group : ℕ
  pub first : ℕ
  pub second : ℕ
  pub first_below_law : first < vertex_count s
  pub second_below : second < vertex_count s
  pub first_member : member s group first ≡ true
  pub second_member : member s group second ≡ true
  pub apart : Linked (problem_of s).first (problem_of s).second F first second → ⊥

-- Marks that keep just what is needed.
pub record KeptByNeed (s : Survey) (marks : List ℕ) : Type 0 where
  pub kept_needed : (e : ℕ) → (kept_by marks e ≡ true) ↔ ((picked_in marks e ≡ true) × MembersApart s (without (picked_in marks) e))
  pub joins : (g : ℕ) → JoinsGroup s (kept_by marks) g
  pub none_spare : (e : ℕ) → kept_by marks e ≡ true → MembersApart s (without (kept_by marks) e)
