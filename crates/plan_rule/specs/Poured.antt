-- Planning with lists beside planning with the groups that they are poured into (document 02, No. 2): the same, or both refuse with 8, each naming a list of its own.
use Rattle.std.specs.Prelude.{ℕ, ◌≡◌, List}
use Rattle.base_limits.specs.Verdict.{Outcome, refusal}
use Rattle.survey_core.specs.Survey.{Survey}
use Rattle.plan_rule.specs.Plan.{planning, counting, marks_after, records_after}

pub data SameButPlace {A : Type 0} (o q : Outcome A) : Type 0 where
  same : o ≡ q → SameButPlace o q
  unjoinable : (g h : ℕ) → o ≡ refusal 8 g → q ≡ refusal 8 h → SameButPlace o q

-- Planning s equals planning t but for the place of 8: the plan, what the call answers, and what the two lent buffers hold, for buffers of any length and content.
pub record PlannedAlike (s t : Survey) : Type 0 where
  pub plan : (marks_length records_length : ℕ) → SameButPlace (planning s marks_length records_length) (planning t marks_length records_length)
  pub counts : (marks_length records_length : ℕ) → SameButPlace (counting s marks_length records_length) (counting t marks_length records_length)
  pub marks_left : (marks records : List ℕ) → marks_after s marks records ≡ marks_after t marks records
  pub records_left : (marks records : List ℕ) → records_after s marks records ≡ records_after t marks records
