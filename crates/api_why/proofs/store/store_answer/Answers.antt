-- `store_answer` meets its contract: by what was answered.
use Rattle.why_rule.specs.Answer.{why_outcome}
use Rattle.api_why.specs.Stored.{why_figures_of, answer_code, answer_stored}
use Rattle.api_why.proofs.store.store_answer.Goals as goal

-- kept
pub returns-in-Kept : goal.returns-in-Kept
unfolding why_outcome why_figures_of answer_code answer_stored
returns-in-Kept c = let kept = c.in-Kept.is in record { value = rw kept; counts_value = rw kept c.store_six.ensures }

-- dropped
pub returns-in-Dropped : goal.returns-in-Dropped
unfolding why_outcome why_figures_of answer_code answer_stored
returns-in-Dropped c = let dropped = c.in-Dropped.is in record { value = rw dropped; counts_value = rw dropped c.store_six-in-Dropped.ensures }

-- not picked
pub returns-in-Passed : goal.returns-in-Passed
unfolding why_outcome why_figures_of answer_code answer_stored
returns-in-Passed c = let passed = c.in-Passed.is in record { value = rw passed; counts_value = rw passed c.store_six-in-Passed.ensures }

-- refused
pub returns-in-Refused : goal.returns-in-Refused
unfolding why_outcome answer_code answer_stored
returns-in-Refused c = let refused = c.in-Refused.is in record { value = rw refused c.code.ensures; counts_value = rw refused }
