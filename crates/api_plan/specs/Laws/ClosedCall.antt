-- The call's refusals fit one number.
use Rattle.std.specs.Prelude.{ℕ}
use Rattle.std.proofs.Common.{lit<}
use Rattle.survey_core.specs.Survey.{Survey}
use Rattle.api_code.specs.Laws.Encodable.{Encodable, encodable_before, encodable_refuse, at_zero, survey_encodable}
use Rattle.closed_rule.specs.Closed.{closed_refusal}

pub closed_encodable : (s : Survey) (tracks_length result_length : ℕ) → Encodable (closed_refusal s tracks_length result_length)
unfolding closed_refusal
closed_encodable s tracks_length result_length = encodable_before _ _ (survey_encodable s) λ _. encodable_refuse _ (at_zero 7 (lit< tt) (lit< tt))
