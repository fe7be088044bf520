-- What asking why answers in one number, and leaves in lent counts that hold six.
use Rattle.std.specs.Prelude.{ℕ, ◌+◌, ◌*◌, List, [], ◌∷◌}
use Rattle.std.proofs.lemmas.List.Edits.{sets}
use Rattle.base_limits.specs.Verdict.{Outcome, refusal, answer}
use Rattle.why_rule.specs.Why.{WhyCounts}
use Rattle.api_code.specs.Code.{place_unit, capped}

-- The six numbers of a reason, in their order.
unfoldable pub why_figures_of : WhyCounts → List ℕ
why_figures_of c = c.kind ∷ c.group ∷ c.low ∷ c.high ∷ c.entries ∷ c.round ∷ []

-- 0 for a reason; number and place of a refusal in one, or the largest code where they do not fit.
unfoldable pub answer_code : Outcome WhyCounts → ℕ
answer_code (refusal number place) = capped (number + place_unit * place)
answer_code (answer c) = 0

-- The counts after it: a refusal stores nothing.
unfoldable pub answer_stored : Outcome WhyCounts → (counts : List ℕ) → List ℕ
answer_stored (refusal number place) counts = counts
answer_stored (answer c) counts = sets counts 0 (why_figures_of c)
