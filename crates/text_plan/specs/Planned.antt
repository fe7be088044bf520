-- What is printed of planning's answer and of the buffers that it was lent.
use Rattle.std.specs.Prelude.{ℕ, ◌*◌, ◌/◌, ◌^◌, ◌<◌, cond, List, take, ltb}
use Rattle.base_limits.specs.Limits.{record_bytes}
use Rattle.base_limits.specs.Verdict.{Outcome, refusal, answer}
use Rattle.format_write.specs.Text.{plan_text, refusal_text}
use Rattle.plan_rule.specs.Plan.{PlanCounts}

-- The plan, with the first marks and as many records as there are moats, or the refusal's lines.
unfoldable pub planned_text : Outcome PlanCounts → (edges : ℕ) → (marks records : List ℕ) → List ℕ
planned_text (refusal number place) edges marks records = refusal_text number place
planned_text (answer c) edges marks records =
    plan_text c.terminals c.cost c.bound c.rounds (take edges marks) (take (record_bytes * c.duals) records)

-- As many bytes as these moats have records, or all.
unfoldable pub records_held : (duals room : ℕ) → ℕ
records_held duals room = cond (ltb (room / record_bytes) duals) room (record_bytes * duals)

-- The numbers that are printed are words of 64 bits.
pub data WordsIn : Outcome PlanCounts → Type 0 where
  refused_words : {number place : ℕ} → number < 2 ^ 64 → place < 2 ^ 64 → WordsIn (refusal number place)
  finished_words : {c : PlanCounts} → c.terminals < 2 ^ 64 → c.cost < 2 ^ 64 → c.bound < 2 ^ 64 → c.rounds < 2 ^ 64 → WordsIn (answer c)
