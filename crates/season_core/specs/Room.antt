-- The call's own refusal, in the numbers that it is decided by (laws `plan_refusal_law`, `count_refusal_law`).
use Rattle.std.specs.Prelude.{ℕ, ◌+◌, ◌||◌, leb}
use Rattle.base_limits.specs.Verdict.{refuse_if}
use Rattle.base_limits.specs.declared.Verdict.{Verdict}
use Rattle.season_rule.specs.Report.{max_surveys, word_limit}

-- Of a plan: the total so far and what is added to it, of costs and of bounds.
unfoldable pub plan_refusal : (surveys planned costs cost bounds bound : ℕ) → Verdict
plan_refusal surveys planned costs cost bounds bound =
    refuse_if (leb max_surveys surveys || (leb word_limit (planned + 1) || (leb word_limit (costs + cost) || leb word_limit (bounds + bound)))) 3 0

-- Of a refusal: the count of its number so far.
unfoldable pub count_refusal : (surveys count : ℕ) → Verdict
count_refusal surveys count = refuse_if (leb max_surveys surveys || leb word_limit (count + 1)) 3 0
