-- Calls that return one number (document 01, 'Refused surveys and plans', the last two sentences of its paragraph): 0, or a refusal's number and place in one. Counts go into a lent buffer.
use Rattle.std.specs.Prelude.{ℕ, ◌+◌, ◌*◌, ◌-◌, ◌^◌, min, cond, List, ltb}
use Rattle.std.proofs.lemmas.List.Edits.{sets}
use Rattle.base_limits.specs.Verdict.{refuse_if, ◌before◌, written, Outcome, refusal, answer, outcome}
use Rattle.base_limits.specs.declared.Verdict.{Verdict}
use Rattle.base_limits.specs.declared.Verdict.TheVariants.{Fine, Refused}
use Rattle.survey_core.specs.Survey.{Survey}
use Rattle.survey_core.specs.Refusal.{survey_refusal}

-- a place counts this many times in the one number
abbrev pub place_unit : ℕ
place_unit = 256

-- the largest number of 64 bits
abbrev pub most_code : ℕ
most_code = 2 ^ 64 - 1

-- 0 for an answer, else number and place of the refusal in one.
unfoldable pub code_of : Verdict → ℕ
code_of Fine = 0
code_of (Refused number place) = number + place_unit * place

-- As far as 64 bits go; no refusal of a call is beyond (`exact_code`).
unfoldable pub capped : ℕ → ℕ
capped code = min code most_code

-- ---- counts

-- A buffer that is too short for the counts is 7, after 1 to 6 and 18 and before all else.
unfoldable pub with_counts : Survey → (wanted long : ℕ) → Verdict → Verdict
with_counts s wanted long rest = survey_refusal s before refuse_if (ltb long wanted) 7 0 before rest

-- What the lent counts hold at the end: the figures in document 01's order, and behind them what was there; a refusal writes nothing.
unfoldable pub counts_after : Verdict → (figures counts : List ℕ) → List ℕ
counts_after v figures counts = written v (sets counts 0 figures) counts

-- What was found in an outcome.
unfoldable pub verdict_of : {A : Type 0} → Outcome A → Verdict
verdict_of (refusal number place) = Refused number place
verdict_of (answer a) = Fine

-- The lent counts after an outcome; a refusal writes nothing.
unfoldable pub counts_for : {A : Type 0} → Outcome A → (figures : A → List ℕ) → (counts : List ℕ) → List ℕ
counts_for (refusal number place) figures counts = counts
counts_for (answer a) figures counts = sets counts 0 (figures a)

-- An answer whose counts do not fit is 7.
unfoldable pub room_for : {A : Type 0} → (wanted long : ℕ) → Outcome A → Outcome A
room_for wanted long (refusal number place) = refusal number place
room_for wanted long (answer a) = outcome (refuse_if (ltb long wanted) 7 0) a

-- How much of a buffer of so many entries a call lends on: nothing where its counts do not fit.
unfoldable pub lent_on : (long wanted whole : ℕ) → ℕ
lent_on long wanted whole = cond (ltb long wanted) 0 whole
