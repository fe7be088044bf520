-- Groups that carry a strength, and copies of tracks that meet it (document 02, No. 13: 'Winter rules'; source 003, section 3.3): what the call answers
-- and writes. The copies are those of theory_steiner, specs/Strength: a plan for each bit, in which a kept track counts 1, 2, 4 or 8 times.
use Rattle.std.specs.Prelude.{ℕ, ◌+◌, ◌-◌, ◌||◌, not, List, ◌++◌, length, get_or, drop, eqb, ltb}
use Rattle.base_finite.specs.Below.{tabulate}
use Rattle.base_limits.specs.Limits.{group_numbers}
use Rattle.base_limits.specs.Verdict.{refuse_if, ◌before◌, lowest_below, Outcome, refusal, answer, outcome, written}
use Rattle.base_limits.specs.declared.Verdict.{Verdict}
use Rattle.theory_steiner.specs.Problem.{all_usable}
use Rattle.theory_steiner.specs.Strength.{Strengths, copies_cost, strength_bits, copies}
use Rattle.survey_core.specs.Survey.{Survey, edge_count, member, problem_of}
use Rattle.survey_core.specs.Refusal.{survey_refusal, group_refusal}
use Rattle.winter_rule.specs.declared.Winter.{Winter}
use Rattle.winter_rule.specs.declared.Winter.TheVariants.{Finished, Refused}

-- strengths of one call: one for each group number but 0
abbrev pub strength_count : ℕ
strength_count = 255

-- the highest strength
abbrev pub max_strength : ℕ
max_strength = 15

-- The strength of group g in a list that begins with that of group 1.
unfoldable pub strength_of : (strengths : List ℕ) → (g : ℕ) → ℕ
strength_of strengths g = get_or strengths (g - 1) 0

-- The groups of a survey, by own groups and by pairs, with their strengths.
abbrev pub strengths_of : Survey → (strengths : List ℕ) → Strengths
strengths_of s strengths = record { groups = group_numbers; member = member s; strength = strength_of strengths }

-- ---- refusals

-- 24 for a strength of 0 or over 15, with the group as place.
unfoldable pub strength_refusal : (strength g : ℕ) → Verdict
strength_refusal strength g = refuse_if (eqb strength 0 || ltb max_strength strength) 24 g

-- 24: a list of another length at 0, whatever it holds; else the lowest group with such a strength, whether it has members or not.
unfoldable pub strengths_refusal : List ℕ → Verdict
strengths_refusal strengths =
    refuse_if (not (eqb (length strengths) strength_count)) 24 0
    before lowest_below strength_count (λ i. strength_refusal (get_or strengths i 0) (i + 1))

-- 1 to 6 and 18, then 24.
unfoldable pub given_refusal : Survey → (strengths : List ℕ) → Verdict
given_refusal s strengths = survey_refusal s before strengths_refusal strengths

-- Then 7 for fewer bytes of copies than tracks, then 8, once for all bits: the lowest group that all tracks do not join.
unfoldable pub winter_refusal : Survey → (strengths : List ℕ) → (copies_length : ℕ) → Verdict
winter_refusal s strengths copies_length =
    given_refusal s strengths
    before refuse_if (ltb copies_length (edge_count s)) 7 0
    before group_refusal s 8 (all_usable (problem_of s))

-- ---- copies and their price

-- How often track e is copied.
unfoldable pub copies_of : Survey → (strengths : List ℕ) → (e : ℕ) → ℕ
copies_of s strengths = copies (problem_of s) (strengths_of s strengths) strength_bits

-- What they cost, each at the full price.
unfoldable pub total_price : Survey → (strengths : List ℕ) → ℕ
total_price s strengths = copies_cost (problem_of s) (copies_of s strengths)

unfoldable pub wintering : Survey → (strengths : List ℕ) → (copies_length : ℕ) → Outcome ℕ
wintering s strengths copies_length = outcome (winter_refusal s strengths copies_length) (total_price s strengths)

-- A byte for each track, and behind them what stood there.
unfoldable pub copies_over : Survey → (strengths lent : List ℕ) → List ℕ
copies_over s strengths lent = tabulate (edge_count s) (copies_of s strengths) ++ drop (edge_count s) lent

-- What the lent bytes hold at the end.
unfoldable pub copies_after : Survey → (strengths lent : List ℕ) → List ℕ
copies_after s strengths lent = written (winter_refusal s strengths (length lent)) (copies_over s strengths lent) lent

-- What an answer says in the papers' numbers.
unfoldable pub winter_outcome : Winter → Outcome ℕ
winter_outcome (Finished total) = answer total
winter_outcome (Refused number place) = refusal number place
