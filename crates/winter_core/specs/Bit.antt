-- The survey of one bit (document 02, No. 13: 'plan for the groups with that bit'), as buffers: own groups whose strength lacks the bit are 0, and pairs of
-- such groups are left out. Its problem is that of the bit (law `bit_survey_problem`).
use Rattle.std.specs.Prelude.{ℕ, zero, suc, ◌+◌, ◌*◌, ◌^◌, ◌<◌, ◌≡◌, Bool, cond, List, [], ◌∷◌, ◌++◌, length, get_or, drop}
use Rattle.base_finite.specs.Below.{count_below, tabulate}
use Rattle.base_limits.specs.Verdict.{Outcome, refusal, answer}
use Rattle.theory_steiner.specs.Problem.{cost}
use Rattle.theory_steiner.specs.Pruning.{kept}
use Rattle.theory_steiner.specs.Strength.{has_bit, bit_problem, copies}
use Rattle.survey_core.specs.Survey.{Survey, survey_with, edge_count, problem_of}
use Rattle.plan_rule.specs.Figures.{FigureCounts}
use Rattle.winter_rule.specs.Winter.{strength_of, strengths_of}

-- The strength of group g has bit b.
unfoldable pub carries : (strengths : List ℕ) → (b g : ℕ) → Bool
carries strengths b g = has_bit (strength_of strengths g) b

-- Such a group as it is, another as none.
unfoldable pub bit_group : (strengths : List ℕ) → (b g : ℕ) → ℕ
bit_group strengths b g = cond (carries strengths b g) g 0

-- The entries of a list, of the first n, whose places pass a test.
unfoldable pub passing : (t : ℕ → Bool) → List ℕ → (n : ℕ) → List ℕ
passing t l zero = []
passing t l (suc n) = passing t l n ++ cond (t n) (get_or l n 0 ∷ []) []

-- The group of pair i has the bit.
abbrev pub pair_carries : (strengths others : List ℕ) → (b i : ℕ) → Bool
pair_carries strengths others b i = carries strengths b (get_or others i 0)

abbrev pub bit_survey : Survey → (strengths : List ℕ) → (b : ℕ) → Survey
bit_survey s strengths b =
    survey_with (tabulate (length s.groups) (λ v. bit_group strengths b (get_or s.groups v 0))) s.firsts s.seconds s.weights
    (passing (pair_carries strengths s.others b) s.owners (length s.owners))
    (passing (pair_carries strengths s.others b) s.others (length s.owners))

-- A buffer with the passing entries in front.
unfoldable pub passed : (t : ℕ → Bool) → (l room : List ℕ) → (n : ℕ) → List ℕ
passed t l room n = passing t l n ++ drop (count_below n t) room

-- The cost that figures say; a refusal has none.
unfoldable pub figured_cost : Outcome FigureCounts → ℕ
figured_cost (refusal number place) = 0
figured_cost (answer f) = f.cost

-- The price of the copies for bit b.
unfoldable pub bit_price : Survey → (strengths : List ℕ) → (b : ℕ) → ℕ
bit_price s strengths b = let p = bit_problem (problem_of s) (strengths_of s strengths) b in 2 ^ b * cost p (kept p)

-- Bytes that hold the copies for the first b bits, and these written over others.
abbrev pub CopiedFor : Survey → (strengths : List ℕ) → (b : ℕ) → (bytes : List ℕ) → Type 0
CopiedFor s strengths b bytes = (e : ℕ) → e < edge_count s → get_or bytes e 0 ≡ copies (problem_of s) (strengths_of s strengths) b e

unfoldable pub copies_for : Survey → (strengths lent : List ℕ) → (b : ℕ) → List ℕ
copies_for s strengths lent b = tabulate (edge_count s) (copies (problem_of s) (strengths_of s strengths) b) ++ drop (edge_count s) lent

-- Each of the first m bytes has room for so many more.
abbrev pub Room : (bytes : List ℕ) → (m times : ℕ) → Type 0
Room bytes m times = (e : ℕ) → e < m → get_or bytes e 0 + times < 256
