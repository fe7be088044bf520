-- Reading with lent counts: what the call answers and leaves in its buffers, by the library's own definitions.
use Rattle.std.specs.Prelude.{ℕ, cond, List, [], ◌∷◌, ltb}
use Rattle.base_limits.specs.Verdict.{Outcome}
use Rattle.format_survey.specs.Line.{Lengths}
use Rattle.format_survey.specs.Reading.{SurveyText, reading}
use Rattle.format_survey.specs.Answer.{TextCounts}

-- entries of the counts of reading: n, m and the number of pairs
abbrev pub read_figures : ℕ
read_figures = 3

unfoldable pub read_figures_of : TextCounts → List ℕ
read_figures_of c = c.vertices ∷ c.edges ∷ c.pairs ∷ []

-- A buffer that is too short for the counts is judged as a group buffer of no length, so that 7 comes at the nodes line, after 1.
unfoldable pub lent_for : Lengths → (counts : ℕ) → Lengths
lent_for lent counts =
    record {
      groups = cond (ltb counts read_figures) 0 lent.groups;
      firsts = lent.firsts;
      seconds = lent.seconds;
      weights = lent.weights;
      owners = lent.owners;
      others = lent.others;
    }

unfoldable pub read_call : List ℕ → Lengths → (counts : ℕ) → Outcome SurveyText
read_call text lent counts = reading text (lent_for lent counts)
