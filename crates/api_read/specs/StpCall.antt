-- Reading an STP text with lent counts: what the call answers and leaves in its buffers, by the library's own definitions.
use Rattle.std.specs.Prelude.{ℕ, cond, List, [], ◌∷◌, ltb}
use Rattle.base_limits.specs.Verdict.{Outcome}
use Rattle.format_survey.specs.Line.{SurveyCounts}
use Rattle.format_stp.specs.StpReading.{StpContent, stp_reading}

-- entries of the counts: n and m
abbrev pub stp_figures : ℕ
stp_figures = 2

unfoldable pub stp_figures_of : SurveyCounts → List ℕ
stp_figures_of c = c.vertices ∷ c.edges ∷ []

-- A buffer that is too short for the counts is judged as a group buffer of no length, so that 7 comes at the line `Nodes n`, after 1.
unfoldable pub stp_call : (t groups firsts seconds weights : List ℕ) (counts : ℕ) → Outcome StpContent
stp_call t groups firsts seconds weights counts = stp_reading t (cond (ltb counts stp_figures) [] groups) firsts seconds weights
