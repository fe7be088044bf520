-- Demand 1 for texts: what the program `plan` prints, by what the text is (document 01, 'Refused surveys and plans' and 'Survey text and printed plan'; document 02, No. 2). Each case names what
-- was found; Laws/Texts proves that every text is one of them, and that the text of every sound survey whose groups can be joined prints its plan.
use Rattle.std.specs.Prelude.{ℕ, ◌+◌, ◌≤◌, ◌<◌, ◌≡◌, ◌⊎◌, List, ◌++◌, length, get_or, take}
use Rattle.base_limits.specs.Limits.{max_weight}
use Rattle.format_write.specs.Text.{refusal_text}
use Rattle.format_survey.specs.Line.{widest}
use Rattle.format_survey.specs.Reading.{SurveyText}
use Rattle.format_survey.specs.WellFormed.{WellFormed, Begins, Accepting}
use Rattle.format_survey.specs.Beginning.{VerticesOut, EdgesOver, HighGroup, PairFaulty}
use Rattle.format_survey_print.specs.Print.{survey_text}
use Rattle.theory_steiner.specs.Problem.{Joins, all_usable}
use Rattle.survey_core.specs.Survey.{Survey, vertex_count, edge_count, problem_of}
use Rattle.survey_core.specs.Sound.{EdgeSound, SurveySound, ByteGroups}
use Rattle.survey_core.specs.Refusal.{LowestUnjoined}
use Rattle.check_printed.specs.Verify.{survey_in}
use Rattle.text_plan.specs.Output.{plan_output}
use Rattle.theorems.specs.Printed.{plan_for, printed_plan}

-- 16 at p: the bytes before p begin a well-formed text, with the byte at p none does, and the whole text is none.
pub record MalformedAt (t : List ℕ) (p : ℕ) : Type 0 where
  pub begins : Begins t p
  pub stops : p < length t → (rest : List ℕ) → WellFormed (take (p + 1) t ++ rest) → ⊥
  pub not_whole : WellFormed t → ⊥

-- 4, 5 or 6 at a track: an end of n or more; else both ends equal; else a price over the limit.
pub data EdgeFault (s : Survey) (number e : ℕ) : Type 0 where
  end_out : number ≡ 4 → (vertex_count s ≤ get_or s.firsts e 0) ⊎ (vertex_count s ≤ get_or s.seconds e 0) → EdgeFault s number e
  ends_equal : number ≡ 5 → get_or s.firsts e 0 < vertex_count s → get_or s.seconds e 0 < vertex_count s → get_or s.firsts e 0 ≡ get_or s.seconds e 0 → EdgeFault s number e
  price_over : number ≡ 6 → get_or s.firsts e 0 < vertex_count s → get_or s.seconds e 0 < vertex_count s → (get_or s.firsts e 0 ≡ get_or s.seconds e 0 → ⊥)
      → max_weight < get_or s.weights e 0 → EdgeFault s number e

-- The lowest track with such a fault.
pub record LowestFault (s : Survey) (number e : ℕ) : Type 0 where
  pub below : e < edge_count s
  pub fault : EdgeFault s number e
  pub lower : (i : ℕ) → i < e → EdgeSound s i

-- What is printed for a text: a plan, or a refusal's number and place.
pub data TextPrints (t out : List ℕ) : Type 0 where
  -- the text says a sound survey whose groups all tracks together join: its plan
  planned : (s : SurveyText) → Accepting widest t s → SurveySound (survey_in s) → Joins (problem_of (survey_in s)) (all_usable (problem_of (survey_in s))) → out ≡ printed_plan (plan_for s) → TextPrints t out
  -- the text is malformed: 16
  malformed : (p : ℕ) → MalformedAt t p → out ≡ refusal_text 16 p → TextPrints t out
  -- it begins with a count of junctions that is 0 or too large: 1; else with one of tracks that is too large: 3
  vertices_refused : VerticesOut t → out ≡ refusal_text 1 0 → TextPrints t out
  edges_refused : EdgesOver widest t → out ≡ refusal_text 3 0 → TextPrints t out
  -- else with lines up to a group over 255: 17; or up to a pair at fault: 18
  group_over : (v : ℕ) → HighGroup widest t v → out ≡ refusal_text 17 v → TextPrints t out
  pair_at_fault : (i : ℕ) → PairFaulty widest t i → out ≡ refusal_text 18 i → TextPrints t out
  -- it says a survey with a track to which 4, 5 or 6 comes
  faulty : (s : SurveyText) → Accepting widest t s → (number e : ℕ) → LowestFault (survey_in s) number e → out ≡ refusal_text number e → TextPrints t out
  -- it says a sound survey with a group that no tracks join: 8
  unjoined : (s : SurveyText) → Accepting widest t s → SurveySound (survey_in s) → (g : ℕ) → LowestUnjoined (survey_in s) (all_usable (problem_of (survey_in s))) g → out ≡ refusal_text 8 g → TextPrints t out

-- Demand 1 for texts.
pub record TextsPlanned : Type 0 where
  -- the text of every sound survey whose groups can be joined prints its plan
  pub sound_planned : (s : SurveyText) → SurveySound (survey_in s) → ByteGroups (survey_in s) → Joins (problem_of (survey_in s)) (all_usable (problem_of (survey_in s)))
      → plan_output (survey_text s) ≡ printed_plan (plan_for s)
  -- and every text prints a plan or its refusal, by the case that it is
  pub every_text : (t : List ℕ) → TextPrints t (plan_output t)
