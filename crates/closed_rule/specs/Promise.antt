-- What the call promises beside its answer and its buffer (document 02, No. 12). Laws/Promise proves it of every call.
use Rattle.std.specs.Prelude.{ℕ, ◌*◌, ◌-◌, ◌≤◌, ◌<◌, ◌≡◌, Bool, false, List, [], ◌∷◌, length, get_or, take, drop}
use Rattle.base_limits.specs.Verdict.{Outcome, refusal, answer}
use Rattle.base_limits.specs.declared.Verdict.{Verdict}
use Rattle.base_limits.specs.declared.Verdict.TheVariants.{Fine, Refused}
use Rattle.theory_steiner.specs.Problem.{EdgeSet, Joins, all_usable, cost, terminals}
use Rattle.theory_steiner.specs.Pruning.{picked}
use Rattle.theory_steiner.specs.Closed.{closing}
use Rattle.survey_core.specs.Survey.{Survey, edge_count, problem_of, JoinsGroup}
use Rattle.survey_core.specs.Sound.{SurveySound}
use Rattle.plan_rule.specs.Plan.{plan_of}
use Rattle.closed_rule.specs.Closed.{max_closed, row_figures, ClosedCounts, closed_counts_of, closed_entry, row_of, result_after}

-- The accuracy rule with track c closed: of sets that avoid c, of the cost x written, and of the k given.
pub record AccurateAvoiding (s : Survey) (c k x : ℕ) : Type 0 where
  pub factor : (F : ℕ → Bool) → EdgeSet (problem_of s) F → F c ≡ false → Joins (problem_of s) F → k * x ≤ (2 * k - 2) * cost (problem_of s) F
  pub free : k ≡ 0 → x ≡ 0

-- Neither 19 nor 8 applies: c is a track, and the others together join every group.
pub record Closable (s : Survey) (c : ℕ) : Type 0 where
  pub known : c < edge_count s
  pub joinable : Joins (problem_of s) (all_usable (closing (problem_of s) c))

-- 8 applies with place g: c is a track, and g is the lowest group that no set of tracks joins without c.
pub record ClosedUnjoinable (s : Survey) (c g : ℕ) : Type 0 where
  pub known : c < edge_count s
  pub none_joins : (F : ℕ → Bool) → EdgeSet (problem_of s) F → F c ≡ false → JoinsGroup s F g → ⊥
  pub lower_joined : (i : ℕ) → i < g → JoinsGroup s (all_usable (closing (problem_of s) c)) i

-- What is answered for track number c.
pub record EntryPromises (s : Survey) (c : ℕ) (o : Outcome ClosedCounts) : Type 0 where
  -- a plan exactly if neither applies; it is accurate, by the survey's own k
  pub planned : (f : ClosedCounts) → o ≡ answer f → Closable s c × AccurateAvoiding s c (terminals (problem_of s)) f.cost
  pub plans : Closable s c → o ≡ answer (closed_counts_of (plan_of (closing (problem_of s) c)))
  -- 19 for every number that is no track's, with itself as place, before 8
  pub unknown : edge_count s ≤ c → o ≡ refusal 19 c
  -- 8 exactly if no set of open tracks joins some group, and then the lowest
  pub unjoinable : (g : ℕ) → o ≡ refusal 8 g → ClosedUnjoinable s c g
  pub unjoinable_refused : (g : ℕ) → ClosedUnjoinable s c g → o ≡ refusal 8 g
  -- planning's own figures where all tracks join every group and c was not picked
  pub unpicked_same : c < edge_count s → Joins (problem_of s) (all_usable (problem_of s)) → picked (problem_of s) c ≡ false
      → o ≡ answer (closed_counts_of (plan_of (problem_of s)))

-- None of 1 to 6, 18 and 7 applies.
pub record ClosedReady (s : Survey) (tracks_length result_length : ℕ) : Type 0 where
  pub survey : SurveySound s
  pub tracks_few : tracks_length ≤ max_closed
  pub result_long : row_figures * tracks_length ≤ result_length

-- The i-th row of a result.
abbrev pub row_at : List ℕ → ℕ → List ℕ
row_at result i = take row_figures (drop (row_figures * i) result)

-- What a call answers and leaves, for any survey, list and buffer.
pub record ClosedPromises (s : Survey) (tracks before after : List ℕ) (v : Verdict) : Type 0 where
  -- refused exactly if one of 1 to 6, 18 and 7 applies, and then nothing is written
  pub ready : v ≡ Fine → ClosedReady s (length tracks) (length before)
  pub goes : ClosedReady s (length tracks) (length before) → v ≡ Fine
  pub unwritten : (number place : ℕ) → v ≡ Refused number place → after ≡ before
  -- each row is what is promised of its track, whatever the others are
  pub rows : v ≡ Fine → (i : ℕ) → i < length tracks → row_at after i ≡ row_of (closed_entry s (get_or tracks i 0))
  pub entries : v ≡ Fine → (i : ℕ) → EntryPromises s (get_or tracks i 0) (closed_entry s (get_or tracks i 0))
  -- it is what a call for that track alone writes
  pub alone : v ≡ Fine → (i : ℕ) → i < length tracks → (other : List ℕ) → row_figures ≤ length other
      → row_at after i ≡ row_at (result_after s (get_or tracks i 0 ∷ []) other) 0
  -- and what follows the rows is as it was
  pub kept : drop (row_figures * length tracks) after ≡ drop (row_figures * length tracks) before
