-- What the call promises beside its answer and its buffer: the reason is true of the growth, when one is given, and when 8 and 19 come. Laws/Promise proves it of every call.
use Rattle.std.specs.Prelude.{ℕ, ◌-◌, ◌≤◌, ◌<◌, ◌≡◌, Bool, List, ◌++◌, length, drop}
use Rattle.base_limits.specs.Verdict.{Outcome, refusal, answer}
use Rattle.theory_steiner.specs.Problem.{Joins, EdgeSet, all_usable}
use Rattle.survey_core.specs.Survey.{Survey, vertex_count, edge_count, problem_of, JoinsGroup}
use Rattle.survey_core.specs.Sound.{SurveySound}
use Rattle.why_rule.specs.Reason.{Reason, reason_of}
use Rattle.why_rule.specs.True.{TrueOf}
use Rattle.why_rule.specs.Why.{WhyCounts, why_counts, route_in}

-- None of 1 to 6, 18 and 7 applies: the survey is sound, and the buffer holds any route.
pub record Askable (s : Survey) (route_length : ℕ) : Type 0 where
  pub survey : SurveySound s
  pub route_fits : vertex_count s - 1 ≤ route_length

-- Nor does 8: all tracks together join every list.
pub record Joinable (s : Survey) (route_length : ℕ) : Type 0 where
  pub askable : Askable s route_length
  pub joins : Joins (problem_of s) (all_usable (problem_of s))

-- Nor does 19: there is such a track.
pub record Explainable (s : Survey) (route_length e : ℕ) : Type 0 where
  pub joinable : Joinable s route_length
  pub known : e < edge_count s

-- 8 applies with place g: g is the lowest list that no set of tracks joins.
pub record UnjoinableList (s : Survey) (route_length g : ℕ) : Type 0 where
  pub askable : Askable s route_length
  pub none_joins : (F : ℕ → Bool) → EdgeSet (problem_of s) F → JoinsGroup s F g → ⊥
  pub lower_joined : (i : ℕ) → i < g → JoinsGroup s (all_usable (problem_of s)) i

-- 19 applies with this place: the number asked for, which is no track's.
pub record UnknownTrack (s : Survey) (route_length e place : ℕ) : Type 0 where
  pub joinable : Joinable s route_length
  pub unknown : edge_count s ≤ e
  pub place_is : place ≡ e

-- A reason that the call gave in these numbers, in a buffer that held other entries before.
pub record GivenReason (s : Survey) (e : ℕ) (before after : List ℕ) (c : WhyCounts) : Type 0 where
  pub explainable : Explainable s (length before) e
  pub reason : Reason
  -- document 02, No. 3: 'true of document 01's growth'
  pub is_true : TrueOf s e reason
  pub counts_are : c ≡ why_counts reason
  -- its route stands in front, and what follows is as it was
  pub entries_are : after ≡ route_in reason ++ drop (length (route_in reason)) before
  -- a track that is not kept has no route, and the buffer stays
  pub no_route : (c.kind ≡ 2 → ⊥) → after ≡ before

-- What a call answers, for any survey, track number and buffer.
pub record WhyPromises (s : Survey) (e : ℕ) (before after : List ℕ) (o : Outcome WhyCounts) : Type 0 where
  -- a reason exactly if none of the refusals applies
  pub given : (c : WhyCounts) → o ≡ answer c → GivenReason s e before after c
  pub gives : Explainable s (length before) e → o ≡ answer (why_counts (reason_of s e))
  -- 8 exactly if no set of tracks joins some list, and then the lowest
  pub unjoinable : (g : ℕ) → o ≡ refusal 8 g → UnjoinableList s (length before) g
  pub unjoinable_refused : (g : ℕ) → UnjoinableList s (length before) g → o ≡ refusal 8 g
  -- 19 exactly if there is no such track, and after all others
  pub unknown : (place : ℕ) → o ≡ refusal 19 place → UnknownTrack s (length before) e place
  pub unknown_refused : (place : ℕ) → UnknownTrack s (length before) e place → o ≡ refusal 19 place
  -- a refusal leaves the buffer
  pub untouched : (number place : ℕ) → o ≡ refusal number place → after ≡ before
