-- What dropping promises beside its answer and its buffer, for any marks 0 and 1 (document 02, No. 7). Laws/Dropping proves it of every call.
use Rattle.std.specs.Prelude.{ℕ, ◌≤◌, ◌<◌, ◌≡◌, ◌⊎◌, ◌↔◌, true, ◌&&◌, List, length, get_or, ltb}
use Rattle.base_limits.specs.Verdict.{Outcome, refusal, answer}
use Rattle.theory_graph.specs.Path.{Linked, without, Forest}
use Rattle.theory_steiner.specs.Problem.{Joins, terminals, cost}
use Rattle.survey_core.specs.Survey.{Survey, edge_count, problem_of}
use Rattle.survey_core.specs.Refusal.{LowestUnjoined}
use Rattle.survey_core.specs.Accuracy.{Accurate, DualBound}
use Rattle.survey_core.specs.Sound.{SurveySound}
use Rattle.survey_components.specs.Labels.{picked_in}
use Rattle.check_rule.specs.Check.{Checked, kept_by, checking}
use Rattle.plan_rule.specs.Dropping.{DropCounts, drop_counts_of}

-- None of 1 to 6, 18, 9 and 10 applies.
pub record Marked (s : Survey) (marks : List ℕ) : Type 0 where
  pub survey : SurveySound s
  pub marks_long : length marks ≡ edge_count s
  pub marks_known : (e : ℕ) → e < edge_count s → get_or marks e 0 ≤ 1

-- No picked track has its ends linked by the other picked ones.
abbrev pub PicksForest : Survey → (marks : List ℕ) → Type 0
PicksForest s marks = Forest (problem_of s).first (problem_of s).second (picked_in marks)

-- The picked tracks of number below e link the ends of e.
abbrev pub LinkedBelow : Survey → (marks : List ℕ) → ℕ → Type 0
LinkedBelow s marks e = Linked (problem_of s).first (problem_of s).second (λ f. ltb f e && picked_in marks f) ((problem_of s).first e) ((problem_of s).second e)

-- None applies at all: nor 21, nor 14.
pub record Droppable (s : Survey) (marks : List ℕ) : Type 0 where
  pub marked : Marked s marks
  pub forest : PicksForest s marks
  pub joins : Joins (problem_of s) (picked_in marks)

-- 21 applies at e: the lowest picked track that closes a loop with picked ones of lower number.
pub record LowestLoop (s : Survey) (marks : List ℕ) (e : ℕ) : Type 0 where
  pub marked : Marked s marks
  pub picked : picked_in marks e ≡ true
  pub closes : LinkedBelow s marks e
  pub lower_open : (i : ℕ) → i < e → picked_in marks i ≡ true → LinkedBelow s marks i → ⊥

-- 14 applies with place g: no loop, and g is the lowest list that the picked tracks leave apart.
pub record LowestApart (s : Survey) (marks : List ℕ) (g : ℕ) : Type 0 where
  pub marked : Marked s marks
  pub forest : PicksForest s marks
  pub lowest : LowestUnjoined s (picked_in marks) g

-- Marks that dropping has made of others, with what it answered.
pub record DroppedMarks (s : Survey) (before after : List ℕ) (c : DropCounts) : Type 0 where
  pub droppable : Droppable s before
  -- nothing is written but 1s that become 2s
  pub only_raised : (e : ℕ) → (get_or after e 0 ≡ get_or before e 0) ⊎ ((get_or before e 0 ≡ 1) × (get_or after e 0 ≡ 2))
  -- kept is what the picked tracks cannot join the lists without
  pub kept_needed : (e : ℕ) → (kept_by after e ≡ true) ↔ ((picked_in before e ≡ true) × (Joins (problem_of s) (without (picked_in before) e) → ⊥))
  -- the others go all at once: what is kept still joins every list
  pub joins : Joins (problem_of s) (kept_by after)
  -- and none of it can be spared
  pub none_spare : (e : ℕ) → kept_by after e ≡ true → Joins (problem_of s) (without (kept_by after) e) → ⊥
  pub terminals_are : c.terminals ≡ terminals (problem_of s)
  pub cost_is : c.cost ≡ cost (problem_of s) (kept_by after)
  -- accuracy, where the checker passes the marks with some moat records, whatever these are
  pub accuracy : (records : List ℕ) (k : Checked) → checking s after records ≡ answer k → Accurate s c.terminals c.cost
  -- and no joining set costs less than half the bound that it answers
  pub bound_halved : (records : List ℕ) (k : Checked) → checking s after records ≡ answer k → DualBound s k.bound

-- 21 came, at some track.
pub record LoopFound (o : Outcome DropCounts) : Type 0 where
  pub at : ℕ
  pub found : o ≡ refusal 21 at

-- What a call answers, for any survey and any marks.
pub record DropPromises (s : Survey) (before after : List ℕ) (o : Outcome DropCounts) : Type 0 where
  -- finished exactly if none of its refusals applies
  pub dropped : (c : DropCounts) → o ≡ answer c → DroppedMarks s before after c
  pub drops : Droppable s before → o ≡ answer (drop_counts_of s before)
  -- 21 exactly if a picked track closes a loop, and then the lowest; that is, exactly if the picked tracks are no forest
  pub loop : (e : ℕ) → o ≡ refusal 21 e → LowestLoop s before e
  pub loop_refused : (e : ℕ) → LowestLoop s before e → o ≡ refusal 21 e
  pub loop_found : Marked s before → (PicksForest s before → ⊥) → LoopFound o
  pub forest_passes : PicksForest s before → (e : ℕ) → o ≡ refusal 21 e → ⊥
  -- 14 exactly if the picked tracks are a forest that leaves a list apart, and then the lowest
  pub apart : (g : ℕ) → o ≡ refusal 14 g → LowestApart s before g
  pub apart_refused : (g : ℕ) → LowestApart s before g → o ≡ refusal 14 g
  -- neither 7 nor 8
  pub no_seven : (place : ℕ) → o ≡ refusal 7 place → ⊥
  pub no_eight : (place : ℕ) → o ≡ refusal 8 place → ⊥
