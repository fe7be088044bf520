-- Document 01, 'What a plan holds': the marks, and what judging a batch of edges, as many as a word has bits, makes of them.
use Rattle.std.specs.Prelude.{ℕ, Bool, cond, ◌&&◌, List}
use Rattle.base_finite.specs.Below.{count_below}
use Rattle.theory_steiner.specs.Problem.{Problem}
use Rattle.theory_steiner.specs.Pruning.{needed, mark_of}
use Rattle.base_limits.specs.Verdict.{written}
use Rattle.survey_core.specs.Survey.{Survey, edge_count, problem_of}
use Rattle.survey_components.specs.Labels.{picked_in}
use Rattle.survey_components.specs.Forest.{forest_refusal}
use Rattle.base_buffer.specs.Store.{remade}
use Rattle.plan_drop.specs.Word.{in_batch}

-- The marks of the edges of F below m with 2 for the needed ones; what lies past them stays.
unfoldable pub pruned_marks : Problem → (ℕ → Bool) → (m : ℕ) → List ℕ → List ℕ
pruned_marks p F m marks = remade (λ e mark. mark_of (F e) (needed p F e)) m marks

-- What a lent buffer of marks holds after pruning: a refusal writes nothing.
unfoldable pub marks_pruned : Survey → (picked marks : List ℕ) → List ℕ
marks_pruned s picked marks =
    written (forest_refusal s picked) (pruned_marks (problem_of s) (picked_in picked) (edge_count s) marks) marks

-- A batch's marks, where the edges' needs are known.
unfoldable pub batch_marks : Problem → (ℕ → Bool) → (base m : ℕ) → List ℕ → List ℕ
batch_marks p F base m marks = remade (λ e mark. cond (F e && (in_batch base (count_below e F) && needed p F e)) 2 mark) m marks
