-- Document 01, 'What a plan holds': the marks before any picked edge is judged.
use Rattle.std.specs.Prelude.{ℕ, Bool, false, List}
use Rattle.theory_steiner.specs.Pruning.{mark_of}
use Rattle.base_buffer.specs.Store.{remade}

-- The first marks: every edge of F is dropped.
unfoldable pub dropped_marks : (ℕ → Bool) → (m : ℕ) → List ℕ → List ℕ
dropped_marks F m marks = remade (λ e mark. mark_of (F e) false) m marks
