-- There is room for the marks that are lent on, and for all of a survey within the limits.
use Rattle.std.specs.Prelude.{ℕ, ◌≤◌, ◌<◌, ◌≡◌, cond, List, length, replicate}
use Rattle.std.proofs.Common.{arith, ap, sym, ◌∙◌, ⊎_elim, lt-ltb, le-ltb}
use Rattle.std.proofs.lemmas.List.{length-replicate}
use Rattle.base_finite.specs.Laws.Below.{lt_or_ge}
use Rattle.base_limits.specs.Limits.{max_edges}
use Rattle.base_buffer.proofs.Laws.Store.{length_remade}
use Rattle.why_core.specs.Kept.{held_marks, marks_but}

pub held_many : (m : ℕ) → max_edges < m → max_edges ≡ held_marks m
unfolding held_marks
held_many m b = sym (ap (λ t. cond t max_edges m) (lt-ltb max_edges m b))

pub held_few : (m : ℕ) → m ≤ max_edges → held_marks m ≡ m
unfolding held_marks
held_few m b = ap (λ t. cond t max_edges m) (le-ltb max_edges m b)

pub held_le : (m : ℕ) {r : ℕ} → r ≡ held_marks m → r ≤ max_edges
held_le m r_is =
    ⊎_elim
    (λ b. let h = held_many m b in omega arith)
    (λ b. let h = held_few m b in omega arith)
    (lt_or_ge max_edges m)

pub but_long : (marks : List ℕ) (least out m : ℕ) {all : List ℕ} → all ≡ marks_but marks least out m → length all ≡ max_edges
but_long marks least out m all_are = ap length all_are ∙ length_remade _ m (replicate max_edges 0) ∙ length-replicate {A = ℕ} max_edges 0
