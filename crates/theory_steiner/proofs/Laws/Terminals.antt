-- How many terminals there are (document 01, 'The survey and the plan'): never exactly one, since whoever a terminal must be linked with is one too.
use Rattle.std.specs.Prelude.{ℕ, ◌≤◌, ◌≡◌, true}
use Rattle.std.proofs.Common.{arith, sym}
use Rattle.base_finite.specs.Below.{count_below}
use Rattle.base_finite.specs.Laws.Below.{Found, count_elim, count_two}
use Rattle.theory_steiner.specs.Problem.{Problem, terminal, terminals}
use Rattle.theory_steiner.proofs.Laws.Joined.{Partner, terminal_elim, terminal_intro}

pub terminals_not_one : (p : Problem) → ((u v : ℕ) → p.required u v ≡ true → p.required v u ≡ true) → terminals p ≡ 1 → ⊥
unfolding terminals
terminals_not_one p symmetric h =
    let one : Found p.vertices (terminal p) = count_elim p.vertices (terminal p) (omega arith) in
    let other : Partner p one.at = terminal_elim p one.at one.passes in
    let back : terminal p other.vertex ≡ true =
    terminal_intro p other.vertex
    (record { vertex = one.at; below = one.below; other = λ e. other.other (sym e); required = symmetric other.vertex one.at other.required }) in
    let two : 2 ≤ count_below p.vertices (terminal p) =
    count_two p.vertices (terminal p) one.at other.vertex one.below other.below other.other one.passes back in
    absurd (omega arith)
