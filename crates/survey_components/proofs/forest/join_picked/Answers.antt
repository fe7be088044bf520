-- `join_picked` meets its contract: a branch on whether the edge is picked, and one on whether it closes a loop.
use mathlib.Core.Path.{sym, ◌∙◌}
use Rattle.base_limits.specs.Laws.Verdict.{refuse_true, refuse_false}
use Rattle.survey_components.proofs.forest.join_picked.Goals as goal

-- 21
pub returns-then-linked : goal.returns-then-linked
returns-then-linked c =
    let in_set = sym c.is_picked.ensures ∙ c.if-is_picked.true in
    let linked = sym c.hang_ends-linked.ensures.one ∙ c.if-linked.true in record { closed = sym (refuse_true (rw (in_set, ← c.at.ensures, ← c.at-then-is_picked.ensures) linked) 21 _); joined = rw (in_set, ← c.at.ensures, ← c.at-then-is_picked.ensures) c.hang_ends-linked.ensures.hung }

-- picked, and no loop
pub returns-then-is_picked : goal.returns-then-is_picked
returns-then-is_picked c =
    let in_set = sym c.is_picked.ensures ∙ c.if-is_picked.true in
    let apart = sym c.hang_ends-linked.ensures.one ∙ c.if-linked.false in record { closed = sym (refuse_false (rw (in_set, ← c.at.ensures, ← c.at-then-is_picked.ensures) apart) 21 _); joined = rw (in_set, ← c.at.ensures, ← c.at-then-is_picked.ensures) c.hang_ends-linked.ensures.hung }

-- not picked
pub returns : goal.returns
returns c =
    let out = sym c.is_picked.ensures ∙ c.if-is_picked.false in record { closed = sym (refuse_false (rw out) 21 _); joined = rw out }
