-- `explain` meets its contract: the marks are those of the plan (`mark_at`), and each is explained.
use mathlib.Core.Path.{refl, sym, ◌∙◌}
use Rattle.why_core.specs.Laws.Grown.{into_sound, picked_long, order_long, rounds_few, marks_long, kept_asked, no_other_mark, dropped_answer, passed_answer}
use Rattle.why_core.specs.Laws.Kept.{kept_answered}
use borrow.Author.Rules.{rules}
use Rattle.std.proofs.Common.{arith}
use Rattle.why_core.proofs.explain.Goals as goal

pub slice_bounds-plan_marks-end : goal.slice_bounds-plan_marks-end
slice_bounds-plan_marks-end c =
    let few = c.requires.ok.joinable.askable.survey.edges_few in
    let long = picked_long _ c.requires c.grow-grown.ensures in
    search (rules, few, long)

pub slice_bounds-at-end : goal.slice_bounds-at-end
slice_bounds-at-end c =
    sym (marks_long _ c.requires c.grow-grown.ensures c.plan_marks-marks.ensures)

pub slice_bounds-picks-end : goal.slice_bounds-picks-end
slice_bounds-picks-end c =
    let fewer = rounds_few _ c.requires c.grow-grown.ensures c.plan_marks-marks.ensures in
    let few = (into_sound _ c.requires).few in
    let long = order_long _ c.requires c.grow-grown.ensures in
    search (rules, fewer, few, long)

pub slice_bounds-explain_kept-end : goal.slice_bounds-explain_kept-end
slice_bounds-explain_kept-end c =
    sym (marks_long _ c.requires c.grow-grown.ensures c.plan_marks-marks.ensures)

-- not picked
pub returns-in-0 : goal.returns-in-0
returns-in-0 c =
    let whole = passed_answer _ c.requires c.grow-grown.ensures c.plan_marks-marks.ensures _ (sym c.at.ensures ∙ c.in-0.is) c.join_round-round.ensures refl in record { result_value = whole.0; route_value = whole.1 }

-- dropped
pub returns-in-1 : goal.returns-in-1
returns-in-1 c =
    let whole = dropped_answer _ c.requires c.grow-grown.ensures c.plan_marks-marks.ensures _ (sym c.at.ensures ∙ c.in-1.is) in record { result_value = whole.0; route_value = whole.1 }

-- kept
pub returns-in-2 : goal.returns-in-2
returns-in-2 c =
    let whole = kept_answered _ _
    (kept_asked _ c.requires c.grow-grown.ensures c.plan_marks-marks.ensures (sym c.at.ensures ∙ c.in-2.is))
    c.explain_kept.ensures in record { result_value = whole.0; route_value = whole.1 }

-- no other mark
pub returns-in_default : goal.returns-in_default
returns-in_default c =
    absurd
    (no_other_mark _ c.requires c.grow-grown.ensures c.plan_marks-marks.ensures (λ z. omega (arith, c.at.ensures)) (λ z. omega (arith, c.at.ensures))
    (λ z. omega (arith, c.at.ensures)))
