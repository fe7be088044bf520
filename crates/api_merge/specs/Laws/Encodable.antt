-- Every refusal of merging fits one number: its ties end in 22 at place n, if not before, however many are lent.
use Rattle.std.specs.Prelude.{ℕ, ◌<◌, ◌≤◌, ◌^◌, length}
use Rattle.std.proofs.Common.{arith, lit<}
use Rattle.base_limits.specs.Limits.{max_vertices}
use Rattle.survey_core.specs.Survey.{Survey, vertex_count}
use Rattle.survey_core.proofs.Laws.Refusal.{fine_survey}
use Rattle.api_code.specs.Laws.Encodable.{Encodable, at_zero, at_place, encodable_refuse, encodable_before, encodable_first, survey_encodable}
use Rattle.merge_rule.specs.Ties.{Ties}
use Rattle.merge_rule.specs.Merged.{merged}
use Rattle.merge_rule.specs.Refusal.{SurveyCounts, counts_of, Room, tie_refusal, ties_refusal, large_refusal, room_refusal, merge_refusal}
use Rattle.merge_rule.proofs.Laws.Refusal.{ties_before_few}

tie_encodable : (n m : ℕ) (ties : Ties) (i : ℕ) → i < 2 ^ 32 → Encodable (tie_refusal n m ties i)
unfolding tie_refusal
tie_encodable n m ties i b =
    encodable_before _ _ (encodable_refuse _ (at_place 22 (lit< tt) (lit< tt) b)) λ _.
    encodable_before _ _ (encodable_refuse _ (at_place 22 (lit< tt) (lit< tt) b)) λ _.
    encodable_refuse _ (at_place 22 (lit< tt) (lit< tt) b)

ties_encodable : (n m : ℕ) (ties : Ties) → n ≤ max_vertices → Encodable (ties_refusal n m ties)
unfolding ties_refusal
ties_encodable n m ties few =
    encodable_before _ _ (encodable_refuse _ (at_zero 2 (lit< tt) (lit< tt))) λ _.
    encodable_first (length ties.firsts) (tie_refusal n m ties) λ i b none.
    tie_encodable n m ties i (let most = ties_before_few n m ties i none in omega arith)

large_encodable : (c : SurveyCounts) → Encodable (large_refusal c)
unfolding large_refusal
large_encodable c =
    encodable_before _ _ (encodable_refuse _ (at_zero 1 (lit< tt) (lit< tt))) λ _.
    encodable_before _ _ (encodable_refuse _ (at_zero 3 (lit< tt) (lit< tt))) λ _.
    encodable_refuse _ (at_place 18 (lit< tt) (lit< tt) (lit< tt))

room_encodable : (c : SurveyCounts) (room : Room) → Encodable (room_refusal c room)
unfolding room_refusal
room_encodable c room =
    encodable_before _ _ (encodable_refuse _ (at_zero 7 (lit< tt) (lit< tt))) λ _.
    encodable_before _ _ (encodable_refuse _ (at_zero 7 (lit< tt) (lit< tt))) λ _.
    encodable_refuse _ (at_zero 7 (lit< tt) (lit< tt))

pub merge_encodable : (a b : Survey) (ties : Ties) (room : Room) → Encodable (merge_refusal a b ties room)
unfolding merge_refusal vertex_count
merge_encodable a b ties room =
    encodable_before _ _ (survey_encodable a) λ first.
    encodable_before _ _ (survey_encodable b) λ _.
    encodable_before _ _ (ties_encodable (length a.groups) (length b.groups) ties (fine_survey a first).few) λ _.
    encodable_before _ _ (large_encodable (counts_of (merged a b ties))) λ _.
    room_encodable (counts_of (merged a b ties)) room
