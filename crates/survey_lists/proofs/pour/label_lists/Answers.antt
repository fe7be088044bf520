-- `label_lists` meets its contract: after i pairs the labels are those of the pairs below i.
use Prim.Native.Nat.{ℕ}
use native.Mathlib.Omega.{arith}
use mathlib.Core.Path.{ap, sym, ◌∙◌}
use lib.ListN.{length, replicate, length-replicate}
use Rattle.base_finite.specs.Laws.Below.{length_tabulate}
use Rattle.base_limits.specs.Limits.{group_numbers}
use Rattle.survey_lists.proofs.Laws.Room.{labelled_start, labelled_turn, labelled_end}
use Rattle.survey_lists.proofs.pour.label_lists.Goals as goal

pub loop-i-init : goal.loop-i-init
loop-i-init c = labelled_start _ (replicate group_numbers 0) (length-replicate {A = ℕ} group_numbers 0) c.own_labels.ensures

pub slice_bounds-join_pair-end : goal.slice_bounds-join_pair-end
slice_bounds-join_pair-end c = sym (ap length c.loop-i.invariant.made ∙ length_tabulate group_numbers _)

pub join_pair-requires : goal.join_pair-requires
join_pair-requires c = c.requires

pub loop-i-preserved : goal.loop-i-preserved
loop-i-preserved c =
    labelled_turn
    _
    (λ v. omega (arith, c.type_inv.groups v))
    (λ i. omega (arith, c.type_inv.others i))
    c.loop-i.invariant
    c.loop-i-test.true
    c.join_pair.ensures

pub returns : goal.returns
returns c = labelled_end _ c.loop-i.invariant c.loop-i-test.false
