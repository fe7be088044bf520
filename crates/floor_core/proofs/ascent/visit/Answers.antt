-- `visit` meets its contract: a group with its share and a vertex that is done are passed over, and the root inside is done.
use Prim.Native.Nat.{◌<◌, ◌^◌}
use native.Mathlib.Omega.{arith}
use mathlib.Core.Path.{refl, ◌∙◌}
use lib.ListN.{get_or}
use Rattle.floor_core.specs.Laws.Arcs.{more_false}
use Rattle.floor_core.specs.Laws.State.{visit_passed, visit_inside, same_inside, cut_fits, visit_raised}
use Rattle.floor_core.specs.Laws.Done.{done_inside, done_raised}
use borrow.Author.Rules.{rules}
use Rattle.floor_core.proofs.ascent.visit.Goals as goal

-- the group has its share
pub returns-then-cap-eq0 : goal.returns-then-cap-eq0
returns-then-cap-eq0 c = record { got_value = visit_passed _ _ _ _ _ _ _ _ c.missing-cap.ensures c.if-cap-eq0.true; more_value = λ h. (h, refl); done_2 = c.requires.done }

-- the vertex is done
pub returns-then-at-ne0 : goal.returns-then-at-ne0
returns-then-at-ne0 c = record { got_value = visit_inside _ _ _ _ _ _ _ _ (c.requires.done.root_inside _ c.requires.v_lt_n (λ z. c.if-at-ne0.true (c.at.ensures ∙ z))); more_value = λ h. (h, refl); done_2 = c.requires.done }

-- the root is inside
pub returns-in-None : goal.returns-in-None
returns-in-None c = let a = c.args in let same = same_inside _ _ a.share.now _ _ a.l _ _ a.got.now c.raise_cut.ensures c.in-None.is in record { got_value = same ∙ visit_inside _ _ _ _ _ _ _ _ (c.raise_cut.ensures.root_inside c.in-None.is).0; more_value = λ h. (h, same); done_2 = done_inside _ _ _ _ _ _ _ c.raise_cut.ensures c.requires.done c.in-None.is c.put.ensures }

pub overflow_add-part : goal.overflow_add-part
overflow_add-part c = let a = c.args in let whole : get_or a.share.now a.l 0 < 2 ^ 64 = omega (arith, c.type_inv.share a.l) in let fits = cut_fits _ _ a.share.now _ _ a.l _ _ a.got.now c.raise_cut.ensures c.in-Some.is c.missing-cap.ensures c.at-part.ensures whole in search (rules, fits)

pub returns-in-Some : goal.returns-in-Some
returns-in-Some c = record { got_value = visit_raised _ _ _ _ _ _ _ _ _ c.raise_cut.ensures c.in-Some.is c.missing-cap.ensures c.if-cap-eq0.false c.at-part.ensures refl c.put-in-Some.ensures; more_value = λ h. more_false h; done_2 = done_raised _ _ _ _ _ _ _ c.raise_cut.ensures c.requires.done c.requires.ends c.in-Some.is }
