-- `unjoined_place` meets its contract: 8 comes (`unjoined_comes`), and its place is that list (`group_refused`).
use mathlib.Core.Path.{sym, ap, ◌∙◌}
use Prim.Native.Nat.{ℕ}
use native.Mathlib.Omega.{arith}
use Rattle.base_limits.specs.declared.Verdict.TheVariants.{Refused}
use Rattle.survey_core.proofs.Laws.Group.{group_refused}
use Rattle.plan_rule.proofs.Laws.Ready.{groups_of_all, all_bounded}
use Rattle.plan_core.specs.Laws.Planned.{unjoined_comes}
use Rattle.plan_core.proofs.unjoined.unjoined_place.Goals as goal

-- it would not come
pub returns-in-Fine : goal.returns-in-Fine
returns-in-Fine c =
    unjoined_comes _ (record { own_byte = λ v. omega (arith, c.shared_slice_known-1.given v); other_byte = λ i. omega (arith, c.shared_slice_known-6-1.given i) })
    c.requires.others_value (groups_of_all _ 8 _ ∙ sym c.unjoined_refusal-found.ensures ∙ c.in-Fine.is)

-- 8
pub returns-in-Refused : goal.returns-in-Refused
returns-in-Refused c =
    let found = groups_of_all _ 8 _ ∙ sym c.unjoined_refusal-found.ensures ∙ c.in-Refused.is in
    found ∙ ap (λ (n : ℕ). Refused n c.in-Refused.place) (group_refused _ 8 _ (all_bounded _) _ _ found).0
