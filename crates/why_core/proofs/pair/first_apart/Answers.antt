-- `first_apart` meets its contract: the first vertex that passes.
use Rattle.std.proofs.Common.{◌≡◌, ℕ, true, false, ◌&&◌, not, get_or, ◌∙◌, rules, tests}
use Rattle.std.specs.Prelude.{eqb}
use Rattle.std.proofs.lemmas.Iterator.{first_from_Range}
use Rattle.survey_core.specs.Lists.{lent_lists, in_list}
use Rattle.why_core.specs.Laws.Member.{first_found}
use Rattle.why_core.proofs.pair.first_apart.Goals as goal

pub returns : goal.returns
returns c =
    let args = c.args in
    let l = lent_lists args.groups.now args.owners.now args.others.now in
    let apart = λ (v : ℕ). in_list l args.g v && not (eqb (get_or args.labels.now args.u 0) (get_or args.labels.now v 0)) in
    c.unwrap_or.ensures
    ∙ first_found _ apart c.find.result
    (first_from_Range _ _ _ _ (λ v. apart v ≡ true) (λ v. apart v ≡ false) c.find.ensures.ran (λ x q k. search (rules, tests)) (λ x q k. search (rules, tests)))
