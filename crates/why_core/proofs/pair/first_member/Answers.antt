-- `first_member` meets its contract: the first vertex that passes.
use Rattle.std.proofs.Common.{◌≡◌, true, false, ◌∙◌, rules, tests}
use Rattle.std.proofs.lemmas.Iterator.{first_from_Range}
use Rattle.survey_core.specs.Lists.{lent_lists, in_list}
use Rattle.why_core.specs.Laws.Member.{first_found}
use Rattle.why_core.proofs.pair.first_member.Goals as goal

pub returns : goal.returns
returns c =
    let args = c.args in
    let member = in_list (lent_lists args.groups.now args.owners.now args.others.now) args.g in
    c.unwrap_or.ensures
    ∙ first_found _ member c.find.result
    (first_from_Range _ _ _ _ (λ v. member v ≡ true) (λ v. member v ≡ false) c.find.ensures.ran (λ x q k. search (rules, tests)) (λ x q k. search (rules, tests)))
