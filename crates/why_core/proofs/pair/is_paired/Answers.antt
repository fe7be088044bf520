-- `is_paired` meets its contract: some pair passes.
use Rattle.std.proofs.Common.{ℕ, length, refl, ◌&&◌, get_or, ◌∙◌, arith, rules, tests}
use Rattle.std.specs.Prelude.{eqb}
use Rattle.std.proofs.lemmas.Iterator.{YieldsList-from_range}
use Rattle.std.proofs.lemmas.Iterator.Search.{any_from_yields_List}
use Rattle.survey_core.specs.Lists.{is_paired}
use Rattle.why_core.specs.Laws.Member.{any_found}
use Rattle.why_core.proofs.pair.is_paired.Goals as goal

pub returns : goal.returns
unfolding is_paired
returns c =
    let args = c.args in
    let n = length args.owners.now in
    let pair = λ (i : ℕ). eqb (get_or args.owners.now i 0) args.v && eqb (get_or args.others.now i 0) args.g in
    any_from_yields_List pair _ _ c.any.result c.any.ensures.ran (YieldsList-from_range 0 n n refl (omega arith)) (λ x b q k. search (rules, tests))
    ∙ any_found n pair
