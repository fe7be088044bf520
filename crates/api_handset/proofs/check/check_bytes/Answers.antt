-- `check_bytes` meets its contract: the check of what is seen of the survey in numbers.
use mathlib.Core.Path.{ap, ◌∙◌}
use lib.ListN.{length}
use Rattle.base_finite.specs.Laws.Below.{length_tabulate}
use Rattle.base_limits.specs.Limits.{max_edges}
use borrow.Author.Rules.{rules}
use Rattle.api_handset.specs.Slices.{lent_slices}
use Rattle.api_handset.proofs.Laws.Lengths.{lengths_even}
use Rattle.api_handset.proofs.Laws.Pairs.{seen_few, seen_fits, seen_words}
use Rattle.api_handset.proofs.Laws.Call.{check_even_code, check_even_result}
use Rattle.api_handset.proofs.check.check_bytes.Goals as goal

pub slice_bounds-check_words-end : goal.slice_bounds-check_words-end
slice_bounds-check_words-end c =
    let few = (lengths_even (lent_slices c.args.groups.now c.args.firsts.now c.args.seconds.now c.args.weights.now c.args.owners.now c.args.others.now) c.requires).edges_few in
    let long = ap length c.spell.ensures ∙ length_tabulate max_edges _ in
    search (rules, few, long)

pub slice_bounds-check_words-end-2 : goal.slice_bounds-check_words-end-2
slice_bounds-check_words-end-2 c =
    let few = (lengths_even (lent_slices c.args.groups.now c.args.firsts.now c.args.seconds.now c.args.weights.now c.args.owners.now c.args.others.now) c.requires).edges_few in
    let long = ap length c.spell-2.ensures ∙ length_tabulate max_edges _ in
    search (rules, few, long)

pub slice_bounds-check_words-end-3 : goal.slice_bounds-check_words-end-3
slice_bounds-check_words-end-3 c =
    let few = (lengths_even (lent_slices c.args.groups.now c.args.firsts.now c.args.seconds.now c.args.weights.now c.args.owners.now c.args.others.now) c.requires).edges_few in
    let long = ap length c.spell-3.ensures ∙ length_tabulate max_edges _ in
    search (rules, few, long)

pub slice_bounds-check_words-end-4 : goal.slice_bounds-check_words-end-4
slice_bounds-check_words-end-4 c = let few = seen_few _ c.pairs_seen-p.ensures in search (rules, few)

pub slice_bounds-check_words-end-5 : goal.slice_bounds-check_words-end-5
slice_bounds-check_words-end-5 c = let fits = seen_fits _ c.pairs_seen-p.ensures in search (rules, fits)

pub returns : goal.returns
returns c =
    let seen =
    seen_words (lent_slices c.args.groups.now c.args.firsts.now c.args.seconds.now c.args.weights.now c.args.owners.now c.args.others.now) (lengths_even (lent_slices c.args.groups.now c.args.firsts.now c.args.seconds.now c.args.weights.now c.args.owners.now c.args.others.now) c.requires) c.spell.ensures c.spell-2.ensures
    c.spell-3.ensures c.spell-4.ensures c.pairs_seen-p.ensures in
    record { code = check_even_code (lent_slices c.args.groups.now c.args.firsts.now c.args.seconds.now c.args.weights.now c.args.owners.now c.args.others.now) _ _ _ c.requires seen c.check_words.ensures.result_value; res = check_even_result (lent_slices c.args.groups.now c.args.firsts.now c.args.seconds.now c.args.weights.now c.args.owners.now c.args.others.now) _ _ _ c.requires seen c.check_words.ensures.res_value }
