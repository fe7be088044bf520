-- `store_places` meets its contract: one more place in each turn (`head_more`).
use Prim.Native.Nat.{◌+◌}
use native.Mathlib.Omega.{arith}
use mathlib.Core.Path.{refl, ◌∙◌}
use Rattle.base_finite.specs.Laws.Below.{count_le}
use Rattle.merge_rule.specs.Ties.{ties_from, is_untied}
use Rattle.merge_core.specs.Laws.Stored.{head_more, run_end}
use Rattle.merge_core.specs.Laws.Copy.{table_below, table_end, table_read}
use Rattle.merge_core.specs.Laws.Find.{place_found, next_found, places_start, places_counted}
use borrow.Author.Rules.{rules}
use Rattle.merge_core.proofs.places.store_places.Goals as goal

pub loop-v-init : goal.loop-v-init
loop-v-init c = (omega arith, (places_start _ (ties_from c.args.firsts.now c.args.seconds.now), refl))

pub place_at-requires : goal.place_at-requires
place_at-requires c = let few = c.requires.n_le_max_vertices in let most = c.requires.m_le_max_vertices in let below = c.loop-v-test.true in omega (arith, few, most, below, c.loop-v.invariant.1.0, count_le c.loop-v.v (is_untied (ties_from c.args.firsts.now c.args.seconds.now)))

pub overflow_add-next : goal.overflow_add-next
overflow_add-next c = let few = c.requires.n_le_max_vertices in let most = c.requires.m_le_max_vertices in let below = c.loop-v-test.true in let more = next_found c.args.n (ties_from c.args.firsts.now c.args.seconds.now) c.loop-v.v c.find_in-i.ensures c.loop-v.invariant.1.0 c.one_if_past-next.ensures in search (rules, few, most, below, more, count_le (c.loop-v.v + 1) (is_untied (ties_from c.args.firsts.now c.args.seconds.now)))

pub loop-v-preserved : goal.loop-v-preserved
loop-v-preserved c = (omega arith, (next_found c.args.n (ties_from c.args.firsts.now c.args.seconds.now) c.loop-v.v c.find_in-i.ensures c.loop-v.invariant.1.0 c.one_if_past-next.ensures, c.put.ensures ∙ head_more _ _ _ c.loop-v.invariant.1.1 (table_below _ _ c.loop-v-test.true) (table_read _ _ c.loop-v-test.true (place_found c.args.n (ties_from c.args.firsts.now c.args.seconds.now) c.loop-v.v c.find_in-i.ensures c.loop-v.invariant.1.0 c.place_at.ensures))))

pub returns : goal.returns
returns c = record { value = places_counted _ (ties_from c.args.firsts.now c.args.seconds.now) c.loop-v.invariant.0 c.loop-v-test.false c.loop-v.invariant.1.0; places_value = run_end _ _ _ _ c.loop-v.invariant.1.1 (table_end _ _ c.loop-v-test.false) }
