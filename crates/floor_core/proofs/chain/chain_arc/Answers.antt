-- `chain_arc` meets its contract: the link is stored, then the arc is the last that leads there.
use Rattle.floor_core.specs.Laws.Chain.{before_le, chained_more}
use borrow.Author.Rules.{rules}
use Rattle.floor_core.proofs.chain.chain_arc.Goals as goal

pub overflow_mul-before : goal.overflow_mul-before
overflow_mul-before c = let short = c.requires.ends.short in let below = c.requires.a_bound in let few = before_le _ _ _ _ _ c.requires.chained c.head_of-head.ensures c.at-before.ensures c.requires.ends c.requires.a_bound in search (rules, short, below, few)

pub overflow_add-tail : goal.overflow_add-tail
overflow_add-tail c = let short = c.requires.ends.short in let below = c.requires.a_bound in let few = before_le _ _ _ _ _ c.requires.chained c.head_of-head.ensures c.at-before.ensures c.requires.ends c.requires.a_bound in let low = c.requires.ends.tails_below c.args.a c.requires.a_bound in search (rules, short, below, few, c.tail_of-tail.ensures, low)

pub returns : goal.returns
returns c = chained_more _ _ _ _ _ c.requires.chained c.head_of-head.ensures c.at-before.ensures c.requires.ends c.requires.a_bound c.told-tops c.told-links c.tail_of-tail.ensures c.put.ensures c.put-2.ensures
