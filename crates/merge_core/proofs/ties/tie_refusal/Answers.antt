-- `tie_refusal` meets its contract: each return by the law of its case.
use Rattle.merge_rule.specs.Ties.{ties_from}
use Rattle.merge_core.specs.Laws.Find.{first_out, second_out, first_again, second_again, tie_fine}
use Rattle.merge_core.proofs.ties.tie_refusal.Goals as goal

-- out of range, in the first
pub returns-then-n-first : goal.returns-then-n-first
returns-then-n-first c = first_out _ _ (ties_from c.args.firsts.now c.args.seconds.now) _ (c.at-first.ensures) (c.at-second.ensures) c.if-n-first.true

-- in the second
pub returns-then-m-second : goal.returns-then-m-second
returns-then-m-second c = second_out _ _ (ties_from c.args.firsts.now c.args.seconds.now) _ (c.at-first.ensures) (c.at-second.ensures) c.if-m-second.true

-- already tied, in the first
pub returns-then-find_in-i : goal.returns-then-find_in-i
returns-then-find_in-i c = first_again _ _ (ties_from c.args.firsts.now c.args.seconds.now) _ (c.at-first.ensures) (c.at-second.ensures) c.if-n-first.false c.if-m-second.false c.find_in.ensures c.if-find_in-i.true

-- in the second
pub returns-then-find_in-i-2 : goal.returns-then-find_in-i-2
returns-then-find_in-i-2 c = second_again _ _ (ties_from c.args.firsts.now c.args.seconds.now) _ (c.at-first.ensures) (c.at-second.ensures) c.if-n-first.false c.if-m-second.false c.find_in.ensures c.if-find_in-i.false c.find_in-2.ensures c.if-find_in-i-2.true

-- nothing wrong
pub returns : goal.returns
returns c = tie_fine _ _ (ties_from c.args.firsts.now c.args.seconds.now) _ (c.at-first.ensures) (c.at-second.ensures) c.if-n-first.false c.if-m-second.false c.find_in.ensures c.if-find_in-i.false c.find_in-2.ensures c.if-find_in-i-2.false
