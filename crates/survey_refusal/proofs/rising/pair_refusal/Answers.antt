-- `pair_refusal` meets its contract: each return by the law of its case.
use native.Mathlib.Omega.{arith}
use mathlib.Core.Path.{sym, ◌∙◌}
use Rattle.survey_core.specs.Lists.{lists_from}
use Rattle.survey_core.proofs.Laws.Pairs.{pair_out, pair_none, pair_own, pair_falls, pair_past, pair_fine, own_read}
use Rattle.survey_refusal.proofs.rising.pair_refusal.Goals as goal

-- v is n or above
pub returns-then-groups-owner : goal.returns-then-groups-owner
returns-then-groups-owner c = sym (pair_out (lists_from _ _ _) _ (omega arith))

-- g is 0
pub returns-then-other-eq0 : goal.returns-then-other-eq0
returns-then-other-eq0 c = sym (pair_none (lists_from _ _ _) _ (omega arith) (omega arith))

-- g is v's own group
pub returns-then-other-at : goal.returns-then-other-at
returns-then-other-at c =
    let own = own_read c.args.groups.now (c.at-owner.ensures) c.at.ensures in
    sym
    (pair_own (lists_from _ _ _) _ (omega arith) (λ e. c.if-other-eq0.false (c.at-other.ensures ∙ e))
    (sym c.at-other.ensures ∙ c.if-other-at.true ∙ own))

-- out of rising order
pub returns-then-not-is_rising : goal.returns-then-not-is_rising
returns-then-not-is_rising c =
    let o = own_read c.args.groups.now (c.at-owner.ensures) c.at.ensures in
    sym
    (pair_falls (lists_from _ _ _) _ (omega arith) (λ e. c.if-other-eq0.false (c.at-other.ensures ∙ e))
    (λ e. c.if-other-at.false (c.at-other.ensures ∙ e ∙ sym o))
    (sym c.is_rising.ensures ∙ c.if-not-is_rising.true))

-- past the last that may be
pub returns-then-i-ge-MAX_PAIRS : goal.returns-then-i-ge-MAX_PAIRS
returns-then-i-ge-MAX_PAIRS c =
    let o = own_read c.args.groups.now (c.at-owner.ensures) c.at.ensures in
    sym
    (pair_past (lists_from _ _ _) _ (omega arith) (λ e. c.if-other-eq0.false (c.at-other.ensures ∙ e))
    (λ e. c.if-other-at.false (c.at-other.ensures ∙ e ∙ sym o))
    (sym c.is_rising.ensures ∙ c.if-not-is_rising.false)
    c.if-i-ge-MAX_PAIRS.true)

-- nothing wrong
pub returns : goal.returns
returns c =
    let o = own_read c.args.groups.now (c.at-owner.ensures) c.at.ensures in
    sym
    (pair_fine (lists_from _ _ _) _
    (record {
      below = omega arith;
      some = λ e. c.if-other-eq0.false (c.at-other.ensures ∙ e);
      foreign = λ e. c.if-other-at.false (c.at-other.ensures ∙ e ∙ sym o);
      rising = sym c.is_rising.ensures ∙ c.if-not-is_rising.false;
      few = c.if-i-ge-MAX_PAIRS.false;
    }))
