-- `format_stp::head::comment` meets its contract: what is left of the comment ends where the whole ends.
use native.Mathlib.Omega.{arith}
use mathlib.Core.Path.{◌≡◌, ◌∙◌, sym, refl}
use Rattle.format_read.specs.Answer.{number_step}
use Rattle.format_stp.specs.StpWord.{comment_at}
use Rattle.format_stp.proofs.Laws.HeadTurn.{comment_ends, comment_on, comment_over}
use Rattle.format_stp.proofs.head.comment.Goals as goal

pub loop-at-init : goal.loop-at-init
unfolding comment_at
loop-at-init c = record { rest = refl; upto = omega arith }

-- the line END
pub returns-then-is_pair : goal.returns-then-is_pair
unfolding number_step
returns-then-is_pair c =
    sym (comment_ends c.loop-at.seen c.args.text.now c.loop-at.at c.loop-at-test.true (sym c.is_pair.ensures ∙ c.if-is_pair.true)) ∙ c.loop-at.invariant.rest

pub loop-at-preserved : goal.loop-at-preserved
loop-at-preserved c = record {
  rest = rw c.shown_by-seen.ensures
      (sym (comment_on c.loop-at.seen c.args.text.now c.loop-at.at c.loop-at-test.true (sym c.is_pair.ensures ∙ c.if-is_pair.false)) ∙ c.loop-at.invariant.rest);
  upto = omega arith;
}

-- the text stops early
pub returns : goal.returns
unfolding number_step
returns c =
    let e : c.max.result ≡ c.loop-at.at = omega arith in
    rw e (sym (comment_over c.loop-at.seen c.args.text.now c.loop-at.at c.loop-at-test.false) ∙ c.loop-at.invariant.rest)
