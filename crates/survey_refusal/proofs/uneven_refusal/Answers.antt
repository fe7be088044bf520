-- `uneven_refusal` meets its contract: 1 by either test, or 2.
use mathlib.Core.Path.{sym}
use lib.Dec.{eqb, ltb}
use borrow.Author.Tests.{eq-eqb, ne_eqb, lt-ltb, le-ltb}
use Rattle.base_finite.specs.Laws.Test.{or_left, or_right}
use Rattle.base_limits.specs.Limits.{max_vertices}
use Rattle.base_limits.specs.Laws.Verdict.{before_refused, before_fine, refuse_true, refuse_false}
use native.Mathlib.Omega.{arith}
use Rattle.survey_refusal.proofs.uneven_refusal.Goals as goal

-- 1: no vertex
pub returns-then-n-eq0 : goal.returns-then-n-eq0
returns-then-n-eq0 c =
    let n = c.args.n in
    sym (before_refused (refuse_true (or_left (eqb n 0) (ltb max_vertices n) (eq-eqb n 0 (omega arith))) 1 0) _)

-- 1: too many
pub returns-then-n-gt-MAX_VERTICES : goal.returns-then-n-gt-MAX_VERTICES
returns-then-n-gt-MAX_VERTICES c =
    let n = c.args.n in
    sym (before_refused (refuse_true (or_right (eqb n 0) (ltb max_vertices n) (lt-ltb max_vertices n (omega arith))) 1 0) _)

-- 2
pub returns : goal.returns
returns c =
    let n = c.args.n in
    sym (before_fine (refuse_false (rw (ne_eqb n 0 (λ e. omega (arith, c.if-n-eq0.false)), le-ltb max_vertices n (omega arith))) 1 0) _)
