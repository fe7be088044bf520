-- `track_refusal` meets its contract: each return by its test.
use mathlib.Core.Path.{sym}
use borrow.Author.Tests.{le-leb, lt-leb}
use Rattle.base_limits.specs.Laws.Verdict.{refuse_true, refuse_false}
use Rattle.why_core.proofs.refusal.track_refusal.Goals as goal

pub returns-then-m-track : goal.returns-then-m-track
returns-then-m-track c = sym (refuse_true (le-leb _ _ c.if-m-track.true) 19 _)

pub returns : goal.returns
returns c = sym (refuse_false (lt-leb _ _ c.if-m-track.false) 19 _)
