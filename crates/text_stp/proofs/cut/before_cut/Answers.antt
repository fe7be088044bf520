-- `before_cut` meets its contract, by the cases of the answer and of its place.
use mathlib.Core.Path.{ap, sym, refl}
use borrow.Author.Tests.{lt-ltb, le-ltb}
use Rattle.format_stp.specs.Answer.{stp_answer}
use Rattle.text_stp.specs.StpOutput.{stp_room, before_cut}
use Rattle.text_stp.proofs.cut.before_cut.Goals as goal

pub returns-then-place-lt-STP_ROOM : goal.returns-then-place-lt-STP_ROOM
unfolding stp_answer before_cut
returns-then-place-lt-STP_ROOM c = rw (ap (λ r. before_cut (stp_answer r)) c.in-Refused.is, lt-ltb _ stp_room c.if-place-lt-STP_ROOM.true) refl

pub returns-else-place-lt-STP_ROOM : goal.returns-else-place-lt-STP_ROOM
unfolding stp_answer before_cut
returns-else-place-lt-STP_ROOM c = rw (ap (λ r. before_cut (stp_answer r)) c.in-Refused.is, le-ltb _ stp_room c.if-place-lt-STP_ROOM.false) refl

pub returns-in-Survey : goal.returns-in-Survey
unfolding stp_answer before_cut
returns-in-Survey c = sym (ap (λ r. before_cut (stp_answer r)) c.in-Survey.is)
