-- `judge` meets its contract, by the length.
use mathlib.Core.Path.{refl}
use borrow.Author.Tests.{lt-ltb, le-ltb}
use Rattle.text_stp.specs.StpOutput.{stp_room, judged}
use Rattle.text_stp.proofs.cut.judge.Goals as goal

pub returns-then-length-gt-STP_ROOM : goal.returns-then-length-gt-STP_ROOM
unfolding judged
returns-then-length-gt-STP_ROOM c = rw (lt-ltb stp_room c.args.length c.if-length-gt-STP_ROOM.true) c.before_cut.ensures

pub returns : goal.returns
unfolding judged
returns c = rw (le-ltb stp_room c.args.length c.if-length-gt-STP_ROOM.false) refl
