-- `stp_call` meets its contract: what `read_stp` answers where so much of the group buffer is lent on.
use lib.ListN.{length}
use Rattle.api_code.specs.Laws.Lending.{lent_le}
use Rattle.api_read.specs.Laws.StpCall.{stp_into, call_promises}
use Rattle.api_read.proofs.stp.stp_call.Goals as goal

pub slice_bounds-read_stp-end : goal.slice_bounds-read_stp-end
slice_bounds-read_stp-end c = lent_le _ _ _ c.lent_on-room.ensures

pub returns : goal.returns
returns c =
    let a = c.args in
    let q = stp_into a.text.now a.groups.now a.firsts.now a.seconds.now a.weights.now a.counts.now c.lent_on-room.ensures
    (record { told = c.read_stp-answer.ensures.result_value; groups_read = c.read_stp-answer.ensures.groups_value; firsts_read = c.read_stp-answer.ensures.firsts_value; seconds_read = c.read_stp-answer.ensures.seconds_value; weights_read = c.read_stp-answer.ensures.weights_value })
    c.stp_code.ensures.value
    c.stp_code.ensures.counts_value in
    let promises = call_promises a.text.now a.groups.now a.firsts.now a.seconds.now a.weights.now (length a.counts.now) q.1.0 q.1.1.0 q.1.1.1.0 q.1.1.1.1.0 in
    record { code = q.0; groups = q.1.0; firsts = q.1.1.0; seconds = q.1.1.1.0; weights = q.1.1.1.1.0; counts = q.1.1.1.1.1; promises = promises }
