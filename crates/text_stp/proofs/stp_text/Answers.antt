-- `stp_text` meets its contract: what is printed of reading's answer, judged by the length, is what `stp` prints for the text (`read_printed`).
use borrow.Author.Rules.{rules}
use Prim.Native.Nat.{ℕ}
use lib.ListN.{replicate}
use Rattle.base_buffer.proofs.Laws.Part.{most_le, most_part}
use Rattle.base_limits.specs.Limits.{max_vertices, max_edges}
use Rattle.text_stp.specs.Laws.StpOutput.{read_printed}
use Rattle.text_stp.specs.StpOutput.{stp_room}
use Rattle.text_stp.proofs.stp_text.Goals as goal

pub slice_bounds-read_stp-end : goal.slice_bounds-read_stp-end
slice_bounds-read_stp-end c = let few = most_le stp_room _ c.at_most-n.ensures in search (rules, few)

pub returns : goal.returns
returns c =
    let a = c.args in
    let first = most_part stp_room a.text.now c.at_most-n.ensures in
    let read = rw first at c.read_stp-read.ensures in
    let edges = replicate {A = ℕ} max_edges 0 in
    let whole = read_printed a.text.now (replicate max_vertices 0) edges edges edges
    read.groups_value read.firsts_value read.seconds_value read.weights_value a.out.now read.result_value c.judge-said.ensures (c.print_read.ensures.value, (c.print_read.ensures.out_value, c.print_read.ensures.words)) in record { value = whole.0; out_value = whole.1.0; fits = whole.1.1 }
