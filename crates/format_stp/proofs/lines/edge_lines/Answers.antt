-- `format_stp::lines::edge_lines` meets its contract: what is left to read and to store is what the whole reads and stores.
use native.Mathlib.Omega.{arith}
use Prim.Native.Nat.{ℕ}
use mathlib.Core.Path.{◌≡◌, ap, sym, ◌∙◌}
use mathlib.Core.List.{List}
use Rattle.format_read.specs.Step.{Step, stopped}
use Rattle.format_survey.specs.Line.{Edge, firsts_of, seconds_of, weights_of}
use Rattle.format_read.specs.Answer.{number_step}
use Rattle.format_survey.specs.LinesAnswer.{edge_step}
use Rattle.format_read.proofs.Laws.Lines.{left_start, stored_start, left_more, left_stop, left_done, stored_more, stored_stop, stored_done}
use Rattle.format_stp.specs.StpReading.{stp_edge, stp_edges}
use Rattle.format_stp.specs.StpWord.{after_empty}
use Rattle.format_stp.proofs.Laws.EdgeBound.{edge_words}
use Rattle.format_stp.proofs.lines.edge_lines.Goals as goal

-- The reader of line e.
abbrev line_at : (text : List ℕ) (n e at : ℕ) → Step Edge
line_at text n e at = after_empty (stp_edge n) text at

pub loop-edge-init : goal.loop-edge-init
unfolding stp_edges
loop-edge-init c =
    let a = c.args in
    let line = line_at a.text.now a.vertices in
    record {
      left = left_start line a.count a.cursor.at;
      one = stored_start line a.count a.cursor.at (λ e. e.first) a.firsts.now;
      two = stored_start line a.count a.cursor.at (λ e. e.second) a.seconds.now;
      three = stored_start line a.count a.cursor.at (λ e. e.weight) a.weights.now;
    }

-- a line is refused
pub returns-in_default : goal.returns-in_default
unfolding number_step edge_step stopped firsts_of seconds_of weights_of
returns-in_default c =
    let h = c.loop-edge-test.true in
    let told = c.in_default.is in
    let e : line_at c.args.text.now c.args.vertices c.loop-edge.edge c.loop-edge.next.at ≡ _ = sym c.edge_after-line.ensures ∙ ap edge_step told in (
      c.stopped_line.ensures ∙ ap (λ x. stopped (edge_step x)) told ∙ left_stop _ _ _ _ _ h e c.loop-edge.invariant.left,
      stored_stop _ _ _ _ _ _ _ _ h e c.loop-edge.invariant.one,
      stored_stop _ _ _ _ _ _ _ _ h e c.loop-edge.invariant.two,
      stored_stop _ _ _ _ _ _ _ _ h e c.loop-edge.invariant.three,
    )

pub overflow_cast-first : goal.overflow_cast-first
unfolding edge_step
overflow_cast-first c = let k = (edge_words c.args.vertices c.args.text.now c.loop-edge.next.at (sym c.edge_after-line.ensures ∙ ap edge_step c.in-Edge.is)).first in omega arith

pub overflow_cast-second : goal.overflow_cast-second
unfolding edge_step
overflow_cast-second c = let k = (edge_words c.args.vertices c.args.text.now c.loop-edge.next.at (sym c.edge_after-line.ensures ∙ ap edge_step c.in-Edge.is)).second in omega arith

pub overflow_cast-weight : goal.overflow_cast-weight
unfolding edge_step
overflow_cast-weight c = let k = (edge_words c.args.vertices c.args.text.now c.loop-edge.next.at (sym c.edge_after-line.ensures ∙ ap edge_step c.in-Edge.is)).weight in omega arith

pub loop-edge-preserved : goal.loop-edge-preserved
unfolding edge_step
loop-edge-preserved c =
    let h = c.loop-edge-test.true in
    let e : line_at c.args.text.now c.args.vertices c.loop-edge.edge c.loop-edge.next.at ≡ _ = sym c.edge_after-line.ensures ∙ ap edge_step c.in-Edge.is in
    record {
      left = left_more _ _ _ _ _ h e c.loop-edge.invariant.left;
      one = rw c.put.ensures (stored_more _ _ _ _ _ (λ e. e.first) _ _ h e c.loop-edge.invariant.one);
      two = rw c.put-in-loop-edge.ensures (stored_more _ _ _ _ _ (λ e. e.second) _ _ h e c.loop-edge.invariant.two);
      three = rw c.put-in-loop-edge-2.ensures (stored_more _ _ _ _ _ (λ e. e.weight) _ _ h e c.loop-edge.invariant.three);
    }

-- all lines are read
pub returns : goal.returns
unfolding number_step firsts_of seconds_of weights_of
returns c =
    let h = c.loop-edge-test.false in (
      left_done _ _ _ _ _ h c.loop-edge.invariant.left,
      stored_done _ _ _ _ _ _ _ _ h c.loop-edge.invariant.one,
      stored_done _ _ _ _ _ _ _ _ h c.loop-edge.invariant.two,
      stored_done _ _ _ _ _ _ _ _ h c.loop-edge.invariant.three,
    )
