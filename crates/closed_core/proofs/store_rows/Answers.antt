-- `store_rows` meets its contract: one more row in each turn (`rows_more`).
use Prim.Native.Nat.{◌-◌}
use native.Mathlib.Omega.{arith}
use mathlib.Core.Path.{ap, sym, ◌∙◌}
use lib.ListN.{length}
use Rattle.closed_core.specs.Laws.Entry.{figured_long}
use Rattle.closed_core.specs.Laws.Rows.{rows_none, row_asked, rows_more, rows_all}
use borrow.Author.Rules.{rules}
use Rattle.closed_core.proofs.store_rows.Goals as goal

pub sound_figures-whole-requires : goal.sound_figures-whole-requires
sound_figures-whole-requires c = c.requires.survey_sound

pub loop-i-init : goal.loop-i-init
loop-i-init c = (omega arith, rows_none _ _ _ c.requires.tracks_in_bounds)

pub slice_bounds-entry-end : goal.slice_bounds-entry-end
slice_bounds-entry-end c = sym (ap length c.sound_figures-whole.ensures.marks_value ∙ figured_long _ c.requires.survey_sound)

pub entry-row-requires : goal.entry-row-requires
entry-row-requires c = record { survey_sound = c.requires.survey_sound; whole_value = c.sound_figures-whole.ensures.result_value; marks_value = c.sound_figures-whole.ensures.marks_value }

pub overflow_mul-i : goal.overflow_mul-i
overflow_mul-i c = let few = c.requires.tracks_len_bound in let below = c.loop-i-test.true in search (rules, few, below)

pub store_row-requires : goal.store_row-requires
store_row-requires c = let few = c.requires.tracks_len_bound in let below = c.loop-i-test.true in omega (arith, few, below)

pub loop-i-preserved : goal.loop-i-preserved
loop-i-preserved c = (
  omega arith,
  c.store_row.ensures
      ∙ rows_more _ _ _ c.requires.tracks_in_bounds _ c.loop-i-test.true c.loop-i.invariant.1 (row_asked _ c.at.ensures c.entry-row.ensures),
)

pub returns : goal.returns
returns c = c.loop-i.invariant.1 ∙ rows_all _ _ _ c.requires.tracks_in_bounds _ c.loop-i.invariant.0 c.loop-i-test.false
