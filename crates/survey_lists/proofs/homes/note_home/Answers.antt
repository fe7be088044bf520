-- `note_home` meets its contract: a vertex past the table or with a home stays, another gets one.
use native.Mathlib.Omega.{arith}
use mathlib.Core.Path.{sym, ◌∙◌}
use Rattle.survey_lists.proofs.Laws.Room.{home_past, home_kept, home_noted}
use Rattle.survey_lists.proofs.homes.note_home.Goals as goal

-- past the table
pub returns-then-v-ge-MAX_VERTICES : goal.returns-then-v-ge-MAX_VERTICES
returns-then-v-ge-MAX_VERTICES c = home_past _ _ _ c.if-v-ge-MAX_VERTICES.true

-- it has one
pub returns-then-at-ne0 : goal.returns-then-at-ne0
returns-then-at-ne0 c = home_kept _ _ _ (omega (arith, c.if-v-ge-MAX_VERTICES.false)) (λ e. c.if-at-ne0.true (c.at.ensures ∙ e))

-- it gets one
pub returns : goal.returns
returns c =
    let args = c.args in
    c.put.ensures ∙ home_noted args.homes.now args.v args.group (omega (arith, c.if-v-ge-MAX_VERTICES.false)) (sym c.at.ensures ∙ c.if-at-ne0.false)
