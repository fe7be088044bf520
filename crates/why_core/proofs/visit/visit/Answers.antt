-- `visit` meets its contract: past the end, visited, free.
use mathlib.Core.Path.{sym, ◌∙◌}
use Rattle.why_core.specs.Laws.Visit.{free_out, free_visited, free_is}
use Rattle.why_core.proofs.visit.visit.Goals as goal

pub returns-then-visited-v : goal.returns-then-visited-v
returns-then-visited-v c = let taken = free_out c.args.visited.now c.args.v c.if-visited-v.true in record { value = rw taken; visited_value = rw taken }

pub returns-then-at-ne0 : goal.returns-then-at-ne0
returns-then-at-ne0 c =
    let taken = free_visited c.args.visited.now c.args.v (λ z. c.if-at-ne0.true (c.at.ensures ∙ z)) in
    record { value = rw taken; visited_value = rw taken }

pub returns : goal.returns
returns c =
    let free = free_is c.args.visited.now c.args.v c.if-visited-v.false (sym c.at.ensures ∙ c.if-at-ne0.false) in
    record { value = rw free; visited_value = rw free c.put.ensures }
