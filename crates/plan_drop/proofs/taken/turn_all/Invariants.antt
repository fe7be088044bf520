-- `turn_all` meets its contract: it stores at rising places.
use Rattle.plan_drop.specs.Word.{turned}
use Rattle.base_buffer.specs.Store.{remade}
use Rattle.std.proofs.Common.{◌≡◌, get_or}
use Rattle.plan_drop.proofs.taken.turn_all.Given as goal

abbrev pub invariant-loop-w : goal.invariant-loop-w
invariant-loop-w l = l.words ≡ remade (λ w. turned l.x l.y l.delta l.own (get_or l.labels w 0)) l.w l.initial.words
