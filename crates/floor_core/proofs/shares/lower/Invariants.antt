-- `lower` meets its contract: it stores at rising places, from k up.
use mathlib.Core.Path.{◌≡◌}
use mathlib.Core.Bool.{cond}
use lib.ListN.{get_or}
use lib.Dec.{ltb}
use Rattle.base_buffer.specs.Store.{remade}
use Rattle.floor_rule.specs.Ascent.{lesser}
use Rattle.floor_core.proofs.shares.lower.Given as goal

abbrev pub invariant-loop-l : goal.invariant-loop-l
invariant-loop-l l = l.share ≡ remade (λ g x. cond (ltb g l.k) x (lesser x (get_or l.got g 0))) l.l l.initial.share
