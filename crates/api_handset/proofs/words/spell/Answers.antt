-- `spell` meets its contract: it stores at rising places.
use native.Mathlib.Omega.{arith}
use mathlib.Core.Path.{refl, ap, ◌∙◌}
use Rattle.base_finite.specs.Below.{tabulate}
use Rattle.api_handset.specs.Words.{word_at}
use Rattle.api_handset.proofs.Laws.Words.{spelling_start, spelling_turn, spelling_end}
use Rattle.api_handset.proofs.words.spell.Goals as goal

pub loop-i-init : goal.loop-i-init
loop-i-init g c = spelling_start _ _

pub word-requires : goal.word-requires
word-requires g c = omega arith

pub loop-i-preserved : goal.loop-i-preserved
loop-i-preserved g c =
    spelling_turn _ _ c.loop-i.invariant (omega (arith, c.loop-i.invariant.long)) c.word.ensures refl

pub returns : goal.returns
returns g c =
    spelling_end _ _ c.loop-i.invariant (omega (arith, c.loop-i.invariant.long))
    ∙ ap (λ n. tabulate n (word_at c.args.bytes.now)) c.told-words
