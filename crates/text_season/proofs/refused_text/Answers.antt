-- `text_season::refused_text` meets its contract.
use mathlib.Core.Path.{refl}
use Rattle.text_season.specs.Added.{text_refused}
use Rattle.text_season.proofs.refused_text.Goals as goal

pub returns : goal.returns
unfolding text_refused
returns c = refl
