-- What a pass over a buffer of no length stores.
use Rattle.std.specs.Prelude.{ℕ, suc, ◌≡◌, refl, List, [], ◌∷◌, ◌++◌}
use Rattle.std.proofs.Common.{ap, sym, ◌∙◌}
use Rattle.std.proofs.lemmas.List.Edits.{sets}
use Rattle.format_read.specs.Step.{Step, refused, stored_if}
use Rattle.format_read.proofs.Laws.Step.{stored_refused}

sets_nil : (i : ℕ) (vs : List ℕ) → sets [] i vs ≡ []
sets_nil i [] = refl
sets_nil i (v ∷ vs) = sets_nil (suc i) vs

-- It stores nothing, and where it is refused, that is all.
module _ (values old : List ℕ) {new : List ℕ} {end : Step ℕ} where
  pub pass_refused : {n p : ℕ} → end ≡ refused n p → new ≡ sets [] 0 values → new ++ old ≡ stored_if end (sets old 0 values) old
  pass_refused e h = ap (λ (l : List ℕ). l ++ old) (h ∙ sets_nil 0 values) ∙ sym (stored_refused (sets old 0 values) old e)
