-- The farthest plan by the cases of the code.
use Rattle.std.specs.Prelude.{ℕ, ◌*◌, ◌≤◌, ◌<◌, ◌≡◌, Bool, true, false, ltb}
use Rattle.std.proofs.Common.{arith, ◌∙◌}
use Rattle.std.proofs.Math.Path.{sym}
use borrow.Author.Tests.{lt-ltb, le-ltb}
use Rattle.season_rule.specs.declared.Farthest.{Farthest}
use Rattle.season_rule.specs.declared.Farthest.TheVariants.{Nothing, At}
use Rattle.season_rule.specs.Report.{farther}

module _ (position twice bound : ℕ) where
  -- A plan with bound 0 takes no part.
  pub none_farther : (far : Farthest) → bound < 1 → far ≡ farther far position twice bound
  unfolding farther
  none_farther Nothing h = rw (le-ltb 0 bound (omega arith))
  none_farther (At p t b) h = rw (le-ltb 0 bound (omega arith))

  pub first_farther : {far : Farthest} → far ≡ Nothing → 1 ≤ bound → At position twice bound ≡ farther far position twice bound
  unfolding farther
  first_farther e h = rw (e, lt-ltb 0 bound (omega arith))

  module _ {far : Farthest} {p t b : ℕ} (e : far ≡ At p t b) (h : 1 ≤ bound) {test : Bool} (is : test ≡ ltb (t * bound) (twice * b)) where
    pub above_farther : test ≡ true → At position twice bound ≡ farther far position twice bound
    unfolding farther
    above_farther k = rw (e, lt-ltb 0 bound (omega arith), sym is ∙ k)

    pub under_farther : test ≡ false → At p t b ≡ farther far position twice bound
    unfolding farther
    under_farther k = rw (e, lt-ltb 0 bound (omega arith), sym is ∙ k)
