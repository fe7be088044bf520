-- What each test of a complete line answers.
use Rattle.std.specs.Prelude.{ℕ, zero, suc, ◌+◌, ◌≤◌, ◌<◌, ◌≡◌, refl, [], ◌∷◌}
use Rattle.std.proofs.Common.{ap}
use borrow.Author.Tests.{lt-ltb, le-ltb, le-leb, lt-leb}
use Rattle.base_limits.specs.Limits.{max_duals}
use Rattle.base_limits.specs.Verdict.{refuse_if, ◌before◌}
use Rattle.base_limits.specs.declared.Verdict.TheVariants.{Fine, Refused}
use Rattle.format_write.specs.Key.{comma}
use Rattle.format_plan.specs.Lines.{kept_test, risen, dual_test, separator, member_numbers}

module _ (m low i e : ℕ) where
  pub kept_low : e < low → kept_test m low i e ≡ Refused 26 i
  unfolding kept_test refuse_if
  kept_low h = rw (lt-ltb e low h)

  pub kept_high : low ≤ e → m ≤ e → kept_test m low i e ≡ Refused 26 i
  unfolding kept_test refuse_if
  kept_high h k = rw (le-ltb e low h, le-leb m e k)

  pub kept_fine : low ≤ e → e < m → kept_test m low i e ≡ Fine
  unfolding kept_test refuse_if
  kept_fine h k = rw (le-ltb e low h, lt-leb m e k)

module _ (low v : ℕ) where
  pub risen_low : v < low → risen low v ≡ member_numbers + 1
  unfolding risen
  risen_low h = rw (lt-leb low v h)

  pub risen_high : low ≤ v → member_numbers ≤ v → risen low v ≡ member_numbers + 1
  unfolding risen
  risen_high h k = rw (le-leb low v h, le-ltb v member_numbers k)

  pub risen_next : low ≤ v → v < member_numbers → risen low v ≡ v + 1
  unfolding risen
  risen_next h k = rw (le-leb low v h, lt-ltb v member_numbers k)

pub separator_first : {i : ℕ} → i ≡ 0 → separator i ≡ []
unfolding separator
separator_first e = ap separator e

pub separator_later : (i : ℕ) → (i ≡ 0 → ⊥) → separator i ≡ comma ∷ []
unfolding separator
separator_later zero n = absurd (n refl)
separator_later (suc i) n = refl

module _ (i low : ℕ) where
  pub dual_falls : member_numbers < low → dual_test i low ≡ Refused 27 i
  unfolding dual_test refuse_if ◌before◌
  dual_falls h = rw (lt-ltb member_numbers low h)

  pub dual_many : low ≤ member_numbers → max_duals ≤ i → dual_test i low ≡ Refused 28 i
  unfolding dual_test refuse_if ◌before◌
  dual_many h k = rw (le-ltb member_numbers low h, le-leb max_duals i k)

  pub dual_line_fine : low ≤ member_numbers → i < max_duals → dual_test i low ≡ Fine
  unfolding dual_test refuse_if ◌before◌
  dual_line_fine h k = rw (le-ltb member_numbers low h, lt-leb max_duals i k)
