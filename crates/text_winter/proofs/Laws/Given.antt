-- The tests of a strength line, case by case; what a line that passes them is; and what is stored for the lines.
use Rattle.std.specs.Prelude.{ℕ, ◌-◌, ◌≤◌, ◌<◌, ◌≡◌, ◌⊎◌, ◌||◌, List, length, leb}
use Rattle.std.proofs.Math.Path.{ap, subst}
use Rattle.std.proofs.Common.{◌∙◌, length-set}
use Rattle.std.proofs.Math.Dec.{ltb}
use borrow.Author.Tests.{le-leb, lt-leb, lt-ltb, le-ltb, leb-false, ltb-false}
use Rattle.base_finite.specs.Laws.Test.{or_left, or_right, or_false_left, or_false_right}
use Rattle.base_limits.specs.Verdict.{◌before◌}
use Rattle.base_limits.specs.declared.Verdict.TheVariants.{Fine, Refused}
use Rattle.base_limits.specs.Laws.Verdict.{before_fine, before_refused, fine_left, fine_right, fine_refuse, refuse_true, refuse_false}
use Rattle.format_read.specs.Step.{found, refused, ◌then◌, checked}
use Rattle.format_read.proofs.Laws.Step.{then_found, then_refused, then_value, checked_fine, checked_value, checked_next}
use Rattle.winter_rule.specs.Winter.{strength_count, max_strength, strength_refusal}
use Rattle.winter_rule.specs.Promise.{StrengthSound}
use Rattle.winter_rule.proofs.Laws.Refusal.{fine_strength, strength_fine, strength_unfit}
use Rattle.text_winter.specs.Given.{Given, given_at, given_test, given_line, put_strength}
use Rattle.text_winter.specs.Render.{GivenPasses}

module _ (low : ℕ) (x : Given) where
  pub given_falls : x.group ≤ low → given_test low x ≡ Refused 24 x.group
  unfolding given_test
  given_falls h = before_refused (refuse_true (or_left (leb x.group low) (ltb strength_count x.group) (le-leb x.group low h)) 24 x.group) _

  pub given_high : strength_count < x.group → given_test low x ≡ Refused 24 x.group
  unfolding given_test
  given_high h = before_refused (refuse_true (or_right (leb x.group low) (ltb strength_count x.group) (lt-ltb strength_count x.group h)) 24 x.group) _

  module _ (rises : low < x.group) (group : x.group ≤ strength_count) where
    given_decided : given_test low x ≡ strength_refusal x.strength x.group
    unfolding given_test
    given_decided = before_fine (refuse_false (rw (lt-leb x.group low rises, le-ltb strength_count x.group group)) 24 x.group) _

    pub given_unfit : (x.strength ≡ 0) ⊎ (max_strength < x.strength) → given_test low x ≡ Refused 24 x.group
    given_unfit h = given_decided ∙ strength_unfit x.strength x.group h

    pub given_fine : StrengthSound x.strength → given_test low x ≡ Fine
    given_fine h = given_decided ∙ strength_fine x.strength x.group h

  pub given_passes : given_test low x ≡ Fine → GivenPasses low x
  unfolding given_test
  given_passes h =
      let t = fine_refuse (leb x.group low || ltb strength_count x.group) 24 x.group (fine_left _ _ h) in
      record {
        rises = leb-false x.group low (or_false_left (leb x.group low) (ltb strength_count x.group) t);
        group = ltb-false strength_count x.group (or_false_right (leb x.group low) (ltb strength_count x.group) t);
        strength = fine_strength x.strength x.group (fine_right _ _ h);
      }

-- ---- lines

module _ (t : List ℕ) (low at : ℕ) where
  pub line_malformed : {n p : ℕ} → given_at t at ≡ refused n p → given_line t low at ≡ refused n p
  unfolding given_line
  line_malformed e = then_refused _ e

  module _ {x : Given} {next : ℕ} (read : given_at t at ≡ found x next) where
    pub line_refused : {n p : ℕ} → given_test low x ≡ Refused n p → given_line t low at ≡ refused n p
    unfolding given_line checked
    line_refused h = then_found _ read ∙ ap (λ w. checked w x next) h

    pub line_fine : given_test low x ≡ Fine → given_line t low at ≡ found x next
    unfolding given_line checked
    line_fine h = then_found _ read ∙ ap (λ w. checked w x next) h

  pub line_passes : {x : Given} {next : ℕ} → given_line t low at ≡ found x next → GivenPasses low x
  unfolding given_line
  line_passes {x} h =
      let v = then_value (given_at t at) _ h in
      subst (GivenPasses low) (checked_value (given_test low v.0) v.0 v.1 v.3) (given_passes low v.0 (checked_fine (given_test low v.0) v.0 v.1 v.3))

-- What a line that passes was read as.
pub line_read : (t : List ℕ) (low at : ℕ) {x : Given} {next : ℕ} → given_line t low at ≡ found x next → given_at t at ≡ found x next
unfolding given_line
line_read t low at {x} {next} h =
    let v = then_value (given_at t at) _ h in
    v.2
    ∙ ap (λ (y : Given). found y v.1) (checked_value (given_test low v.0) v.0 v.1 v.3)
    ∙ ap (λ (n : ℕ). found x n) (checked_next (given_test low v.0) v.0 v.1 v.3)

pub put_length : (l : List ℕ) (i : ℕ) (x : Given) → length (put_strength l i x) ≡ length l
put_length l i x = length-set l (x.group - 1) x.strength
