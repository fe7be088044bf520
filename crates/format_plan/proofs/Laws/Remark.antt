-- Laws of what is said of printed figures: what the code answers, and what is said where sites, cost and bound are
-- printed.
use Rattle.std.specs.Prelude.{ℕ, ◌+◌, ◌*◌, ◌/◌, ◌≤◌, ◌<◌, ◌≡◌, refl, Bool, true, false, length, take, leb}
use Rattle.std.proofs.Common.{arith, ◌∙◌, le-leb, eq-eqb, ne_eqb}
use Rattle.std.proofs.Math.Path.{ap, sym}
use Rattle.std.proofs.Math.Bool.{cond}
use mathlib.Core.List.{List, []}
use Rattle.std.proofs.lemmas.Bool.{lt-leb}
use Rattle.base_limits.specs.Limits.{figure_digits}
use Rattle.format_write.specs.Key.{terminals_key, cost_key, bound_key}
use Rattle.format_write.specs.Text.{line_of}
use Rattle.format_read.specs.Answer.{number_step}
use Rattle.format_read.specs.Number.{OfDigits}
use Rattle.format_read.specs.Stands.{Stands}
use Rattle.format_read.specs.Step.{Step, found, ◌then◌}
use Rattle.format_read.proofs.Laws.Step.{then_found}
use Rattle.format_read.specs.declared.Cursor.{Cursor}
use Rattle.format_read.specs.declared.Number.{Number}
use Rattle.format_read.specs.declared.Number.TheVariants.{Refused, Value}
use Rattle.format_plan.specs.Remark.{remark_line, remark_bytes, shown, figures_at, remark_for, remark_on}
use Rattle.format_plan.proofs.Laws.RoundTrip.{value_reads_back}

-- ---- the code's answers

-- Half the bound is compared, so that nothing is doubled.
pub half_shows : (c b : ℕ) → c ≤ b / 2 → 1 ≡ shown c b
unfolding shown
half_shows c b h = sym (ap (λ t. cond t 1 0) (le-leb (2 * c) b (omega arith)))

pub half_hides : (c b : ℕ) → b / 2 < c → 0 ≡ shown c b
unfolding shown
half_hides c b h = sym (ap (λ t. cond t 1 0) (lt-leb (2 * c) b (omega arith)))

-- The same number, as a step.
pub found_as : {x y : ℕ} → x ≡ y → (next : ℕ) → ◌≡◌ {A = Step ℕ} (found x next) (found y next)
found_as e next = ap (λ v. found v next) e

-- How many bytes of the line are said.
module _ (t : List ℕ) (at : ℕ) {r : Number} (read : number_step r ≡ figures_at t at) where
  pub unread_remark : {n p : ℕ} → r ≡ Refused n p → take 0 remark_line ≡ remark_on t at
  unfolding remark_on remark_for number_step remark_line
  unread_remark told = sym (ap remark_for (sym read ∙ ap number_step told))

  pub none_remark : {v : ℕ} {next : Cursor} → r ≡ Value v next → v ≡ 0 → take 0 remark_line ≡ remark_on t at
  unfolding remark_on remark_for number_step remark_line
  none_remark {v} told none = sym (ap remark_for (sym read ∙ ap number_step told) ∙ ap (λ b. cond b [] remark_line) (eq-eqb v 0 none))

  pub whole_remark : {v : ℕ} {next : Cursor} → r ≡ Value v next → (v ≡ 0 → ⊥) → take remark_bytes remark_line ≡ remark_on t at
  unfolding remark_on remark_for number_step remark_line
  whole_remark {v} told some = sym (ap remark_for (sym read ∙ ap number_step told) ∙ ap (λ b. cond b [] remark_line) (ne_eqb v 0 some))

-- ---- printed figures

shown_remark : (c b next : ℕ) (t : Bool) → leb (2 * c) b ≡ t → remark_for (found (shown c b) next) ≡ cond t remark_line []
unfolding remark_for shown
shown_remark c b next true h = rw h refl
shown_remark c b next false h = rw h refl

-- Sites, cost and bound that stand in a text, one line behind the other: the line is said exactly where twice the cost
-- is at most the bound.
pub printed_remark : (t : List ℕ) (at k c b : ℕ) → OfDigits figure_digits k → OfDigits figure_digits c → OfDigits figure_digits b →
    Stands t at (line_of terminals_key k) → Stands t (at + length (line_of terminals_key k)) (line_of cost_key c) →
    Stands t (at + length (line_of terminals_key k) + length (line_of cost_key c)) (line_of bound_key b) →
    remark_on t at ≡ cond (leb (2 * c) b) remark_line []
unfolding remark_on figures_at
printed_remark t at k c b hk hc hb sk sc sb =
    ap remark_for
    (then_found _ (value_reads_back terminals_key figure_digits t at k (omega arith) hk sk)
    ∙ then_found _ (value_reads_back cost_key figure_digits t (at + length (line_of terminals_key k)) c (omega arith) hc sc)
    ∙ then_found _ (value_reads_back bound_key figure_digits t (at + length (line_of terminals_key k) + length (line_of cost_key c)) b (omega arith) hb sb))
    ∙ shown_remark c b _ (leb (2 * c) b) refl
