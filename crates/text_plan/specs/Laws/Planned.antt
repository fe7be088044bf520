-- The parts that are printed are in the buffers, and are the first marks and records; so each arm prints its answer.
use Rattle.std.specs.Prelude.{ℕ, ◌*◌, ◌/◌, ◌-◌, ◌^◌, ◌≤◌, ◌<◌, ◌≡◌, cond, length, take}
use Rattle.std.proofs.Common.{arith, ap, sym, ◌∙◌, ⊎_elim, lt-ltb, le-ltb}
use Rattle.std.proofs.Math.Nat.{sub-zero}
use Rattle.std.proofs.Math.Path.{ap₂, subst}
use mathlib.Core.List.{List}
use Rattle.base_finite.specs.Laws.Below.{lt_or_ge}
use Rattle.base_limits.specs.Limits.{record_bytes}
use Rattle.base_limits.specs.Verdict.{Outcome, refusal, answer}
use Rattle.format_write.specs.Text.{plan_text, refusal_text}
use Rattle.format_print.specs.declared.Printed.{Printed}
use Rattle.format_print.specs.Print.{printed, printed_out}
use Rattle.plan_rule.specs.Plan.{PlanCounts}
use Rattle.base_buffer.specs.Part.{at_most}
use Rattle.base_buffer.proofs.Laws.Part.{whole_part, most_part}
use Rattle.text_plan.specs.Planned.{planned_text, records_held, WordsIn, refused_words, finished_words}

pub held_room : (duals room : ℕ) → room / record_bytes < duals → room ≡ records_held duals room
unfolding records_held
held_room duals room b = sym (ap (λ t. cond t room (record_bytes * duals)) (lt-ltb (room / record_bytes) duals b))

pub held_wanted : (duals room : ℕ) → duals ≤ room / record_bytes → record_bytes * duals ≡ records_held duals room
unfolding records_held
held_wanted duals room b = sym (ap (λ t. cond t room (record_bytes * duals)) (le-ltb (room / record_bytes) duals b))

pub held_le : (duals room : ℕ) {n : ℕ} → n ≡ records_held duals room → n ≤ room
held_le duals room is =
    ⊎_elim
    (λ b. let h = held_room duals room b in omega arith)
    (λ b. let h = held_wanted duals room b in omega arith)
    (lt_or_ge (room / record_bytes) duals)

pub held_part : (duals : ℕ) (l : List ℕ) {n : ℕ} → n ≡ records_held duals (length l) → take (n - 0) l ≡ take (record_bytes * duals) l
held_part duals l {n} is =
    ⊎_elim
    (λ b. whole_part (record_bytes * duals) l (is ∙ sym (held_room duals (length l) b)) (omega arith))
    (λ b. ap (λ (k : ℕ). take k l) (sub-zero n ∙ is ∙ sym (held_wanted duals (length l) b)))
    (lt_or_ge (length l / record_bytes) duals)

-- ---- the two arms

module _ (edges : ℕ) (marks records out : List ℕ) where
  -- What printing an answer answers and leaves.
  abbrev Printing : Printed → (new : List ℕ) → Outcome PlanCounts → Type 0
  Printing r new o =
      (r ≡ printed (planned_text o edges marks records) out) × ((new ≡ printed_out (planned_text o edges marks records) out) × WordsIn o)

  pub refused_printed : {o : Outcome PlanCounts} {r : Printed} {new : List ℕ} {number place : ℕ} → o ≡ refusal number place
      → (r ≡ printed (refusal_text number place) out) × (new ≡ printed_out (refusal_text number place) out) → number < 2 ^ 64 → place < 2 ^ 64 → Printing r new o
  unfolding planned_text
  refused_printed {r = r} {new = new} told p hn hp = subst (Printing r new) (sym told) (p.0, (p.1, refused_words hn hp))

  pub finished_printed : {o : Outcome PlanCounts} {r : Printed} {new : List ℕ} {c : PlanCounts} {m n : ℕ} → o ≡ answer c → m ≡ at_most edges (length marks) → n ≡ records_held c.duals (length records)
      → (r ≡ printed (plan_text c.terminals c.cost c.bound c.rounds (take (m - 0) marks) (take (n - 0) records)) out)
      × (new ≡ printed_out (plan_text c.terminals c.cost c.bound c.rounds (take (m - 0) marks) (take (n - 0) records)) out)
      → c.terminals < 2 ^ 64 → c.cost < 2 ^ 64 → c.bound < 2 ^ 64 → c.rounds < 2 ^ 64 → Printing r new o
  unfolding planned_text
  finished_printed {r = r} {new = new} {c = c} told m_is n_is p hk hc hb hr =
      let text = ap₂ (λ (a b : List ℕ). plan_text c.terminals c.cost c.bound c.rounds a b) (most_part edges marks m_is) (held_part c.duals records n_is) in
      let q = subst (λ (w : List ℕ). (r ≡ printed w out) × (new ≡ printed_out w out)) text p in
      subst (Printing r new) (sym told) (q.0, (q.1, finished_words hk hc hb hr))
