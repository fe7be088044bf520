-- What the refusals 9, 11 and 15 find, case by case. The code's decisions use it.
use Rattle.std.specs.Prelude.{ℕ, ◌*◌, ◌-◌, ◌/◌, ◌%◌, ◌<◌, ◌≤◌, ◌≡◌, Bool, true, false, ◌&&◌, List, length, leb}
use native.Mathlib.Omega.{arith}
use borrow.Author.Tests.{eq-eqb, ne_eqb, le-ltb, lt-ltb}
use Rattle.base_finite.specs.Below.{any_below}
use Rattle.base_limits.specs.Limits.{max_value, member_bytes, record_bytes, max_duals}
use Rattle.base_limits.specs.Verdict.{refuse_if}
use Rattle.base_limits.specs.declared.Verdict.TheVariants.{Fine, Refused}
use Rattle.theory_steiner.specs.Dual.{Dual}
use Rattle.survey_core.specs.Survey.{Survey, vertex_count, edge_count}
use Rattle.check_rule.specs.Check.{Checked, shape_refusal, dual_refusal, rule_refusal}

module _ (s : Survey) (marks records : List ℕ) where
  pub shape_marks : (length marks ≡ length s.firsts → ⊥) → shape_refusal s marks records ≡ Refused 9 0
  unfolding shape_refusal edge_count refuse_if
  shape_marks h = rw (ne_eqb (length marks) (length s.firsts) h)

  module _ (long : length marks ≡ length s.firsts) where
    pub shape_uneven : (length records % record_bytes ≡ 0 → ⊥) → shape_refusal s marks records ≡ Refused 9 0
    unfolding shape_refusal edge_count refuse_if
    shape_uneven h = rw (eq-eqb (length marks) (length s.firsts) long, ne_eqb (length records % record_bytes) 0 h)

    module _ (even : length records % record_bytes ≡ 0) where
      pub shape_many : max_duals < length records / record_bytes → shape_refusal s marks records ≡ Refused 9 0
      unfolding shape_refusal edge_count refuse_if
      shape_many h =
          rw (
            eq-eqb (length marks) (length s.firsts) long,
            eq-eqb (length records % record_bytes) 0 even,
            lt-ltb max_duals (length records / record_bytes) h,
          )

      pub shape_fine : length records / record_bytes ≤ max_duals → shape_refusal s marks records ≡ Fine
      unfolding shape_refusal edge_count refuse_if
      shape_fine h =
          rw (
            eq-eqb (length marks) (length s.firsts) long,
            eq-eqb (length records % record_bytes) 0 even,
            le-ltb max_duals (length records / record_bytes) h,
          )

module _ (s : Survey) (d : Dual) (i : ℕ) where
  abbrev strays : Bool
  strays = any_below (8 * member_bytes) (λ v. leb (length s.groups) v && d.holds v)

  pub dual_zero : d.value ≡ 0 → dual_refusal s d i ≡ Refused 11 i
  unfolding dual_refusal refuse_if
  dual_zero h = rw (eq-eqb d.value 0 h)

  pub dual_large : max_value < d.value → dual_refusal s d i ≡ Refused 11 i
  unfolding dual_refusal refuse_if
  dual_large h =
      let some : d.value ≡ 0 → ⊥ = omega arith in
      rw (ne_eqb d.value 0 some, lt-ltb max_value d.value h)

  module _ (some : d.value ≡ 0 → ⊥) (fits : d.value ≤ max_value) where
    pub dual_stray : strays ≡ true → dual_refusal s d i ≡ Refused 11 i
    unfolding dual_refusal vertex_count refuse_if
    dual_stray h = rw (ne_eqb d.value 0 some, le-ltb max_value d.value fits, h)

    pub dual_fine : strays ≡ false → dual_refusal s d i ≡ Fine
    unfolding dual_refusal vertex_count refuse_if
    dual_fine h = rw (ne_eqb d.value 0 some, le-ltb max_value d.value fits, h)

module _ (c : Checked) where
  pub rule_exceeded : (c.terminals ≡ 0 → ⊥) → (c.terminals - 1) * c.bound < c.terminals * c.cost → rule_refusal c ≡ Refused 15 0
  unfolding rule_refusal refuse_if
  rule_exceeded h k = rw (ne_eqb c.terminals 0 h, lt-ltb ((c.terminals - 1) * c.bound) (c.terminals * c.cost) k)

  pub rule_met : (c.terminals ≡ 0 → ⊥) → c.terminals * c.cost ≤ (c.terminals - 1) * c.bound → rule_refusal c ≡ Fine
  unfolding rule_refusal refuse_if
  rule_met h k = rw (ne_eqb c.terminals 0 h, le-ltb ((c.terminals - 1) * c.bound) (c.terminals * c.cost) k)

  pub rule_none : c.terminals ≡ 0 → c.cost ≡ 0 → rule_refusal c ≡ Fine
  unfolding rule_refusal refuse_if
  rule_none h k =
      let zero_cost : c.terminals * c.cost ≡ 0 = rw h (omega arith) in
      let no_less : c.terminals * c.cost ≤ (c.terminals - 1) * c.bound = omega arith in
      rw (eq-eqb c.cost 0 k, le-ltb ((c.terminals - 1) * c.bound) (c.terminals * c.cost) no_less, eq-eqb c.terminals 0 h)

  pub rule_cost : c.terminals ≡ 0 → (c.cost ≡ 0 → ⊥) → rule_refusal c ≡ Refused 15 0
  unfolding rule_refusal refuse_if
  rule_cost h k = rw (eq-eqb c.terminals 0 h, ne_eqb c.cost 0 k)
