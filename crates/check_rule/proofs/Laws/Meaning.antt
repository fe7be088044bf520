-- What passing the checker means, refusal by refusal, in terms of the survey: sound (1 to 6), marks and records of the right shape (9), marks up to 2 (10), duals
-- with values in range and members that are vertices (11), each with a group's members on both sides (12), no track's moats over twice its price (13),
-- every group joined by paths of kept tracks (14), and the rule (15).
use Rattle.std.specs.Prelude.{ℕ, ◌*◌, ◌-◌, ◌/◌, ◌%◌, ◌≤◌, ◌<◌, ◌≡◌, ◌↔◌, true, ◌&&◌, ◌||◌, List, length, get_or, leb}
use Rattle.std.proofs.Common.{sym, ◌∙◌, subst, ⊎_elim, arith, not-le_of_lt}
use Rattle.std.proofs.Math.Bool.{false, not}
use Rattle.std.proofs.Math.ListN.{get_or-eq_default}
use Rattle.std.proofs.Math.Dec.{eqb, ltb}
use borrow.Author.Tests.{eqb-true, eqb-false, eq-eqb, ltb-false, le-ltb, leb-true, leb-false, not-true, not-false}
use Rattle.base_finite.specs.Below.{any_below}
use Rattle.base_finite.specs.Laws.Test.{and_left, and_right, or_false_left, or_false_right, not_true_false, true_not_false, and_false_cases}
use Rattle.base_finite.specs.Laws.Below.{any_none, any_elim, Found, lt_or_ge}
use Rattle.base_limits.specs.Limits.{max_value, member_bytes, record_bytes, max_duals}
use Rattle.base_limits.specs.declared.Verdict.TheVariants.{Fine}
use Rattle.base_limits.specs.Laws.Verdict.{before_fine, fine_left, fine_right, refuse_false, fine_refuse, lowest_none, none_lowest}
use Rattle.theory_steiner.specs.Problem.{separates, terminals, cost, Bounded}
use Rattle.theory_steiner.specs.Dual.{Dual, dual_load}
use Rattle.survey_core.specs.Survey.{Survey, vertex_count, edge_count, problem_of}
use Rattle.survey_core.specs.Sound.{ByteGroups}
use Rattle.survey_core.proofs.Laws.Refusal.{survey_fine, fine_survey}
use Rattle.survey_core.proofs.Laws.Group.{group_fine, joins_fine}
use Rattle.check_rule.specs.Passing.{DualSound, Passing}
use Rattle.check_rule.proofs.Laws.Refusal.{shape_fine, dual_fine}
use Rattle.check_rule.specs.Check.{Checked, dual_at, duals_in, kept_by, shape_refusal, dual_refusal, rule_refusal, checked_of, check_refusal}

-- ---- each refusal

module _ (s : Survey) (marks records : List ℕ) where
  pub fine_shape : shape_refusal s marks records ≡ Fine →
      (length marks ≡ edge_count s) × (length records % record_bytes ≡ 0) × (length records / record_bytes ≤ max_duals)
  unfolding shape_refusal
  fine_shape h =
      let a = eqb (length marks) (edge_count s) in
      let b = eqb (length records % record_bytes) 0 in
      let c = ltb max_duals (length records / record_bytes) in
      let k : (not a || not b || c) ≡ false = fine_refuse (not a || not b || c) 9 0 h in
      let l : (not a || not b) ≡ false = or_false_left (not a || not b) c k in (
        eqb-true (length marks) (edge_count s) (not-false a (or_false_left (not a) (not b) l)),
        eqb-true (length records % record_bytes) 0 (not-false b (or_false_right (not a) (not b) l)),
        ltb-false max_duals (length records / record_bytes) (or_false_right (not a || not b) c k),
      )

pub fine_dual : (s : Survey) (d : Dual) (i : ℕ) → dual_refusal s d i ≡ Fine → DualSound s d
unfolding dual_refusal
fine_dual s d i h =
    let a = eqb d.value 0 in
    let b = ltb max_value d.value in
    let c = any_below (8 * member_bytes) (λ v. leb (vertex_count s) v && d.holds v) in
    let k : (a || b || c) ≡ false = fine_refuse (a || b || c) 11 i h in
    let l : (a || b) ≡ false = or_false_left (a || b) c k in
    let none = any_none (8 * member_bytes) (λ v. leb (vertex_count s) v && d.holds v) (or_false_right (a || b) c k) in
    record {
      positive = let z : d.value ≡ 0 → ⊥ = eqb-false d.value 0 (or_false_left a b l) in omega arith;
      small = ltb-false max_value d.value (or_false_right a b l);
      vertices_only = λ v bv m.
          ⊎_elim
          (λ out. leb-false (vertex_count s) v out)
          (λ not_in. true_not_false (d.holds v) m not_in)
          (and_false_cases (leb (vertex_count s) v) (d.holds v) (none v bv));
    }

sound_dual : (s : Survey) (d : Dual) (i : ℕ) → DualSound s d → dual_refusal s d i ≡ Fine
unfolding vertex_count
sound_dual s d i h =
    dual_fine s d i (λ e. let p : 0 < d.value = h.positive in omega arith) h.small
    (not_true_false (any_below (8 * member_bytes) (λ v. leb (vertex_count s) v && d.holds v))
    (λ a.
    let f : Found (8 * member_bytes) (λ v. leb (vertex_count s) v && d.holds v) = any_elim (8 * member_bytes) _ a in
    not-le_of_lt (h.vertices_only f.at f.below (and_right (leb (vertex_count s) f.at) (d.holds f.at) f.passes))
    (leb-true (vertex_count s) f.at (and_left (leb (vertex_count s) f.at) (d.holds f.at) f.passes))))

fine_rule : (c : Checked) → rule_refusal c ≡ Fine → (c.terminals ≡ 0 → c.cost ≡ 0) × (c.terminals * c.cost ≤ (c.terminals - 1) * c.bound)
unfolding rule_refusal
fine_rule c h =
    let a = eqb c.terminals 0 in
    let b = eqb c.cost 0 in
    let x = ltb ((c.terminals - 1) * c.bound) (c.terminals * c.cost) in
    let k : (a && not b || x) ≡ false = fine_refuse (a && not b || x) 15 0 h in (
      λ none.
          ⊎_elim
          (λ f. true_not_false a (eq-eqb c.terminals 0 none) f)
          (λ f. eqb-true c.cost 0 (not-false b f))
          (and_false_cases a (not b) (or_false_left (a && not b) x k)),
      ltb-false ((c.terminals - 1) * c.bound) (c.terminals * c.cost) (or_false_right (a && not b) x k),
    )

rule_fine : (c : Checked) → (c.terminals ≡ 0 → c.cost ≡ 0) → c.terminals * c.cost ≤ (c.terminals - 1) * c.bound → rule_refusal c ≡ Fine
unfolding rule_refusal
rule_fine c none rule =
    refuse_false (rw (free, le-ltb ((c.terminals - 1) * c.bound) (c.terminals * c.cost) rule)) 15 0
  where
    free : (eqb c.terminals 0 && not (eqb c.cost 0)) ≡ false
    free =
        not_true_false (eqb c.terminals 0 && not (eqb c.cost 0))
        (λ k.
        eqb-false c.cost 0 (not-true (eqb c.cost 0) (and_right (eqb c.terminals 0) (not (eqb c.cost 0)) k))
        (none (eqb-true c.terminals 0 (and_left (eqb c.terminals 0) (not (eqb c.cost 0)) k))))

-- Kept are exactly the tracks marked 2.
pub kept_iff : (marks : List ℕ) (e : ℕ) → (kept_by marks e ≡ true) ↔ (get_or marks e 0 ≡ 2)
unfolding kept_by
kept_iff marks e = (eqb-true (get_or marks e 0) 2, eq-eqb (get_or marks e 0) 2)

-- Marks that are m long mark no number past the tracks.
pub kept_bounded : (s : Survey) (marks : List ℕ) → length marks ≡ edge_count s → Bounded (problem_of s) (kept_by marks)
unfolding problem_of
kept_bounded s marks long e k =
    ⊎_elim
    (λ l. l)
    (λ g.
    absurd
    (let z : get_or marks e 0 ≡ 0 = get_or-eq_default marks 0 (subst (λ x. x ≤ e) (sym long) g) in
    let t : get_or marks e 0 ≡ 2 = (kept_iff marks e).0 k in
    omega arith))
    (lt_or_ge e (edge_count s))

-- ---- all of them

module _ (s : Survey) (numbered : ByteGroups s) (marks records : List ℕ) where
  -- Passed means all that.
  pub check_passing : check_refusal s marks records ≡ Fine → Passing s marks records
  unfolding check_refusal checked_of
  check_passing h =
      let h9 = fine_right _ _ h in
      let h10 = fine_right _ _ h9 in
      let h11 = fine_right _ _ h10 in
      let h12 = fine_right _ _ h11 in
      let h13 = fine_right _ _ h12 in
      let h14 = fine_right _ _ h13 in
      let h15 = fine_right _ _ h14 in
      let shape = fine_shape s marks records (fine_left _ _ h9) in
      let rule = fine_rule _ h15 in
      record {
        survey = fine_survey s (fine_left _ _ h);
        marks_long = shape.0;
        records_whole = shape.1;
        records_few = shape.2;
        marks_known = λ e b. ltb-false 2 (get_or marks e 0) (fine_refuse (ltb 2 (get_or marks e 0)) 10 e (none_lowest (edge_count s) _ (fine_left _ _ h10) e b));
        duals_sound = λ i b. fine_dual s (dual_at records i) i (none_lowest (length records / record_bytes) _ (fine_left _ _ h11) i b);
        duals_separate = λ i b.
            not-false (separates (problem_of s) (dual_at records i).holds)
            (fine_refuse (not (separates (problem_of s) (dual_at records i).holds)) 12 i (none_lowest (length records / record_bytes) _ (fine_left _ _ h12) i b));
        not_overtight = λ e b.
            ltb-false (2 * (problem_of s).weight e) (dual_load (problem_of s) (duals_in records) e)
            (fine_refuse (ltb (2 * (problem_of s).weight e) (dual_load (problem_of s) (duals_in records) e)) 13 e (none_lowest (edge_count s) _ (fine_left _ _ h13) e b));
        kept_joins = group_fine s 14 (kept_by marks) (kept_bounded s marks shape.0) numbered (fine_left _ _ h14);
        none_free = rule.0;
        rule = rule.1;
      }

  -- And all that passes.
  pub passing_check : Passing s marks records → check_refusal s marks records ≡ Fine
  unfolding check_refusal checked_of edge_count
  passing_check h =
      before_fine (survey_fine s h.survey) _
      ∙ before_fine (shape_fine s marks records h.marks_long h.records_whole h.records_few) _
      ∙ before_fine (lowest_none (edge_count s) _ (λ e b. refuse_false (le-ltb 2 (get_or marks e 0) (h.marks_known e b)) 10 e)) _
      ∙ before_fine (lowest_none (length records / record_bytes) _ (λ i b. sound_dual s (dual_at records i) i (h.duals_sound i b))) _
      ∙ before_fine (lowest_none (length records / record_bytes) _ (λ i b. refuse_false (rw (h.duals_separate i b)) 12 i)) _
      ∙ before_fine
      (lowest_none (edge_count s) _
      (λ e b. refuse_false (le-ltb (2 * (problem_of s).weight e) (dual_load (problem_of s) (duals_in records) e) (h.not_overtight e b)) 13 e)) _
      ∙ before_fine (joins_fine s 14 (kept_by marks) (kept_bounded s marks h.marks_long) h.kept_joins) _
      ∙ rule_fine _ h.none_free h.rule

  -- Passed exactly if none of 1 to 6 and 9 to 15 applies, each in its own terms.
  pub passes_iff : (check_refusal s marks records ≡ Fine) ↔ Passing s marks records
  passes_iff = (check_passing, passing_check)
