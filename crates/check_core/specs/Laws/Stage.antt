-- The stages of the checker, one after the other, come to the definition, and each leaves what the next requires.
use Rattle.std.specs.Prelude.{ℕ, ◌*◌, ◌/◌, ◌≤◌, ◌≡◌, ◌&&◌, ◌||◌, not, List, [], get_or, eqb}
use Rattle.std.proofs.Common.{◌∙◌, subst}
use Rattle.std.proofs.Math.Path.{ap, sym}
use Rattle.std.proofs.Math.ListN.{length}
use Rattle.std.proofs.Math.Dec.{ltb, leb}
use Rattle.base_finite.specs.Below.{any_below}
use Rattle.base_limits.specs.Limits.{member_bytes, record_bytes, max_duals, max_value}
use Rattle.base_limits.specs.Verdict.{refuse_if, ◌before◌, lowest_below, refusal, answer, outcome}
use Rattle.base_limits.specs.declared.Verdict.{Verdict}
use Rattle.base_limits.specs.declared.Verdict.TheVariants.{Fine, Refused}
use Rattle.base_limits.specs.Laws.Verdict.{before_fine, before_refused, before_assoc, fine_left, fine_right, lowest_cong}
use Rattle.theory_steiner.specs.Problem.{separates, terminal, terminals, cost}
use Rattle.theory_steiner.specs.Dual.{Dual, total, dual_load}
use Rattle.survey_core.specs.Survey.{Survey, survey_from, lists_of, vertex_count, edge_count, member, same_group, problem_of}
use Rattle.survey_core.specs.Refusal.{survey_refusal, group_refusal}
use Rattle.survey_components.specs.Labels.{chosen_mark, chosen}
use Rattle.survey_components.specs.declared.Chosen.TheVariants.{Kept}
use Rattle.survey_core.specs.Sound.{SurveySound}
use Rattle.survey_core.proofs.Laws.Refusal.{fine_survey}
use Rattle.survey_lists.specs.Pouring.{poured_groups, poured_survey}
use Rattle.survey_lists.proofs.Laws.Pouring.{length_poured}
use Rattle.survey_lists.proofs.Laws.Plan.{poured_sound, poured_separates, poured_plan}
use Rattle.check_rule.specs.Check.{Checked, dual_at, duals_in, kept_by, shape_refusal, dual_refusal, rule_refusal, checked_of, check_refusal, checking}
use Rattle.check_core.specs.Moats.{duals_refusal}
use Rattle.check_core.specs.Laws.Duals.{duals_fit}
use Rattle.check_core.specs.Stage.{checked_as, input_refusal, PlanFits}
use Rattle.check_rule.proofs.Laws.Meaning.{fine_shape}
use Rattle.check_core.specs.Laws.Counts.{counts_fit}

module _ (s : Survey) (marks records : List ℕ) where
  check_stages : check_refusal s marks records
      ≡ (input_refusal s marks records before duals_refusal s records before group_refusal s 14 (kept_by marks) before rule_refusal (checked_of s marks records))
  unfolding check_refusal input_refusal duals_refusal
  check_stages =
      let p = problem_of s in
      let duals = length records / record_bytes in
      let rest = group_refusal s 14 (kept_by marks) before rule_refusal (checked_of s marks records) in
      let nine = shape_refusal s marks records in
      let ten = lowest_below (edge_count s) (λ e. refuse_if (ltb 2 (get_or marks e 0)) 10 e) in
      let eleven = lowest_below duals (λ i. dual_refusal s (dual_at records i) i) in
      let twelve = lowest_below duals (λ i. refuse_if (not (separates p (dual_at records i).holds)) 12 i) in
      let thirteen = lowest_below (edge_count s) (λ e. refuse_if (ltb (2 * p.weight e) (dual_load p (duals_in records) e)) 13 e) in
      sym
      (before_assoc (survey_refusal s) (nine before ten) _
      ∙ ap (λ v. survey_refusal s before v)
      (before_assoc nine ten _
      ∙ ap (λ v. nine before ten before v) (before_assoc eleven (twelve before thirteen) rest ∙ ap (λ v. eleven before v) (before_assoc twelve thirteen rest))))

  pub input_sound : input_refusal s marks records ≡ Fine → SurveySound s
  unfolding input_refusal
  input_sound h = fine_survey s (fine_left _ _ h)

  pub input_few : input_refusal s marks records ≡ Fine → length records / record_bytes ≤ max_duals
  unfolding input_refusal
  input_few h = (fine_shape s marks records (fine_left _ _ (fine_right _ _ h))).2

  -- The first finding stands, stage by stage.
  pub input_stops : {number place : ℕ} → input_refusal s marks records ≡ Refused number place → checking s marks records ≡ refusal number place
  unfolding checking outcome
  input_stops h = rw (check_stages, before_refused h _)

  module _ (input : input_refusal s marks records ≡ Fine) where
    -- The call for 14 repeats 1 to 6 and 18.
    pub group_found : {found : Verdict} → found ≡ (survey_refusal s before group_refusal s 14 (chosen Kept marks)) → group_refusal s 14 (kept_by marks) ≡ found
    unfolding input_refusal chosen chosen_mark kept_by
    group_found h = sym (h ∙ before_fine (fine_left _ _ input) _)

    pub duals_stop : {number place : ℕ} → duals_refusal s records ≡ Refused number place → checking s marks records ≡ refusal number place
    unfolding checking outcome
    duals_stop h = rw (check_stages, before_fine input _, before_refused h _)

    module _ (duals : duals_refusal s records ≡ Fine) where
      pub groups_stop : {number place : ℕ} → group_refusal s 14 (kept_by marks) ≡ Refused number place → checking s marks records ≡ refusal number place
      unfolding checking outcome
      groups_stop h = rw (check_stages, before_fine input _, before_fine duals _, before_refused h _)

      pub rule_decides : group_refusal s 14 (kept_by marks) ≡ Fine
          → checking s marks records ≡ outcome (rule_refusal (checked_of s marks records)) (checked_of s marks records)
      unfolding checking
      rule_decides h = rw (check_stages, before_fine input _, before_fine duals _, before_fine h _)

-- ---- what is judged by the poured groups

module _ (s : Survey) (sound : SurveySound s) {part : List ℕ} (part_is : part ≡ poured_groups (lists_of s)) where
  abbrev into : Survey
  into = survey_from part s.firsts s.seconds s.weights

  into_is : into ≡ poured_survey s
  into_is = ap (λ (groups : List ℕ). survey_from groups s.firsts s.seconds s.weights) part_is

  -- 11, 12 and 13 are those of the lists.
  value_poured : (d : Dual) (i : ℕ) → dual_refusal (poured_survey s) d i ≡ dual_refusal s d i
  unfolding dual_refusal vertex_count
  value_poured d i =
      ap
      (λ (n : ℕ). refuse_if (eqb d.value 0 || ltb max_value d.value || any_below (8 * member_bytes) (λ v. leb n v && d.holds v)) 11 i)
      (length_poured (lists_of s))

  all_poured : (records : List ℕ) → duals_refusal (poured_survey s) records ≡ duals_refusal s records
  unfolding duals_refusal edge_count problem_of dual_load
  all_poured records =
      let duals = length records / record_bytes in
      let eleven =
      lowest_cong duals (λ i. dual_refusal (poured_survey s) (dual_at records i) i) (λ i. dual_refusal s (dual_at records i) i) (λ i b. value_poured (dual_at records i) i) in
      let twelve =
      lowest_cong duals
      (λ i. refuse_if (not (separates (problem_of (poured_survey s)) (dual_at records i).holds)) 12 i)
      (λ i. refuse_if (not (separates (problem_of s) (dual_at records i).holds)) 12 i)
      (λ i b. ap (λ t. refuse_if (not t) 12 i) (sym (poured_separates s sound.pairs (dual_at records i).holds))) in
      let thirteen = lowest_below (edge_count s) (λ e. refuse_if (ltb (2 * (problem_of s).weight e) (dual_load (problem_of s) (duals_in records) e)) 13 e) in
      ap (λ v. v before lowest_below duals (λ i. refuse_if (not (separates (problem_of (poured_survey s)) (dual_at records i).holds)) 12 i) before thirteen) eleven
      ∙ ap (λ v. lowest_below duals (λ i. dual_refusal s (dual_at records i) i) before v before thirteen) twelve

  pub duals_poured : (records : List ℕ) → duals_refusal into records ≡ duals_refusal s records
  duals_poured records = ap (λ (q : Survey). duals_refusal q records) into_is ∙ all_poured records

  -- What the counts of the poured groups leave.
  pub poured_fits : (marks records : List ℕ) → length records / record_bytes ≤ max_duals → duals_refusal into records ≡ Fine → PlanFits part s.firsts s.weights marks records
  unfolding duals_refusal terminals terminal cost problem_of vertex_count edge_count same_group member
  poured_fits marks records few h =
      let duals = duals_fit into records few (fine_left _ _ h) in
      record { edges_few = sound.edges_few; duals = duals; counts = counts_fit into marks records (subst SurveySound (sym into_is) (poured_sound s sound)) duals }

  -- The counts are those of the lists.
  sites_poured : terminals (problem_of (survey_from part s.firsts [] s.weights)) ≡ terminals (problem_of s)
  unfolding terminals terminal problem_of vertex_count same_group
  sites_poured = ap (λ (q : Survey). terminals (problem_of q)) into_is ∙ sym (poured_plan s sound.pairs).same_terminals

  pub checked_poured : (marks records : List ℕ) → checked_of (survey_from part s.firsts [] s.weights) marks records ≡ checked_of s marks records
  unfolding checked_of cost problem_of edge_count
  checked_poured marks records i = record { terminals = sites_poured i; cost = cost (problem_of s) (kept_by marks); bound = total (duals_in records) }

module _ (c : Checked) {k kept bound : ℕ} (sites : k ≡ c.terminals) (price : kept ≡ c.cost) (sum : bound ≡ c.bound) where
  same_counts : checked_as k kept bound ≡ c
  same_counts = rw (sites, price, sum)

  pub judged_passed : {found : Verdict} → found ≡ rule_refusal (checked_as k kept bound) → found ≡ Fine → answer (checked_as k kept bound) ≡ outcome (rule_refusal c) c
  unfolding outcome
  judged_passed h f =
      let r : rule_refusal c ≡ Fine = ap rule_refusal (sym same_counts) ∙ sym h ∙ f in
      rw r (ap answer same_counts)

  pub judged_refused : {found : Verdict} {number place : ℕ} → found ≡ rule_refusal (checked_as k kept bound) → found ≡ Refused number place
      → refusal number place ≡ outcome (rule_refusal c) c
  unfolding outcome
  judged_refused {found} {number} {place} h f =
      let r : rule_refusal c ≡ Refused number place = ap rule_refusal (sym same_counts) ∙ sym h ∙ f in
      rw r
