-- Lists and the groups that they are poured into have one plan (document 02, No. 2), and where nothing stops the one nothing stops the other. Growing and dropping cite it.
use Rattle.std.specs.Prelude.{ℕ, ◌≡◌, refl, Bool, true, false, not, List, ◌++◌, length, get_or, eqb}
use Rattle.std.proofs.Math.Path.{ap, sym}
use Rattle.std.proofs.Common.{◌∙◌, subst}
use Rattle.base_finite.specs.Below.{counted, tabulate}
use Rattle.base_finite.specs.Laws.Below.{get_d_tabulate}
use Rattle.base_finite.specs.Laws.Test.{same_test_law}
use Rattle.base_buffer.proofs.Laws.Store.{tabulate_cong}
use Rattle.base_limits.specs.Verdict.{Outcome, answer}
use Rattle.theory_graph.specs.Path.{without}
use Rattle.theory_graph.proofs.Laws.Linked.{without_elim}
use Rattle.theory_steiner.specs.Problem.{Problem, Bounded, all_usable, terminal, terminals}
use Rattle.theory_steiner.specs.Pruning.{needed, picked, kept, mark_of, mark}
use Rattle.theory_steiner.proofs.Laws.Joined.{needed_iff}
use Rattle.survey_core.specs.Survey.{Survey, survey_from, lists_of, groups_alone, vertex_count, edge_count, member, same_group, problem_of}
use Rattle.survey_core.specs.Sound.{SurveySound}
use Rattle.survey_core.specs.Pairs.{PairsSound}
use Rattle.survey_lists.specs.Pouring.{poured_groups, poured_survey}
use Rattle.survey_lists.proofs.Laws.Pouring.{length_poured}
use Rattle.survey_lists.proofs.Laws.Plan.{poured_sound, poured_plan, poured_joins}
use Rattle.plan_draw.specs.Drawing.{records_over}
use Rattle.plan_rule.specs.Plan.{Plan, PlanCounts, plan_of}
use Rattle.plan_rule.specs.Growing.{grown_counts_of, picked_marks}
use Rattle.plan_rule.specs.Promise.{Ready}
use Rattle.plan_rule.proofs.Laws.Ready.{all_bounded}

-- k does not depend on the tracks.
pub plan_terminals : (groups firsts seconds weights : List ℕ) → terminals (problem_of (groups_alone groups)) ≡ (plan_of (problem_of (survey_from groups firsts seconds weights))).terminals
unfolding plan_of terminals terminal problem_of same_group member vertex_count
plan_terminals groups firsts seconds weights = refl

mark_picked : (a b : Bool) → counted a 1 ≡ counted (not (eqb (mark_of a b) 0)) 1
unfolding counted mark_of
mark_picked true true = refl
mark_picked true false = refl
mark_picked false b = refl

-- A plan's marks say what is picked.
marks_picks : (p : Problem) → picked_marks p ≡ tabulate p.edges (λ e. counted (not (eqb (get_or (plan_of p).marks e 0) 0)) 1)
unfolding picked_marks plan_of mark
marks_picks p =
    tabulate_cong p.edges _ _
    (λ e b.
    mark_picked (picked p e) (kept p e)
    ∙ ap (λ x. counted (not (eqb x 0)) 1) (sym (get_d_tabulate p.edges (mark p) e 0 b)))

module _ (s : Survey) (sound : SurveySound s) {part : List ℕ} (part_is : part ≡ poured_groups (lists_of s)) where
  abbrev into : Survey
  into = survey_from part s.firsts s.seconds s.weights

  into_is : into ≡ poured_survey s
  into_is = ap (λ (groups : List ℕ). survey_from groups s.firsts s.seconds s.weights) part_is

  pub same_plan : plan_of (problem_of s) ≡ plan_of (problem_of (poured_survey s))
  unfolding plan_of
  same_plan =
      let p = poured_plan s sound.pairs in
      λ i.
      record {
        terminals = p.same_terminals i;
        cost = p.same_cost i;
        bound = p.same_bound i;
        rounds = p.same_rounds i;
        marks = p.same_marks_law i;
        duals = p.same_duals i;
      }

  -- The poured groups have the plan of the lists.
  pub plan_poured : plan_of (problem_of into) ≡ plan_of (problem_of s)
  plan_poured = ap (λ (q : Survey). plan_of (problem_of q)) into_is ∙ sym same_plan

  pub poured_counts : {o : Outcome PlanCounts} → o ≡ answer (grown_counts_of (plan_of (problem_of into))) → o ≡ answer (grown_counts_of (plan_of (problem_of s)))
  poured_counts h = h ∙ ap (λ (q : Plan). answer (grown_counts_of q)) plan_poured

  -- The same tracks are picked.
  pub picks_poured : picked_marks (problem_of into) ≡ picked_marks (problem_of s)
  unfolding problem_of edge_count
  picks_poured =
      marks_picks (problem_of into)
      ∙ ap (λ (q : Plan). tabulate (length s.firsts) (λ e. counted (not (eqb (get_or q.marks e 0) 0)) 1)) plan_poured
      ∙ sym (marks_picks (problem_of s))

  pub poured_marks : (rest : List ℕ) {marked : List ℕ} → marked ≡ picked_marks (problem_of into) ++ rest → marked ≡ picked_marks (problem_of s) ++ rest
  poured_marks rest h = h ∙ ap (λ (l : List ℕ). l ++ rest) picks_poured

  pub poured_records : (records : List ℕ) {drawn : List ℕ} → drawn ≡ records_over (plan_of (problem_of into)).duals records → drawn ≡ records_over (plan_of (problem_of s)).duals records
  poured_records records h = h ∙ ap (λ (q : Plan). records_over q.duals records) plan_poured

-- Where nothing stops the lists, nothing stops the poured groups.
pub ready_poured : (s : Survey) {marks_length records_length : ℕ} (ready : Ready s marks_length records_length) {part : List ℕ} → part ≡ poured_groups (lists_of s)
    → Ready (survey_from part s.firsts s.seconds s.weights) marks_length records_length
unfolding vertex_count edge_count problem_of all_usable
ready_poured s {marks_length} {records_length} ready part_is =
    subst (λ (q : Survey). Ready q marks_length records_length) (sym (into_is s ready.survey part_is))
    (record {
      survey = poured_sound s ready.survey;
      marks_fit = ready.marks_fit;
      records_fit = rw (length_poured (lists_of s)) ready.records_fit;
      joinable = (poured_joins s ready.survey.pairs (all_usable (problem_of s)) (all_bounded s)).0 ready.joinable;
    })

-- The same tracks of a set are needed.
pub poured_needed : (s : Survey) → PairsSound (lists_of s) → (F : ℕ → Bool) → Bounded (problem_of s) F → (e : ℕ)
    → needed (problem_of s) F e ≡ needed (problem_of (poured_survey s)) F e
unfolding problem_of edge_count
poured_needed s sound F bounded e =
    let rest : Bounded (problem_of s) (without F e) = λ f h. bounded f (without_elim F e f h).0 in
    let same = poured_joins s sound (without F e) rest in
    same_test_law (needed (problem_of s) F e) (needed (problem_of (poured_survey s)) F e)
    (λ h.
    let n = (needed_iff (problem_of s) F bounded e).0 h in
    (needed_iff (problem_of (poured_survey s)) F bounded e).1 (n.0, λ j. n.1 (same.1 j)))
    (λ h.
    let n = (needed_iff (problem_of (poured_survey s)) F bounded e).0 h in
    (needed_iff (problem_of s) F bounded e).1 (n.0, λ j. n.1 (same.0 j)))
