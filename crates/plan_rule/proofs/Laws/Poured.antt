-- Poured together (document 02, No. 2): where 1 to 6 and 18 do not come, a survey with pairs is planned as every survey without pairs that its lists are poured into: the same
-- answer, marks and records, or both refuse with 8.
use Rattle.std.specs.Prelude.{ℕ, ◌*◌, ◌≡◌, ◌↔◌, ◌||◌, List, ◌++◌, length, ltb}
use Rattle.std.proofs.Math.Path.{refl, ap}
use Rattle.std.proofs.Common.{sym, ◌∙◌, subst}
use Rattle.std.proofs.Math.ListN.{drop}
use Rattle.base_limits.specs.Limits.{record_bytes, duals_for}
use Rattle.base_limits.specs.Verdict.{refuse_if, ◌before◌, outcome, written}
use Rattle.base_limits.specs.declared.Verdict.{Verdict}
use Rattle.base_limits.specs.declared.Verdict.TheVariants.{Fine, Refused}
use Rattle.base_limits.specs.Laws.Verdict.{before_fine, no_refusal}
use Rattle.theory_steiner.specs.Problem.{all_usable}
use Rattle.survey_core.specs.Survey.{Survey, survey_from, lists_of, vertex_count, edge_count, problem_of}
use Rattle.survey_core.specs.Sound.{SurveySound, ByteGroups}
use Rattle.survey_core.specs.Refusal.{survey_refusal, group_refusal}
use Rattle.survey_core.proofs.Laws.Refusal.{survey_fine, fine_survey}
use Rattle.survey_core.proofs.Laws.Group.{group_refused}
use Rattle.survey_lists.specs.Pouring.{IsPoured, PoursInto, poured_survey}
use Rattle.survey_lists.proofs.Laws.Plan.{into_sound, into_plan, poured_bytes, poured_into}
use Rattle.survey_lists.proofs.Laws.Split.{into_refusal}
use Rattle.plan_draw.specs.Drawing.{records_over}
use Rattle.plan_rule.specs.Plan.{Plan, plan_of, plan_refusal, planning, plan_counts_of, counting, marks_after, records_after}
use Rattle.plan_rule.specs.Poured.{SameButPlace, same, unjoinable, PlannedAlike}
use Rattle.plan_rule.proofs.Laws.Ready.{all_bounded}

-- ---- two surveys with one plan

-- As many junctions and tracks, one plan, 1 to 6 and 18 refuse neither, and 8 both or none.
record Alike (s t : Survey) : Type 0 where
  fine : survey_refusal s ≡ Fine
  fine_other : survey_refusal t ≡ Fine
  same_vertices : vertex_count t ≡ vertex_count s
  same_edges : edge_count t ≡ edge_count s
  joined_both : (group_refusal s 8 (all_usable (problem_of s)) ≡ Fine) ↔ (group_refusal t 8 (all_usable (problem_of t)) ≡ Fine)
  plans : plan_of (problem_of s) ≡ plan_of (problem_of t)

module _ (s t : Survey) (alike : Alike s t) where
  -- 7 is the same.
  abbrev short : Survey → (marks_length records_length : ℕ) → Verdict
  short q marks_length records_length = refuse_if (ltb marks_length (edge_count q) || ltb records_length (record_bytes * duals_for (vertex_count q))) 7 0

  short_same : (m r : ℕ) → short t m r ≡ short s m r
  short_same m r = rw (alike.same_edges, alike.same_vertices)

  abbrev apart : Survey → Verdict
  apart q = group_refusal q 8 (all_usable (problem_of q))

  -- What is left of the refusals behind 1 to 6 and 18.
  refusal_left : (m r : ℕ) → plan_refusal s m r ≡ (short s m r before apart s)
  unfolding plan_refusal
  refusal_left m r = before_fine alike.fine _

  other_left : (m r : ℕ) → plan_refusal t m r ≡ (short s m r before apart t)
  unfolding plan_refusal
  other_left m r = before_fine alike.fine_other _ ∙ ap (λ (v : Verdict). v before apart t) (short_same m r)

  -- How the two verdicts stand to one another.
  data Verdicts (v w : Verdict) : Type 0 where
    equal : v ≡ w → Verdicts v w
    eight : (g h : ℕ) → v ≡ Refused 8 g → w ≡ Refused 8 h → Verdicts v w

  apart_alike : Verdicts (apart s) (apart t)
  apart_alike = by (apart s) (apart t) refl refl
    where
      by : (v w : Verdict) → apart s ≡ v → apart t ≡ w → Verdicts (apart s) (apart t)
      by Fine w h k = equal (h ∙ sym (alike.joined_both.0 h))
      by (Refused number g) Fine h k = absurd (no_refusal h (alike.joined_both.1 k))
      by (Refused number g) (Refused other h') h k =
          eight g h'
          (h ∙ ap (λ (n : ℕ). Refused n g) (group_refused s 8 (all_usable (problem_of s)) (all_bounded s) number g h).0)
          (k ∙ ap (λ (n : ℕ). Refused n h') (group_refused t 8 (all_usable (problem_of t)) (all_bounded t) other h' k).0)

  before_alike : (x : Verdict) {v w : Verdict} → Verdicts v w → Verdicts (x before v) (x before w)
  unfolding ◌before◌
  before_alike Fine a = a
  before_alike (Refused number place) a = equal refl

  verdicts : (m r : ℕ) → Verdicts (plan_refusal s m r) (plan_refusal t m r)
  verdicts m r = by (before_alike (short s m r) apart_alike)
    where
      by : Verdicts (short s m r before apart s) (short s m r before apart t) → Verdicts (plan_refusal s m r) (plan_refusal t m r)
      by (equal e) = equal (refusal_left m r ∙ e ∙ sym (other_left m r))
      by (eight g h a b) = eight g h (refusal_left m r ∙ a) (other_left m r ∙ b)

  outcome_alike : {A : Type 0} {v w : Verdict} {a b : A} → Verdicts v w → a ≡ b → SameButPlace (outcome v a) (outcome w b)
  unfolding outcome
  outcome_alike (equal e) h = same (rw (e, h))
  outcome_alike (eight g h a b) e = unjoinable g h (rw a) (rw b)

  written_alike : {A : Type 0} {v w : Verdict} {a b : A} (old : A) → Verdicts v w → a ≡ b → written v a old ≡ written w b old
  unfolding written
  written_alike old (equal e) h = rw (e, h)
  written_alike old (eight g h a b) e = rw (a, b)

  alike_planned : PlannedAlike s t
  unfolding planning counting marks_after records_after
  alike_planned =
      record {
        plan = λ m r. outcome_alike (verdicts m r) alike.plans;
        counts = λ m r. outcome_alike (verdicts m r) (ap plan_counts_of alike.plans);
        marks_left = λ marks records.
            written_alike marks (verdicts (length marks) (length records))
            (ap (λ (p : Plan). p.marks ++ drop (edge_count s) marks) alike.plans
            ∙ ap (λ (m : ℕ). (plan_of (problem_of t)).marks ++ drop m marks) (sym alike.same_edges));
        records_left = λ marks records.
            written_alike records (verdicts (length marks) (length records)) (ap (λ (p : Plan). records_over p.duals records) alike.plans);
      }

-- ---- poured together

-- Into groups of any numbers, with the tracks of s.
groups_planned : (s : Survey) → ByteGroups s → survey_refusal s ≡ Fine → (groups : List ℕ) → IsPoured (lists_of s) groups
    → ByteGroups (survey_from groups s.firsts s.seconds s.weights) → PlannedAlike s (survey_from groups s.firsts s.seconds s.weights)
unfolding vertex_count edge_count problem_of all_usable plan_of
groups_planned s numbered fine groups poured bytes =
    let t = survey_from groups s.firsts s.seconds s.weights in
    let sound : SurveySound s = fine_survey s fine in
    let p = into_plan s poured in
    alike_planned s t
    (record {
      fine = fine;
      fine_other = survey_fine t (into_sound s poured sound);
      same_vertices = poured.long;
      same_edges = refl;
      joined_both = into_refusal s 8 (all_usable (problem_of s)) poured numbered bytes (all_bounded s);
      plans = λ i.
          record {
            terminals = p.same_terminals i;
            cost = p.same_cost i;
            bound = p.same_bound i;
            rounds = p.same_rounds i;
            marks = p.same_marks_law i;
            duals = p.same_duals i;
          };
    })

together : (s t : Survey) → ByteGroups s → ByteGroups t → survey_refusal s ≡ Fine → PoursInto s t → PlannedAlike s t
together s t numbered bytes fine into =
    subst (λ (q : Survey). PlannedAlike s q) (sym into.tracks)
    (groups_planned s numbered fine t.groups into.groups (subst (λ (q : Survey). ByteGroups q) into.tracks bytes))

-- Every survey into which s pours, its groups being bytes, is planned as s is, but for the place of 8.
pub poured_together : (s t : Survey) → ByteGroups s → ByteGroups t → survey_refusal s ≡ Fine → PoursInto s t → PlannedAlike s t
poured_together s t numbered bytes fine into = together s t numbered bytes fine into

-- So is the one that is computed.
pub poured_planned : (s : Survey) → ByteGroups s → survey_refusal s ≡ Fine → PlannedAlike s (poured_survey s)
poured_planned s numbered fine = together s (poured_survey s) numbered (poured_bytes s numbered) fine (poured_into s (fine_survey s fine).pairs)
