-- A text passes exactly if it is a survey's text with a plan's text behind it, the checker passes the plan for that survey, and the plan claims the counts that the checker finds.
use Rattle.std.specs.Prelude.{ℕ, ◌+◌, ◌*◌, ◌≡◌, ◌↔◌, List, ◌++◌, length}
use Rattle.std.proofs.Common.{arith, ap, sym, ◌∙◌, subst, length-append}
use Rattle.std.proofs.lemmas.List.{length-map}
use Rattle.base_limits.specs.Limits.{record_bytes, max_edges, max_duals}
use Rattle.base_limits.specs.Verdict.{answer}
use Rattle.format_read.specs.Step.{found}
use Rattle.format_also.specs.Pair.{Pair}
use Rattle.format_survey.specs.Line.{Edge, widest, firsts_of}
use Rattle.format_survey.specs.Reading.{survey_of, step_outcome, SurveyText}
use Rattle.format_survey.specs.Render.{render}
use Rattle.format_read.proofs.Laws.Stands.{stands_end}
use Rattle.survey_core.specs.Survey.{edge_count}
use Rattle.check_rule.specs.Check.{Checked, checking}
use Rattle.format_plan.specs.Plan.{plan_at, marks_of, dual_records}
use Rattle.check_printed.specs.Verify.{survey_in, plan_verified, plan_from, verified_from, verifying}
use Rattle.check_printed.specs.Laws.Verify.{claim_fine, room_suffices}
use Rattle.check_printed.specs.Laws.Accuracy.{verified_parts}
use Rattle.format_plan.proofs.Laws.Room.{room_answer}
use Rattle.format_plan.proofs.Laws.RoundTrip.{plan_reads_back}
use Rattle.check_printed.specs.Laws.Prefix.{prefix_start, prefix_render, words_behind}
use Rattle.format_plan.proofs.Laws.Accepted.{found_rendering, rendering_whole}
use Rattle.check_printed.specs.Worth.{survey_rendered, PassingText}
use Rattle.format_plan.specs.WellFormed.{Printable, plan_words}
use Rattle.format_survey.specs.WellFormed.{survey_of_text}

count_is : (groups : List ℕ) (pairs : List Pair) (edges : List Edge) → edge_count (survey_rendered groups pairs edges) ≡ length edges
unfolding edge_count survey_of_text survey_of firsts_of
count_is groups pairs edges = length-map edges (λ e. e.first)

-- What passes is such a text.
pub verified_passing : (t : List ℕ) (c : Checked) → verifying t ≡ answer c → PassingText t c
unfolding plan_from
verified_passing t c e =
    let v = verified_parts t c e in
    let m = edge_count (survey_in v.survey) in
    let a = room_answer (plan_at t m v.next) m max_edges (record_bytes * max_duals) v.behind in
    let r = found_rendering t m v.next a.1 in
    let s = prefix_start widest t v.survey v.next v.read in
    let n : m ≡ length s.edges = ap (λ (x : SurveyText). edge_count (survey_in x)) s.says ∙ count_is s.groups s.pairs s.edges in
    let p : checking (survey_in v.survey) (marks_of (length s.edges) v.plan.kept) (dual_records v.plan.duals) ≡ answer c = rw n at v.passes in
    record {
      groups = s.groups;
      pairs = s.pairs;
      edges = s.edges;
      plan = v.plan;
      within = s.within;
      printable = subst (λ (k : ℕ). Printable k v.plan) n r.printable;
      word = rendering_whole r ∙ ap (λ (u : List ℕ). u ++ plan_words v.plan) s.word;
      passes = subst (λ (x : SurveyText). checking (survey_in x) (marks_of (length s.edges) v.plan.kept) (dual_records v.plan.duals) ≡ answer c) s.says p;
      claims = v.claims;
    }

-- Such a text passes.
pub passing_verified : (t : List ℕ) (c : Checked) → PassingText t c → verifying t ≡ answer c
unfolding verifying verified_from plan_verified step_outcome
passing_verified t c x =
    let u = render x.groups x.pairs x.edges in
    let w = plan_words x.plan in
    let s = survey_rendered x.groups x.pairs x.edges in
    let n = count_is x.groups x.pairs x.edges in
    let few = x.within.few_edges in
    let l = length-append u w in
    let read : plan_at (u ++ w) (edge_count s) (length u) ≡ found x.plan (length (u ++ w)) =
    ap (λ (m : ℕ). plan_at (u ++ w) m (length u)) n ∙ plan_reads_back (u ++ w) (length x.edges) (length u) x.plan (omega arith) x.printable (stands_end u w) (sym l) in
    let passed : checking s (marks_of (edge_count s) x.plan.kept) (dual_records x.plan.duals) ≡ answer c = rw n x.passes in
    ap verifying x.word
    ∙ ap (verified_from (u ++ w)) (prefix_render x.groups x.pairs x.edges w x.within (words_behind u x.plan))
    ∙ ap (plan_verified s) (room_suffices (u ++ w) s (length u) (omega (arith, n, few)) ∙ ap step_outcome read)
    ∙ claim_fine x.plan.claims.terminals x.plan.claims.cost x.plan.claims.bound passed x.claims.terminals x.claims.cost x.claims.bound

pub verified_iff : (t : List ℕ) (c : Checked) → (verifying t ≡ answer c) ↔ PassingText t c
verified_iff t c = (verified_passing t c, passing_verified t c)
