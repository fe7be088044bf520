-- The call that checks a text: its answer 0 is no refusal's, for none has the number 0; so that the k, cost and bound
-- that it stored are those of a printed plan that passes, and obey the accuracy rule (the buyer's demand 3).
use Rattle.std.specs.Prelude.{ℕ, zero, suc, ◌+◌, ◌*◌, ◌<◌, ◌≡◌, refl, Bool, true, false, cond, List, [], ◌∷◌, length, eqb, leb, ltb}
use Rattle.std.proofs.Common.{arith, sym, subst, ⊎_elim, lit<, ltb-false}
use Rattle.base_limits.specs.Limits.{record_bytes, max_edges, max_duals, figure_digits, member_digits, value_digits, kept_digits, count_digits, group_digits, endpoint_digits, weight_digits, also_digits, max_pairs}
use Rattle.base_limits.specs.Verdict.{refuse_if, ◌before◌, Outcome, refusal, answer, outcome}
use Rattle.base_limits.specs.declared.Verdict.{Verdict}
use Rattle.base_limits.specs.declared.Verdict.TheVariants.{Fine, Refused}
use Rattle.base_limits.specs.Laws.Verdict.{refused_refuse, refusal_found}
use Rattle.format_write.specs.Key.{terminals_key, cost_key, bound_key, rounds_key, kept_key, dual_key, nodes_key, links_key, node_key, link_key, also_key, colon, comma, newline}
use Rattle.format_write.specs.Decimal.{spelled_after}
use Rattle.format_read.specs.Step.{Step, found, refused, ◌then◌, checked}
use Rattle.format_read.specs.Lines.{Lines, following, lines_from, lines_after}
use Rattle.format_read.specs.Items.{ItemReader, items_from}
use Rattle.format_read.specs.Number.{numeral_at, number_at}
use Rattle.format_read.proofs.Laws.Step.{Stops, early, late, then_stops}
use Rattle.format_read.proofs.Laws.OnlyMalformed.{OnlyMalformed, only_found, only_fixed, only_number_to, only_line}
use Rattle.format_also.specs.Pair.{Pair, pair_of, pair_at, also_test, also_line, also_reader, also_turns, also_at}
use Rattle.format_survey.specs.Line.{SurveyTail, widest, pair_room, vertices_test, edges_test, group_test, tests_for, count_line, group_line, edge_line, counts_at, group_lines, edge_lines, tail_at, tail_after, lines_of, lines_at}
use Rattle.format_survey.specs.Reading.{SurveyText}
use Rattle.format_plan.specs.Lines.{kept_test, keep_line, keep_reader, kept_at, separator, member_step, member_reader, members_at, dual_test, dual_head, listed_dual, dual_line_at, dual_reader, duals_at}
use Rattle.format_plan.specs.Plan.{PrintedPlan, claims_at, plan_lines_at, plan_at, room_test, with_room, marks_of, dual_records}
use Rattle.survey_core.specs.Survey.{Survey, edge_count}
use Rattle.check_rule.specs.Check.{Checked, check_refusal, checked_of, checking}
use Rattle.check_printed.specs.Verify.{survey_lines_at, prefix_at, survey_in, claim_test, claims_judged, plan_verified, plan_from, verified_from, verifying}
use Rattle.check_printed.specs.Worth.{Worth}
use Rattle.check_printed.specs.Laws.Accuracy.{verified_accurate}
use Rattle.plan_rule.proofs.Laws.Number.{before_cases}
use Rattle.api_code.specs.Code.{code_of, capped, verdict_of, counts_for, room_for}
use Rattle.api_check.specs.Call.{check_figures, check_figures_of}
use Rattle.api_check.specs.VerifyCall.{verify_call}
use Rattle.api_check.specs.Laws.Call.{check_encodable}
use Rattle.theorems.specs.Calls.{checked_in}
use Rattle.theorems.proofs.Laws.Calls.{checked_stored}

-- ---- refusals that have a number

record Some (v : Verdict) : Type 0 where
  is : (n p : ℕ) → v ≡ Refused n p → 0 < n

some_refuse : (t : Bool) (number place : ℕ) → 0 < number → Some (refuse_if t number place)
some_refuse t number place h = record { is = λ n p e. let same = (refused_refuse t number place n p e).1.0 in omega arith }

some_before : (v w : Verdict) → Some v → Some w → Some (v before w)
some_before v w a b = record { is = λ n p e. ⊎_elim (λ l. a.is n p l) (λ r. b.is n p r.1) (before_cases v w e) }

-- The same of what reading finds.
record Numbered {A : Type 0} (s : Step A) : Type 0 where
  is : (n p : ℕ) → s ≡ refused n p → 0 < n

only : {A : Type 0} {s : Step A} → OnlyMalformed s → Numbered s
only h = record { is = λ n p e. let k = h.is n p e in omega arith }

infixr 20 ◌next◌
◌next◌ : {A B : Type 0} {s : Step A} {k : A → ℕ → Step B} → Numbered s → ((a : A) (q : ℕ) → Numbered (k a q)) → Numbered (s then k)
◌next◌ {A} {B} {s} {k} h g = record { is = λ n p e. by n p (then_stops s k e) }
  where
    by : (n p : ℕ) → Stops s k n p → 0 < n
    by n p (early q) = h.is n p q
    by n p (late a q x y) = (g a q).is n p y

numbered_found : {A : Type 0} (a : A) (q : ℕ) → Numbered (found a q)
numbered_found a q = only (only_found a q)

numbered_refused : {A : Type 0} (n p : ℕ) → 0 < n → Numbered {A = A} (refused n p)
numbered_refused {A} n p h = record { is = λ i j e. by e }
  where
    by : {i j : ℕ} → ◌≡◌ {A = Step A} (refused n p) (refused i j) → 0 < i
    by {i} {j} e = let k : n ≡ i = cc in omega arith

numbered_checked : {A : Type 0} (v : Verdict) (a : A) (q : ℕ) → Some v → Numbered (checked v a q)
unfolding checked
numbered_checked Fine a q h = numbered_found a q
numbered_checked (Refused n p) a q h = numbered_refused n p (h.is n p refl)

numbered_if : {A : Type 0} (c : Bool) (x y : Step A) → Numbered x → Numbered y → Numbered (cond c x y)
numbered_if true x y a b = a
numbered_if false x y a b = b

numbered_number : (limit : ℕ) (t : List ℕ) (at : ℕ) → Numbered (number_at limit t at)
unfolding number_at
numbered_number limit t at =
    numbered_if (eqb (length (numeral_at limit t at)) 0) _ _ (numbered_refused 16 at (lit< tt)) (numbered_found (spelled_after 0 (numeral_at limit t at)) (at + length (numeral_at limit t at)))

-- Lines and items one after another.
numbered_following : {S A : Type 0} (s : Step A) (rest : A → ℕ → Lines S A) → Numbered s → ((a : A) (q : ℕ) → Numbered (rest a q).end) → Numbered (following s rest).end
unfolding following
numbered_following (found a q) rest h g = g a q
numbered_following (refused n p) rest h g = numbered_refused n p (h.is n p refl)

numbered_lines : {A : Type 0} (line : ℕ → ℕ → Step A) → ((i at : ℕ) → Numbered (line i at)) → (count i at : ℕ) → Numbered (lines_from line count i at).end
unfolding lines_from
numbered_lines line h zero i at = numbered_found 0 at
numbered_lines line h (suc count) i at =
    numbered_following (line i at) (λ a q. lines_from line count (i + 1) q) (h i at) (λ a q. numbered_lines line h count (i + 1) q)

numbered_cond : {S A : Type 0} (c : Bool) (x y : Lines S A) → Numbered x.end → Numbered y.end → Numbered (cond c x y).end
numbered_cond true x y a b = a
numbered_cond false x y a b = b

numbered_items : {S A : Type 0} (r : ItemReader S A) → ((state : S) (i at : ℕ) → Numbered (r.item state i at)) → (fuel : ℕ) (state : S) (i at : ℕ) → Numbered (items_from r fuel state i at).end
unfolding items_from
numbered_items r h zero state i at = numbered_refused 16 at (lit< tt)
numbered_items r h (suc fuel) state i at =
    numbered_cond (r.stop at) _ _ (numbered_found state at)
    (numbered_following (r.item state i at) (λ a q. items_from r fuel (r.after state a) (i + 1) q) (h state i at) (λ a q. numbered_items r h fuel (r.after state a) (i + 1) q))

numbered_after : {S T A : Type 0} (s : Step S) (rest : ℕ → Lines T A) → Numbered s → ((q : ℕ) → Numbered (rest q).end) → Numbered (lines_after s rest).end
unfolding lines_after
numbered_after (found a q) rest h g = g q
numbered_after (refused n p) rest h g = numbered_refused n p (h.is n p refl)

-- ---- the survey

numbered_count : (key : List ℕ) (test : ℕ → Verdict) → ((n : ℕ) → Some (test n)) → (t : List ℕ) (at : ℕ) → Numbered (count_line key test t at)
unfolding count_line
numbered_count key test h t at = only (only_line key count_digits t at) next λ n p. numbered_checked (test n) n p (h n)

numbered_group : (t : List ℕ) (v at : ℕ) → Numbered (group_line group_test t v at)
unfolding group_line group_test
numbered_group t v at = only (only_line node_key group_digits t at) next λ g p. numbered_checked (group_test v g) g p (some_refuse _ 17 v (lit< tt))

numbered_edge : (t : List ℕ) (e at : ℕ) → Numbered (edge_line t e at)
unfolding edge_line
numbered_edge t e at =
    only (only_fixed link_key t at) next λ z a.
    only (only_number_to endpoint_digits comma t a) next λ u b.
    only (only_number_to endpoint_digits comma t b) next λ v c.
    only (only_number_to weight_digits newline t c) next λ w d.
    numbered_found (record { first = u; second = v; weight = w }) d

numbered_pair : (t : List ℕ) (at : ℕ) → Numbered (pair_at t at)
unfolding pair_at
numbered_pair t at =
    only (only_fixed also_key t at) next λ z a.
    only (only_number_to also_digits comma t a) next λ v b.
    only (only_number_to also_digits newline t b) next λ g c.
    numbered_found (pair_of v g) c

some_also : (groups : List ℕ) (room low i : ℕ) (x : Pair) → Some (also_test groups room low i x)
unfolding also_test
some_also groups room low i x =
    some_before _ _ (some_refuse _ 17 x.owner (lit< tt))
    (some_before _ _ (some_refuse _ 18 i (lit< tt))
    (some_before _ _ (some_refuse _ 18 i (lit< tt))
    (some_before _ _ (some_refuse _ 18 i (lit< tt))
    (some_before _ _ (some_refuse _ 18 i (lit< tt)) (some_refuse _ 7 0 (lit< tt))))))

numbered_also : (t groups : List ℕ) (room at : ℕ) → Numbered (also_at t groups room at).end
unfolding also_at also_reader also_line
numbered_also t groups room at =
    numbered_items (also_reader t groups room)
    (λ low i q.
    numbered_if (leb max_pairs i) _ _ (numbered_refused 16 q (lit< tt))
    (numbered_pair t q next λ x p. numbered_checked (also_test groups room low i x) x p (some_also groups room low i x)))
    also_turns 0 0 at

numbered_tail : (room : ℕ) (t groups : List ℕ) (edges at : ℕ) → Numbered (tail_at room t groups edges at).end
unfolding tail_at edge_lines
numbered_tail room t groups edges at =
    numbered_after (also_at t groups room at).end (edge_lines t edges) (numbered_also t groups room at) (λ q. numbered_lines (edge_line t) (numbered_edge t) edges 0 q)
    next λ z p. numbered_found (length (also_at t groups room at).values) p

numbered_tail_after : (s : Step ℕ) (rest : ℕ → SurveyTail) → Numbered s → ((q : ℕ) → Numbered (rest q).end) → Numbered (tail_after s rest).end
unfolding tail_after
numbered_tail_after (found a q) rest h g = g q
numbered_tail_after (refused n p) rest h g = numbered_refused n p (h.is n p refl)

numbered_body : (room : ℕ) (t : List ℕ) (vertices edges at : ℕ) → Numbered (lines_at room t vertices edges at).end
unfolding lines_at lines_of group_lines
numbered_body room t vertices edges at =
    numbered_tail_after (group_lines group_test t vertices at).end (tail_at room t (group_lines group_test t vertices at).values edges)
    (numbered_lines (group_line group_test t) (numbered_group t) vertices 0 at)
    (λ q. numbered_tail room t (group_lines group_test t vertices at).values edges q)

numbered_prefix : (t : List ℕ) → Numbered (prefix_at widest t)
unfolding prefix_at survey_lines_at counts_at tests_for vertices_test edges_test
numbered_prefix t =
    (numbered_count nodes_key _ (λ n. some_before _ _ (some_refuse _ 1 0 (lit< tt)) (some_refuse _ 7 0 (lit< tt))) t 0 next λ n p.
    numbered_count links_key _ (λ m. some_before _ _ (some_refuse _ 3 0 (lit< tt)) (some_refuse _ 7 0 (lit< tt))) t p next λ m q.
    numbered_found (record { vertices = n; edges = m }) q)
    next λ counts at. numbered_body (pair_room widest) t counts.vertices counts.edges at next λ k q. numbered_found _ q

-- ---- the plan

numbered_claims : (t : List ℕ) (at : ℕ) → Numbered (claims_at t at)
unfolding claims_at
numbered_claims t at =
    only (only_line terminals_key figure_digits t at) next λ k a.
    only (only_line cost_key figure_digits t a) next λ c b.
    only (only_line bound_key figure_digits t b) next λ y d.
    only (only_line rounds_key figure_digits t d) next λ r e.
    numbered_found (record { terminals = k; cost = c; bound = y; rounds = r }) e

numbered_kept : (t : List ℕ) (m at : ℕ) → Numbered (kept_at t m at).end
unfolding kept_at keep_reader keep_line kept_test
numbered_kept t m at =
    numbered_items (keep_reader t m)
    (λ low i q. only (only_line kept_key kept_digits t q) next λ e p. numbered_checked (kept_test m low i e) e p (some_refuse _ 26 i (lit< tt)))
    (length t) 0 0 at

numbered_members : (t : List ℕ) (at : ℕ) → Numbered (members_at t at).end
unfolding members_at member_reader member_step
numbered_members t at =
    numbered_items (member_reader t) (λ low i q. only (only_fixed (separator i) t q) next λ z p. numbered_number member_digits t p) (length t) 0 0 at

numbered_dual : (t : List ℕ) (i at : ℕ) → Numbered (dual_line_at t i at)
unfolding dual_line_at dual_head dual_test
numbered_dual t i at =
    (only (only_fixed dual_key t at) next λ z a.
    numbered_number value_digits t a next λ amount b.
    only (only_fixed (colon ∷ []) t b) next λ y c.
    numbered_found amount c)
    next λ amount c.
    numbered_members t c next λ low d.
    numbered_checked (dual_test i low) (listed_dual t amount c) (d + 1) (some_before _ _ (some_refuse _ 27 i (lit< tt)) (some_refuse _ 28 i (lit< tt)))

numbered_plan : (t : List ℕ) (m at : ℕ) → Numbered (plan_at t m at)
unfolding plan_at plan_lines_at duals_at dual_reader
numbered_plan t m at =
    numbered_claims t at next λ claims p.
    numbered_after (kept_at t m p).end (duals_at t) (numbered_kept t m p) (λ q. numbered_items (dual_reader t) (λ low i r. numbered_dual t i r) (length t) 0 0 q)
    next λ count q. numbered_found _ q

-- ---- the answer

record Told {A : Type 0} (o : Outcome A) : Type 0 where
  is : (n p : ℕ) → o ≡ refusal n p → 0 < n

told_refusal : {A : Type 0} (n p : ℕ) → 0 < n → Told {A = A} (refusal n p)
told_refusal {A} n p h = record { is = λ i j e. by e }
  where
    by : {i j : ℕ} → ◌≡◌ {A = Outcome A} (refusal n p) (refusal i j) → 0 < i
    by {i} {j} e = let k : n ≡ i = cc in omega arith

told_outcome : {A : Type 0} (v : Verdict) (a : A) → Some v → Told (outcome v a)
told_outcome v a h = record { is = λ n p e. h.is n p (refusal_found v a e) }

told_room : (s : Step PrintedPlan) (m marks records : ℕ) → Numbered s → Told (with_room s m marks records)
unfolding with_room room_test
told_room (found plan q) m marks records h = told_outcome _ plan (some_refuse _ 7 0 (lit< tt))
told_room (refused n p) m marks records h = told_refusal n p (h.is n p refl)

told_claims : (o : Outcome Checked) (terminals cost bound : ℕ) → Told o → Told (claims_judged o terminals cost bound)
unfolding claims_judged claim_test
told_claims (refusal n p) terminals cost bound h = told_refusal n p (h.is n p refl)
told_claims (answer c) terminals cost bound h =
    told_outcome _ c (some_before _ _ (some_refuse _ 25 0 (lit< tt)) (some_before _ _ (some_refuse _ 25 1 (lit< tt)) (some_refuse _ 25 2 (lit< tt))))

told_checking : (s : Survey) (marks records : List ℕ) → Told (checking s marks records)
unfolding checking
told_checking s marks records =
    told_outcome (check_refusal s marks records) (checked_of s marks records) (record { is = λ n p e. ((check_encodable s marks records).telling n p e).some })

told_plan : (s : Survey) (o : Outcome PrintedPlan) → Told o → Told (plan_verified s o)
unfolding plan_verified
told_plan s (refusal n p) h = told_refusal n p (h.is n p refl)
told_plan s (answer p) h = told_claims (checking s (marks_of (edge_count s) p.kept) (dual_records p.duals)) _ _ _ (told_checking s _ _)

told_from : (t : List ℕ) (s : Step SurveyText) → Numbered s → Told (verified_from t s)
unfolding verified_from plan_from
told_from t (refused n p) h = told_refusal n p (h.is n p refl)
told_from t (found s at) h =
    told_plan (survey_in s) (plan_from t (survey_in s) at) (told_room (plan_at t (edge_count (survey_in s)) at) (edge_count (survey_in s)) max_edges (record_bytes * max_duals) (numbered_plan t (edge_count (survey_in s)) at))

-- No refusal of a text has the number 0.
pub verify_numbered : (t : List ℕ) (number place : ℕ) → verifying t ≡ refusal number place → 0 < number
unfolding verifying
verify_numbered t number place e = (told_from t (prefix_at widest t) (numbered_prefix t)).is number place e

-- ---- the call

pub verify_stands : (text counts : List ℕ) → capped (code_of (verdict_of (verify_call text counts))) ≡ 0
    → Worth text (checked_in (counts_for (verify_call text counts) check_figures_of counts))
unfolding verify_call room_for verdict_of code_of capped counts_for outcome refuse_if check_figures_of
verify_stands text counts none = by (verifying text) refl none
  where
    by_room : (c : Checked) → verifying text ≡ answer c → (short : Bool) → ltb (length counts) check_figures ≡ short
        → capped (code_of (verdict_of (outcome (refuse_if short 7 0) c))) ≡ 0 → Worth text (checked_in (counts_for (outcome (refuse_if short 7 0) c) check_figures_of counts))
    by_room c h true short e = absurd (omega arith)
    by_room c h false long e =
        subst (λ (x : Checked). Worth text x) (sym (checked_stored counts c.terminals c.cost c.bound (ltb-false (length counts) check_figures long)))
        (verified_accurate text c h)

    by : (o : Outcome Checked) → verifying text ≡ o → capped (code_of (verdict_of (room_for check_figures (length counts) o))) ≡ 0
        → Worth text (checked_in (counts_for (room_for check_figures (length counts) o) check_figures_of counts))
    by (refusal number place) h e = let some = verify_numbered text number place h in absurd (omega arith)
    by (answer c) h e = by_room c h (ltb (length counts) check_figures) refl e
