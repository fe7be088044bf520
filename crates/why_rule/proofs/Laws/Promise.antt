-- What an answer promises besides its equation with the definition: a reason exactly if none of the refusals applies, and it is true; 8 exactly if some list cannot be joined by any set
-- of tracks, and then the lowest; 19 exactly if there is no such track; a refusal writes nothing.
use Rattle.std.specs.Prelude.{ℕ, ◌-◌, ◌<◌, ◌≡◌, refl, ◌⊎◌, length, ltb, leb}
use Rattle.std.proofs.Common.{arith, ◌∙◌, inl, inr, ⊎_elim}
use Rattle.std.proofs.Math.Path.{ap, sym, subst}
use mathlib.Core.List.{List, ◌++◌}
use Rattle.std.proofs.Math.ListN.{drop}
use borrow.Author.Tests.{ltb-false, le-ltb, le-leb, lt-leb, leb-true, leb-false}
use Rattle.base_limits.specs.Verdict.{refuse_if, ◌before◌, Outcome, refusal, answer, outcome, written}
use Rattle.base_limits.specs.declared.Verdict.{Verdict}
use Rattle.base_limits.specs.declared.Verdict.TheVariants.{Fine, Refused}
use Rattle.base_limits.specs.Laws.Verdict.{before_fine, fine_left, fine_right, refuse_true, refuse_false, fine_refuse, refused_refuse, answer_fine, refusal_found}
use Rattle.theory_steiner.specs.Problem.{Bounded, all_usable}
use Rattle.theory_steiner.proofs.Laws.Finish.{all_usable_edges}
use Rattle.survey_core.specs.Survey.{Survey, vertex_count, edge_count, problem_of}
use Rattle.survey_core.specs.Sound.{ByteGroups}
use Rattle.survey_core.specs.Refusal.{survey_refusal, group_refusal, LowestUnjoined}
use Rattle.survey_core.proofs.Laws.Refusal.{survey_fine, fine_survey}
use Rattle.survey_core.proofs.Laws.Group.{group_fine, joins_fine, joins_groups, group_refused, unjoinable_iff}
use Rattle.plan_rule.proofs.Laws.Number.{before_cases, survey_never}
use Rattle.why_rule.specs.Reason.{Reason, needs, spared, passed, reason_of}
use Rattle.why_rule.specs.Why.{why_refusal, WhyCounts, why_counts, route_in, reasoning, route_after}
use Rattle.why_rule.specs.Promise.{Askable, Joinable, Explainable, UnjoinableList, UnknownTrack, GivenReason, WhyPromises}
use Rattle.why_rule.proofs.Laws.Reason.{reason_true}

module _ (s : Survey) (route_length e : ℕ) where
  abbrev short : Verdict
  short = refuse_if (ltb route_length (vertex_count s - 1)) 7 0

  abbrev apart : Verdict
  apart = group_refusal s 8 (all_usable (problem_of s))

  abbrev past : Verdict
  past = refuse_if (leb (edge_count s) e) 19 e

  bounded : Bounded (problem_of s) (all_usable (problem_of s))
  bounded f h = (all_usable_edges (problem_of s) f h).0

  -- ---- none of the refusals applies

  askable_by : survey_refusal s ≡ Fine → refuse_if (ltb route_length (vertex_count s - 1)) 7 0 ≡ Fine → Askable s route_length
  askable_by h k = record { survey = fine_survey s h; route_fits = ltb-false route_length (vertex_count s - 1) (fine_refuse (ltb route_length (vertex_count s - 1)) 7 0 k) }

  joinable_by : ByteGroups s → survey_refusal s ≡ Fine → refuse_if (ltb route_length (vertex_count s - 1)) 7 0 ≡ Fine → group_refusal s 8 (all_usable (problem_of s)) ≡ Fine
      → Joinable s route_length
  joinable_by numbered h k l = record { askable = askable_by h k; joins = group_fine s 8 (all_usable (problem_of s)) bounded numbered l }

  pub fine_explainable : ByteGroups s → why_refusal s route_length e ≡ Fine → Explainable s route_length e
  unfolding why_refusal
  fine_explainable numbered h =
      let h7 = fine_right _ _ h in
      let h8 = fine_right _ _ h7 in
      record {
        joinable = joinable_by numbered (fine_left _ _ h) (fine_left _ _ h7) (fine_left _ _ h8);
        known = leb-false (edge_count s) e (fine_refuse (leb (edge_count s) e) 19 e (fine_right _ _ h8));
      }

  -- What is left behind 1 to 6, 18 and 7; and behind 8.
  askable_left : Askable s route_length → why_refusal s route_length e ≡ (apart before past)
  unfolding why_refusal
  askable_left h =
      before_fine (survey_fine s h.survey) _
      ∙ before_fine (refuse_false (le-ltb route_length (vertex_count s - 1) h.route_fits) 7 0) _

  joinable_left : Joinable s route_length → why_refusal s route_length e ≡ refuse_if (leb (edge_count s) e) 19 e
  joinable_left h = askable_left h.askable ∙ before_fine (joins_fine s 8 (all_usable (problem_of s)) bounded h.joins) _

  pub explainable_fine : Explainable s route_length e → why_refusal s route_length e ≡ Fine
  explainable_fine h = joinable_left h.joinable ∙ refuse_false (lt-leb (edge_count s) e h.known) 19 e

  -- ---- 8 and 19

  -- The stages of a number above 6 that is neither 18 nor 7.
  late : (k place : ℕ) → (k ≡ 18 → ⊥) → 7 < k → why_refusal s route_length e ≡ Refused k place
      → (survey_refusal s ≡ Fine) × ((refuse_if (ltb route_length (vertex_count s - 1)) 7 0 ≡ Fine) × ((apart before past) ≡ Refused k place))
  unfolding why_refusal
  late k place no18 above h = first_stage (before_cases _ _ h)
    where
      second_stage : survey_refusal s ≡ Fine → (short ≡ Refused k place) ⊎ ((short ≡ Fine) × ((apart before past) ≡ Refused k place))
          → (survey_refusal s ≡ Fine) × ((short ≡ Fine) × ((apart before past) ≡ Refused k place))
      second_stage f (inl x) = absurd (let n = (refused_refuse (ltb route_length (vertex_count s - 1)) 7 0 k place x).1.0 in omega arith)
      second_stage f (inr x) = (f, x)

      first_stage : (survey_refusal s ≡ Refused k place) ⊎ ((survey_refusal s ≡ Fine) × ((short before apart before past) ≡ Refused k place))
          → (survey_refusal s ≡ Fine) × ((short ≡ Fine) × ((apart before past) ≡ Refused k place))
      first_stage (inl x) = absurd ((survey_never k no18 (omega arith) s).other k place x refl)
      first_stage (inr x) = second_stage x.0 (before_cases _ _ x.1)

  pub eight_unjoinable : (g : ℕ) → why_refusal s route_length e ≡ Refused 8 g → UnjoinableList s route_length g
  eight_unjoinable g h = by (late 8 g (λ q. omega arith) (omega arith) h)
    where
      by : (survey_refusal s ≡ Fine) × ((short ≡ Fine) × ((apart before past) ≡ Refused 8 g)) → UnjoinableList s route_length g
      by x =
          ⊎_elim
          (λ r.
          let l : LowestUnjoined s (all_usable (problem_of s)) g = (group_refused s 8 (all_usable (problem_of s)) bounded 8 g r).1 in
          record { askable = askable_by x.0 x.1.0; none_joins = (unjoinable_iff s g).0 l.unjoined; lower_joined = l.lower })
          (λ r. absurd (let n = (refused_refuse (leb (edge_count s) e) 19 e 8 g r.1).1.0 in omega arith))
          (before_cases _ _ x.1.1)

  -- The lowest list that no set joins is the one that is found.
  unjoinable_found : ByteGroups s → (g : ℕ) → UnjoinableList s route_length g → group_refusal s 8 (all_usable (problem_of s)) ≡ Refused 8 g
  unjoinable_found numbered g u = by (group_refusal s 8 (all_usable (problem_of s))) refl
    where
      by : (v : Verdict) → group_refusal s 8 (all_usable (problem_of s)) ≡ v → group_refusal s 8 (all_usable (problem_of s)) ≡ Refused 8 g
      by Fine h =
          absurd
          (u.none_joins (all_usable (problem_of s)) (all_usable_edges (problem_of s))
          (joins_groups s (all_usable (problem_of s)) (group_fine s 8 (all_usable (problem_of s)) bounded numbered h) g))
      by (Refused k i) h =
          let r = group_refused s 8 (all_usable (problem_of s)) bounded k i h in
          let l : LowestUnjoined s (all_usable (problem_of s)) i = r.1 in
          let not_below : i < g → ⊥ = λ b. l.unjoined (u.lower_joined i b) in
          let not_above : g < i → ⊥ = λ b. u.none_joins (all_usable (problem_of s)) (all_usable_edges (problem_of s)) (l.lower g b) in
          let same : i ≡ g = omega arith in
          h ∙ ap (λ (x : ℕ). Refused x i) r.0 ∙ ap (λ (x : ℕ). Refused 8 x) same

  pub unjoinable_eight : ByteGroups s → (g : ℕ) → UnjoinableList s route_length g → why_refusal s route_length e ≡ Refused 8 g
  unfolding ◌before◌
  unjoinable_eight numbered g u = askable_left u.askable ∙ ap (λ (v : Verdict). v before past) (unjoinable_found numbered g u)

  pub nineteen_unknown : ByteGroups s → (place : ℕ) → why_refusal s route_length e ≡ Refused 19 place → UnknownTrack s route_length e place
  nineteen_unknown numbered place h = by (late 19 place (λ q. omega arith) (omega arith) h)
    where
      by : (survey_refusal s ≡ Fine) × ((short ≡ Fine) × ((apart before past) ≡ Refused 19 place)) → UnknownTrack s route_length e place
      by x =
          ⊎_elim
          (λ r. absurd (let n = (group_refused s 8 (all_usable (problem_of s)) bounded 19 place r).0 in omega arith))
          (λ r.
          let q = refused_refuse (leb (edge_count s) e) 19 e 19 place r.1 in
          record { joinable = joinable_by numbered x.0 x.1.0 r.0; unknown = leb-true (edge_count s) e q.0; place_is = sym q.1.1 })
          (before_cases _ _ x.1.1)

  pub unknown_nineteen : (place : ℕ) → UnknownTrack s route_length e place → why_refusal s route_length e ≡ Refused 19 place
  unknown_nineteen place u =
      joinable_left u.joinable ∙ refuse_true (le-leb (edge_count s) e u.unknown) 19 e ∙ ap (λ (x : ℕ). Refused 19 x) (sym u.place_is)

-- ---- the call

-- Only a kept track has a route.
kept_route : (r : Reason) (was : List ℕ) → ((why_counts r).kind ≡ 2 → ⊥) → (route_in r ++ drop (length (route_in r)) was) ≡ was
unfolding why_counts route_in
kept_route (needs group low high route) was h = absurd (h refl)
kept_route spared was h = refl
kept_route (passed round) was h = refl

module _ (s : Survey) (numbered : ByteGroups s) (e : ℕ) (was : List ℕ) where
  entries : why_refusal s (length was) e ≡ Fine → route_after s e was ≡ route_in (reason_of s e) ++ drop (length (route_in (reason_of s e))) was
  unfolding route_after written
  entries h = ap (λ v. written v (route_in (reason_of s e) ++ drop (length (route_in (reason_of s e))) was) was) h

  given_reason : (c : WhyCounts) → reasoning s (length was) e ≡ answer c → GivenReason s e was (route_after s e was) c
  unfolding reasoning
  given_reason c h =
      let a = answer_fine (why_refusal s (length was) e) (why_counts (reason_of s e)) c h in
      let ok : Explainable s (length was) e = fine_explainable s (length was) e numbered a.0 in
      record {
        explainable = ok;
        reason = reason_of s e;
        is_true = reason_true s ok.joinable.askable.survey numbered ok.joinable.joins e ok.known;
        counts_are = sym a.1;
        entries_are = entries a.0;
        no_route = λ h. entries a.0 ∙ kept_route (reason_of s e) was (λ two. h (ap (λ (x : WhyCounts). x.kind) (sym a.1) ∙ two));
      }

  untouched_route : {number place : ℕ} → reasoning s (length was) e ≡ refusal number place → route_after s e was ≡ was
  unfolding reasoning route_after written
  untouched_route h =
      ap (λ v. written v (route_in (reason_of s e) ++ drop (length (route_in (reason_of s e))) was) was)
      (refusal_found (why_refusal s (length was) e) (why_counts (reason_of s e)) h)

  pub why_promises : {o : Outcome WhyCounts} {after : List ℕ} → o ≡ reasoning s (length was) e → after ≡ route_after s e was → WhyPromises s e was after o
  unfolding reasoning outcome
  why_promises {o} {after} h k =
      record {
        given = λ c a. subst (λ (l : List ℕ). GivenReason s e was l c) (sym k) (given_reason c (sym h ∙ a));
        gives = λ ok. answered (explainable_fine s (length was) e ok);
        unjoinable = λ g a. eight_unjoinable s (length was) e g (verdict a);
        unjoinable_refused = λ g u. answered (unjoinable_eight s (length was) e numbered g u);
        unknown = λ place a. nineteen_unknown s (length was) e numbered place (verdict a);
        unknown_refused = λ place u. answered (unknown_nineteen s (length was) e place u);
        untouched = λ number place a. k ∙ untouched_route (sym h ∙ a);
      }
    where
      verdict : {number place : ℕ} → o ≡ refusal number place → why_refusal s (length was) e ≡ Refused number place
      verdict a = refusal_found (why_refusal s (length was) e) (why_counts (reason_of s e)) (sym h ∙ a)

      answered : {v : Verdict} → why_refusal s (length was) e ≡ v → o ≡ outcome v (why_counts (reason_of s e))
      answered a = h ∙ ap (λ v. outcome v (why_counts (reason_of s e))) a
