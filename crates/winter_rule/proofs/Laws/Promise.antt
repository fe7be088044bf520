-- What every call promises (document 02, No. 13): when it is answered and when refused, what stands in the bytes, and what is left of them.
use Rattle.std.specs.Prelude.{ℕ, ◌*◌, ◌≤◌, ◌<◌, ◌≡◌, refl, List, length, get_or, drop}
use Rattle.std.proofs.Math.Path.{ap}
use Rattle.std.proofs.Common.{sym, ◌∙◌, subst}
use Rattle.std.proofs.Math.ListN.{get_or-append}
use Rattle.std.proofs.Math.Seq.{drop_at}
use Rattle.base_finite.specs.Below.{tabulate, counted}
use Rattle.base_finite.specs.Laws.Below.{length_tabulate, get_d_tabulate, sum_cong}
use Rattle.base_limits.specs.Verdict.{Outcome, answer, refusal, outcome, written}
use Rattle.base_limits.specs.declared.Verdict.{Verdict}
use Rattle.base_limits.specs.declared.Verdict.TheVariants.{Fine, Refused}
use Rattle.base_limits.specs.Laws.Verdict.{answer_fine, refusal_found}
use Rattle.theory_graph.specs.Path.{crosses}
use Rattle.theory_steiner.specs.Problem.{terminals}
use Rattle.theory_steiner.specs.Strength.{crossings, copies_cost}
use Rattle.survey_core.specs.Survey.{Survey, edge_count, problem_of}
use Rattle.survey_core.specs.Sound.{ByteGroups}
use Rattle.winter_rule.specs.Winter.{max_strength, copies_of, total_price, winter_refusal, wintering, copies_over, copies_after}
use Rattle.winter_rule.specs.Promise.{WinterAccurate, WinterReady, WinterCopies, WinterPromises}
use Rattle.winter_rule.proofs.Laws.Refusal.{unfit_refused, length_refused, given_stops, short_refused, unjoinable_refused, ready_fine, fine_ready}
use Rattle.winter_rule.proofs.Laws.Copies.{copies_of_meet, total_accurate, copies_few, plain_copies, plain_cost}

module _ (s : Survey) (strengths lent : List ℕ) where
  pub length_copies : length (tabulate (edge_count s) (copies_of s strengths)) ≡ edge_count s
  length_copies = length_tabulate (edge_count s) (copies_of s strengths)

  -- Byte e is the copies of track e.
  pub over_at : (e : ℕ) → e < edge_count s → get_or (copies_over s strengths lent) e 0 ≡ copies_of s strengths e
  unfolding copies_over
  over_at e b =
      get_or-append (tabulate (edge_count s) (copies_of s strengths)) (drop (edge_count s) lent) 0 e (subst (λ n. e < n) (sym length_copies) b)
      ∙ get_d_tabulate (edge_count s) (copies_of s strengths) e 0 b

  pub over_rest : drop (edge_count s) (copies_over s strengths lent) ≡ drop (edge_count s) lent
  unfolding copies_over
  over_rest = drop_at (tabulate (edge_count s) (copies_of s strengths)) (drop (edge_count s) lent) (edge_count s) length_copies

  pub after_fine : winter_refusal s strengths (length lent) ≡ Fine → copies_after s strengths lent ≡ copies_over s strengths lent
  unfolding copies_after written
  after_fine h = ap (λ v. written v (copies_over s strengths lent) lent) h

  pub after_refused : {number place : ℕ} → winter_refusal s strengths (length lent) ≡ Refused number place → copies_after s strengths lent ≡ lent
  unfolding copies_after written
  after_refused h = ap (λ v. written v (copies_over s strengths lent) lent) h

-- Copies that are the same for every track cross the same and cost the same.
crossings_same : (s : Survey) (x y : ℕ → ℕ) → ((e : ℕ) → e < edge_count s → x e ≡ y e) → (S : _) → crossings (problem_of s) x S ≡ crossings (problem_of s) y S
unfolding crossings problem_of
crossings_same s x y same S =
    sum_cong (edge_count s) _ _ (λ e b. ap (counted (crosses (problem_of s).first (problem_of s).second S e)) (same e b))

price_same : (s : Survey) (x y : ℕ → ℕ) → ((e : ℕ) → e < edge_count s → x e ≡ y e) → copies_cost (problem_of s) x ≡ copies_cost (problem_of s) y
unfolding copies_cost problem_of
price_same s x y same = sum_cong (edge_count s) _ _ (λ e b. ap (λ n. n * get_or s.weights e 0) (same e b))

-- What stands in the bytes, where each holds the copies of its track.
pub copies_written : (s : Survey) → ByteGroups s → (strengths after : List ℕ) {copies_length total : ℕ} → WinterReady s strengths copies_length
    → ((e : ℕ) → e < edge_count s → get_or after e 0 ≡ copies_of s strengths e) → total_price s strengths ≡ total → WinterCopies s strengths after total
unfolding total_price
copies_written s numbered strengths after ready holds total_is =
    record {
      price = price_same s (λ e. get_or after e 0) (copies_of s strengths) holds ∙ total_is;
      few = λ e b. subst (λ n. n ≤ max_strength) (sym (holds e b)) (copies_few s strengths e);
      meets = λ S g u v bu bv mu mv inside outside.
          rw (crossings_same s (λ e. get_or after e 0) (copies_of s strengths) holds S)
          (copies_of_meet s numbered strengths ready S g u v bu bv mu mv inside outside);
      accurate = subst (λ c. WinterAccurate s strengths (terminals (problem_of s)) c) total_is (total_accurate s numbered strengths ready);
      plain_cost = λ one. sym total_is ∙ plain_cost s numbered strengths one;
      plain_copies = λ one e b. holds e b ∙ plain_copies s numbered strengths one e;
    }

module _ (s : Survey) (numbered : ByteGroups s) (strengths before : List ℕ) {after : List ℕ} {o : Outcome ℕ}
    (o_is : o ≡ wintering s strengths (length before)) (after_is : after ≡ copies_after s strengths before) where
  refused : (number place : ℕ) → winter_refusal s strengths (length before) ≡ Refused number place → o ≡ refusal number place
  unfolding wintering outcome
  refused number place h = o_is ∙ ap (λ v. outcome v (total_price s strengths)) h

  answered : (total : ℕ) → o ≡ answer total → (winter_refusal s strengths (length before) ≡ Fine) × (total_price s strengths ≡ total)
  unfolding wintering
  answered total h = answer_fine (winter_refusal s strengths (length before)) (total_price s strengths) total (sym o_is ∙ h)

  found : (number place : ℕ) → o ≡ refusal number place → winter_refusal s strengths (length before) ≡ Refused number place
  unfolding wintering
  found number place h = refusal_found (winter_refusal s strengths (length before)) (total_price s strengths) (sym o_is ∙ h)

  rest_by : (v : Verdict) → winter_refusal s strengths (length before) ≡ v → drop (edge_count s) after ≡ drop (edge_count s) before
  rest_by Fine h = ap (drop (edge_count s)) (after_is ∙ after_fine s strengths before h) ∙ over_rest s strengths before
  rest_by (Refused number place) h = ap (drop (edge_count s)) (after_is ∙ after_refused s strengths before h)

  goes_on_law : WinterReady s strengths (length before) → o ≡ answer (total_price s strengths)
  unfolding wintering outcome
  goes_on_law h = o_is ∙ ap (λ v. outcome v (total_price s strengths)) (ready_fine s strengths (length before) h)

  pub winter_promises : WinterPromises s strengths before after o
  winter_promises =
      record {
        ready = λ total h. fine_ready s strengths (length before) numbered (answered total h).0;
        goes = goes_on_law;
        other_length = λ sound h. refused 24 0 (given_stops s strengths (length before) sound 0 (length_refused strengths h));
        unfit = λ sound long g h. refused 24 g (given_stops s strengths (length before) sound g (unfit_refused strengths long g h));
        short = λ sound strong b. refused 7 0 (short_refused s strengths (length before) sound strong b);
        unjoinable = λ sound strong room g h. refused 8 g (unjoinable_refused s strengths (length before) sound strong room numbered g h);
        unwritten = λ number place h. after_is ∙ after_refused s strengths before (found number place h);
        copied = λ total h.
            let a = answered total h in
            copies_written s numbered strengths after (fine_ready s strengths (length before) numbered a.0)
            (λ e b. ap (λ (l : List ℕ). get_or l e 0) (after_is ∙ after_fine s strengths before a.0) ∙ over_at s strengths before e b) a.1;
        rest = rest_by (winter_refusal s strengths (length before)) refl;
      }
