-- The calls are the season: from all bytes 0, the slice after any list of surveys is that of the season's report, and
-- each call answers as the season does.
use Prim.Native.Nat.{ℕ, ◌+◌, ◌*◌, ◌<◌, ◌≤◌}
use Rattle.std.proofs.Common.{arith, sym, ◌∙◌, get_or-set_other, ltb-true}
use Rattle.std.proofs.Math.Decide.{ℕ_discrete}
use Rattle.std.specs.Prelude.{◌≡◌, Bool, true, false, ◌&&◌, cond, length, set, take, replicate}
use Rattle.std.proofs.Math.Path.{refl, ap}
use mathlib.Core.List.{List, [], ◌∷◌}
use Rattle.std.proofs.Math.ListN.{get_or, length-set}
use Rattle.std.proofs.lemmas.List.{length-replicate, get_or-replicate}
use Rattle.std.proofs.Math.Seq.{get_or-set_same}
use Rattle.std.proofs.Math.Dec.{ltb}
use Rattle.base_limits.specs.Verdict.{Outcome, refusal, answer, written}
use Rattle.base_limits.specs.declared.Verdict.{Verdict}
use Rattle.base_limits.specs.declared.Verdict.TheVariants.{Fine, Refused}
use Rattle.survey_core.specs.Survey.{Survey}
use Rattle.season_rule.specs.declared.Farthest.{Farthest}
use Rattle.season_rule.specs.declared.Farthest.TheVariants.{Nothing, At}
use Rattle.season_rule.specs.declared.Report.{Report}
use Rattle.season_rule.specs.Figures.{Figures, figures, cost_of, bound_of}
use Rattle.season_rule.specs.Report.{max_surveys, refusal_numbers, word_limit, most_cost, most_bound, empty_report, farther, add_plan, add_refusal, add_outcome, season_refusal, added, add_survey, add_surveys, season_of}
use Rattle.season_rule.specs.Text.{FarWords, nothing, numbers}
use Rattle.season_rule.proofs.Laws.Figures.{Limited, limited}
use Rattle.season_rule.proofs.Laws.Report.{refused_unchanged, fine_added}
use Rattle.season_rule.proofs.Laws.Season.{season_goes_on, season_full}
use Rattle.season_core.specs.Laws.Room.{PlanFits, plan_refusal_law, plan_fits, CountFits, count_refusal_law, count_fits}
use Rattle.api_season.specs.Bytes.{report_bytes, report_in, with_report, FarSome, nothing as none_some, some, Storable}
use Rattle.api_season.specs.Call.{season_call, season_bytes, season_calls}
use Rattle.api_season.specs.Laws.Call.{long_call}
use Rattle.api_season.specs.Laws.RoundTrip.{report_back, written_over, written_long, zero_report}

-- ---- a report that is read back stays one

either_far : (C : Farthest → Type 0) (b : Bool) (x y : Farthest) → (b ≡ true → C x) → C y → C (cond b x y)
either_far C true x y h k = h refl
either_far C false x y h k = k

both_left : (a b : Bool) → (a && b) ≡ true → a ≡ true
both_left true b h = refl
both_left false b h = h

module _ (position twice bound : ℕ) where
  far_words : (far : Farthest) → FarWords far → position < word_limit → twice < word_limit → bound < word_limit → FarWords (farther far position twice bound)
  unfolding farther
  far_words Nothing h hp ht hb =
      either_far (λ x. FarWords x) (ltb 0 bound) (At position twice bound) Nothing (λ e. numbers {position = position} {twice = twice} {bound = bound} hp ht hb) nothing
  far_words (At p t b) h hp ht hb =
      either_far (λ x. FarWords x) (ltb 0 bound && ltb (t * bound) (twice * b)) (At position twice bound) (At p t b)
      (λ e. numbers {position = position} {twice = twice} {bound = bound} hp ht hb) h

  far_some : (far : Farthest) → FarSome far → FarSome (farther far position twice bound)
  unfolding farther
  far_some Nothing h =
      either_far (λ x. FarSome x) (ltb 0 bound) (At position twice bound) Nothing
      (λ e. some {position = position} {twice = twice} {bound = bound} (ltb-true 0 bound e)) none_some
  far_some (At p t b) h =
      either_far (λ x. FarSome x) (ltb 0 bound && ltb (t * bound) (twice * b)) (At position twice bound) (At p t b)
      (λ e. some {position = position} {twice = twice} {bound = bound} (ltb-true 0 bound (both_left (ltb 0 bound) (ltb (t * bound) (twice * b)) e))) h

module _ (r : Report) (k : Storable r) where
  plan_stored : (f : Figures) → Limited (answer f) → season_refusal r (answer f) ≡ Fine → Storable (add_plan r f)
  unfolding add_plan cost_of bound_of
  plan_stored f l fine =
      let fits : PlanFits r.surveys r.planned r.cost f.cost r.bound f.bound = plan_fits (sym (plan_refusal_law r f.cost f.bound)) fine in
      let few = fits.surveys_few in
      let cost_small : f.cost ≤ most_cost = l.cost_small in
      let bound_small : f.bound ≤ most_bound = l.bound_small in
      record {
        surveys_word = omega arith;
        words = record {
          planned_word = fits.planned_fits;
          cost_word = fits.cost_fits;
          bound_word = fits.bound_fits;
          refused_long = k.words.refused_long;
          refused_words_law = k.words.refused_words_law;
          farthest_words = far_words r.surveys (2 * f.cost) f.bound r.farthest k.words.farthest_words (omega arith) (omega arith) (omega arith);
        };
        far_some = far_some r.surveys (2 * f.cost) f.bound r.farthest k.far_some;
      }

  refusal_stored : (number place : ℕ) → Limited (refusal number place) → season_refusal r (refusal number place) ≡ Fine → Storable (add_refusal r number)
  unfolding add_refusal
  refusal_stored number place l fine =
      let fits : CountFits r.surveys (get_or r.refused number 0) = count_fits (sym (count_refusal_law r number place)) fine in
      let few = fits.surveys_few in
      let next = get_or r.refused number 0 + 1 in
      let small : number < refusal_numbers = l.number_small number place refl in
      let long = k.words.refused_long in
      record {
        surveys_word = omega arith;
        words = record {
          planned_word = k.words.planned_word;
          cost_word = k.words.cost_word;
          bound_word = k.words.bound_word;
          refused_long = length-set r.refused number next ∙ long;
          refused_words_law = λ i b. at fits small i b (ℕ_discrete i number);
          farthest_words = k.words.farthest_words;
        };
        far_some = k.far_some;
      }
    where
      at : CountFits r.surveys (get_or r.refused number 0) → number < refusal_numbers → (i : ℕ) → i < refusal_numbers → Dec (i ≡ number)
          → get_or (set r.refused number (get_or r.refused number 0 + 1)) i 0 < word_limit
      at fits small i b (yes e) =
          let long = k.words.refused_long in
          let next = get_or r.refused number 0 + 1 in
          let s = get_or-set_same r.refused number next 0 (rw k.words.refused_long small) in
          rw (e, s) fits.count_fits
      at fits small i b (no d) = rw (get_or-set_other r.refused number i (get_or r.refused number 0 + 1) 0 d) (k.words.refused_words_law i b)

  outcome_stored : (q : Outcome Figures) → Limited q → season_refusal r q ≡ Fine → Storable (add_outcome r q)
  unfolding add_outcome
  outcome_stored (refusal number place) l fine = refusal_stored number place l fine
  outcome_stored (answer f) l fine = plan_stored f l fine

  pub survey_stored : (s : Survey) → Storable (add_survey r s)
  unfolding add_survey
  survey_stored s = by (season_refusal r (figures s)) refl
    where
      by : (v : Verdict) → season_refusal r (figures s) ≡ v → Storable (added r (figures s))
      by Fine h = rw (fine_added r (figures s) h) (outcome_stored (figures s) (limited s) h)
      by (Refused number place) h = rw (refused_unchanged r (figures s) h) k

pub surveys_stored : (r : Report) → Storable r → (ss : List Survey) → Storable (add_surveys r ss)
unfolding add_surveys
surveys_stored r k [] = k
surveys_stored r k (s ∷ ss) = surveys_stored (add_survey r s) (survey_stored r k s) ss

pub empty_stored : Storable empty_report
unfolding empty_report
empty_stored =
    record {
      surveys_word = omega arith;
      words = record {
        planned_word = omega arith;
        cost_word = omega arith;
        bound_word = omega arith;
        refused_long = length-replicate {A = ℕ} refusal_numbers 0;
        refused_words_law = λ i b. let e = get_or-replicate {A = ℕ} refusal_numbers i 0 0 b in omega arith;
        farthest_words = nothing;
      };
      far_some = none_some;
    }

pub season_stored : (ss : List Survey) → Storable (season_of ss)
unfolding season_of
season_stored ss = surveys_stored empty_report empty_stored ss

-- ---- the calls

module _ (bytes : List ℕ) where
  pub call_is : (r : Report) → Storable r → (s : Survey) → season_call (with_report bytes r) s ≡ season_refusal r (figures s)
  call_is r k s = long_call (with_report bytes r) s (written_long bytes r k) ∙ ap (λ x. season_refusal x (figures s)) (report_back bytes r k)

  pub call_writes : (r : Report) → Storable r → (s : Survey) → season_bytes (with_report bytes r) s ≡ with_report bytes (add_survey r s)
  unfolding season_bytes add_survey written
  call_writes r k s = by (season_refusal r (figures s)) refl
    where
      slice : List ℕ
      slice = with_report bytes r

      by : (v : Verdict) → season_refusal r (figures s) ≡ v
          → written (season_call slice s) (with_report slice (added (report_in slice) (figures s))) slice ≡ with_report bytes (added r (figures s))
      by Fine h = rw (call_is r k s ∙ h, report_back bytes r k) (written_over bytes r k (added r (figures s)))
      by (Refused number place) h = rw (call_is r k s ∙ h, refused_unchanged r (figures s) h) refl

  pub calls_stored : (r : Report) → Storable r → (ss : List Survey) → season_calls (with_report bytes r) ss ≡ with_report bytes (add_surveys r ss)
  unfolding season_calls add_surveys
  calls_stored r k [] = refl
  calls_stored r k (s ∷ ss) =
      ap (λ x. season_calls x ss) (call_writes r k s) ∙ calls_stored (add_survey r s) (survey_stored r k s) ss

  -- From all bytes 0, any number of surveys.
  pub season_calls_law : take report_bytes bytes ≡ replicate report_bytes 0 → (ss : List Survey) → season_calls bytes ss ≡ with_report bytes (season_of ss)
  unfolding season_of
  season_calls_law h ss = ap (λ x. season_calls x ss) (zero_report bytes h) ∙ calls_stored empty_report empty_stored ss

  -- What the next call answers: 0 up to the thousandth survey, then 3.
  pub next_fine : (ss : List Survey) → length ss < max_surveys → (s : Survey) → season_call (with_report bytes (season_of ss)) s ≡ Fine
  next_fine ss few s = call_is (season_of ss) (season_stored ss) s ∙ season_goes_on ss few s

  pub next_full : (ss : List Survey) → length ss ≡ max_surveys → (s : Survey) → season_call (with_report bytes (season_of ss)) s ≡ Refused 3 0
  next_full ss all s = call_is (season_of ss) (season_stored ss) s ∙ season_full ss all s
