-- What the numbers decide is the call's own refusal, and what the code makes is the report with the survey added.
use Rattle.std.specs.Prelude.{ℕ, ◌+◌, ◌*◌, ◌≤◌, ◌<◌, ◌≡◌, refl, List, get_or, set, leb}
use Rattle.std.proofs.Common.{ap, sym, ◌∙◌, leb-false}
use Rattle.base_finite.specs.Laws.Test.{or_false_left, or_false_right}
use Rattle.base_limits.specs.Verdict.{Outcome, refusal, answer}
use Rattle.base_limits.specs.declared.Verdict.{Verdict}
use Rattle.base_limits.specs.declared.Verdict.TheVariants.{Fine, Refused}
use Rattle.base_limits.specs.Laws.Verdict.{fine_refuse}
use Rattle.season_rule.specs.declared.Farthest.{Farthest}
use Rattle.season_rule.specs.declared.Report.{Report}
use Rattle.season_rule.specs.Figures.{Figures, cost_of}
use Rattle.season_rule.specs.Report.{max_surveys, word_limit, most_cost, farther, add_plan, add_refusal, add_outcome, passes_word, season_refusal, added}
use Rattle.season_rule.proofs.Laws.Report.{refused_unchanged, fine_added}
use Rattle.season_core.specs.Room.{plan_refusal, count_refusal}

pub plan_refusal_law : (r : Report) (cost bound : ℕ)
    → plan_refusal r.surveys r.planned r.cost cost r.bound bound ≡ season_refusal r (answer (record { cost = cost; bound = bound }))
unfolding plan_refusal season_refusal passes_word
plan_refusal_law r cost bound = refl

pub count_refusal_law : (r : Report) (number place : ℕ) → count_refusal r.surveys (get_or r.refused number 0) ≡ season_refusal r (refusal number place)
unfolding count_refusal season_refusal passes_word
count_refusal_law r number place = refl

-- ---- no number passes 64 bits

pub record PlanFits (surveys planned costs cost bounds bound : ℕ) : Type 0 where
  pub surveys_few : surveys < max_surveys
  pub planned_fits : planned + 1 < word_limit
  pub cost_fits : costs + cost < word_limit
  pub bound_fits : bounds + bound < word_limit

pub plan_fits : {surveys planned costs cost bounds bound : ℕ} {found : Verdict} → found ≡ plan_refusal surveys planned costs cost bounds bound → found ≡ Fine
    → PlanFits surveys planned costs cost bounds bound
unfolding plan_refusal
plan_fits {surveys} {planned} {costs} {cost} {bounds} {bound} is fine =
    let all = fine_refuse _ 3 0 (sym is ∙ fine) in
    let three = or_false_right (leb max_surveys surveys) _ all in
    let two = or_false_right (leb word_limit (planned + 1)) _ three in
    record {
      surveys_few = leb-false max_surveys surveys (or_false_left (leb max_surveys surveys) _ all);
      planned_fits = leb-false word_limit (planned + 1) (or_false_left (leb word_limit (planned + 1)) _ three);
      cost_fits = leb-false word_limit (costs + cost) (or_false_left (leb word_limit (costs + cost)) _ two);
      bound_fits = leb-false word_limit (bounds + bound) (or_false_right (leb word_limit (costs + cost)) _ two);
    }

pub record CountFits (surveys count : ℕ) : Type 0 where
  pub surveys_few : surveys < max_surveys
  pub count_fits : count + 1 < word_limit

pub count_fits : {surveys count : ℕ} {found : Verdict} → found ≡ count_refusal surveys count → found ≡ Fine → CountFits surveys count
unfolding count_refusal
count_fits {surveys} {count} is fine =
    let all = fine_refuse _ 3 0 (sym is ∙ fine) in
    record {
      surveys_few = leb-false max_surveys surveys (or_false_left (leb max_surveys surveys) _ all);
      count_fits = leb-false word_limit (count + 1) (or_false_right (leb max_surveys surveys) _ all);
    }

-- ---- the report after the call

pub unchanged : (r : Report) (q : Outcome Figures) {found : Verdict} {number place : ℕ} → found ≡ season_refusal r q → found ≡ Refused number place → r ≡ added r q
unchanged r q is refused = sym (refused_unchanged r q (sym is ∙ refused))

pub plan_after : (r : Report) (cost bound : ℕ) {twice : ℕ} {far : Farthest} {found : Verdict}
    → found ≡ season_refusal r (answer (record { cost = cost; bound = bound })) → found ≡ Fine → twice ≡ 2 * cost
    → far ≡ farther r.farthest r.surveys twice bound
    → ◌≡◌ {A = Report}
    (record {
      surveys = r.surveys + 1;
      planned = r.planned + 1;
      cost = r.cost + cost;
      bound = r.bound + bound;
      refused = r.refused;
      farthest = far;
    })
    (added r (answer (record { cost = cost; bound = bound })))
unfolding add_outcome add_plan
plan_after r cost bound {twice} {far} is fine doubled made =
    let with_far : Farthest → Report =
    λ g.
    record {
      surveys = r.surveys + 1;
      planned = r.planned + 1;
      cost = r.cost + cost;
      bound = r.bound + bound;
      refused = r.refused;
      farthest = g;
    } in
    ap with_far (made ∙ ap (λ x. farther r.farthest r.surveys x bound) doubled) ∙ sym (fine_added r _ (sym is ∙ fine))

pub refusal_after : (r : Report) (number place : ℕ) {count : ℕ} {counts : List ℕ} {found : Verdict}
    → found ≡ season_refusal r (refusal number place) → found ≡ Fine → count ≡ get_or r.refused number 0 → counts ≡ set r.refused number (count + 1)
    → ◌≡◌ {A = Report}
    (record {
      surveys = r.surveys + 1;
      planned = r.planned;
      cost = r.cost;
      bound = r.bound;
      refused = counts;
      farthest = r.farthest;
    })
    (added r (refusal number place))
unfolding add_outcome add_refusal
refusal_after r number place {count} {counts} is fine counted made =
    let with_counts_ : List ℕ → Report =
    λ l.
    record {
      surveys = r.surveys + 1;
      planned = r.planned;
      cost = r.cost;
      bound = r.bound;
      refused = l;
      farthest = r.farthest;
    } in
    ap with_counts_ (made ∙ ap (λ x. set r.refused number (x + 1)) counted) ∙ sym (fine_added r _ (sym is ∙ fine))

-- By what planning answered.
pub by_outcome : (r : Report) {o q : Outcome Figures} {verdict : Verdict} {after : Report} → o ≡ q → verdict ≡ season_refusal r q
    → (cost_of q ≤ most_cost → after ≡ added r q) → (verdict ≡ season_refusal r o) × (cost_of o ≤ most_cost → after ≡ added r o)
by_outcome r e v k = rw e (v, k)
