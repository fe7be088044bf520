-- Adding one survey: it goes on where the report has room, the counts and totals stay those of the single plans, and
-- the farthest plan stays the farthest.
use Prim.Native.Nat.{ℕ, zero, suc, ◌+◌, ◌*◌, ◌≤◌, ◌<◌}
use Rattle.std.proofs.Common.{arith, mul-le-mul_right, mul-lt-mul_of_pos_right, lt_of_mul-lt-mul_right, sym, ◌∙◌, inl, inr, ⊎_elim}
use Rattle.std.proofs.Math.Decide.{ℕ_discrete}
use Rattle.std.specs.Prelude.{◌≡◌, ◌⊎◌, Bool, true, false, ◌&&◌, cond, set, leb}
use Rattle.std.proofs.Math.Path.{refl, ap}
use Rattle.std.proofs.Math.ListN.{get_or, length-set}
use Rattle.std.proofs.lemmas.List.{length-replicate, get_or-replicate}
use Rattle.std.proofs.Math.Seq.{get_or-set_same, get_or-set_other}
use Rattle.std.proofs.Math.Dec.{ltb}
use borrow.Author.Tests.{eq-eqb, ne_eqb, lt-ltb, le-ltb, le-leb, lt-leb}
use Rattle.base_finite.specs.Below.{counted, sum_below, count_below}
use Rattle.base_finite.specs.Laws.Below.{below_suc, lt_or_ge, sum_limit, count_le}
use Rattle.base_finite.specs.Laws.Test.{or_left}
use Rattle.base_limits.specs.Verdict.{Outcome, refusal, answer, written}
use Rattle.base_limits.specs.declared.Verdict.TheVariants.{Fine, Refused}
use Rattle.base_limits.specs.Laws.Verdict.{refuse_true, refuse_false}
use Rattle.season_rule.specs.declared.Farthest.{Farthest}
use Rattle.season_rule.specs.declared.Farthest.TheVariants.{Nothing, At}
use Rattle.season_rule.specs.declared.Report.{Report}
use Rattle.season_rule.specs.Figures.{Figures, is_planned, is_refused, cost_of, bound_of}
use Rattle.season_rule.specs.Report.{max_surveys, refusal_numbers, word_limit, most_cost, most_bound, empty_report, farther, add_plan, add_refusal, add_outcome, passes_word, season_refusal, added}
use Rattle.season_rule.specs.Season.{season_below, Totals, Largest, IsFarthest, none, one}
use Rattle.season_rule.proofs.Laws.Figures.{Limited}

-- ---- the call's own refusal

-- 3 leaves the report unchanged.
pub refused_unchanged : (r : Report) (q : Outcome Figures) {number place : ℕ} → season_refusal r q ≡ Refused number place → added r q ≡ r
unfolding added written
refused_unchanged r q h = rw h

pub fine_added : (r : Report) (q : Outcome Figures) → season_refusal r q ≡ Fine → added r q ≡ add_outcome r q
unfolding added written
fine_added r q h = rw h

-- No 1,001st survey.
pub full_refused : (r : Report) (q : Outcome Figures) → max_surveys ≤ r.surveys → season_refusal r q ≡ Refused 3 0
unfolding season_refusal
full_refused r q h = refuse_true (or_left (leb max_surveys r.surveys) (passes_word r q) (le-leb max_surveys r.surveys h)) 3 0

-- A thousand figures have 64 bits.
module _ (n : ℕ) (o : ℕ → Outcome Figures) (small : (i : ℕ) → i < n → Limited (o i)) (few : n < max_surveys) (r : Report) (t : Totals n o r) where
  word_room : (q : Outcome Figures) → Limited q → passes_word r q ≡ false
  unfolding passes_word cost_of bound_of
  word_room (refusal number place) l =
      let k : number < refusal_numbers = l.number_small number place refl in
      let e = t.refused_are number k in
      let c = count_le n (λ i. is_refused number (o i)) in
      lt-leb word_limit (get_or r.refused number 0 + 1) (omega arith)
  word_room (answer f) l =
      let count = count_le n (λ i. is_planned (o i)) in
      let planned = t.planned_are in
      let costs = sum_limit n most_cost (λ i. cost_of (o i)) (λ i b. (small i b).cost_small) in
      let cost_is = t.cost_is in
      let bounds = sum_limit n most_bound (λ i. bound_of (o i)) (λ i b. (small i b).bound_small) in
      let bound_is = t.bound_is in
      let cost_small : f.cost ≤ most_cost = l.cost_small in
      let bound_small : f.bound ≤ most_bound = l.bound_small in
      rw (
        lt-leb word_limit (r.planned + 1) (omega arith),
        lt-leb word_limit (r.cost + f.cost) (omega arith),
        lt-leb word_limit (r.bound + f.bound) (omega arith),
      )

  pub goes_on_law : (q : Outcome Figures) → Limited q → season_refusal r q ≡ Fine
  unfolding season_refusal
  goes_on_law q l =
      let e = t.surveys_are in
      refuse_false (rw (lt-leb max_surveys r.surveys (omega arith)) (word_room q l)) 3 0

-- ---- counts and totals

module _ (n : ℕ) (t : ℕ → Bool) {x : ℕ} (h : x ≡ count_below n t) where
  count_next : t n ≡ true → x + 1 ≡ count_below (suc n) t
  unfolding count_below sum_below counted
  count_next k = rw (h, k)

  count_same : t n ≡ false → x ≡ count_below (suc n) t
  unfolding count_below sum_below counted
  count_same k = rw (h, k) (omega arith)

sum_next : (n : ℕ) (f : ℕ → ℕ) {x y : ℕ} → x ≡ sum_below n f → y ≡ f n → x + y ≡ sum_below (suc n) f
unfolding sum_below
sum_next n f h k = rw (h, k)

sum_same : (n : ℕ) (f : ℕ → ℕ) {x : ℕ} → x ≡ sum_below n f → 0 ≡ f n → x ≡ sum_below (suc n) f
unfolding sum_below
sum_same n f h k = rw (h, ← k) (omega arith)

module _ (n : ℕ) (o : ℕ → Outcome Figures) (r : Report) (t : Totals n o r) where
  plan_totals : (f : Figures) → o n ≡ answer f → Totals (suc n) o (add_plan r f)
  unfolding add_plan is_planned is_refused cost_of bound_of
  plan_totals f e =
      record {
        surveys_are = omega (arith, t.surveys_are);
        planned_are = count_next n (λ i. is_planned (o i)) t.planned_are (ap is_planned e);
        cost_is = sum_next n (λ i. cost_of (o i)) t.cost_is (sym (ap cost_of e));
        bound_is = sum_next n (λ i. bound_of (o i)) t.bound_is (sym (ap bound_of e));
        refused_long = t.refused_long;
        refused_are = λ k b. count_same n (λ i. is_refused k (o i)) (t.refused_are k b) (ap (is_refused k) e);
      }

  refusal_totals : (number place : ℕ) → o n ≡ refusal number place → Totals (suc n) o (add_refusal r number)
  unfolding add_refusal is_planned is_refused cost_of bound_of
  refusal_totals number place e =
      record {
        surveys_are = omega (arith, t.surveys_are);
        planned_are = count_same n (λ i. is_planned (o i)) t.planned_are (ap is_planned e);
        cost_is = sum_same n (λ i. cost_of (o i)) t.cost_is (sym (ap cost_of e));
        bound_is = sum_same n (λ i. bound_of (o i)) t.bound_is (sym (ap bound_of e));
        refused_long = length-set r.refused number (get_or r.refused number 0 + 1) ∙ t.refused_long;
        refused_are = λ k b. at k b (ℕ_discrete k number);
      }
    where
      at : (k : ℕ) → k < refusal_numbers → Dec (k ≡ number)
          → get_or (set r.refused number (get_or r.refused number 0 + 1)) k 0 ≡ count_below (suc n) (λ i. is_refused k (o i))
      at k b (yes same) =
          let long = t.refused_long in
          ap (λ j. get_or (set r.refused number (get_or r.refused number 0 + 1)) j 0) same
          ∙ get_or-set_same r.refused number (get_or r.refused number 0 + 1) 0 (omega arith)
          ∙ ap (λ j. get_or r.refused j 0 + 1) (sym same)
          ∙ count_next n (λ i. is_refused k (o i)) (t.refused_are k b) (ap (is_refused k) e ∙ eq-eqb number k (sym same))
      at k b (no other) =
          get_or-set_other r.refused number k (get_or r.refused number 0 + 1) 0 other
          ∙ count_same n (λ i. is_refused k (o i)) (t.refused_are k b) (ap (is_refused k) e ∙ ne_eqb number k (λ q. other (sym q)))

  pub outcome_totals : Totals (suc n) o (add_outcome r (o n))
  unfolding add_outcome
  outcome_totals = by (o n) refl
    where
      by : (q : Outcome Figures) → o n ≡ q → Totals (suc n) o (add_outcome r q)
      by (refusal number place) e = refusal_totals number place e
      by (answer f) e = plan_totals f e

empty_totals : (o : ℕ → Outcome Figures) → Totals 0 o empty_report
unfolding empty_report count_below sum_below
empty_totals o =
    record {
      surveys_are = refl;
      planned_are = refl;
      cost_is = refl;
      bound_is = refl;
      refused_long = length-replicate {A = ℕ} refusal_numbers 0;
      refused_are = λ k b. get_or-replicate {A = ℕ} refusal_numbers k 0 0 b;
    }

-- ---- the farthest plan

-- A ratio below one that is below a third.
pub ratio_trans : (t₁ b₁ t b t₂ b₂ : ℕ) → 0 < b₁ → t₁ * b ≤ t * b₁ → t * b₂ < t₂ * b → t₁ * b₂ < t₂ * b₁
ratio_trans t₁ b₁ t b t₂ b₂ some le lt =
    let one : t₁ * b * b₂ ≤ t * b₁ * b₂ = mul-le-mul_right b₂ le in
    let two : t * b₂ * b₁ < t₂ * b * b₁ = mul-lt-mul_of_pos_right lt some in
    let all : t₁ * b₂ * b < t₂ * b₁ * b = omega arith in
    lt_of_mul-lt-mul_right b all

module _ (n : ℕ) (o : ℕ → Outcome Figures) where
  -- What comes next is no farther.
  none_stays : ((i : ℕ) (f : Figures) → i < n → o i ≡ answer f → 0 < f.bound → ⊥) → ((f : Figures) → o n ≡ answer f → 0 < f.bound → ⊥)
      → IsFarthest (suc n) o Nothing
  none_stays so_far next =
      none (λ i f b e some. ⊎_elim (λ c. so_far i f c e some) (λ q. next f (ap o (sym q) ∙ e) some) (below_suc i n b))

  one_stays : {position twice bound : ℕ} → Largest n o position twice bound
      → ((f : Figures) → o n ≡ answer f → 0 < f.bound → 2 * f.cost * bound ≤ twice * f.bound) → Largest (suc n) o position twice bound
  one_stays l next =
      let b = l.below in
      record {
        below = omega arith;
        plan = l.plan;
        planned = l.planned;
        twice_is = l.twice_is;
        bound_is = l.bound_is;
        some = l.some;
        largest = λ i f c e some.
            ⊎_elim (λ d. l.largest i f d e some) (λ q. next f (ap o (sym q) ∙ e) some) (below_suc i n c);
        earliest = l.earliest;
      }

  refusal_farthest : {far : Farthest} {number place : ℕ} → IsFarthest n o far → o n ≡ refusal number place → IsFarthest (suc n) o far
  refusal_farthest (none so_far) e = none_stays so_far (λ f q some. let z : ◌≡◌ {A = ℕ} 0 1 = cc in omega arith)
  refusal_farthest (one l) e = one (one_stays l (λ f q some. absurd (let z : ◌≡◌ {A = ℕ} 0 1 = cc in omega arith)))

  module _ (f : Figures) (e : o n ≡ answer f) where
    same_cost : (g : Figures) → o n ≡ answer g → g.cost ≡ f.cost
    same_cost g q = let h : g ≡ f = cc in ap (λ (x : Figures). x.cost) h

    same_bound : (g : Figures) → o n ≡ answer g → g.bound ≡ f.bound
    same_bound g q = let h : g ≡ f = cc in ap (λ (x : Figures). x.bound) h

    -- It takes the place: every plan before it has a smaller ratio.
    takes_place : 0 < f.bound
        → ((i : ℕ) (g : Figures) → i < n → o i ≡ answer g → 0 < g.bound → 2 * g.cost * f.bound < 2 * f.cost * g.bound)
        → Largest (suc n) o n (2 * f.cost) f.bound
    takes_place some smaller =
        record {
          below = omega arith;
          plan = f;
          planned = e;
          twice_is = refl;
          bound_is = refl;
          some = some;
          largest = λ i g c q pos.
              ⊎_elim
              (λ d. let s = smaller i g d q pos in omega arith)
              (λ same.
              let here : o n ≡ answer g = ap o (sym same) ∙ q in
              rw (same_cost g here, same_bound g here) (omega arith))
              (below_suc i n c);
          earliest = smaller;
        }

    plan_farthest : {far : Farthest} → IsFarthest n o far → IsFarthest (suc n) o (farther far n (2 * f.cost) f.bound)
    unfolding farther
    plan_farthest (none so_far) = by (lt_or_ge 0 f.bound)
      where
        by : (0 < f.bound) ⊎ (f.bound ≤ 0) → IsFarthest (suc n) o (cond (ltb 0 f.bound) (At n (2 * f.cost) f.bound) Nothing)
        by (inl some) = rw (lt-ltb 0 f.bound some) (one (takes_place some (λ i g d q pos. absurd (so_far i g d q pos))))
        by (inr zero_bound) = rw (le-ltb 0 f.bound zero_bound) (none_stays so_far (λ g q pos. let s = same_bound g q in omega arith))
    plan_farthest (one {position = p} {twice = t} {bound = b} l) = by (lt_or_ge 0 f.bound) (lt_or_ge (t * f.bound) (2 * f.cost * b))
      where
        by : (0 < f.bound) ⊎ (f.bound ≤ 0) → (t * f.bound < 2 * f.cost * b) ⊎ (2 * f.cost * b ≤ t * f.bound)
            → IsFarthest (suc n) o (cond (ltb 0 f.bound && ltb (t * f.bound) (2 * f.cost * b)) (At n (2 * f.cost) f.bound) (At p t b))
        by (inl some) (inl above) =
            rw (lt-ltb 0 f.bound some, lt-ltb (t * f.bound) (2 * f.cost * b) above)
            (one
            (takes_place some
            (λ i g d q pos. ratio_trans (2 * g.cost) g.bound t b (2 * f.cost) f.bound pos (l.largest i g d q pos) above)))
        by (inl some) (inr under) =
            rw (lt-ltb 0 f.bound some, le-ltb (t * f.bound) (2 * f.cost * b) under)
            (one (one_stays l (λ g q pos. rw (same_cost g q, same_bound g q) under)))
        by (inr zero_bound) k =
            rw (le-ltb 0 f.bound zero_bound) (one (one_stays l (λ g q pos. absurd (let s = same_bound g q in omega arith))))

  pub outcome_farthest : (r : Report) → r.surveys ≡ n → IsFarthest n o r.farthest → IsFarthest (suc n) o (add_outcome r (o n)).farthest
  unfolding add_outcome add_plan add_refusal
  outcome_farthest r count far = by (o n) refl
    where
      by : (q : Outcome Figures) → o n ≡ q → IsFarthest (suc n) o (add_outcome r q).farthest
      by (refusal number place) e = refusal_farthest far e
      by (answer f) e = rw count (plan_farthest f e far)

-- ---- a sequence of surveys

module _ (o : ℕ → Outcome Figures) where
  pub below_totals : (n : ℕ) → n ≤ max_surveys → ((i : ℕ) → i < n → Limited (o i)) → Totals n o (season_below n o)
  unfolding season_below
  below_totals zero few small = empty_totals o
  below_totals (suc n) few small =
      let t : Totals n o (season_below n o) = below_totals n (omega arith) (λ i b. small i (omega arith)) in
      let fine = goes_on_law n o (λ i b. small i (omega arith)) (omega arith) (season_below n o) t (o n) (small n (omega arith)) in
      rw (fine_added (season_below n o) (o n) fine) (outcome_totals n o (season_below n o) t)

  pub below_farthest : (n : ℕ) → n ≤ max_surveys → ((i : ℕ) → i < n → Limited (o i)) → IsFarthest n o (season_below n o).farthest
  unfolding season_below empty_report
  below_farthest zero few small = none (λ i f b e some. omega arith)
  below_farthest (suc n) few small =
      let t : Totals n o (season_below n o) = below_totals n (omega arith) (λ i b. small i (omega arith)) in
      let fine = goes_on_law n o (λ i b. small i (omega arith)) (omega arith) (season_below n o) t (o n) (small n (omega arith)) in
      rw (fine_added (season_below n o) (o n) fine)
      (outcome_farthest n o (season_below n o) t.surveys_are (below_farthest n (omega arith) (λ i b. small i (omega arith))))
