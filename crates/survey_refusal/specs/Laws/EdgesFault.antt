-- Tracks tested without a walk that stops: where none has a fault, none is refused. `edges_refusal` uses it.
use Rattle.std.specs.Prelude.{ℕ, ◌+◌, ◌≤◌, ◌≡◌, refl, Bool, true, false, ◌||◌, length, get_or, eqb, ltb, leb}
use Rattle.std.proofs.Common.{arith, add-one, sym, ◌∙◌, ltb-false, leb-false}
use Rattle.std.proofs.Math.Path.{ap}
use Rattle.std.specs.Int.Bits.{bit_or}
use Rattle.std.proofs.lemmas.Bool.{eqb-false}
use Rattle.base_finite.specs.Below.{counted, any_below}
use Rattle.base_finite.specs.Laws.Below.{any_none}
use Rattle.base_finite.specs.Laws.Test.{or_false_left, or_false_right}
use Rattle.base_limits.specs.Limits.{max_weight}
use Rattle.base_limits.specs.Verdict.{lowest_below}
use Rattle.base_limits.specs.declared.Verdict.TheVariants.{Fine}
use Rattle.base_limits.specs.Laws.Verdict.{lowest_none}
use Rattle.survey_core.specs.Survey.{Survey, edge_count}
use Rattle.survey_core.specs.Refusal.{edge_refusal}
use Rattle.survey_core.proofs.Laws.Refusal.{edge_fine}
use Rattle.survey_refusal.specs.Fault.{faulty}
use Rattle.survey_refusal.specs.Laws.Fault.{or_counted}

-- ---- tests as numbers

none_counted : (t : Bool) {x : ℕ} → x ≡ counted t 1 → x ≡ 0 → t ≡ false
unfolding counted
none_counted false h k = refl
none_counted true h k = absurd (omega arith)

-- ---- the tracks, one after the other

module _ (fault : ℕ → Bool) where
  pub faults_more : (e : ℕ) {found one : ℕ} → found ≡ counted (any_below e fault) 1 → one ≡ counted (fault e) 1
      → bit_or found one ≡ counted (any_below (e + 1) fault) 1
  unfolding any_below
  faults_more e found_is one_is = or_counted (any_below e fault) (fault e) found_is one_is ∙ ap (λ k. counted (any_below k fault) 1) (sym (add-one e))

  pub faults_end : (m e : ℕ) {found : ℕ} → e ≤ m → m ≤ e → found ≡ counted (any_below e fault) 1 → found ≡ counted (any_below m fault) 1
  faults_end m e a b h = let q : e ≡ m = omega arith in h ∙ ap (λ k. counted (any_below k fault) 1) q

-- ---- no fault

edge_none : (s : Survey) (e : ℕ) → faulty (length s.groups) (get_or s.firsts e 0) (get_or s.seconds e 0) (get_or s.weights e 0) ≡ false → edge_refusal s e ≡ Fine
unfolding faulty
edge_none s e h =
    let n = length s.groups in
    let x = get_or s.firsts e 0 in
    let y = get_or s.seconds e 0 in
    let heavy = ltb max_weight (get_or s.weights e 0) in
    let three = or_false_left ((leb n x || leb n y) || eqb x y) heavy h in
    let two = or_false_left (leb n x || leb n y) (eqb x y) three in
    edge_fine s e
    (record {
      first_below_law = leb-false n x (or_false_left (leb n x) (leb n y) two);
      second_below = leb-false n y (or_false_right (leb n x) (leb n y) two);
      ends_differ = eqb-false x y (or_false_right (leb n x || leb n y) (eqb x y) three);
      weight_le = ltb-false max_weight (get_or s.weights e 0) (or_false_right ((leb n x || leb n y) || eqb x y) heavy h);
    })

pub no_fault : (s : Survey) {found : ℕ}
    → found ≡ counted (any_below (length s.firsts) (λ e. faulty (length s.groups) (get_or s.firsts e 0) (get_or s.seconds e 0) (get_or s.weights e 0))) 1
    → found ≡ 0 → Fine ≡ lowest_below (edge_count s) (edge_refusal s)
unfolding edge_count
no_fault s h k =
    sym
    (lowest_none (length s.firsts) (edge_refusal s)
    (λ e b. edge_none s e (any_none (length s.firsts) _ (none_counted _ h k) e b)))
