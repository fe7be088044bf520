-- What each test of a complete line answers, and how large the values of a line are.
use Rattle.std.specs.Prelude.{ℕ, ◌^◌, ◌≤◌, ◌<◌, ◌≡◌, refl, List, Bool, true, false, eqb, ltb}
use Rattle.std.proofs.Common.{arith, ap, ◌∙◌, subst}
use Rattle.std.proofs.Math.Nat.{pow-le-pow_right}
use borrow.Author.Tests.{ltb-true, ltb-false, eqb-true, eqb-false, eq-eqb, ne_eqb, lt-ltb, le-ltb, le-leb, lt-leb}
use Rattle.base_limits.specs.Limits.{max_vertices, max_edges, group_numbers, count_digits, group_digits, endpoint_digits, weight_digits}
use Rattle.base_limits.specs.Verdict.{refuse_if, ◌before◌}
use Rattle.base_limits.specs.Laws.Verdict.{no_refusal}
use Rattle.base_limits.specs.declared.Verdict.TheVariants.{Fine, Refused}
use Rattle.format_write.specs.Key.{comma, newline, node_key, link_key, nodes_key, links_key}
use Rattle.format_read.specs.Step.{found, checked}
use Rattle.format_survey.specs.Line.{vertices_test, edges_test, group_test, group_line, Edge, edge_line, Lengths, tests_for, count_line, counts_at, SurveyCounts, EdgeDigits, word_numbers}
use Rattle.format_read.specs.Number.{number_line, number_to, OfDigits}
use Rattle.format_read.specs.Bytes.{fixed_at}
use Rattle.format_read.proofs.Laws.Digits.{number_to_below}
use Rattle.format_read.proofs.Laws.Step.{then_value, checked_fine, checked_value}

positive : (n : ℕ) → (n ≡ 0 → ⊥) → 0 < n
positive n z = omega arith

module _ (lent n : ℕ) where
  pub vertices_none : n ≡ 0 → vertices_test lent n ≡ Refused 1 0
  unfolding vertices_test refuse_if ◌before◌
  vertices_none e = rw (eq-eqb n 0 e)

  pub vertices_many : (n ≡ 0 → ⊥) → max_vertices < n → vertices_test lent n ≡ Refused 1 0
  unfolding vertices_test refuse_if ◌before◌
  vertices_many z h = rw (ne_eqb n 0 z, lt-ltb max_vertices n h)

  pub vertices_short : (n ≡ 0 → ⊥) → n ≤ max_vertices → lent < n → vertices_test lent n ≡ Refused 7 0
  unfolding vertices_test refuse_if ◌before◌
  vertices_short z h k = rw (ne_eqb n 0 z, le-ltb max_vertices n h, lt-ltb lent n k)

  pub vertices_fine : (n ≡ 0 → ⊥) → n ≤ max_vertices → n ≤ lent → vertices_test lent n ≡ Fine
  unfolding vertices_test refuse_if ◌before◌
  vertices_fine z h k = rw (ne_eqb n 0 z, le-ltb max_vertices n h, le-ltb lent n k)

module _ (firsts seconds weights m : ℕ) where
  pub edges_many : max_edges < m → edges_test firsts seconds weights m ≡ Refused 3 0
  unfolding edges_test refuse_if ◌before◌
  edges_many h = rw (lt-ltb max_edges m h)

  pub edges_first : m ≤ max_edges → firsts < m → edges_test firsts seconds weights m ≡ Refused 7 0
  unfolding edges_test refuse_if ◌before◌
  edges_first h a = rw (le-ltb max_edges m h, lt-ltb firsts m a)

  pub edges_second : m ≤ max_edges → m ≤ firsts → seconds < m → edges_test firsts seconds weights m ≡ Refused 7 0
  unfolding edges_test refuse_if ◌before◌
  edges_second h a b = rw (le-ltb max_edges m h, le-ltb firsts m a, lt-ltb seconds m b)

  pub edges_weight : m ≤ max_edges → m ≤ firsts → m ≤ seconds → weights < m → edges_test firsts seconds weights m ≡ Refused 7 0
  unfolding edges_test refuse_if ◌before◌
  edges_weight h a b d = rw (le-ltb max_edges m h, le-ltb firsts m a, le-ltb seconds m b, lt-ltb weights m d)

  pub edges_fine : m ≤ max_edges → m ≤ firsts → m ≤ seconds → m ≤ weights → edges_test firsts seconds weights m ≡ Fine
  unfolding edges_test refuse_if ◌before◌
  edges_fine h a b d = rw (le-ltb max_edges m h, le-ltb firsts m a, le-ltb seconds m b, le-ltb weights m d)

pub group_high : (v g : ℕ) → group_numbers ≤ g → group_test v g ≡ Refused 17 v
unfolding group_test refuse_if
group_high v g h = rw (le-leb group_numbers g h)

pub group_line_fine : (v g : ℕ) → g < group_numbers → group_test v g ≡ Fine
unfolding group_test refuse_if
group_line_fine v g h = rw (lt-leb group_numbers g h)

-- What a count that passes its test is.
pub record VerticesPass (lent n : ℕ) : Type 0 where
  pub some : 0 < n
  pub most : n ≤ max_vertices
  pub room : n ≤ lent

pub vertices_passed : (lent n : ℕ) → vertices_test lent n ≡ Fine → VerticesPass lent n
vertices_passed lent n e = by_tests (eqb n 0) (ltb max_vertices n) (ltb lent n) refl refl refl
  where
    by_tests : (z h s : Bool) → eqb n 0 ≡ z → ltb max_vertices n ≡ h → ltb lent n ≡ s → VerticesPass lent n
    by_tests true h s a b c = absurd (no_refusal (vertices_none lent n (eqb-true n 0 a)) e)
    by_tests false true s a b c = absurd (no_refusal (vertices_many lent n (eqb-false n 0 a) (ltb-true max_vertices n b)) e)
    by_tests false false true a b c = absurd (no_refusal (vertices_short lent n (eqb-false n 0 a) (ltb-false max_vertices n b) (ltb-true lent n c)) e)
    by_tests false false false a b c =
        let z = eqb-false n 0 a in
        record { some = positive n z; most = ltb-false max_vertices n b; room = ltb-false lent n c }

pub record EdgesPass (firsts seconds weights m : ℕ) : Type 0 where
  pub most : m ≤ max_edges
  pub first : m ≤ firsts
  pub second : m ≤ seconds
  pub weight : m ≤ weights

pub edges_passed : (firsts seconds weights m : ℕ) → edges_test firsts seconds weights m ≡ Fine → EdgesPass firsts seconds weights m
edges_passed a b c m e = by_tests (ltb max_edges m) (ltb a m) (ltb b m) (ltb c m) refl refl refl refl
  where
    by_tests : (p q r s : Bool) → ltb max_edges m ≡ p → ltb a m ≡ q → ltb b m ≡ r → ltb c m ≡ s → EdgesPass a b c m
    by_tests true q r s h i j k = absurd (no_refusal (edges_many a b c m (ltb-true max_edges m h)) e)
    by_tests false true r s h i j k = absurd (no_refusal (edges_first a b c m (ltb-false max_edges m h) (ltb-true a m i)) e)
    by_tests false false true s h i j k = absurd (no_refusal (edges_second a b c m (ltb-false max_edges m h) (ltb-false a m i) (ltb-true b m j)) e)
    by_tests false false false true h i j k = absurd (no_refusal (edges_weight a b c m (ltb-false max_edges m h) (ltb-false a m i) (ltb-false b m j) (ltb-true c m k)) e)
    by_tests false false false false h i j k = record { most = ltb-false max_edges m h; first = ltb-false a m i; second = ltb-false b m j; weight = ltb-false c m k }

pub group_passed : (v g : ℕ) → group_test v g ≡ Fine → g < group_numbers
group_passed v g e = by_size (ltb g group_numbers) refl
  where
    by_size : (b : Bool) → ltb g group_numbers ≡ b → g < group_numbers
    by_size true h = ltb-true g group_numbers h
    by_size false h = let z : ◌≡◌ {A = ℕ} 0 1 = cc (group_high v g (ltb-false g group_numbers h)) in absurd (omega arith)

pub group_below : (t : List ℕ) (v at : ℕ) {g next : ℕ} → group_line group_test t v at ≡ found g next → g < group_numbers
unfolding group_line checked
group_below t v at {g} {next} e =
    let f = then_value (number_line node_key group_digits t at) (λ x p. checked (group_test v x) x p) e in
    let w = checked_fine (group_test v f.0) f.0 f.1 f.3 in
    let q : checked (group_test v f.0) f.0 f.1 ≡ found f.0 f.1 = ap (λ x. checked x f.0 f.1) w in
    let same : f.0 ≡ g = cc f.3 in
    subst (λ (x : ℕ). x < group_numbers) same (group_passed v f.0 w)

pub edge_below : (t : List ℕ) (e at : ℕ) {x : Edge} {next : ℕ} → edge_line t e at ≡ found x next → EdgeDigits x
unfolding edge_line
edge_below t e at {x} {next} q =
    let k = then_value (fixed_at link_key t at) _ q in
    let u = then_value (number_to endpoint_digits comma t k.1) _ k.3 in
    let v = then_value (number_to endpoint_digits comma t u.1) _ u.3 in
    let w = then_value (number_to weight_digits newline t v.1) _ v.3 in
    let same : ◌≡◌ {A = Edge} (record { first = u.0; second = v.0; weight = w.0 }) x = cc w.3 in
    subst EdgeDigits same
    record {
      first = number_to_below t endpoint_digits comma k.1 u.0 u.1 (omega arith) u.2;
      second = number_to_below t endpoint_digits comma u.1 v.0 v.1 (omega arith) v.2;
      weight = number_to_below t weight_digits newline v.1 w.0 w.1 (omega arith) w.2;
    }

-- A number of at most nine digits fits 32 bits.
pub below_word : (limit : ℕ) {x : ℕ} → limit ≤ 9 → OfDigits limit x → x < word_numbers
below_word limit l h = let p : 10 ^ limit ≤ 10 ^ 9 = pow-le-pow_right {n = 10} (omega arith) {i = limit} {j = 9} l in omega arith

-- What the counts that pass their tests are.
pub record CountsPassed (lent : Lengths) (counts : SurveyCounts) : Type 0 where
  pub vertices : VerticesPass lent.groups counts.vertices
  pub edges : EdgesPass lent.firsts lent.seconds lent.weights counts.edges

pub counts_passed : (lent : Lengths) (t : List ℕ) {counts : SurveyCounts} {q : ℕ} → counts_at (tests_for lent).vertices (tests_for lent).edges t ≡ found counts q → CountsPassed lent counts
unfolding counts_at tests_for count_line
counts_passed lent t {counts} {q} e =
    let one = then_value (count_line nodes_key (vertices_test lent.groups) t 0) _ e in
    let n = then_value (number_line nodes_key count_digits t 0) _ one.2 in
    let two = then_value (count_line links_key (edges_test lent.firsts lent.seconds lent.weights) t one.1) _ one.3 in
    let m = then_value (number_line links_key count_digits t one.1) _ two.2 in
    let u = checked_value _ _ _ n.3 in
    let v = checked_value _ _ _ m.3 in
    let same : ◌≡◌ {A = SurveyCounts} (record { vertices = n.0; edges = m.0 }) counts = cc (u, v, two.3) in
    subst (CountsPassed lent) same
    record { vertices = vertices_passed lent.groups n.0 (checked_fine _ _ _ n.3); edges = edges_passed lent.firsts lent.seconds lent.weights m.0 (checked_fine _ _ _ m.3) }

-- A refusal of a count is not 16: of one test, and of two one after the other.
pub one_not_malformed : (x : Bool) (i u n p : ℕ) → (i ≡ 16 → ⊥) → refuse_if x i u ≡ Refused n p → n ≡ 16 → ⊥
unfolding refuse_if
one_not_malformed true i u n p h e z = let s : i ≡ n = cc in h (s ∙ z)
one_not_malformed false i u n p h e z = let s : ◌≡◌ {A = ℕ} 0 1 = cc in omega arith

pub two_not_malformed : (x y : Bool) (i j u v n p : ℕ) → (i ≡ 16 → ⊥) → (j ≡ 16 → ⊥) → (refuse_if x i u before refuse_if y j v) ≡ Refused n p → n ≡ 16 → ⊥
unfolding refuse_if ◌before◌
two_not_malformed true y i j u v n p h k e z = one_not_malformed true i u n p h e z
two_not_malformed false y i j u v n p h k e z = one_not_malformed y j v n p k e z
