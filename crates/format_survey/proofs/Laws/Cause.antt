-- What each test of a complete line refuses, and with which number.
use Rattle.std.specs.Prelude.{ℕ, ◌≤◌, ◌<◌, ◌≡◌, refl, Bool, true, false, ◌⊎◌, eqb, ltb}
use Rattle.std.proofs.Common.{arith, inl, inr, ltb-true, ltb-false, eqb-true}
use Rattle.std.proofs.lemmas.Bool.{eqb-false}
use Rattle.base_limits.specs.Limits.{max_vertices, max_edges, group_numbers}
use Rattle.base_limits.specs.Laws.Verdict.{no_refusal}
use Rattle.base_limits.specs.declared.Verdict.{Verdict}
use Rattle.base_limits.specs.declared.Verdict.TheVariants.{Refused}
use Rattle.format_survey.specs.Line.{vertices_test, edges_test, group_test}
use Rattle.format_survey.proofs.Laws.Tests.{vertices_none, vertices_many, vertices_short, vertices_fine, edges_many, edges_first, edges_second, edges_weight, edges_fine, group_high, group_line_fine}

pub data VerticesCause (lent n i p : ℕ) : Type 0 where
  out_of_range : i ≡ 1 → p ≡ 0 → (n ≡ 0) ⊎ (max_vertices < n) → VerticesCause lent n i p
  too_long_law : i ≡ 7 → p ≡ 0 → 0 < n → n ≤ max_vertices → lent < n → VerticesCause lent n i p

refused_as : {w : Verdict} {a b i p : ℕ} → w ≡ Refused a b → w ≡ Refused i p → (i ≡ a) × (p ≡ b)
refused_as e f = ((cc), (cc))

positive : (n : ℕ) → (n ≡ 0 → ⊥) → 0 < n
positive n z = omega arith

pub vertices_cause : (lent n : ℕ) {i p : ℕ} → vertices_test lent n ≡ Refused i p → VerticesCause lent n i p
vertices_cause lent n {i} {p} e = by_tests (eqb n 0) (ltb max_vertices n) (ltb lent n) refl refl refl
  where
    by_tests : (z h s : Bool) → eqb n 0 ≡ z → ltb max_vertices n ≡ h → ltb lent n ≡ s → VerticesCause lent n i p
    by_tests true h s a b c = let r = refused_as (vertices_none lent n (eqb-true n 0 a)) e in out_of_range r.0 r.1 (inl (eqb-true n 0 a))
    by_tests false true s a b c =
        let r = refused_as (vertices_many lent n (eqb-false n 0 a) (ltb-true max_vertices n b)) e in
        out_of_range r.0 r.1 (inr (ltb-true max_vertices n b))
    by_tests false false true a b c =
        let r = refused_as (vertices_short lent n (eqb-false n 0 a) (ltb-false max_vertices n b) (ltb-true lent n c)) e in
        too_long_law r.0 r.1 (positive n (eqb-false n 0 a)) (ltb-false max_vertices n b) (ltb-true lent n c)
    by_tests false false false a b c = absurd (no_refusal e (vertices_fine lent n (eqb-false n 0 a) (ltb-false max_vertices n b) (ltb-false lent n c)))

pub data EdgesCause (firsts seconds weights m i p : ℕ) : Type 0 where
  over_limit : i ≡ 3 → p ≡ 0 → max_edges < m → EdgesCause firsts seconds weights m i p
  too_many : i ≡ 7 → p ≡ 0 → m ≤ max_edges → (firsts < m) ⊎ ((seconds < m) ⊎ (weights < m)) → EdgesCause firsts seconds weights m i p

pub edges_cause : (firsts seconds weights m : ℕ) {i p : ℕ} → edges_test firsts seconds weights m ≡ Refused i p → EdgesCause firsts seconds weights m i p
edges_cause a b c m {i} {p} e = by_tests (ltb max_edges m) (ltb a m) (ltb b m) (ltb c m) refl refl refl refl
  where
    by_tests : (w x y z : Bool) → ltb max_edges m ≡ w → ltb a m ≡ x → ltb b m ≡ y → ltb c m ≡ z → EdgesCause a b c m i p
    by_tests true x y z h f g k = let r = refused_as (edges_many a b c m (ltb-true max_edges m h)) e in over_limit r.0 r.1 (ltb-true max_edges m h)
    by_tests false true y z h f g k =
        let r = refused_as (edges_first a b c m (ltb-false max_edges m h) (ltb-true a m f)) e in
        too_many r.0 r.1 (ltb-false max_edges m h) (inl (ltb-true a m f))
    by_tests false false true z h f g k =
        let r = refused_as (edges_second a b c m (ltb-false max_edges m h) (ltb-false a m f) (ltb-true b m g)) e in
        too_many r.0 r.1 (ltb-false max_edges m h) (inr (inl (ltb-true b m g)))
    by_tests false false false true h f g k =
        let r = refused_as (edges_weight a b c m (ltb-false max_edges m h) (ltb-false a m f) (ltb-false b m g) (ltb-true c m k)) e in
        too_many r.0 r.1 (ltb-false max_edges m h) (inr (inr (ltb-true c m k)))
    by_tests false false false false h f g k = absurd (no_refusal e (edges_fine a b c m (ltb-false max_edges m h) (ltb-false a m f) (ltb-false b m g) (ltb-false c m k)))

pub short_refused : (a b c m : ℕ) → m ≤ max_edges → (a < m) ⊎ ((b < m) ⊎ (c < m)) → edges_test a b c m ≡ Refused 7 0
short_refused a b c m h s = by_tests (ltb a m) (ltb b m) refl refl s
  where
    by_tests : (x y : Bool) → ltb a m ≡ x → ltb b m ≡ y → (a < m) ⊎ ((b < m) ⊎ (c < m)) → edges_test a b c m ≡ Refused 7 0
    by_tests true y f g s = edges_first a b c m h (ltb-true a m f)
    by_tests false true f g s = edges_second a b c m h (ltb-false a m f) (ltb-true b m g)
    by_tests false false f g (inl l) = let k = ltb-false a m f in absurd (omega arith)
    by_tests false false f g (inr (inl l)) = let k = ltb-false b m g in absurd (omega arith)
    by_tests false false f g (inr (inr l)) = edges_weight a b c m h (ltb-false a m f) (ltb-false b m g) l

pub group_cause : (v g : ℕ) {i p : ℕ} → group_test v g ≡ Refused i p → (group_numbers ≤ g) × ((i ≡ 17) × (p ≡ v))
group_cause v g {i} {p} e = by_test (ltb g group_numbers) refl
  where
    by_test : (b : Bool) → ltb g group_numbers ≡ b → (group_numbers ≤ g) × ((i ≡ 17) × (p ≡ v))
    by_test true h = absurd (no_refusal e (group_line_fine v g (ltb-true g group_numbers h)))
    by_test false h = (ltb-false g group_numbers h, refused_as (group_high v g (ltb-false g group_numbers h)) e)
