-- Room for every plan within the limits: reading into it never wants for room.
use Rattle.std.specs.Prelude.{ℕ, zero, suc, ◌+◌, ◌*◌, ◌/◌, ◌≤◌, ◌<◌, ◌≡◌, refl, Bool, true, false, ◌||◌, cond, List, [], length, ltb, leb}
use Rattle.std.proofs.Common.{arith, ap, sym, subst, ltb-true, ltb-false, leb-true, leb-false}
use Rattle.base_limits.specs.Limits.{record_bytes, max_duals, max_edges}
use Rattle.base_limits.specs.Verdict.{refuse_if, refusal, answer, outcome}
use Rattle.base_limits.specs.declared.Verdict.{Verdict}
use Rattle.base_limits.specs.Laws.Verdict.{no_refusal}
use Rattle.base_limits.specs.declared.Verdict.TheVariants.{Fine, Refused}
use Rattle.format_read.specs.Step.{Step, found, refused}
use Rattle.format_read.specs.Lines.{lines_after, following}
use Rattle.format_survey.specs.Reading.{step_outcome}
use Rattle.format_read.proofs.Laws.Step.{then_value, checked_fine}
use Rattle.format_read.specs.Items.{items_from}
use Rattle.format_plan.specs.Lines.{PrintedDual, dual_head, members_at, dual_test, dual_line_at, dual_reader, duals_at, kept_at, member_numbers}
use Rattle.format_plan.specs.Plan.{PrintedPlan, plan_lines_at, claims_at, plan_at, room_test, with_room}
use Rattle.format_plan.proofs.Laws.Tests.{dual_falls, dual_many}
use Rattle.format_plan.proofs.Laws.Reading.{room_marks, room_records, room_fine}

-- What the test of room says that passes.
pub room_passed : (m count marks records : ℕ) → room_test m count marks records ≡ Fine → (m ≤ marks) × (record_bytes * count ≤ records)
room_passed m count marks records f = by_tests (ltb marks m) (ltb (records / record_bytes) count) refl refl
  where
    by_tests : (a b : Bool) → ltb marks m ≡ a → ltb (records / record_bytes) count ≡ b → (m ≤ marks) × (record_bytes * count ≤ records)
    by_tests true b p q = absurd (no_refusal (room_marks m count marks records (ltb-true marks m p)) f)
    by_tests false true p q = absurd (no_refusal (room_records m count marks records (ltb-false marks m p) (ltb-true (records / record_bytes) count q)) f)
    by_tests false false p q = let k = ltb-false (records / record_bytes) count q in (ltb-false marks m p, omega arith)

-- A plan for which there is room was read whole.
pub room_answer : (x : Step PrintedPlan) (m marks records : ℕ) {p : PrintedPlan} → with_room x m marks records ≡ answer p
    → (q : ℕ) × (x ≡ found p q) × (m ≤ marks) × (record_bytes * length p.duals ≤ records)
unfolding with_room outcome
room_answer (found y q) m marks records {p} e = by_test (room_test m (length y.duals) marks records) refl e
  where
    by_test : (v : Verdict) → room_test m (length y.duals) marks records ≡ v → outcome v y ≡ answer p
        → (r : ℕ) × (found y q ≡ found p r) × (m ≤ marks) × (record_bytes * length p.duals ≤ records)
    by_test Fine f e =
        let same : y ≡ p = cc in
        let h = room_passed m (length y.duals) marks records f in
        (q, ap (λ (z : PrintedPlan). found z q) same, h.0, subst (λ (z : PrintedPlan). record_bytes * length z.duals ≤ records) same h.1)
    by_test (Refused n r) f e = let z : ◌≡◌ {A = ℕ} 0 1 = cc in absurd (omega arith)
room_answer (refused n q) m marks records e = let z : ◌≡◌ {A = ℕ} 0 1 = cc in absurd (omega arith)

-- Want of room is refused with 7: another number comes from the text.
pub room_refusal_law : (x : Step PrintedPlan) (m marks records : ℕ) {n q : ℕ} → (n ≡ 7 → ⊥) → with_room x m marks records ≡ refusal n q → x ≡ refused n q
unfolding with_room room_test refuse_if outcome
room_refusal_law (found y next) m marks records {n} {q} h e = by_test (ltb marks m || ltb (records / record_bytes) (length y.duals)) e
  where
    by_test : (b : Bool) → outcome (refuse_if b 7 0) y ≡ refusal n q → found y next ≡ refused n q
    by_test true e = let z : 7 ≡ n = cc in absurd (h (sym z))
    by_test false e = let z : ◌≡◌ {A = ℕ} 0 1 = cc in absurd (omega arith)
room_refusal_law (refused i j) m marks records {n} {q} h e = let a : i ≡ n = cc in let b : j ≡ q = cc in cc

-- What a moat's test says that passes.
pub dual_passed : (i low : ℕ) → dual_test i low ≡ Fine → (low ≤ member_numbers) × (i < max_duals)
dual_passed i low f = by_tests (ltb member_numbers low) (leb max_duals i) refl refl
  where
    by_tests : (a b : Bool) → ltb member_numbers low ≡ a → leb max_duals i ≡ b → (low ≤ member_numbers) × (i < max_duals)
    by_tests true b p q = absurd (no_refusal (dual_falls i low (ltb-true member_numbers low p)) f)
    by_tests false true p q = absurd (no_refusal (dual_many i low (ltb-false member_numbers low p) (leb-true max_duals i q)) f)
    by_tests false false p q = (ltb-false member_numbers low p, leb-false max_duals i q)

line_passed : (t : List ℕ) (i at : ℕ) {d : PrintedDual} {p : ℕ} → dual_line_at t i at ≡ found d p → i < max_duals
unfolding dual_line_at
line_passed t i at e =
    let one = then_value (dual_head t at) _ e in
    let two = then_value (members_at t one.1).end _ one.3 in
    (dual_passed i two.0 (checked_fine _ _ _ two.3)).1

-- No more moats are read than there can be.
items_few : (t : List ℕ) (fuel low i at : ℕ) → i ≤ max_duals → length (items_from (dual_reader t) fuel low i at).values + i ≤ max_duals
unfolding items_from following dual_reader
items_few t zero low i at h = omega arith
items_few t (suc fuel) low i at h = by_stop ((dual_reader t).stop at) (dual_line_at t i at) refl (λ l k b. items_few t fuel l (i + 1) k b)
  where
    by_stop : (b : Bool) (s : Step PrintedDual) → dual_line_at t i at ≡ s → ((l k : ℕ) → i + 1 ≤ max_duals → length (items_from (dual_reader t) fuel l (i + 1) k).values + (i + 1) ≤ max_duals)
        → length (cond b (record { values = []; end = found low at }) (following s (λ d next. items_from (dual_reader t) fuel (low + 1) (i + 1) next))).values + i ≤ max_duals
    by_stop true s e ih = omega arith
    by_stop false (found d next) e ih =
        let few = line_passed t i at e in
        let more = ih (low + 1) next (omega arith) in
        omega arith
    by_stop false (refused n p) e ih = omega arith

body_few : (t : List ℕ) (m at : ℕ) → length (plan_lines_at t m at).duals ≤ max_duals
unfolding plan_lines_at lines_after duals_at
body_few t m at = by_kept (kept_at t m at).end
  where
    by_kept : (s : Step ℕ) → length (lines_after s (duals_at t)).values ≤ max_duals
    by_kept (found z p) = let few = items_few t (length t) 0 0 p (omega arith) in omega arith
    by_kept (refused n p) = omega arith

plan_few : (t : List ℕ) (m at : ℕ) {p : PrintedPlan} {q : ℕ} → plan_at t m at ≡ found p q → length p.duals ≤ max_duals
unfolding plan_at
plan_few t m at {p} {q} e =
    let one = then_value (claims_at t at) _ e in
    let two = then_value (plan_lines_at t m one.1).end _ one.3 in
    let same : ◌≡◌ {A = PrintedPlan} (record { claims = one.0; kept = (plan_lines_at t m one.1).kept; duals = (plan_lines_at t m one.1).duals }) p = cc two.3 in
    subst (λ (x : PrintedPlan). length x.duals ≤ max_duals) same (body_few t m one.1)

-- Where there is room for every plan within the limits 7 cannot come: what is answered is what the text says.
pub room_enough : (t : List ℕ) (m at : ℕ) → m ≤ max_edges → with_room (plan_at t m at) m max_edges (record_bytes * max_duals) ≡ step_outcome (plan_at t m at)
unfolding with_room step_outcome outcome
room_enough t m at h = by_plan (plan_at t m at) refl
  where
    by_plan : (x : Step PrintedPlan) → plan_at t m at ≡ x → with_room x m max_edges (record_bytes * max_duals) ≡ step_outcome x
    by_plan (found p q) e = let f = plan_few t m at e in rw (room_fine m (length p.duals) max_edges (record_bytes * max_duals) h f) refl
    by_plan (refused n q) e = refl
