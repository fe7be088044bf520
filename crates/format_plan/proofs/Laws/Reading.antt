-- Laws of reading a whole plan: its outcome by the outcome of its parts, and what two passes leave in the lent buffers.
use Rattle.std.specs.Prelude.{ℕ, ◌*◌, ◌/◌, ◌≤◌, ◌<◌, List, [], ◌++◌, drop}
use Rattle.std.proofs.Common.{arith, ap, sym, ◌∙◌}
use Rattle.std.proofs.Math.Path.{◌≡◌, refl}
use Rattle.std.proofs.Math.ListN.{length}
use borrow.Author.Tests.{lt-ltb, le-ltb}
use Rattle.base_limits.specs.Limits.{record_bytes}
use Rattle.base_limits.specs.Verdict.{refuse_if, refusal, answer, outcome}
use Rattle.base_limits.specs.declared.Verdict.{Verdict}
use Rattle.base_limits.specs.declared.Verdict.TheVariants.{Fine, Refused}
use Rattle.format_read.specs.Step.{Step, found, refused, ◌then◌, checked, stored_if}
use Rattle.format_read.proofs.Laws.Step.{stored_found}
use Rattle.format_read.specs.Lines.{lines_after}
use Rattle.format_read.specs.Items.{puts}
use Rattle.format_read.specs.Language.{Each}
use Rattle.format_plan.specs.Lines.{kept_at, duals_at, put_mark, put_dual}
use Rattle.format_plan.specs.Plan.{Claims, PrintedPlan, PlanLines, claims_at, plan_lines_at, plan_at, marks_of, dual_records, cleared, room_test, roomed, with_room, plan_reading}
use Rattle.format_plan.proofs.Laws.Fill.{kept_below, duals_counted, marks_filled, records_filled}

-- ---- one pass

-- By where the keep lines end: the moat lines are not read, or follow.
module _ (t : List ℕ) (m at : ℕ) where
  pub plan_lines_refused : {n p : ℕ} → (kept_at t m at).end ≡ refused n p → ((plan_lines_at t m at).end ≡ refused n p) × ((plan_lines_at t m at).duals ≡ [])
  unfolding plan_lines_at lines_after
  plan_lines_refused e = rw e (refl, refl)

  pub plan_lines_found : {z p : ℕ} → (kept_at t m at).end ≡ found z p → ((plan_lines_at t m at).end ≡ (duals_at t p).end) × ((plan_lines_at t m at).duals ≡ (duals_at t p).values)
  unfolding plan_lines_at lines_after
  plan_lines_found e = rw e (refl, refl)

-- What the lines after the counts are, once they are all read.
pub record Whole (b : PlanLines) (m count : ℕ) : Type 0 where
  pub below : Each (λ e. e < m) b.kept
  pub many : count ≡ length b.duals

pub body_whole : (t : List ℕ) (m at : ℕ) {count p : ℕ} → (plan_lines_at t m at).end ≡ found count p → Whole (plan_lines_at t m at) m count
unfolding plan_lines_at lines_after
body_whole t m at {count} {p} e = by_kept (kept_at t m at).end e
  where
    by_kept : (s : Step ℕ) → (lines_after s (duals_at t)).end ≡ found count p → Whole (record { kept = (kept_at t m at).values; duals = (lines_after s (duals_at t)).values; end = (lines_after s (duals_at t)).end }) m count
    by_kept (found z q) e = record { below = kept_below t m at; many = duals_counted t q e }
    by_kept (refused n q) e =
        let f : ◌≡◌ {A = Step ℕ} (refused n q) (found count p) = e in
        let z : ◌≡◌ {A = ℕ} 0 1 = cc in absurd (omega arith)

-- ---- two passes

module _ (m count marks records : ℕ) where
  pub room_marks : marks < m → room_test m count marks records ≡ Refused 7 0
  unfolding room_test refuse_if
  room_marks h = rw (lt-ltb marks m h)

  pub room_records : m ≤ marks → records / record_bytes < count → room_test m count marks records ≡ Refused 7 0
  unfolding room_test refuse_if
  room_records h k = rw (le-ltb marks m h, lt-ltb (records / record_bytes) count k)

  pub room_fine : m ≤ marks → count ≤ records / record_bytes → room_test m count marks records ≡ Fine
  unfolding room_test refuse_if
  room_fine h k = rw (le-ltb marks m h, le-ltb (records / record_bytes) count k)

pub roomed_refused : (b : PlanLines) (m marks records : ℕ) {n p : ℕ} → b.end ≡ refused n p → roomed b m marks records ≡ refused n p
unfolding roomed ◌then◌
roomed_refused b m marks records e = rw e refl

-- After a first pass into parts of no length, which leaves the buffers as they are.
module _ (t : List ℕ) (m at : ℕ) (marks records : List ℕ) {marks' records' : List ℕ} (same_marks : marks' ≡ marks) (same_records : records' ≡ records) {count p : ℕ} (e : (plan_lines_at t m at).end ≡ found count p) where
  pub short_marks : length marks' < m → refused 7 0 ≡ roomed (plan_lines_at t m at) m (length marks) (length records)
  unfolding roomed ◌then◌ checked
  short_marks h = rw (e, room_marks m count (length marks) (length records) (rw same_marks at h)) refl

  pub short_records : m ≤ length marks' → length records' / record_bytes < count → refused 7 0 ≡ roomed (plan_lines_at t m at) m (length marks) (length records)
  unfolding roomed ◌then◌ checked
  short_records h k = rw (e, room_records m count (length marks) (length records) (rw same_marks at h) (rw same_records at k)) refl

  pub roomed_found : m ≤ length marks' → count ≤ length records' / record_bytes → roomed (plan_lines_at t m at) m (length marks) (length records) ≡ found count p
  unfolding roomed ◌then◌ checked
  roomed_found h k = rw (e, room_fine m count (length marks) (length records) (rw same_marks at h) (rw same_records at k)) refl

  pub marks_stored : {step : Step ℕ} {new last : List ℕ} → m ≤ length marks' → step ≡ found count p → new ≡ cleared m marks' → last ≡ puts put_mark new 0 (plan_lines_at t m at).kept
      → last ≡ stored_if step (marks_of m (plan_lines_at t m at).kept ++ drop m marks) marks
  marks_stored h s c k =
      k ∙ ap (λ l. puts put_mark l 0 (plan_lines_at t m at).kept) (c ∙ ap (cleared m) same_marks) ∙ marks_filled m marks (plan_lines_at t m at).kept (rw same_marks at h) (body_whole t m at e).below
      ∙ sym (stored_found _ marks s)

  pub records_stored : {step : Step ℕ} {last : List ℕ} → count ≤ length records' / record_bytes → step ≡ found count p → last ≡ puts put_dual records' 0 (plan_lines_at t m at).duals
      → last ≡ stored_if step (dual_records (plan_lines_at t m at).duals ++ drop (record_bytes * length (plan_lines_at t m at).duals) records) records
  records_stored h s k =
      let h' : count ≤ length records / record_bytes = rw same_records at h in
      let few : length (plan_lines_at t m at).duals ≤ length records / record_bytes = rw (body_whole t m at e).many at h' in
      k ∙ ap (λ l. puts put_dual l 0 (plan_lines_at t m at).duals) same_records ∙ records_filled (plan_lines_at t m at).duals [] records 0 refl few ∙ sym (stored_found _ records s)

-- ---- the whole plan

module _ (t : List ℕ) (from m : ℕ) (marks records : List ℕ) where
  pub outcome_uncounted : {n p : ℕ} → claims_at t from ≡ refused n p → plan_reading t from m marks records ≡ refusal n p
  unfolding plan_reading plan_at with_room ◌then◌
  outcome_uncounted e = rw e refl

  module _ {claims : Claims} {p : ℕ} (head : claims_at t from ≡ found claims p) where
    abbrev plan : PrintedPlan
    plan = record { claims = claims; kept = (plan_lines_at t m p).kept; duals = (plan_lines_at t m p).duals }

    pub plan_outcome_refused : {n q : ℕ} → roomed (plan_lines_at t m p) m (length marks) (length records) ≡ refused n q → plan_reading t from m marks records ≡ refusal n q
    unfolding plan_reading plan_at with_room ◌then◌ roomed checked outcome
    plan_outcome_refused {n} {q} e = rw head (by_end (plan_lines_at t m p).end refl e)
      where
        by_end : (s : Step ℕ) → (plan_lines_at t m p).end ≡ s → (s then λ count next. checked (room_test m count (length marks) (length records)) count next) ≡ refused n q
            → with_room (s then λ count next. found plan next) m (length marks) (length records) ≡ refusal n q
        by_end (refused x y) b e = cc
        by_end (found count y) b e = by_room (room_test m count (length marks) (length records)) (ap (λ k. room_test m k (length marks) (length records)) (sym (body_whole t m p b).many)) e
          where
            by_room : (v : Verdict) → room_test m (length (plan_lines_at t m p).duals) (length marks) (length records) ≡ v → checked v count y ≡ refused n q → outcome (room_test m (length (plan_lines_at t m p).duals) (length marks) (length records)) plan ≡ refusal n q
            by_room Fine v e = let z : ◌≡◌ {A = ℕ} 0 1 = cc in absurd (omega arith)
            by_room (Refused x z) v e = rw v (cc)

    pub outcome_found : {v q : ℕ} → roomed (plan_lines_at t m p) m (length marks) (length records) ≡ found v q → (plan_reading t from m marks records ≡ answer plan) × (v ≡ length (plan_lines_at t m p).duals)
    unfolding plan_reading plan_at with_room ◌then◌ roomed checked outcome
    outcome_found {v} {q} e = rw head (by_end (plan_lines_at t m p).end refl e)
      where
        by_end : (s : Step ℕ) → (plan_lines_at t m p).end ≡ s → (s then λ count next. checked (room_test m count (length marks) (length records)) count next) ≡ found v q
            → (with_room (s then λ count next. found plan next) m (length marks) (length records) ≡ answer plan) × (v ≡ length (plan_lines_at t m p).duals)
        by_end (refused x y) b e = let z : ◌≡◌ {A = ℕ} 0 1 = cc in absurd (omega arith)
        by_end (found count y) b e = by_room (room_test m count (length marks) (length records)) (ap (λ k. room_test m k (length marks) (length records)) (sym (body_whole t m p b).many)) (body_whole t m p b).many e
          where
            by_room : (w : Verdict) → room_test m (length (plan_lines_at t m p).duals) (length marks) (length records) ≡ w → count ≡ length (plan_lines_at t m p).duals → checked w count y ≡ found v q
                → (outcome (room_test m (length (plan_lines_at t m p).duals) (length marks) (length records)) plan ≡ answer plan) × (v ≡ length (plan_lines_at t m p).duals)
            by_room Fine w n e = (rw w refl, (cc))
            by_room (Refused x z) w n e = let z : ◌≡◌ {A = ℕ} 0 1 = cc in absurd (omega arith)
