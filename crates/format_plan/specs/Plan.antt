-- Reading a printed plan (document 01, 'Survey text and printed plan'): the counts, the kept tracks rising, the moats. The earliest finding
-- wins; 7, for a buffer that is short, comes after all others.
use Rattle.std.specs.Prelude.{ℕ, zero, suc, ◌*◌, ◌/◌, ◌||◌, cond, List, [], ◌∷◌, ◌++◌, length, set, drop, ltb}
use Rattle.format_read.specs.Number.{number_line}
use Rattle.base_finite.specs.Below.{tabulate}
use Rattle.base_limits.specs.Limits.{record_bytes, figure_digits}
use Rattle.base_limits.specs.Verdict.{refuse_if, Outcome, refusal, answer, outcome}
use Rattle.base_limits.specs.declared.Verdict.{Verdict}
use Rattle.format_write.specs.Key.{terminals_key, cost_key, bound_key, rounds_key}
use Rattle.format_read.specs.Step.{Step, found, refused, ◌then◌, checked}
use Rattle.format_read.specs.Lines.{lines_after}
use Rattle.format_plan.specs.Lines.{kept_at, PrintedDual, duals_at, is_in, dual_record}

-- The counts that a plan claims: sites, cost and bound; and its rounds, which nothing decides.
pub record Claims : Type 0 where
  pub terminals : ℕ
  pub cost : ℕ
  pub bound : ℕ
  pub rounds : ℕ

unfoldable pub claims_at : List ℕ → (at : ℕ) → Step Claims
claims_at t at =
    number_line terminals_key figure_digits t at then λ k a.
    number_line cost_key figure_digits t a then λ c b.
    number_line bound_key figure_digits t b then λ y d.
    number_line rounds_key figure_digits t d then λ r e.
    found (record { terminals = k; cost = c; bound = y; rounds = r }) e

-- What a printed plan says.
pub record PrintedPlan : Type 0 where
  pub claims : Claims
  pub kept : List ℕ
  pub duals : List PrintedDual

-- The lines after the counts, up to the first refusal; where they end, with the number of moats.
pub record PlanLines : Type 0 where
  pub kept : List ℕ
  pub duals : List PrintedDual
  pub end : Step ℕ

unfoldable pub plan_lines_at : List ℕ → (m at : ℕ) → PlanLines
plan_lines_at t m at =
    let ks = kept_at t m at in
    let ds = lines_after ks.end (duals_at t) in
    record { kept = ks.values; duals = ds.values; end = ds.end }

unfoldable pub plan_at : List ℕ → (m at : ℕ) → Step PrintedPlan
plan_at t m at =
    claims_at t at then λ claims p.
    let body = plan_lines_at t m p in
    body.end then λ count q. found (record { claims = claims; kept = body.kept; duals = body.duals }) q

-- ---- marks and records

-- Marks of m tracks: 2 where the track is kept, otherwise 0.
unfoldable pub marks_of : (m : ℕ) (kept : List ℕ) → List ℕ
marks_of m kept = tabulate m (λ e. cond (is_in kept e) 2 0)

unfoldable pub dual_records : List PrintedDual → List ℕ
dual_records [] = []
dual_records (d ∷ ds) = dual_record d ++ dual_records ds

-- 7 where a buffer is short, once the text is read: m marks and a record for each moat are wanted.
unfoldable pub room_test : (m count marks records : ℕ) → Verdict
room_test m count marks records = refuse_if (ltb marks m || ltb (records / record_bytes) count) 7 0

-- Where the lines after the counts end, once there is room for what they say.
unfoldable pub roomed : PlanLines → (m marks records : ℕ) → Step ℕ
roomed b m marks records = b.end then λ count next. checked (room_test m count marks records) count next

unfoldable pub with_room : Step PrintedPlan → (m : ℕ) (marks records : ℕ) → Outcome PrintedPlan
with_room (found plan next) m marks records = outcome (room_test m (length plan.duals) marks records) plan
with_room (refused number place) m marks records = refusal number place

-- Reading a printed plan of m tracks from an offset of a text on; of the lent buffers only the lengths matter.
unfoldable pub plan_reading : (t : List ℕ) (from m : ℕ) (marks records : List ℕ) → Outcome PrintedPlan
plan_reading t from m marks records = with_room (plan_at t m from) m (length marks) (length records)

-- What the lent buffers hold at the end: a refusal writes nothing, and bytes behind what is written keep their values.
unfoldable pub marks_read : Outcome PrintedPlan → (m : ℕ) (marks : List ℕ) → List ℕ
marks_read (refusal number place) m marks = marks
marks_read (answer plan) m marks = marks_of m plan.kept ++ drop m marks

unfoldable pub records_read : Outcome PrintedPlan → (records : List ℕ) → List ℕ
records_read (refusal number place) records = records
records_read (answer plan) records = dual_records plan.duals ++ drop (record_bytes * length plan.duals) records

-- The first m marks set to 0, one after another.
unfoldable pub cleared : (m : ℕ) → List ℕ → List ℕ
cleared zero marks = marks
cleared (suc m) marks = set (cleared m marks) m 0
