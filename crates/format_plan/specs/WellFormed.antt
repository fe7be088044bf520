-- What a well-formed printed plan is (document 01, 'Survey text and printed plan'), which of them reading accepts, and the plan that marks and
-- records are.
use Rattle.std.specs.Prelude.{ℕ, ◌+◌, ◌≤◌, ◌<◌, ◌*◌, ◌/◌, ◌^◌, List, [], ◌∷◌, ◌++◌, ◌≡◌, eqb, length, take, get_or}
use Rattle.base_finite.specs.Below.{those_below, tabulate}
use Rattle.base_limits.specs.Limits.{max_duals, value_digits, member_digits, figure_digits, kept_digits, record_bytes, max_edges}
use Rattle.format_read.specs.Language.{Each}
use Rattle.format_read.specs.Lines.{text_of}
use Rattle.format_read.specs.Stands.{Stands}
use Rattle.format_write.specs.Key.{newline, colon, dual_key, kept_key}
use Rattle.format_read.specs.Number.{OfDigits}
use Rattle.format_plan.specs.Lines.{member_numbers, PrintedDual}
use Rattle.format_plan.specs.Plan.{Claims, PrintedPlan}
use Rattle.format_record.specs.Record.{value_in, record_at}
use Rattle.format_write.specs.Decimal.{decimal}
use Rattle.format_write.specs.Text.{line_of, listed, count_lines, members_of}

-- Tracks below m that rise, the first not below low.
pub data Rising (m : ℕ) : (low : ℕ) → List ℕ → Type 0 where
  ended : {low : ℕ} → Rising m low []
  rising : {low e : ℕ} {es : List ℕ} → low ≤ e → e < m → Rising m (e + 1) es → Rising m low (e ∷ es)

-- A moat whose numbers fit its line.
pub record DualDigits (d : PrintedDual) : Type 0 where
  pub value : OfDigits value_digits d.value
  pub members : Each (OfDigits member_digits) d.members

-- A moat line as it is printed.
unfoldable pub dual_text : PrintedDual → List ℕ
dual_text d = dual_key ++ decimal d.value ++ (colon ∷ []) ++ listed d.members ++ (newline ∷ [])

-- A moat that fits its line.
pub record Printed (d : PrintedDual) : Type 0 where
  pub small : OfDigits value_digits d.value
  pub rises : Rising member_numbers 0 d.members

-- Counts that fit their lines.
pub record ClaimDigits (c : Claims) : Type 0 where
  pub terminals : OfDigits figure_digits c.terminals
  pub cost : OfDigits figure_digits c.cost
  pub bound : OfDigits figure_digits c.bound
  pub rounds : OfDigits figure_digits c.rounds

unfoldable pub claims_text : Claims → List ℕ
claims_text c = count_lines c.terminals c.cost c.bound c.rounds

-- A plan as it is printed, and what makes it fit: counts within the digits of a figure, tracks that rise below m, moats that rise and are few.
unfoldable pub plan_words : PrintedPlan → List ℕ
plan_words p = claims_text p.claims ++ text_of (line_of kept_key) p.kept ++ text_of dual_text p.duals

pub record Printable (m : ℕ) (p : PrintedPlan) : Type 0 where
  pub few : ClaimDigits p.claims
  pub kept : Rising m 0 p.kept
  pub duals : Each Printed p.duals
  pub count : length p.duals ≤ max_duals

-- A well-formed plan: any counts, tracks, amounts and members of at most so many digits, whether or not they rise or pass their limits.
pub record WellFormedPlan (p : PrintedPlan) : Type 0 where
  pub few : ClaimDigits p.claims
  pub kept : Each (OfDigits kept_digits) p.kept
  pub duals : Each DualDigits p.duals

-- The bytes before an offset go on to a text that ends with a well-formed plan.
pub record PlanBegins (t : List ℕ) (at q : ℕ) : Type 0 where
  pub after : at ≤ q
  pub inside : q ≤ length t
  pub rest : List ℕ
  pub plan : PrintedPlan
  pub well : WellFormedPlan plan
  pub whole : take q t ++ rest ≡ take at t ++ plan_words plan

-- A plan that is printed from an offset of a text to its end.
pub record Rendering (t : List ℕ) (m at : ℕ) (p : PrintedPlan) (q : ℕ) : Type 0 where
  pub printable : Printable m p
  pub stands : Stands t at (plan_words p)
  pub ends : at + length (plan_words p) ≡ length t
  pub next : q ≡ length t

-- Marks and records with room for a plan of m tracks.
pub record RoomFor (m : ℕ) (p : PrintedPlan) (marks records : List ℕ) : Type 0 where
  pub tracks : m ≤ length marks
  pub duals : record_bytes * length p.duals ≤ length records

-- A plan of m tracks keeps at most m, and has no more moats, and they no more members, than the limits allow.
pub record FewParts (m : ℕ) (p : PrintedPlan) : Type 0 where
  pub kept : length p.kept ≤ m
  pub duals : length p.duals ≤ max_duals
  pub members : Each (λ d. length d.members ≤ member_numbers) p.duals

-- The tracks that marks keep, rising.
unfoldable pub kept_in : List ℕ → List ℕ
kept_in marks = those_below (length marks) (λ e. eqb (get_or marks e 0) 2)

-- A record's moat, and those of all whole records.
unfoldable pub printed_dual : List ℕ → PrintedDual
printed_dual r = record { value = value_in r; members = members_of r }

unfoldable pub printed_duals : List ℕ → List PrintedDual
printed_duals records = tabulate (length records / record_bytes) (λ i. printed_dual (record_at records i))

unfoldable pub plan_in : Claims → (marks records : List ℕ) → PrintedPlan
plan_in claims marks records = record { claims = claims; kept = kept_in marks; duals = printed_duals records }

-- What a printed plan is asked: counts within the digits of a figure, tracks and moats within the limits, amounts within their digits.
pub record PrintFits (claims : Claims) (marks records : List ℕ) : Type 0 where
  pub few : ClaimDigits claims
  pub tracks : length marks ≤ max_edges
  pub duals : length records / record_bytes ≤ max_duals
  pub values : (i : ℕ) → i < length records / record_bytes → value_in (record_at records i) < 10 ^ value_digits
