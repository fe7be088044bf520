-- The lines of a printed plan (document 01, 'Survey text and printed plan'): a key with a number, the kept tracks rising, the moats; and what
-- storing them leaves in a buffer. A finding is 16 at the first offset whose byte no well-formed plan has there; 26 where a kept track is no
-- track or does not rise; 27 where a moat's members are no members or do not rise; 28 for a moat too many.
use Rattle.std.specs.Prelude.{ℕ, zero, suc, ◌+◌, ◌*◌, ◌/◌, Bool, false, not, ◌&&◌, ◌||◌, cond, List, [], ◌∷◌, length, set, eqb, ltb, leb}
use Rattle.std.proofs.lemmas.List.Edits.{sets}
use Rattle.base_limits.specs.Limits.{member_bytes, record_bytes, max_duals, kept_digits, value_digits, member_digits}
use Rattle.base_limits.specs.Verdict.{refuse_if, ◌before◌}
use Rattle.base_limits.specs.declared.Verdict.{Verdict}
use Rattle.format_record.specs.Record.{record_of, with_member_in}
use Rattle.format_write.specs.Key.{kept_key, dual_key, colon, comma, newline}
use Rattle.format_read.specs.Step.{Step, found, ◌then◌, checked}
use Rattle.format_read.specs.Lines.{Lines}
use Rattle.format_read.specs.Bytes.{byte_is, fixed_at}
use Rattle.format_read.specs.Number.{keep_letter, number_at, number_line}
use Rattle.format_read.specs.Items.{ItemReader, items_from}

-- members lie below this
abbrev pub member_numbers : ℕ
member_numbers = 8 * member_bytes

-- 26 at keep line i, where no kept track lies below low and m is the number of tracks.
unfoldable pub kept_test : (m low i e : ℕ) → Verdict
kept_test m low i e = refuse_if (ltb e low || leb m e) 26 i

unfoldable pub keep_line : List ℕ → (m low i at : ℕ) → Step ℕ
keep_line t m low i at = number_line kept_key kept_digits t at then λ e p. checked (kept_test m low i e) e p

-- Keep lines stand as long as a line begins like one.
unfoldable pub keep_reader : List ℕ → (m : ℕ) → ItemReader ℕ ℕ
keep_reader t m = record { stop = λ at. not (byte_is t at keep_letter); item = keep_line t m; after = λ low e. e + 1 }

unfoldable pub kept_at : List ℕ → (m at : ℕ) → Lines ℕ ℕ
kept_at t m at = items_from (keep_reader t m) (length t) 0 0 at

-- The comma before a member that is not the first.
unfoldable pub separator : (i : ℕ) → List ℕ
separator zero = []
separator (suc i) = comma ∷ []

unfoldable pub member_step : List ℕ → (low i at : ℕ) → Step ℕ
member_step t low i at = fixed_at (separator i) t at then λ z p. number_at member_digits t p

-- The lowest member that may follow v, where low was the lowest that might stand here; past all members once one is none or does not rise.
unfoldable pub risen : (low v : ℕ) → ℕ
risen low v = cond (leb low v && ltb v member_numbers) (v + 1) (member_numbers + 1)

-- Members end where their line does.
unfoldable pub member_reader : List ℕ → ItemReader ℕ ℕ
member_reader t = record { stop = λ at. byte_is t at newline; item = member_step t; after = risen }

unfoldable pub members_at : List ℕ → (at : ℕ) → Lines ℕ ℕ
members_at t at = items_from (member_reader t) (length t) 0 0 at

-- A moat as it is printed: the amount and the members.
pub record PrintedDual : Type 0 where
  pub value : ℕ
  pub members : List ℕ

-- 27, then 28, at moat line i.
unfoldable pub dual_test : (i low : ℕ) → Verdict
dual_test i low = refuse_if (ltb member_numbers low) 27 i before refuse_if (leb max_duals i) 28 i

-- The amount, and where the members begin.
unfoldable pub dual_head : List ℕ → (at : ℕ) → Step ℕ
dual_head t at =
    fixed_at dual_key t at then λ z a.
    number_at value_digits t a then λ amount b.
    fixed_at (colon ∷ []) t b then λ y c.
    found amount c

-- The moat whose members stand at an offset.
abbrev pub listed_dual : List ℕ → (amount at : ℕ) → PrintedDual
listed_dual t amount at = record { value = amount; members = (members_at t at).values }

unfoldable pub dual_line_at : List ℕ → (i at : ℕ) → Step PrintedDual
dual_line_at t i at =
    dual_head t at then λ amount c.
    (members_at t c).end then λ low d.
    checked (dual_test i low) (listed_dual t amount c) (d + 1)

-- Moat lines stand to the end of the text; the number after them is how many there are.
unfoldable pub dual_reader : List ℕ → ItemReader ℕ PrintedDual
dual_reader t = record { stop = λ at. leb (length t) at; item = λ low i at. dual_line_at t i at; after = λ low d. low + 1 }

unfoldable pub duals_at : List ℕ → (at : ℕ) → Lines ℕ PrintedDual
duals_at t at = items_from (dual_reader t) (length t) 0 0 at

-- ---- records

unfoldable pub is_in : List ℕ → ℕ → Bool
is_in [] v = false
is_in (x ∷ xs) v = eqb v x || is_in xs v

unfoldable pub dual_record : PrintedDual → List ℕ
dual_record d = record_of d.value (is_in d.members)

-- ---- one store after another, as the reading does it

abbrev pub put_mark : List ℕ → ℕ → ℕ → List ℕ
put_mark marks i e = set marks e 2

abbrev pub put_member : List ℕ → ℕ → ℕ → List ℕ
put_member part i v = with_member_in part v

-- Record i, where the buffer has room for it.
unfoldable pub put_dual : List ℕ → ℕ → PrintedDual → List ℕ
put_dual records i d = cond (ltb i (length records / record_bytes)) (sets records (record_bytes * i) (dual_record d)) records
