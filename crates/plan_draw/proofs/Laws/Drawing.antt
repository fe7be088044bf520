-- Laws of records in a buffer: lengths, reading back, and one record or one dual more. The code of drawing, the planner and the checker's laws use them.
use Rattle.std.specs.Prelude.{ℕ, zero, suc, ◌+◌, ◌*◌, ◌-◌, ◌≤◌, ◌<◌, ◌≡◌, refl, Bool, false, List, [], ◌∷◌, ◌++◌, length, get_or, take, drop}
use Rattle.std.proofs.Common.{arith, add-one, one-add, ap, ap₂, sym, ◌∙◌, append_assoc, append-nil, length-append, length-drop, take-append-drop, take_at, drop_at, drop-drop, lt-ltb}
use Rattle.std.proofs.Math.Nat.{add-sub_cancel_left}
use Rattle.std.proofs.Math.Decide.{ℕ_discrete}
use Rattle.base_limits.specs.Limits.{record_bytes}
use Rattle.format_record.specs.Bits.{Bytes}
use Rattle.format_record.specs.Record.{record_of, record_at}
use Rattle.format_record.proofs.Laws.Bytes.{bytes_append}
use Rattle.format_record.proofs.Laws.Record.{length_record, bytes_record, record_at_first, record_at_right}
use Rattle.theory_steiner.specs.Dual.{Dual}
use Rattle.plan_draw.specs.Drawing.{records_of, records_over, records_from, dual_if, duals_below, DualsWritten, RecordsFit}

-- ---- records of a list of duals

-- What stands at a place past the end.
abbrev pub nothing : Dual
nothing = record { value = 0; holds = λ v. false }

pub length_records : (ds : List Dual) → length (records_of ds) ≡ record_bytes * length ds
unfolding records_of
length_records [] = refl
length_records (d ∷ ds) =
    omega (arith, length-append (record_of d.value d.holds) (records_of ds), length_record d.value d.holds, length_records ds)

-- They are bytes.
pub bytes_records : (ds : List Dual) → Bytes (records_of ds)
unfolding records_of
bytes_records [] i = omega arith
bytes_records (d ∷ ds) i = bytes_append (record_of d.value d.holds) (records_of ds) (bytes_record d.value d.holds) (bytes_records ds) i

pub record_at_law : (ds : List Dual) (i : ℕ) → i < length ds → record_at (records_of ds) i ≡ record_of (get_or ds i nothing).value (get_or ds i nothing).holds
unfolding records_of
record_at_law [] i b = absurd (omega arith)
record_at_law (d ∷ ds) zero b = record_at_first (record_of d.value d.holds) (records_of ds) (length_record d.value d.holds)
record_at_law (d ∷ ds) (suc i) b =
    ap (record_at (record_of d.value d.holds ++ records_of ds)) (sym (one-add i))
    ∙ record_at_right 1 (record_of d.value d.holds) (records_of ds) i (length_record d.value d.holds ∙ refl)
    ∙ record_at_law ds i (omega arith)

records_append : (ds es : List Dual) → records_of (ds ++ es) ≡ records_of ds ++ records_of es
unfolding records_of
records_append [] es = refl
records_append (d ∷ ds) es = rw (records_append ds es) (sym (append_assoc (record_of d.value d.holds) (records_of ds) (records_of es)))

-- ---- records over a buffer

length_over : (ds : List Dual) (old : List ℕ) → record_bytes * length ds ≤ length old → length (records_over ds old) ≡ length old
unfolding records_over
length_over ds old fits =
    omega (
      arith,
      length-append (records_of ds) (drop (record_bytes * length ds) old),
      length_records ds,
      length-drop (record_bytes * length ds) old,
    )

-- Records after those that stand there already.
over_more : (ds es : List Dual) (old : List ℕ) → records_from (length ds) es (records_over ds old) ≡ records_over (ds ++ es) old
unfolding records_from records_over
over_more ds es old =
    let k : ℕ = record_bytes * length ds in
    let first : take k (records_of ds ++ drop k old) ≡ records_of ds = take_at (records_of ds) (drop k old) k (length_records ds) in
    let rest : drop k (records_of ds ++ drop k old) ≡ drop k old = drop_at (records_of ds) (drop k old) k (length_records ds) in
    let next : drop (record_bytes * length es) (drop k old) ≡ drop (k + record_bytes * length es) old = drop-drop (record_bytes * length es) k old in
    let all : k + record_bytes * length es ≡ record_bytes * length (ds ++ es) = omega (arith, length-append ds es) in
    rw (first, rest, next, all, records_append ds es) (sym (append_assoc (records_of ds) (records_of es) (drop (record_bytes * length (ds ++ es)) old)))

-- No record more.
pub from_none : (k : ℕ) (old : List ℕ) → old ≡ records_from k [] old
unfolding records_from records_over records_of
from_none k old = sym (take-append-drop (record_bytes * k) old)

-- One record more, put in the place of its part of the buffer.
pub from_one : (k : ℕ) (d : Dual) (old : List ℕ) {new : List ℕ} → new ≡ record_of d.value d.holds →
    take (record_bytes * k) old ++ (new ++ drop (record_bytes * k + record_bytes - record_bytes * k) (drop (record_bytes * k) old)) ≡ records_from k (d ∷ []) old
unfolding records_from records_over records_of
from_one k d old h = rw (h, add-sub_cancel_left (record_bytes * k) record_bytes, append-nil (record_of d.value d.holds))

-- ---- duals

pub dual_none : (x : ℕ) (S : ℕ → Bool) → x ≡ 0 → dual_if x S ≡ []
unfolding dual_if
dual_none x S h = rw h

pub dual_one : (x : ℕ) (S : ℕ → Bool) → (x ≡ 0 → ⊥) → dual_if x S ≡ record { value = x; holds = S } ∷ []
unfolding dual_if
dual_one x S h = rw (lt-ltb 0 x (omega arith))

length_dual : (x : ℕ) (S : ℕ → Bool) → length (dual_if x S) ≤ 1
length_dual x S = by (ℕ_discrete x 0)
  where
    by : Dec (x ≡ 0) → length (dual_if x S) ≤ 1
    by (yes e) = rw (dual_none x S e) (omega arith)
    by (no d) = rw (dual_one x S d) (omega arith)

-- There are no more duals than component numbers.
pub length_duals : (value : ℕ → ℕ) (holds : ℕ → ℕ → Bool) (c : ℕ) → length (duals_below value holds c) ≤ c
unfolding duals_below
length_duals value holds zero = omega arith
length_duals value holds (suc c) = simp length-append (omega (arith, length_dual (value c) (holds c), length_duals value holds c))

-- ---- drawing

pub written_none : (value : ℕ → ℕ) (holds : ℕ → ℕ → Bool) (old : List ℕ) → DualsWritten (duals_below value holds 0) old old 0
unfolding duals_below records_over records_of
written_none value holds old = record { count_is = refl; records_are = refl }

-- The dual of the next component number, whatever the code calls its value and its members.
pub written_more : (value : ℕ → ℕ) (holds : ℕ → ℕ → Bool) (c : ℕ) {x : ℕ} {S : ℕ → Bool} {old mid new : List ℕ} {k count : ℕ} → x ≡ value c → S ≡ holds c →
    DualsWritten (duals_below value holds c) old mid k → count ≡ k + length (dual_if x S) → new ≡ records_from k (dual_if x S) mid →
    DualsWritten (duals_below value holds (c + 1)) old new count
unfolding duals_below
written_more value holds c {x} {S} {old} {mid} {new} {k} e f d a b =
    let ds = duals_below value holds c in
    let es = dual_if (value c) (holds c) in
    let same : dual_if x S ≡ es = ap₂ dual_if e f in
    rw (add-one c)
    (record {
      count_is = simp length-append (omega (arith, d.count_is, ap length same));
      records_are = b ∙ ap (λ l. records_from k l mid) same ∙ rw (d.count_is, d.records_are) (over_more ds es old);
    })

-- The loop has come to the end.
pub written_end : (value : ℕ → ℕ) (holds : ℕ → ℕ → Bool) {i n : ℕ} {old new : List ℕ} {count : ℕ} → i ≤ n → n ≤ i → DualsWritten (duals_below value holds i) old new count →
    DualsWritten (duals_below value holds n) old new count
written_end value holds {i} {n} b c d = let e : i ≡ n = omega arith in rw e at d

pub written_length : (value : ℕ → ℕ) (holds : ℕ → ℕ → Bool) (c : ℕ) {old new : List ℕ} {count : ℕ} → record_bytes * c ≤ length old →
    DualsWritten (duals_below value holds c) old new count → length new ≡ length old
written_length value holds c {old} room d =
    ap length d.records_are ∙ length_over (duals_below value holds c) old (omega (arith, length_duals value holds c))

-- There is room for one dual more.
pub written_fits : (value : ℕ → ℕ) (holds : ℕ → ℕ → Bool) (m c : ℕ) {old new : List ℕ} {count : ℕ} → record_bytes * m ≤ length old → c < m →
    DualsWritten (duals_below value holds c) old new count → RecordsFit (count + 1) new
written_fits value holds m c {old} room b d =
    record { room = omega (arith, written_length value holds c (omega arith) d, d.count_is, length_duals value holds c) }
