-- Marks and records that are drawn for a printed plan say to the checker what the printed ones say: the tracks marked 2 are kept, and whole records of bytes come back byte for byte.
use Rattle.std.specs.Prelude.{ℕ, zero, suc, ◌+◌, ◌*◌, ◌-◌, ◌/◌, ◌%◌, ◌≤◌, ◌<◌, ◌≡◌, refl, Bool, true, false, ◌||◌, cond, List, [], ◌∷◌, ◌++◌, length, get_or, take, drop, eqb}
use Rattle.std.proofs.Common.{arith, ap, ap₂, sym, ◌∙◌, subst, ⊎_elim, append_assoc, append-nil, length-drop, take-append-drop, length-take-le, take-add, take_all, eq-eqb, ne_eqb}
use Rattle.std.proofs.Math.Decide.{ℕ_discrete}
use Rattle.std.proofs.Math.Path.{fun_ext}
use Rattle.std.proofs.Math.ListN.{get_or-eq_default}
use Rattle.base_finite.specs.Below.{those_below, tabulate}
use Rattle.base_finite.specs.Laws.Below.{lt_or_ge, get_d_tabulate}
use Rattle.base_limits.specs.Limits.{value_bytes, member_bytes, record_bytes}
use Rattle.format_record.specs.Bits.{Bytes, bytes_of, low_bytes, number_of, member_at}
use Rattle.format_record.specs.Record.{record_of, value_in, member_in, record_at}
use Rattle.format_record.proofs.Laws.Bits.{bytes_cong, bytes_of_members}
use Rattle.format_record.proofs.Laws.Bytes.{low_of_number, bytes_part}
use Rattle.format_record.proofs.Laws.Record.{bytes_record_at}
use Rattle.format_write.specs.Text.{members_of}
use Rattle.base_limits.specs.Verdict.{answer}
use Rattle.theory_steiner.specs.Problem.{Joins, terminals, cost}
use Rattle.theory_steiner.specs.Dual.{total}
use Rattle.survey_core.specs.Survey.{Survey, edge_count, problem_of}
use Rattle.survey_core.specs.Sound.{ByteGroups}
use Rattle.check_rule.specs.Check.{Checked, duals_in, kept_by, checked_of, checking}
use Rattle.check_rule.specs.Passing.{Passing}
use Rattle.check_rule.proofs.Laws.Accuracy.{checking_passing}
use Rattle.format_plan.specs.Lines.{PrintedDual, is_in, dual_record}
use Rattle.format_plan.specs.Plan.{marks_of, dual_records}
use Rattle.format_plan.specs.WellFormed.{kept_in, printed_dual, printed_duals}
use Rattle.check_printed.specs.Laws.Verify.{length_marks}

-- ---- numbers in a list

in_append : (a b : List ℕ) (v : ℕ) → is_in (a ++ b) v ≡ (is_in a v || is_in b v)
unfolding is_in
in_append [] b v = refl
in_append (x ∷ a) b v = ap (λ t. eqb v x || t) (in_append a b v) ∙ by_head (eqb v x)
  where
    by_head : (h : Bool) → (h || (is_in a v || is_in b v)) ≡ ((h || is_in a v) || is_in b v)
    by_head true = refl
    by_head false = refl

-- The last of those below a bound, where it is one.
last_in_law : (n v : ℕ) (b : Bool) → v ≡ n → is_in (cond b (n ∷ []) []) v ≡ b
unfolding is_in
last_in_law n v true e = rw (eq-eqb v n e) refl
last_in_law n v false e = refl

last_out : (n v : ℕ) (b : Bool) → (v ≡ n → ⊥) → is_in (cond b (n ∷ []) []) v ≡ false
unfolding is_in
last_out n v true d = rw (ne_eqb v n d) refl
last_out n v false d = refl

-- Those below n have no other number among them.
those_past : (n : ℕ) (T : ℕ → Bool) (v : ℕ) → n ≤ v → is_in (those_below n T) v ≡ false
unfolding those_below is_in
those_past zero T v h = refl
those_past (suc n) T v h =
    in_append (those_below n T) (cond (T n) (n ∷ []) []) v ∙ ap₂ (λ s t. s || t) (those_past n T v (omega arith)) (last_out n v (T n) (λ e. omega arith))

-- Those below n are the numbers below n that pass the test.
pub those_in : (n : ℕ) (T : ℕ → Bool) (v : ℕ) → v < n → is_in (those_below n T) v ≡ T v
unfolding those_below
those_in zero T v h = absurd (omega arith)
those_in (suc n) T v h = in_append (those_below n T) (cond (T n) (n ∷ []) []) v ∙ by_number (ℕ_discrete v n) (λ l. those_in n T v l)
  where
    or_false : (b : Bool) → (b || false) ≡ b
    or_false true = refl
    or_false false = refl

    by_number : Dec (v ≡ n) → (v < n → is_in (those_below n T) v ≡ T v) → (is_in (those_below n T) v || is_in (cond (T n) (n ∷ []) []) v) ≡ T v
    by_number (yes e) ih = ap₂ (λ s t. s || t) (those_past n T v (omega arith)) (last_in_law n v (T n) e) ∙ ap T (sym e)
    by_number (no d) ih = ap₂ (λ s t. s || t) (ih (omega arith)) (last_out n v (T n) d) ∙ or_false (T v)

-- ---- marks

-- The marks that are drawn for listed tracks keep these tracks and no others.
kept_of_marks : (m : ℕ) (kept : List ℕ) (e : ℕ) → e < m → kept_by (marks_of m kept) e ≡ is_in kept e
unfolding kept_by marks_of
kept_of_marks m kept e h = ap (λ (x : ℕ). eqb x 2) (get_d_tabulate m (λ x. cond (is_in kept x) 2 0) e 0 h) ∙ by_in (is_in kept e)
  where
    by_in : (b : Bool) → eqb (cond b 2 0) 2 ≡ b
    by_in true = refl
    by_in false = refl

-- Marks drawn for the tracks that marks keep keep the same tracks.
pub kept_marks_same : (marks : List ℕ) → kept_by (marks_of (length marks) (kept_in marks)) ≡ kept_by marks
unfolding kept_in kept_by
kept_marks_same marks = fun_ext (λ e. ⊎_elim (inside e) (outside e) (lt_or_ge e (length marks)))
  where
    inside : (e : ℕ) → e < length marks → kept_by (marks_of (length marks) (kept_in marks)) e ≡ kept_by marks e
    inside e h = kept_of_marks (length marks) (kept_in marks) e h ∙ those_in (length marks) (kept_by marks) e h

    past : (l : List ℕ) (e : ℕ) → length l ≤ e → kept_by l e ≡ false
    past l e h = ap (λ (x : ℕ). eqb x 2) (get_or-eq_default l 0 h)

    outside : (e : ℕ) → length marks ≤ e → kept_by (marks_of (length marks) (kept_in marks)) e ≡ kept_by marks e
    outside e h = past (marks_of (length marks) (kept_in marks)) e (subst (λ (n : ℕ). n ≤ e) (sym (length_marks (length marks) (kept_in marks))) h) ∙ sym (past marks e h)

-- ---- records

-- The record of a record's moat is the record.
record_same : (r : List ℕ) → length r ≡ record_bytes → Bytes r → dual_record (printed_dual r) ≡ r
unfolding dual_record printed_dual record_of value_in members_of member_in
record_same r h k =
    let low : length (take value_bytes r) ≡ value_bytes = length-take-le value_bytes r (omega arith) in
    let high : length (drop value_bytes r) ≡ member_bytes = length-drop value_bytes r ∙ omega arith in
    let all : take member_bytes (drop value_bytes r) ≡ drop value_bytes r = take_all member_bytes (drop value_bytes r) (omega arith) in
    let value : low_bytes value_bytes (number_of (take value_bytes r)) ≡ take value_bytes r =
    ap (λ (n : ℕ). low_bytes n (number_of (take value_bytes r))) (sym low) ∙ low_of_number (take value_bytes r) (bytes_part value_bytes 0 r k) in
    let members : bytes_of member_bytes (is_in (members_of r)) ≡ drop value_bytes r =
    bytes_cong member_bytes (is_in (members_of r)) (member_in r) (λ v b. those_in (8 * member_bytes) (member_in r) v b)
    ∙ ap (λ (n : ℕ). bytes_of n (member_at (drop value_bytes r))) (sym high)
    ∙ bytes_of_members (drop value_bytes r) (subst Bytes all (bytes_part member_bytes value_bytes r k)) in
    ap₂ (λ (a b : List ℕ). a ++ b) value members ∙ take-append-drop value_bytes r

duals_append : (a b : List PrintedDual) → dual_records (a ++ b) ≡ dual_records a ++ dual_records b
unfolding dual_records
duals_append [] b = refl
duals_append (d ∷ a) b = ap (λ (l : List ℕ). dual_record d ++ l) (duals_append a b) ∙ sym (append_assoc (dual_record d) (dual_records a) (dual_records b))

records_upto : (records : List ℕ) → Bytes records → (n : ℕ) → record_bytes * n ≤ length records → dual_records (tabulate n (λ i. printed_dual (record_at records i))) ≡ take (record_bytes * n) records
unfolding tabulate dual_records record_at
records_upto records k zero h = refl
records_upto records k (suc n) h =
    let rest = length-drop (record_bytes * n) records in
    let whole : length (record_at records n) ≡ record_bytes = length-take-le record_bytes (drop (record_bytes * n) records) (omega arith) in
    let one = record_same (record_at records n) whole (bytes_record_at records n k) in
    let next : record_bytes * n + record_bytes ≡ record_bytes * suc n = omega arith in
    duals_append (tabulate n (λ i. printed_dual (record_at records i))) (printed_dual (record_at records n) ∷ [])
    ∙ ap₂ (λ (a b : List ℕ). a ++ b) (records_upto records k n (omega arith)) (append-nil (dual_record (printed_dual (record_at records n))) ∙ one)
    ∙ sym (take-add (record_bytes * n) record_bytes records)
    ∙ ap (λ (i : ℕ). take i records) next

-- Whole records of bytes are what their moats draw.
pub records_same : (records : List ℕ) → Bytes records → length records % record_bytes ≡ 0 → dual_records (printed_duals records) ≡ records
unfolding printed_duals
records_same records k h =
    records_upto records k (length records / record_bytes) (omega arith) ∙ take_all (record_bytes * (length records / record_bytes)) records (omega arith)

-- ---- the checker

marks_known : (m : ℕ) (kept : List ℕ) (e : ℕ) → e < m → get_or (marks_of m kept) e 0 ≤ 2
unfolding marks_of
marks_known m kept e h = subst (λ (x : ℕ). x ≤ 2) (sym (get_d_tabulate m (λ x. cond (is_in kept x) 2 0) e 0 h)) (by_in (is_in kept e))
  where
    by_in : (b : Bool) → cond b 2 0 ≤ 2
    by_in true = omega arith
    by_in false = omega arith

-- Other marks that keep the same tracks pass as well, with the same counts.
marks_pass : (s : Survey) → ByteGroups s → (marks marks' records : List ℕ) (c : Checked) → length marks' ≡ edge_count s → ((e : ℕ) → e < edge_count s → get_or marks' e 0 ≤ 2) → kept_by marks' ≡ kept_by marks
    → checking s marks records ≡ answer c → checking s marks' records ≡ answer c
unfolding checked_of
marks_pass s numbered marks marks' records c long known same h =
    let p = (checking_passing s numbered marks records).0 c h in
    let q : Passing s marks' records =
    record {
      survey = p.survey;
      marks_long = long;
      records_whole = p.records_whole;
      records_few = p.records_few;
      marks_known = known;
      duals_sound = p.duals_sound;
      duals_separate = p.duals_separate;
      not_overtight = p.not_overtight;
      kept_joins = subst (Joins (problem_of s)) (sym same) p.kept_joins;
      none_free = λ z. ap (cost (problem_of s)) same ∙ p.none_free z;
      rule = subst (λ (x : ℕ). terminals (problem_of s) * x ≤ (terminals (problem_of s) - 1) * total (duals_in records)) (sym (ap (cost (problem_of s)) same)) p.rule;
    } in
    (checking_passing s numbered marks' records).1 q
    ∙ ap (λ (x : ℕ). answer (record { terminals = terminals (problem_of s); cost = x; bound = total (duals_in records) })) (ap (cost (problem_of s)) same)
    ∙ sym ((checking_passing s numbered marks records).1 p)
    ∙ h

-- What is drawn for a printed plan passes if what was printed does, with the same counts.
pub drawn_passes : (s : Survey) → ByteGroups s → (marks records : List ℕ) (c : Checked) → Bytes records → checking s marks records ≡ answer c
    → checking s (marks_of (edge_count s) (kept_in marks)) (dual_records (printed_duals records)) ≡ answer c
drawn_passes s numbered marks records c bytes h =
    let p = (checking_passing s numbered marks records).0 c h in
    let kept : kept_by (marks_of (edge_count s) (kept_in marks)) ≡ kept_by marks = ap (λ (m : ℕ). kept_by (marks_of m (kept_in marks))) (sym p.marks_long) ∙ kept_marks_same marks in
    ap (checking s (marks_of (edge_count s) (kept_in marks))) (records_same records bytes p.records_whole)
    ∙ marks_pass s numbered marks (marks_of (edge_count s) (kept_in marks)) records c (length_marks (edge_count s) (kept_in marks)) (marks_known (edge_count s) (kept_in marks)) kept h
