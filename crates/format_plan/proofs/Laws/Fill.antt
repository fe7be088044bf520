-- What the stores of a whole plan leave in the lent buffers: the marks and the records that the definition draws.
use Rattle.std.specs.Prelude.{ℕ, zero, suc, ◌+◌, ◌*◌, ◌-◌, ◌/◌, ◌≤◌, ◌<◌, ◌≡◌, refl, Bool, true, false, ◌||◌, cond, List, [], ◌∷◌, ◌++◌, length, get_or, set, drop, replicate, eqb, ltb}
use Rattle.std.proofs.Common.{arith, add-one, ap, sym, subst, ◌∙◌, append_assoc, length-set, length-append, length-drop, ext_get_or, get_or-set_same, get_or-set_other, take_at, drop-drop, get_or-append-add, get_or-drop, ltb-true, ltb-false, eqb-true, ne_eqb, lt-ltb, le-ltb}
use Rattle.std.proofs.Math.ListN.{get_or-append}
use Rattle.std.proofs.Math.Seq.{drop-append-add}
use Rattle.std.proofs.lemmas.Bool.{eqb-false}
use Rattle.std.proofs.lemmas.List.Edits.{fill_more}
use Rattle.base_finite.specs.Below.{tabulate}
use Rattle.base_finite.specs.Laws.Below.{length_tabulate, get_d_tabulate}
use Rattle.base_limits.specs.Limits.{record_bytes}
use Rattle.format_read.specs.Step.{Step, found, refused}
use Rattle.format_read.specs.Items.{items_from, puts}
use Rattle.format_read.specs.Language.{Each, none, more}
use Rattle.format_read.specs.Lines.{following}
use Rattle.format_plan.specs.Lines.{keep_reader, kept_at, dual_reader, duals_at, PrintedDual, is_in, dual_record, put_mark, put_dual}
use Rattle.format_plan.specs.Plan.{marks_of, dual_records, cleared}
use Rattle.format_read.proofs.Laws.Items.{puts_length}
use Rattle.format_plan.proofs.Laws.Puts.{mark_length}
use Rattle.format_plan.proofs.Laws.Lines.{keep_passed, length_dual_record, dual_put_law}

-- ---- what the lines hold

-- Every kept track is below m.
items_kept : (t : List ℕ) (m fuel low i at : ℕ) → Each (λ e. e < m) (items_from (keep_reader t m) fuel low i at).values
unfolding items_from following keep_reader
items_kept t m zero low i at = none
items_kept t m (suc fuel) low i at = by_stop ((keep_reader t m).stop at) ((keep_reader t m).item low i at) refl (λ l k. items_kept t m fuel l (i + 1) k)
  where
    by_stop : (b : Bool) (s : Step ℕ) → (keep_reader t m).item low i at ≡ s → ((l k : ℕ) → Each (λ e. e < m) (items_from (keep_reader t m) fuel l (i + 1) k).values)
        → Each (λ e. e < m) (cond b (record { values = []; end = found low at }) (following s (λ e next. items_from (keep_reader t m) fuel (e + 1) (i + 1) next))).values
    by_stop true s q ih = none
    by_stop false (found e next) q ih = more (keep_passed t m low i at q).below (ih (e + 1) next)
    by_stop false (refused x y) q ih = none

pub kept_below : (t : List ℕ) (m at : ℕ) → Each (λ e. e < m) (kept_at t m at).values
unfolding kept_at
kept_below t m at = items_kept t m (length t) 0 0 at

-- The number behind the moats is how many there are.
items_count : (t : List ℕ) (fuel low i at : ℕ) {n p : ℕ} → (items_from (dual_reader t) fuel low i at).end ≡ found n p → n ≡ low + length (items_from (dual_reader t) fuel low i at).values
unfolding items_from following dual_reader
items_count t zero low i at e = let z : ◌≡◌ {A = ℕ} 0 1 = cc in absurd (omega arith)
items_count t (suc fuel) low i at {n} {p} e = by_stop ((dual_reader t).stop at) ((dual_reader t).item low i at) (λ l k e. items_count t fuel l (i + 1) k e) e
  where
    by_stop : (b : Bool) (s : Step PrintedDual) → ((l k : ℕ) → (items_from (dual_reader t) fuel l (i + 1) k).end ≡ found n p → n ≡ l + length (items_from (dual_reader t) fuel l (i + 1) k).values)
        → (cond b (record { values = []; end = found low at }) (following s (λ d next. items_from (dual_reader t) fuel (low + 1) (i + 1) next))).end ≡ found n p
        → n ≡ low + length (cond b (record { values = []; end = found low at }) (following s (λ d next. items_from (dual_reader t) fuel (low + 1) (i + 1) next))).values
    by_stop true s ih e = let same : low ≡ n = cc in omega arith
    by_stop false (found d next) ih e = omega (arith, ih (low + 1) next e)
    by_stop false (refused x y) ih e = let z : ◌≡◌ {A = ℕ} 0 1 = cc in absurd (omega arith)

pub duals_counted : (t : List ℕ) (at : ℕ) {n p : ℕ} → (duals_at t at).end ≡ found n p → n ≡ length (duals_at t at).values
unfolding duals_at
duals_counted t at e = omega (arith, items_count t (length t) 0 0 at e)

-- ---- marks

pub cleared_length : (m : ℕ) (marks : List ℕ) → length (cleared m marks) ≡ length marks
unfolding cleared
cleared_length zero marks = refl
cleared_length (suc m) marks = length-set (cleared m marks) m 0 ∙ cleared_length m marks

pub cleared_next : (marks : List ℕ) (m : ℕ) → set (cleared m marks) m 0 ≡ cleared (m + 1) marks
unfolding cleared
cleared_next marks m = rw (add-one m)

-- The first marks filled with 0.
pub cleared_filled : (m : ℕ) (marks : List ℕ) → m ≤ length marks → replicate m 0 ++ drop m marks ≡ cleared m marks
unfolding cleared
cleared_filled zero marks h = refl
cleared_filled (suc m) marks h =
    subst (λ (n : ℕ). replicate n 0 ++ drop n marks ≡ cleared n marks) (add-one m)
    (sym (fill_more m 0 marks h) ∙ ap (λ l. set l m 0) (cleared_filled m marks (omega arith)) ∙ cleared_next marks m)

-- The same of a part of the marks, as a caller of `fill` has it.
pub cleared_part : (m k : ℕ) (marks part : List ℕ) → k ≡ m → m ≤ length marks → part ≡ replicate k 0 → part ++ drop (m - 0) (drop 0 marks) ≡ cleared m marks
cleared_part m k marks part same h filled =
    ap (λ l. l ++ drop (m - 0) (drop 0 marks)) (filled ∙ ap (λ n. replicate n 0) same) ∙ ap (λ n. replicate m 0 ++ drop n marks) (omega arith) ∙ cleared_filled m marks h

marks_at : (marks : List ℕ) (i : ℕ) (es : List ℕ) → Each (λ e. e < length marks) es → (e : ℕ) → get_or (puts put_mark marks i es) e 0 ≡ cond (is_in es e) 2 (get_or marks e 0)
unfolding puts is_in
marks_at marks i [] none e = refl
marks_at marks i (x ∷ es) (more h hs) e =
    marks_at (set marks x 2) (i + 1) es (rw (mark_length marks i x) hs) e
    ∙ by_same (eqb e x) (is_in es e) refl
  where
    by_same : (b s : Bool) → eqb e x ≡ b → cond s 2 (get_or (set marks x 2) e 0) ≡ cond (b || s) 2 (get_or marks e 0)
    by_same true true q = refl
    by_same true false q = rw (eqb-true e x q) (get_or-set_same marks x 2 0 h)
    by_same false true q = refl
    by_same false false q = get_or-set_other marks x e 2 0 (eqb-false e x q)

cleared_at : (m : ℕ) (marks : List ℕ) → m ≤ length marks → (e : ℕ) → get_or (cleared m marks) e 0 ≡ cond (ltb e m) 0 (get_or marks e 0)
unfolding cleared
cleared_at zero marks h e = let z : 0 ≤ e = omega arith in rw (le-ltb e 0 z)
cleared_at (suc m) marks h e = by_place (eqb e m) (ltb e m) refl refl (cleared_at m marks (omega arith) e)
  where
    l : m < length (cleared m marks)
    l = omega (arith, cleared_length m marks)

    by_place : (b s : Bool) → eqb e m ≡ b → ltb e m ≡ s → get_or (cleared m marks) e 0 ≡ cond (ltb e m) 0 (get_or marks e 0) → get_or (set (cleared m marks) m 0) e 0 ≡ cond (ltb e (suc m)) 0 (get_or marks e 0)
    by_place true s q r ih =
        let same : e ≡ m = eqb-true e m q in
        let below : e < suc m = omega arith in
        rw (lt-ltb e (suc m) below, same) (get_or-set_same (cleared m marks) m 0 0 l)
    by_place false true q r ih =
        let k = ltb-true e m r in
        let below : e < suc m = omega arith in
        rw (lt-ltb e (suc m) below) (get_or-set_other (cleared m marks) m e 0 0 (eqb-false e m q) ∙ rw r at ih)
    by_place false false q r ih =
        let k = ltb-false e m r in
        let o = eqb-false e m q in
        let past : suc m ≤ e = omega arith in
        rw (le-ltb e (suc m) past) (get_or-set_other (cleared m marks) m e 0 0 o ∙ rw r at ih)

not_in : (m : ℕ) (es : List ℕ) → Each (λ e. e < m) es → (e : ℕ) → m ≤ e → is_in es e ≡ false
unfolding is_in
not_in m [] none e k = refl
not_in m (x ∷ es) (more h hs) e k = let n : e ≡ x → ⊥ = λ z. omega arith in rw (ne_eqb e x n) (not_in m es hs e k)

pub marks_filled : (m : ℕ) (marks es : List ℕ) → m ≤ length marks → Each (λ e. e < m) es → puts put_mark (cleared m marks) 0 es ≡ marks_of m es ++ drop m marks
unfolding marks_of
marks_filled m marks es h each =
    ext_get_or 0 (puts put_mark (cleared m marks) 0 es) (tabulate m f ++ drop m marks) (omega (arith, la, lb, lc)) (λ e b. marks_at (cleared m marks) 0 es (inside es each) e ∙ ap (cond (is_in es e) 2) (cleared_at m marks h e) ∙ by_place e (ltb e m) refl)
  where
    f : ℕ → ℕ
    f e = cond (is_in es e) 2 0

    la : length (puts put_mark (cleared m marks) 0 es) ≡ length marks
    la = puts_length put_mark mark_length (cleared m marks) 0 es ∙ cleared_length m marks

    lb : length (tabulate m f ++ drop m marks) ≡ m + (length marks - m)
    lb = length-append (tabulate m f) (drop m marks) ∙ rw (length_tabulate m f, length-drop m marks)

    lc : m ≤ length marks
    lc = h

    inside : (l : List ℕ) → Each (λ e. e < m) l → Each (λ e. e < length (cleared m marks)) l
    inside [] none = none
    inside (x ∷ l) (more k ks) = let b : x < length (cleared m marks) = omega (arith, cleared_length m marks) in more {a = x} b (inside l ks)

    by_place : (e : ℕ) (b : Bool) → ltb e m ≡ b → cond (is_in es e) 2 (cond (ltb e m) 0 (get_or marks e 0)) ≡ get_or (tabulate m f ++ drop m marks) e 0
    by_place e true q =
        let k = ltb-true e m q in
        let n : e < length (tabulate m f) = omega (arith, length_tabulate m f) in
        rw q (sym (get_or-append (tabulate m f) (drop m marks) 0 e n ∙ get_d_tabulate m f e 0 k))
    by_place e false q =
        let k = ltb-false e m q in
        let at : e ≡ length (tabulate m f) + (e - m) = omega (arith, length_tabulate m f) in
        let back : m + (e - m) ≡ e = omega arith in
        rw q (ap (λ (b : Bool). cond b 2 (get_or marks e 0)) (not_in m es each e k) ∙ sym (ap (λ x. get_or (tabulate m f ++ drop m marks) x 0) at ∙ get_or-append-add (tabulate m f) (drop m marks) (e - m) 0 ∙ get_or-drop m marks (e - m) 0 ∙ ap (λ x. get_or marks x 0) back))

-- ---- records

pub records_filled : (ds : List PrintedDual) (done rest : List ℕ) (i : ℕ) → length done ≡ record_bytes * i → length ds ≤ length rest / record_bytes
    → puts put_dual (done ++ rest) i ds ≡ done ++ (dual_records ds ++ drop (record_bytes * length ds) rest)
unfolding puts dual_records
records_filled [] done rest i h k = refl
records_filled (d ∷ ds) done rest i h k =
    ap (λ (l : List ℕ). puts put_dual l (i + 1) ds) stored
    ∙ records_filled ds (done ++ dual_record d) (drop record_bytes rest) (i + 1) long (omega (arith, length-drop record_bytes rest))
    ∙ append_assoc done (dual_record d) (dual_records ds ++ drop (record_bytes * length ds) (drop record_bytes rest))
    ∙ ap (λ (l : List ℕ). done ++ l) (sym (append_assoc (dual_record d) (dual_records ds) (drop (record_bytes * length ds) (drop record_bytes rest)))
    ∙ ap (λ (l : List ℕ). (dual_record d ++ dual_records ds) ++ l) (drop-drop (record_bytes * length ds) record_bytes rest ∙ ap (λ (n : ℕ). drop n rest) size))
  where
    size : record_bytes + record_bytes * length ds ≡ record_bytes * suc (length ds)
    size = omega arith

    long : length (done ++ dual_record d) ≡ record_bytes * (i + 1)
    long = length-append done (dual_record d) ∙ omega (arith, length_dual_record d)

    room : i < length (done ++ rest) / record_bytes
    room = let a = length-append done rest in let b : suc (length ds) ≤ length rest / record_bytes = k in omega arith

    stored : put_dual (done ++ rest) i d ≡ (done ++ dual_record d) ++ drop record_bytes rest
    stored =
        let at : record_bytes * i + record_bytes ≡ length done + record_bytes = omega arith in
        dual_put_law (done ++ rest) i d room
        ∙ ap (λ (l : List ℕ). l ++ (dual_record d ++ drop (record_bytes * i + record_bytes) (done ++ rest))) (take_at done rest (record_bytes * i) h)
        ∙ ap (λ (l : List ℕ). done ++ (dual_record d ++ l)) (ap (λ (n : ℕ). drop n (done ++ rest)) at ∙ drop-append-add done rest record_bytes)
        ∙ sym (append_assoc done (dual_record d) (drop record_bytes rest))
