-- Printing a plan and reading it back gives the same counts, kept tracks and moats (document 01, 'Survey text and printed plan').
use Rattle.std.specs.Prelude.{ℕ, zero, suc, ◌/◌, ◌≤◌, ◌<◌, ◌≡◌, refl, Bool, true, false, cond, List, [], ◌∷◌, ◌++◌, length, get_or, eqb}
use Rattle.std.proofs.Common.{arith, ap, sym, ◌∙◌, subst, append_assoc, append-nil, length-append}
use Rattle.base_finite.specs.Below.{those_below, tabulate}
use Rattle.base_finite.specs.Laws.Below.{length_tabulate}
use Rattle.base_limits.specs.Limits.{record_bytes}
use Rattle.format_record.specs.Record.{member_in, record_at}
use Rattle.format_write.specs.Key.{kept_key}
use Rattle.format_write.specs.Text.{line_of, members_of, dual_line, text_below, kept_line, kept_lines, dual_lines, count_lines, plan_text}
use Rattle.format_read.specs.Step.{found}
use Rattle.format_read.specs.Lines.{text_of}
use Rattle.format_read.specs.Stands.{Stands}
use Rattle.format_read.proofs.Laws.Stands.{stands_end}
use Rattle.format_read.specs.Language.{Each, none, more}
use Rattle.format_plan.specs.Lines.{member_numbers, PrintedDual}
use Rattle.format_plan.specs.Plan.{Claims, plan_at}
use Rattle.format_plan.proofs.Laws.RoundTrip.{plan_reads_back}
use Rattle.format_plan.specs.WellFormed.{Rising, ended, rising, Printed, Printable, dual_text, claims_text, plan_words, kept_in, printed_dual, printed_duals, plan_in, PrintFits}

text_append : {A : Type 0} (f : A → List ℕ) (a b : List A) → text_of f (a ++ b) ≡ text_of f a ++ text_of f b
unfolding text_of
text_append f [] b = refl
text_append f (x ∷ a) b = ap (λ (w : List ℕ). f x ++ w) (text_append f a b) ∙ sym (append_assoc (f x) (text_of f a) (text_of f b))

those_text : (n : ℕ) (T : ℕ → Bool) (f : ℕ → List ℕ) → text_below n (λ e. cond (T e) (f e) []) ≡ text_of f (those_below n T)
unfolding text_below those_below text_of
those_text zero T f = refl
those_text (suc n) T f =
    ap (λ (w : List ℕ). w ++ cond (T n) (f n) []) (those_text n T f)
    ∙ ap (λ (w : List ℕ). text_of f (those_below n T) ++ w) (by_test (T n))
    ∙ sym (text_append f (those_below n T) (cond (T n) (n ∷ []) []))
  where
    by_test : (b : Bool) → cond b (f n) [] ≡ text_of f (cond b (n ∷ []) [])
    by_test true = sym (append-nil (f n))
    by_test false = refl

each_text : {A : Type 0} (n : ℕ) (h : ℕ → A) (f : A → List ℕ) → text_below n (λ i. f (h i)) ≡ text_of f (tabulate n h)
unfolding text_below tabulate text_of
each_text zero h f = refl
each_text (suc n) h f =
    ap (λ (w : List ℕ). w ++ f (h n)) (each_text n h f)
    ∙ ap (λ (w : List ℕ). text_of f (tabulate n h) ++ w) (sym (append-nil (f (h n))))
    ∙ sym (text_append f (tabulate n h) (h n ∷ []))

-- The printed plan is the text of the counts, tracks and moats.
pub plan_words_law : (k c b r : ℕ) (marks records : List ℕ) → plan_text k c b r marks records ≡ plan_words (plan_in (record { terminals = k; cost = c; bound = b; rounds = r }) marks records)
unfolding plan_text kept_lines kept_line dual_lines dual_line plan_words claims_text plan_in kept_in printed_duals printed_dual dual_text
plan_words_law k c b r marks records =
    ap (λ (w : List ℕ). count_lines k c b r ++ w ++ dual_lines records) (those_text (length marks) (λ e. eqb (get_or marks e 0) 2) (line_of kept_key))
    ∙ ap (λ (w : List ℕ). count_lines k c b r ++ text_of (line_of kept_key) (kept_in marks) ++ w) (each_text (length records / record_bytes) (λ i. printed_dual (record_at records i)) dual_text)

widen : {m n low : ℕ} {l : List ℕ} → n ≤ m → Rising n low l → Rising m low l
widen h ended = ended
widen h (rising a b r) = rising a (omega arith) (widen h r)

snoc : {m n low : ℕ} {l : List ℕ} → low ≤ n → n < m → Rising n low l → Rising m low (l ++ (n ∷ []))
snoc h k ended = rising h k ended
snoc h k (rising a b r) = rising a (omega arith) (snoc (omega arith) k r)

-- Those below n rise.
pub those_rise : (n : ℕ) (T : ℕ → Bool) → Rising n 0 (those_below n T)
unfolding those_below
those_rise zero T = ended
those_rise (suc n) T = by_test (T n) (those_rise n T)
  where
    by_test : (b : Bool) → Rising n 0 (those_below n T) → Rising (suc n) 0 (those_below n T ++ cond b (n ∷ []) [])
    by_test true r = snoc (omega arith) (omega arith) r
    by_test false r = subst (Rising (suc n) 0) (sym (append-nil (those_below n T))) (widen (omega arith) r)

each_snoc : {A : Type 0} {P : A → Type 0} {a : A} {l : List A} → Each P l → P a → Each P (l ++ (a ∷ []))
each_snoc none p = more p none
each_snoc (more q r) p = more q (each_snoc r p)

each_printed : (n : ℕ) (h : ℕ → PrintedDual) → ((i : ℕ) → i < n → Printed (h i)) → Each Printed (tabulate n h)
unfolding tabulate
each_printed zero h p = none
each_printed (suc n) h p = each_snoc (each_printed n h (λ i k. p i (omega arith))) (p n (omega arith))

printable : (claims : Claims) (marks records : List ℕ) → PrintFits claims marks records → Printable (length marks) (plan_in claims marks records)
unfolding plan_in kept_in printed_duals printed_dual members_of
printable claims marks records f =
    let n = length records / record_bytes in
    let l = length_tabulate n (λ i. printed_dual (record_at records i)) in
    let few = f.duals in
    record {
      few = f.few;
      kept = those_rise (length marks) (λ e. eqb (get_or marks e 0) 2);
      duals = each_printed n (λ i. printed_dual (record_at records i)) (λ i h. record { small = f.values i h; rises = those_rise member_numbers (member_in (record_at records i)) });
      count = omega arith;
    }

-- Printing a plan behind any text and reading it back.
pub read_back : (u : List ℕ) (k c b r : ℕ) (marks records : List ℕ) → PrintFits (record { terminals = k; cost = c; bound = b; rounds = r }) marks records
    → plan_at (u ++ plan_text k c b r marks records) (length marks) (length u)
    ≡ found (plan_in (record { terminals = k; cost = c; bound = b; rounds = r }) marks records) (length (u ++ plan_text k c b r marks records))
read_back u k c b r marks records f =
    let p = plan_in (record { terminals = k; cost = c; bound = b; rounds = r }) marks records in
    let W = plan_text k c b r marks records in
    let e = plan_words_law k c b r marks records in
    let s : Stands (u ++ W) (length u) W = stands_end u W in
    let l = length-append u W in
    let n : length W ≡ length (plan_words p) = ap length e in
    let few = f.tracks in
    plan_reads_back (u ++ W) (length marks) (length u) p (omega arith) (printable _ marks records f) (subst (Stands (u ++ W) (length u)) e s) (omega arith)
