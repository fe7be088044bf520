-- Printed lines that stand in a text are read back: a number's line, the figures, the kept tracks, the moats, and the whole plan.
use Rattle.std.specs.Prelude.{ℕ, zero, suc, ◌+◌, ◌^◌, ◌≤◌, ◌<◌, ◌≡◌, refl, Bool, true, false, not, List, [], ◌∷◌, ◌++◌, length}
use Prim.Native.Char.{code}
use Rattle.std.proofs.Common.{arith, add-one, ap, sym, ◌∙◌, subst, append_assoc, append-nil, length-append, le-leb}
use Rattle.std.proofs.lemmas.Bool.{lt-leb}
use Rattle.base_limits.specs.Limits.{max_duals, kept_digits, value_digits, member_digits, figure_digits}
use Rattle.base_limits.specs.declared.Verdict.{Verdict}
use Rattle.format_write.specs.Key.{newline, comma, colon, dual_key, kept_key, terminals_key, cost_key, bound_key, rounds_key}
use Rattle.format_write.specs.Decimal.{decimal}
use Rattle.format_write.specs.Text.{line_of, listed, count_lines}
use Rattle.format_read.specs.Number.{is_digit, class_of, number_at, number_to, number_text, number_line, OfDigits}
use Rattle.format_read.proofs.Laws.Digits.{Digits, one}
use Rattle.format_read.proofs.Laws.Decimal.{decimal_numeral}
use Rattle.format_read.proofs.Laws.Keyed.{newline_no_digit, comma_no_digit, keyed_reads_back, number_reads_back}
use Rattle.format_plan.proofs.Laws.Tests.{kept_fine, risen_next, dual_line_fine}
use Rattle.format_plan.specs.Lines.{kept_test, keep_line, keep_reader, separator, member_numbers, member_step, risen, member_reader, members_at, PrintedDual, dual_test, dual_head, listed_dual, dual_line_at, dual_reader, duals_at, kept_at}
use Rattle.format_plan.specs.Plan.{Claims, claims_at, plan_lines_at, PrintedPlan, plan_at}
use Rattle.format_read.specs.Bytes.{byte_is}
use Rattle.format_read.specs.Items.{Standing, stop, item}
use Rattle.format_read.specs.Language.{Each, none, more}
use Rattle.format_read.proofs.Laws.Bytes.{byte_is_law, byte_inside, reads_fixed, other_byte}
use Rattle.format_read.proofs.Laws.Items.{items_reads_back}
use Rattle.format_read.proofs.Laws.Stands.{stands_append, stands_first, stands_second, stands_head}
use Rattle.format_read.proofs.Laws.Step.{then_found}
use Rattle.format_read.specs.Lines.{Lines, lines_after, text_of}
use Rattle.format_read.specs.Stands.{Stands}
use Rattle.format_read.specs.Step.{found, ◌then◌, checked}
use Rattle.format_plan.specs.WellFormed.{Rising, ended, rising, dual_text, DualDigits, Printed, ClaimDigits, claims_text, plan_words, Printable}

-- A line of a key and a number, where it stands.
pub value_reads_back : (key : List ℕ) (limit : ℕ) (t : List ℕ) (at x : ℕ) → 1 ≤ limit → x < 10 ^ limit → Stands t at (line_of key x)
    → number_line key limit t at ≡ found x (at + length (line_of key x))
unfolding number_line line_of number_text
value_reads_back key limit t at x pos h s =
    let e : key ++ decimal x ++ (newline ∷ []) ≡ key ++ number_text newline x = append_assoc key (decimal x) (newline ∷ []) in
    keyed_reads_back key limit newline t at x pos h newline_no_digit (subst (Stands t at) e s) ∙ ap (λ (w : List ℕ). found x (at + length w)) (sym e)

-- A keep line where it stands: a line begins there, and only the test of its track is left.
pub keep_line_reads_back : (t : List ℕ) (m low i at e : ℕ) → OfDigits kept_digits e → Stands t at (line_of kept_key e)
    → ((keep_reader t m).stop at ≡ false) × (keep_line t m low i at ≡ checked (kept_test m low i e) e (at + length (line_of kept_key e)))
unfolding keep_reader keep_line line_of kept_key
keep_line_reads_back t m low i at e h s =
    let f = s.fits in
    let here : byte_is t at (code "k") ≡ true = byte_is_law t at (code "k") (omega arith) (stands_head s) in
    (ap not here, then_found (λ x p. checked (kept_test m low i x) x p) (value_reads_back kept_key kept_digits t at e (omega arith) h s))

-- Keep lines, where the byte behind them begins none.
pub keep_reads_back : (t : List ℕ) (m : ℕ) → m ≤ 10 ^ kept_digits → {low : ℕ} {ks : List ℕ} → Rising m low ks → (i at end : ℕ) → Stands t at (text_of (line_of kept_key) ks)
    → end ≡ at + length (text_of (line_of kept_key) ks) → byte_is t end (code "k") ≡ false → (last : ℕ) × Standing (keep_reader t m) low i at ks last end
unfolding keep_reader text_of checked
keep_reads_back t m few {low} ended i at end s q e =
    let same : end ≡ at = omega arith in
    (low, subst (λ (z : ℕ). Standing (keep_reader t m) low i at [] low z) (sym same) (stop (ap not (subst (λ (z : ℕ). byte_is t z (code "k") ≡ false) same e))))
keep_reads_back t m few {low} (rising {e = e} {es = es} h k r) i at end s q f =
    let line = line_of kept_key e in
    let a : Stands t at line = stands_first line (text_of (line_of kept_key) es) s in
    let b : Stands t (at + length line) (text_of (line_of kept_key) es) = stands_second line (text_of (line_of kept_key) es) s in
    let w = keep_line_reads_back t m low i at e (omega arith) a in
    let l = length-append line (text_of (line_of kept_key) es) in
    let rest = keep_reads_back t m few r (i + 1) (at + length line) end b (omega arith) f in
    (rest.0, item w.0 (w.1 ∙ ap (λ (x : Verdict). checked x e (at + length line)) (kept_fine m low i e h k)) rest.1)

-- Members behind the first, each after a comma.
unfoldable pub followers : List ℕ → List ℕ
followers [] = []
followers (v ∷ vs) = (comma ∷ []) ++ decimal v ++ followers vs

-- Members of which the first is member i of its moat.
unfoldable pub member_words : (i : ℕ) → List ℕ → List ℕ
member_words i [] = []
member_words i (v ∷ vs) = separator i ++ decimal v ++ followers vs

pub later_text : (i : ℕ) (vs : List ℕ) → member_words (i + 1) vs ≡ followers vs
unfolding member_words followers separator
later_text i [] = refl
later_text i (v ∷ vs) = rw (add-one i)

pub listed_text : (vs : List ℕ) → listed vs ≡ member_words 0 vs
unfolding listed member_words separator followers
listed_text [] = refl
listed_text (v ∷ []) = sym (append-nil (decimal v))
listed_text (v ∷ w ∷ vs) =
    ap (λ (x : List ℕ). decimal v ++ (comma ∷ []) ++ x) (listed_text (w ∷ vs))
    ∙ append_assoc (decimal v) (comma ∷ []) (decimal w ++ followers vs)

-- A byte that is no digit ends a member.
byte_after : (vs : List ℕ) → (b : ℕ) × (w : List ℕ) × (followers vs ++ (newline ∷ []) ≡ b ∷ w) × (is_digit (class_of b) ≡ false)
unfolding followers
byte_after [] = (newline, [], refl, newline_no_digit)
byte_after (v ∷ vs) = (comma, decimal v ++ followers vs ++ (newline ∷ []), refl, comma_no_digit)

followers_long : (vs : List ℕ) → length vs ≤ length (followers vs)
unfolding followers
followers_long [] = omega arith
followers_long (v ∷ vs) =
    let a = length-append ((comma ∷ []) ++ decimal v) (followers vs) in
    let b = length-append (comma ∷ []) (decimal v) in
    let l = followers_long vs in
    omega arith

members_long : (i : ℕ) (vs : List ℕ) → length vs ≤ length (member_words i vs)
unfolding member_words
members_long i [] = omega arith
members_long i (v ∷ vs) =
    let s = (decimal_numeral v).some in
    let a = length-append (separator i ++ decimal v) (followers vs) in
    let b = length-append (separator i) (decimal v) in
    let l = followers_long vs in
    omega arith

-- No line ends where a member begins.
no_end : (i : ℕ) (t : List ℕ) (at v : ℕ) → Stands t at (separator i ++ decimal v) → byte_is t at newline ≡ false
unfolding separator
no_end zero t at v s = by_digits (decimal v) s (decimal_numeral v).digits (decimal_numeral v).some
  where
    by_digits : (w : List ℕ) → Stands t at w → Digits w → 0 < length w → byte_is t at newline ≡ false
    by_digits [] s r h = absurd (omega arith)
    by_digits (d ∷ ds) s (one lo hi r) h = other_byte t at d newline (stands_head s) (λ q. omega arith)
no_end (suc i) t at v s = other_byte t at comma newline (stands_head s) (λ q. omega arith)

-- Members, where their line ends behind them.
pub members_reads_back : (t : List ℕ) {vs : List ℕ} → Each (OfDigits member_digits) vs → (low i at end : ℕ) → Stands t at (member_words i vs ++ (newline ∷ []))
    → end ≡ at + length (member_words i vs) → (last : ℕ) × Standing (member_reader t) low i at vs last end
unfolding member_reader member_step member_words number_text
members_reads_back t none low i at end s q =
    let same : at ≡ end = omega arith in
    let f = s.fits in
    (low, subst (λ (z : ℕ). Standing (member_reader t) low i at [] low z) same (stop (byte_is_law t at newline (omega arith) (stands_head s))))
members_reads_back t (more {a = v} {l = vs} h r) low i at end s q =
    let R = followers vs ++ (newline ∷ []) in
    let p = at + length (separator i) in
    let e : separator i ++ decimal v ++ followers vs ++ (newline ∷ []) ≡ separator i ++ decimal v ++ R = append_assoc (separator i ++ decimal v) (followers vs) (newline ∷ []) in
    let s' : Stands t at (separator i ++ decimal v ++ R) = subst (Stands t at) e s in
    let a : Stands t at (separator i ++ decimal v) = stands_first (separator i ++ decimal v) R s' in
    let rest : Stands t (at + length (separator i ++ decimal v)) R = stands_second (separator i ++ decimal v) R s' in
    let z : Stands t at (separator i) = stands_first (separator i) (decimal v) a in
    let y : Stands t p (decimal v) = stands_second (separator i) (decimal v) a in
    let l = length-append (separator i) (decimal v) in
    let n = byte_after vs in
    let l₁ : at + length (separator i ++ decimal v) ≡ p + length (decimal v) = omega arith in
    let rest' : Stands t (p + length (decimal v)) (n.0 ∷ n.1) = subst (λ (x : ℕ). Stands t x (n.0 ∷ n.1)) l₁ (subst (Stands t (at + length (separator i ++ decimal v))) n.2 rest) in
    let y' : Stands t p (number_text n.0 v) = stands_append (decimal v) (n.0 ∷ []) y (stands_first (n.0 ∷ []) n.1 rest') in
    let x = number_reads_back member_digits n.0 t p v (omega arith) h n.3 y' in
    let f = (reads_fixed (separator i)).complete t at 0 (separator i) (record { value = refl; word = refl }) z in
    let w = length-append (separator i ++ decimal v) (followers vs) in
    let m = later_text i vs in
    let lm : length (member_words (i + 1) vs) ≡ length (followers vs) = ap length m in
    let text : Stands t (p + length (decimal v)) (member_words (i + 1) vs ++ (newline ∷ [])) =
    subst (λ (g : List ℕ). Stands t (p + length (decimal v)) (g ++ (newline ∷ []))) (sym m) (subst (λ (g : ℕ). Stands t g R) l₁ rest) in
    let tail = members_reads_back t r (risen low v) (i + 1) (p + length (decimal v)) end text (omega arith) in
    (tail.0, item (no_end i t at v a) (then_found (λ z q. number_at member_digits t q) f ∙ x) tail.1)

rising_small : {low : ℕ} {vs : List ℕ} → Rising member_numbers low vs → Each (OfDigits member_digits) vs
rising_small ended = none
rising_small (rising {e = v} {es = vs} h k r) = more {a = v} {l = vs} (omega arith) (rising_small r)

-- Members that rise leave no more than the number of members.
rising_last : (t : List ℕ) {low i at last end : ℕ} {vs : List ℕ} → low ≤ member_numbers → Rising member_numbers low vs → Standing (member_reader t) low i at vs last end → last ≤ member_numbers
unfolding member_reader
rising_last t few ended (stop e) = few
rising_last t {low} {i} {at} {last} {end} few (rising {e = v} {es = vs} h k r) (item {next = next} e f s) =
    rising_last t (omega arith) r (subst (λ (g : ℕ). Standing (member_reader t) g (i + 1) next vs last end) (risen_next low v h k) s)

pub colon_ends : is_digit (class_of colon) ≡ false
unfolding is_digit class_of
colon_ends = refl

head_reads_back : (t : List ℕ) (at x : ℕ) → OfDigits value_digits x → Stands t at (dual_key ++ decimal x ++ (colon ∷ [])) → dual_head t at ≡ found x (at + length (dual_key ++ decimal x ++ (colon ∷ [])))
unfolding dual_head number_to number_text
head_reads_back t at x h s =
    let e : dual_key ++ decimal x ++ (colon ∷ []) ≡ dual_key ++ number_text colon x = append_assoc dual_key (decimal x) (colon ∷ []) in
    keyed_reads_back dual_key value_digits colon t at x (omega arith) h colon_ends (subst (Stands t at) e s) ∙ ap (λ (w : List ℕ). found x (at + length w)) (sym e)

-- A moat line where it stands: its members are read, and only the test of what they leave is left.
pub record DualStands (t : List ℕ) (i at : ℕ) (d : PrintedDual) : Type 0 where
  pub from : ℕ
  pub last : ℕ
  pub end : ℕ
  pub members : Standing (member_reader t) 0 0 from d.members last end
  pub line : dual_line_at t i at ≡ checked (dual_test i last) d (at + length (dual_text d))

pub dual_line_reads_back : (t : List ℕ) (i at : ℕ) (d : PrintedDual) → DualDigits d → Stands t at (dual_text d) → DualStands t i at d
unfolding dual_text dual_line_at members_at ◌then◌
dual_line_reads_back t i at d p s =
    let H = dual_key ++ decimal d.value ++ (colon ∷ []) in
    let M = member_words 0 d.members in
    let x = listed_text d.members in
    let e : H ++ listed d.members ++ (newline ∷ []) ≡ H ++ (M ++ (newline ∷ [])) = ap (λ (w : List ℕ). H ++ w ++ (newline ∷ [])) x ∙ append_assoc H M (newline ∷ []) in
    let s' : Stands t at (H ++ (M ++ (newline ∷ []))) = subst (Stands t at) e s in
    let a = stands_first H (M ++ (newline ∷ [])) s' in
    let b = stands_second H (M ++ (newline ∷ [])) s' in
    let c = at + length H in
    let ms = members_reads_back t p.members 0 0 c (c + length M) b refl in
    let f = b.fits in
    let l = members_long 0 d.members in
    let n = length-append M (newline ∷ []) in
    let o = length-append H (M ++ (newline ∷ [])) in
    let u : length (H ++ listed d.members ++ (newline ∷ [])) ≡ length (H ++ (M ++ (newline ∷ []))) = ap length e in
    let g = items_reads_back (member_reader t) (length t) (omega arith) ms.1 in
    let q : c + length M + 1 ≡ at + length (H ++ listed d.members ++ (newline ∷ [])) = omega arith in
    record {
      from = c;
      last = ms.0;
      end = c + length M;
      members = ms.1;
      line =
          then_found (λ amount k. (members_at t k).end then λ low y. checked (dual_test i low) (listed_dual t amount k) (y + 1)) (head_reads_back t at d.value p.value a)
          ∙ ap (λ (L : Lines ℕ ℕ). L.end then λ low y. checked (dual_test i low) (record { value = d.value; members = L.values }) (y + 1)) g
          ∙ ap (λ (k : ℕ). checked (dual_test i ms.0) d k) q;
    }

pub dual_reads_back : (t : List ℕ) (i at : ℕ) (d : PrintedDual) → Printed d → i < max_duals → Stands t at (dual_text d) → dual_line_at t i at ≡ found d (at + length (dual_text d))
unfolding checked
dual_reads_back t i at d p few s =
    let m = dual_line_reads_back t i at d (record { value = p.small; members = rising_small p.rises }) s in
    m.line ∙ ap (λ (v : Verdict). checked v d (at + length (dual_text d))) (dual_line_fine i m.last (rising_last t (omega arith) p.rises m.members) few)

-- Every line has a byte, so that there are no more lines than bytes.
pub lines_long : {A : Type 0} (f : A → List ℕ) → ((a : A) → 0 < length (f a)) → (l : List A) → length l ≤ length (text_of f l)
unfolding text_of
lines_long f h [] = omega arith
lines_long f h (a ∷ l) =
    let k = h a in
    let n = length-append (f a) (text_of f l) in
    let r = lines_long f h l in
    omega arith

pub line_some : (key : List ℕ) (x : ℕ) → 0 < length (line_of key x)
unfolding line_of
line_some key x = let n = length-append (key ++ decimal x) (newline ∷ []) in omega arith

pub dual_some : (d : PrintedDual) → 0 < length (dual_text d)
unfolding dual_text
dual_some d = let n = length-append (dual_key ++ decimal d.value ++ (colon ∷ []) ++ listed d.members) (newline ∷ []) in omega arith

-- Moat lines that stand to the end of the text.
pub duals_reads_back : (t : List ℕ) {ds : List PrintedDual} → Each Printed ds → (low i at : ℕ) → i + length ds ≤ max_duals → Stands t at (text_of dual_text ds) → at + length (text_of dual_text ds) ≡ length t
    → (last : ℕ) × Standing (dual_reader t) low i at ds last (length t)
unfolding dual_reader text_of
duals_reads_back t none low i at few s q =
    let same : at ≡ length t = omega arith in
    (low, subst (λ (z : ℕ). Standing (dual_reader t) low i at [] low z) same (stop (le-leb (length t) at (omega arith))))
duals_reads_back t (more {a = d} {l = ds} p r) low i at few s q =
    let a = stands_first (dual_text d) (text_of dual_text ds) s in
    let b = stands_second (dual_text d) (text_of dual_text ds) s in
    let n = length-append (dual_text d) (text_of dual_text ds) in
    let k = dual_some d in
    let rest = duals_reads_back t r (low + 1) (i + 1) (at + length (dual_text d)) (omega arith) b (omega arith) in
    (rest.0, item (lt-leb (length t) at (omega arith)) (dual_reads_back t i at d p (omega arith) a) rest.1)

pub claims_reads_back : (t : List ℕ) (at : ℕ) (c : Claims) → ClaimDigits c → Stands t at (claims_text c) → claims_at t at ≡ found c (at + length (claims_text c))
unfolding claims_at claims_text count_lines ◌then◌
claims_reads_back t at c few s =
    let K = line_of terminals_key c.terminals in
    let C = line_of cost_key c.cost in
    let B = line_of bound_key c.bound in
    let R = line_of rounds_key c.rounds in
    let s₃ = stands_first (K ++ C ++ B) R s in
    let s₂ = stands_first (K ++ C) B s₃ in
    let l₁ = length-append K C in
    let l₂ = length-append (K ++ C) B in
    let l₃ = length-append (K ++ C ++ B) R in
    let e₂ : at + length (K ++ C) ≡ at + length K + length C = omega arith in
    let e₃ : at + length (K ++ C ++ B) ≡ at + length K + length C + length B = omega arith in
    let e₄ : at + length K + length C + length B + length R ≡ at + length (K ++ C ++ B ++ R) = omega arith in
    let k = value_reads_back terminals_key figure_digits t at c.terminals (omega arith) few.terminals (stands_first K C s₂) in
    let x = value_reads_back cost_key figure_digits t (at + length K) c.cost (omega arith) few.cost (stands_second K C s₂) in
    let y = value_reads_back bound_key figure_digits t (at + length K + length C) c.bound (omega arith) few.bound (subst (λ (z : ℕ). Stands t z B) e₂ (stands_second (K ++ C) B s₃)) in
    let r = value_reads_back rounds_key figure_digits t (at + length K + length C + length B) c.rounds (omega arith) few.rounds (subst (λ (z : ℕ). Stands t z R) e₃ (stands_second (K ++ C ++ B) R s)) in
    rw (k, x, y, r) (ap (λ (z : ℕ). found c z) e₄)

-- No keep line begins where the moats do.
pub no_keep : (t : List ℕ) (ds : List PrintedDual) (at : ℕ) → Stands t at (text_of dual_text ds) → at + length (text_of dual_text ds) ≡ length t → byte_is t at (code "k") ≡ false
unfolding text_of dual_text dual_key
no_keep t [] at s q = by_test (byte_is t at (code "k")) refl
  where
    by_test : (x : Bool) → byte_is t at (code "k") ≡ x → byte_is t at (code "k") ≡ false
    by_test true e = let i = (byte_inside t at (code "k") e).0 in absurd (omega arith)
    by_test false e = e
no_keep t (d ∷ ds) at s q = other_byte t at (code "m") (code "k") (stands_head (stands_first (dual_text d) (text_of dual_text ds) s)) (λ e. omega arith)

pub claims_some : (c : Claims) → 0 < length (claims_text c)
unfolding claims_text count_lines
claims_some c =
    let n = length-append (line_of terminals_key c.terminals ++ line_of cost_key c.cost ++ line_of bound_key c.bound) (line_of rounds_key c.rounds) in
    let r = line_some rounds_key c.rounds in
    omega arith

-- A printed plan that stands at the end of a text is read back.
pub plan_reads_back : (t : List ℕ) (m at : ℕ) (p : PrintedPlan) → m ≤ 10 ^ kept_digits → Printable m p → Stands t at (plan_words p) → at + length (plan_words p) ≡ length t → plan_at t m at ≡ found p (length t)
unfolding plan_at plan_lines_at plan_words kept_at duals_at ◌then◌ lines_after
plan_reads_back t m at p few w s q =
    let C = claims_text p.claims in
    let K = text_of (line_of kept_key) p.kept in
    let D = text_of dual_text p.duals in
    let a = stands_first (C ++ K) D s in
    let l₁ = length-append C K in
    let l₂ = length-append (C ++ K) D in
    let x = at + length C in
    let y = at + length (C ++ K) in
    let f = s.fits in
    let d = stands_second (C ++ K) D s in
    let c = claims_reads_back t at p.claims w.few (stands_first C K a) in
    let ks = keep_reads_back t m few w.kept 0 x y (stands_second C K a) (omega arith) (no_keep t p.duals y d (omega arith)) in
    let few_duals = w.count in
    let ds = duals_reads_back t w.duals 0 0 y (omega arith) d (omega arith) in
    let n₁ = lines_long (line_of kept_key) (line_some kept_key) p.kept in
    let n₂ = lines_long dual_text dual_some p.duals in
    let n₃ = claims_some p.claims in
    let g = items_reads_back (keep_reader t m) (length t) (omega arith) ks.1 in
    let h = items_reads_back (dual_reader t) (length t) (omega arith) ds.1 in
    then_found _ c
    ∙ ap (λ (k : Lines ℕ ℕ). let l = lines_after k.end (duals_at t) in l.end then λ count z. found (record { claims = p.claims; kept = k.values; duals = l.values }) z) g
    ∙ ap (λ (l : Lines ℕ PrintedDual). l.end then λ count z. found (record { claims = p.claims; kept = p.kept; duals = l.values }) z) h
