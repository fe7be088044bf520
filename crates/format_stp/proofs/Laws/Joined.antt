-- Words joined in the ways of the subset: as many as were announced, behind a test, and behind a value that only some words may follow.
use Rattle.std.specs.Prelude.{ℕ, zero, suc, ◌+◌, Bool, true, false, List, [], ◌∷◌, ◌++◌, ◌≡◌}
use Rattle.std.proofs.Common.{arith, append-nil, sym, ◌∙◌, subst}
use Rattle.std.proofs.Math.Bool.{cond}
use Rattle.std.proofs.Math.Path.{refl, ap}
use Rattle.base_limits.specs.declared.Verdict.{Verdict}
use Rattle.base_limits.specs.declared.Verdict.TheVariants.{Fine, Refused}
use Rattle.format_read.specs.Language.{Reads, otherwise, Seq, Empty}
use Rattle.format_read.proofs.Laws.Bytes.{no_bool}
use Rattle.format_read.proofs.Laws.Language.{reads_then, reads_as, reads_value}
use Rattle.format_read.proofs.Laws.Lines.{lines_unfold}
use Rattle.format_read.specs.Lines.{lines_from, whole}
use Rattle.format_read.specs.Step.{Step, found, refused, ◌then◌}
use Rattle.format_stp.specs.StpWord.{Repeated, none, one, guarded}

-- ---- as many as were announced

module _ {A : Type 0} (W : A → List ℕ → Type 0) where
  repeated_to : (k : ℕ) (l : List A) (w : List ℕ) → Seq W (λ a. Seq (Repeated W k) λ l. Empty (a ∷ l)) l w → Repeated W (suc k) l w
  repeated_to k l w m =
      let a = m.second in
      let d = a.second in
      let e : m.left ++ a.left ≡ w = sym (m.whole ∙ ap (λ (z : List ℕ). m.left ++ z) (a.whole ∙ ap (λ (z : List ℕ). a.left ++ z) d.word ∙ append-nil a.left)) in
      subst (λ (x : List A). Repeated W (suc k) x w) (sym d.value) (subst (λ (z : List ℕ). Repeated W (suc k) (m.value ∷ a.value) z) e (one m.first a.first))

  repeated_from : (k : ℕ) (l : List A) (w : List ℕ) → Repeated W (suc k) l w → Seq W (λ a. Seq (Repeated W k) λ l. Empty (a ∷ l)) l w
  repeated_from k _ _ (one {a = a} {l = l} {v = v} {w = w} x r) =
      record {
        value = a;
        left = v;
        right = w ++ [];
        first = x;
        whole = ap (λ (z : List ℕ). v ++ z) (sym (append-nil w));
        second = record { value = l; left = w; right = []; first = r; whole = refl; second = record { value = refl; word = refl } };
      }

pub reads_repeated : {A : Type 0} (line : List ℕ → ℕ → Step A) (W G : A → List ℕ → Type 0) → Reads line W G → (count i : ℕ)
    → Reads (λ t at. whole (lines_from (λ e p. line t p) count i at)) (Repeated W count) (Repeated G count)
unfolding lines_from whole ◌then◌
reads_repeated {A} line W G r zero i = reads_as (λ t at. refl) (to W) (from W) (to G) (from G) (reads_value [])
  where
    to : (X : A → List ℕ → Type 0) (l : List A) (w : List ℕ) → Empty [] l w → Repeated X 0 l w
    to X l w m = subst (λ (x : List A). Repeated X 0 x w) (sym m.value) (subst (Repeated X 0 []) (sym m.word) none)

    from : (X : A → List ℕ → Type 0) (l : List A) (w : List ℕ) → Repeated X 0 l w → Empty [] l w
    from X _ _ none = record { value = refl; word = refl }
reads_repeated {A} line W G r (suc count) i =
    reads_as (λ t at. lines_unfold (λ e p. line t p) count i at) (repeated_to W count) (repeated_from W count) (repeated_to G count) (repeated_from G count)
    (reads_then r λ a. reads_then (reads_repeated line W G r count (i + 1)) λ l. reads_value (a ∷ l))

-- ---- behind a test

-- Words behind a test that passes.
pub record Guarded {A : Type 0} (v : Verdict) (X : A → List ℕ → Type 0) (a : A) (w : List ℕ) : Type 0 where
  pub passes : v ≡ Fine
  pub member : X a w

pub reads_guarded : {A : Type 0} (v : Verdict) {f : List ℕ → ℕ → Step A} {X H : A → List ℕ → Type 0} → ((n p : ℕ) → v ≡ Refused n p → n ≡ 16 → ⊥) → (v ≡ Fine → Reads f X H)
    → (a : A) × (w : List ℕ) × H a w → Reads (λ t at. guarded v (f t at)) (Guarded v X) H
unfolding guarded
reads_guarded {A} Fine {f} {X} {H} never r some =
    reads_as (λ t at. refl) (λ a w m. record { passes = refl; member = m }) (λ a w m. m.member) (λ a w m. m) (λ a w m. m) (r refl)
reads_guarded {A} (Refused n p) {f} {X} {H} never r some =
    record {
      complete = λ t at a w m s. absurd (not_fine m.passes);
      sound = λ t at a q h e. absurd (not_found e);
      not_malformed = λ t at a w m s. otherwise refl (never n p refl);
      same = λ t u at q h e k. absurd (never n p refl (number e));
      place = λ t at q h e. absurd (never n p refl (number e));
      extends = λ t at q h e. absurd (never n p refl (number e));
      some = some;
      well = λ a w m. absurd (not_fine m.passes);
    }
  where
    not_fine : Refused n p ≡ Fine → ⊥
    not_fine e = let z : ◌≡◌ {A = ℕ} 0 1 = cc in omega arith

    not_found : {a : A} {q : ℕ} → refused n p ≡ found a q → ⊥
    not_found e = let z : ◌≡◌ {A = ℕ} 0 1 = cc in omega arith

    number : {q : ℕ} → ◌≡◌ {A = Step A} (refused n p) (refused 16 q) → n ≡ 16
    number e = cc

-- ---- behind a value that some test holds of

-- What follows a value need only be known of the values that are read, of which a test holds.
module _ {A B : Type 0} {f : List ℕ → ℕ → Step A} {W G : A → List ℕ → Type 0} {g : A → List ℕ → ℕ → Step B} {X H : A → B → List ℕ → Type 0} (ok : A → Bool) (r : Reads f W G)
    (holds : (a : A) (w : List ℕ) → G a w → ok a ≡ true) (tells : (t : List ℕ) (at : ℕ) (a : A) (p : ℕ) → f t at ≡ found a p → ok a ≡ true)
    (s : (a : A) → ok a ≡ true → Reads (g a) (X a) (H a)) where
  default : B
  default = (s r.some.0 (holds r.some.0 r.some.1 r.some.2)).some.0

  -- The same reader, and no reader at all where the test fails.
  abbrev total : A → List ℕ → ℕ → Step B
  total a t p = cond (ok a) (g a t p) (found default p)

  data Total (Y : A → B → List ℕ → Type 0) (a : A) (b : B) (w : List ℕ) : Type 0 where
    held : ok a ≡ true → Y a b w → Total Y a b w
    missed : ok a ≡ false → Empty default b w → Total Y a b w

  total_reads : (a : A) → Reads (total a) (Total X a) (Total H a)
  total_reads a = by_test (ok a) refl
    where
      held_back : (Y : A → B → List ℕ → Type 0) → ok a ≡ true → (b : B) (w : List ℕ) → Total Y a b w → Y a b w
      held_back Y e b w (held h y) = y
      held_back Y e b w (missed h y) = no_bool (sym e ∙ h)

      missed_back : (Y : A → B → List ℕ → Type 0) → ok a ≡ false → (b : B) (w : List ℕ) → Total Y a b w → Empty default b w
      missed_back Y e b w (held h y) = no_bool (sym h ∙ e)
      missed_back Y e b w (missed h y) = y

      by_test : (c : Bool) → ok a ≡ c → Reads (total a) (Total X a) (Total H a)
      by_test true e = reads_as (λ t at. sym (ap (λ (c : Bool). cond c (g a t at) (found default at)) e)) (λ b w y. held e y) (held_back X e) (λ b w y. held e y) (held_back H e) (s a e)
      by_test false e = reads_as (λ t at. sym (ap (λ (c : Bool). cond c (g a t at) (found default at)) e)) (λ b w y. missed e y) (missed_back X e) (λ b w y. missed e y) (missed_back H e) (reads_value default)

  total_same : (t : List ℕ) (at : ℕ) → (f t at then λ a p. total a t p) ≡ (f t at then λ a p. g a t p)
  unfolding ◌then◌
  total_same t at = by_first (f t at) refl
    where
      by_first : (x : Step A) → f t at ≡ x → (x then λ a p. total a t p) ≡ (x then λ a p. g a t p)
      by_first (found a p) e = ap (λ (c : Bool). cond c (g a t p) (found default p)) (tells t at a p e)
      by_first (refused n p) e = refl

  seq_to : (Z : A → List ℕ → Type 0) (Y : A → B → List ℕ → Type 0) → ((a : A) (w : List ℕ) → Z a w → ok a ≡ true) → (b : B) (w : List ℕ) → Seq Z (Total Y) b w → Seq Z Y b w
  seq_to Z Y h b w m = record { value = m.value; left = m.left; right = m.right; first = m.first; second = back m.second; whole = m.whole }
    where
      back : Total Y m.value b m.right → Y m.value b m.right
      back (held e y) = y
      back (missed e y) = no_bool (sym (h m.value m.left m.first) ∙ e)

  seq_from : (Z : A → List ℕ → Type 0) (Y : A → B → List ℕ → Type 0) → ((a : A) (w : List ℕ) → Z a w → ok a ≡ true) → (b : B) (w : List ℕ) → Seq Z Y b w → Seq Z (Total Y) b w
  seq_from Z Y h b w m = record { value = m.value; left = m.left; right = m.right; first = m.first; second = held (h m.value m.left m.first) m.second; whole = m.whole }

  pub reads_then_where : Reads (λ t at. f t at then λ a p. g a t p) (Seq W X) (Seq G H)
  reads_then_where =
      let hw : (a : A) (w : List ℕ) → W a w → ok a ≡ true = λ a w m. holds a w (r.well a w m) in
      reads_as total_same (seq_to W X hw) (seq_from W X hw) (seq_to G H holds) (seq_from G H holds) (reads_then r total_reads)
