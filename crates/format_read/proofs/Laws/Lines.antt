-- Laws of lines read one after another: how many they are, one turn of a loop over them, what the turns store, and that their words are the texts
-- of their values.
use Prim.Native.Nat.{ℕ, suc, ◌+◌, ◌-◌, ◌≤◌, ◌<◌, zero}
use Rattle.std.proofs.Math.Nat.{sub-zero}
use Rattle.std.proofs.Common.{add-one, ◌∙◌}
use native.Mathlib.Omega.{arith}
use mathlib.Core.List.{List, [], ◌∷◌, map, ◌++◌, append-nil}
use Rattle.std.specs.Prelude.{◌≡◌, set}
use Rattle.std.proofs.Math.Path.{refl, ap, sym, subst}
use Rattle.std.proofs.Math.ListN.{length}
use Rattle.std.proofs.Math.Seq.{sets, length-sets}
use Rattle.format_read.specs.Language.{Reads, Seq, Empty, Text, EachFrom, none_from, more_from, Texts}
use Rattle.format_read.proofs.Laws.Language.{reads_then, reads_as, reads_value}
use Rattle.format_read.specs.Lines.{Lines, following, lines_from, text_of, whole}
use Rattle.format_read.specs.Step.{Step, found, refused, ◌then◌}

pub one_less_law : {i n : ℕ} → i < n → n - i ≡ suc (n - (i + 1))
one_less_law h = omega arith

module _ {A : Type 0} (line : ℕ → ℕ → Step A) (count i at : ℕ) where
  pub lines_more : {a : A} {next : ℕ} → i < count → line i at ≡ found a next → lines_from line (count - i) i at ≡ following (found a next) (λ b p. lines_from line (count - (i + 1)) (i + 1) p)
  unfolding lines_from
  lines_more h e = rw (one_less_law h, e)

  pub lines_stop : {n p : ℕ} → i < count → line i at ≡ refused n p → lines_from line (count - i) i at ≡ record { values = []; end = refused n p }
  unfolding lines_from following
  lines_stop h e = rw (one_less_law h, e)

  pub lines_done : count ≤ i → lines_from line (count - i) i at ≡ record { values = []; end = found 0 at }
  unfolding lines_from
  lines_done h = let z : count - i ≡ 0 = omega arith in rw z

-- At line i and offset at: where what is left ends, and what it stores, are where the whole ends and what that stores.
pub record LinesLeft {A : Type 0} (line : ℕ → ℕ → Step A) (whole : Lines ℕ A) (count i at : ℕ) : Type 0 where
  pub upto : i ≤ count
  pub end : (lines_from line (count - i) i at).end ≡ whole.end

pub record Stored {A : Type 0} (line : ℕ → ℕ → Step A) (whole : Lines ℕ A) (count i at : ℕ) (f : A → ℕ) (old buffer : List ℕ) : Type 0 where
  pub is : sets buffer i (map f (lines_from line (count - i) i at).values) ≡ sets old 0 (map f whole.values)

pub stored_length : {A : Type 0} {line : ℕ → ℕ → Step A} {whole : Lines ℕ A} {count i at : ℕ} {f : A → ℕ} {old buffer : List ℕ} → Stored line whole count i at f old buffer → length buffer ≡ length old
stored_length s = simp length-sets at (ap length s.is)

module _ {A : Type 0} (line : ℕ → ℕ → Step A) (count at : ℕ) where
  pub left_start : LinesLeft line (lines_from line count 0 at) count 0 at
  left_start = record { upto = omega arith; end = ap (λ (k : ℕ). (lines_from line k 0 at).end) (sub-zero count) }

  pub stored_start : (f : A → ℕ) (old : List ℕ) → Stored line (lines_from line count 0 at) count 0 at f old old
  stored_start f old = record { is = ap (λ (k : ℕ). sets old 0 (map f (lines_from line k 0 at).values)) (sub-zero count) }

module _ {A : Type 0} (line : ℕ → ℕ → Step A) (whole : Lines ℕ A) (count i at : ℕ) where
  pub left_more : {a : A} {next : ℕ} → i < count → line i at ≡ found a next → LinesLeft line whole count i at → LinesLeft line whole count (i + 1) next
  unfolding following
  left_more h e l = record { upto = h'; end = sym (ap (λ (r : Lines ℕ A). r.end) (lines_more line count i at h e)) ∙ l.end }
    where
      h' : i + 1 ≤ count
      h' = omega arith

  pub left_stop : {n p : ℕ} → i < count → line i at ≡ refused n p → LinesLeft line whole count i at → refused n p ≡ whole.end
  left_stop h e l = sym (ap (λ (r : Lines ℕ A). r.end) (lines_stop line count i at h e)) ∙ l.end

  pub left_done : count ≤ i → LinesLeft line whole count i at → found 0 at ≡ whole.end
  left_done h l = sym (ap (λ (r : Lines ℕ A). r.end) (lines_done line count i at h)) ∙ l.end

  module _ (f : A → ℕ) (old buffer : List ℕ) where
    store_of : Lines ℕ A → List ℕ
    store_of r = sets buffer i (map f r.values)

    pub stored_more : {a : A} {next : ℕ} → i < count → line i at ≡ found a next → Stored line whole count i at f old buffer → Stored line whole count (i + 1) next f old (set buffer i (f a))
    unfolding following store_of
    stored_more {a} {next} h e s =
        record {
          is =
              ap (λ (k : ℕ). sets (set buffer i (f a)) k (map f (lines_from line (count - (i + 1)) (i + 1) next).values)) (add-one i)
              ∙ sym (ap store_of (lines_more line count i at h e))
              ∙ s.is;
        }

    pub stored_stop : {n p : ℕ} → i < count → line i at ≡ refused n p → Stored line whole count i at f old buffer → buffer ≡ sets old 0 (map f whole.values)
    unfolding store_of
    stored_stop h e s = sym (ap store_of (lines_stop line count i at h e)) ∙ s.is

    pub stored_done : count ≤ i → Stored line whole count i at f old buffer → buffer ≡ sets old 0 (map f whole.values)
    unfolding store_of
    stored_done h s = sym (ap store_of (lines_done line count i at h)) ∙ s.is

pub map_same : (l : List ℕ) → map (λ x. x) l ≡ l
map_same [] = refl
map_same (x ∷ l) = ap (λ (r : List ℕ). x ∷ r) (map_same l)

-- Lines that are all read are as many as were asked for.
pub lines_length : {A : Type 0} (line : ℕ → ℕ → Step A) (count i at : ℕ) {z p : ℕ} → (lines_from line count i at).end ≡ found z p → length (lines_from line count i at).values ≡ count
unfolding lines_from following
lines_length line zero i at e = refl
lines_length {A} line (suc count) i at {z} {p} e = by_line (line i at) (λ next e. lines_length line count (i + 1) next e) e
  where
    by_line : (s : Step A) → ((next : ℕ) → (lines_from line count (i + 1) next).end ≡ found z p → length (lines_from line count (i + 1) next).values ≡ count) → (following s (λ a next. lines_from line count (i + 1) next)).end ≡ found z p → length (following s (λ a next. lines_from line count (i + 1) next)).values ≡ suc count
    by_line (found a next) ih e = ap suc (ih next e)
    by_line (refused n q) ih e = let w : ◌≡◌ {A = ℕ} 0 1 = cc in absurd (omega arith)

pub lines_unfold : {A : Type 0} (line : ℕ → ℕ → Step A) (k i at : ℕ) → (line i at then λ a p. whole (lines_from line k (i + 1) p) then λ l q. found (a ∷ l) q) ≡ whole (lines_from line (suc k) i at)
unfolding whole lines_from following ◌then◌
lines_unfold {A} line k i at = by_line (line i at)
  where
    by_end : (a : A) (l : List A) (s : Step ℕ) → ((s then λ z p. found l p) then λ m q. found (a ∷ m) q) ≡ (s then λ z p. found (a ∷ l) p)
    by_end a l (found z p) = refl
    by_end a l (refused n p) = refl

    by_line : (s : Step A) → (s then λ a p. whole (lines_from line k (i + 1) p) then λ l q. found (a ∷ l) q) ≡ whole (following s (λ a next. lines_from line k (i + 1) next))
    by_line (found a p) = by_end a (lines_from line k (i + 1) p).values (lines_from line k (i + 1) p).end
    by_line (refused n p) = refl

module _ {A : Type 0} (text : A → List ℕ) where
  abbrev Rest : (ℕ → A → Type 0) → (k i : ℕ) → List A → List ℕ → Type 0
  Rest P k i = Seq (Text (P i) text) λ a. Seq (Texts P text k (i + 1)) λ l. Empty (a ∷ l)

  texts_to : (P : ℕ → A → Type 0) (k i : ℕ) (l : List A) (w : List ℕ) → Rest P k i l w → Texts P text (suc k) i l w
  unfolding text_of
  texts_to P k i l w m =
      let a = m.second in
      let d = a.second in
      let e : m.value ∷ a.value ≡ l = sym d.value in
      subst (λ (x : List A). Texts P text (suc k) i x w) e
      record {
        size = ap suc a.first.size;
        each = more_from m.first.holds a.first.each;
        word =
            m.whole ∙ ap (λ (z : List ℕ). z ++ m.right) m.first.word ∙ ap (λ (z : List ℕ). text m.value ++ z)
            (a.whole ∙ ap (λ (z : List ℕ). z ++ a.right) a.first.word ∙ ap (λ (z : List ℕ). text_of text a.value ++ z) d.word ∙ append-nil (text_of text a.value));
      }

  texts_from : (P : ℕ → A → Type 0) (k i : ℕ) (l : List A) (w : List ℕ) → Texts P text (suc k) i l w → Rest P k i l w
  unfolding text_of
  texts_from P k i l w m = by_list m.each m.size m.word
    where
      by_list : {l : List A} → EachFrom P i l → length l ≡ suc k → w ≡ text_of text l → Seq (Text (P i) text) (λ a. Seq (Texts P text k (i + 1)) λ l. Empty (a ∷ l)) l w
      by_list none_from s e = absurd (omega arith)
      by_list (more_from {a = a} {l = l} p r) s e =
          record {
            value = a;
            left = text a;
            right = text_of text l ++ [];
            first = record { holds = p; word = refl };
            whole = e ∙ ap (λ (z : List ℕ). text a ++ z) (sym (append-nil (text_of text l)));
            second = record {
              value = l;
              left = text_of text l;
              right = [];
              first = record { size = less s; each = r; word = refl };
              whole = refl;
              second = record { value = refl; word = refl };
            };
          }
        where
          less : suc (length l) ≡ suc k → length l ≡ k
          less s = omega arith

pub reads_lines : {A : Type 0} (line : List ℕ → ℕ → ℕ → Step A) (P Q : ℕ → A → Type 0) (text : A → List ℕ) → ((i : ℕ) → Reads (λ t at. line t i at) (Text (P i) text) (Text (Q i) text)) → (count i : ℕ)
    → Reads (λ t at. whole (lines_from (line t) count i at)) (Texts P text count i) (Texts Q text count i)
unfolding lines_from whole ◌then◌ text_of
reads_lines {A} line P Q text r zero i = reads_as (λ t at. refl) (to P) (from P) (to Q) (from Q) (reads_value [])
  where
    to : (P : ℕ → A → Type 0) (l : List A) (w : List ℕ) → Empty [] l w → Texts P text 0 i l w
    to P l w m = subst (λ (x : List A). Texts P text 0 i x w) (sym m.value) record { size = refl; each = none_from; word = m.word }

    from : (P : ℕ → A → Type 0) (l : List A) (w : List ℕ) → Texts P text 0 i l w → Empty [] l w
    from P [] w m = record { value = refl; word = m.word }
    from P (x ∷ l) w m = let z = m.size in absurd (omega arith)
reads_lines {A} line P Q text r (suc count) i =
    reads_as (λ t at. lines_unfold (line t) count i at) (texts_to text P count i) (texts_from text P count i) (texts_to text Q count i) (texts_from text Q count i)
    (reads_then (r i) λ a. reads_then (reads_lines line P Q text r count (i + 1)) λ l. reads_value (a ∷ l))

pub each_map : {A : Type 0} {P Q : ℕ → A → Type 0} {i : ℕ} {l : List A} → ((i : ℕ) (a : A) → P i a → Q i a) → EachFrom P i l → EachFrom Q i l
each_map h none_from = none_from
each_map h (more_from p r) = more_from (h _ _ p) (each_map h r)
