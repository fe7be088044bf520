-- Items one after another, as many as there are (document 01, 'Survey text and printed plan': the keep lines, the moat lines, the
-- members of a moat). What may follow an item is a state that the items before it decide.
use Rattle.std.specs.Prelude.{ℕ, zero, suc, ◌+◌, ◌≤◌, ◌<◌, Bool, cond, true, false, List, [], ◌∷◌, ◌++◌, ◌≡◌, length, take}
use Rattle.format_read.specs.Language.{Word, Extends, Text}
use Rattle.format_read.specs.Lines.{Lines, following}
use Rattle.format_read.specs.Step.{Step, found, refused}

-- How items are read: where they end, the item at a place, and what it leaves for those behind it.
pub record ItemReader (S A : Type 0) : Type 0 where
  pub stop : (at : ℕ) → Bool
  pub item : (state : S) → (i at : ℕ) → Step A
  pub after : (state : S) → A → S

-- The items from offset at on, of which the first is item i; at most fuel. A text has no more items than bytes, so that its length is fuel enough.
unfoldable pub items_from : {S A : Type 0} → ItemReader S A → (fuel : ℕ) → (state : S) → (i at : ℕ) → Lines S A
items_from r zero state i at = record { values = []; end = refused 16 at }
items_from r (suc fuel) state i at =
    cond (r.stop at)
    (record { values = []; end = found state at })
    (following (r.item state i at) (λ a next. items_from r fuel (r.after state a) (i + 1) next))

-- What storing items one after another leaves in a buffer.
unfoldable pub puts : {A : Type 0} → (put : List ℕ → ℕ → A → List ℕ) → (buffer : List ℕ) (i : ℕ) → List A → List ℕ
puts put buffer i [] = buffer
puts put buffer i (a ∷ rest) = puts put (put buffer i a) (i + 1) rest

-- What is known of the end of a loop: its answer, and the buffer.
pub record Ends {S A : Type 0} (put : List ℕ → ℕ → A → List ℕ) (whole : Lines S A) (old : List ℕ) (step : Step S) (buffer : List ℕ) : Type 0 where
  pub end : step ≡ whole.end
  pub stored : buffer ≡ puts put old 0 whole.values

-- A step from one offset of a text to a later one.
pub record Goes (t : List ℕ) (at p : ℕ) : Type 0 where
  pub on : at < p
  pub inside : p ≤ length t

-- Items that stand one after another from an offset on, and what follows them.
pub data Standing {S A : Type 0} (r : ItemReader S A) : (low : S) (i at : ℕ) → List A → (last : S) (end : ℕ) → Type 0 where
  stop : {low : S} {i at : ℕ} → r.stop at ≡ true → Standing r low i at [] low at
  item : {low : S} {i at next : ℕ} {last : S} {end : ℕ} {a : A} {l : List A} → r.stop at ≡ false → r.item low i at ≡ found a next
      → Standing r (r.after low a) (i + 1) next l last end → Standing r low i at (a ∷ l) last end

-- Items that stand one after another up to one that is refused.
pub data Broken {S A : Type 0} (r : ItemReader S A) (n q : ℕ) : (low : S) (i at : ℕ) → List A → Type 0 where
  here : {low : S} {i at : ℕ} → r.stop at ≡ false → r.item low i at ≡ refused n q → Broken r n q low i at []
  later : {low : S} {i at next : ℕ} {a : A} {l : List A} → r.stop at ≡ false → r.item low i at ≡ found a next → Broken r n q (r.after low a) (i + 1) next l → Broken r n q low i at (a ∷ l)

-- The texts of items of which the first is item i.
unfoldable pub text_from : {A : Type 0} → (ℕ → A → List ℕ) → (i : ℕ) → List A → List ℕ
text_from text i [] = []
text_from text i (a ∷ l) = text i a ++ text_from text (i + 1) l

-- A reader of items: item i is the text of a value with P, or refused with 16 at the first byte that no such text has there, and neither is changed by bytes past the one behind it.
pub record ListsItems {S A : Type 0} (r : List ℕ → ItemReader S A) (P : A → Type 0) (text : ℕ → A → List ℕ) : Type 0 where
  pub some : (i : ℕ) (a : A) → 0 < length (text i a)
  pub sound : (t : List ℕ) (low : S) (i at : ℕ) (a : A) (p : ℕ) → at ≤ length t → (r t).item low i at ≡ found a p → Word (Text P (text i)) t at a p
  pub place : (t : List ℕ) (low : S) (i at p : ℕ) → at ≤ length t → (r t).item low i at ≡ refused 16 p → (at ≤ p) × (p ≤ length t)
  pub extends : (t : List ℕ) (low : S) (i at p : ℕ) → at ≤ length t → (r t).item low i at ≡ refused 16 p → Extends (Text P (text i)) t at p
  pub stops : (t u : List ℕ) (at q : ℕ) → at ≤ q → take (q + 1) t ≡ take (q + 1) u → (r t).stop at ≡ (r u).stop at
  pub reads : (t u : List ℕ) (low : S) (i at : ℕ) (a : A) (p q : ℕ) → at ≤ length t → p ≤ q → take (q + 1) t ≡ take (q + 1) u → (r t).item low i at ≡ found a p → (r u).item low i at ≡ found a p
  pub after : (t u : List ℕ) (low : S) (a : A) → (r t).after low a ≡ (r u).after low a
  pub same : (t u : List ℕ) (low : S) (i at p : ℕ) → at ≤ length t → (r t).item low i at ≡ refused 16 p → take (p + 1) t ≡ take (p + 1) u → (r u).item low i at ≡ refused 16 p
