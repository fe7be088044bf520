-- What it is for a step to read a language: it accepts the words of W and gives their values, refuses with 16 only what begins no word of
-- G, and where it refuses depends on nothing after that place.
use Rattle.std.specs.Prelude.{ℕ, ◌+◌, ◌≤◌, List, [], ◌++◌, ◌∷◌, ◌≡◌, length, take}
use Rattle.format_read.specs.Lines.{text_of}
use Rattle.format_read.specs.Stands.{Stands}
use Rattle.format_read.specs.Step.{Step, found, refused}

-- A word of G is read, or refused for another reason than its form.
pub data NotMalformed {A : Type 0} (s : Step A) (a : A) (p : ℕ) : Type 0 where
  read : s ≡ found a p → NotMalformed s a p
  otherwise : {n q : ℕ} → s ≡ refused n q → (n ≡ 16 → ⊥) → NotMalformed s a p

-- A word that stands at an offset, and where it ends.
pub record Word {A : Type 0} (W : A → List ℕ → Type 0) (t : List ℕ) (at : ℕ) (a : A) (p : ℕ) : Type 0 where
  pub word : List ℕ
  pub member : W a word
  pub ends : p ≡ at + length word
  pub stands : Stands t at word

-- The first p bytes go on to a word at an offset.
pub record Extends {A : Type 0} (G : A → List ℕ → Type 0) (t : List ℕ) (at p : ℕ) : Type 0 where
  pub value : A
  pub word : List ℕ
  pub member : G value word
  pub rest : List ℕ
  pub whole : take p t ++ rest ≡ take at t ++ word

-- A step reads the words of W, which are words of G: it finds their values and nothing else, and a word of G is not malformed. Where it refuses
-- with 16, the bytes before that place go on to a word of G, and nothing behind that place matters.
pub record Reads {A : Type 0} (f : List ℕ → ℕ → Step A) (W G : A → List ℕ → Type 0) : Type 0 where
  pub complete : (t : List ℕ) (at : ℕ) (a : A) (w : List ℕ) → W a w → Stands t at w → f t at ≡ found a (at + length w)
  pub sound : (t : List ℕ) (at : ℕ) (a : A) (p : ℕ) → at ≤ length t → f t at ≡ found a p → Word W t at a p
  pub not_malformed : (t : List ℕ) (at : ℕ) (a : A) (w : List ℕ) → G a w → Stands t at w → NotMalformed (f t at) a (at + length w)
  pub same : (t u : List ℕ) (at p : ℕ) → at ≤ length t → f t at ≡ refused 16 p → take (p + 1) t ≡ take (p + 1) u → f u at ≡ refused 16 p
  pub place : (t : List ℕ) (at p : ℕ) → at ≤ length t → f t at ≡ refused 16 p → (at ≤ p) × (p ≤ length t)
  pub extends : (t : List ℕ) (at p : ℕ) → at ≤ length t → f t at ≡ refused 16 p → Extends G t at p
  pub some : (a : A) × (w : List ℕ) × G a w
  pub well : (a : A) (w : List ℕ) → W a w → G a w

-- The same of a step whose words end only before a place of which B holds: there they are read. What is read is read again from a text that agrees
-- up to the byte behind it.
pub record ReadsBefore {A : Type 0} (B : List ℕ → ℕ → Type 0) (f : List ℕ → ℕ → Step A) (W G : A → List ℕ → Type 0) : Type 0 where
  pub complete : (t : List ℕ) (at : ℕ) (a : A) (w : List ℕ) → W a w → Stands t at w → B t (at + length w) → f t at ≡ found a (at + length w)
  pub sound : (t : List ℕ) (at : ℕ) (a : A) (p : ℕ) → at ≤ length t → f t at ≡ found a p → Word W t at a p
  pub again : (t u : List ℕ) (at : ℕ) (a : A) (p : ℕ) → at ≤ length t → take (p + 1) t ≡ take (p + 1) u → f t at ≡ found a p → f u at ≡ found a p
  pub not_malformed : (t : List ℕ) (at : ℕ) (a : A) (w : List ℕ) → G a w → Stands t at w → B t (at + length w) → NotMalformed (f t at) a (at + length w)
  pub same : (t u : List ℕ) (at p : ℕ) → at ≤ length t → f t at ≡ refused 16 p → take (p + 1) t ≡ take (p + 1) u → f u at ≡ refused 16 p
  pub place : (t : List ℕ) (at p : ℕ) → at ≤ length t → f t at ≡ refused 16 p → (at ≤ p) × (p ≤ length t)
  pub extends : (t : List ℕ) (at p : ℕ) → at ≤ length t → f t at ≡ refused 16 p → Extends G t at p
  pub some : (a : A) × (w : List ℕ) × G a w
  pub well : (a : A) (w : List ℕ) → W a w → G a w

-- Every place.
abbrev pub Anywhere : List ℕ → ℕ → Type 0
Anywhere t p = Unit {0}

-- Words one after the other.
pub record Seq {A B : Type 0} (W : A → List ℕ → Type 0) (X : A → B → List ℕ → Type 0) (b : B) (w : List ℕ) : Type 0 where
  pub value : A
  pub left : List ℕ
  pub right : List ℕ
  pub first : W value left
  pub second : X value b right
  pub whole : w ≡ left ++ right

-- The empty word, for the value b.
pub record Empty {B : Type 0} (b : B) (c : B) (w : List ℕ) : Type 0 where
  pub value : c ≡ b
  pub word : w ≡ []

-- These bytes, with the value 0.
pub record Fixed (bytes : List ℕ) (a : ℕ) (w : List ℕ) : Type 0 where
  pub value : a ≡ 0
  pub word : w ≡ bytes

-- The text of a value of which P holds.
pub record Text {A : Type 0} (P : A → Type 0) (text : A → List ℕ) (a : A) (w : List ℕ) : Type 0 where
  pub holds : P a
  pub word : w ≡ text a

-- P holds of each member of a list.
pub data Each {A : Type 0} (P : A → Type 0) : List A → Type 0 where
  none : Each P []
  more : {a : A} {l : List A} → P a → Each P l → Each P (a ∷ l)

-- P holds of each member, at its place from i on.
pub data EachFrom {A : Type 0} (P : ℕ → A → Type 0) : ℕ → List A → Type 0 where
  none_from : {i : ℕ} → EachFrom P i []
  more_from : {i : ℕ} {a : A} {l : List A} → P i a → EachFrom P (i + 1) l → EachFrom P i (a ∷ l)

pub record Texts {A : Type 0} (P : ℕ → A → Type 0) (text : A → List ℕ) (count i : ℕ) (l : List A) (w : List ℕ) : Type 0 where
  pub size : length l ≡ count
  pub each : EachFrom P i l
  pub word : w ≡ text_of text l

-- A step looks at no more than b bytes from its offset on, ends among them, and its value satisfies P.
pub record LooksWithin {A : Type 0} (f : List ℕ → ℕ → Step A) (b : ℕ) (P : A → Type 0) : Type 0 where
  pub same : (t u : List ℕ) (at : ℕ) → take (at + b) t ≡ take (at + b) u → f t at ≡ f u at
  pub near : (t : List ℕ) (at : ℕ) (a : A) (p : ℕ) → f t at ≡ found a p → (p ≤ at + b) × P a

abbrev pub Any : {A : Type 0} → A → Type 0
Any a = Unit {0}
