-- Words and readers that the subset is made of: what stands behind empty lines, a byte that decides, lines one after another, a comment.
use Rattle.std.specs.Prelude.{ℕ, suc, ◌+◌, Bool, true, ◌&&◌, cond, List, [], ◌∷◌, ◌++◌, ◌≡◌, eqb, ltb, length, get_or, drop, replicate}
use Prim.Native.Char.{code}
use Rattle.base_limits.specs.declared.Verdict.{Verdict}
use Rattle.base_limits.specs.declared.Verdict.TheVariants.{Fine, Refused}
use Rattle.format_write.specs.Key.{newline}
use Rattle.format_read.specs.Step.{Step, found, refused}
use Rattle.format_stp.specs.StpKey.{end_word}

-- ---- empty lines

-- So many empty lines stand at the front.
unfoldable pub empty_lines : List ℕ → ℕ
empty_lines [] = 0
empty_lines (b ∷ l) = cond (eqb b newline) (suc (empty_lines l)) 0

-- What is read behind empty lines.
unfoldable pub after_empty : {A : Type 0} → (List ℕ → ℕ → Step A) → List ℕ → ℕ → Step A
after_empty f t at = f t (at + empty_lines (drop at t))

-- A word with any number of empty lines before it.
pub record AfterEmpty {A : Type 0} (W : A → List ℕ → Type 0) (a : A) (w : List ℕ) : Type 0 where
  pub empty : ℕ
  pub word : List ℕ
  pub member : W a word
  pub whole : w ≡ replicate empty newline ++ word

-- ---- a byte that decides what follows

-- One of the bytes that pass, and what is read behind it.
unfoldable pub by_byte : {A : Type 0} → (pass : ℕ → Bool) → (ℕ → List ℕ → ℕ → Step A) → List ℕ → ℕ → Step A
by_byte pass next t at = cond (ltb at (length t) && pass (get_or t at 0)) (next (get_or t at 0) t (at + 1)) (refused 16 at)

-- Such a byte, and a word behind it.
pub record ByByte {A : Type 0} (pass : ℕ → Bool) (W : ℕ → A → List ℕ → Type 0) (a : A) (w : List ℕ) : Type 0 where
  pub byte : ℕ
  pub rest : List ℕ
  pub passes : pass byte ≡ true
  pub member : W byte a rest
  pub whole : w ≡ byte ∷ rest

-- ---- words one after another, as many as were announced

pub data Repeated {A : Type 0} (W : A → List ℕ → Type 0) : (count : ℕ) → List A → List ℕ → Type 0 where
  none : Repeated W 0 [] []
  one : {count : ℕ} {a : A} {l : List A} {v w : List ℕ} → W a v → Repeated W count l w → Repeated W (suc count) (a ∷ l) (v ++ w)

-- ---- a test when a line is complete

-- What is read on, where the test has passed.
unfoldable pub guarded : {A : Type 0} → Verdict → Step A → Step A
guarded Fine s = s
guarded (Refused number place) s = refused number place

-- ---- a comment's lines, up to the first that is END

-- A line: any bytes but 10.
pub data OneLine : List ℕ → Type 0 where
  end : OneLine []
  byte : {b : ℕ} {l : List ℕ} → (b ≡ newline → ⊥) → OneLine l → OneLine (b ∷ l)

pub data CommentLines : List ℕ → Type 0 where
  last : CommentLines (end_word ++ newline ∷ [])
  line : {l w : List ℕ} → OneLine l → (l ≡ end_word → ⊥) → CommentLines w → CommentLines (l ++ newline ∷ w)

-- The same as a word, whose value is 0.
pub record CommentWord (a : ℕ) (w : List ℕ) : Type 0 where
  pub value : a ≡ 0
  pub lines : CommentLines w

-- How much of END a line has shown: 0 to 3 letters, and 4 where it is another line.
unfoldable pub shown : (before b : ℕ) → ℕ
shown before b =
    cond (eqb before 0 && eqb b (code "E")) 1 (cond (eqb before 1 && eqb b (code "N")) 2 (cond (eqb before 2 && eqb b (code "D")) 3 4))

-- The lines of a comment, from inside a line on that has shown so much.
unfoldable pub comment_from : (before : ℕ) → List ℕ → (at : ℕ) → Step ℕ
comment_from before [] at = refused 16 at
comment_from before (b ∷ l) at =
    cond (eqb b newline)
    (cond (eqb before 3) (found 0 (at + 1)) (comment_from 0 l (at + 1)))
    (comment_from (shown before b) l (at + 1))

unfoldable pub comment_at : List ℕ → (at : ℕ) → Step ℕ
comment_at t at = comment_from 0 (drop at t) at
