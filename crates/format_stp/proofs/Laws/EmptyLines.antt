-- Empty lines before a word: they are passed over, and what is read behind them is read with them. The word must not begin with byte 10 itself.
use Prim.Native.Nat.{ℕ, zero, suc, ◌+◌, ◌≤◌, ◌<◌}
use Rattle.std.proofs.Common.{add-zero, add-one, sym, ◌∙◌, subst, drop_of_length-le, length-drop, drop-cons, get_or-drop, ltb-true, ltb-false, eqb-true, eq-eqb, ne_eqb}
use native.Mathlib.Omega.{arith}
use Rattle.std.specs.Prelude.{Bool, true, false, cond, ◌≡◌, eqb, ltb, drop}
use mathlib.Core.List.{List, [], ◌∷◌, ◌++◌, append_assoc}
use Rattle.std.proofs.Math.Path.{refl, ap}
use Rattle.std.proofs.Math.ListN.{length, get_or, take, replicate, length-append}
use Rattle.std.proofs.lemmas.Bool.{eqb-false}
use Rattle.format_write.specs.Key.{newline}
use Rattle.format_read.specs.Language.{Reads, NotMalformed, read, otherwise, Word, Extends}
use Rattle.format_read.proofs.Laws.Bytes.{read_same}
use Rattle.format_read.proofs.Laws.Stands.{stands_append, stands_first, stands_second, stands_head, stands_same, part_stands}
use Rattle.format_read.specs.Stands.{Stands}
use Rattle.format_read.specs.Step.{Step, found, refused}
use Rattle.format_stp.specs.StpWord.{empty_lines, after_empty, AfterEmpty}

-- One turn of a loop over empty lines.
pub empty_more : (t : List ℕ) (at : ℕ) → at < length t → get_or t at 0 ≡ newline → empty_lines (drop at t) ≡ suc (empty_lines (drop (at + 1) t))
unfolding empty_lines
empty_more t at h e = rw (drop-cons t at 0 h, eq-eqb (get_or t at 0) newline e, add-one at) refl

pub empty_none : (t : List ℕ) (at : ℕ) → (get_or t at 0 ≡ newline → ⊥) → empty_lines (drop at t) ≡ 0
unfolding empty_lines
empty_none t at n = by_end (ltb at (length t)) refl
  where
    by_end : (b : Bool) → ltb at (length t) ≡ b → empty_lines (drop at t) ≡ 0
    by_end true h = rw (drop-cons t at 0 (ltb-true at (length t) h), ne_eqb (get_or t at 0) newline n) refl
    by_end false h = ap empty_lines (drop_of_length-le t (ltb-false at (length t) h))

-- So many empty lines stand there, and no other follows.
pub empty_count : (t : List ℕ) (k at : ℕ) → Stands t at (replicate k newline) → (get_or t (at + k) 0 ≡ newline → ⊥) → empty_lines (drop at t) ≡ k
empty_count t zero at s n = empty_none t at (subst (λ (i : ℕ). get_or t i 0 ≡ newline → ⊥) (add-zero at) n)
empty_count t (suc k) at s n =
    let f = s.fits in
    let z : at + 1 + k ≡ at + suc k = omega arith in
    empty_more t at (omega arith) (stands_head s)
    ∙ ap suc (empty_count t k (at + 1) (stands_second (newline ∷ []) (replicate k newline) s) (subst (λ (i : ℕ). get_or t i 0 ≡ newline → ⊥) (sym z) n))

length_lines : (k : ℕ) → length (replicate k newline) ≡ k
length_lines zero = refl
length_lines (suc k) = ap suc (length_lines k)

take_lines : (l : List ℕ) → take (empty_lines l) l ≡ replicate (empty_lines l) newline
unfolding empty_lines
take_lines [] = refl
take_lines (b ∷ l) = by_byte_law (eqb b newline) refl (take_lines l)
  where
    by_byte_law : (c : Bool) → eqb b newline ≡ c → take (empty_lines l) l ≡ replicate (empty_lines l) newline → take (cond c (suc (empty_lines l)) 0) (b ∷ l) ≡ replicate (cond c (suc (empty_lines l)) 0) newline
    by_byte_law true e ih = ap (λ (x : ℕ). x ∷ take (empty_lines l) l) (eqb-true b newline e) ∙ ap (λ (r : List ℕ). newline ∷ r) ih
    by_byte_law false e ih = refl

few_lines : (l : List ℕ) → empty_lines l ≤ length l
unfolding empty_lines
few_lines [] = omega arith
few_lines (b ∷ l) = by_byte_law (eqb b newline) (few_lines l)
  where
    by_byte_law : (c : Bool) → empty_lines l ≤ length l → cond c (suc (empty_lines l)) 0 ≤ suc (length l)
    by_byte_law true h = omega arith
    by_byte_law false h = omega arith

lines_end : (l : List ℕ) → get_or l (empty_lines l) 0 ≡ newline → ⊥
unfolding empty_lines
lines_end [] e = omega arith
lines_end (b ∷ l) e = by_byte_law (eqb b newline) refl (lines_end l) e
  where
    by_byte_law : (c : Bool) → eqb b newline ≡ c → (get_or l (empty_lines l) 0 ≡ newline → ⊥) → get_or (b ∷ l) (cond c (suc (empty_lines l)) 0) 0 ≡ newline → ⊥
    by_byte_law true e ih q = ih q
    by_byte_law false e ih q = eqb-false b newline e q

-- The empty lines at an offset: they stand there, and no other follows.
pub record EmptyThere (t : List ℕ) (at k : ℕ) : Type 0 where
  pub stands : Stands t at (replicate k newline)
  pub inside : at + k ≤ length t
  pub other : get_or t (at + k) 0 ≡ newline → ⊥

pub empty_there : (t : List ℕ) (at : ℕ) → at ≤ length t → EmptyThere t at (empty_lines (drop at t))
empty_there t at h =
    let k : ℕ = empty_lines (drop at t) in
    let few : k ≤ length (drop at t) = few_lines (drop at t) in
    let d = length-drop at t in
    let i : at + k ≤ length t = omega arith in
    record {
      stands = subst (Stands t at) (take_lines (drop at t)) (part_stands t at k i);
      inside = i;
      other = λ e. lines_end (drop at t) (get_or-drop at t k 0 ∙ e);
    }

-- A word that does not begin with byte 10, and is not empty.
pub record StartsOther (w : List ℕ) : Type 0 where
  pub some : 0 < length w
  pub other : get_or w 0 0 ≡ newline → ⊥

first_byte : {t : List ℕ} {at : ℕ} (w : List ℕ) → 0 < length w → Stands t at w → get_or t at 0 ≡ get_or w 0 0
first_byte [] h s = absurd (omega arith)
first_byte (b ∷ w) h s = stands_head s

module _ {A : Type 0} {f : List ℕ → ℕ → Step A} {W G : A → List ℕ → Type 0} (r : Reads f W G) (starts : (a : A) (w : List ℕ) → G a w → StartsOther w) where
  -- Where the word stands, behind its empty lines.
  record Behind (t : List ℕ) (at : ℕ) (v : List ℕ) (length_w : ℕ) : Type 0 where
    start : ℕ
    empty : empty_lines (drop at t) ≡ start
    stands : Stands t (at + start) v
    ends : at + start + length v ≡ at + length_w

  behind : {X : A → List ℕ → Type 0} {a : A} {w : List ℕ} (t : List ℕ) (at : ℕ) (m : AfterEmpty X a w) → StartsOther m.word → Stands t at w → Behind t at m.word (length w)
  behind t at m o s =
      let k : ℕ = m.empty in
      let s' : Stands t at (replicate k newline ++ m.word) = subst (Stands t at) m.whole s in
      let l : length (replicate k newline) ≡ k = length_lines k in
      let b : Stands t (at + k) m.word = subst (λ (i : ℕ). Stands t (at + i) m.word) l (stands_second (replicate k newline) m.word s') in
      let e : get_or t (at + k) 0 ≡ get_or m.word 0 0 = first_byte m.word o.some b in
      let g = length-append (replicate k newline) m.word in
      let n = ap length m.whole in
      record {
        start = k;
        empty = empty_count t k at (stands_first (replicate k newline) m.word s') (λ q. o.other (sym e ∙ q));
        stands = b;
        ends = omega arith;
      }

  at_word : (t : List ℕ) (at : ℕ) {v : List ℕ} {n : ℕ} (b : Behind t at v n) → after_empty f t at ≡ f t (at + b.start)
  unfolding after_empty
  at_word t at b = ap (λ (k : ℕ). f t (at + k)) b.empty

  skip_complete : (t : List ℕ) (at : ℕ) (a : A) (w : List ℕ) → AfterEmpty W a w → Stands t at w → after_empty f t at ≡ found a (at + length w)
  skip_complete t at a w m s =
      let b = behind t at m (starts a m.word (r.well a m.word m.member)) s in
      at_word t at b ∙ r.complete t (at + b.start) a m.word m.member b.stands ∙ ap (λ (k : ℕ). found a k) b.ends

  skip_not_malformed : (t : List ℕ) (at : ℕ) (a : A) (w : List ℕ) → AfterEmpty G a w → Stands t at w → NotMalformed (after_empty f t at) a (at + length w)
  skip_not_malformed t at a w m s =
      let b = behind t at m (starts a m.word m.member) s in
      by_word b (r.not_malformed t (at + b.start) a m.word m.member b.stands)
    where
      by_word : (b : Behind t at m.word (length w)) → NotMalformed (f t (at + b.start)) a (at + b.start + length m.word) → NotMalformed (after_empty f t at) a (at + length w)
      by_word b (read e) = read (at_word t at b ∙ e ∙ ap (λ (k : ℕ). found a k) b.ends)
      by_word b (otherwise e n) = otherwise (at_word t at b ∙ e) n

  skip_sound : (t : List ℕ) (at : ℕ) (a : A) (p : ℕ) → at ≤ length t → after_empty f t at ≡ found a p → Word (AfterEmpty W) t at a p
  unfolding after_empty
  skip_sound t at a p h e =
      let k : ℕ = empty_lines (drop at t) in
      let y = empty_there t at h in
      let w = r.sound t (at + k) a p y.inside e in
      let we = w.ends in
      let l : length (replicate k newline) ≡ k = length_lines k in
      let g = length-append (replicate k newline) w.word in
      record {
        word = replicate k newline ++ w.word;
        member = record { empty = k; word = w.word; member = w.member; whole = refl };
        ends = omega arith;
        stands = stands_append (replicate k newline) w.word y.stands (subst (λ (i : ℕ). Stands t (at + i) w.word) (sym l) w.stands);
      }

  skip_place : (t : List ℕ) (at p : ℕ) → at ≤ length t → after_empty f t at ≡ refused 16 p → (at ≤ p) × (p ≤ length t)
  unfolding after_empty
  skip_place t at p h e =
      let y = empty_there t at h in
      let q = r.place t (at + empty_lines (drop at t)) p y.inside e in
      let a = q.0 in
      (omega arith, q.1)

  skip_same : (t u : List ℕ) (at p : ℕ) → at ≤ length t → after_empty f t at ≡ refused 16 p → take (p + 1) t ≡ take (p + 1) u → after_empty f u at ≡ refused 16 p
  unfolding after_empty
  skip_same t u at p h e c =
      let k : ℕ = empty_lines (drop at t) in
      let y = empty_there t at h in
      let q = r.place t (at + k) p y.inside e in
      let a = q.0 in
      let l : length (replicate k newline) ≡ k = length_lines k in
      let s : Stands u at (replicate k newline) = stands_same (p + 1) c (omega arith) y.stands in
      let b : get_or t (at + k) 0 ≡ get_or u (at + k) 0 = read_same t u (p + 1) (at + k) c (omega arith) in
      ap (λ (i : ℕ). f u (at + i)) (empty_count u k at s (λ z. y.other (b ∙ z)))
      ∙ r.same t u (at + k) p y.inside e c

  skip_extends : (t : List ℕ) (at p : ℕ) → at ≤ length t → after_empty f t at ≡ refused 16 p → Extends (AfterEmpty G) t at p
  unfolding after_empty
  skip_extends t at p h e =
      let k : ℕ = empty_lines (drop at t) in
      let y = empty_there t at h in
      let x = r.extends t (at + k) p y.inside e in
      let l : length (replicate k newline) ≡ k = length_lines k in
      let s : take (at + k) t ≡ take at t ++ replicate k newline = ap (λ (i : ℕ). take (at + i) t) (sym l) ∙ y.stands.is in
      record {
        value = x.value;
        word = replicate k newline ++ x.word;
        member = record { empty = k; word = x.word; member = x.member; whole = refl };
        rest = x.rest;
        whole = x.whole ∙ ap (λ (z : List ℕ). z ++ x.word) s ∙ append_assoc (take at t) (replicate k newline) x.word;
      }

  pub reads_after_empty : Reads (after_empty f) (AfterEmpty W) (AfterEmpty G)
  reads_after_empty =
      record {
        complete = skip_complete;
        sound = skip_sound;
        not_malformed = skip_not_malformed;
        same = skip_same;
        place = skip_place;
        extends = skip_extends;
        some = (r.some.0, r.some.1, record { empty = 0; word = r.some.1; member = r.some.2; whole = refl });
        well = λ a w m. record { empty = m.empty; word = m.word; member = r.well a m.word m.member; whole = m.whole };
      }
