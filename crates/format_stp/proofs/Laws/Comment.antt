-- A comment is read line by line up to the first that is END, whatever else stands in it.
use Rattle.std.specs.Prelude.{ℕ, suc, ◌+◌, ◌≤◌, Bool, cond, List, [], ◌∷◌, ◌++◌, ◌≡◌, eqb, length, get_or, take, drop}
use Rattle.std.proofs.Common.{add-one, add-zero, arith, append_assoc, ap, sym, ◌∙◌, subst, length-drop, length-take, drop-cons, take_all, take-add, length-take-le}
use Rattle.std.proofs.Math.Bool.{true, false}
use Rattle.std.proofs.Math.Path.{refl}
use Rattle.std.proofs.Math.Seq.{take-length}
use borrow.Author.Tests.{eqb-true, eqb-false, eq-eqb, ne_eqb}
use Rattle.format_write.specs.Key.{newline}
use Rattle.format_read.specs.Language.{Reads, Word, Extends, read}
use Rattle.format_read.proofs.Laws.Stands.{stands_head, stands_second, part_stands}
use Rattle.format_read.specs.Stands.{Stands}
use Rattle.format_read.specs.Step.{Step, found, refused}
use Rattle.format_stp.specs.StpKey.{end_word}
use Rattle.format_stp.specs.StpWord.{OneLine, CommentLines, CommentWord, shown, comment_from, comment_at, line, last, end, byte}

-- ---- the lines, byte by byte

-- What may stand from inside a line on that has shown so much of END.
data Tail : (before : ℕ) → List ℕ → Type 0 where
  stop : {before : ℕ} → before ≡ 3 → Tail before (newline ∷ [])
  next_line : {before : ℕ} {w : List ℕ} → (before ≡ 3 → ⊥) → Tail 0 w → Tail before (newline ∷ w)
  next_byte : {before b : ℕ} {w : List ℕ} → (b ≡ newline → ⊥) → Tail (shown before b) w → Tail before (b ∷ w)

module _ (before b : ℕ) (l : List ℕ) (at : ℕ) where
  pub comment_stop : b ≡ newline → before ≡ 3 → comment_from before (b ∷ l) at ≡ found 0 (at + 1)
  unfolding comment_from
  comment_stop e f = rw (eq-eqb b newline e, eq-eqb before 3 f) refl

  pub comment_line_law : b ≡ newline → (before ≡ 3 → ⊥) → comment_from before (b ∷ l) at ≡ comment_from 0 l (at + 1)
  unfolding comment_from
  comment_line_law e n = rw (eq-eqb b newline e, ne_eqb before 3 n) refl

  pub comment_byte : (b ≡ newline → ⊥) → comment_from before (b ∷ l) at ≡ comment_from (shown before b) l (at + 1)
  unfolding comment_from
  comment_byte n = rw (ne_eqb b newline n) refl

pub comment_out : (before at : ℕ) → comment_from before [] at ≡ refused 16 at
unfolding comment_from
comment_out before at = refl

-- Such bytes, with anything behind them, are read to their end.
tail_read : {before : ℕ} {w : List ℕ} (rest : List ℕ) (at : ℕ) → Tail before w → comment_from before (w ++ rest) at ≡ found 0 (at + length w)
tail_read {before} rest at (stop e) = comment_stop before newline rest at refl e
tail_read {before} rest at (next_line {w = w} n r) =
    let z : at + 1 + length w ≡ at + suc (length w) = omega arith in
    comment_line_law before newline (w ++ rest) at refl n ∙ tail_read rest (at + 1) r ∙ ap (λ (k : ℕ). found 0 k) z
tail_read {before} rest at (next_byte {b = b} {w = w} n r) =
    let z : at + 1 + length w ≡ at + suc (length w) = omega arith in
    comment_byte before b (w ++ rest) at n ∙ tail_read rest (at + 1) r ∙ ap (λ (k : ℕ). found 0 k) z

-- What is read: such bytes, or none that end.
data TailOrNone (before : ℕ) (l : List ℕ) (at : ℕ) (s : Step ℕ) : Type 0 where
  ended : (k : ℕ) → k ≤ length l → Tail before (take k l) → s ≡ found 0 (at + k) → TailOrNone before l at s
  unended : s ≡ refused 16 (at + length l) → TailOrNone before l at s

tail_or_none : (before : ℕ) (l : List ℕ) (at : ℕ) → TailOrNone before l at (comment_from before l at)
tail_or_none before [] at = unended (comment_out before at ∙ ap (λ (k : ℕ). refused 16 k) (sym (add-zero at)))
tail_or_none before (b ∷ l) at = by_tests (eqb b newline) (eqb before 3) refl refl (λ s. tail_or_none s l (at + 1))
  where
    z : (k : ℕ) → at + 1 + k ≡ at + suc k
    z k = omega arith

    by_tests : (x y : Bool) → eqb b newline ≡ x → eqb before 3 ≡ y → ((s : ℕ) → TailOrNone s l (at + 1) (comment_from s l (at + 1))) → TailOrNone before (b ∷ l) at (comment_from before (b ∷ l) at)
    by_tests true true e f ih =
        ended 1 (omega arith) (subst (λ (x : ℕ). Tail before (x ∷ [])) (sym (eqb-true b newline e)) (stop (eqb-true before 3 f))) (comment_stop before b l at (eqb-true b newline e) (eqb-true before 3 f))
    by_tests true false e f ih = by_line (ih 0)
      where
        q : comment_from before (b ∷ l) at ≡ comment_from 0 l (at + 1)
        q = comment_line_law before b l at (eqb-true b newline e) (eqb-false before 3 f)

        by_line : TailOrNone 0 l (at + 1) (comment_from 0 l (at + 1)) → TailOrNone before (b ∷ l) at (comment_from before (b ∷ l) at)
        by_line (ended k h r s) =
            ended (suc k) (omega arith) (subst (λ (x : ℕ). Tail before (x ∷ take k l)) (sym (eqb-true b newline e)) (next_line (eqb-false before 3 f) r)) (q ∙ s ∙ ap (λ (i : ℕ). found 0 i) (z k))
        by_line (unended s) = unended (q ∙ s ∙ ap (λ (i : ℕ). refused 16 i) (z (length l)))
    by_tests false y e f ih = by_byte_law (ih (shown before b))
      where
        q : comment_from before (b ∷ l) at ≡ comment_from (shown before b) l (at + 1)
        q = comment_byte before b l at (eqb-false b newline e)

        by_byte_law : TailOrNone (shown before b) l (at + 1) (comment_from (shown before b) l (at + 1)) → TailOrNone before (b ∷ l) at (comment_from before (b ∷ l) at)
        by_byte_law (ended k h r s) = ended (suc k) (omega arith) (next_byte (eqb-false b newline e) r) (q ∙ s ∙ ap (λ (i : ℕ). found 0 i) (z k))
        by_byte_law (unended s) = unended (q ∙ s ∙ ap (λ (i : ℕ). refused 16 i) (z (length l)))

-- ---- the same as lines

-- What a whole line shows.
showing : (before : ℕ) → List ℕ → ℕ
showing before [] = before
showing before (b ∷ l) = showing (shown before b) l

other_stays : (l : List ℕ) → showing 4 l ≡ 4
unfolding showing shown
other_stays [] = refl
other_stays (b ∷ l) = other_stays l

-- A line shows all of END exactly if it is END.
module _ (b : ℕ) where
  shown_first : (c : Bool) → eqb b 69 ≡ c → shown 0 b ≡ cond c 1 4
  unfolding shown
  shown_first true e = rw e refl
  shown_first false e = rw e refl

  shown_second : (c : Bool) → eqb b 78 ≡ c → shown 1 b ≡ cond c 2 4
  unfolding shown
  shown_second true e = rw e refl
  shown_second false e = rw e refl

  shown_third : (c : Bool) → eqb b 68 ≡ c → shown 2 b ≡ cond c 3 4
  unfolding shown
  shown_third true e = rw e refl
  shown_third false e = rw e refl

  shown_over : shown 3 b ≡ 4
  unfolding shown
  shown_over = refl

never_again : {A : Type 0} (l : List ℕ) → showing 4 l ≡ 3 → A
never_again l e = let z = other_stays l in absurd (omega arith)

shows_end : (l : List ℕ) → showing 0 l ≡ 3 → l ≡ end_word
unfolding showing
shows_end [] e = absurd (omega arith)
shows_end (a ∷ l) e = first (eqb a 69) refl l e
  where
    fourth : (l : List ℕ) → showing 3 l ≡ 3 → l ≡ []
    fourth [] e = refl
    fourth (b ∷ l) e = never_again l (sym (ap (λ (s : ℕ). showing s l) (shown_over b)) ∙ e)

    third : (b : ℕ) (c : Bool) → eqb b 68 ≡ c → (l : List ℕ) → showing (shown 2 b) l ≡ 3 → b ∷ l ≡ 68 ∷ []
    third b true h l e = cc (eqb-true b 68 h, fourth l (sym (ap (λ (s : ℕ). showing s l) (shown_third b _ h)) ∙ e))
    third b false h l e = never_again l (sym (ap (λ (s : ℕ). showing s l) (shown_third b _ h)) ∙ e)

    second : (b : ℕ) (c : Bool) → eqb b 78 ≡ c → (l : List ℕ) → showing (shown 1 b) l ≡ 3 → b ∷ l ≡ 78 ∷ 68 ∷ []
    second b true h [] e = let z : ◌≡◌ {A = ℕ} 2 3 = sym (shown_second b _ h) ∙ e in absurd (omega arith)
    second b true h (d ∷ l) e = cc (eqb-true b 78 h, third d (eqb d 68) refl l (sym (ap (λ (s : ℕ). showing (shown s d) l) (shown_second b _ h)) ∙ e))
    second b false h l e = never_again l (sym (ap (λ (s : ℕ). showing s l) (shown_second b _ h)) ∙ e)

    first : (c : Bool) → eqb a 69 ≡ c → (l : List ℕ) → showing (shown 0 a) l ≡ 3 → a ∷ l ≡ end_word
    first true h [] e = let z : ◌≡◌ {A = ℕ} 1 3 = sym (shown_first a _ h) ∙ e in absurd (omega arith)
    first true h (d ∷ l) e = cc (eqb-true a 69 h, second d (eqb d 78) refl l (sym (ap (λ (s : ℕ). showing (shown s d) l) (shown_first a _ h)) ∙ e))
    first false h l e = never_again l (sym (ap (λ (s : ℕ). showing s l) (shown_first a _ h)) ∙ e)

end_shows : showing 0 end_word ≡ 3
unfolding showing shown
end_shows = refl

-- A line and what may stand behind it.
line_tail : {l w : List ℕ} (before : ℕ) → OneLine l → Tail (showing before l) w → Tail before (l ++ w)
unfolding showing
line_tail before end t = t
line_tail before (byte n r) t = next_byte n (line_tail _ r t)

lines_tail : {w : List ℕ} → CommentLines w → Tail 0 w
lines_tail last = line_tail 0 end_line_law (subst (λ (s : ℕ). Tail s (newline ∷ [])) (sym end_shows) (stop refl))
  where
    end_line_law : OneLine end_word
    end_line_law = byte (eqb-false 69 newline refl) (byte (eqb-false 78 newline refl) (byte (eqb-false 68 newline refl) end))
lines_tail (line {l = l} o n r) = line_tail 0 o (next_line (λ e. n (shows_end l e)) (lines_tail r))

-- The line that has been met so far, and what stands behind it.
data Behind (seen : ℕ) (rest : List ℕ) : Type 0 where
  nothing : seen ≡ 3 → rest ≡ [] → Behind seen rest
  lines : (seen ≡ 3 → ⊥) → CommentLines rest → Behind seen rest

record Split (before : ℕ) (w : List ℕ) : Type 0 where
  this : List ℕ
  one : OneLine this
  rest : List ℕ
  whole : w ≡ this ++ newline ∷ rest
  behind : Behind (showing before this) rest

split_lines : {w : List ℕ} → Split 0 w → CommentLines w
split_lines {w} s = by_rest s.behind
  where
    by_rest : Behind (showing 0 s.this) s.rest → CommentLines w
    by_rest (nothing e r) = subst CommentLines (sym (s.whole ∙ (λ i. shows_end s.this e i ++ newline ∷ r i))) last
    by_rest (lines n r) = subst CommentLines (sym s.whole) (line s.one (λ e. n (ap (showing 0) e ∙ end_shows)) r)

tail_split : {before : ℕ} {w : List ℕ} → Tail before w → Split before w
unfolding showing
tail_split (stop e) = record { this = []; one = end; rest = []; whole = refl; behind = nothing e refl }
tail_split (next_line {w = w} n r) = record { this = []; one = end; rest = w; whole = refl; behind = lines n (split_lines (tail_split r)) }
tail_split (next_byte {b = b} n r) =
    let s = tail_split r in
    record { this = b ∷ s.this; one = byte n s.one; rest = s.rest; whole = ap (λ (l : List ℕ). b ∷ l) s.whole; behind = s.behind }

tail_lines : {w : List ℕ} → Tail 0 w → CommentLines w
tail_lines t = split_lines (tail_split t)

-- ---- the reader

stands_drop : {t : List ℕ} {at : ℕ} (w : List ℕ) → Stands t at w → drop at t ≡ w ++ drop (at + length w) t
stands_drop {t} {at} [] s = ap (λ (k : ℕ). drop k t) (sym (add-zero at))
stands_drop {t} {at} (b ∷ w) s =
    let f = s.fits in
    let z : at + 1 + length w ≡ at + suc (length w) = omega arith in
    drop-cons t at 0 (omega arith)
    ∙ ap (λ (l : List ℕ). get_or t at 0 ∷ l) (ap (λ (k : ℕ). drop k t) (sym (add-one at)) ∙ stands_drop {at = at + length (b ∷ [])} w (stands_second (b ∷ []) w s) ∙ ap (λ (k : ℕ). w ++ drop k t) z)
    ∙ ap (λ (x : ℕ). x ∷ w ++ drop (at + suc (length w)) t) (stands_head s)

comment_complete : (t : List ℕ) (at a : ℕ) (w : List ℕ) → CommentWord a w → Stands t at w → comment_at t at ≡ found a (at + length w)
unfolding comment_at
comment_complete t at a w m s =
    ap (λ (l : List ℕ). comment_from 0 l at) (stands_drop w s)
    ∙ tail_read (drop (at + length w) t) at (lines_tail m.lines)
    ∙ ap (λ (x : ℕ). found x (at + length w)) (sym m.value)

comment_sound : (t : List ℕ) (at a p : ℕ) → at ≤ length t → comment_at t at ≡ found a p → Word CommentWord t at a p
unfolding comment_at
comment_sound t at a p h e = by_case (tail_or_none 0 (drop at t) at)
  where
    by_case : TailOrNone 0 (drop at t) at (comment_from 0 (drop at t) at) → Word CommentWord t at a p
    by_case (ended k l r s) =
        let d = length-drop at t in
        let same : 0 ≡ a = cc in
        let there : at + k ≡ p = cc in
        let n : length (take k (drop at t)) ≡ k = length-take-le k (drop at t) l in
        record { word = take k (drop at t); member = record { value = sym same; lines = tail_lines r }; ends = omega arith; stands = part_stands t at k (omega arith) }
    by_case (unended s) = let z : ◌≡◌ {A = ℕ} 0 1 = cc in absurd (omega arith)

-- A comment that does not end is refused at the end of the text.
comment_place : (t : List ℕ) (at p : ℕ) → at ≤ length t → comment_at t at ≡ refused 16 p → p ≡ length t
unfolding comment_at
comment_place t at p h e = by_case (tail_or_none 0 (drop at t) at)
  where
    by_case : TailOrNone 0 (drop at t) at (comment_from 0 (drop at t) at) → p ≡ length t
    by_case (ended k l r s) = let z : ◌≡◌ {A = ℕ} 0 1 = cc in absurd (omega arith)
    by_case (unended s) = let d = length-drop at t in let q : at + length (drop at t) ≡ p = cc in omega arith

-- Any beginning of a comment goes on to one: with a line end and END.
record Completed (before : ℕ) (l : List ℕ) : Type 0 where
  more : List ℕ
  tail : Tail before (l ++ more)

end_tail : Tail 0 (end_word ++ newline ∷ [])
end_tail = lines_tail last

completed : (before : ℕ) (l : List ℕ) (at : ℕ) → comment_from before l at ≡ refused 16 (at + length l) → Completed before l
completed before [] at e = by_seen (eqb before 3) refl
  where
    by_seen : (b : Bool) → eqb before 3 ≡ b → Completed before []
    by_seen true h = record { more = newline ∷ []; tail = stop (eqb-true before 3 h) }
    by_seen false h = record { more = newline ∷ end_word ++ newline ∷ []; tail = next_line (eqb-false before 3 h) end_tail }
completed before (b ∷ l) at e = by_tests (eqb b newline) (eqb before 3) refl refl (λ s k. completed s l (at + 1) k)
  where
    z : at + 1 + length l ≡ at + suc (length l)
    z = omega arith

    by_tests : (x y : Bool) → eqb b newline ≡ x → eqb before 3 ≡ y → ((s : ℕ) → comment_from s l (at + 1) ≡ refused 16 (at + 1 + length l) → Completed s l) → Completed before (b ∷ l)
    by_tests true true f g ih = let w : ◌≡◌ {A = ℕ} 0 1 = cc (comment_stop before b l at (eqb-true b newline f) (eqb-true before 3 g)) in absurd (omega arith)
    by_tests true false f g ih =
        let c = ih 0 (sym (comment_line_law before b l at (eqb-true b newline f) (eqb-false before 3 g)) ∙ e ∙ ap (λ (k : ℕ). refused 16 k) (sym z)) in
        record { more = c.more; tail = subst (λ (x : ℕ). Tail before (x ∷ l ++ c.more)) (sym (eqb-true b newline f)) (next_line (eqb-false before 3 g) c.tail) }
    by_tests false y f g ih =
        let c = ih (shown before b) (sym (comment_byte before b l at (eqb-false b newline f)) ∙ e ∙ ap (λ (k : ℕ). refused 16 k) (sym z)) in
        record { more = c.more; tail = next_byte (eqb-false b newline f) c.tail }

comment_extends : (t : List ℕ) (at p : ℕ) → at ≤ length t → comment_at t at ≡ refused 16 p → Extends CommentWord t at p
unfolding comment_at
comment_extends t at p h e =
    let q : p ≡ length t = comment_place t at p h e in
    let d = length-drop at t in
    let z : at + length (drop at t) ≡ p = omega arith in
    let c = completed 0 (drop at t) at (e ∙ ap (λ (k : ℕ). refused 16 k) (sym z)) in
    record {
      value = 0;
      word = drop at t ++ c.more;
      member = record { value = refl; lines = tail_lines c.tail };
      rest = c.more;
      whole = ap (λ (l : List ℕ). l ++ c.more) (all q) ∙ append_assoc (take at t) (drop at t) c.more;
    }
  where
    all : p ≡ length t → take p t ≡ take at t ++ drop at t
    all q =
        let d = length-drop at t in
        let z : p ≡ at + length (drop at t) = omega arith in
        ap (λ (k : ℕ). take k t) z ∙ take-add at (length (drop at t)) t ∙ ap (λ (l : List ℕ). take at t ++ l) (take-length (drop at t))

-- A text that agrees with another one byte past that one's end is that one.
same_text : (t u : List ℕ) (p : ℕ) → p ≡ length t → take (p + 1) t ≡ take (p + 1) u → t ≡ u
same_text t u p q e =
    let a : take (p + 1) t ≡ t = take_all (p + 1) t (omega arith) in
    let n : length (take (p + 1) u) ≡ p = sym (ap length e) ∙ ap length a ∙ sym q in
    let m = length-take (p + 1) u in
    sym a ∙ e ∙ take_all (p + 1) u (omega arith)

pub reads_comment : Reads comment_at CommentWord CommentWord
reads_comment =
    record {
      complete = comment_complete;
      sound = comment_sound;
      not_malformed = λ t at a w m s. read (comment_complete t at a w m s);
      same = λ t u at p h e k. sym (ap (λ (l : List ℕ). comment_at l at) (same_text t u p (comment_place t at p h e) k)) ∙ e;
      place = λ t at p h e. let q = comment_place t at p h e in (omega arith, omega arith);
      extends = comment_extends;
      some = (0, end_word ++ newline ∷ [], record { value = refl; lines = last });
      well = λ a w m. m;
    }
