-- Steps that follow each other read words that follow each other.
use Rattle.std.specs.Prelude.{ℕ, ◌+◌, ◌≤◌, List, [], ◌++◌, ◌≡◌, refl, length, take}
use Rattle.std.proofs.Common.{arith, append_assoc, append-nil, ap, sym, ◌∙◌, subst, length-append}
use Rattle.base_limits.specs.declared.Verdict.{Verdict}
use Rattle.base_limits.specs.declared.Verdict.TheVariants.{Fine, Refused}
use Rattle.format_read.specs.Language.{NotMalformed, read, otherwise, Word, Extends, Reads, ReadsBefore, Anywhere, Seq, Empty, Text}
use Rattle.format_read.proofs.Laws.Stands.{stands_none, stands_append, stands_first, stands_second, stands_same, take_less}
use Rattle.format_read.proofs.Laws.Step.{then_found, then_refused, then_value, Stops, early, late, then_stops}
use Rattle.format_read.specs.Stands.{Stands}
use Rattle.format_read.specs.Step.{Step, found, refused, ◌then◌, checked}

module _ {A : Type 0} where
  pub bound : {t : List ℕ} {at : ℕ} {W : A → List ℕ → Type 0} {a : A} {p : ℕ} → Word W t at a p → (at ≤ p) × (p ≤ length t)
  bound r = let e = r.ends in let f = r.stands.fits in (omega arith, omega arith)

-- What is read is read again from a text with the same bytes up to there.
pub read_again : {A : Type 0} {f : List ℕ → ℕ → Step A} {W G : A → List ℕ → Type 0} → Reads f W G → (t u : List ℕ) (at : ℕ) (a : A) (p q : ℕ) → at ≤ length t → p ≤ q → take q t ≡ take q u
    → f t at ≡ found a p → f u at ≡ found a p
read_again r t u at a p q h l k e =
    let w = r.sound t at a p h e in
    let we = w.ends in
    r.complete u at a w.word w.member (stands_same q k (omega arith) w.stands) ∙ ap (λ (z : ℕ). found a z) (sym we)

-- The value b, for nothing.
pub reads_value : {B : Type 0} (b : B) → Reads (λ t at. found b at) (Empty b) (Empty b)
reads_value {B} b =
    record {
      complete = λ t at c w m s. at_end at c w m;
      sound = λ t at c p h e. record { word = []; member = record { value = cc; word = refl }; ends = next_is e; stands = stands_none t at h };
      not_malformed = λ t at c w m s. read (at_end at c w m);
      same = λ t u at p h e q. absurd (never e);
      place = λ t at p h e. absurd (never e);
      extends = λ t at p h e. absurd (never e);
      some = (b, [], record { value = refl; word = refl });
      well = λ c w m. m;
    }
  where
    never : {at n p : ℕ} → found b at ≡ refused n p → ⊥
    never e = let z : ◌≡◌ {A = ℕ} 0 1 = cc in omega arith

    next_is : {at p : ℕ} {c : B} → found b at ≡ found c p → p ≡ at + 0
    next_is {at} {p} e = let q : at ≡ p = cc in omega arith

    at_end : (at : ℕ) (c : B) (w : List ℕ) → Empty b c w → found b at ≡ found c (at + length w)
    at_end at c w m =
        let l : length w ≡ 0 = ap length m.word in
        let e : at ≡ at + length w = omega arith in
        ap (λ (x : B). found x at) (sym m.value) ∙ ap (λ (k : ℕ). found c k) e

-- A value that passes its test, for nothing.
pub reads_checked : {B : Type 0} (w : Verdict) (b : B) → ((n p : ℕ) → w ≡ Refused n p → n ≡ 16 → ⊥) → Reads (λ t at. checked w b at) (λ c x. Empty b c x × (w ≡ Fine)) (Empty b)
unfolding checked
reads_checked {B} Fine b h =
    let r = reads_value b in
    record {
      complete = λ t at c w m s. r.complete t at c w m.0 s;
      sound = λ t at c p h e. let q = r.sound t at c p h e in record { word = q.word; member = (q.member, refl); ends = q.ends; stands = q.stands };
      not_malformed = r.not_malformed;
      same = r.same;
      place = r.place;
      extends = r.extends;
      some = r.some;
      well = λ c w m. m.0;
    }
reads_checked {B} (Refused n p) b h =
    record {
      complete = λ t at c w m s. absurd (not_fine m.1);
      sound = λ t at c p h e. absurd (never e);
      not_malformed = λ t at c w m s. otherwise refl (h n p refl);
      same = λ t u at q i e k. absurd (h n p refl (number e));
      place = λ t at q i e. absurd (h n p refl (number e));
      extends = λ t at q i e. absurd (h n p refl (number e));
      some = (b, [], record { value = refl; word = refl });
      well = λ c w m. m.0;
    }
  where
    never : {c : B} {q : ℕ} → refused n p ≡ found c q → ⊥
    never e = let z : ◌≡◌ {A = ℕ} 0 1 = cc in omega arith

    not_fine : Refused n p ≡ Fine → ⊥
    not_fine e = let z : ◌≡◌ {A = ℕ} 0 1 = cc in omega arith

    number : {q : ℕ} → ◌≡◌ {A = Step B} (refused n p) (refused 16 q) → n ≡ 16
    number e = cc

-- Words that are read anywhere are read before every place; and the other way round.
pub reads_before : {A : Type 0} {B : List ℕ → ℕ → Type 0} {f : List ℕ → ℕ → Step A} {W G : A → List ℕ → Type 0} → Reads f W G → ReadsBefore B f W G
reads_before r =
    record {
      complete = λ t at a w m s b. r.complete t at a w m s;
      sound = r.sound;
      again = λ t u at a p h k e. read_again r t u at a p (p + 1) h (omega arith) k e;
      not_malformed = λ t at a w m s b. r.not_malformed t at a w m s;
      same = r.same;
      place = r.place;
      extends = r.extends;
      some = r.some;
      well = r.well;
    }

pub before_reads : {A : Type 0} {f : List ℕ → ℕ → Step A} {W G : A → List ℕ → Type 0} → ReadsBefore Anywhere f W G → Reads f W G
before_reads r =
    record {
      complete = λ t at a w m s. r.complete t at a w m s tt;
      sound = r.sound;
      not_malformed = λ t at a w m s. r.not_malformed t at a w m s tt;
      same = r.same;
      place = r.place;
      extends = r.extends;
      some = r.some;
      well = r.well;
    }

-- Two steps, where a word of the second stands only before a place at which the words of the first end.
module _ {A B : Type 0} {F K : List ℕ → ℕ → Type 0} {f : List ℕ → ℕ → Step A} {W G : A → List ℕ → Type 0} {g : A → List ℕ → ℕ → Step B} {X H : A → B → List ℕ → Type 0} (r : ReadsBefore F f W G) (s : (a : A) → ReadsBefore K (g a) (X a) (H a))
    (begins : (t : List ℕ) (p : ℕ) (a : A) (b : B) (w : List ℕ) → H a b w → Stands t p w → K t (p + length w) → F t p) where
  abbrev next : List ℕ → ℕ → Step B
  next t at = f t at then λ a p. g a t p

  then_complete : (t : List ℕ) (at : ℕ) (b : B) (w : List ℕ) → Seq W X b w → Stands t at w → K t (at + length w) → next t at ≡ found b (at + length w)
  then_complete t at b w m st c =
      let st' : Stands t at (m.left ++ m.right) = subst (Stands t at) m.whole st in
      let l : length w ≡ length m.left + length m.right = ap length m.whole ∙ length-append m.left m.right in
      let e : at + length m.left + length m.right ≡ at + length w = omega arith in
      let behind : K t (at + length m.left + length m.right) = subst (K t) (sym e) c in
      let there = stands_second m.left m.right st' in
      then_found _
      (r.complete t at m.value m.left m.first (stands_first m.left m.right st')
      (begins t (at + length m.left) m.value b m.right ((s m.value).well b m.right m.second) there behind))
      ∙ (s m.value).complete t (at + length m.left) b m.right m.second there behind
      ∙ ap (λ (k : ℕ). found b k) e

  then_sound : (t : List ℕ) (at : ℕ) (b : B) (p : ℕ) → at ≤ length t → next t at ≡ found b p → Word (Seq W X) t at b p
  then_sound t at b p h e =
      let v = then_value (f t at) (λ a p. g a t p) e in
      let x = r.sound t at v.0 v.1 h v.2 in
      let y = (s v.0).sound t v.1 b p (bound x).1 v.3 in
      let xe = x.ends in
      let ye = y.ends in
      let l = length-append x.word y.word in
      record {
        word = x.word ++ y.word;
        member = record { value = v.0; left = x.word; right = y.word; first = x.member; second = y.member; whole = refl };
        ends = omega arith;
        stands = stands_append x.word y.word x.stands (subst (λ (k : ℕ). Stands t k y.word) xe y.stands);
      }

  then_again : (t u : List ℕ) (at : ℕ) (b : B) (p : ℕ) → at ≤ length t → take (p + 1) t ≡ take (p + 1) u → next t at ≡ found b p → next u at ≡ found b p
  then_again t u at b p h k e =
      let v = then_value (f t at) (λ a p. g a t p) e in
      let x = bound (r.sound t at v.0 v.1 h v.2) in
      let y = (bound ((s v.0).sound t v.1 b p x.1 v.3)).0 in
      then_found _ (r.again t u at v.0 v.1 h (take_less t u (v.1 + 1) (p + 1) (omega arith) k) v.2) ∙ (s v.0).again t u v.1 b p x.1 k v.3

  then_not_malformed : (t : List ℕ) (at : ℕ) (b : B) (w : List ℕ) → Seq G H b w → Stands t at w → K t (at + length w) → NotMalformed (next t at) b (at + length w)
  then_not_malformed t at b w m st c =
      let st' : Stands t at (m.left ++ m.right) = subst (Stands t at) m.whole st in
      let l : length w ≡ length m.left + length m.right = ap length m.whole ∙ length-append m.left m.right in
      let e : at + length m.left + length m.right ≡ at + length w = omega arith in
      let behind : K t (at + length m.left + length m.right) = subst (K t) (sym e) c in
      let there = stands_second m.left m.right st' in
      by_first
      (r.not_malformed t at m.value m.left m.first (stands_first m.left m.right st') (begins t (at + length m.left) m.value b m.right m.second there behind))
      ((s m.value).not_malformed t (at + length m.left) b m.right m.second there behind)
    where
      by_second : f t at ≡ found m.value (at + length m.left) → NotMalformed (g m.value t (at + length m.left)) b (at + length m.left + length m.right) → NotMalformed (next t at) b (at + length w)
      by_second e (read q) =
          let l : length w ≡ length m.left + length m.right = ap length m.whole ∙ length-append m.left m.right in
          let k : at + length m.left + length m.right ≡ at + length w = omega arith in
          read (then_found _ e ∙ q ∙ ap (λ (k : ℕ). found b k) k)
      by_second e (otherwise q n) = otherwise (then_found _ e ∙ q) n

      by_first : NotMalformed (f t at) m.value (at + length m.left) → NotMalformed (g m.value t (at + length m.left)) b (at + length m.left + length m.right) → NotMalformed (next t at) b (at + length w)
      by_first (read e) y = by_second e y
      by_first (otherwise e n) y = otherwise (then_refused _ e) n

  then_same : (t u : List ℕ) (at p : ℕ) → at ≤ length t → next t at ≡ refused 16 p → take (p + 1) t ≡ take (p + 1) u → next u at ≡ refused 16 p
  then_same t u at p h e k = by_place (then_stops (f t at) _ e)
    where
      by_place : Stops (f t at) (λ a p. g a t p) 16 p → next u at ≡ refused 16 p
      by_place (early q) = then_refused _ (r.same t u at p h q k)
      by_place (late a q x y) =
          let i = bound (r.sound t at a q h x) in
          let l = ((s a).place t q p i.1 y).0 in
          then_found _ (r.again t u at a q h (take_less t u (q + 1) (p + 1) (omega arith) k) x) ∙ (s a).same t u q p i.1 y k

  then_place : (t : List ℕ) (at p : ℕ) → at ≤ length t → next t at ≡ refused 16 p → (at ≤ p) × (p ≤ length t)
  then_place t at p h e = by_place (then_stops (f t at) _ e)
    where
      by_place : Stops (f t at) (λ a p. g a t p) 16 p → (at ≤ p) × (p ≤ length t)
      by_place (early q) = r.place t at p h q
      by_place (late a q x y) =
          let i = bound (r.sound t at a q h x) in
          let l = (s a).place t q p i.1 y in
          (omega arith, l.1)

  then_extends : (t : List ℕ) (at p : ℕ) → at ≤ length t → next t at ≡ refused 16 p → Extends (Seq G H) t at p
  then_extends t at p h e = by_place (then_stops (f t at) _ e)
    where
      by_place : Stops (f t at) (λ a p. g a t p) 16 p → Extends (Seq G H) t at p
      by_place (early q) =
          let x = r.extends t at p h q in
          let y = (s x.value).some in
          record {
            value = y.0;
            word = x.word ++ y.1;
            member = record { value = x.value; left = x.word; right = y.1; first = x.member; second = y.2; whole = refl };
            rest = x.rest ++ y.1;
            whole = sym (append_assoc (take p t) x.rest y.1) ∙ ap (λ (z : List ℕ). z ++ y.1) x.whole ∙ append_assoc (take at t) x.word y.1;
          }
      by_place (late a q x y) =
          let w = r.sound t at a q h x in
          let z = (s a).extends t q p (bound w).1 y in
          record {
            value = z.value;
            word = w.word ++ z.word;
            member = record { value = a; left = w.word; right = z.word; first = r.well a w.word w.member; second = z.member; whole = refl };
            rest = z.rest;
            whole = z.whole ∙ ap (λ (k : ℕ). take k t ++ z.word) w.ends ∙ ap (λ (l : List ℕ). l ++ z.word) w.stands.is ∙ append_assoc (take at t) w.word z.word;
          }

  pub before_then : ReadsBefore K next (Seq W X) (Seq G H)
  before_then =
      record {
        complete = then_complete;
        sound = then_sound;
        again = then_again;
        not_malformed = then_not_malformed;
        same = then_same;
        place = then_place;
        extends = then_extends;
        some = (
          (s r.some.0).some.0,
          r.some.1 ++ (s r.some.0).some.1,
          record { value = r.some.0; left = r.some.1; right = (s r.some.0).some.1; first = r.some.2; second = (s r.some.0).some.2; whole = refl },
        );
        well =
            λ b w m. record { value = m.value; left = m.left; right = m.right; first = r.well m.value m.left m.first; second = (s m.value).well b m.right m.second; whole = m.whole };
      }

pub reads_then : {A B : Type 0} {f : List ℕ → ℕ → Step A} {W G : A → List ℕ → Type 0} {g : A → List ℕ → ℕ → Step B} {X H : A → B → List ℕ → Type 0} → Reads f W G → ((a : A) → Reads (g a) (X a) (H a))
    → Reads (λ t at. f t at then λ a p. g a t p) (Seq W X) (Seq G H)
reads_then r s = before_reads (before_then {F = Anywhere} {K = Anywhere} (reads_before r) (λ a. reads_before (s a)) (λ t p a b w m st c. tt))

-- The same where the words of the first end anywhere.
pub then_before : {A B : Type 0} {K : List ℕ → ℕ → Type 0} {f : List ℕ → ℕ → Step A} {W G : A → List ℕ → Type 0} {g : A → List ℕ → ℕ → Step B} {X H : A → B → List ℕ → Type 0}
    → Reads f W G → ((a : A) → ReadsBefore K (g a) (X a) (H a)) → ReadsBefore K (λ t at. f t at then λ a p. g a t p) (Seq W X) (Seq G H)
then_before {K = K} r s = before_then {F = Anywhere} {K = K} (reads_before r) s (λ t p a b w m st c. tt)

-- The same language in other words.
pub before_as : {A : Type 0} {B : List ℕ → ℕ → Type 0} {f g : List ℕ → ℕ → Step A} {W G X H : A → List ℕ → Type 0} → ((t : List ℕ) (at : ℕ) → f t at ≡ g t at)
    → ((a : A) (w : List ℕ) → W a w → X a w) → ((a : A) (w : List ℕ) → X a w → W a w)
    → ((a : A) (w : List ℕ) → G a w → H a w) → ((a : A) (w : List ℕ) → H a w → G a w)
    → ReadsBefore B f W G → ReadsBefore B g X H
before_as {A} {B} {f} {g} {W} {G} {X} {H} e wx xw gh hg r =
    record {
      complete = λ t at a w m s b. sym (e t at) ∙ r.complete t at a w (xw a w m) s b;
      sound = λ t at a p h q. let x = r.sound t at a p h (e t at ∙ q) in record { word = x.word; member = wx a x.word x.member; ends = x.ends; stands = x.stands };
      again = λ t u at a p h k q. sym (e u at) ∙ r.again t u at a p h k (e t at ∙ q);
      not_malformed = λ t at a w m s b. subst (λ z. NotMalformed z a (at + length w)) (e t at) (r.not_malformed t at a w (hg a w m) s b);
      same = λ t u at p h q k. sym (e u at) ∙ r.same t u at p h (e t at ∙ q) k;
      place = λ t at p h q. r.place t at p h (e t at ∙ q);
      extends = λ t at p h q. let x = r.extends t at p h (e t at ∙ q) in record { value = x.value; word = x.word; member = gh x.value x.word x.member; rest = x.rest; whole = x.whole };
      some = (r.some.0, r.some.1, gh r.some.0 r.some.1 r.some.2);
      well = λ a w m. gh a w (r.well a w (xw a w m));
    }

pub reads_as : {A : Type 0} {f g : List ℕ → ℕ → Step A} {W G X H : A → List ℕ → Type 0} → ((t : List ℕ) (at : ℕ) → f t at ≡ g t at)
    → ((a : A) (w : List ℕ) → W a w → X a w) → ((a : A) (w : List ℕ) → X a w → W a w)
    → ((a : A) (w : List ℕ) → G a w → H a w) → ((a : A) (w : List ℕ) → H a w → G a w)
    → Reads f W G → Reads g X H
reads_as e wx xw gh hg r = before_reads (before_as e wx xw gh hg (reads_before r))

pub append_four : (a b c d : List ℕ) → a ++ (b ++ (c ++ (d ++ []))) ≡ a ++ b ++ c ++ d
append_four a b c d = simp (append_assoc, append-nil)

pub append_five : (a b c d e : List ℕ) → a ++ (b ++ (c ++ (d ++ (e ++ [])))) ≡ a ++ b ++ c ++ d ++ e
append_five a b c d e = simp (append_assoc, append-nil)

-- Where the text of a value stands, and where it ends.
pub text_stands : {A : Type 0} {P : A → Type 0} {f : A → List ℕ} {t : List ℕ} {at : ℕ} {a : A} {p : ℕ} → Word (Text P f) t at a p → Stands t at (f a) × (p ≡ at + length (f a))
text_stands {f = f} {t = t} {at = at} w = (subst (Stands t at) w.member.word w.stands, w.ends ∙ ap (λ (x : List ℕ). at + length x) w.member.word)
