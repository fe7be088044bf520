-- Laws of bytes read one at a time: what the byte at an offset says of the text's length, and the words of fixed bytes.
use Rattle.std.specs.Prelude.{ℕ, ◌≤◌, ◌<◌, ◌+◌, Bool, true, false, ◌&&◌, cond, List, [], ◌∷◌, ◌++◌, ◌≡◌, refl, eqb, ltb, length, get_or, drop, take}
use Rattle.std.proofs.Common.{add-one, arith, ap, sym, ◌∙◌, subst, drop_of_length-le, get_or-take, eqb-true, ltb-true, ltb-false, ne_eqb, eq-eqb, lt-ltb, le-ltb, le-leb}
use Rattle.std.proofs.Math.ListN.{get_or-eq_default}
use Rattle.std.proofs.Math.Seq.{drop-cons}
use Rattle.std.proofs.lemmas.Bool.{lt-leb}
use Rattle.format_read.specs.Bytes.{byte_is, fixed_at, byte_step, end_at}
use Rattle.format_read.specs.Language.{Reads, Word, Seq, read, Empty, Fixed}
use Rattle.format_read.proofs.Laws.Language.{reads_then, reads_as, reads_value}
use Rattle.format_read.proofs.Laws.Stands.{stands_byte, stands_head, stands_same, take_less}
use Rattle.format_read.specs.Stands.{Stands}
use Rattle.format_read.specs.Step.{found, refused, ◌then◌, Step}

pub no_bool : {A : Type 0} → true ≡ false → A
no_bool e = let z : ◌≡◌ {A = ℕ} 0 1 = cc in absurd (omega arith)

-- Past the end a text reads as 0.
pub read_inside : (t : List ℕ) (at : ℕ) → 0 < get_or t at 0 → at < length t
read_inside t at h = by_end (ltb at (length t)) refl
  where
    by_end : (b : Bool) → ltb at (length t) ≡ b → at < length t
    by_end true e = ltb-true at (length t) e
    by_end false e =
        let z : get_or t at 0 ≡ 0 = get_or-eq_default t 0 (ltb-false at (length t) e) in
        absurd (omega arith)

pub byte_inside : (t : List ℕ) (at b : ℕ) → byte_is t at b ≡ true → (at < length t) × (get_or t at 0 ≡ b)
unfolding byte_is
byte_inside t at b e = by_end (ltb at (length t)) (eqb (get_or t at 0) b) refl refl e
  where
    by_end : (p q : Bool) → ltb at (length t) ≡ p → eqb (get_or t at 0) b ≡ q → (p && q) ≡ true → (at < length t) × (get_or t at 0 ≡ b)
    by_end true true ep eq e = (ltb-true at (length t) ep, eqb-true (get_or t at 0) b eq)
    by_end true false ep eq e = no_bool (sym e)
    by_end false q ep eq e = no_bool (sym e)

pub byte_is_law : (t : List ℕ) (at b : ℕ) → at < length t → get_or t at 0 ≡ b → byte_is t at b ≡ true
unfolding byte_is
byte_is_law t at b h e = simp (lt-ltb at (length t) h, eq-eqb (get_or t at 0) b e)

pub byte_short : (t : List ℕ) (at b : ℕ) → length t ≤ at → byte_is t at b ≡ false
unfolding byte_is
byte_short t at b h = simp (le-ltb at (length t) h)

pub byte_not : (t : List ℕ) (at b : ℕ) → (get_or t at 0 ≡ b → ⊥) → byte_is t at b ≡ false
unfolding byte_is
byte_not t at b n = by_end (ltb at (length t))
  where
    by_end : (p : Bool) → (p && eqb (get_or t at 0) b) ≡ false
    by_end true = ne_eqb (get_or t at 0) b n
    by_end false = refl

module _ (bytes t : List ℕ) (i at : ℕ) where
  pub fixed_more : i < length bytes → at < length t → get_or t at 0 ≡ get_or bytes i 0 → fixed_at (drop i bytes) t at ≡ fixed_at (drop (i + 1) bytes) t (at + 1)
  unfolding fixed_at
  fixed_more h k e = rw (add-one i, drop-cons bytes i 0 h, byte_is_law t at (get_or bytes i 0) k e)

  pub fixed_short : i < length bytes → length t ≤ at → fixed_at (drop i bytes) t at ≡ refused 16 at
  unfolding fixed_at
  fixed_short h k = rw (drop-cons bytes i 0 h, byte_short t at (get_or bytes i 0) k)

  pub fixed_other : i < length bytes → (get_or t at 0 ≡ get_or bytes i 0 → ⊥) → fixed_at (drop i bytes) t at ≡ refused 16 at
  unfolding fixed_at
  fixed_other h n = rw (drop-cons bytes i 0 h, byte_not t at (get_or bytes i 0) n)

  pub fixed_done : length bytes ≤ i → fixed_at (drop i bytes) t at ≡ found 0 at
  unfolding fixed_at
  fixed_done h = rw (drop_of_length-le bytes h)

-- One byte, with a value that was read before it.
pub stop_found : (t : List ℕ) (b v at : ℕ) → byte_is t at b ≡ true → (fixed_at (b ∷ []) t at then λ z q. found v q) ≡ found v (at + 1)
unfolding fixed_at ◌then◌
stop_found t b v at e = rw e

pub stop_refused : (t : List ℕ) (b v at : ℕ) → byte_is t at b ≡ false → (fixed_at (b ∷ []) t at then λ z q. found v q) ≡ refused 16 at
unfolding fixed_at ◌then◌
stop_refused t b v at e = rw e

byte_complete : (b : ℕ) (t : List ℕ) (at a : ℕ) (w : List ℕ) → Fixed (b ∷ []) a w → Stands t at w → byte_step b t at ≡ found a (at + length w)
unfolding byte_step
byte_complete b t at a w m s =
    let s' : Stands t at (b ∷ []) = subst (Stands t at) m.word s in
    let f = s'.fits in
    let l : length w ≡ 1 = ap length m.word in
    let e : at + 1 ≡ at + length w = omega arith in
    rw (byte_is_law t at b (omega arith) (stands_head s'), m.value) (ap (λ (k : ℕ). found 0 k) e)

data Byte (b : ℕ) (t : List ℕ) (at : ℕ) (s : Step ℕ) : Type 0 where
  there : byte_is t at b ≡ true → s ≡ found 0 (at + 1) → Byte b t at s
  missing : byte_is t at b ≡ false → s ≡ refused 16 at → Byte b t at s

byte_case : (b : ℕ) (t : List ℕ) (at : ℕ) → Byte b t at (byte_step b t at)
unfolding byte_step
byte_case b t at = by_test (byte_is t at b) refl
  where
    by_test : (x : Bool) → byte_is t at b ≡ x → Byte b t at (cond x (found 0 (at + 1)) (refused 16 at))
    by_test true e = there e refl
    by_test false e = missing e refl

pub byte_sound : (b : ℕ) (t : List ℕ) (at a p : ℕ) → at ≤ length t → byte_step b t at ≡ found a p → Word (Fixed (b ∷ [])) t at a p
byte_sound b t at a p h e = by_case (byte_case b t at)
  where
    by_case : Byte b t at (byte_step b t at) → Word (Fixed (b ∷ [])) t at a p
    by_case (there x y) =
        let i = byte_inside t at b x in
        record { word = b ∷ []; member = record { value = cc; word = refl }; ends = cc; stands = stands_byte t at b i.0 i.1 }
    by_case (missing x y) = let z : ◌≡◌ {A = ℕ} 0 1 = cc in absurd (omega arith)

-- Where a byte is refused, and that it is not there.
byte_refused : (b : ℕ) (t : List ℕ) (at p : ℕ) → byte_step b t at ≡ refused 16 p → (byte_is t at b ≡ false) × (p ≡ at)
byte_refused b t at p e = by_case (byte_case b t at)
  where
    by_case : Byte b t at (byte_step b t at) → (byte_is t at b ≡ false) × (p ≡ at)
    by_case (there x y) = let z : ◌≡◌ {A = ℕ} 0 1 = cc in absurd (omega arith)
    by_case (missing x y) = (x, cc)

pub byte_same : (b : ℕ) (t u : List ℕ) (at : ℕ) → byte_is t at b ≡ false → take (at + 1) t ≡ take (at + 1) u → byte_is u at b ≡ false
byte_same b t u at e k = by_test (byte_is u at b) refl
  where
    by_test : (x : Bool) → byte_is u at b ≡ x → byte_is u at b ≡ false
    by_test true h =
        let i = byte_inside u at b h in
        let s : Stands t at (b ∷ []) = stands_same (at + 1) (sym k) (omega arith) (stands_byte u at b i.0 i.1) in
        let f = s.fits in
        no_bool (sym (byte_is_law t at b (omega arith) (stands_head s)) ∙ e)
    by_test false h = h

missing_refused : (b : ℕ) (t : List ℕ) (at : ℕ) → byte_is t at b ≡ false → byte_step b t at ≡ refused 16 at
unfolding byte_step
missing_refused b t at e = rw e

reads_byte : (b : ℕ) → Reads (byte_step b) (Fixed (b ∷ [])) (Fixed (b ∷ []))
reads_byte b =
    record {
      complete = byte_complete b;
      sound = byte_sound b;
      not_malformed = λ t at a w m s. read (byte_complete b t at a w m s);
      same = λ t u at p h e k. refuse t u at p (byte_refused b t at p e) k;
      place = λ t at p h e. let r = (byte_refused b t at p e).1 in (omega arith, omega arith);
      extends = λ t at p h e. record { value = 0; word = b ∷ []; member = record { value = refl; word = refl }; rest = b ∷ []; whole = ap (λ (k : ℕ). take k t ++ (b ∷ [])) (byte_refused b t at p e).1 };
      some = (0, b ∷ [], record { value = refl; word = refl });
      well = λ a w m. m;
    }
  where
    refuse : (t u : List ℕ) (at p : ℕ) → (byte_is t at b ≡ false) × (p ≡ at) → take (p + 1) t ≡ take (p + 1) u → byte_step b u at ≡ refused 16 p
    refuse t u at p (x, y) k =
        missing_refused b u at (byte_same b t u at x (subst (λ (q : ℕ). take (q + 1) t ≡ take (q + 1) u) y k)) ∙ ap (λ (q : ℕ). refused 16 q) (sym y)

pub fixed_step : (b : ℕ) (bytes t : List ℕ) (at : ℕ) → (byte_step b t at then λ z p. fixed_at bytes t p) ≡ fixed_at (b ∷ bytes) t at
unfolding byte_step fixed_at ◌then◌
fixed_step b bytes t at = by_test (byte_is t at b)
  where
    by_test : (x : Bool) → ◌then◌ {A = ℕ} (cond x (found 0 (at + 1)) (refused 16 at)) (λ z p. fixed_at bytes t p) ≡ cond x (fixed_at bytes t (at + 1)) (refused 16 at)
    by_test true = refl
    by_test false = refl

pub reads_fixed : (bytes : List ℕ) → Reads (fixed_at bytes) (Fixed bytes) (Fixed bytes)
unfolding fixed_at
reads_fixed [] = reads_as (λ t at. refl) to from to from (reads_value 0)
  where
    to : (a : ℕ) (w : List ℕ) → Empty 0 a w → Fixed [] a w
    to a w m = record { value = m.value; word = m.word }

    from : (a : ℕ) (w : List ℕ) → Fixed [] a w → Empty 0 a w
    from a w m = record { value = m.value; word = m.word }
reads_fixed (b ∷ bytes) = reads_as (fixed_step b bytes) to from to from (reads_then (reads_byte b) (λ a. reads_fixed bytes))
  where
    to : (a : ℕ) (w : List ℕ) → Seq (Fixed (b ∷ [])) (λ x. Fixed bytes) a w → Fixed (b ∷ bytes) a w
    to a w m = record { value = m.second.value; word = cc (m.whole, m.first.word, m.second.word) }

    from : (a : ℕ) (w : List ℕ) → Fixed (b ∷ bytes) a w → Seq (Fixed (b ∷ [])) (λ x. Fixed bytes) a w
    from a w m = record { value = 0; left = b ∷ []; right = bytes; first = record { value = refl; word = refl }; second = record { value = m.value; word = refl }; whole = m.word }

-- Two texts with the same beginning read the same there.
pub read_same : (t u : List ℕ) (q i : ℕ) → take q t ≡ take q u → i < q → get_or t i 0 ≡ get_or u i 0
read_same t u q i e h = sym (get_or-take q t i 0 h) ∙ ap (λ (l : List ℕ). get_or l i 0) e ∙ get_or-take q u i 0 h

pub fixed_one : (b : ℕ) (t : List ℕ) (p : ℕ) {z q : ℕ} → fixed_at (b ∷ []) t p ≡ found z q → q ≡ p + 1
unfolding fixed_at
fixed_one b t p {z} {q} e = by_byte_law (byte_is t p b) e
  where
    by_byte_law : (x : Bool) → cond x (found 0 (p + 1)) (refused 16 p) ≡ found z q → q ≡ p + 1
    by_byte_law true e = cc
    by_byte_law false e = let w : ◌≡◌ {A = ℕ} 0 1 = cc in absurd (omega arith)

pub other_byte : (t : List ℕ) (at b c : ℕ) → get_or t at 0 ≡ b → (b ≡ c → ⊥) → byte_is t at c ≡ false
other_byte t at b c e h = by_test (byte_is t at c) refl
  where
    by_test : (x : Bool) → byte_is t at c ≡ x → byte_is t at c ≡ false
    by_test true q = absurd (h (sym e ∙ (byte_inside t at c q).1))
    by_test false q = q

pub record Stays (t : List ℕ) (at p : ℕ) : Type 0 where
  pub on : at ≤ p
  pub inside : at ≤ length t → p ≤ length t

pub fixed_goes : (bytes t : List ℕ) (at : ℕ) {z p : ℕ} → fixed_at bytes t at ≡ found z p → Stays t at p
unfolding fixed_at
fixed_goes [] t at {z} {p} e = let same : at ≡ p = cc in record { on = omega arith; inside = λ h. omega arith }
fixed_goes (b ∷ bytes) t at {z} {p} e = by_byte_law (byte_is t at b) refl (λ q. fixed_goes bytes t (at + 1) q) e
  where
    by_byte_law : (c : Bool) → byte_is t at b ≡ c → (fixed_at bytes t (at + 1) ≡ found z p → Stays t (at + 1) p) → cond c (fixed_at bytes t (at + 1)) (refused 16 at) ≡ found z p → Stays t at p
    by_byte_law true q ih e =
        let r = ih e in
        let a = r.on in
        let i = (byte_inside t at b q).0 in
        let b = r.inside (omega arith) in
        record { on = omega arith; inside = λ h. b }
    by_byte_law false q ih e = let w : ◌≡◌ {A = ℕ} 0 1 = cc in absurd (omega arith)

pub end_here : (t : List ℕ) (at : ℕ) → length t ≤ at → end_at t at ≡ found 0 at
unfolding end_at
end_here t at h = rw (le-leb (length t) at h)

pub end_later : (t : List ℕ) (at : ℕ) → at < length t → end_at t at ≡ refused 16 at
unfolding end_at
end_later t at h = rw (lt-leb (length t) at h)

-- Texts that agree up to an offset have the same bytes there.
pub byte_alike : (t u : List ℕ) (at b q : ℕ) → at ≤ q → take (q + 1) t ≡ take (q + 1) u → byte_is t at b ≡ byte_is u at b
byte_alike t u at b q h k = by_test (byte_is t at b) (byte_is u at b) refl refl
  where
    near : take (at + 1) t ≡ take (at + 1) u
    near = take_less t u (at + 1) (q + 1) (omega arith) k

    by_test : (x y : Bool) → byte_is t at b ≡ x → byte_is u at b ≡ y → byte_is t at b ≡ byte_is u at b
    by_test true true e f = e ∙ sym f
    by_test true false e f = byte_same b u t at f (sym near) ∙ sym f
    by_test false y e f = e ∙ sym (byte_same b t u at e near)
