-- A byte that decides what follows: what is read behind it is read with it.
use Rattle.std.specs.Prelude.{ℕ, ◌+◌, ◌≤◌, ◌<◌, Bool, ◌&&◌, List, [], ◌∷◌, ◌++◌, ◌≡◌, ltb, length, get_or, take}
use Rattle.std.proofs.Common.{arith, append_assoc, ap, sym, ◌∙◌, subst, ltb-true, ltb-false, lt-ltb, le-ltb}
use Rattle.std.proofs.Math.Bool.{true, false, cond}
use Rattle.std.proofs.Math.Path.{refl}
use Rattle.format_read.specs.Language.{Reads, NotMalformed, read, otherwise, Word, Extends}
use Rattle.format_read.proofs.Laws.Bytes.{read_same}
use Rattle.format_read.proofs.Laws.Stands.{stands_byte, stands_append, stands_second, stands_head, as_long}
use Rattle.format_read.specs.Stands.{Stands}
use Rattle.format_read.specs.Step.{Step, found, refused}
use Rattle.format_stp.specs.StpWord.{by_byte, ByByte}

module _ {A : Type 0} (pass : ℕ → Bool) (next : ℕ → List ℕ → ℕ → Step A) where
  -- The byte there passes, and what follows is read; or it does not.
  pub byte_passes : (t : List ℕ) (at : ℕ) → at < length t → pass (get_or t at 0) ≡ true → by_byte pass next t at ≡ next (get_or t at 0) t (at + 1)
  unfolding by_byte
  byte_passes t at h e = rw (lt-ltb at (length t) h, e)

  pub byte_fails : (t : List ℕ) (at : ℕ) → pass (get_or t at 0) ≡ false → by_byte pass next t at ≡ refused 16 at
  unfolding by_byte
  byte_fails t at e = by_end (ltb at (length t))
    where
      by_end : (b : Bool) → cond (b && pass (get_or t at 0)) (next (get_or t at 0) t (at + 1)) (refused 16 at) ≡ refused 16 at
      by_end true = rw e
      by_end false = refl

  pub byte_past : (t : List ℕ) (at : ℕ) → length t ≤ at → by_byte pass next t at ≡ refused 16 at
  unfolding by_byte
  byte_past t at h = rw (le-ltb at (length t) h)

  data Decided (t : List ℕ) (at : ℕ) (s : Step A) : Type 0 where
    passed : at < length t → pass (get_or t at 0) ≡ true → s ≡ next (get_or t at 0) t (at + 1) → Decided t at s
    failed : pass (get_or t at 0) ≡ false → s ≡ refused 16 at → Decided t at s
    past : length t ≤ at → s ≡ refused 16 at → Decided t at s

  decided : (t : List ℕ) (at : ℕ) → Decided t at (by_byte pass next t at)
  decided t at = by_tests (ltb at (length t)) (pass (get_or t at 0)) refl refl
    where
      by_tests : (b c : Bool) → ltb at (length t) ≡ b → pass (get_or t at 0) ≡ c → Decided t at (by_byte pass next t at)
      by_tests false c e f = past (ltb-false at (length t) e) (byte_past t at (ltb-false at (length t) e))
      by_tests true true e f = passed (ltb-true at (length t) e) f (byte_passes t at (ltb-true at (length t) e) f)
      by_tests true false e f = failed f (byte_fails t at f)

  not_refused : {a : A} {n p q : ℕ} → refused n p ≡ found a q → ⊥
  not_refused e = let z : ◌≡◌ {A = ℕ} 0 1 = cc in omega arith

  place_is : {p q : ℕ} → ◌≡◌ {A = Step A} (refused 16 p) (refused 16 q) → p ≡ q
  place_is e = cc

  module _ {W G : ℕ → A → List ℕ → Type 0} (reads : (b : ℕ) → pass b ≡ true → Reads (next b) (W b) (G b)) (b₀ : ℕ) (ok : pass b₀ ≡ true) where
    byte_is_read : (t : List ℕ) (at : ℕ) {X : ℕ → A → List ℕ → Type 0} {a : A} {w : List ℕ} (m : ByByte pass X a w) → Stands t at w → by_byte pass next t at ≡ next m.byte t (at + 1)
    byte_is_read t at m s =
        let s' : Stands t at (m.byte ∷ m.rest) = subst (Stands t at) m.whole s in
        let f = s'.fits in
        let e : get_or t at 0 ≡ m.byte = stands_head s' in
        byte_passes t at (omega arith) (ap pass e ∙ m.passes) ∙ ap (λ (b : ℕ). next b t (at + 1)) e

    rest_stands : (t : List ℕ) (at : ℕ) {X : ℕ → A → List ℕ → Type 0} {a : A} {w : List ℕ} (m : ByByte pass X a w) → Stands t at w → Stands t (at + 1) m.rest
    rest_stands t at m s = stands_second (m.byte ∷ []) m.rest (subst (Stands t at) m.whole s)

    ends_there : (at : ℕ) {X : ℕ → A → List ℕ → Type 0} {a : A} {w : List ℕ} (m : ByByte pass X a w) → at + 1 + length m.rest ≡ at + length w
    ends_there at m = let l = ap length m.whole in omega arith

    byte_complete : (t : List ℕ) (at : ℕ) (a : A) (w : List ℕ) → ByByte pass W a w → Stands t at w → by_byte pass next t at ≡ found a (at + length w)
    byte_complete t at a w m s =
        byte_is_read t at m s
        ∙ (reads m.byte m.passes).complete t (at + 1) a m.rest m.member (rest_stands t at m s)
        ∙ ap (λ (k : ℕ). found a k) (ends_there at m)

    byte_not_malformed : (t : List ℕ) (at : ℕ) (a : A) (w : List ℕ) → ByByte pass G a w → Stands t at w → NotMalformed (by_byte pass next t at) a (at + length w)
    byte_not_malformed t at a w m s = by_rest ((reads m.byte m.passes).not_malformed t (at + 1) a m.rest m.member (rest_stands t at m s))
      where
        by_rest : NotMalformed (next m.byte t (at + 1)) a (at + 1 + length m.rest) → NotMalformed (by_byte pass next t at) a (at + length w)
        by_rest (read e) = read (byte_is_read t at m s ∙ e ∙ ap (λ (k : ℕ). found a k) (ends_there at m))
        by_rest (otherwise e n) = otherwise (byte_is_read t at m s ∙ e) n

    byte_sound : (t : List ℕ) (at : ℕ) (a : A) (p : ℕ) → at ≤ length t → by_byte pass next t at ≡ found a p → Word (ByByte pass W) t at a p
    byte_sound t at a p h e = by_case (decided t at)
      where
        by_case : Decided t at (by_byte pass next t at) → Word (ByByte pass W) t at a p
        by_case (past i x) = absurd (not_refused (sym x ∙ e))
        by_case (failed f x) = absurd (not_refused (sym x ∙ e))
        by_case (passed i f x) =
            let b : ℕ = get_or t at 0 in
            let w = (reads b f).sound t (at + 1) a p (omega arith) (sym x ∙ e) in
            let we = w.ends in
            record {
              word = b ∷ w.word;
              member = record { byte = b; rest = w.word; passes = f; member = w.member; whole = refl };
              ends = omega arith;
              stands = stands_append (b ∷ []) w.word (stands_byte t at b i refl) w.stands;
            }

    byte_place : (t : List ℕ) (at p : ℕ) → at ≤ length t → by_byte pass next t at ≡ refused 16 p → (at ≤ p) × (p ≤ length t)
    byte_place t at p h e = by_case (decided t at)
      where
        by_case : Decided t at (by_byte pass next t at) → (at ≤ p) × (p ≤ length t)
        by_case (past i x) = let q = place_is (sym x ∙ e) in (omega arith, omega arith)
        by_case (failed f x) = let q = place_is (sym x ∙ e) in (omega arith, omega arith)
        by_case (passed i f x) = let q = (reads (get_or t at 0) f).place t (at + 1) p (omega arith) (sym x ∙ e) in let a = q.0 in (omega arith, q.1)

    byte_same : (t u : List ℕ) (at p : ℕ) → at ≤ length t → by_byte pass next t at ≡ refused 16 p → take (p + 1) t ≡ take (p + 1) u → by_byte pass next u at ≡ refused 16 p
    byte_same t u at p h e k = by_case (decided t at)
      where
        refused_there : by_byte pass next u at ≡ refused 16 at → at ≡ p → by_byte pass next u at ≡ refused 16 p
        refused_there x q = x ∙ ap (λ (z : ℕ). refused 16 z) q

        by_case : Decided t at (by_byte pass next t at) → by_byte pass next u at ≡ refused 16 p
        by_case (failed f x) =
            let q : at ≡ p = place_is (sym x ∙ e) in
            refused_there (byte_fails u at (sym (ap pass (read_same t u (p + 1) at k (omega arith))) ∙ f)) q
        by_case (past i x) = by_length (ltb at (length u)) refl
          where
            by_length : (b : Bool) → ltb at (length u) ≡ b → by_byte pass next u at ≡ refused 16 p
            by_length true l =
                let q : at ≡ p = place_is (sym x ∙ e) in
                let m = ltb-true at (length u) l in
                let z = as_long u t p (sym k) (at + 1) (omega arith) (omega arith) in
                absurd (omega arith)
            by_length false l = refused_there (byte_past u at (ltb-false at (length u) l)) (place_is (sym x ∙ e))
        by_case (passed i f x) =
            let l = (reads (get_or t at 0) f).place t (at + 1) p (omega arith) (sym x ∙ e) in
            let on = l.0 in
            let s : get_or t at 0 ≡ get_or u at 0 = read_same t u (p + 1) at k (omega arith) in
            let long = as_long t u p k (at + 1) (omega arith) (omega arith) in
            byte_passes u at (omega arith) (ap pass (sym s) ∙ f)
            ∙ ap (λ (b : ℕ). next b u (at + 1)) (sym s)
            ∙ (reads (get_or t at 0) f).same t u (at + 1) p (omega arith) (sym x ∙ e) k

    byte_extends : (t : List ℕ) (at p : ℕ) → at ≤ length t → by_byte pass next t at ≡ refused 16 p → Extends (ByByte pass G) t at p
    byte_extends t at p h e = by_case (decided t at)
      where
        here : p ≡ at → Extends (ByByte pass G) t at p
        here q =
            let x = (reads b₀ ok).some in
            record {
              value = x.0;
              word = b₀ ∷ x.1;
              member = record { byte = b₀; rest = x.1; passes = ok; member = x.2; whole = refl };
              rest = b₀ ∷ x.1;
              whole = ap (λ (k : ℕ). take k t ++ b₀ ∷ x.1) q;
            }

        by_case : Decided t at (by_byte pass next t at) → Extends (ByByte pass G) t at p
        by_case (past i x) = here (sym (place_is (sym x ∙ e)))
        by_case (failed f x) = here (sym (place_is (sym x ∙ e)))
        by_case (passed i f x) =
            let b : ℕ = get_or t at 0 in
            let z = (reads b f).extends t (at + 1) p (omega arith) (sym x ∙ e) in
            record {
              value = z.value;
              word = b ∷ z.word;
              member = record { byte = b; rest = z.word; passes = f; member = z.member; whole = refl };
              rest = z.rest;
              whole = z.whole ∙ ap (λ (l : List ℕ). l ++ z.word) (stands_byte t at b i refl).is ∙ append_assoc (take at t) (b ∷ []) z.word;
            }

    pub reads_by_byte : Reads (by_byte pass next) (ByByte pass W) (ByByte pass G)
    reads_by_byte =
        record {
          complete = byte_complete;
          sound = byte_sound;
          not_malformed = byte_not_malformed;
          same = byte_same;
          place = byte_place;
          extends = byte_extends;
          some = let x = (reads b₀ ok).some in (x.0, b₀ ∷ x.1, record { byte = b₀; rest = x.1; passes = ok; member = x.2; whole = refl });
          well = λ a w m. record { byte = m.byte; rest = m.rest; passes = m.passes; member = (reads m.byte m.passes).well a m.rest m.member; whole = m.whole };
        }
