-- Bytes that stand at an offset of a text, in terms of the text's beginnings.
use Rattle.std.specs.Prelude.{ℕ, suc, ◌+◌, ◌≤◌, ◌<◌, List, [], ◌∷◌, ◌++◌, ◌≡◌, length, get_or, take, drop}
use Rattle.std.proofs.Common.{add-zero, zero-add, add-one, arith, append_assoc, append-nil, ap, sym, ◌∙◌, subst, length-append, length-take, length-drop, take-suc, take-take, take_at, get_or-take, get_or-append-add, length-take-le, take_all, take-add, drop_at}
use Rattle.format_read.specs.Stands.{Stands}

pub stands_none : (t : List ℕ) (at : ℕ) → at ≤ length t → Stands t at []
stands_none t at h = record { is = ap (λ (k : ℕ). take k t) (add-zero at) ∙ sym (append-nil (take at t)); fits = omega arith }

pub stands_byte : (t : List ℕ) (at b : ℕ) → at < length t → get_or t at 0 ≡ b → Stands t at (b ∷ [])
stands_byte t at b h e =
    record {
      is = ap (λ (k : ℕ). take k t) (add-one at) ∙ take-suc t at 0 h ∙ ap (λ (x : ℕ). take at t ++ (x ∷ [])) e;
      fits = omega arith;
    }

module _ {t : List ℕ} {at : ℕ} (v w : List ℕ) where
  pub stands_append : Stands t at v → Stands t (at + length v) w → Stands t at (v ++ w)
  stands_append a b =
      let l = length-append v w in
      let e : at + length (v ++ w) ≡ at + length v + length w = omega arith in
      let f = b.fits in
      record {
        is = ap (λ (k : ℕ). take k t) e ∙ b.is ∙ ap (λ (x : List ℕ). x ++ w) a.is ∙ append_assoc (take at t) v w;
        fits = omega arith;
      }

  pub stands_first : Stands t at (v ++ w) → Stands t at v
  stands_first s =
      let l = length-append v w in
      let f = s.fits in
      let h : at + length v ≤ at + length (v ++ w) = omega arith in
      let n : length (take at t) ≡ at = length-take-le at t (omega arith) in
      let m : length (take at t ++ v) ≡ at + length v = length-append (take at t) v ∙ ap (λ (k : ℕ). k + length v) n in
      record {
        is =
            sym (take-take (at + length v) (at + length (v ++ w)) t h)
            ∙ ap (take (at + length v)) (s.is ∙ sym (append_assoc (take at t) v w))
            ∙ take_at (take at t ++ v) w (at + length v) m;
        fits = omega arith;
      }

  pub stands_second : Stands t at (v ++ w) → Stands t (at + length v) w
  stands_second s =
      let l = length-append v w in
      let f = s.fits in
      let e : at + length v + length w ≡ at + length (v ++ w) = omega arith in
      record {
        is = ap (λ (k : ℕ). take k t) e ∙ s.is ∙ sym (append_assoc (take at t) v w) ∙ ap (λ (x : List ℕ). x ++ w) (sym (stands_first s).is);
        fits = omega arith;
      }

pub stands_head : {t : List ℕ} {at b : ℕ} {w : List ℕ} → Stands t at (b ∷ w) → get_or t at 0 ≡ b
stands_head {t} {at} {b} {w} s =
    let f = s.fits in
    let n : length (take at t) ≡ at = length-take-le at t (omega arith) in
    let h : at < at + suc (length w) = omega arith in
    sym (get_or-take (at + suc (length w)) t at 0 h)
    ∙ ap (λ (x : List ℕ). get_or x at 0) s.is
    ∙ ap (λ (k : ℕ). get_or (take at t ++ b ∷ w) k 0) (sym (add-zero at) ∙ ap (λ (k : ℕ). k + 0) (sym n))
    ∙ get_or-append-add (take at t) (b ∷ w) 0 0

pub take_less : (t u : List ℕ) (k q : ℕ) → k ≤ q → take q t ≡ take q u → take k t ≡ take k u
take_less t u k q h e = sym (take-take k q t h) ∙ ap (take k) e ∙ take-take k q u h

-- A text with the same beginning has the same bytes there.
pub stands_same : {t u : List ℕ} {at : ℕ} {w : List ℕ} (q : ℕ) → take q t ≡ take q u → at + length w ≤ q → Stands t at w → Stands u at w
stands_same {t} {u} {at} {w} q e h s =
    let p : take (at + length w) t ≡ take (at + length w) u = take_less t u (at + length w) q h e in
    let r : take at t ≡ take at u = take_less t u at q (omega arith) e in
    let f = s.fits in
    let l : length (take (at + length w) t) ≡ length (take (at + length w) u) = ap length p in
    let a = length-take (at + length w) t in
    let b = length-take (at + length w) u in
    record { is = sym p ∙ s.is ∙ ap (λ (x : List ℕ). x ++ w) r; fits = omega arith }

-- The bytes at an offset, from the whole.
pub stands_whole : (w : List ℕ) → Stands w 0 w
stands_whole w = record { is = ap (λ (k : ℕ). take k w) (zero_plus (length w)) ∙ take_all (length w) w (omega arith); fits = omega arith }
  where
    zero_plus : (k : ℕ) → 0 + k ≡ k
    zero_plus k = omega arith

-- A word at the end of a text.
pub stands_end : (u w : List ℕ) → Stands (u ++ w) (length u) w
stands_end u w = subst (λ (k : ℕ). Stands (u ++ w) k w) (zero-add (length u)) (stands_second u w (stands_whole (u ++ w)))

-- The bytes that stand at an offset are the part of the text there.
pub stands_part : {t : List ℕ} {at : ℕ} (w : List ℕ) → Stands t at w → take (length w) (drop at t) ≡ w
stands_part {t} {at} w s =
    let f = s.fits in
    let n : length (take at t) ≡ at = length-take-le at t (omega arith) in
    sym (drop_at (take at t) (take (length w) (drop at t)) at n)
    ∙ ap (drop at) (sym (take-add at (length w) t) ∙ s.is)
    ∙ drop_at (take at t) w at n

pub part_stands : (t : List ℕ) (at k : ℕ) → at + k ≤ length t → Stands t at (take k (drop at t))
part_stands t at k h =
    let d = length-drop at t in
    let l : length (take k (drop at t)) ≡ k = length-take-le k (drop at t) (omega arith) in
    record { is = ap (λ (n : ℕ). take (at + n) t) l ∙ take-add at k t; fits = omega arith }

-- A text that agrees with another up to an offset is as long up to there.
pub as_long : (t u : List ℕ) (q : ℕ) → take (q + 1) t ≡ take (q + 1) u → (k : ℕ) → k ≤ length t → k ≤ q + 1 → k ≤ length u
as_long t u q e k h m =
    let l : length (take (q + 1) t) ≡ length (take (q + 1) u) = ap length e in
    let a = length-take (q + 1) t in
    let b = length-take (q + 1) u in
    omega arith
