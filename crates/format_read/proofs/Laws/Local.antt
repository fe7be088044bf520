-- How far steps look: one after the other as far as both, lines as far as their number allows.
use Rattle.std.specs.Prelude.{ℕ, zero, suc, ◌+◌, ◌*◌, min, ◌≤◌, Bool, true, false, cond, List, [], ◌∷◌, ◌≡◌, refl, leb, length, take, drop}
use Rattle.std.proofs.Common.{suc-add, zero-add, arith, ap, sym, ◌∙◌, length-take, leb-true, leb-false}
use Rattle.std.proofs.Math.Seq.{take-nil}
use Rattle.base_limits.specs.declared.Verdict.{Verdict}
use Rattle.base_limits.specs.declared.Verdict.TheVariants.{Fine, Refused}
use Rattle.format_read.specs.Bytes.{byte_is, fixed_at, end_at, byte_step}
use Rattle.format_read.specs.Language.{LooksWithin, Any}
use Rattle.format_read.proofs.Laws.Bytes.{fixed_step, byte_alike}
use Rattle.format_read.proofs.Laws.Lines.{lines_unfold}
use Rattle.format_read.proofs.Laws.Stands.{take_less}
use Rattle.format_read.proofs.Laws.Step.{then_found, then_refused, then_value}
use Rattle.format_read.specs.Lines.{lines_from, whole}
use Rattle.format_read.specs.Step.{Step, found, refused, ◌then◌, checked}

pub local_value : {B : Type 0} (b : B) → LooksWithin (λ t at. found b at) 0 Any
local_value {B} b = record { same = λ t u at e. refl; near = λ t at c p e. (end e, tt) }
  where
    end : {at p : ℕ} {c : B} → found b at ≡ found c p → p ≤ at + 0
    end {at} {p} e = let q : at ≡ p = cc in omega arith

pub local_checked : {B : Type 0} (w : Verdict) (b : B) → LooksWithin (λ t at. checked w b at) 0 (λ c. (b ≡ c) × (w ≡ Fine))
unfolding checked
local_checked {B} Fine b = record { same = λ t u at e. refl; near = λ t at c p e. (end e, (cc, refl)) }
  where
    end : {at p : ℕ} {c : B} → found b at ≡ found c p → p ≤ at + 0
    end {at} {p} e = let q : at ≡ p = cc in omega arith
local_checked {B} (Refused n q) b = record { same = λ t u at e. refl; near = λ t at c p e. absurd (never e) }
  where
    never : {p : ℕ} {c : B} → refused n q ≡ found c p → ⊥
    never e = let z : ◌≡◌ {A = ℕ} 0 1 = cc in omega arith

pub local_then : {A B : Type 0} {f : List ℕ → ℕ → Step A} {g : A → List ℕ → ℕ → Step B} {b c : ℕ} {P : A → Type 0} {Q : B → Type 0} → LooksWithin f b P → ((a : A) → P a → LooksWithin (g a) c Q) → LooksWithin (λ t at. f t at then λ a p. g a t p) (b + c) Q
local_then {A} {B} {f} {g} {b} {c} {P} {Q} r s =
    record {
      same = λ t u at e. by_first t u at (f t at) refl (r.same t u at (take_less t u (at + b) (at + (b + c)) (omega arith) e)) e;
      near = λ t at y p e. end t at y p (then_value (f t at) (λ a p. g a t p) e);
    }
  where
    by_first : (t u : List ℕ) (at : ℕ) (x : Step A) → f t at ≡ x → f t at ≡ f u at → take (at + (b + c)) t ≡ take (at + (b + c)) u → (f t at then λ a p. g a t p) ≡ (f u at then λ a p. g a u p)
    by_first t u at (found a p) h k e =
        let n = r.near t at a p h in
        let m = n.0 in
        then_found _ h ∙ (s a n.1).same t u p (take_less t u (p + c) (at + (b + c)) (omega arith) e) ∙ sym (then_found _ (sym k ∙ h))
    by_first t u at (refused n p) h k e = then_refused _ h ∙ sym (then_refused _ (sym k ∙ h))

    end : (t : List ℕ) (at : ℕ) (y : B) (p : ℕ) → (a : A) × (q : ℕ) × (f t at ≡ found a q) × (g a t q ≡ found y p) → (p ≤ at + (b + c)) × Q y
    end t at y p (a, q, h, k) =
        let n = r.near t at a q h in
        let m = (s a n.1).near t q y p k in
        let i = n.0 in
        let j = m.0 in
        (omega arith, m.1)

pub local_as : {A : Type 0} {f g : List ℕ → ℕ → Step A} {b c : ℕ} {P Q : A → Type 0} → ((t : List ℕ) (at : ℕ) → f t at ≡ g t at) → b ≤ c → ((a : A) → P a → Q a) → LooksWithin f b P → LooksWithin g c Q
local_as {b = b} {c = c} e h k r =
    record {
      same = λ t u at q. sym (e t at) ∙ r.same t u at (take_less t u (at + b) (at + c) (omega arith) q) ∙ e u at;
      near = λ t at a p q. let n = r.near t at a p (e t at ∙ q) in let i = n.0 in (omega arith, k a n.1);
    }

local_byte : (b : ℕ) → LooksWithin (byte_step b) 1 Any
unfolding byte_step
local_byte b =
    record {
      same = λ t u at e. ap (λ (x : Bool). cond x (found 0 (at + 1)) (refused 16 at)) (byte_alike t u at b at (omega arith) e);
      near = λ t at a p e. (by_test at a p (byte_is t at b) e, tt);
    }
  where
    by_test : (at a p : ℕ) (x : Bool) → cond x (found 0 (at + 1)) (refused 16 at) ≡ found a p → p ≤ at + 1
    by_test at a p true e = let q : at + 1 ≡ p = cc in omega arith
    by_test at a p false e = let z : ◌≡◌ {A = ℕ} 0 1 = cc in absurd (omega arith)

pub local_fixed : (bytes : List ℕ) → LooksWithin (fixed_at bytes) (length bytes) Any
unfolding fixed_at
local_fixed [] = local_value 0
local_fixed (b ∷ bytes) = local_as (fixed_step b bytes) (omega arith) (λ a x. tt) (local_then {Q = Any} (local_byte b) (λ a x. local_fixed bytes))

-- A part of a text within its beginning.
pub drop_take : (at k : ℕ) (t : List ℕ) → drop at (take (at + k) t) ≡ take k (drop at t)
drop_take zero k t = ap (λ (n : ℕ). take n t) (zero-add k)
drop_take (suc at) k [] = ap (drop (suc at)) (take-nil (suc at + k)) ∙ sym (take-nil k)
drop_take (suc at) k (x ∷ t) = ap (λ (n : ℕ). drop (suc at) (take n (x ∷ t))) (suc-add at k) ∙ drop_take at k t

pub local_lines : {A : Type 0} (line : List ℕ → ℕ → ℕ → Step A) (b : ℕ) → ((i : ℕ) → LooksWithin (λ t at. line t i at) b Any) → (count i : ℕ) → LooksWithin (λ t at. whole (lines_from (line t) count i at)) (count * b) Any
unfolding lines_from whole ◌then◌
local_lines line b r zero i = local_as (λ t at. refl) (omega arith) (λ a x. tt) (local_value [])
local_lines line b r (suc count) i =
    local_as (λ t at. lines_unfold (line t) count i at) (omega arith) (λ a x. tt)
    (local_then {Q = Any} (r i) λ a x. local_then {Q = Any} (local_lines line b r count (i + 1)) λ l x. local_value (a ∷ l))

pub local_end : LooksWithin end_at 1 Any
unfolding end_at
local_end =
    record {
      same = λ t u at e. ap (λ (b : Bool). cond b (found 0 at) (refused 16 at)) (by_test t u at (leb (length t) at) (leb (length u) at) refl refl (lengths t u at e));
      near = λ t at a p e. (end at a p (leb (length t) at) e, tt);
    }
  where
    lengths : (t u : List ℕ) (at : ℕ) → take (at + 1) t ≡ take (at + 1) u → min (at + 1) (length t) ≡ min (at + 1) (length u)
    lengths t u at e = sym (length-take (at + 1) t) ∙ ap length e ∙ length-take (at + 1) u

    by_test : (t u : List ℕ) (at : ℕ) (x y : Bool) → leb (length t) at ≡ x → leb (length u) at ≡ y → min (at + 1) (length t) ≡ min (at + 1) (length u) → leb (length t) at ≡ leb (length u) at
    by_test t u at true true h k e = h ∙ sym k
    by_test t u at false false h k e = h ∙ sym k
    by_test t u at true false h k e = let a = leb-true (length t) at h in let b = leb-false (length u) at k in absurd (omega arith)
    by_test t u at false true h k e = let a = leb-false (length t) at h in let b = leb-true (length u) at k in absurd (omega arith)

    end : (at a p : ℕ) (x : Bool) → cond x (found 0 at) (refused 16 at) ≡ found a p → p ≤ at + 1
    end at a p true e = let q : at ≡ p = cc in omega arith
    end at a p false e = let z : ◌≡◌ {A = ℕ} 0 1 = cc in absurd (omega arith)
