-- Laws of the terminals' lines: one turn of the loop over them, and the parts of the section taken together.
use Prim.Native.Nat.{ℕ, zero, suc, ◌-◌, ◌≤◌, ◌<◌}
use native.Mathlib.Omega.{arith}
use Rattle.std.proofs.Math.Nat.{sub-zero}
use Rattle.std.specs.Prelude.{List, ◌∷◌, ◌++◌, ◌≡◌, length, set, take, drop, replicate}
use Rattle.std.proofs.Math.Path.{refl, ap}
use Rattle.std.proofs.Common.{sym, ◌∙◌, take_at, length-take-le, lt-ltb, le-ltb}
use Rattle.std.proofs.lemmas.List.{length-replicate}
use Rattle.std.proofs.lemmas.List.Edits.{sets}
use Rattle.std.proofs.Math.Seq.{length_front}
use Rattle.base_limits.specs.Limits.{max_vertices}
use Rattle.format_read.specs.Bytes.{end_at}
use Rattle.format_read.proofs.Laws.Step.{then_found, then_refused, then_then}
use Rattle.format_read.specs.Step.{Step, found, refused, ◌then◌}
use Rattle.format_read.specs.Answer.{number_step}
use Rattle.format_read.specs.declared.Number.{Number}
use Rattle.format_read.specs.declared.Number.TheVariants.{Value, Refused}
use Rattle.format_stp.specs.StpKey.{end_line, terminals_line, eof_line}
use Rattle.format_stp.specs.StpReading.{stp_line, terminal_count, terminal_line, terminal_lines, terminal_section}
use Rattle.format_stp.specs.StpWord.{after_empty}
use Rattle.format_stp.specs.TerminalsAnswer.{groups_step}
use Rattle.format_stp.specs.Section.{terminals_announced, terminals_closed}
use Rattle.format_stp.specs.Terminals.{terminals_from, terminals_to_end, groups_after}

-- ---- one turn

module _ (n left : ℕ) (groups t : List ℕ) (at : ℕ) where
  pub terminals_on : {v p : ℕ} → 0 < left → after_empty (terminal_line n groups) t at ≡ found v p → terminal_lines n left groups t at ≡ terminal_lines n (left - 1) (set groups (v - 1) 1) t p
  unfolding terminal_lines
  terminals_on {v} {p} h e = by_left left h
    where
      by_left : (left : ℕ) → 0 < left → terminal_lines n left groups t at ≡ terminal_lines n (left - 1) (set groups (v - 1) 1) t p
      by_left zero h = absurd (omega arith)
      by_left (suc k) h = let z : suc k - 1 ≡ k = omega arith in then_found _ e ∙ ap (λ (j : ℕ). terminal_lines n j (set groups (v - 1) 1) t p) (sym z)

  pub terminals_stop : {i p : ℕ} → 0 < left → after_empty (terminal_line n groups) t at ≡ refused i p → terminal_lines n left groups t at ≡ refused i p
  unfolding terminal_lines
  terminals_stop {i} {p} h e = by_left left h
    where
      by_left : (left : ℕ) → 0 < left → terminal_lines n left groups t at ≡ refused i p
      by_left zero h = absurd (omega arith)
      by_left (suc k) h = then_refused _ e

  pub terminals_done : left ≤ 0 → terminal_lines n left groups t at ≡ found groups at
  unfolding terminal_lines
  terminals_done h = by_left left h
    where
      by_left : (left : ℕ) → left ≤ 0 → terminal_lines n left groups t at ≡ found groups at
      by_left zero h = refl
      by_left (suc k) h = absurd (omega arith)

-- ---- the parts together

pub each_then : {A B : Type 0} (s : Step A) {f g : A → ℕ → Step B} → ((a : A) (p : ℕ) → f a p ≡ g a p) → (s then f) ≡ (s then g)
unfolding ◌then◌
each_then (found a p) h = h a p
each_then (refused n p) h = refl

-- What stands from the end of the graph to the end of the text.
abbrev whole : (n : ℕ) → List ℕ → (at : ℕ) → Step (List ℕ)
whole n t at = terminal_section n t at then λ gs p. after_empty end_at t p then λ z q. found gs q

pub from_zeros : (n : ℕ) (t : List ℕ) (at : ℕ) → terminals_from n (replicate n 0) t at ≡ whole n t at
unfolding terminals_from terminals_announced terminals_closed terminal_section ◌then◌
from_zeros n t at =
    then_then (stp_line end_line t at) _ _ ∙ each_then (stp_line end_line t at) (λ z a. then_then (stp_line terminals_line t a) _ _ ∙ each_then (stp_line terminals_line t a) (λ y b. each_then (after_empty (terminal_count n) t b) (λ k c. inner k c)
    ∙ sym (then_then (after_empty (terminal_count n) t b) _ _)) ∙ sym (then_then (stp_line terminals_line t a) _ _))
    ∙ sym (then_then (stp_line end_line t at) _ _)
  where
    tail : (gs : List ℕ) (d : ℕ)
        → ((stp_line end_line t d then λ x e. stp_line eof_line t e then λ w f. after_empty end_at t f) then λ z q. found gs q)
        ≡ ((stp_line end_line t d then λ x e. stp_line eof_line t e then λ w f. found gs f) then λ hs p. after_empty end_at t p then λ z q. found hs q)
    tail gs d =
        then_then (stp_line end_line t d) _ _ ∙ each_then (stp_line end_line t d) (λ x e. then_then (stp_line eof_line t e) _ _ ∙ sym (then_then (stp_line eof_line t e) _ _)) ∙ sym (then_then (stp_line end_line t d) _ _)

    inner : (k c : ℕ)
        → (terminal_lines n k (replicate n 0) t c then λ gs d. (stp_line end_line t d then λ x e. stp_line eof_line t e then λ w f. after_empty end_at t f) then λ z q. found gs q)
        ≡ ((terminal_lines n k (replicate n 0) t c then λ gs d. stp_line end_line t d then λ x e. stp_line eof_line t e then λ w f. found gs f) then λ hs p. after_empty end_at t p then λ z q. found hs q)
    inner k c = each_then (terminal_lines n k (replicate n 0) t c) (λ gs d. tail gs d) ∙ sym (then_then (terminal_lines n k (replicate n 0) t c) _ _)

-- ---- the limit

module _ (n : ℕ) (t : List ℕ) (at : ℕ) where
  pub end_over : max_vertices < n → terminals_to_end n t at ≡ refused 1 0
  unfolding terminals_to_end
  end_over h = rw (lt-ltb max_vertices n h) refl

  pub end_within : n ≤ max_vertices → terminals_to_end n t at ≡ terminals_from n (replicate n 0) t at
  unfolding terminals_to_end
  end_within h = rw (le-ltb max_vertices n h) (sym (from_zeros n t at))

-- The first of so many zeros.
pub take_zeros : (n m : ℕ) → n ≤ m → take n (replicate {A = ℕ} m 0) ≡ replicate n 0
take_zeros zero m h = refl
take_zeros (suc n) zero h = absurd (omega arith)
take_zeros (suc n) (suc m) h = ap (λ (l : List ℕ). 0 ∷ l) (take_zeros n m (omega arith))

-- What is written and answered, by what was found.
module _ {s : Step (List ℕ)} (old : List ℕ) where
  pub after_found : {gs : List ℕ} {p : ℕ} → s ≡ found gs p → (◌≡◌ {A = Step ℕ} (s then λ hs q. found 0 q) (found 0 p)) × (groups_after s old ≡ sets old 0 gs)
  unfolding ◌then◌ groups_after
  after_found e = (ap (λ (x : Step (List ℕ)). ◌then◌ {B = ℕ} x (λ hs q. found 0 q)) e, ap (λ (x : Step (List ℕ)). groups_after x old) e)

  pub after_refused : {i p : ℕ} → s ≡ refused i p → (◌≡◌ {A = Step ℕ} (s then λ hs q. found 0 q) (refused i p)) × (groups_after s old ≡ old)
  unfolding ◌then◌ groups_after
  after_refused e = (ap (λ (x : Step (List ℕ)). ◌then◌ {B = ℕ} x (λ hs q. found 0 q)) e, ap (λ (x : Step (List ℕ)). groups_after x old) e)

-- The end of the text, with the groups that were made before it.
pub closes : (r : Number) (groups : List ℕ) {s : Step ℕ} → number_step r ≡ s → groups_step r groups ≡ (s then λ z q. found groups q)
unfolding number_step groups_step ◌then◌
closes (Value v next) groups e = ap (λ (x : Step ℕ). x then λ z q. found groups q) e
closes (Refused i p) groups e = ap (λ (x : Step ℕ). x then λ z q. found groups q) e

-- Zeros lent, as many as there are vertices.
pub end_lent : (n : ℕ) (t : List ℕ) (at : ℕ) → n ≤ max_vertices → terminals_from n (take (n - 0) (replicate max_vertices 0)) t at ≡ terminals_to_end n t at
end_lent n t at h =
    ap (λ (l : List ℕ). terminals_from n l t at) (ap (λ (k : ℕ). take k (replicate max_vertices 0)) (sub-zero n) ∙ take_zeros n max_vertices h) ∙ sym (end_within n t at h)

-- The part that was lent: it is inside the array, and is what it was left as.
module _ (n : ℕ) (held : List ℕ) (h : n ≤ max_vertices) (e : length held ≡ length (take (n - 0) (replicate {A = ℕ} max_vertices 0))) where
  abbrev pub zeros : List ℕ
  zeros = replicate max_vertices 0

  long : length zeros ≡ max_vertices
  long = length-replicate {A = ℕ} max_vertices 0

  pub lent_end : n ≤ length (held ++ drop (n - 0) zeros)
  lent_end = omega (arith, length_front zeros held (n - 0) e, long)

  pub held_part : take (n - 0) (held ++ drop (n - 0) zeros) ≡ held
  held_part = take_at held (drop (n - 0) zeros) (n - 0) (e ∙ length-take-le (n - 0) zeros (omega (arith, long)))
