-- One turn of each loop over the beginning of an STP text.
use Rattle.std.specs.Prelude.{ℕ, suc, ◌+◌, ◌≤◌, ◌<◌, Bool, true, false, ◌&&◌, ◌||◌, cond, List, [], ◌∷◌, ◌≡◌, eqb, length, get_or, drop}
use Rattle.std.proofs.Common.{add-one, arith, sym, ◌∙◌, drop_of_length-le, drop-cons}
use Rattle.std.proofs.Math.Path.{refl, ap}
use borrow.Author.Tests.{eqb-true, eqb-false, eq-eqb, ne_eqb}
use Rattle.base_finite.specs.Laws.Test.{and_left, and_right}
use Rattle.format_write.specs.Key.{newline}
use Rattle.format_read.specs.Bytes.{fixed_at}
use Rattle.format_read.proofs.Laws.Bytes.{read_inside, no_bool}
use Rattle.format_read.specs.Step.{Step, found, refused}
use Rattle.format_stp.proofs.Laws.ByByte.{byte_passes, byte_fails}
use Rattle.format_stp.proofs.Laws.Comment.{comment_stop, comment_line_law, comment_byte, comment_out}
use Rattle.format_stp.proofs.Laws.EmptyLines.{empty_more, empty_none}
use Rattle.format_stp.specs.StpKey.{comment_letter, graph_letter, graph_rest}
use Rattle.format_stp.specs.StpReading.{comment_section, graph_section}
use Rattle.format_stp.specs.StpWord.{empty_lines, shown, comment_from}

-- ---- empty lines

pub skip_on : (t : List ℕ) (at : ℕ) → at < length t → get_or t at 0 ≡ newline → at + 1 + empty_lines (drop (at + 1) t) ≡ at + empty_lines (drop at t)
skip_on t at h e = let z = empty_more t at h e in omega arith

pub skip_stop : (t : List ℕ) (at : ℕ) → (get_or t at 0 ≡ newline → ⊥) → at ≡ at + empty_lines (drop at t)
skip_stop t at n = let z = empty_none t at n in omega arith

pub skip_end : (t : List ℕ) (at : ℕ) → length t ≤ at → at ≡ at + empty_lines (drop at t)
unfolding empty_lines
skip_end t at h = let z : empty_lines (drop at t) ≡ 0 = ap empty_lines (drop_of_length-le t h) in omega arith

-- ---- a comment

-- What the line has shown after a byte that may end it.
abbrev pub shown_after : (seen b : ℕ) → ℕ
shown_after seen b = cond (eqb b newline) 0 (shown seen b)

module _ (seen : ℕ) (t : List ℕ) (at : ℕ) (h : at < length t) where
  pub comment_ends : (eqb seen 3 && eqb (get_or t at 0) newline) ≡ true → comment_from seen (drop at t) at ≡ found 0 (at + 1)
  comment_ends e =
      ap (λ (l : List ℕ). comment_from seen l at) (drop-cons t at 0 h)
      ∙ comment_stop seen (get_or t at 0) (drop (suc at) t) at (eqb-true (get_or t at 0) newline (and_right (eqb seen 3) (eqb (get_or t at 0) newline) e)) (eqb-true seen 3 (and_left (eqb seen 3) (eqb (get_or t at 0) newline) e))

  pub comment_on : (eqb seen 3 && eqb (get_or t at 0) newline) ≡ false → comment_from seen (drop at t) at ≡ comment_from (shown_after seen (get_or t at 0)) (drop (at + 1) t) (at + 1)
  comment_on e = ap (λ (l : List ℕ). comment_from seen l at) (drop-cons t at 0 h) ∙ by_byte_law (eqb (get_or t at 0) newline) refl (eqb seen 3) refl e ∙ ap (λ (k : ℕ). comment_from (shown_after seen (get_or t at 0)) (drop k t) (at + 1)) (sym (add-one at))
    where
      by_byte_law : (c : Bool) → eqb (get_or t at 0) newline ≡ c → (d : Bool) → eqb seen 3 ≡ d → (d && c) ≡ false
          → comment_from seen (get_or t at 0 ∷ drop (suc at) t) at ≡ comment_from (shown_after seen (get_or t at 0)) (drop (suc at) t) (at + 1)
      by_byte_law true f true g e = no_bool e
      by_byte_law true f false g e =
          comment_line_law seen (get_or t at 0) (drop (suc at) t) at (eqb-true (get_or t at 0) newline f) (eqb-false seen 3 g)
          ∙ ap (λ (c : Bool). comment_from (cond c 0 (shown seen (get_or t at 0))) (drop (suc at) t) (at + 1)) (sym f)
      by_byte_law false f d g e =
          comment_byte seen (get_or t at 0) (drop (suc at) t) at (eqb-false (get_or t at 0) newline f)
          ∙ ap (λ (c : Bool). comment_from (cond c 0 (shown seen (get_or t at 0))) (drop (suc at) t) (at + 1)) (sym f)

pub comment_over : (seen : ℕ) (t : List ℕ) (at : ℕ) → length t ≤ at → comment_from seen (drop at t) at ≡ refused 16 at
comment_over seen t at h = ap (λ (l : List ℕ). comment_from seen l at) (drop_of_length-le t h) ∙ comment_out seen at

module _ (seen b : ℕ) where
  pub shown_line : b ≡ newline → shown_after seen b ≡ 0
  shown_line e = rw (eq-eqb b newline e) refl

  pub shown_one : (b ≡ newline → ⊥) → (eqb seen 0 && eqb b 69) ≡ true → shown_after seen b ≡ 1
  unfolding shown
  shown_one n e = rw (ne_eqb b newline n, e) refl

  pub shown_two : (b ≡ newline → ⊥) → (eqb seen 0 && eqb b 69) ≡ false → (eqb seen 1 && eqb b 78) ≡ true → shown_after seen b ≡ 2
  unfolding shown
  shown_two n e f = rw (ne_eqb b newline n, e, f) refl

  pub shown_three : (b ≡ newline → ⊥) → (eqb seen 0 && eqb b 69) ≡ false → (eqb seen 1 && eqb b 78) ≡ false → (eqb seen 2 && eqb b 68) ≡ true → shown_after seen b ≡ 3
  unfolding shown
  shown_three n e f g = rw (ne_eqb b newline n, e, f, g) refl

  pub shown_other : (b ≡ newline → ⊥) → (eqb seen 0 && eqb b 69) ≡ false → (eqb seen 1 && eqb b 78) ≡ false → (eqb seen 2 && eqb b 68) ≡ false → shown_after seen b ≡ 4
  unfolding shown
  shown_other n e f g = rw (ne_eqb b newline n, e, f, g) refl

-- ---- the section behind the header

module _ (t : List ℕ) (at : ℕ) where
  abbrev pass : ℕ → Bool
  pass b = eqb b comment_letter || eqb b graph_letter

  abbrev next : ℕ → List ℕ → ℕ → Step ℕ
  next b = cond (eqb b comment_letter) comment_section (fixed_at graph_rest)

  pub section_comment : get_or t at 0 ≡ comment_letter → graph_section t at ≡ comment_section t (at + 1)
  unfolding graph_section
  section_comment e = byte_passes pass next t at (read_inside t at (omega arith)) (rw e refl) ∙ ap (λ (b : ℕ). next b t (at + 1)) e

  pub section_graph : get_or t at 0 ≡ graph_letter → graph_section t at ≡ fixed_at graph_rest t (at + 1)
  unfolding graph_section
  section_graph e = byte_passes pass next t at (read_inside t at (omega arith)) (rw e refl) ∙ ap (λ (b : ℕ). next b t (at + 1)) e

  pub section_other : (get_or t at 0 ≡ comment_letter → ⊥) → (get_or t at 0 ≡ graph_letter → ⊥) → graph_section t at ≡ refused 16 at
  unfolding graph_section
  section_other n m = byte_fails pass next t at (rw (ne_eqb (get_or t at 0) comment_letter n, ne_eqb (get_or t at 0) graph_letter m) refl)
