-- Laws of the lines behind the counts: what they are by their parts, how many they are, and what two passes over them store.
use Rattle.std.specs.Prelude.{ℕ, zero, suc, ◌-◌, ◌≤◌, List, [], ◌++◌, refl, length, set, replicate}
use Rattle.std.proofs.Common.{arith, ◌∙◌, length-set}
use Rattle.std.proofs.Math.Path.{◌≡◌, ap, sym}
use Rattle.std.proofs.lemmas.List.{length-replicate}
use Rattle.std.proofs.lemmas.List.Edits.{sets}
use Rattle.format_read.proofs.Laws.Lines.{lines_length}
use Rattle.format_read.proofs.Laws.Step.{then_found, then_refused, then_value, stored_refused}
use Rattle.format_read.specs.Lines.{whole}
use Rattle.format_read.specs.Step.{Step, found, refused, ◌then◌}
use Rattle.format_survey.proofs.Laws.Body.{pass_refused}
use Rattle.format_stp.specs.StpReading.{StpContent, stp_edges, terminal_line, terminal_lines}
use Rattle.format_stp.specs.StpWord.{after_empty}
use Rattle.format_stp.proofs.Laws.TerminalTurn.{end_within}
use Rattle.format_stp.specs.Section.{terminals_announced, terminals_closed}
use Rattle.format_stp.specs.Terminals.{terminals_from, terminals_to_end, groups_after}
use Rattle.base_limits.specs.Limits.{max_vertices}
use Rattle.format_stp.specs.Parts.{stp_lines, stored_by}

-- ---- by their parts

module _ (n m : ℕ) (t : List ℕ) (at : ℕ) where
  -- What the lines say, with these groups.
  abbrev pub saying : List ℕ → StpContent
  saying gs = record { vertices = n; edges = m; groups = gs; lines = (stp_edges n t m at).values }

  pub lines_early : {i p : ℕ} → (stp_edges n t m at).end ≡ refused i p → stp_lines n m t at ≡ refused i p
  unfolding stp_lines whole
  lines_early e = then_refused _ (then_refused _ e)

  module _ {z p : ℕ} (e : (stp_edges n t m at).end ≡ found z p) where
    pub lines_late : {i q : ℕ} → terminals_to_end n t p ≡ refused i q → stp_lines n m t at ≡ refused i q
    unfolding stp_lines whole
    lines_late f = then_found _ (then_found _ e) ∙ then_refused _ f

    pub lines_said : {gs : List ℕ} {q : ℕ} → terminals_to_end n t p ≡ found gs q → stp_lines n m t at ≡ found (saying gs) q
    unfolding stp_lines whole
    lines_said f = then_found _ (then_found _ e) ∙ then_found _ f

-- What an answer says of what was read for it.
module _ {A : Type 0} where
  -- What was read, to the place behind it.
  pub record Said (s : Step A) (q : ℕ) : Type 0 where
    pub value : A
    pub is : s ≡ found value q

  pub said_found : {s : Step A} {v q : ℕ} → ◌≡◌ {A = Step ℕ} (s then λ a r. found 0 r) (found v q) → Said s q
  unfolding ◌then◌
  said_found {s} {v} {q} e = by_step s e
    where
      by_step : (s : Step A) → ◌≡◌ {A = Step ℕ} (s then λ a r. found 0 r) (found v q) → Said s q
      by_step (found a r) e = let same : r ≡ q = cc in record { value = a; is = ap (found a) same }
      by_step (refused i r) e = let z : ◌≡◌ {A = ℕ} 0 1 = cc in absurd (omega arith)

  pub said_refused : {s : Step A} {i q : ℕ} → ◌≡◌ {A = Step ℕ} (s then λ a r. found 0 r) (refused i q) → s ≡ refused i q
  unfolding ◌then◌
  said_refused {s} {i} {q} e = by_step s e
    where
      by_step : (s : Step A) → ◌≡◌ {A = Step ℕ} (s then λ a r. found 0 r) (refused i q) → s ≡ refused i q
      by_step (found a r) e = let z : ◌≡◌ {A = ℕ} 0 1 = cc in absurd (omega arith)
      by_step (refused j r) e = let a : j ≡ i = cc in let b : r ≡ q = cc in cc

-- ---- how many they are

pub terminals_length : (n : ℕ) (t : List ℕ) (k : ℕ) (groups : List ℕ) (at : ℕ) {gs : List ℕ} {q : ℕ} → terminal_lines n k groups t at ≡ found gs q → length gs ≡ length groups
unfolding terminal_lines
terminals_length n t zero groups at {gs} e = let a : groups ≡ gs = cc in sym (ap length a)
terminals_length n t (suc k) groups at {gs} e =
    let f = then_value (after_empty (terminal_line n groups) t at) _ e in
    terminals_length n t k (set groups (f.0 - 1) 1) f.1 f.3 ∙ length-set groups (f.0 - 1) 1

from_length : (n : ℕ) (t : List ℕ) (groups : List ℕ) (at : ℕ) {gs : List ℕ} {q : ℕ} → terminals_from n groups t at ≡ found gs q → length gs ≡ length groups
unfolding terminals_from
from_length n t groups at {gs} {q} e =
    let f = then_value (terminals_announced n t at) _ e in
    let g = then_value (terminal_lines n f.0 groups t f.1) _ f.3 in
    let h = then_value (terminals_closed t g.1) _ g.3 in
    let same : g.0 ≡ gs = cc h.3 in
    ap length (sym same) ∙ terminals_length n t f.0 groups f.1 g.2

pub groups_length : (n : ℕ) (t : List ℕ) (at : ℕ) {gs : List ℕ} {q : ℕ} → n ≤ max_vertices → terminals_to_end n t at ≡ found gs q → length gs ≡ n
groups_length n t at h e = from_length n t (replicate n 0) at (sym (end_within n t at h) ∙ e) ∙ length-replicate {A = ℕ} n 0

pub edges_length : (n m : ℕ) (t : List ℕ) (at : ℕ) {z p : ℕ} → (stp_edges n t m at).end ≡ found z p → length (stp_edges n t m at).values ≡ m
unfolding stp_edges
edges_length n m t at e = lines_length _ m 0 at e

-- ---- what is stored

module _ (values : StpContent → List ℕ) (old : List ℕ) {s : Step StpContent} where
  pub kept_by_law : {i p : ℕ} → s ≡ refused i p → old ≡ stored_by s values old
  unfolding stored_by
  kept_by_law e = sym (ap (λ (x : Step StpContent). stored_by x values old) e)

  pub stored_by_law : {x : StpContent} {p : ℕ} → s ≡ found x p → sets old 0 (values x) ≡ stored_by s values old
  unfolding stored_by
  stored_by_law e = sym (ap (λ (x : Step StpContent). stored_by x values old) e)

-- A pass over a buffer of no length stores nothing.
pub pass_nothing : (values old : List ℕ) {new : List ℕ} → new ≡ sets [] 0 values → new ++ old ≡ old
pass_nothing values old h = pass_refused values old {end = refused 0 0} refl h ∙ stored_refused {A = ℕ} {s = refused 0 0} (sets old 0 values) old refl

-- The groups behind the tracks.
pub groups_kept : (old : List ℕ) {s : Step (List ℕ)} {i p : ℕ} → s ≡ refused i p → groups_after s old ≡ old
unfolding groups_after
groups_kept old e = ap (λ (x : Step (List ℕ)). groups_after x old) e

pub groups_made : (old : List ℕ) {s : Step (List ℕ)} {gs : List ℕ} {p : ℕ} → s ≡ found gs p → groups_after s old ≡ sets old 0 gs
unfolding groups_after
groups_made old e = ap (λ (x : Step (List ℕ)). groups_after x old) e
