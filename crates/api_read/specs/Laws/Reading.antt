-- Refusals of reading are told by one number of 64 bits: each is 16, whose place is at most 65,536 since no later byte changes the answer, or one of the tests' own, whose place is a junction, a number of three digits, a pair or 0.
use Rattle.std.specs.Prelude.{ℕ, zero, suc, ◌+◌, ◌<◌, ◌≤◌, ◌^◌, ◌≡◌, Bool, true, false, not, cond, List, [], ◌∷◌, length, take, leb, eqb}
use native.Mathlib.Omega.{arith}
use Rattle.std.proofs.Math.Nat.{min-le_left}
use Rattle.std.proofs.Common.{ap, sym, ◌∙◌, subst, ⊎_elim, length-take, lit<}
use Rattle.base_finite.specs.Laws.Below.{lt_or_ge}
use Rattle.base_limits.specs.Limits.{max_vertices, max_pairs, count_digits, group_digits, endpoint_digits, weight_digits, also_digits, survey_room}
use Rattle.base_limits.specs.Verdict.{refusal}
use Rattle.base_limits.specs.declared.Verdict.{Verdict}
use Rattle.base_limits.specs.declared.Verdict.TheVariants.{Fine, Refused}
use Rattle.format_write.specs.Key.{nodes_key, links_key, node_key, also_key, link_key, comma, newline}
use Rattle.format_read.specs.Step.{Step, found, refused, ◌then◌, checked}
use Rattle.format_read.specs.Bytes.{byte_is, fixed_at, end_at}
use Rattle.format_read.specs.Items.{items_from}
use Rattle.format_read.specs.Lines.{following, lines_from, whole}
use Rattle.format_read.proofs.Laws.Step.{Stops, early, late, then_stops}
use Rattle.format_read.proofs.Laws.Lines.{lines_unfold}
use Rattle.format_write.specs.Decimal.{spelled_after}
use Rattle.format_read.specs.Number.{also_letter, numeral_at, number_at, number_to, number_line}
use Rattle.format_read.proofs.Laws.Near.{local_tested}
use Rattle.format_also.specs.Pair.{Pair, PairDigits, rank, pair_at, also_test, also_line, also_reader, also_turns, also_at}
use Rattle.format_also.specs.Laws.Tests.{pair_digits, line_past, line_read}
use Rattle.format_survey.specs.Line.{Lengths, pair_room, tests_for, vertices_test, edges_test, group_test, count_line, group_line, group_lines, edge_line, edge_lines}
use Rattle.format_survey.proofs.Laws.Tests.{vertices_passed}
use Rattle.format_survey.specs.Reading.{survey_at, step_outcome, reading}
use Rattle.format_survey.proofs.Laws.Content.{content_at, content_survey_law}
use Rattle.format_survey.proofs.Laws.WellFormed.{malformed_begins}
use Rattle.format_survey.proofs.Laws.Cut.{reading_first_bytes}
use Rattle.api_code.specs.Laws.Encodable.{Telling, Encodable, encodable_refuse, encodable_before, at_zero, at_place}

-- A refusal of a step is 16, or one that is told wherever it is.
data Finding (number place : ℕ) : Type 0 where
  malformed : number ≡ 16 → Finding number place
  told : Telling number place → Finding number place

record Finds {A : Type 0} (s : Step A) : Type 0 where
  finding : (number place : ℕ) → s ≡ refused number place → Finding number place

finds_value : {A : Type 0} (a : A) (next : ℕ) → Finds (found a next)
finds_value {A} a next = record { finding = λ number place e. absurd (never e) }
  where
    never : {number place : ℕ} → ◌≡◌ {A = Step A} (found a next) (refused number place) → ⊥
    never e = let z : ◌≡◌ {A = ℕ} 0 1 = cc in omega arith

finds_malformed : {A : Type 0} (at : ℕ) → Finds {A = A} (refused 16 at)
finds_malformed {A} at = record { finding = λ number place e. malformed (same e) }
  where
    same : {number place : ℕ} → ◌≡◌ {A = Step A} (refused 16 at) (refused number place) → number ≡ 16
    same e = cc

finds_then : {A B : Type 0} (s : Step A) (k : A → ℕ → Step B) → Finds s → ((a : A) (next : ℕ) → s ≡ found a next → Finds (k a next)) → Finds (s then k)
finds_then s k h g = record { finding = λ number place e. by_place number place (then_stops s k e) }
  where
    by_place : (number place : ℕ) → Stops s k number place → Finding number place
    by_place number place (early x) = h.finding number place x
    by_place number place (late a next x y) = (g a next x).finding number place y

finds_cond : {A : Type 0} (b : Bool) {x y : Step A} → Finds x → Finds y → Finds (cond b x y)
finds_cond true h k = h
finds_cond false h k = k

finds_checked : {A : Type 0} (w : Verdict) → Encodable w → (a : A) (next : ℕ) → Finds (checked w a next)
unfolding checked
finds_checked Fine h a next = finds_value a next
finds_checked {A} (Refused i j) h a next = record { finding = λ number place e. told (h.telling number place (same e)) }
  where
    same : {number place : ℕ} → ◌≡◌ {A = Step A} (refused i j) (refused number place) → Refused i j ≡ Refused number place
    same {number} {place} e = let x : i ≡ number = cc in let y : j ≡ place = cc in cc

finds_fixed : (bytes t : List ℕ) (at : ℕ) → Finds (fixed_at bytes t at)
unfolding fixed_at
finds_fixed [] t at = finds_value 0 at
finds_fixed (b ∷ bytes) t at = finds_cond (byte_is t at b) (finds_fixed bytes t (at + 1)) (finds_malformed at)

finds_number : (limit : ℕ) (t : List ℕ) (at : ℕ) → Finds (number_at limit t at)
unfolding number_at
finds_number limit t at =
    finds_cond (eqb (length (numeral_at limit t at)) 0)
    (finds_malformed at)
    (finds_value (spelled_after 0 (numeral_at limit t at)) (at + length (numeral_at limit t at)))

finds_to : (limit stop : ℕ) (t : List ℕ) (at : ℕ) → Finds (number_to limit stop t at)
unfolding number_to
finds_to limit stop t at = finds_then _ _ (finds_number limit t at) λ n p e. finds_then _ _ (finds_fixed (stop ∷ []) t p) λ z q f. finds_value n q

-- A line whose number is tested when the line is complete.
finds_tested : (key : List ℕ) (limit : ℕ) (test : ℕ → Verdict) → ((x : ℕ) → Encodable (test x)) → (t : List ℕ) (at : ℕ) → Finds (number_line key limit t at then λ x p. checked (test x) x p)
unfolding number_line
finds_tested key limit test h t at =
    finds_then _ _ (finds_then _ _ (finds_fixed key t at) λ z p e. finds_to limit newline t p) λ x q f. finds_checked (test x) (h x) x q

finds_edge : (t : List ℕ) (e at : ℕ) → Finds (edge_line t e at)
unfolding edge_line
finds_edge t e at =
    finds_then _ _ (finds_fixed link_key t at) λ z a f.
    finds_then _ _ (finds_to endpoint_digits comma t a) λ u b f.
    finds_then _ _ (finds_to endpoint_digits comma t b) λ v c f.
    finds_then _ _ (finds_to weight_digits newline t c) λ w d f.
    finds_value _ d

-- Lines, of which those below `most` find no more.
finds_lines : {A : Type 0} (line : ℕ → ℕ → Step A) (most : ℕ) → ((i at : ℕ) → i < most → Finds (line i at)) → (count i at : ℕ) → i + count ≤ most → Finds (whole (lines_from line count i at))
unfolding lines_from whole ◌then◌
finds_lines line most h zero i at fits = finds_value [] at
finds_lines line most h (suc count) i at fits =
    subst Finds (lines_unfold line count i at)
    (finds_then _ _ (h i at (omega arith)) λ a p e. finds_then _ _ (finds_lines line most h count (i + 1) p (omega arith)) λ l q f. finds_value (a ∷ l) q)

vertices_encodable : (lent n : ℕ) → Encodable (vertices_test lent n)
unfolding vertices_test
vertices_encodable lent n = encodable_before _ _ (encodable_refuse _ (at_zero 1 (lit< tt) (lit< tt))) λ _. encodable_refuse _ (at_zero 7 (lit< tt) (lit< tt))

edges_encodable : (firsts seconds weights m : ℕ) → Encodable (edges_test firsts seconds weights m)
unfolding edges_test
edges_encodable firsts seconds weights m = encodable_before _ _ (encodable_refuse _ (at_zero 3 (lit< tt) (lit< tt))) λ _. encodable_refuse _ (at_zero 7 (lit< tt) (lit< tt))

group_line_encodable : (v : ℕ) → v < max_vertices → (g : ℕ) → Encodable (group_test v g)
unfolding group_test
group_line_encodable v h g = encodable_refuse _ (at_place 17 (lit< tt) (lit< tt) (omega arith))

-- ---- also lines

finds_pair : (t : List ℕ) (at : ℕ) → Finds (pair_at t at)
unfolding pair_at
finds_pair t at =
    finds_then _ _ (finds_fixed also_key t at) λ z a f.
    finds_then _ _ (finds_to also_digits comma t a) λ v b f.
    finds_then _ _ (finds_to also_digits newline t b) λ g c f.
    finds_value _ c

also_encodable : (groups : List ℕ) (room low i : ℕ) (x : Pair) → i < max_pairs → PairDigits x → Encodable (also_test groups room low i x)
unfolding also_test
also_encodable groups room low i x h d =
    let near : x.owner < 2 ^ 32 = let o = d.owner in omega arith in
    encodable_before _ _ (encodable_refuse _ (at_place 17 (lit< tt) (lit< tt) near)) λ _.
    encodable_before _ _ (encodable_refuse _ (at_place 18 (lit< tt) (lit< tt) (omega arith))) λ _.
    encodable_before _ _ (encodable_refuse _ (at_place 18 (lit< tt) (lit< tt) (omega arith))) λ _.
    encodable_before _ _ (encodable_refuse _ (at_place 18 (lit< tt) (lit< tt) (omega arith))) λ _.
    encodable_before _ _ (encodable_refuse _ (at_place 18 (lit< tt) (lit< tt) (omega arith))) λ _.
    encodable_refuse _ (at_zero 7 (lit< tt) (lit< tt))

finds_also_line : (t groups : List ℕ) (room low i at : ℕ) → Finds (also_line t groups room low i at)
finds_also_line t groups room low i at = ⊎_elim some past (lt_or_ge i max_pairs)
  where
    some : i < max_pairs → Finds (also_line t groups room low i at)
    some h =
        subst Finds (sym (line_read t groups room low i at h))
        (finds_then _ _ (finds_pair t at) λ x p e. finds_checked (also_test groups room low i x) (also_encodable groups room low i x h (pair_digits t at e)) x p)

    past : max_pairs ≤ i → Finds (also_line t groups room low i at)
    past h = subst Finds (sym (line_past t groups room low i at h)) (finds_malformed at)

finds_items : (t groups : List ℕ) (room fuel low i at : ℕ) → Finds (items_from (also_reader t groups room) fuel low i at).end
unfolding items_from following also_reader
finds_items t groups room zero low i at = finds_malformed at
finds_items t groups room (suc fuel) low i at =
    by_stop (not (byte_is t at also_letter)) (also_line t groups room low i at) (finds_also_line t groups room low i at) (λ x p. finds_items t groups room fuel (rank x) (i + 1) p)
  where
    by_stop : (b : Bool) (s : Step Pair) → Finds s → ((x : Pair) (p : ℕ) → Finds (items_from (also_reader t groups room) fuel (rank x) (i + 1) p).end)
        → Finds (cond b (record { values = []; end = found low at }) (following s (λ x p. items_from (also_reader t groups room) fuel (rank x) (i + 1) p))).end
    by_stop true s h k = finds_value low at
    by_stop false (found x p) h k = k x p
    by_stop false (refused n p) h k = record { finding = λ number place e. h.finding number place (same e) }
      where
        same : {number place : ℕ} → ◌≡◌ {A = Step ℕ} (refused n p) (refused number place) → ◌≡◌ {A = Step Pair} (refused n p) (refused number place)
        same {number} {place} e = let a : n ≡ number = cc in let b : p ≡ place = cc in cc

finds_also : (t groups : List ℕ) (room at : ℕ) → Finds (whole (also_at t groups room at))
unfolding also_at whole
finds_also t groups room at = finds_then _ _ (finds_items t groups room also_turns 0 0 at) λ z p e. finds_value _ p

-- ---- the whole text

finds_content : (lent : Lengths) (t : List ℕ) → Finds (content_at (tests_for lent) t 0)
unfolding content_at tests_for count_line group_lines group_line edge_lines
finds_content lent t =
    finds_then _ _ (finds_tested nodes_key count_digits (vertices_test lent.groups) (vertices_encodable lent.groups) t 0) λ n p e.
    finds_then _ _ (finds_tested links_key count_digits (edges_test lent.firsts lent.seconds lent.weights) (edges_encodable lent.firsts lent.seconds lent.weights) t p) λ m q f.
    finds_then _ _ (finds_lines _ max_vertices (λ i at h. finds_tested node_key group_digits (group_test i) (group_line_encodable i h) t at) n 0 q (few n p e)) λ gs r g.
    finds_then _ _ (finds_also t gs (pair_room lent) r) λ ps v h.
    finds_then _ _ (finds_lines _ m (λ i at h. finds_edge t i at) m 0 v (omega arith)) λ es s h.
    finds_value _ s
  where
    few : (n p : ℕ) → (number_line nodes_key count_digits t 0 then λ x q. checked (vertices_test lent.groups x) x q) ≡ found n p → 0 + n ≤ max_vertices
    few n p e = let m = (vertices_passed lent.groups n ((local_tested nodes_key count_digits (omega arith) (vertices_test lent.groups)).near t 0 n p e).1).most in omega arith

finds_survey : (lent : Lengths) (t : List ℕ) → Finds (survey_at (tests_for lent) t)
unfolding end_at
finds_survey lent t =
    subst Finds (sym (content_survey_law (tests_for lent) t))
    (finds_then _ _ (finds_content lent t) λ x p e. finds_then _ _ (finds_cond (leb (length t) p) (finds_value 0 p) (finds_malformed p)) λ z q f. finds_value _ q)

step_refused : {A : Type 0} (s : Step A) {number place : ℕ} → step_outcome s ≡ refusal number place → s ≡ refused number place
unfolding step_outcome
step_refused (found a next) e = let z : ◌≡◌ {A = ℕ} 0 1 = cc in absurd (omega arith)
step_refused (refused i j) {number} {place} e = let a : i ≡ number = cc in let b : j ≡ place = cc in cc

module _ (t : List ℕ) (lent : Lengths) {number place : ℕ} (e : reading t lent ≡ refusal number place) where
  -- 16 stands within the first 65,536 bytes.
  malformed_near : number ≡ 16 → place ≤ survey_room
  malformed_near h =
      let same = reading_first_bytes t lent ∙ e ∙ ap (λ (n : ℕ). refusal n place) h in
      let inside = (malformed_begins lent (take survey_room t) place same).inside in
      let size = length-take survey_room t in
      let most = min-le_left survey_room (length t) in
      omega arith

  pub reading_telling : Telling number place
  unfolding reading
  reading_telling = by_finding ((finds_survey lent t).finding number place (step_refused _ e))
    where
      by_finding : Finding number place → Telling number place
      by_finding (malformed h) = let l = malformed_near h in record { some = omega arith; low = omega arith; near = omega arith }
      by_finding (told h) = h
