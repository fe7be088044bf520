-- Reading gives 1, 3, 7, 17 and 18 exactly if the text begins so (specs/Beginning), and every other refusal is 16.
use Rattle.std.specs.Prelude.{ℕ, ◌+◌, ◌≤◌, ◌<◌, ◌≡◌, Bool, ◌⊎◌, ◌↔◌, List, ◌++◌, drop, leb}
use native.Mathlib.Omega.{arith}
use Rattle.std.proofs.Math.Path.{refl, ap, subst}
use Rattle.std.proofs.Common.{sym, ◌∙◌, inl, inr, ⊎_elim, append_assoc, length-append, take-append-drop, eqb-true, leb-true, leb-false}
use Rattle.std.proofs.Math.Bool.{true, false}
use Rattle.std.proofs.Math.ListN.{length}
use Rattle.std.proofs.Math.Dec.{eqb}
use Rattle.std.proofs.lemmas.Bool.{eqb-false}
use Rattle.base_limits.specs.Limits.{max_vertices, count_digits, group_digits}
use Rattle.base_limits.specs.Verdict.{refusal}
use Rattle.base_limits.specs.declared.Verdict.{Verdict}
use Rattle.base_limits.specs.declared.Verdict.TheVariants.{Refused}
use Rattle.format_write.specs.Key.{nodes_key, links_key, node_key}
use Rattle.format_write.specs.Text.{line_of}
use Rattle.format_read.specs.Step.{Step, found, refused, ◌then◌}
use Rattle.format_read.specs.Lines.{text_of, whole}
use Rattle.format_read.specs.Bytes.{end_at}
use Rattle.format_read.specs.Stands.{Stands}
use Rattle.format_read.specs.Language.{EachFrom, Texts, Reads}
use Rattle.format_read.proofs.Laws.Lines.{each_map, reads_lines}
use Rattle.format_read.proofs.Laws.Stands.{stands_whole, stands_append, stands_first, stands_second}
use Rattle.format_read.proofs.Laws.Step.{then_found, then_refused, Stops, early, late, then_stops}
use Rattle.format_read.specs.Number.{OfDigits}
use Rattle.format_read.proofs.Laws.Keyed.{Passes, reads_tested}
use Rattle.format_read.proofs.Laws.OnlyMalformed.{only_found, only_then, only_end}
use Rattle.format_also.specs.Pair.{Pair, also_test, also_at}
use Rattle.format_also.specs.Render.{pair_text, pairs_text}
use Rattle.format_also.specs.WellFormed.{last_rank}
use Rattle.format_also.specs.Laws.Tests.{also_high, also_full, out_refused, PairCause, high_group_law, out_of_order, no_room, pair_cause}
use Rattle.format_also.specs.Laws.Failing.{FailingPair, also_fails, fails_also}
use Rattle.format_survey.specs.Line.{Lengths, pair_room, Tests, tests_for, vertices_test, edges_test, group_test, count_line, group_line, group_lines, edge_lines}
use Rattle.format_survey.proofs.Laws.Tests.{vertices_none, vertices_many, vertices_short, vertices_fine, vertices_passed, edges_many, edges_fine, edges_passed, group_high, group_line_fine, group_passed}
use Rattle.format_survey.specs.Reading.{survey_at, step_outcome, reading}
use Rattle.format_survey.specs.Beginning.{BeginsWith, VerticesFit, EdgesFit, VerticesOut, EdgesOver, GroupsShort, EdgesShort, GroupOver, AlsoLine, PairOver, PairFaulty, PairsShort, BufferShort, HighGroup, Refusing, vertices_out, edges_over, buffer_short, high_group, pair_faulty}
use Rattle.format_survey.proofs.Laws.Content.{SurveyContent, content_with, content_survey, content_at, NeverMalformed, content_survey_law}
use Rattle.format_survey.proofs.Laws.WellFormed.{never_malformed, outcome_refused}
use Rattle.format_survey.proofs.Laws.OnlyMalformed.{only_edges}
use Rattle.format_survey.proofs.Laws.Failing.{FailingLine, PassingLine, line_fails, fails_line, line_passes, passes_line, passing_fits, FailingGroup, lines_fail, fail_lines}
use Rattle.format_survey.proofs.Laws.Cause.{VerticesCause, out_of_range, too_long_law, vertices_cause, EdgesCause, over_limit, too_many, edges_cause, short_refused, group_cause}

-- ---- how a text begins

pub begins_stands : {w t : List ℕ} → BeginsWith w t → Stands t 0 w
begins_stands {w} {t} b = subst (λ (z : List ℕ). Stands z 0 w) (sym b.whole) (stands_first w b.rest (stands_whole (w ++ b.rest)))

pub stands_begins : {w t : List ℕ} → Stands t 0 w → BeginsWith w t
stands_begins {w} {t} s =
    record { rest = drop (0 + length w) t; whole = sym (take-append-drop (0 + length w) t) ∙ ap (λ (z : List ℕ). z ++ drop (0 + length w) t) s.is }

-- ---- the whole text

-- Group lines that are all read.
record PassingGroups (test : ℕ → ℕ → Verdict) (t : List ℕ) (count at : ℕ) (groups : List ℕ) (next : ℕ) : Type 0 where
  size : length groups ≡ count
  each : EachFrom (λ v. Passes group_digits (test v)) 0 groups
  stands : Stands t at (text_of (line_of node_key) groups)
  ends : next ≡ at + length (text_of (line_of node_key) groups)

module _ (test : ℕ → ℕ → Verdict) (never : (v x n p : ℕ) → test v x ≡ Refused n p → n ≡ 16 → ⊥) (t : List ℕ) (count at : ℕ) where
  reads_groups : Reads (λ t at. whole (group_lines test t count at)) (Texts (λ v. Passes group_digits (test v)) (line_of node_key) count 0) (Texts (λ v. OfDigits group_digits) (line_of node_key) count 0)
  unfolding group_lines group_line
  reads_groups = reads_lines (group_line test) (λ v. Passes group_digits (test v)) (λ v. OfDigits group_digits) (line_of node_key) (λ v. reads_tested node_key group_digits (omega arith) (test v) (never v)) count 0

  groups_pass : {groups : List ℕ} {next : ℕ} → at ≤ length t → whole (group_lines test t count at) ≡ found groups next → PassingGroups test t count at groups next
  groups_pass {groups} {next} h e =
      let w = reads_groups.sound t at groups next h e in
      let m = w.member in
      record { size = m.size; each = m.each; stands = subst (Stands t at) m.word w.stands; ends = w.ends ∙ ap (λ (z : List ℕ). at + length z) m.word }

  pass_groups : (groups : List ℕ) → length groups ≡ count → EachFrom (λ v. Passes group_digits (test v)) 0 groups → Stands t at (text_of (line_of node_key) groups)
      → whole (group_lines test t count at) ≡ found groups (at + length (text_of (line_of node_key) groups))
  pass_groups groups size each s = reads_groups.complete t at groups (text_of (line_of node_key) groups) (record { size = size; each = each; word = refl }) s

-- Where a text is refused otherwise than with 16: at a count, at a group, or at a pair.
data Stop (tests : Tests) (t : List ℕ) (n p : ℕ) : Type 0 where
  at_vertices : FailingLine nodes_key count_digits tests.vertices t 0 n p → Stop tests t n p
  at_edges : (x q : ℕ) → PassingLine nodes_key count_digits tests.vertices t 0 x q → FailingLine links_key count_digits tests.edges t q n p → Stop tests t n p
  at_group : (x q y r : ℕ) → PassingLine nodes_key count_digits tests.vertices t 0 x q → PassingLine links_key count_digits tests.edges t q y r → FailingGroup tests.group t x 0 r n p → Stop tests t n p
  at_pair : (x q y r u : ℕ) (gs : List ℕ) → PassingLine nodes_key count_digits tests.vertices t 0 x q → PassingLine links_key count_digits tests.edges t q y r → PassingGroups tests.group t x r gs u
      → FailingPair gs tests.room t 0 0 u n p → Stop tests t n p

module _ (lent : Lengths) (t : List ℕ) where
  abbrev tests : Tests
  tests = tests_for lent

  never : NeverMalformed (tests_for lent)
  never = never_malformed lent

  content_stop : {n p : ℕ} → content_at tests t 0 ≡ refused n p → (n ≡ 16 → ⊥) → Stop tests t n p
  unfolding content_at count_line group_lines edge_lines whole
  content_stop {n} {p} e not_16 = by_vertices (then_stops (count_line nodes_key tests.vertices t 0) _ e)
    where
      one : 1 ≤ count_digits
      one = omega arith

      edges_then : ℕ → ℕ → List ℕ → List Pair → ℕ → Step SurveyContent
      edges_then x y gs ps u = whole (edge_lines t y u) then λ es s. found (content_with x y gs ps es) s

      pairs_then : ℕ → ℕ → List ℕ → ℕ → Step SurveyContent
      pairs_then x y gs u = whole (also_at t gs tests.room u) then edges_then x y gs

      by_pairs : (x q y r u : ℕ) (gs : List ℕ) → PassingLine nodes_key count_digits tests.vertices t 0 x q → PassingLine links_key count_digits tests.edges t q y r → PassingGroups tests.group t x r gs u
          → Stops (whole (also_at t gs tests.room u)) (edges_then x y gs) n p → Stop tests t n p
      by_pairs x q y r u gs f g k (early h) =
          let a = k.stands.fits in
          let b = k.ends in
          at_pair x q y r u gs f g k (also_fails gs tests.room t u n p (omega arith) h not_16)
      by_pairs x q y r u gs f g k (late ps v h z) =
          absurd (not_16 ((only_then _ _ (only_then _ _ (only_edges t y 0 v) (λ z s. only_found _ s)) (λ es s. only_found _ s)).is n p z))

      by_lines : (x q y r : ℕ) → PassingLine nodes_key count_digits tests.vertices t 0 x q → PassingLine links_key count_digits tests.edges t q y r
          → Stops (whole (group_lines tests.group t x r)) (pairs_then x y) n p → Stop tests t n p
      by_lines x q y r f g (early h) = at_group x q y r f g (lines_fail tests.group never.group t x 0 r (passing_fits g) (end_of h) not_16)
        where
          end_of : whole (group_lines tests.group t x r) ≡ refused n p → (group_lines tests.group t x r).end ≡ refused n p
          end_of h = by_end (then_stops (group_lines tests.group t x r).end _ h)
            where
              by_end : Stops (group_lines tests.group t x r).end (λ z p. found (group_lines tests.group t x r).values p) n p → (group_lines tests.group t x r).end ≡ refused n p
              by_end (early h) = h
              by_end (late z u v w) = let o : ◌≡◌ {A = ℕ} 0 1 = cc in absurd (omega arith)
      by_lines x q y r f g (late gs u h k) =
          by_pairs x q y r u gs f g (groups_pass tests.group never.group t x r (passing_fits g) h) (then_stops (whole (also_at t gs tests.room u)) _ k)

      by_edges : (x q : ℕ) → PassingLine nodes_key count_digits tests.vertices t 0 x q
          → Stops (count_line links_key tests.edges t q) (λ y r. whole (group_lines tests.group t x r) then pairs_then x y) n p → Stop tests t n p
      by_edges x q f (early h) = at_edges x q f (line_fails links_key count_digits one tests.edges t q (passing_fits f) h not_16)
      by_edges x q f (late y r h k) =
          let g = line_passes links_key count_digits one tests.edges t q never.edges (passing_fits f) h in
          by_lines x q y r f g (then_stops (whole (group_lines tests.group t x r)) _ k)

      by_vertices : Stops (count_line nodes_key tests.vertices t 0) (λ x q. count_line links_key tests.edges t q then λ y r. whole (group_lines tests.group t x r) then pairs_then x y) n p → Stop tests t n p
      by_vertices (early h) = at_vertices (line_fails nodes_key count_digits one tests.vertices t 0 (omega arith) h not_16)
      by_vertices (late x q h k) =
          let f = line_passes nodes_key count_digits one tests.vertices t 0 never.vertices (omega arith) h in
          by_edges x q f (then_stops (count_line links_key tests.edges t q) _ k)

  -- A refusal of the lines before the end.
  survey_stop : {n p : ℕ} → survey_at tests t ≡ refused n p → (n ≡ 16 → ⊥) → content_at tests t 0 ≡ refused n p
  survey_stop {n} {p} e not_16 = by_stop (then_stops (content_at tests t 0) _ (sym (content_survey_law tests t) ∙ e))
    where
      by_stop : Stops (content_at tests t 0) (λ x p. end_at t p then λ z q. found (content_survey x) q) n p → content_at tests t 0 ≡ refused n p
      by_stop (early h) = h
      by_stop (late x q h k) = absurd (not_16 ((only_then _ _ (only_end t q) (λ z s. only_found _ s)).is n p k))

  -- A refusal of a count, of a group or of a pair is the text's.
  refused_vertices : {n p : ℕ} → FailingLine nodes_key count_digits tests.vertices t 0 n p → survey_at tests t ≡ refused n p
  unfolding content_at count_line
  refused_vertices f = content_survey_law tests t ∙ then_refused _ (then_refused _ (fails_line nodes_key count_digits (omega arith) tests.vertices t 0 f))

  refused_edges : {x n p : ℕ} → Passes count_digits tests.vertices x → Stands t 0 (line_of nodes_key x) → FailingLine links_key count_digits tests.edges t (0 + length (line_of nodes_key x)) n p → survey_at tests t ≡ refused n p
  unfolding content_at count_line
  refused_edges {x} h s f =
      content_survey_law tests t
      ∙ then_refused _
      (then_found _ (passes_line nodes_key count_digits (omega arith) tests.vertices t 0 never.vertices x h s)
      ∙ then_refused _ (fails_line links_key count_digits (omega arith) tests.edges t (0 + length (line_of nodes_key x)) f))

  refused_group : {x y n p : ℕ} → Passes count_digits tests.vertices x → Passes count_digits tests.edges y → Stands t 0 (line_of nodes_key x) → Stands t (0 + length (line_of nodes_key x)) (line_of links_key y)
      → (group_lines tests.group t x (0 + length (line_of nodes_key x) + length (line_of links_key y))).end ≡ refused n p → survey_at tests t ≡ refused n p
  unfolding content_at count_line whole
  refused_group {x} {y} h k s r f =
      content_survey_law tests t
      ∙ then_refused _
      (then_found _ (passes_line nodes_key count_digits (omega arith) tests.vertices t 0 never.vertices x h s)
      ∙ then_found _ (passes_line links_key count_digits (omega arith) tests.edges t (0 + length (line_of nodes_key x)) never.edges y k r)
      ∙ then_refused _ (then_refused _ f))

  refused_pair : {gs : List ℕ} {y n p : ℕ} → Passes count_digits tests.vertices (length gs) → Passes count_digits tests.edges y → EachFrom (λ v. Passes group_digits (tests.group v)) 0 gs → Stands t 0 (line_of nodes_key (length gs))
      → Stands t (0 + length (line_of nodes_key (length gs))) (line_of links_key y) → Stands t (0 + length (line_of nodes_key (length gs)) + length (line_of links_key y)) (text_of (line_of node_key) gs)
      → FailingPair gs tests.room t 0 0 (0 + length (line_of nodes_key (length gs)) + length (line_of links_key y) + length (text_of (line_of node_key) gs)) n p → survey_at tests t ≡ refused n p
  unfolding content_at count_line
  refused_pair {gs} {y} {n} {p} h k each s r g f =
      let x = length gs in
      content_survey_law tests t
      ∙ then_refused _
      (then_found _ (passes_line nodes_key count_digits (omega arith) tests.vertices t 0 never.vertices x h s)
      ∙ then_found _ (passes_line links_key count_digits (omega arith) tests.edges t (0 + length (line_of nodes_key x)) never.edges y k r)
      ∙ then_found _ (pass_groups tests.group never.group t x (0 + length (line_of nodes_key x) + length (line_of links_key y)) gs refl each g)
      ∙ then_refused _ (fails_also gs tests.room t (0 + length (line_of nodes_key x) + length (line_of links_key y) + length (text_of (line_of node_key) gs)) n p f))

-- The two count lines and the group lines behind them, taken together and apart.
module _ {t : List ℕ} (N M G g : List ℕ) where
  counts_stand : {q r : ℕ} → Stands t 0 N → q ≡ 0 + length N → Stands t q M → r ≡ q + length M → Stands t r (G ++ g) → Stands t 0 (N ++ M ++ G ++ g)
  counts_stand {q} {r} a e b f c =
      let l = length-append N M in
      let h : r ≡ 0 + length (N ++ M) = omega arith in
      subst (Stands t 0) (sym (append_assoc (N ++ M) G g))
      (stands_append (N ++ M) (G ++ g) (stands_append N M a (subst (λ (k : ℕ). Stands t k M) e b)) (subst (λ (k : ℕ). Stands t k (G ++ g)) h c))

  module _ (s : Stands t 0 (N ++ M ++ G ++ g)) where
    in_two : Stands t 0 ((N ++ M) ++ (G ++ g))
    in_two = subst (Stands t 0) (append_assoc (N ++ M) G g) s

    counts_first : Stands t 0 (N ++ M)
    counts_first = stands_first (N ++ M) (G ++ g) in_two

    groups_second : Stands t (0 + length N + length M) (G ++ g)
    groups_second =
        let l = length-append N M in
        let h : 0 + length (N ++ M) ≡ 0 + length N + length M = omega arith in
        subst (λ (k : ℕ). Stands t k (G ++ g)) h (stands_second (N ++ M) (G ++ g) in_two)

-- The same with the pair lines behind the group lines.
lines_five : (N M G P x : List ℕ) → N ++ M ++ G ++ P ++ x ≡ N ++ M ++ G ++ (P ++ x)
lines_five N M G P x = append_assoc (N ++ M ++ G) P x

module _ {t : List ℕ} (N M G P x : List ℕ) where
  pairs_stand : {q r u : ℕ} → Stands t 0 N → q ≡ 0 + length N → Stands t q M → r ≡ q + length M → Stands t r G → u ≡ r + length G → Stands t u (P ++ x) → Stands t 0 (N ++ M ++ G ++ P ++ x)
  pairs_stand {q} {r} {u} a e b f c h d =
      subst (Stands t 0) (sym (lines_five N M G P x))
      (counts_stand N M G (P ++ x) a e b f (stands_append G (P ++ x) c (subst (λ (k : ℕ). Stands t k (P ++ x)) h d)))

  module _ (s : Stands t 0 (N ++ M ++ G ++ P ++ x)) where
    in_four : Stands t 0 (N ++ M ++ G ++ (P ++ x))
    in_four = subst (Stands t 0) (lines_five N M G P x) s

    pairs_counts : Stands t 0 (N ++ M)
    pairs_counts = counts_first N M G (P ++ x) in_four

    pairs_groups : Stands t (0 + length N + length M) G
    pairs_groups = stands_first G (P ++ x) (groups_second N M G (P ++ x) in_four)

    pairs_last : Stands t (0 + length N + length M + length G) (P ++ x)
    pairs_last = stands_second G (P ++ x) (groups_second N M G (P ++ x) in_four)

-- ---- reading

module _ (lent : Lengths) (t : List ℕ) where
  abbrev tests' : Tests
  tests' = tests_for lent

  vertices_fit : {x : ℕ} → Passes count_digits (vertices_test lent.groups) x → VerticesFit lent x
  vertices_fit {x} h = let v = vertices_passed lent.groups x h.passes in record { some = v.some; most = v.most; room = v.room }

  edges_fit : {y : ℕ} → Passes count_digits (edges_test lent.firsts lent.seconds lent.weights) y → EdgesFit lent y
  edges_fit {y} h =
      let e = edges_passed lent.firsts lent.seconds lent.weights y h.passes in
      record { most = e.most; first = e.first; second = e.second; weight = e.weight }

  fit_vertices : {x : ℕ} → VerticesFit lent x → Passes count_digits (vertices_test lent.groups) x
  fit_vertices {x} v =
      let a = v.some in
      let b = v.most in
      record { small = omega arith; passes = vertices_fine lent.groups x (λ z. omega arith) v.most v.room }

  fit_edges : {y : ℕ} → EdgesFit lent y → Passes count_digits (edges_test lent.firsts lent.seconds lent.weights) y
  fit_edges {y} e =
      let b = e.most in
      record { small = omega arith; passes = edges_fine lent.firsts lent.seconds lent.weights y e.most e.first e.second e.weight }

  -- A text that begins so is refused so.
  reading_is : {n p : ℕ} → survey_at tests' t ≡ refused n p → reading t lent ≡ refusal n p
  unfolding reading step_outcome
  reading_is e = ap step_outcome e

  begins_vertices_out : VerticesOut t → reading t lent ≡ refusal 1 0
  unfolding tests_for
  begins_vertices_out o =
      reading_is
      (refused_vertices lent t record { value = o.vertices; digits = o.digits; fails = by_number (eqb o.vertices 0) refl o.out; stands = begins_stands o.begins })
    where
      by_number : (z : Bool) → eqb o.vertices 0 ≡ z → (o.vertices ≡ 0) ⊎ (max_vertices < o.vertices) → vertices_test lent.groups o.vertices ≡ Refused 1 0
      by_number true z h = vertices_none lent.groups o.vertices (eqb-true o.vertices 0 z)
      by_number false z (inl h) = absurd (eqb-false o.vertices 0 z h)
      by_number false z (inr h) = vertices_many lent.groups o.vertices (eqb-false o.vertices 0 z) h

  begins_edges_over : EdgesOver lent t → reading t lent ≡ refusal 3 0
  unfolding tests_for
  begins_edges_over o =
      let N = line_of nodes_key o.vertices in
      let M = line_of links_key o.edges in
      let s = begins_stands o.begins in
      reading_is
      (refused_edges lent t (fit_vertices o.fits) (stands_first N M s)
      record { value = o.edges; digits = o.digits; fails = edges_many lent.firsts lent.seconds lent.weights o.edges o.over; stands = stands_second N M s })

  begins_groups_short : GroupsShort lent t → reading t lent ≡ refusal 7 0
  unfolding tests_for
  begins_groups_short o =
      let a = o.some in
      let b = o.most in
      reading_is
      (refused_vertices lent t
      record { value = o.vertices; digits = omega arith; fails = vertices_short lent.groups o.vertices (λ z. omega arith) o.most o.short; stands = begins_stands o.begins })

  begins_edges_short : EdgesShort lent t → reading t lent ≡ refusal 7 0
  unfolding tests_for
  begins_edges_short o =
      let N = line_of nodes_key o.vertices in
      let M = line_of links_key o.edges in
      let s = begins_stands o.begins in
      let b = o.most in
      reading_is
      (refused_edges lent t (fit_vertices o.fits) (stands_first N M s)
      record { value = o.edges; digits = omega arith; fails = short_refused lent.firsts lent.seconds lent.weights o.edges o.most o.short; stands = stands_second N M s })

  begins_group_over : {v : ℕ} → GroupOver lent t v → reading t lent ≡ refusal 17 v
  unfolding tests_for group_lines
  begins_group_over {v} o =
      let N = line_of nodes_key o.vertices in
      let M = line_of links_key o.edges in
      let G = text_of (line_of node_key) o.before in
      let g = line_of node_key o.group in
      let s = begins_stands o.begins in
      let c = counts_first N M G g s in
      let a = o.place in
      let b = o.inside in
      reading_is
      (refused_group lent t (fit_vertices o.fits_vertices) (fit_edges o.fits_edges) (stands_first N M c) (stands_second N M c)
      (fail_lines group_test (never_malformed lent).group t o.group v 17 v o.digits (group_high v o.group o.over) o.before o.vertices 0 (0 + length N + length M)
      (omega arith) (each_map (λ u x h. record { small = omega arith; passes = group_line_fine u x h }) o.each_before) (omega arith) (groups_second N M G g s)))

  -- The test that a pair behind these lines meets decides.
  begins_pair : {i n p : ℕ} (o : AlsoLine lent t i) → also_test o.groups (pair_room lent) (last_rank 0 o.before) i o.pair ≡ Refused n p → reading t lent ≡ refusal n p
  unfolding tests_for
  begins_pair {i} {n} {p} o e =
      let N = line_of nodes_key (length o.groups) in
      let M = line_of links_key o.edges in
      let G = text_of (line_of node_key) o.groups in
      let P = pairs_text o.before in
      let x = pair_text o.pair in
      let s = begins_stands o.begins in
      let c = pairs_counts N M G P x s in
      let a = o.place in
      let few = o.few in
      let same : i ≡ 0 + length o.before = omega arith in
      reading_is
      (refused_pair lent t (fit_vertices o.fits_vertices) (fit_edges o.fits_edges) (each_map (λ u x h. record { small = omega arith; passes = group_line_fine u x h }) o.each_group) (stands_first N M c) (stands_second N M c)
      (pairs_groups N M G P x s)
      record {
        before = o.before;
        pair = o.pair;
        passes = o.passes;
        few = omega arith;
        digits = o.digits;
        fails = subst (λ (k : ℕ). also_test o.groups (pair_room lent) (last_rank 0 o.before) k o.pair ≡ Refused n p) same e;
        stands = pairs_last N M G P x s;
      })

  begins_pair_over : {v : ℕ} → PairOver lent t v → reading t lent ≡ refusal 17 v
  begins_pair_over {v} o =
      let l = o.line in
      begins_pair l (also_high l.groups (pair_room lent) (last_rank 0 l.before) o.number l.pair o.over) ∙ ap (λ (k : ℕ). refusal 17 k) (sym o.junction)

  begins_pair_faulty : {i : ℕ} → PairFaulty lent t i → reading t lent ≡ refusal 18 i
  begins_pair_faulty {i} o = let l = o.line in begins_pair l (out_refused l.groups (pair_room lent) (last_rank 0 l.before) i l.pair o.group o.fault)

  begins_pairs_short : PairsShort lent t → reading t lent ≡ refusal 7 0
  begins_pairs_short o =
      let l = o.line in
      let q = o.order in
      begins_pair l
      (also_full l.groups (pair_room lent) (last_rank 0 l.before) o.number l.pair o.group q.below q.some q.foreign q.rises (full o.number o.short))
    where
      full : (i : ℕ) → (lent.owners ≤ i) ⊎ (lent.others ≤ i) → pair_room lent ≤ i
      full i (inl h) = omega arith
      full i (inr h) = omega arith

  -- Every refusal but 16 is one of 1, 3, 7, 17 and 18, and the text begins as each asks.
  pub refused_begins : {n p : ℕ} → reading t lent ≡ refusal n p → (n ≡ 16 → ⊥) → Refusing lent t n p
  unfolding reading tests_for
  refused_begins {n} {p} e not_16 = by_stop (content_stop lent t (survey_stop lent t (outcome_refused (survey_at tests' t) e) not_16) not_16)
    where
      by_vertices : (f : FailingLine nodes_key count_digits (vertices_test lent.groups) t 0 n p) → VerticesCause lent.groups f.value n p → Refusing lent t n p
      by_vertices f (out_of_range i z o) = vertices_out i z record { vertices = f.value; digits = f.digits; out = o; begins = stands_begins f.stands }
      by_vertices f (too_long_law i z s m l) = buffer_short i z (inl record { vertices = f.value; some = s; most = m; short = l; begins = stands_begins f.stands })

      by_edges : (x q : ℕ) → PassingLine nodes_key count_digits (vertices_test lent.groups) t 0 x q → (f : FailingLine links_key count_digits (edges_test lent.firsts lent.seconds lent.weights) t q n p)
          → BeginsWith (line_of nodes_key x ++ line_of links_key f.value) t → EdgesCause lent.firsts lent.seconds lent.weights f.value n p → Refusing lent t n p
      by_edges x q h f s (over_limit i z o) = edges_over i z record { vertices = x; edges = f.value; fits = vertices_fit h.passes; digits = f.digits; over = o; begins = s }
      by_edges x q h f s (too_many i z m l) = buffer_short i z (inr (inl record { vertices = x; edges = f.value; fits = vertices_fit h.passes; most = m; short = l; begins = s }))

      one_full : (i : ℕ) → pair_room lent ≤ i → (lent.owners ≤ i) ⊎ (lent.others ≤ i)
      one_full i h = by_test (leb lent.owners i) refl
        where
          by_test : (b : Bool) → leb lent.owners i ≡ b → (lent.owners ≤ i) ⊎ (lent.others ≤ i)
          by_test true k = inl (leb-true lent.owners i k)
          by_test false k = let l = leb-false lent.owners i k in inr (omega arith)

      by_pair : (i : ℕ) (l : AlsoLine lent t i) → PairCause l.groups (pair_room lent) (last_rank 0 l.before) i l.pair n p → Refusing lent t n p
      by_pair i l (high_group_law a b c) = high_group a (inr record { number = i; line = l; junction = b; over = c })
      by_pair i l (out_of_order a b c d) =
          pair_faulty a (subst (PairFaulty lent t) (sym b) record { line = l; group = c; fault = d })
      by_pair i l (no_room a b c d f) = buffer_short a b (inr (inr record { number = i; line = l; group = c; order = d; short = one_full i f }))

      by_stop : Stop tests' t n p → Refusing lent t n p
      by_stop (at_vertices f) = by_vertices f (vertices_cause lent.groups f.value f.fails)
      by_stop (at_edges x q h f) =
          by_edges x q h f
          (stands_begins (stands_append (line_of nodes_key x) (line_of links_key f.value) h.stands (subst (λ (k : ℕ). Stands t k (line_of links_key f.value)) h.ends f.stands)))
          (edges_cause lent.firsts lent.seconds lent.weights f.value f.fails)
      by_stop (at_group x q y r h k f) =
          let c = group_cause f.place f.value f.fails in
          let a = c.1.1 in
          let b = f.there in
          let i = f.inside in
          high_group c.1.0
          (inl record {
            vertices = x;
            edges = y;
            before = f.before;
            group = f.value;
            fits_vertices = vertices_fit h.passes;
            fits_edges = edges_fit k.passes;
            place = omega arith;
            inside = omega arith;
            each_before = each_map (λ v g s. group_passed v g s.passes) f.each;
            digits = f.digits;
            over = c.0;
            begins =
                stands_begins
                (counts_stand (line_of nodes_key x) (line_of links_key y) (text_of (line_of node_key) f.before) (line_of node_key f.value) h.stands h.ends k.stands k.ends f.stands);
          })
      by_stop (at_pair x q y r u gs h k g f) =
          let i = length f.before in
          let few = f.few in
          let size = g.size in
          let same : 0 + i ≡ i = omega arith in
          by_pair i
          record {
            groups = gs;
            edges = y;
            before = f.before;
            pair = f.pair;
            fits_vertices = subst (VerticesFit lent) (sym size) (vertices_fit h.passes);
            fits_edges = edges_fit k.passes;
            each_group = each_map (λ v g s. group_passed v g s.passes) g.each;
            passes = f.passes;
            place = refl;
            few = omega arith;
            digits = f.digits;
            begins =
                stands_begins
                (pairs_stand (line_of nodes_key (length gs)) (line_of links_key y) (text_of (line_of node_key) gs) (pairs_text f.before) (pair_text f.pair)
                (subst (λ (m : ℕ). Stands t 0 (line_of nodes_key m)) (sym size) h.stands) (h.ends ∙ ap (λ (m : ℕ). 0 + length (line_of nodes_key m)) (sym size)) k.stands k.ends g.stands g.ends f.stands);
          }
          (pair_cause gs (pair_room lent) (last_rank 0 f.before) i f.pair (subst (λ (m : ℕ). also_test gs (pair_room lent) (last_rank 0 f.before) m f.pair ≡ Refused n p) same f.fails))

  -- 1, 3, 7, 17 and 18, each exactly if.
  pub vertices_out_iff : (reading t lent ≡ refusal 1 0) ↔ VerticesOut t
  vertices_out_iff = (λ e. by (refused_begins e (λ z. omega arith)), begins_vertices_out)
    where
      by : Refusing lent t 1 0 → VerticesOut t
      by (vertices_out i z o) = o
      by (edges_over i z o) = absurd (omega arith)
      by (buffer_short i z o) = absurd (omega arith)
      by (high_group i o) = absurd (omega arith)
      by (pair_faulty i o) = absurd (omega arith)

  pub edges_over_iff : (reading t lent ≡ refusal 3 0) ↔ EdgesOver lent t
  edges_over_iff = (λ e. by (refused_begins e (λ z. omega arith)), begins_edges_over)
    where
      by : Refusing lent t 3 0 → EdgesOver lent t
      by (vertices_out i z o) = absurd (omega arith)
      by (edges_over i z o) = o
      by (buffer_short i z o) = absurd (omega arith)
      by (high_group i o) = absurd (omega arith)
      by (pair_faulty i o) = absurd (omega arith)

  pub buffer_short_iff : (reading t lent ≡ refusal 7 0) ↔ BufferShort lent t
  buffer_short_iff = (λ e. by (refused_begins e (λ z. omega arith)), ⊎_elim begins_groups_short (⊎_elim begins_edges_short begins_pairs_short))
    where
      by : Refusing lent t 7 0 → BufferShort lent t
      by (vertices_out i z o) = absurd (omega arith)
      by (edges_over i z o) = absurd (omega arith)
      by (buffer_short i z o) = o
      by (high_group i o) = absurd (omega arith)
      by (pair_faulty i o) = absurd (omega arith)

  pub high_group_iff : (v : ℕ) → (reading t lent ≡ refusal 17 v) ↔ HighGroup lent t v
  high_group_iff v = (λ e. by (refused_begins e (λ z. omega arith)), ⊎_elim begins_group_over begins_pair_over)
    where
      by : Refusing lent t 17 v → HighGroup lent t v
      by (vertices_out i z o) = absurd (omega arith)
      by (edges_over i z o) = absurd (omega arith)
      by (buffer_short i z o) = absurd (omega arith)
      by (high_group i o) = o
      by (pair_faulty i o) = absurd (omega arith)

  pub pair_faulty_iff : (i : ℕ) → (reading t lent ≡ refusal 18 i) ↔ PairFaulty lent t i
  pair_faulty_iff i = (λ e. by (refused_begins e (λ z. omega arith)), begins_pair_faulty)
    where
      by : Refusing lent t 18 i → PairFaulty lent t i
      by (vertices_out n z o) = absurd (omega arith)
      by (edges_over n z o) = absurd (omega arith)
      by (buffer_short n z o) = absurd (omega arith)
      by (high_group n o) = absurd (omega arith)
      by (pair_faulty n o) = o
