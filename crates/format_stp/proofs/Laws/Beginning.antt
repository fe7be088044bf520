-- Reading gives 1, 3 and 7 exactly if the text begins so (specs/Beginning), and every other refusal is 20. What stands behind a refusal does not matter.
use Rattle.std.specs.Prelude.{ℕ, ◌+◌, ◌<◌, false, List, ◌∷◌, ◌++◌, ◌↔◌, eqb, length, take}
use Rattle.std.proofs.Common.{arith, append_assoc, inl, inr, ⊎_elim, ◌∙◌, take_at, take-take}
use Rattle.std.proofs.Math.Path.{◌≡◌, refl, ap, sym, subst}
use Rattle.base_limits.specs.Limits.{count_digits}
use Rattle.base_limits.specs.Verdict.{refusal}
use Rattle.base_limits.specs.declared.Verdict.{Verdict}
use Rattle.base_limits.specs.declared.Verdict.TheVariants.{Fine, Refused}
use Rattle.format_write.specs.Key.{newline}
use Rattle.format_write.specs.Text.{line_of}
use Rattle.format_read.specs.Bytes.{end_at}
use Rattle.format_read.specs.Language.{Reads, Seq, Text}
use Rattle.format_read.proofs.Laws.Keyed.{reads_line}
use Rattle.format_read.proofs.Laws.Language.{reads_then, bound}
use Rattle.format_read.proofs.Laws.OnlyMalformed.{OnlyMalformed, only_then, only_found}
use Rattle.format_read.proofs.Laws.Stands.{stands_append, stands_first, stands_second}
use Rattle.format_read.proofs.Laws.Step.{then_found, then_refused, then_then, Stops, early, late, then_stops}
use Rattle.format_read.specs.Number.{OfDigits, number_line}
use Rattle.format_read.specs.Stands.{Stands}
use Rattle.format_read.specs.Step.{Step, found, refused, ◌then◌}
use Rattle.format_survey.specs.Beginning.{BeginsWith, VerticesFit}
use Rattle.format_survey.proofs.Laws.Beginning.{begins_stands, stands_begins}
use Rattle.format_survey.proofs.Laws.Cause.{VerticesCause, out_of_range, too_long_law, vertices_cause, EdgesCause, over_limit, too_many, edges_cause, short_refused}
use Rattle.format_survey.proofs.Laws.Tests.{vertices_none, vertices_many, vertices_short, vertices_fine, vertices_passed, edges_many}
use Rattle.format_survey.specs.Line.{Lengths}
use Rattle.format_stp.specs.Beginning.{stp_lent, NodesLine, EdgesLine, StpVerticesOut, StpEdgesOver, StpGroupsShort, StpEdgesShort, StpShort, StpRefusing, vertices_out, edges_over, buffer_short}
use Rattle.format_stp.specs.Grammar.{blanks, StpOpening}
use Rattle.format_stp.proofs.Laws.Accepted.{not_malformed_number, stp_numbers, stp_same}
use Rattle.format_stp.proofs.Laws.EmptyLines.{reads_after_empty}
use Rattle.format_stp.proofs.Laws.File.{reads_head, count_starts}
use Rattle.format_stp.proofs.Laws.Grammar.{seq, after, opening_of, head_of}
use Rattle.format_stp.proofs.Laws.Only.{only_head, only_after, only_body, only_last}
use Rattle.format_stp.specs.Promises.{StpGives, gives_1, gives_3, gives_7, gives_20}
use Rattle.format_stp.specs.StpKey.{nodes_word, edges_word}
use Rattle.format_stp.specs.StpReading.{StpContent, StpTests, stp_head, stp_body, count_then, stp_content, stp_whole, stp_tests, stp_number, stp_outcome, stp_reading}
use Rattle.format_stp.specs.StpWord.{after_empty, AfterEmpty, guarded}
use Rattle.format_stp.specs.Subset.{StpHead}

-- ---- a test behind a line

guarded_refused : {A : Type 0} (v : Verdict) (s : Step A) {i p : ℕ} → v ≡ Refused i p → guarded v s ≡ refused i p
unfolding guarded
guarded_refused v s e = ap (λ (w : Verdict). guarded w s) e

guarded_fine : {A : Type 0} (v : Verdict) (s : Step A) → v ≡ Fine → guarded v s ≡ s
unfolding guarded
guarded_fine v s e = ap (λ (w : Verdict). guarded w s) e

data GuardedStops {A : Type 0} (v : Verdict) (s : Step A) (i p : ℕ) : Type 0 where
  by_test : v ≡ Refused i p → GuardedStops v s i p
  behind_it : v ≡ Fine → s ≡ refused i p → GuardedStops v s i p

guarded_stops : {A : Type 0} (v : Verdict) (s : Step A) {i p : ℕ} → guarded v s ≡ refused i p → GuardedStops v s i p
unfolding guarded
guarded_stops Fine s e = behind_it refl e
guarded_stops {A} (Refused j q) s {i} {p} e = by_test (let x : j ≡ i = cc in let y : q ≡ p = cc in cc)

-- ---- the lines of the two counts

abbrev Count : List ℕ → ℕ → List ℕ → Type 0
Count word = AfterEmpty (Text (OfDigits count_digits) (line_of word))

abbrev count_at : List ℕ → List ℕ → ℕ → Step ℕ
count_at word = after_empty (number_line word count_digits)

reads_count_line : (b : ℕ) (word : List ℕ) → eqb b newline ≡ false → Reads (count_at (b ∷ word)) (Count (b ∷ word)) (Count (b ∷ word))
reads_count_line b word no_line_law = reads_after_empty (reads_line (b ∷ word) count_digits (omega arith)) (count_starts b word no_line_law (OfDigits count_digits))

abbrev nodes_at : List ℕ → ℕ → Step ℕ
nodes_at t at = stp_head t at then λ z a. count_at nodes_word t a

abbrev ToNodes : ℕ → List ℕ → Type 0
ToNodes = Seq StpHead λ z. Count nodes_word

reads_nodes : Reads nodes_at ToNodes ToNodes
reads_nodes = reads_then reads_head λ z. reads_count_line _ _ refl

reads_edges : Reads (count_at edges_word) (Count edges_word) (Count edges_word)
reads_edges = reads_count_line _ _ refl

nodes_only : (t : List ℕ) → OnlyMalformed (nodes_at t 0)
nodes_only t = only_then _ _ (only_head t 0) (λ z a. only_after nodes_word t a)

count_is : (word : List ℕ) {x : ℕ} {w : List ℕ} (c : Count word x w) → w ≡ blanks c.empty ++ line_of word x
count_is word c = c.whole ∙ ap (λ (l : List ℕ). blanks c.empty ++ l) c.member.word

nodes_word_law : {n : ℕ} {w : List ℕ} (m : ToNodes n w) → w ≡ (m.left ++ blanks m.second.empty) ++ line_of nodes_word n
nodes_word_law {n} m =
    m.whole ∙ ap (λ (l : List ℕ). m.left ++ l) (count_is nodes_word m.second) ∙ sym (append_assoc m.left (blanks m.second.empty) (line_of nodes_word n))

module _ (t : List ℕ) (n : ℕ) where
  abbrev N : List ℕ
  N = line_of nodes_word n

  nodes_line : {q : ℕ} → nodes_at t 0 ≡ found n q → NodesLine t n
  nodes_line {q} e =
      let w = reads_nodes.sound t 0 n q (omega arith) e in
      let m = w.member in
      record {
        opening = m.left ++ blanks m.second.empty;
        opens = opening_of m.second.empty m.first;
        digits = m.second.member.holds;
        begins = stands_begins (subst (Stands t 0) (nodes_word_law m) w.stands);
      }

  nodes_read : {o : List ℕ} → StpOpening o → OfDigits count_digits n → Stands t 0 (o ++ N) → nodes_at t 0 ≡ found n (0 + length (o ++ N))
  nodes_read {o} opens digits s =
      let h = head_of opens in
      let same : o ++ N ≡ h.head ++ (blanks h.empty ++ N) = ap (λ (l : List ℕ). l ++ N) h.whole ∙ append_assoc h.head (blanks h.empty) N in
      reads_nodes.complete t 0 n (h.head ++ (blanks h.empty ++ N)) (seq 0 h.head (blanks h.empty ++ N) h.is (after h.empty N (record { holds = digits; word = refl })))
      (subst (Stands t 0) same s)
      ∙ ap (λ (l : List ℕ). found n (0 + length l)) (sym same)

  edges_line : {m q r : ℕ} → nodes_at t 0 ≡ found n q → count_at edges_word t q ≡ found m r → EdgesLine t n m
  edges_line {m} {q} {r} e f =
      let w = reads_nodes.sound t 0 n q (omega arith) e in
      let v = reads_edges.sound t q m r (bound w).1 f in
      let k = w.member in
      let both = stands_append w.word v.word w.stands (subst (λ (i : ℕ). Stands t i v.word) w.ends v.stands) in
      record {
        opening = k.left ++ blanks k.second.empty;
        opens = opening_of k.second.empty k.first;
        nodes_digits = k.second.member.holds;
        empty = v.member.empty;
        digits = v.member.member.holds;
        begins = stands_begins (subst (Stands t 0) (λ i. nodes_word_law k i ++ count_is edges_word v.member i) both);
      }

  module _ {m : ℕ} (l : EdgesLine t n m) where
    abbrev front : List ℕ
    front = l.opening ++ N

    abbrev back : List ℕ
    back = blanks l.empty ++ line_of edges_word m

    edges_front : nodes_at t 0 ≡ found n (0 + length front)
    edges_front = nodes_read l.opens l.nodes_digits (stands_first front back (begins_stands l.begins))

    edges_back : count_at edges_word t (0 + length front) ≡ found m (0 + length front + length back)
    edges_back =
        reads_edges.complete t (0 + length front) m back (after l.empty (line_of edges_word m) (record { holds = l.digits; word = refl })) (stands_second front back (begins_stands l.begins))

-- ---- the whole text

module _ (gb fb sb wb t : List ℕ) where
  abbrev tests : StpTests
  tests = stp_tests (length gb) (length fb) (length sb) (length wb)

  abbrev lent : Lengths
  lent = stp_lent gb fb sb wb

  abbrev behind_nodes : ℕ → ℕ → Step StpContent
  behind_nodes n q = guarded (tests.vertices n) (count_then edges_word tests.edges (λ m. stp_body n m) t q)

  content_is : stp_content tests t 0 ≡ (nodes_at t 0 then behind_nodes)
  unfolding stp_content count_then
  content_is = sym (then_then (stp_head t 0) (λ z a. count_at nodes_word t a) behind_nodes)

  data Stop (i p : ℕ) : Type 0 where
    at_nodes : (n q : ℕ) → nodes_at t 0 ≡ found n q → tests.vertices n ≡ Refused i p → Stop i p
    at_edges : (n q m r : ℕ) → nodes_at t 0 ≡ found n q → tests.vertices n ≡ Fine → count_at edges_word t q ≡ found m r → tests.edges m ≡ Refused i p → Stop i p

  whole_stop : {i p : ℕ} → stp_whole tests t ≡ refused i p → (i ≡ 16 → ⊥) → Stop i p
  unfolding stp_whole count_then
  whole_stop {i} {p} e not_16 = by_whole (then_stops (stp_content tests t 0) _ e)
    where
      by_body : (n q m r : ℕ) → nodes_at t 0 ≡ found n q → tests.vertices n ≡ Fine → count_at edges_word t q ≡ found m r → GuardedStops (tests.edges m) (stp_body n m t r) i p → Stop i p
      by_body n q m r a b c (by_test d) = at_edges n q m r a b c d
      by_body n q m r a b c (behind_it d f) = absurd (not_16 ((only_body n m t r).is i p f))

      by_edges : (n q : ℕ) → nodes_at t 0 ≡ found n q → tests.vertices n ≡ Fine → Stops (count_at edges_word t q) (λ m r. guarded (tests.edges m) (stp_body n m t r)) i p → Stop i p
      by_edges n q a b (early c) = absurd (not_16 ((only_after edges_word t q).is i p c))
      by_edges n q a b (late m r c d) = by_body n q m r a b c (guarded_stops (tests.edges m) (stp_body n m t r) d)

      by_nodes : (n q : ℕ) → nodes_at t 0 ≡ found n q → GuardedStops (tests.vertices n) (count_then edges_word tests.edges (λ m. stp_body n m) t q) i p → Stop i p
      by_nodes n q a (by_test b) = at_nodes n q a b
      by_nodes n q a (behind_it b c) = by_edges n q a b (then_stops (count_at edges_word t q) _ c)

      by_content : Stops (nodes_at t 0) behind_nodes i p → Stop i p
      by_content (early a) = absurd (not_16 ((nodes_only t).is i p a))
      by_content (late n q a b) = by_nodes n q a (guarded_stops (tests.vertices n) _ b)

      by_whole : Stops (stp_content tests t 0) (λ x q. after_empty end_at t q then λ z r. found x r) i p → Stop i p
      by_whole (early a) = by_content (then_stops (nodes_at t 0) behind_nodes (sym content_is ∙ a))
      by_whole (late x q a b) = absurd (not_16 ((only_then _ _ (only_last t q) (λ z r. only_found x r)).is i p b))

  stop_whole : {i p : ℕ} → Stop i p → stp_whole tests t ≡ refused i p
  unfolding stp_whole count_then
  stop_whole (at_nodes n q a b) = then_refused _ (content_is ∙ then_found behind_nodes a ∙ guarded_refused (tests.vertices n) _ b)
  stop_whole (at_edges n q m r a b c d) =
      then_refused _ (content_is ∙ then_found behind_nodes a ∙ guarded_fine (tests.vertices n) _ b ∙ then_found _ c ∙ guarded_refused (tests.edges m) (stp_body n m t r) d)

  stop_read : {i p : ℕ} → (i ≡ 16 → ⊥) → Stop i p → stp_reading t gb fb sb wb ≡ refusal i p
  unfolding stp_reading stp_outcome
  stop_read {i} {p} other s = ap stp_outcome (stop_whole s) ∙ ap (λ (k : ℕ). refusal k p) (not_malformed_number i other)

  vertices_fit : {n : ℕ} → tests.vertices n ≡ Fine → VerticesFit lent n
  unfolding stp_tests
  vertices_fit {n} e = let f = vertices_passed (length gb) n e in record { some = f.some; most = f.most; room = f.room }

  fit_vertices : {n : ℕ} → VerticesFit lent n → tests.vertices n ≡ Fine
  unfolding stp_tests
  fit_vertices {n} f = let s = f.some in vertices_fine (length gb) n (λ z. omega arith) f.most f.room

  -- ---- each, if the text begins so

  begins_vertices_out : StpVerticesOut t → stp_reading t gb fb sb wb ≡ refusal 1 0
  unfolding stp_tests
  begins_vertices_out o =
      let l = o.line in
      stop_read (λ z. omega arith)
      (at_nodes o.vertices _ (nodes_read t o.vertices l.opens l.digits (begins_stands l.begins))
      (⊎_elim (vertices_none (length gb) o.vertices) (λ h. vertices_many (length gb) o.vertices (λ z. omega arith) h) o.out))

  begins_edges_over : StpEdgesOver lent t → stp_reading t gb fb sb wb ≡ refusal 3 0
  unfolding stp_tests
  begins_edges_over o =
      stop_read (λ z. omega arith)
      (at_edges o.vertices _ o.edges _ (edges_front t o.vertices o.line) (fit_vertices o.fits) (edges_back t o.vertices o.line) (edges_many (length fb) (length sb) (length wb) o.edges o.over))

  begins_groups_short : StpGroupsShort lent t → stp_reading t gb fb sb wb ≡ refusal 7 0
  unfolding stp_tests
  begins_groups_short o =
      let l = o.line in
      let s = o.some in
      stop_read (λ z. omega arith)
      (at_nodes o.vertices _ (nodes_read t o.vertices l.opens l.digits (begins_stands l.begins)) (vertices_short (length gb) o.vertices (λ z. omega arith) o.most o.short))

  begins_edges_short : StpEdgesShort lent t → stp_reading t gb fb sb wb ≡ refusal 7 0
  unfolding stp_tests
  begins_edges_short o =
      stop_read (λ z. omega arith)
      (at_edges o.vertices _ o.edges _ (edges_front t o.vertices o.line) (fit_vertices o.fits) (edges_back t o.vertices o.line) (short_refused (length fb) (length sb) (length wb) o.edges o.most o.short))

  -- ---- and only if

  stop_begins : {i p : ℕ} → Stop i p → StpRefusing lent t i p
  unfolding stp_tests
  stop_begins {i} {p} (at_nodes n q a b) = by_cause (vertices_cause (length gb) n b)
    where
      by_cause : VerticesCause (length gb) n i p → StpRefusing lent t i p
      by_cause (out_of_range z w o) = vertices_out z w record { vertices = n; line = nodes_line t n a; out = o }
      by_cause (too_long_law z w s m h) = buffer_short z w (inl record { vertices = n; line = nodes_line t n a; some = s; most = m; short = h })
  stop_begins {i} {p} (at_edges n q m r a b c d) = by_cause (edges_cause (length fb) (length sb) (length wb) m d)
    where
      by_cause : EdgesCause (length fb) (length sb) (length wb) m i p → StpRefusing lent t i p
      by_cause (over_limit z w o) = edges_over z w record { vertices = n; edges = m; line = edges_line t n a c; fits = vertices_fit b; over = o }
      by_cause (too_many z w h s) = buffer_short z w (inr record { vertices = n; edges = m; line = edges_line t n a c; fits = vertices_fit b; most = h; short = s })

  -- Every refusal but 20 is one of 1, 3 and 7, and the text begins as each asks.
  pub stp_refused_begins : {n p : ℕ} → stp_reading t gb fb sb wb ≡ refusal n p → (n ≡ 20 → ⊥) → StpRefusing lent t n p
  unfolding stp_reading stp_outcome stp_number
  stp_refused_begins {n} {p} e other = by_step (stp_whole tests t) refl e
    where
      by_step : (s : Step StpContent) → stp_whole tests t ≡ s → stp_outcome s ≡ refusal n p → StpRefusing lent t n p
      by_step (found x q) h e = let z : ◌≡◌ {A = ℕ} 0 1 = cc in absurd (omega arith)
      by_step (refused i q) h e =
          let number : stp_number i ≡ n = cc in
          let place : q ≡ p = cc in
          let not_16 : i ≡ 16 → ⊥ = λ z. other (sym number ∙ ap stp_number z) in
          let same : i ≡ n = sym (not_malformed_number i not_16) ∙ number in
          subst (λ (k : ℕ). StpRefusing lent t n k) place (subst (λ (k : ℕ). StpRefusing lent t k q) same (stop_begins (whole_stop h not_16)))

  -- 1, 3 and 7, each exactly if.
  pub stp_vertices_out_iff : (stp_reading t gb fb sb wb ≡ refusal 1 0) ↔ StpVerticesOut t
  stp_vertices_out_iff = (λ e. by (stp_refused_begins e (λ z. omega arith)), begins_vertices_out)
    where
      by : StpRefusing lent t 1 0 → StpVerticesOut t
      by (vertices_out i z o) = o
      by (edges_over i z o) = absurd (omega arith)
      by (buffer_short i z o) = absurd (omega arith)

  pub stp_edges_over_iff : (stp_reading t gb fb sb wb ≡ refusal 3 0) ↔ StpEdgesOver lent t
  stp_edges_over_iff = (λ e. by (stp_refused_begins e (λ z. omega arith)), begins_edges_over)
    where
      by : StpRefusing lent t 3 0 → StpEdgesOver lent t
      by (vertices_out i z o) = absurd (omega arith)
      by (edges_over i z o) = o
      by (buffer_short i z o) = absurd (omega arith)

  pub stp_buffer_short_iff : (stp_reading t gb fb sb wb ≡ refusal 7 0) ↔ StpShort lent t
  stp_buffer_short_iff = (λ e. by (stp_refused_begins e (λ z. omega arith)), ⊎_elim begins_groups_short begins_edges_short)
    where
      by : StpRefusing lent t 7 0 → StpShort lent t
      by (vertices_out i z o) = absurd (omega arith)
      by (edges_over i z o) = absurd (omega arith)
      by (buffer_short i z o) = o

-- ---- bytes behind a refusal

module _ {t : List ℕ} (rest : List ℕ) where
  longer : {w : List ℕ} → BeginsWith w t → BeginsWith w (t ++ rest)
  longer {w} b = record { rest = b.rest ++ rest; whole = ap (λ (l : List ℕ). l ++ rest) b.whole ∙ append_assoc w b.rest rest }

  longer_nodes : {n : ℕ} → NodesLine t n → NodesLine (t ++ rest) n
  longer_nodes l = record { opening = l.opening; opens = l.opens; digits = l.digits; begins = longer l.begins }

  longer_edges : {n m : ℕ} → EdgesLine t n m → EdgesLine (t ++ rest) n m
  longer_edges l = record { opening = l.opening; opens = l.opens; nodes_digits = l.nodes_digits; empty = l.empty; digits = l.digits; begins = longer l.begins }

  longer_short : {lent : Lengths} → StpShort lent t → StpShort lent (t ++ rest)
  longer_short (inl o) = inl record { vertices = o.vertices; line = longer_nodes o.line; some = o.some; most = o.most; short = o.short }
  longer_short (inr o) = inr record { vertices = o.vertices; edges = o.edges; line = longer_edges o.line; fits = o.fits; most = o.most; short = o.short }

-- A text that is refused before its end is refused so whatever stands behind it.
pub stp_refused_longer : (gb fb sb wb t rest : List ℕ) {n p : ℕ} → stp_reading t gb fb sb wb ≡ refusal n p → p < length t → stp_reading (t ++ rest) gb fb sb wb ≡ refusal n p
stp_refused_longer gb fb sb wb t rest {n} {p} e h = by_number (stp_numbers gb fb sb wb t n p e)
  where
    is : {i q : ℕ} → n ≡ i → p ≡ q → stp_reading t gb fb sb wb ≡ refusal i q
    is z w = e ∙ (λ i. refusal (z i) (w i))

    back : {i q : ℕ} → n ≡ i → p ≡ q → stp_reading (t ++ rest) gb fb sb wb ≡ refusal i q → stp_reading (t ++ rest) gb fb sb wb ≡ refusal n p
    back z w f = f ∙ (λ i. refusal (sym z i) (sym w i))

    first : take (p + 1) t ≡ take (p + 1) (t ++ rest)
    first = ap (take (p + 1)) (sym (take_at t rest (length t) refl)) ∙ take-take (p + 1) (length t) (t ++ rest) (omega arith)

    out : StpVerticesOut t → StpVerticesOut (t ++ rest)
    out o = record { vertices = o.vertices; line = longer_nodes rest o.line; out = o.out }

    over : StpEdgesOver (stp_lent gb fb sb wb) t → StpEdgesOver (stp_lent gb fb sb wb) (t ++ rest)
    over o = record { vertices = o.vertices; edges = o.edges; line = longer_edges rest o.line; fits = o.fits; over = o.over }

    by_number : StpGives n p → stp_reading (t ++ rest) gb fb sb wb ≡ refusal n p
    by_number (gives_1 z w) = back z w ((stp_vertices_out_iff gb fb sb wb (t ++ rest)).1 (out ((stp_vertices_out_iff gb fb sb wb t).0 (is z w))))
    by_number (gives_3 z w) = back z w ((stp_edges_over_iff gb fb sb wb (t ++ rest)).1 (over ((stp_edges_over_iff gb fb sb wb t).0 (is z w))))
    by_number (gives_7 z w) = back z w ((stp_buffer_short_iff gb fb sb wb (t ++ rest)).1 (longer_short rest ((stp_buffer_short_iff gb fb sb wb t).0 (is z w))))
    by_number (gives_20 z) = back z refl (stp_same gb fb sb wb t (t ++ rest) p (is z refl) first)
