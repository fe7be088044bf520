-- A whole text as a word: the lines that are read are the rendering of what they say.
use Rattle.std.specs.Prelude.{ℕ, ◌+◌, ◌≡◌}
use Rattle.std.proofs.Common.{arith, add-zero, ◌∙◌}
use Rattle.std.proofs.Math.Path.{refl, ap, sym, subst, fun_ext}
use mathlib.Core.List.{List, [], ◌∷◌, ◌++◌, append-nil}
use Rattle.std.proofs.Math.ListN.{length}
use Rattle.base_limits.specs.Limits.{count_digits, group_digits}
use Rattle.format_read.specs.Number.{OfDigits, also_letter}
use Rattle.base_limits.specs.declared.Verdict.TheVariants.{Refused}
use Rattle.format_write.specs.Text.{line_of}
use Rattle.format_read.specs.Step.{Step, found, refused, ◌then◌}
use Rattle.format_read.specs.Lines.{lines_after, text_of, whole}
use Rattle.format_write.specs.Key.{nodes_key, links_key, node_key}
use Rattle.format_also.specs.Pair.{Pair, also_at}
use Rattle.format_also.specs.Render.{pairs_text}
use Rattle.format_also.specs.WellFormed.{FewPairs, PairsPass, NoAlso}
use Rattle.format_also.specs.Laws.Reading.{reads_also}
use Rattle.format_survey.specs.Line.{Tests, count_line, counts_at, group_line, group_lines, Edge, edge_line, edge_lines, SurveyCounts, EdgeDigits, tail_at, tail_after, SurveyLines, lines_of}
use Rattle.format_read.specs.Bytes.{end_at}
use Rattle.format_survey.specs.Reading.{body_at, SurveyText, survey_of, survey_at}
use Rattle.format_survey.specs.LinesRender.{edge_text}
use Rattle.format_survey.specs.Render.{render}
use Rattle.format_read.proofs.Laws.Bytes.{byte_not}
use Rattle.format_read.proofs.Laws.Stands.{stands_head}
use Rattle.format_read.proofs.Laws.Step.{then_then}
use Rattle.format_read.specs.Stands.{Stands}
use Rattle.format_read.specs.Language.{ReadsBefore, Seq, Empty, Text, EachFrom, Texts}
use Rattle.format_read.proofs.Laws.Language.{reads_then, reads_before, before_then, then_before, before_as, reads_value, append_five}
use Rattle.format_read.proofs.Laws.Keyed.{Passes, reads_tested}
use Rattle.format_survey.proofs.Laws.LinesContent.{reads_edge}
use Rattle.format_read.proofs.Laws.Lines.{reads_lines}

-- What a text says before its end is looked for.
pub record SurveyContent : Type 0 where
  pub counts : SurveyCounts
  pub groups : List ℕ
  pub pairs : List Pair
  pub edges : List Edge

abbrev pub content_with : (n m : ℕ) (groups : List ℕ) (pairs : List Pair) (edges : List Edge) → SurveyContent
content_with n m groups pairs edges = record { counts = record { vertices = n; edges = m }; groups = groups; pairs = pairs; edges = edges }

unfoldable pub content_at : Tests → List ℕ → ℕ → Step SurveyContent
content_at tests t at =
    count_line nodes_key tests.vertices t at then λ n p.
    count_line links_key tests.edges t p then λ m q.
    whole (group_lines tests.group t n q) then λ gs r.
    whole (also_at t gs tests.room r) then λ ps s.
    whole (edge_lines t m s) then λ es u.
    found (content_with n m gs ps es) u

-- The text of a survey whose counts, groups and pairs satisfy these.
pub record Rendered (N M : ℕ → Type 0) (P : ℕ → ℕ → Type 0) (Q : List ℕ → List Pair → Type 0) (x : SurveyContent) (w : List ℕ) : Type 0 where
  pub vertices : x.counts.vertices ≡ length x.groups
  pub edges : x.counts.edges ≡ length x.edges
  pub some_vertices : N (length x.groups)
  pub some_edges : M (length x.edges)
  pub each_group : EachFrom P 0 x.groups
  pub each_pair : Q x.groups x.pairs
  pub each_edge : EachFrom (λ i. EdgeDigits) 0 x.edges
  pub word : w ≡ render x.groups x.pairs x.edges

module _ (N M : ℕ → Type 0) (P : ℕ → ℕ → Type 0) (Q : List ℕ → List Pair → Type 0) where
  abbrev Parts : SurveyContent → List ℕ → Type 0
  Parts =
      Seq (Text N (line_of nodes_key)) λ n. Seq (Text M (line_of links_key)) λ m. Seq (Texts P (line_of node_key) n 0) λ gs. Seq (Text (Q gs) pairs_text) λ ps.
      Seq (Texts (λ i. EdgeDigits) edge_text m 0) λ es. Empty (content_with n m gs ps es)

  to : (x : SurveyContent) (w : List ℕ) → Parts x w → Rendered N M P Q x w
  unfolding render
  to x w k =
      let a = k.second in
      let b = a.second in
      let p = b.second in
      let c = p.second in
      let d = c.second in
      let gs = b.first.size in
      let es = c.first.size in
      let e : content_with k.value a.value b.value p.value c.value ≡ x = sym d.value in
      subst (λ (z : SurveyContent). Rendered N M P Q z w) e
      record {
        vertices = sym gs;
        edges = sym es;
        some_vertices = subst N (sym gs) k.first.holds;
        some_edges = subst M (sym es) a.first.holds;
        each_group = b.first.each;
        each_pair = p.first.holds;
        each_edge = c.first.each;
        word =
            k.whole ∙ ap (λ (z : List ℕ). z ++ k.right) (k.first.word ∙ ap (line_of nodes_key) (sym gs)) ∙ ap (λ (z : List ℕ). line_of nodes_key (length b.value) ++ z)
            (a.whole ∙ ap (λ (z : List ℕ). z ++ a.right) (a.first.word ∙ ap (line_of links_key) (sym es)) ∙ ap (λ (z : List ℕ). line_of links_key (length c.value) ++ z)
            (b.whole ∙ ap (λ (z : List ℕ). z ++ b.right) b.first.word ∙ ap (λ (z : List ℕ). text_of (line_of node_key) b.value ++ z)
            (p.whole ∙ ap (λ (z : List ℕ). z ++ p.right) p.first.word ∙ ap (λ (z : List ℕ). pairs_text p.value ++ z)
            (c.whole ∙ ap (λ (z : List ℕ). z ++ c.right) c.first.word ∙ ap (λ (z : List ℕ). text_of edge_text c.value ++ z) d.word))))
            ∙ append_five (line_of nodes_key (length b.value)) (line_of links_key (length c.value)) (text_of (line_of node_key) b.value) (pairs_text p.value) (text_of edge_text c.value);
      }

  from : (x : SurveyContent) (w : List ℕ) → Rendered N M P Q x w → Parts x w
  unfolding render
  from x w k =
      let g = x.groups in
      let l = x.pairs in
      let h = x.edges in
      let e : x ≡ content_with (length g) (length h) g l h = λ i. record { counts = record { vertices = k.vertices i; edges = k.edges i }; groups = g; pairs = l; edges = h } in
      record {
        value = length g;
        left = line_of nodes_key (length g);
        right = line_of links_key (length h) ++ (text_of (line_of node_key) g ++ (pairs_text l ++ (text_of edge_text h ++ [])));
        first = record { holds = k.some_vertices; word = refl };
        whole = k.word ∙ sym (append_five (line_of nodes_key (length g)) (line_of links_key (length h)) (text_of (line_of node_key) g) (pairs_text l) (text_of edge_text h));
        second = record {
          value = length h;
          left = line_of links_key (length h);
          right = text_of (line_of node_key) g ++ (pairs_text l ++ (text_of edge_text h ++ []));
          first = record { holds = k.some_edges; word = refl };
          whole = refl;
          second = record {
            value = g;
            left = text_of (line_of node_key) g;
            right = pairs_text l ++ (text_of edge_text h ++ []);
            first = record { size = refl; each = k.each_group; word = refl };
            whole = refl;
            second = record {
              value = l;
              left = pairs_text l;
              right = text_of edge_text h ++ [];
              first = record { holds = k.each_pair; word = refl };
              whole = refl;
              second = record {
                value = h;
                left = text_of edge_text h;
                right = [];
                first = record { size = refl; each = k.each_edge; word = refl };
                whole = refl;
                second = record { value = e; word = refl };
              };
            };
          };
        };
      }

-- The tests give no 16.
pub record NeverMalformed (tests : Tests) : Type 0 where
  pub vertices : (x n p : ℕ) → tests.vertices x ≡ Refused n p → n ≡ 16 → ⊥
  pub edges : (x n p : ℕ) → tests.edges x ≡ Refused n p → n ≡ 16 → ⊥
  pub group : (v x n p : ℕ) → tests.group v x ≡ Refused n p → n ≡ 16 → ⊥

abbrev pub Accepted : Tests → SurveyContent → List ℕ → Type 0
Accepted tests =
    Rendered (Passes count_digits tests.vertices) (Passes count_digits tests.edges) (λ v. Passes group_digits (tests.group v)) (λ gs. PairsPass gs tests.room 0 0)

abbrev pub Formed : SurveyContent → List ℕ → Type 0
Formed = Rendered (OfDigits count_digits) (OfDigits count_digits) (λ v. OfDigits group_digits) (λ gs. FewPairs)

-- No edge line begins like an also line.
edges_begin : (t : List ℕ) (p : ℕ) (es : List Edge) → Stands t p (text_of edge_text es) → NoAlso t (p + length (text_of edge_text es)) → NoAlso t p
unfolding text_of edge_text
edges_begin t p [] s e = subst (NoAlso t) (add-zero p) e
edges_begin t p (x ∷ es) s e = byte_not t p also_letter (λ z. other (stands_head s) z)
  where
    other : {b : ℕ} → b ≡ 108 → b ≡ also_letter → ⊥
    other h k = omega arith

tail_begins : {A : Type 0} (t : List ℕ) (p m : ℕ) {value : List Edge → A} (b : A) (w : List ℕ) → Seq (Texts (λ i. EdgeDigits) edge_text m 0) (λ es. Empty (value es)) b w → Stands t p w → NoAlso t (p + length w) → NoAlso t p
tail_begins t p m b w k s e =
    let same : w ≡ text_of edge_text k.value = k.whole ∙ ap (λ (z : List ℕ). k.left ++ z) k.second.word ∙ append-nil k.left ∙ k.first.word in
    edges_begin t p k.value (subst (Stands t p) same s) (subst (λ (z : List ℕ). NoAlso t (p + length z)) same e)

pub reads_content : (tests : Tests) → NeverMalformed tests → ReadsBefore NoAlso (content_at tests) (Accepted tests) Formed
unfolding content_at count_line group_lines group_line edge_lines
reads_content tests h =
    before_as (λ t at. refl) (to _ _ _ _) (from _ _ _ _) (to _ _ _ _) (from _ _ _ _)
    (then_before (reads_tested nodes_key count_digits (omega arith) tests.vertices h.vertices) λ n.
    then_before (reads_tested links_key count_digits (omega arith) tests.edges h.edges) λ m.
    then_before (reads_lines (group_line tests.group) (λ v. Passes group_digits (tests.group v)) (λ v. OfDigits group_digits) (line_of node_key) (λ v. reads_tested node_key group_digits (omega arith) (tests.group v) (h.group v)) n 0) λ gs.
    before_then (reads_also gs tests.room)
    (λ ps. reads_before (reads_then (reads_lines edge_line (λ e. EdgeDigits) (λ e. EdgeDigits) edge_text reads_edge m 0) λ es. reads_value (content_with n m gs ps es)))
    (λ t p ps b w k s e. tail_begins t p m b w k s e))

-- The lines from an offset on, and what is read behind them.
abbrev pub lines_then : {B : Type 0} → Tests → List ℕ → (SurveyContent → ℕ → Step B) → SurveyCounts → ℕ → Step B
lines_then tests t last c p =
    let body = lines_of tests.group tests.room t c p in
    body.end then λ k q. last (record { counts = c; groups = body.groups; pairs = body.pairs; edges = body.edges }) q

-- What is read behind the lines of a survey is read behind what they say.
pub content_then : {B : Type 0} (tests : Tests) (t : List ℕ) (last : SurveyContent → ℕ → Step B) → (counts_at tests.vertices tests.edges t then lines_then tests t last) ≡ (content_at tests t 0 then last)
unfolding content_at counts_at lines_of tail_after tail_at lines_after whole ◌then◌
content_then tests t last = by_vertices (count_line nodes_key tests.vertices t 0)
  where
    content : SurveyCounts → List ℕ → List Pair → List Edge → SurveyContent
    content c gs ps es = record { counts = c; groups = gs; pairs = ps; edges = es }

    by_edges : (c : SurveyCounts) (gs : List ℕ) (ps : List Pair) (es : List Edge) (s : Step ℕ)
        → ((s then λ z p. found (length ps) p) then λ k q. last (content c gs ps es) q) ≡ (((s then λ z p. found es p) then λ l q. found (content c gs ps l) q) then last)
    by_edges c gs ps es (found z p) = refl
    by_edges c gs ps es (refused n p) = refl

    by_pairs : (c : SurveyCounts) (gs : List ℕ) (ps : List Pair) (s : Step ℕ)
        → (let es = lines_after s (edge_lines t c.edges) in (es.end then λ z p. found (length ps) p) then λ k q. last (content c gs ps es.values) q)
        ≡ (((s then λ z p. found ps p) then λ l r. whole (edge_lines t c.edges r) then λ es u. found (content c gs l es) u) then last)
    by_pairs c gs ps (found z p) = by_edges c gs ps (edge_lines t c.edges p).values (edge_lines t c.edges p).end
    by_pairs c gs ps (refused n p) = refl

    by_groups : (c : SurveyCounts) (gs : List ℕ) (s : Step ℕ)
        → (let tail = tail_after s (tail_at tests.room t gs c.edges) in tail.end then λ k q. last (content c gs tail.pairs tail.edges) q)
        ≡ (((s then λ z p. found gs p) then λ l r. whole (also_at t l tests.room r) then λ ps v. whole (edge_lines t c.edges v) then λ es u. found (content c l ps es) u) then last)
    by_groups c gs (found z p) = by_pairs c gs (also_at t gs tests.room p).values (also_at t gs tests.room p).end
    by_groups c gs (refused n p) = refl

    by_links : (n : ℕ) (s : Step ℕ)
        → ((s then λ m q. found (record { vertices = n; edges = m }) q) then lines_then tests t last)
        ≡ ((s then λ m q.
        whole (group_lines tests.group t n q) then λ gs r.
        whole (also_at t gs tests.room r) then λ ps v.
        whole (edge_lines t m v) then λ es u.
        found (content_with n m gs ps es) u)
        then last)
    by_links n (found m q) = by_groups (record { vertices = n; edges = m }) (group_lines tests.group t n q).values (group_lines tests.group t n q).end
    by_links n (refused i p) = refl

    by_vertices : (s : Step ℕ)
        → ((s then λ n p. count_line links_key tests.edges t p then λ m q. found (record { vertices = n; edges = m }) q) then lines_then tests t last)
        ≡ ((s then λ n p.
        count_line links_key tests.edges t p then λ m q.
        whole (group_lines tests.group t n q) then λ gs r.
        whole (also_at t gs tests.room r) then λ ps v.
        whole (edge_lines t m v) then λ es u.
        found (content_with n m gs ps es) u)
        then last)
    by_vertices (found n p) = by_links n (count_line links_key tests.edges t p)
    by_vertices (refused i p) = refl

-- What a text says, as reading answers it.
abbrev pub content_survey : SurveyContent → SurveyText
content_survey x = survey_of x.counts x.groups x.pairs x.edges

-- A survey's text, read to its end.
pub content_survey_law : (tests : Tests) (t : List ℕ) → survey_at tests t ≡ (content_at tests t 0 then λ x p. end_at t p then λ z q. found (content_survey x) q)
unfolding survey_at body_at ◌then◌
content_survey_law tests t =
    ap (λ k. counts_at tests.vertices tests.edges t then k) (fun_ext (λ c. fun_ext (λ p. ended c (lines_of tests.group tests.room t c p) (lines_of tests.group tests.room t c p).end)))
    ∙ content_then tests t (λ x p. end_at t p then λ z q. found (content_survey x) q)
  where
    by_end : {S : Type 0} (k q : ℕ) (e : Step ℕ) (s : S) → ((e then λ z q. found k q) then λ z q. found s q) ≡ (e then λ z q. found s q)
    by_end k q e s = then_then e _ _

    ended : (c : SurveyCounts) (l : SurveyLines) (e : Step ℕ)
        → ((e then λ k p. end_at t p then λ z q. found k q) then λ z q. found (survey_of c l.groups l.pairs l.edges) q)
        ≡ (e then λ k p. end_at t p then λ z q. found (survey_of c l.groups l.pairs l.edges) q)
    ended c l e = then_then e _ _ ∙ ap (λ k. e then k) (fun_ext (λ k. fun_ext (λ p. by_end k p (end_at t p) (survey_of c l.groups l.pairs l.edges))))
