-- 'Empty lines may follow any line': behind any byte 10 of a text of the subset one more may stand, and the text says the same.
use Prim.Native.Nat.{ℕ, zero, suc, ◌≤◌, ◌<◌}
use Rattle.std.proofs.Common.{arith, sym, ◌∙◌, subst}
use Rattle.std.specs.Prelude.{Bool, true, false, cond, ◌≡◌, refl, eqb, length, set, replicate}
use mathlib.Core.List.{List, [], ◌∷◌, ◌++◌, append_assoc}
use Rattle.std.proofs.Math.Path.{ap}
use Rattle.std.proofs.lemmas.Bool.{eqb-false}
use Rattle.format_write.specs.Decimal.{decimal}
use Rattle.format_write.specs.Key.{ascii, newline}
use Rattle.format_write.specs.Text.{line_of}
use Rattle.format_read.specs.Language.{Text}
use Rattle.format_read.proofs.Laws.Bytes.{no_bool}
use Rattle.format_read.proofs.Laws.Decimal.{decimal_numeral}
use Rattle.format_read.proofs.Laws.Digits.{Digits}
use Rattle.format_read.proofs.Laws.Digits.{none as no_digit, one as one_digit}
use Rattle.format_read.specs.Number.{number_text}
use Rattle.format_survey.specs.Line.{Edge}
use Rattle.format_stp.specs.Grammar.{blanks, Followed, StpOpening, plain, commented, NamedTerminals, StpBlanks, StpText}
use Rattle.format_stp.specs.Grammar.{none as no_name, one as one_name}
use Rattle.format_stp.specs.StpKey.{header_line, comment_line, graph_line, nodes_word, edges_word, edge_word, end_word, end_line, terminals_line, terminals_word, terminal_word, eof_line, space}
use Rattle.format_stp.specs.StpReading.{StpContent}
use Rattle.format_stp.specs.StpWord.{Repeated, OneLine, end, byte, CommentLines, last, line}
use Rattle.format_stp.specs.StpWord.{none as no_line_law, one as one_line}
use Rattle.format_stp.specs.Subset.{StpEdgeIn, stp_edge_text, terminal_text}

-- One byte 10 is doubled.
data Doubled : List ℕ → List ℕ → Type 0 where
  here : {u : List ℕ} → Doubled (newline ∷ u) (newline ∷ newline ∷ u)
  there : {b : ℕ} {u v : List ℕ} → Doubled u v → Doubled (b ∷ u) (b ∷ v)

doubled_at : (u v : List ℕ) → Doubled (u ++ newline ∷ v) (u ++ newline ∷ newline ∷ v)
doubled_at [] v = here
doubled_at (b ∷ u) v = there (doubled_at u v)

-- It stands in the first part or in the second.
data Side (a b w : List ℕ) : Type 0 where
  in_first : (c : List ℕ) → Doubled a c → w ≡ c ++ b → Side a b w
  in_second : (c : List ℕ) → Doubled b c → w ≡ a ++ c → Side a b w

side : (a : List ℕ) {b w : List ℕ} → Doubled (a ++ b) w → Side a b w
side [] {w = w} d = in_second w d refl
side (x ∷ a) here = in_first (newline ∷ newline ∷ a) here refl
side (x ∷ a) {b} (there {v = v} d) = by_side (side a d)
  where
    by_side : Side a b v → Side (x ∷ a) b (x ∷ v)
    by_side (in_first c e f) = in_first (x ∷ c) (there e) (ap (λ (l : List ℕ). x ∷ l) f)
    by_side (in_second c e f) = in_second c e (ap (λ (l : List ℕ). x ∷ l) f)

doubled_blanks : (k : ℕ) {w : List ℕ} → Doubled (blanks k) w → w ≡ blanks (suc k)
doubled_blanks zero {w = w} d = elim d [ ]
doubled_blanks (suc k) here = refl
doubled_blanks (suc k) (there d) = ap (λ (l : List ℕ). newline ∷ l) (doubled_blanks k d)

-- ---- lines, whose only byte 10 is the last

data Ended : List ℕ → Type 0 where
  at_end : Ended (newline ∷ [])
  before_end : {b : ℕ} {l : List ℕ} → (b ≡ newline → ⊥) → Ended l → Ended (b ∷ l)

doubled_line : {l w : List ℕ} → Ended l → Doubled l w → w ≡ l ++ (newline ∷ [])
doubled_line at_end here = refl
doubled_line at_end (there {v = v} d) = elim d [ ]
doubled_line (before_end n e) here = absurd (n refl)
doubled_line (before_end {b = b} n e) (there d) = ap (λ (l : List ℕ). b ∷ l) (doubled_line e d)

unfoldable no_line : List ℕ → Bool
no_line [] = true
no_line (b ∷ l) = cond (eqb b newline) false (no_line l)

ended_key : (key : List ℕ) {l : List ℕ} → no_line key ≡ true → Ended l → Ended (key ++ l)
unfolding no_line
ended_key [] e h = h
ended_key (b ∷ key) {l} e h = by_byte_law (eqb b newline) refl e (λ f. ended_key key f h)
  where
    by_byte_law : (c : Bool) → eqb b newline ≡ c → cond c false (no_line key) ≡ true → (no_line key ≡ true → Ended (key ++ l)) → Ended (b ∷ key ++ l)
    by_byte_law true q e k = no_bool (sym e)
    by_byte_law false q e k = before_end (eqb-false b newline q) (k e)

ended_digits : {ds l : List ℕ} → Digits ds → Ended l → Ended (ds ++ l)
ended_digits no_digit h = h
ended_digits (one_digit {d = d} a b r) h = before_end (other d a) (ended_digits r h)
  where
    other : (d : ℕ) → 48 ≤ d → d ≡ newline → ⊥
    other d a z = omega arith

ended_line : (key : List ℕ) (x : ℕ) → no_line key ≡ true → Ended (line_of key x)
unfolding line_of
ended_line key x e = subst Ended (sym (append_assoc key (decimal x) (newline ∷ []))) (ended_key key e (ended_digits (decimal_numeral x).digits at_end))

ended_number : (x : ℕ) → Ended (number_text newline x)
unfolding number_text
ended_number x = ended_digits (decimal_numeral x).digits at_end

space_other : space ≡ newline → ⊥
space_other z = omega arith

ended_space : (x : ℕ) {l : List ℕ} → Ended l → Ended (number_text space x ++ l)
unfolding number_text
ended_space x {l} h = subst Ended (sym (append_assoc (decimal x) (space ∷ []) l)) (ended_digits (decimal_numeral x).digits (before_end space_other h))

ended_edge : (e : Edge) → Ended (stp_edge_text e)
unfolding stp_edge_text no_line
ended_edge e = ended_key edge_word refl (ended_space _ (ended_space _ (ended_number _)))

ended_terminal : (v : ℕ) → Ended (terminal_text v)
unfolding terminal_text no_line
ended_terminal v = ended_key terminal_word refl (ended_number _)

ended_header : Ended header_line
unfolding no_line
ended_header = ended_key (ascii "33D32945 STP File, STP Format Version 1.0") refl at_end

ended_comment : Ended comment_line
unfolding no_line
ended_comment = ended_key (ascii "SECTION Comment") refl at_end

ended_graph : Ended graph_line
unfolding no_line
ended_graph = ended_key (ascii "SECTION Graph") refl at_end

ended_end : Ended end_line
unfolding no_line
ended_end = ended_key end_word refl at_end

ended_terminals : Ended terminals_line
unfolding no_line
ended_terminals = ended_key (ascii "SECTION Terminals") refl at_end

ended_eof : Ended eof_line
unfolding no_line
ended_eof = ended_key (ascii "EOF") refl at_end

-- Behind a line and so many empty lines: one more, or further on.
data Further (l : List ℕ) (k : ℕ) (r w : List ℕ) : Type 0 where
  one_more_law : w ≡ l ++ (blanks (suc k) ++ r) → Further l k r w
  further : (c : List ℕ) → Doubled r c → w ≡ l ++ (blanks k ++ c) → Further l k r w

line_further : {l r w : List ℕ} (k : ℕ) → Ended l → Doubled (l ++ (blanks k ++ r)) w → Further l k r w
line_further {l} {r} {w} k e d = by_line (side l d)
  where
    by_blanks : (c : List ℕ) → w ≡ l ++ c → Side (blanks k) r c → Further l k r w
    by_blanks c f (in_first b g h) = one_more_law (f ∙ ap (λ (x : List ℕ). l ++ x) (h ∙ ap (λ (x : List ℕ). x ++ r) (doubled_blanks k g)))
    by_blanks c f (in_second b g h) = further b g (f ∙ ap (λ (x : List ℕ). l ++ x) h)

    by_line : Side l (blanks k ++ r) w → Further l k r w
    by_line (in_first c g f) = one_more_law (f ∙ ap (λ (x : List ℕ). x ++ (blanks k ++ r)) (doubled_line e g) ∙ append_assoc l (newline ∷ []) (blanks k ++ r))
    by_line (in_second c g f) = by_blanks c f (side (blanks k) g)

line_last : {l w : List ℕ} (k : ℕ) → Ended l → Doubled (l ++ blanks k) w → w ≡ l ++ blanks (suc k)
line_last {l} {w} k e d = by_line (side l d)
  where
    by_line : Side l (blanks k) w → w ≡ l ++ blanks (suc k)
    by_line (in_first c g f) = f ∙ ap (λ (x : List ℕ). x ++ blanks k) (doubled_line e g) ∙ append_assoc l (newline ∷ []) (blanks k)
    by_line (in_second c g f) = f ∙ ap (λ (x : List ℕ). l ++ x) (doubled_blanks k g)

doubled_some : {u v : List ℕ} → Doubled u v → 0 < length u
doubled_some here = omega arith
doubled_some (there d) = omega arith

-- ---- the lines of tracks and of terminals

doubled_followed : {A : Type 0} {P : A → Type 0} {text : A → List ℕ} {a : A} {w v : List ℕ} → ((a : A) → Ended (text a)) → Followed (Text P text) a w → Doubled w v → Followed (Text P text) a v
doubled_followed {a = a} {v = v} h m d =
    record {
      line = m.line;
      empty = suc m.empty;
      member = m.member;
      whole = line_last m.empty (subst Ended (sym m.member.word) (h a)) (subst (λ (u : List ℕ). Doubled u v) m.whole d);
    }

doubled_tracks : {P : Edge → Type 0} {m : ℕ} {es : List Edge} {w v : List ℕ} → Repeated (Followed (Text P stp_edge_text)) m es w → Doubled w v → Repeated (Followed (Text P stp_edge_text)) m es v
doubled_tracks no_line_law d = let s = doubled_some d in absurd (omega arith)
doubled_tracks {P} {m = m} {es = es} {v = v} (one_line {count = k} {a = a} {l = l} {v = x} {w = r} f t) d = by_side (side x d) (λ c e. doubled_tracks t e)
  where
    by_side : Side x r v → ((c : List ℕ) → Doubled r c → Repeated (Followed (Text P stp_edge_text)) k l c) → Repeated (Followed (Text P stp_edge_text)) (suc k) (a ∷ l) v
    by_side (in_first c e g) go = subst (Repeated (Followed (Text P stp_edge_text)) (suc k) (a ∷ l)) (sym g) (one_line (doubled_followed ended_edge f e) t)
    by_side (in_second c e g) go = subst (Repeated (Followed (Text P stp_edge_text)) (suc k) (a ∷ l)) (sym g) (one_line f (go c e))

doubled_named : {n m : ℕ} {front back w v : List ℕ} → NamedTerminals n m front back w → Doubled w v → NamedTerminals n m front back v
doubled_named no_name d = let s = doubled_some d in absurd (omega arith)
doubled_named {n} {m} {front} {back} {v = v} (one_name {count = k} {v = i} {x = x} {w = r} f t) d = by_side (side x d) (λ c e. doubled_named t e)
  where
    by_side : Side x r v → ((c : List ℕ) → Doubled r c → NamedTerminals n k (set front i 1) back c) → NamedTerminals n (suc k) front back v
    by_side (in_first c e g) go = subst (NamedTerminals n (suc k) front back) (sym g) (one_name (doubled_followed ended_terminal f e) t)
    by_side (in_second c e g) go = subst (NamedTerminals n (suc k) front back) (sym g) (one_name f (go c e))

-- ---- the opening

doubled_never : {l w : List ℕ} → OneLine l → Doubled l w → ⊥
doubled_never {w = w} end d = elim d [ ]
doubled_never (byte n o) here = n refl
doubled_never (byte n o) (there d) = doubled_never o d

empty_other : [] ≡ end_word → ⊥
empty_other e = let z : ◌≡◌ {A = ℕ} 0 3 = ap length e in omega arith

data CommentSide (c w : List ℕ) : Type 0 where
  inside : CommentLines w → CommentSide c w
  closed : w ≡ c ++ (newline ∷ []) → CommentSide c w

doubled_comment : {c w : List ℕ} → CommentLines c → Doubled c w → CommentSide c w
doubled_comment last d = closed (doubled_line ended_end d)
doubled_comment {w = w} (line {l = l} {w = r} o n m) d = by_side (side l d) (λ v e. doubled_comment m e)
  where
    by_rest : (v : List ℕ) → w ≡ l ++ newline ∷ v → CommentSide r v → CommentSide (l ++ newline ∷ r) w
    by_rest v f (inside k) = inside (subst CommentLines (sym f) (line o n k))
    by_rest v f (closed g) = closed (f ∙ ap (λ (x : List ℕ). l ++ newline ∷ x) g ∙ sym (append_assoc l (newline ∷ r) (newline ∷ [])))

    behind : (c : List ℕ) → Doubled (newline ∷ r) c → w ≡ l ++ c → ((v : List ℕ) → Doubled r v → CommentSide r v) → CommentSide (l ++ newline ∷ r) w
    behind c here f go = inside (subst CommentLines (sym f) (line o n (line end empty_other m)))
    behind c (there {v = v} e) f go = by_rest v f (go v e)

    by_side : Side l (newline ∷ r) w → ((v : List ℕ) → Doubled r v → CommentSide r v) → CommentSide (l ++ newline ∷ r) w
    by_side (in_first c e f) go = absurd (doubled_never o e)
    by_side (in_second c e f) go = behind c e f go

doubled_opening : {o w : List ℕ} → StpOpening o → Doubled o w → StpOpening w
doubled_opening {w = w} (plain i j) d = by_header (line_further i ended_header d)
  where
    by_header : Further header_line i (graph_line ++ blanks j) w → StpOpening w
    by_header (one_more_law f) = subst StpOpening (sym f) (plain (suc i) j)
    by_header (further c e f) = subst StpOpening (sym (f ∙ ap (λ (l : List ℕ). header_line ++ (blanks i ++ l)) (line_last j ended_graph e))) (plain i (suc j))
doubled_opening {w = w} (commented i j k {c} m) d = by_header (line_further i ended_header d)
  where
    by_tail : (r : List ℕ) → w ≡ header_line ++ (blanks i ++ (comment_line ++ (c ++ r))) → Side (blanks j) (graph_line ++ blanks k) r → StpOpening w
    by_tail r f (in_first b e g) =
        subst StpOpening (sym (f ∙ ap (λ (l : List ℕ). header_line ++ (blanks i ++ (comment_line ++ (c ++ l)))) (g ∙ ap (λ (l : List ℕ). l ++ (graph_line ++ blanks k)) (doubled_blanks j e)))) (commented i (suc j) k m)
    by_tail r f (in_second b e g) =
        subst StpOpening (sym (f ∙ ap (λ (l : List ℕ). header_line ++ (blanks i ++ (comment_line ++ (c ++ l)))) (g ∙ ap (λ (l : List ℕ). blanks j ++ l) (line_last k ended_graph e)))) (commented i j (suc k) m)

    by_lines : (r c' : List ℕ) → w ≡ header_line ++ (blanks i ++ (comment_line ++ r)) → r ≡ c' ++ (blanks j ++ (graph_line ++ blanks k)) → CommentSide c c' → StpOpening w
    by_lines r c' f g (inside n) = subst StpOpening (sym (f ∙ ap (λ (l : List ℕ). header_line ++ (blanks i ++ (comment_line ++ l))) g)) (commented i j k n)
    by_lines r c' f g (closed h) =
        subst StpOpening
        (sym (f ∙ ap (λ (l : List ℕ). header_line ++ (blanks i ++ (comment_line ++ l))) (g ∙ ap (λ (l : List ℕ). l ++ (blanks j ++ (graph_line ++ blanks k))) h ∙ append_assoc c (newline ∷ []) (blanks j ++ (graph_line ++ blanks k)))))
        (commented i (suc j) k m)

    by_side : (r : List ℕ) → w ≡ header_line ++ (blanks i ++ (comment_line ++ r)) → Side c (blanks j ++ (graph_line ++ blanks k)) r → StpOpening w
    by_side r f (in_first c' e g) = by_lines r c' f g (doubled_comment m e)
    by_side r f (in_second b e g) = by_tail b (f ∙ ap (λ (l : List ℕ). header_line ++ (blanks i ++ (comment_line ++ l))) g) (side (blanks j) e)

    by_comment : (r : List ℕ) → w ≡ header_line ++ (blanks i ++ r) → Further comment_line 0 (c ++ (blanks j ++ (graph_line ++ blanks k))) r → StpOpening w
    by_comment r f (one_more_law g) = subst StpOpening (sym (f ∙ ap (λ (l : List ℕ). header_line ++ (blanks i ++ l)) g)) (commented i j k (line end empty_other m))
    by_comment r f (further b e g) = by_side b (f ∙ ap (λ (l : List ℕ). header_line ++ (blanks i ++ l)) g) (side c e)

    by_header : Further header_line i (comment_line ++ (c ++ (blanks j ++ (graph_line ++ blanks k)))) w → StpOpening w
    by_header (one_more_law f) = subst StpOpening (sym f) (commented (suc i) j k m)
    by_header (further b e f) = by_comment b f (line_further 0 ended_comment e)

-- ---- the text

on_side : {a b w : List ℕ} {C : Type 0} → Side a b w → ((c : List ℕ) → Doubled a c → w ≡ c ++ b → C) → ((c : List ℕ) → Doubled b c → w ≡ a ++ c → C) → C
on_side (in_first c e f) g h = g c e f
on_side (in_second c e f) g h = h c e f

on_further : {l r w : List ℕ} {k : ℕ} {C : Type 0} → Further l k r w → (w ≡ l ++ (blanks (suc k) ++ r) → C) → ((c : List ℕ) → Doubled r c → w ≡ l ++ (blanks k ++ c) → C) → C
on_further (one_more_law f) g h = g f
on_further (further c e f) g h = h c e f

module _ {x : StpContent} {t : List ℕ} (s : StpText x t) where
  abbrev N : List ℕ
  N = line_of nodes_word x.vertices

  abbrev M : List ℕ
  M = line_of edges_word x.edges

  abbrev T : List ℕ
  T = line_of terminals_word s.terminals

  abbrev b : StpBlanks
  b = s.behind

  -- The text with other pieces.
  made : {v o tracks named : List ℕ} → StpOpening o → Repeated (Followed (Text (StpEdgeIn x.vertices) stp_edge_text)) x.edges x.lines tracks
      → NamedTerminals x.vertices s.terminals (replicate x.vertices 0) x.groups named → (b : StpBlanks)
      → v ≡ o ++ (N ++ (blanks b.nodes ++ (M ++ (blanks b.edges ++ (tracks ++ (end_line ++ (blanks b.graph_end ++ (terminals_line ++ (blanks b.section ++ (T ++ (blanks b.terminals ++ (named ++ (end_line ++ (blanks b.terminals_end ++ (eof_line ++ blanks b.eof)))))))))))))))
      → StpText x v
  made {o = o} {tracks = tracks} {named = named} opens each names b e =
      record {
        opening = o;
        opens = opens;
        nodes = s.nodes;
        edges = s.edges;
        tracks = tracks;
        each_track = each;
        terminals = s.terminals;
        announced = s.announced;
        named = named;
        each_terminal = names;
        behind = b;
        whole = e;
      }

  doubled_text : {v : List ℕ} → Doubled t v → StpText x v
  unfolding no_line
  doubled_text {v} d =
      on_side (side s.opening (subst (λ (u : List ℕ). Doubled u v) s.whole d)) (λ c e f. made (doubled_opening s.opens e) s.each_track s.each_terminal b f) λ c0 e0 p0.
      on_further (line_further b.nodes (ended_line nodes_word x.vertices refl) e0) (λ f. made s.opens s.each_track s.each_terminal (record { nodes = suc b.nodes; edges = b.edges; graph_end = b.graph_end; section = b.section; terminals = b.terminals; terminals_end = b.terminals_end; eof = b.eof }) (p0 ∙ ap (λ (l : List ℕ). s.opening ++ (l)) f)) λ c1 e1 f1.
      let p1 = p0 ∙ ap (λ (l : List ℕ). s.opening ++ (l)) f1 in
      on_further (line_further b.edges (ended_line edges_word x.edges refl) e1) (λ f. made s.opens s.each_track s.each_terminal (record { nodes = b.nodes; edges = suc b.edges; graph_end = b.graph_end; section = b.section; terminals = b.terminals; terminals_end = b.terminals_end; eof = b.eof }) (p1 ∙ ap (λ (l : List ℕ). s.opening ++ (N ++ (blanks b.nodes ++ (l)))) f)) λ c2 e2 f2.
      let p2 = p1 ∙ ap (λ (l : List ℕ). s.opening ++ (N ++ (blanks b.nodes ++ (l)))) f2 in
      on_side (side s.tracks e2) (λ c e f. made s.opens (doubled_tracks s.each_track e) s.each_terminal b (p2 ∙ ap (λ (l : List ℕ). s.opening ++ (N ++ (blanks b.nodes ++ (M ++ (blanks b.edges ++ (l)))))) f)) λ c3 e3 f3.
      let p3 = p2 ∙ ap (λ (l : List ℕ). s.opening ++ (N ++ (blanks b.nodes ++ (M ++ (blanks b.edges ++ (l)))))) f3 in
      on_further (line_further b.graph_end ended_end e3) (λ f. made s.opens s.each_track s.each_terminal (record { nodes = b.nodes; edges = b.edges; graph_end = suc b.graph_end; section = b.section; terminals = b.terminals; terminals_end = b.terminals_end; eof = b.eof }) (p3 ∙ ap (λ (l : List ℕ). s.opening ++ (N ++ (blanks b.nodes ++ (M ++ (blanks b.edges ++ (s.tracks ++ (l))))))) f)) λ c4 e4 f4.
      let p4 = p3 ∙ ap (λ (l : List ℕ). s.opening ++ (N ++ (blanks b.nodes ++ (M ++ (blanks b.edges ++ (s.tracks ++ (l))))))) f4 in
      on_further (line_further b.section ended_terminals e4) (λ f. made s.opens s.each_track s.each_terminal (record { nodes = b.nodes; edges = b.edges; graph_end = b.graph_end; section = suc b.section; terminals = b.terminals; terminals_end = b.terminals_end; eof = b.eof }) (p4 ∙ ap (λ (l : List ℕ). s.opening ++ (N ++ (blanks b.nodes ++ (M ++ (blanks b.edges ++ (s.tracks ++ (end_line ++ (blanks b.graph_end ++ (l))))))))) f)) λ c5 e5 f5.
      let p5 = p4 ∙ ap (λ (l : List ℕ). s.opening ++ (N ++ (blanks b.nodes ++ (M ++ (blanks b.edges ++ (s.tracks ++ (end_line ++ (blanks b.graph_end ++ (l))))))))) f5 in
      on_further (line_further b.terminals (ended_line terminals_word s.terminals refl) e5) (λ f. made s.opens s.each_track s.each_terminal (record { nodes = b.nodes; edges = b.edges; graph_end = b.graph_end; section = b.section; terminals = suc b.terminals; terminals_end = b.terminals_end; eof = b.eof }) (p5 ∙ ap (λ (l : List ℕ). s.opening ++ (N ++ (blanks b.nodes ++ (M ++ (blanks b.edges ++ (s.tracks ++ (end_line ++ (blanks b.graph_end ++ (terminals_line ++ (blanks b.section ++ (l))))))))))) f)) λ c6 e6 f6.
      let p6 = p5 ∙ ap (λ (l : List ℕ). s.opening ++ (N ++ (blanks b.nodes ++ (M ++ (blanks b.edges ++ (s.tracks ++ (end_line ++ (blanks b.graph_end ++ (terminals_line ++ (blanks b.section ++ (l))))))))))) f6 in
      on_side (side s.named e6) (λ c e f. made s.opens s.each_track (doubled_named s.each_terminal e) b (p6 ∙ ap (λ (l : List ℕ). s.opening ++ (N ++ (blanks b.nodes ++ (M ++ (blanks b.edges ++ (s.tracks ++ (end_line ++ (blanks b.graph_end ++ (terminals_line ++ (blanks b.section ++ (T ++ (blanks b.terminals ++ (l))))))))))))) f)) λ c7 e7 f7.
      let p7 = p6 ∙ ap (λ (l : List ℕ). s.opening ++ (N ++ (blanks b.nodes ++ (M ++ (blanks b.edges ++ (s.tracks ++ (end_line ++ (blanks b.graph_end ++ (terminals_line ++ (blanks b.section ++ (T ++ (blanks b.terminals ++ (l))))))))))))) f7 in
      on_further (line_further b.terminals_end ended_end e7) (λ f. made s.opens s.each_track s.each_terminal (record { nodes = b.nodes; edges = b.edges; graph_end = b.graph_end; section = b.section; terminals = b.terminals; terminals_end = suc b.terminals_end; eof = b.eof }) (p7 ∙ ap (λ (l : List ℕ). s.opening ++ (N ++ (blanks b.nodes ++ (M ++ (blanks b.edges ++ (s.tracks ++ (end_line ++ (blanks b.graph_end ++ (terminals_line ++ (blanks b.section ++ (T ++ (blanks b.terminals ++ (s.named ++ (l)))))))))))))) f)) λ c8 e8 f8.
      let p8 = p7 ∙ ap (λ (l : List ℕ). s.opening ++ (N ++ (blanks b.nodes ++ (M ++ (blanks b.edges ++ (s.tracks ++ (end_line ++ (blanks b.graph_end ++ (terminals_line ++ (blanks b.section ++ (T ++ (blanks b.terminals ++ (s.named ++ (l)))))))))))))) f8 in
      made s.opens s.each_track s.each_terminal (record { nodes = b.nodes; edges = b.edges; graph_end = b.graph_end; section = b.section; terminals = b.terminals; terminals_end = b.terminals_end; eof = suc b.eof }) (p8 ∙ ap (λ (l : List ℕ). s.opening ++ (N ++ (blanks b.nodes ++ (M ++ (blanks b.edges ++ (s.tracks ++ (end_line ++ (blanks b.graph_end ++ (terminals_line ++ (blanks b.section ++ (T ++ (blanks b.terminals ++ (s.named ++ (end_line ++ (blanks b.terminals_end ++ (l)))))))))))))))) (line_last b.eof ended_eof e8))

-- Behind any byte 10, that is any line, one more empty line may stand.
pub empty_behind : {x : StpContent} (u v : List ℕ) → StpText x (u ++ newline ∷ v) → StpText x (u ++ newline ∷ newline ∷ v)
empty_behind u v s = doubled_text s (doubled_at u v)
