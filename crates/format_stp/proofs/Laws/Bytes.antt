-- A text of the subset stays one where numbers over 255, which only a comment can have, are lowered to 255: so a beginning that goes on to a text of the
-- subset goes on to one by bytes.
use Rattle.std.specs.Prelude.{ℕ, zero, suc, ◌<◌, Bool, true, false, ◌&&◌, List, [], ◌∷◌, ◌++◌, ◌≡◌, refl, ltb, take}
use Rattle.std.proofs.Common.{arith, ap, sym, ◌∙◌, subst, ltb-true, ltb-false}
use Rattle.base_finite.specs.Laws.Test.{and_left, and_right}
use Rattle.format_write.specs.Key.{newline}
use Rattle.format_write.specs.Text.{line_of}
use Rattle.format_read.specs.Language.{Each, none, more, Text}
use Rattle.format_read.proofs.Laws.Decimal.{decimal_numeral}
use Rattle.format_read.proofs.Laws.Digits.{Digits}
use Rattle.format_read.proofs.Laws.Digits.{none as no_digit, one as one_digit}
use Rattle.format_read.specs.Number.{number_text}
use Rattle.format_survey.specs.Line.{Edge}
use Rattle.format_stp.specs.Grammar.{blanks, Followed, StpOpening, plain, commented, NamedTerminals, StpText}
use Rattle.format_stp.specs.Grammar.{none as no_name, one as one_name}
use Rattle.format_stp.proofs.Laws.Accepted.{GoesOn}
use Rattle.format_stp.specs.Promises.{StpBegins}
use Rattle.format_stp.specs.StpKey.{header_line, comment_line, graph_line, nodes_word, edges_word, edge_word, end_word, end_line, terminals_line, terminals_word, terminal_word, eof_line, space}
use Rattle.format_stp.specs.StpReading.{StpContent}
use Rattle.format_stp.specs.StpWord.{Repeated, OneLine, end, byte, CommentLines, last, line}
use Rattle.format_stp.specs.StpWord.{none as no_line_law, one as one_line}
use Rattle.format_stp.specs.Subset.{stp_edge_text, terminal_text}

abbrev Bytes : List ℕ → Type 0
Bytes l = Each (λ b. b < 256) l

-- ---- what is bytes

bytes_append : {u v : List ℕ} → Bytes u → Bytes v → Bytes (u ++ v)
bytes_append none k = k
bytes_append (more x h) k = more x (bytes_append h k)

unfoldable low : (limit : ℕ) → List ℕ → Bool
low limit [] = true
low limit (b ∷ l) = ltb b limit && low limit l

each_low : (limit : ℕ) (l : List ℕ) → low limit l ≡ true → Each (λ b. b < limit) l
unfolding low
each_low limit [] e = none
each_low limit (b ∷ l) e = more (ltb-true b limit (and_left (ltb b limit) (low limit l) e)) (each_low limit l (and_right (ltb b limit) (low limit l) e))

bytes_blanks : (k : ℕ) → Bytes (blanks k)
bytes_blanks zero = none
bytes_blanks (suc k) = more {a = newline} (omega arith) (bytes_blanks k)

bytes_digits : {l : List ℕ} → Digits l → Bytes l
bytes_digits no_digit = none
bytes_digits (one_digit {d = x} a b d) = more {a = x} (omega arith) (bytes_digits d)

bytes_number : (stop x : ℕ) → stop < 256 → Bytes (number_text stop x)
unfolding number_text
bytes_number stop x h = bytes_append (bytes_digits (decimal_numeral x).digits) (more {a = stop} h none)

bytes_line : (key : List ℕ) (x : ℕ) → Bytes key → Bytes (line_of key x)
unfolding line_of
bytes_line key x h = bytes_append (bytes_append h (bytes_digits (decimal_numeral x).digits)) (more {a = newline} (omega arith) none)

bytes_edge : (e : Edge) → Bytes (stp_edge_text e)
unfolding stp_edge_text low
bytes_edge e =
    bytes_append (each_low 256 edge_word refl)
    (bytes_append (bytes_number space _ (omega arith)) (bytes_append (bytes_number space _ (omega arith)) (bytes_number newline _ (omega arith))))

bytes_terminal : (v : ℕ) → Bytes (terminal_text v)
unfolding terminal_text low
bytes_terminal v = bytes_append (each_low 256 terminal_word refl) (bytes_number newline _ (omega arith))

bytes_followed : {A : Type 0} {P : A → Type 0} {text : A → List ℕ} {a : A} {w : List ℕ} → ((a : A) → Bytes (text a)) → Followed (Text P text) a w → Bytes w
bytes_followed {a = a} h m = subst Bytes (sym m.whole) (bytes_append (subst Bytes (sym m.member.word) (h a)) (bytes_blanks m.empty))

bytes_tracks : {P : Edge → Type 0} {m : ℕ} {es : List Edge} {w : List ℕ} → Repeated (Followed (Text P stp_edge_text)) m es w → Bytes w
bytes_tracks no_line_law = none
bytes_tracks (one_line x r) = bytes_append (bytes_followed bytes_edge x) (bytes_tracks r)

bytes_named : {n m : ℕ} {front back w : List ℕ} → NamedTerminals n m front back w → Bytes w
bytes_named no_name = none
bytes_named (one_name x r) = bytes_append (bytes_followed bytes_terminal x) (bytes_named r)

-- ---- numbers over 255 lowered, some of them

data Lowered : List ℕ → List ℕ → Type 0 where
  ends : Lowered [] []
  same : {b : ℕ} {u v : List ℕ} → Lowered u v → Lowered (b ∷ u) (b ∷ v)
  high : {b : ℕ} {u v : List ℕ} → 255 < b → Lowered u v → Lowered (b ∷ u) (255 ∷ v)

lowered_same : (u : List ℕ) → Lowered u u
lowered_same [] = ends
lowered_same (b ∷ u) = same (lowered_same u)

lowered_append : {u v w x : List ℕ} → Lowered u v → Lowered w x → Lowered (u ++ w) (v ++ x)
lowered_append ends k = k
lowered_append (same l) k = same (lowered_append l k)
lowered_append (high h l) k = high h (lowered_append l k)

-- All of them.
lower : (l : List ℕ) → (v : List ℕ) × (Lowered l v × Bytes v)
lower [] = ([], (ends, none))
lower (b ∷ l) = by_byte_law (ltb 255 b) refl (lower l)
  where
    by_byte_law : (c : Bool) → ltb 255 b ≡ c → (v : List ℕ) × (Lowered l v × Bytes v) → (v : List ℕ) × (Lowered (b ∷ l) v × Bytes v)
    by_byte_law true e r = (255 ∷ r.0, (high (ltb-true 255 b e) r.1.0, more {a = 255} (omega arith) r.1.1))
    by_byte_law false e r = let h = ltb-false 255 b e in (b ∷ r.0, (same r.1.0, more {a = b} (omega arith) r.1.1))

-- What is bytes stays.
stays : {u v : List ℕ} → Bytes u → Lowered u v → v ≡ u
stays none ends = refl
stays (more h k) (same {b = b} l) = ap (λ (x : List ℕ). b ∷ x) (stays k l)
stays (more h k) (high i l) = absurd (omega arith)

-- What is below 255 was there before.
was : {u v : List ℕ} → Each (λ b. b < 255) v → Lowered u v → u ≡ v
was none ends = refl
was (more h k) (same {b = b} l) = ap (λ (x : List ℕ). b ∷ x) (was k l)
was (more h k) (high i l) = absurd (omega arith)

record Split (u w v : List ℕ) : Type 0 where
  left : List ℕ
  right : List ℕ
  whole : v ≡ left ++ right
  first : Lowered u left
  second : Lowered w right

split : (u : List ℕ) {w v : List ℕ} → Lowered (u ++ w) v → Split u w v
split [] {v = v} l = record { left = []; right = v; whole = refl; first = ends; second = l }
split (b ∷ u) (same l) =
    let s = split u l in
    record { left = b ∷ s.left; right = s.right; whole = ap (λ (x : List ℕ). b ∷ x) s.whole; first = same s.first; second = s.second }
split (b ∷ u) (high h l) =
    let s = split u l in
    record { left = 255 ∷ s.left; right = s.right; whole = ap (λ (x : List ℕ). 255 ∷ x) s.whole; first = high h s.first; second = s.second }

-- ---- a text of the subset stays one

not_newline : 255 ≡ newline → ⊥
not_newline z = omega arith

lowered_line : {l v : List ℕ} → OneLine l → Lowered l v → OneLine v
lowered_line end ends = end
lowered_line (byte n o) (same l) = byte n (lowered_line o l)
lowered_line (byte n o) (high h l) = byte not_newline (lowered_line o l)

lowered_comment : {c v : List ℕ} → CommentLines c → Lowered c v → CommentLines v
unfolding low
lowered_comment last l = subst CommentLines (sym (stays (each_low 256 _ refl) l)) last
lowered_comment {v = v} (line {l = l} {w = w} o n r) k = by_rest (split l k) (λ x h. lowered_comment r h)
  where
    behind : {a b : List ℕ} → Lowered l a → Lowered (newline ∷ w) b → ((x : List ℕ) → Lowered w x → CommentLines x) → CommentLines (a ++ b)
    behind f (same {v = x} s) go = line (lowered_line o f) (λ e. n (was (each_low 255 end_word refl) (subst (Lowered l) e f))) (go x s)
    behind f (high h s) go = absurd (omega arith)

    by_rest : Split l (newline ∷ w) v → ((x : List ℕ) → Lowered w x → CommentLines x) → CommentLines v
    by_rest s go = subst CommentLines (sym s.whole) (behind s.first s.second go)

lowered_opening : {o v : List ℕ} → StpOpening o → Lowered o v → StpOpening v
unfolding low
lowered_opening (plain i j) l =
    subst StpOpening (sym (stays (bytes_append (each_low 256 header_line refl) (bytes_append (bytes_blanks i) (bytes_append (each_low 256 graph_line refl) (bytes_blanks j)))) l)) (plain i j)
lowered_opening (commented i j k {c} m) l =
    let a = split header_line l in
    let b = split (blanks i) a.second in
    let d = split comment_line b.second in
    let e = split c d.second in
    let r = stays (bytes_append (bytes_blanks j) (bytes_append (each_low 256 graph_line refl) (bytes_blanks k))) e.second in
    let behind : d.right ≡ e.left ++ (blanks j ++ (graph_line ++ blanks k)) = e.whole ∙ ap (λ (x : List ℕ). e.left ++ x) r in
    let comment : b.right ≡ comment_line ++ (e.left ++ (blanks j ++ (graph_line ++ blanks k))) = d.whole ∙ (λ t. stays (each_low 256 comment_line refl) d.first t ++ behind t) in
    let empty : a.right ≡ blanks i ++ (comment_line ++ (e.left ++ (blanks j ++ (graph_line ++ blanks k)))) = b.whole ∙ (λ t. stays (bytes_blanks i) b.first t ++ comment t) in
    subst StpOpening (sym (a.whole ∙ (λ t. stays (each_low 256 header_line refl) a.first t ++ empty t))) (commented i j k (lowered_comment m e.first))

lowered_text : {x : StpContent} {t v : List ℕ} → StpText x t → Lowered t v → StpText x v
unfolding low
lowered_text {x} {t} {v} s l =
    let b = s.behind in
    let p = split s.opening (subst (λ (u : List ℕ). Lowered u v) s.whole l) in
    let rest =
    bytes_append (bytes_line nodes_word x.vertices (each_low 256 nodes_word refl))
    (bytes_append (bytes_blanks b.nodes)
    (bytes_append (bytes_line edges_word x.edges (each_low 256 edges_word refl))
    (bytes_append (bytes_blanks b.edges)
    (bytes_append (bytes_tracks s.each_track)
    (bytes_append (each_low 256 end_line refl)
    (bytes_append (bytes_blanks b.graph_end)
    (bytes_append (each_low 256 terminals_line refl)
    (bytes_append (bytes_blanks b.section)
    (bytes_append (bytes_line terminals_word s.terminals (each_low 256 terminals_word refl))
    (bytes_append (bytes_blanks b.terminals)
    (bytes_append (bytes_named s.each_terminal)
    (bytes_append (each_low 256 end_line refl)
    (bytes_append (bytes_blanks b.terminals_end) (bytes_append (each_low 256 eof_line refl) (bytes_blanks b.eof))))))))))))))) in
    record {
      opening = p.left;
      opens = lowered_opening s.opens p.first;
      nodes = s.nodes;
      edges = s.edges;
      tracks = s.tracks;
      each_track = s.each_track;
      terminals = s.terminals;
      announced = s.announced;
      named = s.named;
      each_terminal = s.each_terminal;
      behind = b;
      whole = p.whole ∙ ap (λ (u : List ℕ). p.left ++ u) (stays rest p.second);
    }

-- A beginning that goes on to a text of the subset goes on to one by bytes.
pub begins_by_bytes : {t : List ℕ} {p : ℕ} → GoesOn t p → StpBegins t p
begins_by_bytes {t} {p} g =
    let l = lower g.rest in
    record {
      inside = g.inside;
      rest = l.0;
      bytes = l.1.1;
      is = record { says = g.is.says; is = lowered_text g.is.is (lowered_append (lowered_same (take p t)) l.1.0) };
    }
