-- The left-factored form that is read (specs/Subset) is the same language as the grammar (specs/Grammar): empty lines behind a line are empty lines
-- before the next.
use Rattle.std.specs.Prelude.{ℕ, List, [], ◌∷◌, ◌++◌, ◌↔◌, ◌≡◌, refl, replicate}
use Rattle.std.proofs.Common.{append_assoc, append-nil, ap, sym, ◌∙◌, subst}
use Rattle.format_write.specs.Text.{line_of}
use Rattle.format_read.specs.Language.{Seq, Text, Fixed}
use Rattle.format_stp.specs.Grammar.{blanks, Followed, StpOpening, NamedTerminals, StpText}
use Rattle.format_stp.specs.Grammar.{plain as natural, commented as remarked, none as no_name, one as one_name}
use Rattle.format_stp.specs.StpKey.{header_line, graph_line, section_word, comment_rest, graph_rest, comment_letter, graph_letter, nodes_word, edges_word, terminals_word, end_line, terminals_line, eof_line}
use Rattle.format_stp.specs.StpReading.{StpContent}
use Rattle.format_stp.specs.StpWord.{AfterEmpty, Repeated, none, one}
use Rattle.format_stp.specs.Subset.{StpHead, GraphSection, commented, plain, TerminalLines, StpFactored}
use Rattle.format_stp.specs.Subset.{none as no_line_law, one as one_line}

pub seq : {A B : Type 0} {W : A → List ℕ → Type 0} {X : A → B → List ℕ → Type 0} {b : B} (a : A) (u v : List ℕ) → W a u → X a b v → Seq W X b (u ++ v)
seq a u v x y = record { value = a; left = u; right = v; first = x; second = y; whole = refl }

pub after : {A : Type 0} {W : A → List ℕ → Type 0} {a : A} (k : ℕ) (w : List ℕ) → W a w → AfterEmpty W a (blanks k ++ w)
after k w m = record { empty = k; word = w; member = m; whole = refl }

fixed : (bytes : List ℕ) → Fixed bytes 0 bytes
fixed bytes = record { value = refl; word = refl }

-- ---- the opening

pub opening_of : {z : ℕ} {h : List ℕ} (k : ℕ) → StpHead z h → StpOpening (h ++ blanks k)
opening_of {h = h} k m =
    by_section m.second.second m.second.first.empty
    (ap (λ (l : List ℕ). l ++ blanks k) (m.whole ∙ ap (λ (l : List ℕ). l ++ m.right) m.first.word
    ∙ ap (λ (l : List ℕ). header_line ++ l) (m.second.whole ∙ ap (λ (l : List ℕ). l ++ m.second.right) (m.second.first.whole ∙ ap (λ (l : List ℕ). blanks m.second.first.empty ++ l) m.second.first.member.word))))
  where
    by_section : {a : ℕ} {g : List ℕ} → GraphSection a g → (i : ℕ) → h ++ blanks k ≡ header_line ++ ((blanks i ++ section_word) ++ g) ++ blanks k → StpOpening (h ++ blanks k)
    by_section (plain {w = w} x) i e =
        subst StpOpening
        (sym (e ∙ ap (λ (l : List ℕ). header_line ++ ((blanks i ++ section_word) ++ graph_letter ∷ l) ++ blanks k) x.word ∙ simp append_assoc))
        (natural i k)
    by_section (commented {w = w} x) i e =
        let c = x.second in
        let g = c.second in
        subst StpOpening
        (sym
        (e
        ∙ ap (λ (l : List ℕ). header_line ++ ((blanks i ++ section_word) ++ comment_letter ∷ l) ++ blanks k)
        (x.whole ∙ ap (λ (l : List ℕ). l ++ x.right) x.first.word ∙ ap (λ (l : List ℕ). comment_rest ++ l) (c.whole ∙ ap (λ (l : List ℕ). c.left ++ l) (g.whole ∙ ap (λ (l : List ℕ). blanks g.empty ++ l) g.member.word)))
        ∙ simp append_assoc))
        (remarked i g.empty k c.first.lines)

pub record HeadOf (o : List ℕ) : Type 0 where
  pub head : List ℕ
  pub empty : ℕ
  pub is : StpHead 0 head
  pub whole : o ≡ head ++ blanks empty

pub head_of : {o : List ℕ} → StpOpening o → HeadOf o
head_of (natural i j) =
    record {
      head = header_line ++ ((blanks i ++ section_word) ++ (graph_letter ∷ graph_rest));
      empty = j;
      is = seq 0 header_line _ (fixed header_line) (seq 0 (blanks i ++ section_word) _ (after i section_word (fixed section_word)) (plain (fixed graph_rest)));
      whole = simp append_assoc;
    }
head_of (remarked i j k {c} m) =
    record {
      head = header_line ++ ((blanks i ++ section_word) ++ (comment_letter ∷ (comment_rest ++ (c ++ (blanks j ++ graph_line)))));
      empty = k;
      is =
          seq 0 header_line _ (fixed header_line)
          (seq 0 (blanks i ++ section_word) _ (after i section_word (fixed section_word))
          (commented (seq 0 comment_rest _ (fixed comment_rest) (seq 0 c _ (record { value = refl; lines = m }) (after j graph_line (fixed graph_line))))));
      whole = simp append_assoc;
    }

-- ---- empty lines behind each of some lines, and before each

record Before {A : Type 0} (W : A → List ℕ → Type 0) (m : ℕ) (l : List A) (u : List ℕ) : Type 0 where
  word : List ℕ
  empty : ℕ
  is : Repeated (AfterEmpty W) m l word
  whole : u ≡ word ++ blanks empty

before_of : {A : Type 0} {W : A → List ℕ → Type 0} {m : ℕ} {l : List A} {w : List ℕ} (k : ℕ) → Repeated (Followed W) m l w → Before W m l (blanks k ++ w)
before_of k none = record { word = []; empty = k; is = none; whole = append-nil (blanks k) }
before_of k (one {w = w} x r) =
    let n = before_of x.empty r in
    record {
      word = (blanks k ++ x.line) ++ n.word;
      empty = n.empty;
      is = one (after k x.line x.member) n.is;
      whole =
          ap (λ (l : List ℕ). blanks k ++ (l ++ w)) x.whole
          ∙ ap (λ (l : List ℕ). blanks k ++ l) (append_assoc x.line (blanks x.empty) w)
          ∙ ap (λ (l : List ℕ). blanks k ++ (x.line ++ l)) n.whole
          ∙ simp append_assoc;
    }

record Behind {A : Type 0} (W : A → List ℕ → Type 0) (m : ℕ) (l : List A) (u : List ℕ) : Type 0 where
  word : List ℕ
  empty : ℕ
  is : Repeated (Followed W) m l word
  whole : u ≡ blanks empty ++ word

behind_of : {A : Type 0} {W : A → List ℕ → Type 0} {m : ℕ} {l : List A} {w : List ℕ} (j : ℕ) → Repeated (AfterEmpty W) m l w → Behind W m l (w ++ blanks j)
behind_of j none = record { word = []; empty = j; is = none; whole = sym (append-nil (blanks j)) }
behind_of j (one {w = w} x r) =
    let n = behind_of j r in
    record {
      word = (x.word ++ blanks n.empty) ++ n.word;
      empty = x.empty;
      is = one (record { line = x.word; empty = n.empty; member = x.member; whole = refl }) n.is;
      whole =
          ap (λ (l : List ℕ). (l ++ w) ++ blanks j) x.whole
          ∙ append_assoc (blanks x.empty ++ x.word) w (blanks j)
          ∙ ap (λ (l : List ℕ). (blanks x.empty ++ x.word) ++ l) n.whole
          ∙ simp append_assoc;
    }

-- The same for terminals.
record NamedBefore (n m : ℕ) (front back u : List ℕ) : Type 0 where
  word : List ℕ
  empty : ℕ
  is : TerminalLines n m front back word
  whole : u ≡ word ++ blanks empty

named_before : {n m : ℕ} {front back w : List ℕ} (k : ℕ) → NamedTerminals n m front back w → NamedBefore n m front back (blanks k ++ w)
named_before k no_name = record { word = []; empty = k; is = no_line_law; whole = append-nil (blanks k) }
named_before k (one_name {w = w} x r) =
    let n = named_before x.empty r in
    record {
      word = (blanks k ++ x.line) ++ n.word;
      empty = n.empty;
      is = one_line (after k x.line x.member) n.is;
      whole =
          ap (λ (l : List ℕ). blanks k ++ (l ++ w)) x.whole
          ∙ ap (λ (l : List ℕ). blanks k ++ l) (append_assoc x.line (blanks x.empty) w)
          ∙ ap (λ (l : List ℕ). blanks k ++ (x.line ++ l)) n.whole
          ∙ simp append_assoc;
    }

record NamedBehind (n m : ℕ) (front back u : List ℕ) : Type 0 where
  word : List ℕ
  empty : ℕ
  is : NamedTerminals n m front back word
  whole : u ≡ blanks empty ++ word

named_behind : {n m : ℕ} {front back w : List ℕ} (j : ℕ) → TerminalLines n m front back w → NamedBehind n m front back (w ++ blanks j)
named_behind j no_line_law = record { word = []; empty = j; is = no_name; whole = sym (append-nil (blanks j)) }
named_behind j (one_line {w = w} x r) =
    let n = named_behind j r in
    record {
      word = (x.word ++ blanks n.empty) ++ n.word;
      empty = x.empty;
      is = one_name (record { line = x.word; empty = n.empty; member = x.member; whole = refl }) n.is;
      whole =
          ap (λ (l : List ℕ). (l ++ w) ++ blanks j) x.whole
          ∙ append_assoc (blanks x.empty ++ x.word) w (blanks j)
          ∙ ap (λ (l : List ℕ). (blanks x.empty ++ x.word) ++ l) n.whole
          ∙ simp append_assoc;
    }

-- ---- the text, by its pieces

-- The terminals' section behind the graph's empty lines, and a file, as they are nested in the form that is read.
abbrev section_of : (e E g L s T n d b F : List ℕ) → List ℕ
section_of e E g L s T n d b F = (e ++ E) ++ ((g ++ L) ++ ((s ++ T) ++ (n ++ ((d ++ E) ++ ((b ++ F) ++ [])))))

abbrev file_of : (h k N c M a e E g L s T n d b F : List ℕ) → List ℕ
file_of h k N c M a e E g L s T n d b F = h ++ ((k ++ N) ++ ((c ++ M) ++ (a ++ (section_of e E g L s T n d b F ++ []))))

abbrev flat_of : (o N c M a E g L s T n b F z : List ℕ) → List ℕ
flat_of o N c M a E g L s T n b F z = o ++ (N ++ (c ++ (M ++ (a ++ (E ++ (g ++ (L ++ (s ++ (T ++ (n ++ (E ++ (b ++ (F ++ z)))))))))))))

file_flat : (h k N c M a e E g L s T n d b F z : List ℕ) → file_of h k N c M a e E g L s T n d b F ++ z ≡ flat_of (h ++ k) N c M (a ++ e) E g L s T (n ++ d) b F z
file_flat h k N c M a e E g L s T n d b F z = simp (append_assoc, append-nil)

flat_text : (o N c M e a E g L s T d n b F z : List ℕ)
    → flat_of o N c M (e ++ a) E g L s T (d ++ n) b F z ≡ o ++ (N ++ (c ++ (M ++ (e ++ (a ++ (E ++ (g ++ (L ++ (s ++ (T ++ (d ++ (n ++ (E ++ (b ++ (F ++ z)))))))))))))))
flat_text o N c M e a E g L s T d n b F z = simp append_assoc

-- A text of the grammar has the form that is read.
pub text_factored : {x : StpContent} {t : List ℕ} → StpText x t → StpFactored x t
text_factored {x} s =
    let h = head_of s.opens in
    let b = s.behind in
    let a = before_of b.edges s.each_track in
    let d = named_before b.terminals s.each_terminal in
    let N = line_of nodes_word x.vertices in
    let M = line_of edges_word x.edges in
    let T = line_of terminals_word s.terminals in
    record {
      file =
          file_of h.head (blanks h.empty) N (blanks b.nodes) M a.word (blanks a.empty) end_line (blanks b.graph_end) terminals_line (blanks b.section) T d.word (blanks d.empty)
          (blanks b.terminals_end) eof_line;
      empty = b.eof;
      member =
          seq 0 h.head _ h.is
          (seq x.vertices (blanks h.empty ++ N) _ (after h.empty N (record { holds = s.nodes; word = refl }))
          (seq x.edges (blanks b.nodes ++ M) _ (after b.nodes M (record { holds = s.edges; word = refl }))
          (seq x.lines a.word _ a.is
          (seq x.groups _ []
          (seq 0 (blanks a.empty ++ end_line) _ (after a.empty end_line (fixed end_line))
          (seq 0 (blanks b.graph_end ++ terminals_line) _ (after b.graph_end terminals_line (fixed terminals_line))
          (seq s.terminals (blanks b.section ++ T) _ (after b.section T (record { holds = s.announced; word = refl }))
          (seq x.groups d.word _ d.is
          (seq 0 (blanks d.empty ++ end_line) _ (after d.empty end_line (fixed end_line))
          (seq 0 (blanks b.terminals_end ++ eof_line) [] (after b.terminals_end eof_line (fixed eof_line)) (record { value = refl; word = refl })))))))
          (record { value = refl; word = refl })))));
      whole =
          s.whole
          ∙ sym (flat_text s.opening N (blanks b.nodes) M (blanks b.edges) s.tracks end_line (blanks b.graph_end) terminals_line (blanks b.section) T (blanks b.terminals) s.named (blanks b.terminals_end) eof_line (blanks b.eof))
          ∙ (λ i. flat_of (h.whole i) N (blanks b.nodes) M (a.whole i) end_line (blanks b.graph_end) terminals_line (blanks b.section) T (d.whole i) (blanks b.terminals_end) eof_line (blanks b.eof))
          ∙ sym (file_flat h.head (blanks h.empty) N (blanks b.nodes) M a.word (blanks a.empty) end_line (blanks b.graph_end) terminals_line (blanks b.section) T d.word (blanks d.empty) (blanks b.terminals_end) eof_line (blanks b.eof));
    }

seq_is : {A B : Type 0} {W : A → List ℕ → Type 0} {X : A → B → List ℕ → Type 0} {b : B} {w u v : List ℕ} (m : Seq W X b w) → m.left ≡ u → m.right ≡ v → w ≡ u ++ v
seq_is m e f = m.whole ∙ (λ i. e i ++ f i)

line_is : {bytes : List ℕ} {a : ℕ} {w : List ℕ} (m : AfterEmpty (Fixed bytes) a w) → w ≡ blanks m.empty ++ bytes
line_is m = m.whole ∙ ap (λ (l : List ℕ). blanks m.empty ++ l) m.member.word

text_is : {A : Type 0} {P : A → Type 0} {text : A → List ℕ} {a : A} {w : List ℕ} (m : AfterEmpty (Text P text) a w) → w ≡ blanks m.empty ++ text a
text_is m = m.whole ∙ ap (λ (l : List ℕ). blanks m.empty ++ l) m.member.word

-- What has the form that is read is a text of the grammar.
pub factored_text : {x : StpContent} {t : List ℕ} → StpFactored x t → StpText x t
factored_text {x} {t} m =
    let k = m.member in
    let n = k.second in
    let c = n.second in
    let body = c.second in
    let sec = body.second in
    let r = sec.first in
    let r2 = r.second in
    let r3 = r2.second in
    let r4 = r3.second in
    let r5 = r4.second in
    let r6 = r5.second in
    let a = behind_of r.first.empty body.first in
    let d = named_behind r5.first.empty r4.first in
    let N = line_of nodes_word n.value in
    let M = line_of edges_word c.value in
    let T = line_of terminals_word r3.value in
    let section = seq_is r (line_is r.first) (seq_is r2 (line_is r2.first) (seq_is r3 (text_is r3.first) (seq_is r4 refl (seq_is r5 (line_is r5.first) (seq_is r6 (line_is r6.first) r6.second.word))))) in
    let file = seq_is k refl (seq_is n (text_is n.first) (seq_is c (text_is c.first) (seq_is body refl (seq_is sec section sec.second.word)))) in
    let gs : r4.value ≡ sec.value = sym r6.second.value in
    let is : record { vertices = n.value; edges = c.value; groups = sec.value; lines = body.value } ≡ x = sym sec.second.value in
    subst (λ (y : StpContent). StpText y t) is
    (record {
      opening = k.left ++ blanks n.first.empty;
      opens = opening_of n.first.empty k.first;
      nodes = n.first.member.holds;
      edges = c.first.member.holds;
      tracks = a.word;
      each_track = a.is;
      terminals = r3.value;
      announced = r3.first.member.holds;
      named = d.word;
      each_terminal = subst (λ (g : List ℕ). NamedTerminals n.value r3.value (replicate n.value 0) g d.word) gs d.is;
      behind = record {
        nodes = c.first.empty;
        edges = a.empty;
        graph_end = r2.first.empty;
        section = r3.first.empty;
        terminals = d.empty;
        terminals_end = r6.first.empty;
        eof = m.empty;
      };
      whole =
          m.whole
          ∙ ap (λ (l : List ℕ). l ++ blanks m.empty) file
          ∙ file_flat k.left (blanks n.first.empty) N (blanks c.first.empty) M body.left (blanks r.first.empty) end_line (blanks r2.first.empty) terminals_line (blanks r3.first.empty) T r4.left (blanks r5.first.empty) (blanks r6.first.empty) eof_line (blanks m.empty)
          ∙ (λ i. flat_of (k.left ++ blanks n.first.empty) N (blanks c.first.empty) M (a.whole i) end_line (blanks r2.first.empty) terminals_line (blanks r3.first.empty) T (d.whole i) (blanks r6.first.empty) eof_line (blanks m.empty))
          ∙ flat_text (k.left ++ blanks n.first.empty) N (blanks c.first.empty) M (blanks a.empty) a.word end_line (blanks r2.first.empty) terminals_line (blanks r3.first.empty) T (blanks d.empty) d.word (blanks r6.first.empty) eof_line (blanks m.empty);
    })

-- The two are one language.
pub grammar_same : {x : StpContent} {t : List ℕ} → StpText x t ↔ StpFactored x t
grammar_same = (text_factored, factored_text)
