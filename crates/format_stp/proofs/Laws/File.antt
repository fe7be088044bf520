-- A whole file as a word, up to the line EOF: what is read is a file of the subset whose counts pass their tests, and what is refused for its form begins none.
use Rattle.std.specs.Prelude.{ℕ, ◌≤◌, ◌<◌, Bool, true, false, ◌||◌, cond, ◌⊎◌, ◌≡◌, refl, eqb, replicate}
use native.Mathlib.Omega.{arith}
use mathlib.Core.List.{List, [], ◌∷◌, ◌++◌}
use Rattle.std.proofs.Common.{inl, inr, ap, sym, ◌∙◌, subst, eqb-true}
use Rattle.std.proofs.lemmas.Bool.{eqb-false}
use Rattle.base_finite.specs.Laws.Test.{or_cases}
use Rattle.base_limits.specs.Limits.{max_vertices, count_digits}
use Rattle.base_limits.specs.declared.Verdict.{Verdict}
use Rattle.base_limits.specs.declared.Verdict.TheVariants.{Fine, Refused}
use Rattle.format_write.specs.Key.{newline}
use Rattle.format_read.specs.Bytes.{fixed_at}
use Rattle.format_read.specs.Language.{Reads, Seq, Fixed, Text}
use Rattle.format_read.proofs.Laws.Bytes.{reads_fixed, no_bool}
use Rattle.format_read.proofs.Laws.Language.{reads_then, reads_as, reads_value}
use Rattle.format_read.specs.Step.{Step, ◌then◌}
use Rattle.format_read.proofs.Laws.Keyed.{Passes, reads_line}
use Rattle.format_read.specs.Number.{OfDigits}
use Rattle.format_write.specs.Text.{line_of}
use Rattle.format_stp.proofs.Laws.ByByte.{reads_by_byte}
use Rattle.format_stp.proofs.Laws.Comment.{reads_comment}
use Rattle.format_stp.proofs.Laws.EmptyLines.{StartsOther, reads_after_empty}
use Rattle.format_stp.proofs.Laws.Joined.{reads_repeated, Guarded, reads_guarded, reads_then_where}
use Rattle.format_stp.proofs.Laws.RuleLines.{free_elim, free_plain, reads_stp_edge, reads_terminal_count, count_tells, free_count, all_free, reads_terminals}
use Rattle.format_stp.specs.StpKey.{header_line, comment_letter, graph_letter, comment_rest, graph_rest, edges_word, end_line, terminals_line, terminals_word, eof_line}
use Rattle.format_stp.specs.StpNumber.{is_free}
use Rattle.format_stp.specs.StpReading.{StpContent, stp_line, comment_section, graph_section, stp_edge, stp_edges, terminal_section, stp_body, stp_head, count_then, StpTests, stp_content}
use Rattle.format_stp.specs.StpWord.{after_empty, AfterEmpty, ByByte}
use Rattle.format_stp.specs.StpWord.{none}
use Rattle.format_stp.specs.Subset.{StpLine, CommentSection, GraphSection, commented, plain, TerminalsIn, TerminalSection, StpBody, StpHead, CountThen, StpFile}
use Rattle.format_stp.specs.Subset.{none as no_terminals}

-- ---- fixed lines

module _ (b : ℕ) (word : List ℕ) (e : eqb b newline ≡ false) where
  fixed_starts : (a : ℕ) (w : List ℕ) → Fixed (b ∷ word) a w → StartsOther w
  fixed_starts a w m = subst StartsOther (sym m.word) (record { some = omega arith; other = eqb-false b newline e })

  reads_stp_line : Reads (stp_line (b ∷ word)) (StpLine (b ∷ word)) (StpLine (b ∷ word))
  unfolding stp_line
  reads_stp_line = reads_after_empty (reads_fixed (b ∷ word)) fixed_starts

-- ---- the comment section, or none

reads_comment_section : Reads comment_section CommentSection CommentSection
unfolding comment_section
reads_comment_section = reads_then (reads_fixed comment_rest) λ z. reads_then reads_comment λ y. reads_stp_line _ _ refl

abbrev letter : ℕ → Bool
letter b = eqb b comment_letter || eqb b graph_letter

abbrev section : ℕ → List ℕ → ℕ → Step ℕ
section b = cond (eqb b comment_letter) comment_section (fixed_at graph_rest)

-- The words behind either letter.
data Behind (b a : ℕ) (w : List ℕ) : Type 0 where
  comment : eqb b comment_letter ≡ true → CommentSection a w → Behind b a w
  graph : eqb b comment_letter ≡ false → Fixed graph_rest a w → Behind b a w

behind_reads : (b : ℕ) → letter b ≡ true → Reads (section b) (Behind b) (Behind b)
behind_reads b p = by_letter (eqb b comment_letter) refl
  where
    same : (c : Bool) → eqb b comment_letter ≡ c → (t : List ℕ) (at : ℕ) → cond c comment_section (fixed_at graph_rest) t at ≡ section b t at
    same c e t at = ap (λ (c : Bool). cond c comment_section (fixed_at graph_rest) t at) (sym e)

    comment_back : eqb b comment_letter ≡ true → (a : ℕ) (w : List ℕ) → Behind b a w → CommentSection a w
    comment_back e a w (comment h m) = m
    comment_back e a w (graph h m) = no_bool (sym e ∙ h)

    graph_back : eqb b comment_letter ≡ false → (a : ℕ) (w : List ℕ) → Behind b a w → Fixed graph_rest a w
    graph_back e a w (comment h m) = no_bool (sym h ∙ e)
    graph_back e a w (graph h m) = m

    by_letter : (c : Bool) → eqb b comment_letter ≡ c → Reads (section b) (Behind b) (Behind b)
    by_letter true e = reads_as (same true e) (λ a w m. comment e m) (comment_back e) (λ a w m. comment e m) (comment_back e) reads_comment_section
    by_letter false e = reads_as (same false e) (λ a w m. graph e m) (graph_back e) (λ a w m. graph e m) (graph_back e) (reads_fixed graph_rest)

section_to : (a : ℕ) (w : List ℕ) → ByByte letter Behind a w → GraphSection a w
section_to a w m = subst (GraphSection a) (sym m.whole) (by_letter m.member (or_cases (eqb m.byte comment_letter) (eqb m.byte graph_letter) m.passes))
  where
    by_letter : Behind m.byte a m.rest → (eqb m.byte comment_letter ≡ true) ⊎ (eqb m.byte graph_letter ≡ true) → GraphSection a (m.byte ∷ m.rest)
    by_letter (comment e x) p = subst (λ (b : ℕ). GraphSection a (b ∷ m.rest)) (sym (eqb-true m.byte comment_letter e)) (commented x)
    by_letter (graph e x) (inl p) = no_bool (sym p ∙ e)
    by_letter (graph e x) (inr p) = subst (λ (b : ℕ). GraphSection a (b ∷ m.rest)) (sym (eqb-true m.byte graph_letter p)) (plain x)

section_from : (a : ℕ) (w : List ℕ) → GraphSection a w → ByByte letter Behind a w
section_from a _ (commented {w = w} x) = record { byte = comment_letter; rest = w; passes = refl; member = comment refl x; whole = refl }
section_from a _ (plain {w = w} x) = record { byte = graph_letter; rest = w; passes = refl; member = graph refl x; whole = refl }

reads_graph_section : Reads graph_section GraphSection GraphSection
unfolding graph_section
reads_graph_section = reads_as (λ t at. refl) section_to section_from section_to section_from (reads_by_byte letter section behind_reads comment_letter refl)

pub reads_head : Reads stp_head StpHead StpHead
unfolding stp_head
reads_head = reads_then (reads_fixed header_line) λ z. reads_then (reads_stp_line _ _ refl) λ y. reads_graph_section

-- ---- the terminals, the tracks

module _ (n : ℕ) (most : n ≤ max_vertices) where
  counts_hold : (k : ℕ) (w : List ℕ) → AfterEmpty (Text (TerminalsIn n) (line_of terminals_word)) k w → is_free [] 0 n k ≡ true
  counts_hold k w m = free_plain 0 n k (omega arith) m.member.holds.most

  reads_terminal_section : Reads (terminal_section n) (TerminalSection n) (TerminalSection n)
  unfolding terminal_section
  reads_terminal_section =
      reads_then (reads_stp_line _ _ refl) λ z. reads_then (reads_stp_line _ _ refl) λ y.
      reads_then_where (is_free [] 0 n) (reads_terminal_count n) counts_hold (count_tells n) λ k e.
      reads_then (reads_terminals n most k (replicate n 0) (enough k (free_elim [] 0 n k e).upto)) λ gs.
      reads_then (reads_stp_line _ _ refl) λ x. reads_then (reads_stp_line _ _ refl) λ w. reads_value gs
    where
      enough : (k : ℕ) → k ≤ n → k ≤ free_count n (replicate n 0)
      enough k h = let a = all_free n in omega arith

  module _ (some : 0 < n) where
    pub reads_body : (m : ℕ) → Reads (stp_body n m) (StpBody n m) (StpBody n m)
    unfolding stp_body stp_edges
    reads_body m =
        reads_then (reads_repeated (after_empty (stp_edge n)) _ _ (reads_stp_edge n some) m 0) λ es. reads_then reads_terminal_section λ gs.
        reads_value (record { vertices = n; edges = m; groups = gs; lines = es })

-- ---- the counts

pub count_starts : (b : ℕ) (word : List ℕ) → eqb b newline ≡ false → (P : ℕ → Type 0) (x : ℕ) (w : List ℕ) → Text P (line_of (b ∷ word)) x w → StartsOther w
unfolding line_of
count_starts b word e P x w m = subst StartsOther (sym m.word) (record { some = omega arith; other = eqb-false b newline e })

module _ {A : Type 0} (b : ℕ) (word : List ℕ) (no_line_law : eqb b newline ≡ false) (test : ℕ → Verdict) (never : (x n p : ℕ) → test x ≡ Refused n p → n ≡ 16 → ⊥) (X : ℕ → A → List ℕ → Type 0) where
  tested_to : (a : A) (w : List ℕ) → Seq (AfterEmpty (Text (OfDigits count_digits) (line_of (b ∷ word)))) (λ x. Guarded (test x) (X x)) a w → CountThen (b ∷ word) (Passes count_digits test) X a w
  tested_to a w m =
      let f = m.first in
      record {
        value = m.value;
        left = m.left;
        right = m.right;
        first = record {
          empty = f.empty;
          word = f.word;
          member = record { holds = record { small = f.member.holds; passes = m.second.passes }; word = f.member.word };
          whole = f.whole;
        };
        second = m.second.member;
        whole = m.whole;
      }

  tested_from : (a : A) (w : List ℕ) → CountThen (b ∷ word) (Passes count_digits test) X a w → Seq (AfterEmpty (Text (OfDigits count_digits) (line_of (b ∷ word)))) (λ x. Guarded (test x) (X x)) a w
  tested_from a w m =
      let f = m.first in
      record {
        value = m.value;
        left = m.left;
        right = m.right;
        first = record { empty = f.empty; word = f.word; member = record { holds = f.member.holds.small; word = f.member.word }; whole = f.whole };
        second = record { passes = f.member.holds.passes; member = m.second };
        whole = m.whole;
      }

  reads_count : (H : ℕ → A → List ℕ → Type 0) (next : ℕ → List ℕ → ℕ → Step A) → ((x : ℕ) → test x ≡ Fine → Reads (next x) (X x) (H x)) → ((x : ℕ) → (a : A) × (w : List ℕ) × H x a w)
      → Reads (count_then (b ∷ word) test next) (CountThen (b ∷ word) (Passes count_digits test) X) (CountThen (b ∷ word) (OfDigits count_digits) H)
  unfolding count_then
  reads_count H next r some =
      reads_as (λ t at. refl) tested_to tested_from (λ a w m. m) (λ a w m. m)
      (reads_then (reads_after_empty (reads_line (b ∷ word) count_digits (omega arith)) (count_starts b word no_line_law (OfDigits count_digits))) λ x.
      reads_guarded (test x) (never x) (r x) (some x))

-- ---- the file

seq_some : {A B : Type 0} (W : A → List ℕ → Type 0) (X : A → B → List ℕ → Type 0) (a : A) (w : List ℕ) → W a w → (b : B) × (v : List ℕ) × X a b v → (b : B) × (v : List ℕ) × Seq W X b v
seq_some W X a w m s = (s.0, w ++ s.1, record { value = a; left = w; right = s.1; first = m; second = s.2; whole = refl })

at_once : {A : Type 0} {W : A → List ℕ → Type 0} {a : A} {w : List ℕ} → W a w → AfterEmpty W a w
at_once {w = w} m = record { empty = 0; word = w; member = m; whole = refl }

fixed_once : (bytes : List ℕ) → StpLine bytes 0 bytes
fixed_once bytes = at_once (record { value = refl; word = refl })

-- Behind any number of nodes a file can go on: with no tracks and no terminals.
some_section : (n : ℕ) → (gs : List ℕ) × (w : List ℕ) × TerminalSection n gs w
some_section n =
    seq_some _ _ 0 _ (fixed_once end_line)
    (seq_some _ _ 0 _ (fixed_once terminals_line)
    (seq_some _ _ 0 _ (at_once (record { holds = record { most = omega arith; digits = omega arith }; word = refl }))
    (seq_some _ _ (replicate n 0) _ no_terminals
    (seq_some _ _ 0 _ (fixed_once end_line) (seq_some _ _ 0 _ (fixed_once eof_line) (replicate n 0, [], record { value = refl; word = refl }))))))

some_file : (n : ℕ) → (x : StpContent) × (w : List ℕ) × CountThen edges_word (OfDigits count_digits) (λ m. StpBody n m) x w
some_file n =
    let s = some_section n in
    seq_some _ _ 0 _ (at_once (record { holds = omega arith; word = refl }))
    (seq_some _ _ [] _ none (seq_some _ _ s.0 _ s.2 (record { vertices = n; edges = 0; groups = s.0; lines = [] }, [], record { value = refl; word = refl })))

-- Tests that give no 16, and let no count of nodes pass that is 0 or over the limit.
pub record SoundTests (tests : StpTests) : Type 0 where
  pub vertices : (x n p : ℕ) → tests.vertices x ≡ Refused n p → n ≡ 16 → ⊥
  pub edges : (x n p : ℕ) → tests.edges x ≡ Refused n p → n ≡ 16 → ⊥
  pub some : (x : ℕ) → tests.vertices x ≡ Fine → 0 < x
  pub most : (x : ℕ) → tests.vertices x ≡ Fine → x ≤ max_vertices

pub reads_file : (tests : StpTests) → SoundTests tests
    → Reads (stp_content tests) (StpFile (Passes count_digits tests.vertices) (Passes count_digits tests.edges)) (StpFile (OfDigits count_digits) (OfDigits count_digits))
unfolding stp_content
reads_file tests h =
    reads_then reads_head λ z.
    reads_count _ _ refl tests.vertices h.vertices _ _ _
    (λ n e. reads_count _ _ refl tests.edges h.edges _ _ _ (λ m f. reads_body n (h.most n e) (h.some n e) m) (λ m. (reads_body n (h.most n e) (h.some n e) m).some)) some_file
