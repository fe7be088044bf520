-- Reading an STP file gives no refusals but 1, 3, 7 and 20.
use Prim.Native.Nat.{ℕ, zero, suc, ◌+◌, ◌-◌}
use Rattle.std.proofs.Common.{arith, sym, ◌∙◌}
use Rattle.std.specs.Prelude.{Bool, ◌&&◌, ◌||◌, List, [], ◌∷◌, ◌≡◌, refl, eqb, ltb, length, get_or, set, drop, replicate}
use Rattle.std.proofs.Math.Bool.{true, false, cond}
use Rattle.base_limits.specs.Limits.{count_digits, endpoint_digits, weight_digits, max_vertices, max_edges}
use Rattle.base_limits.specs.Verdict.{refuse_if, ◌before◌}
use Rattle.base_limits.specs.declared.Verdict.{Verdict}
use Rattle.base_limits.specs.declared.Verdict.TheVariants.{Fine, Refused}
use Rattle.format_write.specs.Key.{newline}
use Rattle.format_read.specs.Bytes.{fixed_at, end_at}
use Rattle.format_read.specs.Lines.{following, lines_from, whole}
use Rattle.format_read.proofs.Laws.Step.{Stops, early, late, then_stops}
use Rattle.format_read.specs.Step.{Step, found, refused, ◌then◌}
use Rattle.format_read.specs.Number.{class_of, is_digit, number_line}
use Rattle.format_read.proofs.Laws.OnlyMalformed.{OnlyMalformed, only_found, only_refused, only_then, only_fixed, only_number_to, only_line, only_end}
use Rattle.format_survey.specs.Line.{Edge, vertices_test, edges_test}
use Rattle.format_stp.specs.StpKey.{header_line, section_word, graph_line, comment_rest, graph_rest, comment_letter, nodes_word, edges_word, edge_word, end_line, terminals_line, terminals_word, terminal_word, eof_line, space}
use Rattle.format_stp.specs.StpNumber.{is_free, with_digit, digits_after, more_after, free_to}
use Rattle.format_stp.specs.StpReading.{stp_line, comment_section, graph_section, stp_end, stp_edge, stp_edges, terminal_count, terminal_line, terminal_lines, terminal_section, stp_body, stp_head, count_then, stp_content, stp_whole, stp_tests}
use Rattle.format_stp.specs.StpWord.{after_empty, by_byte, guarded, shown, comment_from, comment_at}

-- The numbers of refusals, before 16 is called 20; the others stand at 0.
pub data StpRefusal (n p : ℕ) : Type 0 where
  malformed : n ≡ 16 → StpRefusal n p
  vertices : n ≡ 1 → p ≡ 0 → StpRefusal n p
  edges : n ≡ 3 → p ≡ 0 → StpRefusal n p
  short : n ≡ 7 → p ≡ 0 → StpRefusal n p

-- ---- what has a form refuses with 16 alone

only_cond : {A : Type 0} (c : Bool) {s r : Step A} → OnlyMalformed s → OnlyMalformed r → OnlyMalformed (cond c s r)
only_cond true h k = h
only_cond false h k = k

only_by_byte : {A : Type 0} (pass : ℕ → Bool) (next : ℕ → List ℕ → ℕ → Step A) (t : List ℕ) (at : ℕ) → ((b at : ℕ) → OnlyMalformed (next b t at)) → OnlyMalformed (by_byte pass next t at)
unfolding by_byte
only_by_byte pass next t at h = only_cond (ltb at (length t) && pass (get_or t at 0)) (h (get_or t at 0) (at + 1)) (only_refused at)

module _ (free : ℕ → Bool) (high stop : ℕ) (t : List ℕ) where
  only_digits : (more x at : ℕ) → OnlyMalformed (digits_after free high stop more x t at)
  unfolding digits_after
  only_digits zero x at = only_by_byte _ (λ b t at. found x at) t at (λ b q. only_found x q)
  only_digits (suc more) x at =
      only_by_byte _ (λ b. cond (is_digit (class_of b)) (digits_after free high stop more (with_digit x b)) (λ t at. found x at)) t at
      (λ b q. by_digit b q (is_digit (class_of b)) (only_digits more (with_digit x b) q))
    where
      by_digit : (b q : ℕ) (c : Bool) → OnlyMalformed (digits_after free high stop more (with_digit x b) t q) → OnlyMalformed (cond c (digits_after free high stop more (with_digit x b)) (λ t at. found x at) t q)
      by_digit b q true h = h
      by_digit b q false h = only_found x q

  only_free : (limit at : ℕ) → OnlyMalformed (free_to free high stop limit t at)
  unfolding free_to
  only_free limit at = only_by_byte _ (λ b. digits_after free high stop (more_after limit b) (with_digit 0 b)) t at (λ b q. only_digits (more_after limit b) (with_digit 0 b) q)

only_stp_line : (bytes t : List ℕ) (at : ℕ) → OnlyMalformed (stp_line bytes t at)
unfolding stp_line after_empty
only_stp_line bytes t at = only_fixed bytes t _

only_comment : (seen : ℕ) (l : List ℕ) (at : ℕ) → OnlyMalformed (comment_from seen l at)
unfolding comment_from
only_comment seen [] at = only_refused at
only_comment seen (b ∷ l) at = only_cond (eqb b newline) (only_cond (eqb seen 3) (only_found 0 (at + 1)) (only_comment 0 l (at + 1))) (only_comment (shown seen b) l (at + 1))

only_graph_section : (t : List ℕ) (at : ℕ) → OnlyMalformed (graph_section t at)
unfolding graph_section comment_section comment_at
only_graph_section t at = only_by_byte _ (λ b. cond (eqb b comment_letter) comment_section (fixed_at graph_rest)) t at (λ b q. by_letter q (eqb b comment_letter))
  where
    by_letter : (q : ℕ) (c : Bool) → OnlyMalformed (cond c comment_section (fixed_at graph_rest) t q)
    by_letter q true = only_then _ _ (only_fixed comment_rest t q) (λ z p. only_then _ _ (only_comment 0 (drop p t) p) (λ y r. only_stp_line graph_line t r))
    by_letter q false = only_fixed graph_rest t q

pub only_head : (t : List ℕ) (at : ℕ) → OnlyMalformed (stp_head t at)
unfolding stp_head
only_head t at = only_then _ _ (only_fixed header_line t at) (λ z a. only_then _ _ (only_stp_line section_word t a) (λ y b. only_graph_section t b))

only_edge : (n : ℕ) (t : List ℕ) (at : ℕ) → OnlyMalformed (after_empty (stp_edge n) t at)
unfolding after_empty stp_edge stp_end
only_edge n t at =
    only_then _ _ (only_fixed edge_word t _) (λ z a. only_then _ _ (only_free (is_free [] 1 n) n space t endpoint_digits a) (λ u b. only_then _ _ (only_free (is_free [] 1 n) n space t endpoint_digits b) (λ v c.
    only_then _ _ (only_number_to weight_digits newline t c) (λ w d. only_found _ d))))

only_edges : (n : ℕ) (t : List ℕ) (count i at : ℕ) → OnlyMalformed (lines_from (λ e p. after_empty (stp_edge n) t p) count i at).end
unfolding lines_from following
only_edges n t zero i at = only_found 0 at
only_edges n t (suc count) i at = by_line (after_empty (stp_edge n) t at) (only_edge n t at) (λ q. only_edges n t count (i + 1) q)
  where
    by_line : (s : Step Edge) → OnlyMalformed s → ((q : ℕ) → OnlyMalformed (lines_from (λ e p. after_empty (stp_edge n) t p) count (i + 1) q).end)
        → OnlyMalformed (following s (λ a next. lines_from (λ e p. after_empty (stp_edge n) t p) count (i + 1) next)).end
    by_line (found a q) h g = g q
    by_line (refused m q) h g = record { is = λ n p e. h.is n p (same_number e) }
      where
        same_number : {n p : ℕ} → ◌≡◌ {A = Step ℕ} (refused m q) (refused n p) → ◌≡◌ {A = Step Edge} (refused m q) (refused n p)
        same_number {n} {p} e = let a : m ≡ n = cc in let b : q ≡ p = cc in cc

only_terminals : (n : ℕ) (t : List ℕ) (count : ℕ) (groups : List ℕ) (at : ℕ) → OnlyMalformed (terminal_lines n count groups t at)
unfolding terminal_lines after_empty terminal_line
only_terminals n t zero groups at = only_found groups at
only_terminals n t (suc count) groups at =
    only_then _ _ (only_then _ _ (only_fixed terminal_word t _) (λ z a. only_free (is_free groups 1 n) n newline t endpoint_digits a)) (λ v p. only_terminals n t count (set groups (v - 1) 1) p)

only_section : (n : ℕ) (t : List ℕ) (at : ℕ) → OnlyMalformed (terminal_section n t at)
unfolding terminal_section after_empty terminal_count
only_section n t at =
    only_then _ _ (only_stp_line end_line t at) (λ z a. only_then _ _ (only_stp_line terminals_line t a) (λ y b.
    only_then _ _ (only_then _ _ (only_fixed terminals_word t _) (λ z a. only_free (is_free [] 0 n) n newline t count_digits a)) (λ k c.
    only_then _ _ (only_terminals n t k (replicate n 0) c) (λ gs d. only_then _ _ (only_stp_line end_line t d) (λ x e. only_then _ _ (only_stp_line eof_line t e) (λ w f. only_found gs f))))))

pub only_body : (n m : ℕ) (t : List ℕ) (at : ℕ) → OnlyMalformed (stp_body n m t at)
unfolding stp_body stp_edges whole
only_body n m t at =
    only_then _ _ (only_then _ _ (only_edges n t m 0 at) (λ z p. only_found _ p)) (λ es p. only_then _ _ (only_section n t p) (λ gs q. only_found _ q))

-- ---- tests give the others

record Only {A : Type 0} (s : Step A) : Type 0 where
  is : (n p : ℕ) → s ≡ refused n p → StpRefusal n p

of_form : {A : Type 0} {s : Step A} → OnlyMalformed s → Only s
of_form h = record { is = λ n p e. malformed (h.is n p e) }

only_number : {A : Type 0} (m q : ℕ) → StpRefusal m q → Only {A = A} (refused m q)
only_number {A} m q h = record { is = λ n p e. moved (number e) (place e) h }
  where
    number : {n p : ℕ} → ◌≡◌ {A = Step A} (refused m q) (refused n p) → m ≡ n
    number e = cc

    place : {n p : ℕ} → ◌≡◌ {A = Step A} (refused m q) (refused n p) → q ≡ p
    place e = cc

    moved : {n p : ℕ} → m ≡ n → q ≡ p → StpRefusal m q → StpRefusal n p
    moved e f (malformed z) = malformed (sym e ∙ z)
    moved e f (vertices z w) = vertices (sym e ∙ z) (sym f ∙ w)
    moved e f (edges z w) = edges (sym e ∙ z) (sym f ∙ w)
    moved e f (short z w) = short (sym e ∙ z) (sym f ∙ w)

stp_then : {A B : Type 0} (s : Step A) (k : A → ℕ → Step B) → Only s → ((a : A) (q : ℕ) → Only (k a q)) → Only (s then k)
stp_then s k h g = record { is = λ n p e. by_stop n p (then_stops s k e) }
  where
    by_stop : (n p : ℕ) → Stops s k n p → StpRefusal n p
    by_stop n p (early q) = h.is n p q
    by_stop n p (late a q x y) = (g a q).is n p y

only_guarded : {A : Type 0} (v : Verdict) {s : Step A} → ((n p : ℕ) → v ≡ Refused n p → StpRefusal n p) → Only s → Only (guarded v s)
unfolding guarded
only_guarded Fine h k = k
only_guarded (Refused n p) h k = only_number n p (h n p refl)

only_if : (x : Bool) (i u n p : ℕ) → StpRefusal i u → refuse_if x i u ≡ Refused n p → StpRefusal n p
unfolding refuse_if
only_if true i u n p h e = (only_number {A = ℕ} i u h).is n p (let a : i ≡ n = cc in let b : u ≡ p = cc in cc)
only_if false i u n p h e = let z : ◌≡◌ {A = ℕ} 0 1 = cc in absurd (omega arith)

only_two : (x y : Bool) (i j u v n p : ℕ) → StpRefusal i u → StpRefusal j v → (refuse_if x i u before refuse_if y j v) ≡ Refused n p → StpRefusal n p
unfolding refuse_if ◌before◌
only_two true y i j u v n p h k e = only_if true i u n p h e
only_two false y i j u v n p h k e = only_if y j v n p k e

pub only_after : (word t : List ℕ) (at : ℕ) → OnlyMalformed (after_empty (number_line word count_digits) t at)
unfolding after_empty
only_after word t at = only_line word count_digits t _

pub only_last : (t : List ℕ) (at : ℕ) → OnlyMalformed (after_empty end_at t at)
unfolding after_empty
only_last t at = only_end t _

-- Every refusal of reading.
pub stp_refusals : (a b c d : ℕ) (t : List ℕ) (n p : ℕ) → stp_whole (stp_tests a b c d) t ≡ refused n p → StpRefusal n p
unfolding stp_whole stp_content count_then stp_tests vertices_test edges_test
stp_refusals a b c d t n p e =
    (stp_then _ _
    (stp_then _ _ (of_form (only_head t 0)) (λ z q.
    stp_then _ _ (of_form (only_after nodes_word t q)) (λ x r.
    only_guarded (vertices_test a x) (λ n p. only_two (eqb x 0 || ltb max_vertices x) (ltb a x) 1 7 0 0 n p (vertices refl refl) (short refl refl))
    (stp_then _ _ (of_form (only_after edges_word t r)) (λ y s.
    only_guarded (edges_test b c d y) (λ n p. only_two (ltb max_edges y) (ltb b y || ltb c y || ltb d y) 3 7 0 0 n p (edges refl refl) (short refl refl)) (of_form (only_body x y t s)))))))
    (λ x q. of_form (only_then _ _ (only_last t q) (λ z r. only_found x r)))
    ).is n p e
