-- A text that escapes 1, 3 and 7 is accepted exactly if it is in the subset, and what is read is what it says; 20 stands at the first byte that no
-- text of the subset has there (document 02, No. 5).
use Prim.Native.Nat.{ℕ, zero, suc, ◌+◌, ◌-◌, ◌≤◌, ◌<◌}
use native.Mathlib.Omega.{arith}
use Rattle.std.specs.Prelude.{Bool, true, false, eqb, leb, take, drop}
use mathlib.Core.List.{List, [], ◌++◌, append-nil}
use Rattle.std.proofs.Math.Path.{◌≡◌, refl, ap, subst}
use Rattle.std.proofs.Common.{sym, ◌∙◌, take_at, take_all, length-take-le, get_or-append-add, eqb-true, ne_eqb, leb-true, leb-false}
use Rattle.std.proofs.Math.ListN.{length, get_or, replicate, length-append, get_or-eq_default}
use Rattle.std.proofs.lemmas.List.{length-replicate}
use Rattle.std.proofs.lemmas.Bool.{eqb-false}
use Rattle.base_limits.specs.Limits.{count_digits}
use Rattle.base_limits.specs.Verdict.{Outcome, refusal, answer}
use Rattle.format_write.specs.Key.{newline}
use Rattle.format_read.specs.Bytes.{end_at}
use Rattle.format_read.specs.Language.{Reads, NotMalformed, read, otherwise, Word}
use Rattle.format_read.proofs.Laws.Bytes.{end_here, end_later, read_same}
use Rattle.format_read.proofs.Laws.Language.{read_again, bound}
use Rattle.format_read.proofs.Laws.Stands.{stands_whole, stands_first, stands_second, stands_same, as_long}
use Rattle.format_read.proofs.Laws.Step.{then_found, then_refused, then_value, Stops, early, late, then_stops}
use Rattle.format_read.specs.Stands.{Stands}
use Rattle.format_read.specs.Step.{Step, found, refused, ◌then◌}
use Rattle.format_read.proofs.Laws.Keyed.{Passes}
use Rattle.format_read.specs.Number.{OfDigits}
use Rattle.format_survey.proofs.Laws.Tests.{vertices_fine, edges_fine, vertices_passed, edges_passed, two_not_malformed}
use Rattle.format_survey.specs.Line.{vertices_test, edges_test}
use Rattle.format_stp.proofs.Laws.EmptyLines.{EmptyThere, empty_there, empty_count}
use Rattle.format_stp.proofs.Laws.File.{SoundTests, reads_file}
use Rattle.format_stp.proofs.Laws.Only.{StpRefusal, vertices, edges, short, stp_refusals}
use Rattle.format_stp.proofs.Laws.Only.{malformed as of_its_form}
use Rattle.format_stp.specs.StpReading.{StpContent, StpTests, stp_content, stp_whole, stp_tests, stp_number, stp_outcome, stp_reading}
use Rattle.format_stp.specs.StpWord.{empty_lines, after_empty}
use Rattle.format_stp.specs.Grammar.{StpText, IsStp}
use Rattle.format_stp.proofs.Laws.Grammar.{text_factored, factored_text}
use Rattle.format_stp.specs.Promises.{StpFits, StpGives, gives_1, gives_3, gives_7, gives_20}
use Rattle.format_stp.specs.Subset.{StpFile, StpFactored}

-- ---- the tests

pub sound_tests : (a b c d : ℕ) → SoundTests (stp_tests a b c d)
unfolding stp_tests vertices_test edges_test
sound_tests a b c d =
    record {
      vertices = λ x n p. two_not_malformed _ _ 1 7 0 0 n p (λ z. omega arith) (λ z. omega arith);
      edges = λ x n p. two_not_malformed _ _ 3 7 0 0 n p (λ z. omega arith) (λ z. omega arith);
      some = λ x e. (vertices_passed a x e).some;
      most = λ x e. (vertices_passed a x e).most;
    }

-- ---- the end of a text, behind empty lines

record Other (t : List ℕ) (at p : ℕ) : Type 0 where
  from : at ≤ p
  inside : p < length t
  stands : Stands t at (replicate (empty_lines (drop at t)) newline)
  place : p ≡ at + empty_lines (drop at t)
  other : get_or t p 0 ≡ newline → ⊥

data EndOrOther (t : List ℕ) (at : ℕ) (s : Step ℕ) : Type 0 where
  ends : (q : ℕ) → length t ≡ at + empty_lines (drop at t) → s ≡ found 0 q → EndOrOther t at s
  goes_on_law : (p : ℕ) → Other t at p → s ≡ refused 16 p → EndOrOther t at s

end_or_other : (t : List ℕ) (at : ℕ) → at ≤ length t → EndOrOther t at (after_empty end_at t at)
unfolding after_empty
end_or_other t at h = by_length (leb (length t) (at + empty_lines (drop at t))) refl
  where
    y : EmptyThere t at (empty_lines (drop at t))
    y = empty_there t at h

    by_length : (b : Bool) → leb (length t) (at + empty_lines (drop at t)) ≡ b → EndOrOther t at (end_at t (at + empty_lines (drop at t)))
    by_length true e =
        let l = leb-true (length t) (at + empty_lines (drop at t)) e in
        let i = y.inside in
        ends (at + empty_lines (drop at t)) (omega arith) (end_here t (at + empty_lines (drop at t)) l)
    by_length false e =
        let l = leb-false (length t) (at + empty_lines (drop at t)) e in
        goes_on_law (at + empty_lines (drop at t)) (record { from = omega arith; inside = l; stands = y.stands; place = refl; other = y.other }) (end_later t (at + empty_lines (drop at t)) l)

lines_are : (k j : ℕ) → j < k → get_or (replicate k newline) j 0 ≡ newline
lines_are zero j h = absurd (omega arith)
lines_are (suc k) zero h = refl
lines_are (suc k) (suc j) h = lines_are k j (omega arith)

length_lines : (k : ℕ) → length (replicate k newline) ≡ k
length_lines k = length-replicate {A = ℕ} k newline

-- ---- a file and the counts that it says

module _ {N M : ℕ → Type 0} {x : StpContent} {w : List ℕ} where
  file_vertices : StpFile N M x w → N x.vertices
  file_vertices k =
      let n = k.second in
      let m = n.second in
      subst N (sym (ap (λ (y : StpContent). y.vertices) m.second.second.second.value)) n.first.member.holds

  file_edges : StpFile N M x w → M x.edges
  file_edges k =
      let m = k.second.second in
      subst M (sym (ap (λ (y : StpContent). y.edges) m.second.second.second.value)) m.first.member.holds

-- The same file, of which more is known.
file_passes : {N M P Q : ℕ → Type 0} {x : StpContent} {w : List ℕ} → StpFile N M x w → P x.vertices → Q x.edges → StpFile P Q x w
file_passes {N} {M} {P} {Q} {x} k p q =
    let n = k.second in
    let m = n.second in
    let said = m.second.second.second.value in
    record {
      value = k.value;
      left = k.left;
      right = k.right;
      first = k.first;
      whole = k.whole;
      second = record {
        value = n.value;
        left = n.left;
        right = n.right;
        whole = n.whole;
        first = record {
          empty = n.first.empty;
          word = n.first.word;
          whole = n.first.whole;
          member = record { holds = subst P (ap (λ (y : StpContent). y.vertices) said) p; word = n.first.member.word };
        };
        second = record {
          value = m.value;
          left = m.left;
          right = m.right;
          whole = m.whole;
          first = record {
            empty = m.first.empty;
            word = m.first.word;
            whole = m.first.whole;
            member = record { holds = subst Q (ap (λ (y : StpContent). y.edges) said) q; word = m.first.member.word };
          };
          second = m.second;
        };
      };
    }

-- ---- the answer

outcome_found : {A : Type 0} (s : Step A) {a : A} → stp_outcome s ≡ answer a → (p : ℕ) × (s ≡ found a p)
unfolding stp_outcome
outcome_found (found b p) e = (p, cc)
outcome_found (refused n p) e = let z : ◌≡◌ {A = ℕ} 0 1 = cc in absurd (omega arith)

pub not_malformed_number : (n : ℕ) → (n ≡ 16 → ⊥) → stp_number n ≡ n
unfolding stp_number
not_malformed_number n h = rw (ne_eqb n 16 h) refl

malformed_number : (n : ℕ) → (n ≡ 20 → ⊥) → stp_number n ≡ 20 → n ≡ 16
malformed_number n h e = by_test (eqb n 16) refl
  where
    by_test : (b : Bool) → eqb n 16 ≡ b → n ≡ 16
    by_test true q = eqb-true n 16 q
    by_test false q = absurd (h (sym (not_malformed_number n (eqb-false n 16 q)) ∙ e))

-- The bytes before a place go on to a text of the subset.
pub record GoesOn (t : List ℕ) (p : ℕ) : Type 0 where
  pub inside : p ≤ length t
  pub rest : List ℕ
  pub is : IsStp (take p t ++ rest)

-- No 1, 3 or 7 is given.
pub record Unrefused (t groups firsts seconds weights : List ℕ) : Type 0 where
  pub one : (p : ℕ) → stp_reading t groups firsts seconds weights ≡ refusal 1 p → ⊥
  pub three : (p : ℕ) → stp_reading t groups firsts seconds weights ≡ refusal 3 p → ⊥
  pub seven : (p : ℕ) → stp_reading t groups firsts seconds weights ≡ refusal 7 p → ⊥

module _ (gb fb sb wb : List ℕ) where
  abbrev tests : StpTests
  tests = stp_tests (length gb) (length fb) (length sb) (length wb)

  abbrev Passing : StpContent → List ℕ → Type 0
  Passing = StpFile (Passes count_digits tests.vertices) (Passes count_digits tests.edges)

  abbrev Formed : StpContent → List ℕ → Type 0
  Formed = StpFile (OfDigits count_digits) (OfDigits count_digits)

  reads : Reads (stp_content tests) Passing Formed
  reads = reads_file tests (sound_tests _ _ _ _)

  -- ---- accepted

  -- What is accepted is in the subset, its counts escape 1, 3 and 7, and what is read is what it says.
  pub accepted_in : (t : List ℕ) (x : StpContent) → stp_reading t gb fb sb wb ≡ answer x → StpText x t × StpFits gb fb sb wb x
  unfolding stp_reading stp_whole stp_tests
  accepted_in t x e =
      let f = outcome_found (stp_whole tests t) e in
      let g = then_value (stp_content tests t 0) (λ x p. after_empty end_at t p then λ z q. found x q) f.1 in
      let h = then_value (after_empty end_at t g.1) (λ z q. found g.0 q) g.3 in
      let same : g.0 ≡ x = cc h.3 in
      let w = reads.sound t 0 g.0 g.1 (omega arith) g.2 in
      subst (λ (y : StpContent). StpText y t × StpFits gb fb sb wb y) same
      (factored_text (by_end g.0 g.1 w (end_or_other t g.1 (bound w).1) h.2), fits g.0 w.member)
    where
      fits : (y : StpContent) {v : List ℕ} → Passing y v → StpFits gb fb sb wb y
      fits y m =
          let a = vertices_passed (length gb) y.vertices (file_vertices m).passes in
          let b = edges_passed (length fb) (length sb) (length wb) y.edges (file_edges m).passes in
          record { some = a.some; most_vertices = a.most; for_groups = a.room; most_edges = b.most; for_firsts = b.first; for_seconds = b.second; for_weights = b.weight }

      by_end : (y : StpContent) (q : ℕ) → Word Passing t 0 y q → EndOrOther t q (after_empty end_at t q) → {z r : ℕ} → after_empty end_at t q ≡ found z r → StpFactored y t
      by_end y q w (goes_on_law p o s) k = let z : ◌≡◌ {A = ℕ} 0 1 = cc in absurd (omega arith)
      by_end y q w (ends r l s) k =
          let n : ℕ = empty_lines (drop q t) in
          let there = empty_there t q (bound w).1 in
          let i : length (replicate n newline) ≡ n = length_lines n in
          let we = w.ends in
          let front : take q t ≡ w.word = ap (λ (k : ℕ). take k t) we ∙ w.stands.is in
          record {
            file = w.word;
            empty = n;
            member = reads.well y w.word w.member;
            whole =
                sym (take_all (q + length (replicate n newline)) t (omega arith)) ∙ there.stands.is ∙ ap (λ (l : List ℕ). l ++ replicate n newline) front;
          }

  -- What stands behind the file: only empty lines.
  end_found : (file : List ℕ) (k : ℕ) → (q : ℕ) × (after_empty end_at (file ++ replicate k newline) (0 + length file) ≡ found 0 q)
  unfolding after_empty
  end_found file k =
      let t = file ++ replicate k newline in
      let l = length-append file (replicate k newline) in
      let i = length_lines k in
      let s : Stands t (0 + length file) (replicate k newline) = stands_second file (replicate k newline) (stands_whole t) in
      let past : get_or t (0 + length file + k) 0 ≡ newline → ⊥ = λ e. let z : get_or t (0 + length file + k) 0 ≡ 0 = get_or-eq_default t 0 (omega arith) in omega arith in
      let c : empty_lines (drop (0 + length file) t) ≡ k = empty_count t k (0 + length file) s past in
      (0 + length file + k, ap (λ (j : ℕ). end_at t (0 + length file + j)) c ∙ end_here t (0 + length file + k) (omega arith))

  -- A text of the subset whose counts escape 1, 3 and 7 is accepted.
  pub in_accepted : (t : List ℕ) (x : StpContent) → StpText x t → StpFits gb fb sb wb x → stp_reading t gb fb sb wb ≡ answer x
  unfolding stp_reading stp_whole stp_tests stp_outcome
  in_accepted t x text f =
      let m = text_factored text in
      let u = m.file ++ replicate m.empty newline in
      let a : Passes count_digits tests.vertices x.vertices = record { small = file_vertices m.member; passes = vertices_fine (length gb) x.vertices (positive f.some) f.most_vertices f.for_groups } in
      let b : Passes count_digits tests.edges x.edges = record { small = file_edges m.member; passes = edges_fine (length fb) (length sb) (length wb) x.edges f.most_edges f.for_firsts f.for_seconds f.for_weights } in
      let s : Stands u 0 m.file = stands_first m.file (replicate m.empty newline) (stands_whole u) in
      let c : stp_content tests u 0 ≡ found x (0 + length m.file) = reads.complete u 0 x m.file (file_passes m.member a b) s in
      let e = end_found m.file m.empty in
      ap (λ (l : List ℕ). stp_outcome (stp_whole tests l)) m.whole ∙ ap stp_outcome (then_found _ c ∙ then_found _ e.1)
    where
      positive : 0 < x.vertices → x.vertices ≡ 0 → ⊥
      positive h z = omega arith

  -- ---- the place of 20

  -- Where it comes from: a line, or a byte behind EOF that is no empty line.
  data StpMalformed (t : List ℕ) (p : ℕ) : Type 0 where
    in_file : stp_content tests t 0 ≡ refused 16 p → StpMalformed t p
    behind : (x : StpContent) (q : ℕ) → stp_content tests t 0 ≡ found x q → Other t q p → StpMalformed t p

  malformed : (t : List ℕ) (p : ℕ) → stp_whole tests t ≡ refused 16 p → StpMalformed t p
  unfolding stp_whole
  malformed t p e = by_file (then_stops (stp_content tests t 0) (λ x p. after_empty end_at t p then λ z q. found x q) e)
    where
      by_end : (x : StpContent) (q : ℕ) → stp_content tests t 0 ≡ found x q → EndOrOther t q (after_empty end_at t q) → Stops (after_empty end_at t q) (λ z r. found x r) 16 p → StpMalformed t p
      by_end x q h (ends r l s) (early k) = let z : ◌≡◌ {A = ℕ} 0 1 = cc in absurd (omega arith)
      by_end x q h (goes_on_law r o s) (early k) = let same : r ≡ p = cc in behind x q h (subst (Other t q) same o)
      by_end x q h c (late a r k l) = let z : ◌≡◌ {A = ℕ} 0 1 = cc in absurd (omega arith)

      by_file : Stops (stp_content tests t 0) (λ x p. after_empty end_at t p then λ z q. found x q) 16 p → StpMalformed t p
      by_file (early k) = in_file k
      by_file (late x q k l) = by_end x q k (end_or_other t q (bound (reads.sound t 0 x q (omega arith) k)).1) (then_stops (after_empty end_at t q) (λ z r. found x r) l)

  module _ (t : List ℕ) (p : ℕ) (why : StpMalformed t p) where
    -- The bytes before the place begin a text of the subset.
    begins : GoesOn t p
    begins = by_place why
      where
        by_place : StpMalformed t p → GoesOn t p
        by_place (in_file h) =
            let x = reads.extends t 0 p (omega arith) h in
            record {
              inside = (reads.place t 0 p (omega arith) h).1;
              rest = x.rest;
              is = record { says = x.value; is = factored_text (record { file = x.word; empty = 0; member = x.member; whole = x.whole ∙ sym (append-nil x.word) }) };
            }
        by_place (behind x q h o) =
            let w = reads.sound t 0 x q (omega arith) h in
            let k : ℕ = empty_lines (drop q t) in
            let i : length (replicate k newline) ≡ k = length_lines k in
            let place = o.place in
            let inside = o.inside in
            let z : p ≡ q + length (replicate k newline) = omega arith in
            let front : take q t ≡ w.word = ap (λ (j : ℕ). take j t) w.ends ∙ w.stands.is in
            record {
              inside = omega arith;
              rest = [];
              is = record {
                says = x;
                is = factored_text
                    (record {
                      file = w.word;
                      empty = k;
                      member = reads.well x w.word w.member;
                      whole = append-nil (take p t) ∙ ap (λ (j : ℕ). take j t) z ∙ o.stands.is ∙ ap (λ (l : List ℕ). l ++ replicate k newline) front;
                    });
              };
            }

    -- No text that agrees up to the byte at that place is in the subset.
    agrees_none : (u : List ℕ) → take (p + 1) t ≡ take (p + 1) u → IsStp u → ⊥
    agrees_none u same s =
        by_place why (reads.not_malformed u 0 s.says m.file m.member (subst (λ (l : List ℕ). Stands l 0 m.file) (sym m.whole) (stands_first m.file (replicate m.empty newline) (stands_whole _))))
      where
        m : StpFactored s.says u
        m = text_factored s.is

        by_found : (x : StpContent) (q : ℕ) → Other t q p → stp_content tests u 0 ≡ found x q → NotMalformed (stp_content tests u 0) s.says (0 + length m.file) → ⊥
        by_found x q o c (otherwise e k) = let z : ◌≡◌ {A = ℕ} 0 1 = cc in omega arith
        by_found x q o c (read e) =
            let z : q ≡ 0 + length m.file = cc in
            let from = o.from in
            let inside = o.inside in
            let long = as_long t u p same (p + 1) (omega arith) (omega arith) in
            let l = length-append m.file (replicate m.empty newline) in
            let lu = ap length m.whole in
            let i = length_lines m.empty in
            let j : p ≡ length m.file + (p - length m.file) = omega arith in
            let line : get_or u p 0 ≡ newline =
            ap (λ (l : List ℕ). get_or l p 0) m.whole
            ∙ ap (λ (k : ℕ). get_or (m.file ++ replicate m.empty newline) k 0) j
            ∙ get_or-append-add m.file (replicate m.empty newline) (p - length m.file) 0
            ∙ lines_are m.empty (p - length m.file) (omega arith) in
            o.other (read_same t u (p + 1) p same (omega arith) ∙ line)

        by_place : StpMalformed t p → NotMalformed (stp_content tests u 0) s.says (0 + length m.file) → ⊥
        by_place (in_file h) (read e) = let z : ◌≡◌ {A = ℕ} 0 1 = cc (reads.same t u 0 p (omega arith) h same) in omega arith
        by_place (in_file h) (otherwise {n = i} e k) = let z : 16 ≡ i = cc (reads.same t u 0 p (omega arith) h same) in k (sym z)
        by_place (behind x q h o) y = let from = o.from in by_found x q o (read_again reads t u 0 x q (p + 1) (omega arith) (omega arith) same h) y

  -- What 20 says of the reader.
  refused_there : (t : List ℕ) (p : ℕ) → stp_reading t gb fb sb wb ≡ refusal 20 p → StpMalformed t p
  unfolding stp_reading stp_outcome
  refused_there t p e = by_step (stp_whole tests t) refl e
    where
      by_step : (s : Step StpContent) → stp_whole tests t ≡ s → stp_outcome s ≡ refusal 20 p → StpMalformed t p
      by_step (found x q) h e = let z : ◌≡◌ {A = ℕ} 0 1 = cc in absurd (omega arith)
      by_step (refused n q) h e =
          let number : stp_number n ≡ 20 = cc in
          let place : q ≡ p = cc in
          let is : n ≡ 16 = malformed_number n (other (stp_refusals (length gb) (length fb) (length sb) (length wb) t n q h)) number in
          malformed t p (h ∙ (λ i. refused (is i) (place i)))
        where
          other : StpRefusal n q → n ≡ 20 → ⊥
          other (of_its_form z) y = omega arith
          other (vertices z w) y = omega arith
          other (edges z w) y = omega arith
          other (short z w) y = omega arith

  module _ (t : List ℕ) (p : ℕ) (e : stp_reading t gb fb sb wb ≡ refusal 20 p) where
    -- The bytes before the place of 20 begin a text of the subset.
    pub stp_malformed_begins : GoesOn t p
    stp_malformed_begins = begins t p (refused_there t p e)

    -- With the byte at that place they begin none.
    pub stp_malformed_stops : p < length t → (rest : List ℕ) → IsStp (take (p + 1) t ++ rest) → ⊥
    stp_malformed_stops h rest s =
        agrees_none t p (refused_there t p e) (take (p + 1) t ++ rest) (sym (take_at (take (p + 1) t) rest (p + 1) (length-take-le (p + 1) t (omega arith)))) s

    -- The text itself is none.
    pub stp_malformed_is_none : IsStp t → ⊥
    stp_malformed_is_none s = agrees_none t p (refused_there t p e) t refl s

  -- A text that agrees up to the byte at that place is refused there too.
  pub stp_same : (t u : List ℕ) (p : ℕ) → stp_reading t gb fb sb wb ≡ refusal 20 p → take (p + 1) t ≡ take (p + 1) u → stp_reading u gb fb sb wb ≡ refusal 20 p
  unfolding stp_reading stp_whole stp_outcome stp_number after_empty
  stp_same t u p e same = by_place (refused_there t p e)
    where
      by_place : StpMalformed t p → stp_outcome (stp_whole tests u) ≡ refusal 20 p
      by_place (in_file h) = ap stp_outcome (then_refused _ (reads.same t u 0 p (omega arith) h same))
      by_place (behind x q h o) =
          let from = o.from in
          let inside = o.inside in
          let place = o.place in
          let k : ℕ = empty_lines (drop q t) in
          let i : length (replicate k newline) ≡ k = length_lines k in
          let c = read_again reads t u 0 x q (p + 1) (omega arith) (omega arith) same h in
          let long = as_long t u p same (p + 1) (omega arith) (omega arith) in
          let s : Stands u q (replicate k newline) = stands_same (p + 1) same (omega arith) o.stands in
          let there : get_or t p 0 ≡ get_or u (q + k) 0 = read_same t u (p + 1) p same (omega arith) ∙ ap (λ (j : ℕ). get_or u j 0) place in
          let n : empty_lines (drop q u) ≡ k = empty_count u k q s (λ z. o.other (there ∙ z)) in
          let end : end_at u (q + empty_lines (drop q u)) ≡ refused 16 p = ap (λ (j : ℕ). end_at u (q + j)) n ∙ ap (end_at u) (sym place) ∙ end_later u p (omega arith) in
          ap stp_outcome (then_found _ c ∙ then_refused _ end)

  -- A text of the subset that is given no 1, 3 or 7 is accepted, and what is read is what it says.
  pub unrefused_accepted : (t : List ℕ) (x : StpContent) → Unrefused t gb fb sb wb → StpText x t → stp_reading t gb fb sb wb ≡ answer x
  unfolding stp_reading stp_whole stp_outcome
  unrefused_accepted t x h text = by_content (reads.not_malformed t 0 x m.file m.member stands)
    where
      m : StpFactored x t
      m = text_factored text

      stands : Stands t 0 m.file
      stands = subst (λ (l : List ℕ). Stands l 0 m.file) (sym m.whole) (stands_first m.file (replicate m.empty newline) (stands_whole _))

      by_content : NotMalformed (stp_content tests t 0) x (0 + length m.file) → stp_outcome (stp_whole tests t) ≡ answer x
      by_content (read e) =
          let f = end_found m.file m.empty in
          let g : after_empty end_at t (0 + length m.file) ≡ found 0 f.0 = ap (λ (l : List ℕ). after_empty end_at l (0 + length m.file)) m.whole ∙ f.1 in
          ap stp_outcome (then_found _ e ∙ then_found _ g)
      by_content (otherwise {n = n} {q = q} e other) = absurd (by_number (stp_refusals (length gb) (length fb) (length sb) (length wb) t n q whole_is))
        where
          whole_is : stp_whole tests t ≡ refused n q
          whole_is = then_refused _ e

          reading_is : stp_outcome (stp_whole tests t) ≡ refusal n q
          reading_is = ap stp_outcome whole_is ∙ ap (λ (k : ℕ). refusal k q) (not_malformed_number n other)

          by_number : StpRefusal n q → ⊥
          by_number (of_its_form z) = other z
          by_number (vertices z w) = h.one q (reading_is ∙ ap (λ (k : ℕ). refusal k q) z)
          by_number (edges z w) = h.three q (reading_is ∙ ap (λ (k : ℕ). refusal k q) z)
          by_number (short z w) = h.seven q (reading_is ∙ ap (λ (k : ℕ). refusal k q) z)

  -- ---- which refusals there are

  -- Reading gives no refusals but 1, 3, 7 and 20, and 20 alone has a place other than 0.
  pub stp_numbers : (t : List ℕ) (n p : ℕ) → stp_reading t gb fb sb wb ≡ refusal n p → StpGives n p
  unfolding stp_reading stp_outcome stp_number
  stp_numbers t n p e = by_step (stp_whole tests t) refl e
    where
      by_step : (s : Step StpContent) → stp_whole tests t ≡ s → stp_outcome s ≡ refusal n p → StpGives n p
      by_step (found x q) h e = let z : ◌≡◌ {A = ℕ} 0 1 = cc in absurd (omega arith)
      by_step (refused i q) h e = by_number (stp_refusals (length gb) (length fb) (length sb) (length wb) t i q h)
        where
          same : stp_number i ≡ n
          same = cc

          place : p ≡ q
          place = cc

          by_number : StpRefusal i q → StpGives n p
          by_number (of_its_form z) = gives_20 (sym same ∙ ap stp_number z)
          by_number (vertices z w) = gives_1 (sym same ∙ ap stp_number z) (place ∙ w)
          by_number (edges z w) = gives_3 (sym same ∙ ap stp_number z) (place ∙ w)
          by_number (short z w) = gives_7 (sym same ∙ ap stp_number z) (place ∙ w)

  -- A text outside the subset that is given none is refused with 20.
  pub unrefused_refused : (t : List ℕ) → Unrefused t gb fb sb wb → (IsStp t → ⊥) → (p : ℕ) × (stp_reading t gb fb sb wb ≡ refusal 20 p)
  unrefused_refused t h none = by_outcome (stp_reading t gb fb sb wb) refl
    where
      by_outcome : (o : Outcome StpContent) → stp_reading t gb fb sb wb ≡ o → (p : ℕ) × (stp_reading t gb fb sb wb ≡ refusal 20 p)
      by_outcome (answer x) e = absurd (none (record { says = x; is = (accepted_in t x e).0 }))
      by_outcome (refusal n p) e = by_number (stp_numbers t n p e)
        where
          is : {k : ℕ} → n ≡ k → stp_reading t gb fb sb wb ≡ refusal k p
          is z = e ∙ ap (λ (i : ℕ). refusal i p) z

          by_number : StpGives n p → (p : ℕ) × (stp_reading t gb fb sb wb ≡ refusal 20 p)
          by_number (gives_1 z w) = absurd (h.one p (is z))
          by_number (gives_3 z w) = absurd (h.three p (is z))
          by_number (gives_7 z w) = absurd (h.seven p (is z))
          by_number (gives_20 z) = (p, is z)
