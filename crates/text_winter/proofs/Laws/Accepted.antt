-- Which texts are accepted: a survey's text and strength lines that pass, exactly; and what is printed for one is what is printed for its survey and its
-- strengths (document 02, No. 13).
use Rattle.std.specs.Prelude.{ℕ, ◌+◌, ◌≤◌, ◌<◌, ◌≡◌, take}
use native.Mathlib.Omega.{arith}
use Rattle.std.proofs.Math.Path.{refl, subst}
use Rattle.std.proofs.Common.{ap, sym, ◌∙◌, take_all, le-leb, leb-true, leb-false}
use mathlib.Core.List.{List, [], ◌∷◌, ◌++◌, append_assoc, append-nil}
use Rattle.std.proofs.Math.ListN.{length, length-append, get_or-eq_default}
use Rattle.std.proofs.lemmas.Bool.{lt-leb}
use Rattle.format_write.specs.Key.{comma, newline}
use Rattle.format_read.specs.Step.{found}
use Rattle.format_read.specs.Lines.{Lines, text_of}
use Rattle.format_read.specs.Items.{Standing, stop, item}
use Rattle.format_read.specs.Language.{Reads, Word, Seq, Empty, Fixed, Text}
use Rattle.format_read.specs.Number.{also_letter, number_text, OfDigits}
use Rattle.format_read.specs.Stands.{Stands}
use Rattle.format_read.proofs.Laws.Bytes.{byte_not, reads_fixed}
use Rattle.format_read.proofs.Laws.Items.{items_reads_back}
use Rattle.format_read.proofs.Laws.Keyed.{newline_no_digit, comma_no_digit}
use Rattle.format_read.proofs.Laws.Language.{reads_then, reads_as, reads_value}
use Rattle.format_read.proofs.Laws.Listing.{items_standing}
use Rattle.format_read.proofs.Laws.NumberWord.{NumberWord, reads_number}
use Rattle.format_read.proofs.Laws.Stands.{stands_head, stands_end, stands_first, stands_second}
use Rattle.format_also.specs.WellFormed.{NoAlso}
use Rattle.format_survey.specs.Line.{widest}
use Rattle.format_survey.specs.Reading.{SurveyText}
use Rattle.format_survey.specs.Render.{render}
use Rattle.format_survey.specs.WellFormed.{survey_of_text}
use Rattle.check_printed.specs.Verify.{prefix_at, survey_in}
use Rattle.check_printed.specs.Laws.Prefix.{Start, prefix_start, prefix_render}
use Rattle.winter_rule.specs.Winter.{strength_count}
use Rattle.text_winter.specs.Given.{Given, given_of, strength_key, strength_digits, given_at, given_reader, given_turns, givens_at, strengths_from}
use Rattle.text_winter.specs.Render.{given_text, givens_text, GivenPasses, GivensPass, no_given, next_given, WinterText}
use Rattle.text_winter.specs.Output.{survey_output, given_output, behind_output, winter_output}
use Rattle.text_winter.proofs.Laws.Given.{given_fine, line_fine, line_passes, line_read}

-- ---- one line

-- The numbers of a line have no more digits than it may give them.
record GivenDigits (x : Given) : Type 0 where
  group : OfDigits strength_digits x.group
  strength : OfDigits strength_digits x.strength

append_three : (a b c : List ℕ) → a ++ (b ++ (c ++ [])) ≡ a ++ b ++ c
append_three a b c = simp (append_assoc, append-nil)

GivenParts : Given → List ℕ → Type 0
GivenParts = Seq (Fixed strength_key) λ z. Seq (NumberWord strength_digits comma) λ g. Seq (NumberWord strength_digits newline) λ x. Empty (given_of g x)

-- Its words are the texts of groups and strengths.
reads_given : Reads given_at (Text GivenDigits given_text) (Text GivenDigits given_text)
unfolding given_at GivenParts given_text
reads_given =
    reads_as (λ t at. refl) to from to from
    (reads_then (reads_fixed strength_key) λ z.
    reads_then (reads_number strength_digits comma (omega arith) comma_no_digit) λ g.
    reads_then (reads_number strength_digits newline (omega arith) newline_no_digit) λ x.
    reads_value (given_of g x))
  where
    to : (x : Given) (w : List ℕ) → GivenParts x w → Text GivenDigits given_text x w
    to x w m =
        let a = m.second in
        let b = a.second in
        let d = b.second in
        let e : given_of a.value b.value ≡ x = sym d.value in
        record {
          holds = subst GivenDigits e record { group = a.first.below; strength = b.first.below };
          word =
              m.whole ∙ ap (λ (z : List ℕ). z ++ m.right) m.first.word ∙ ap (λ (z : List ℕ). strength_key ++ z)
              (a.whole ∙ ap (λ (z : List ℕ). z ++ a.right) a.first.word ∙ ap (λ (z : List ℕ). number_text comma a.value ++ z)
              (b.whole ∙ ap (λ (z : List ℕ). z ++ b.right) b.first.word ∙ ap (λ (z : List ℕ). number_text newline b.value ++ z) d.word))
              ∙ append_three strength_key (number_text comma a.value) (number_text newline b.value)
              ∙ ap given_text e;
        }

    from : (x : Given) (w : List ℕ) → Text GivenDigits given_text x w → GivenParts x w
    from x w m =
        record {
          value = 0;
          left = strength_key;
          right = number_text comma x.group ++ (number_text newline x.strength ++ []);
          first = record { value = refl; word = refl };
          whole = m.word ∙ sym (append_three strength_key (number_text comma x.group) (number_text newline x.strength));
          second = record {
            value = x.group;
            left = number_text comma x.group;
            right = number_text newline x.strength ++ [];
            first = record { below = m.holds.group; word = refl };
            whole = refl;
            second = record {
              value = x.strength;
              left = number_text newline x.strength;
              right = [];
              first = record { below = m.holds.strength; word = refl };
              whole = refl;
              second = record { value = refl; word = refl };
            };
          };
        }

given_some : (x : Given) → 0 < length (given_text x)
unfolding given_text strength_key
given_some x =
    let a = length-append (strength_key ++ number_text comma x.group) (number_text newline x.strength) in
    let b = length-append strength_key (number_text comma x.group) in
    omega arith

passes_digits : {low : ℕ} {x : Given} → GivenPasses low x → GivenDigits x
passes_digits h = let a = h.group in let b = h.strength.most in record { group = omega arith; strength = omega arith }

-- No more lines rise than there are groups.
givens_few : {low : ℕ} {l : List Given} → GivensPass low l → low ≤ strength_count → low + length l ≤ strength_count
givens_few no_given h = omega arith
givens_few (next_given p r) h = let rises = p.rises in omega (arith, givens_few r p.group)

-- ---- what is rendered is read

module _ (t : List ℕ) where
  givens_stand : {low : ℕ} {l : List Given} → GivensPass low l → (i at : ℕ) → Stands t at (givens_text l) → length t ≡ at + length (givens_text l)
      → (last : ℕ) × Standing (given_reader t) low i at l last (length t)
  unfolding given_reader givens_text text_of
  givens_stand {low} no_given i at s e =
      let same : at ≡ length t = omega arith in
      (low, subst (λ (z : ℕ). Standing (given_reader t) low i at [] low z) same (stop (le-leb (length t) at (omega arith))))
  givens_stand {low} (next_given {x = x} {l = l} p r) i at s e =
      let line = given_text x in
      let a : Stands t at line = stands_first line (givens_text l) s in
      let b : Stands t (at + length line) (givens_text l) = stands_second line (givens_text l) s in
      let n = length-append line (givens_text l) in
      let some = given_some x in
      let read = reads_given.complete t at x line (record { holds = passes_digits p; word = refl }) a in
      let rest = givens_stand r (i + 1) (at + length line) b (omega arith) in
      (rest.0, item (lt-leb (length t) at (omega arith)) (line_fine t low at read (given_fine low x p.rises p.group p.strength)) rest.1)

  givens_read : {l : List Given} {at : ℕ} → GivensPass 0 l → Stands t at (givens_text l) → length t ≡ at + length (givens_text l)
      → (last : ℕ) × (◌≡◌ {A = Lines ℕ Given} (givens_at t at) (record { values = l; end = found last (length t) }))
  unfolding givens_at
  givens_read h s e =
      let few = givens_few h (omega arith) in
      let w = givens_stand h 0 _ s e in
      (w.0, items_reads_back (given_reader t) given_turns (omega arith) w.1)

-- Behind a survey's text no also line begins.
none_also : {b : ℕ} → b ≡ 0 → b ≡ also_letter → ⊥
none_also h k = omega arith

strength_also : {b : ℕ} → b ≡ 115 → b ≡ also_letter → ⊥
strength_also h k = omega arith

behind : (u : List ℕ) (l : List Given) → NoAlso (u ++ givens_text l) (length u)
unfolding givens_text text_of given_text strength_key
behind u [] =
    let long = length-append u [] in
    byte_not (u ++ []) (length u) also_letter (λ z. none_also (get_or-eq_default (u ++ []) 0 {n = length u} (omega arith)) z)
behind u (x ∷ l) = byte_not (u ++ givens_text (x ∷ l)) (length u) also_letter (λ z. strength_also (stands_head (stands_end u (givens_text (x ∷ l)))) z)

-- A survey's text and lines that pass: what is printed is what is printed for the survey and the strengths.
pub text_printed : (t : List ℕ) (s : SurveyText) (lines : List Given) → WinterText t s lines → winter_output t ≡ survey_output (survey_in s) (strengths_from lines)
unfolding winter_output behind_output given_output
text_printed t s lines h =
    let u = render h.groups h.pairs h.edges in
    let whole = u ++ givens_text lines in
    let read = prefix_render h.groups h.pairs h.edges (givens_text lines) h.within (behind u lines) in
    let given = givens_read whole h.passes (stands_end u (givens_text lines)) (length-append u (givens_text lines)) in
    ap winter_output h.word
    ∙ ap (behind_output whole) read
    ∙ ap (λ (g : Lines ℕ Given). given_output (survey_in (survey_of_text h.groups h.pairs h.edges)) g.values g.end) given.1
    ∙ ap (λ (x : SurveyText). survey_output (survey_in x) (strengths_from lines)) (sym h.says)

-- ---- what is read is rendered

standing_text : (t : List ℕ) {low i at last end : ℕ} {l : List Given} → Standing (given_reader t) low i at l last end
    → GivensPass low l × (t ≡ take at t ++ givens_text l)
unfolding given_reader givens_text text_of
standing_text t {at = at} (stop e) = (no_given, sym (append-nil (take at t) ∙ take_all at t (leb-true (length t) at e)))
standing_text t {low} {at = at} (item {next = next} {a = a} {l = l} e f s) =
    let inside : at < length t = leb-false (length t) at e in
    let rest = standing_text t s in
    let w : Word (Text GivenDigits given_text) t at a next = reads_given.sound t at a next (omega arith) (line_read t low at f) in
    let line : take next t ≡ take at t ++ given_text a =
    ap (λ (k : ℕ). take k t) w.ends ∙ w.stands.is ∙ ap (λ (x : List ℕ). take at t ++ x) w.member.word in (
      next_given (line_passes t low at f) rest.0,
      rest.1 ∙ ap (λ (x : List ℕ). x ++ givens_text l) line ∙ append_assoc (take at t) (given_text a) (givens_text l),
    )

-- Of a text that is accepted the survey is its beginning, and lines that pass are the rest.
pub text_accepted : (t : List ℕ) {s : SurveyText} {at low next : ℕ} → prefix_at widest t ≡ found s at → (givens_at t at).end ≡ found low next
    → WinterText t s (givens_at t at).values
unfolding givens_at
text_accepted t {s} {at} h e =
    let start : Start t s at = prefix_start widest t s at h in
    let rest = standing_text t (items_standing (given_reader t) given_turns 0 0 at e) in
    record {
      groups = start.groups;
      pairs = start.pairs;
      edges = start.edges;
      within = start.within;
      says = start.says;
      passes = rest.0;
      word = rest.1 ∙ ap (λ (x : List ℕ). x ++ givens_text (givens_at t at).values) start.word;
    }
