-- Laws of printing a survey: how a writer that goes upwards makes its lines, and what a call answers in each case.
use Rattle.std.specs.Prelude.{ℕ, ◌+◌, ◌<◌, ◌≡◌, refl, List, [], ◌∷◌, ◌++◌, length, get_or, take}
use Rattle.std.proofs.Common.{add-one, ap, sym, ◌∙◌, append_assoc, append-nil, take-suc}
use borrow.Author.Tests.{eq-eqb, ne_eqb}
use Rattle.base_finite.specs.Below.{tabulate}
use Rattle.base_finite.specs.Laws.Below.{length_tabulate}
use Rattle.base_limits.specs.Verdict.{refuse_if, ◌before◌, written}
use Rattle.format_read.specs.Lines.{text_of}
use Rattle.format_print.specs.declared.Printed.TheVariants.{Refused}
use Rattle.format_print.specs.Print.{answer_of, out_after, printed, printed_out}
use Rattle.format_survey.specs.Reading.{SurveyText}
use Rattle.format_survey_print.specs.Print.{edges_from, survey_text, survey_print_refusal, survey_printed, survey_printed_out}

text_more : {A : Type 0} (f : A → List ℕ) (l : List A) (a : A) → text_of f (l ++ (a ∷ [])) ≡ text_of f l ++ f a
unfolding text_of
text_more f [] a = append-nil (f a)
text_more f (x ∷ l) a = ap (λ (w : List ℕ). f x ++ w) (text_more f l a) ∙ sym (append_assoc (f x) (text_of f l) (f a))

-- No line yet, and one line more, of a list and of a table.
pub no_text : {A : Type 0} (f : A → List ℕ) → [] ≡ text_of f []
unfolding text_of
no_text f = refl

pub text_take : (f : ℕ → List ℕ) (l : List ℕ) (v : ℕ) → v < length l → text_of f (take v l) ++ f (get_or l v 0) ≡ text_of f (take (v + 1) l)
text_take f l v h = sym (ap (λ (n : ℕ). text_of f (take n l)) (add-one v) ∙ ap (text_of f) (take-suc l v 0 h) ∙ text_more f (take v l) (get_or l v 0))

pub text_table_none : {A : Type 0} (f : A → List ℕ) (g : ℕ → A) → [] ≡ text_of f (tabulate 0 g)
unfolding text_of tabulate
text_table_none f g = refl

pub text_table_law : {A : Type 0} (f : A → List ℕ) (g : ℕ → A) (e : ℕ) → text_of f (tabulate e g) ++ f (g e) ≡ text_of f (tabulate (e + 1) g)
unfolding tabulate
text_table_law f g e = sym (ap (λ (n : ℕ). text_of f (tabulate n g)) (add-one e) ∙ text_more f (tabulate e g) (g e))

-- As many edges as first ends.
pub edges_count : (firsts seconds weights : List ℕ) → length (edges_from firsts seconds weights) ≡ length firsts
unfolding edges_from
edges_count firsts seconds weights = length_tabulate (length firsts) _

module _ (s : SurveyText) (out : List ℕ) where
  abbrev first : ℕ
  first = length s.firsts

  -- 2: the second ends differ in number from the first, or the weights, or the groups of the pairs from their vertices.
  pub seconds_answer : (first ≡ length s.seconds → ⊥) → Refused 2 0 ≡ survey_printed s out
  unfolding survey_printed survey_print_refusal refuse_if ◌before◌ answer_of
  seconds_answer d = rw (ne_eqb first (length s.seconds) d)

  pub seconds_out : (first ≡ length s.seconds → ⊥) → out ≡ survey_printed_out s out
  unfolding survey_printed_out survey_print_refusal refuse_if ◌before◌ out_after written
  seconds_out d = rw (ne_eqb first (length s.seconds) d)

  module _ (same : first ≡ length s.seconds) where
    pub weights_answer : (first ≡ length s.weights → ⊥) → Refused 2 0 ≡ survey_printed s out
    unfolding survey_printed survey_print_refusal refuse_if ◌before◌ answer_of
    weights_answer d = rw (eq-eqb first (length s.seconds) same, ne_eqb first (length s.weights) d)

    pub weights_out : (first ≡ length s.weights → ⊥) → out ≡ survey_printed_out s out
    unfolding survey_printed_out survey_print_refusal refuse_if ◌before◌ out_after written
    weights_out d = rw (eq-eqb first (length s.seconds) same, ne_eqb first (length s.weights) d)

    module _ (also : first ≡ length s.weights) where
      pub others_answer : (length s.owners ≡ length s.others → ⊥) → Refused 2 0 ≡ survey_printed s out
      unfolding survey_printed survey_print_refusal refuse_if ◌before◌ answer_of
      others_answer d = rw (eq-eqb first (length s.seconds) same, eq-eqb first (length s.weights) also, ne_eqb (length s.owners) (length s.others) d)

      pub others_out : (length s.owners ≡ length s.others → ⊥) → out ≡ survey_printed_out s out
      unfolding survey_printed_out survey_print_refusal refuse_if ◌before◌ out_after written
      others_out d = rw (eq-eqb first (length s.seconds) same, eq-eqb first (length s.weights) also, ne_eqb (length s.owners) (length s.others) d)

      -- Of buffers of one length the text is printed whole.
      module _ (pairs : length s.owners ≡ length s.others) where
        pub whole_answer : printed (survey_text s) out ≡ survey_printed s out
        unfolding printed survey_printed survey_print_refusal refuse_if ◌before◌
        whole_answer = rw (eq-eqb first (length s.seconds) same, eq-eqb first (length s.weights) also, eq-eqb (length s.owners) (length s.others) pairs)

        pub whole_out : printed_out (survey_text s) out ≡ survey_printed_out s out
        unfolding printed_out survey_printed_out survey_print_refusal refuse_if ◌before◌
        whole_out = rw (eq-eqb first (length s.seconds) same, eq-eqb first (length s.weights) also, eq-eqb (length s.owners) (length s.others) pairs)
