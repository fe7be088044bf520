-- A printed survey is read back: whatever a call leaves in its buffer, up to the length that it answers, is read as the survey that was lent.
use Rattle.std.specs.Prelude.{ℕ, ◌≡◌, refl, Bool, true, false, not, take, eqb}
use Rattle.std.proofs.Common.{arith, sym, ◌∙◌, take_at}
use borrow.Author.Tests.{eqb-true}
use Rattle.std.proofs.Math.Path.{ap}
use mathlib.Core.List.{List}
use Rattle.std.proofs.Math.ListN.{length}
use Rattle.base_limits.specs.Verdict.{answer, written, refuse_if}
use Rattle.base_limits.specs.Laws.Verdict.{fine_left, fine_right, fine_refuse}
use Rattle.base_limits.specs.declared.Verdict.{Verdict}
use Rattle.base_limits.specs.declared.Verdict.TheVariants.{Fine, Refused}
use Rattle.format_print.specs.declared.Printed.TheVariants.{Length}
use Rattle.format_print.specs.Print.{answer_of, out_after}
use Rattle.format_also.specs.Laws.Render.{map_tabulate, tabulate_get_d, owners_from, others_from}
use Rattle.format_survey.specs.Line.{Edge, firsts_of, seconds_of, weights_of, Lengths}
use Rattle.format_survey.specs.Reading.{SurveyText, survey_of, reading}
use Rattle.format_survey.specs.WellFormed.{WithinCounts, SurveyRoom, survey_of_text}
use Rattle.format_survey.proofs.Laws.WellFormed.{read_render}
use Rattle.format_survey_print.specs.Laws.Print.{edges_count}
use Rattle.format_survey_print.specs.Print.{survey_of_lists, edge_at, edges_from, edges_in, pairs_in, survey_text, survey_print_refusal, survey_printed, survey_printed_out}

answered : (v : Verdict) (text : List ℕ) {n : ℕ} → answer_of v text ≡ Length n → (v ≡ Fine) × (length text ≡ n)
unfolding answer_of
answered Fine text e = (refl, cc)
answered (Refused number place) text e = let z : ◌≡◌ {A = ℕ} 0 1 = cc in absurd (omega arith)

not_false : (t : Bool) → not t ≡ false → t ≡ true
not_false true e = refl
not_false false e = sym e

module _ (groups firsts seconds weights owners others out : List ℕ) {n : ℕ} (called : survey_printed (survey_of_lists groups firsts seconds weights owners others) out ≡ Length n) where
  abbrev survey : SurveyText
  survey = survey_of_lists groups firsts seconds weights owners others

  fine : (survey_print_refusal survey out ≡ Fine) × (length (survey_text survey) ≡ n)
  unfolding survey_printed
  fine = answered (survey_print_refusal survey out) (survey_text survey) called

  -- Buffers that are read side by side are of one length.
  record Alike : Type 0 where
    seconds_alike : length firsts ≡ length seconds
    weights_alike : length firsts ≡ length weights
    others_alike : length owners ≡ length others

  alike : Alike
  unfolding survey_print_refusal
  alike =
      let first = fine_right _ _ fine.0 in
      let second = fine_right _ _ first in
      record {
        seconds_alike = equal (length firsts) (length seconds) (fine_left _ _ fine.0);
        weights_alike = equal (length firsts) (length weights) (fine_left _ _ first);
        others_alike = equal (length owners) (length others) (fine_left _ _ second);
      }
    where
      equal : (a b : ℕ) → refuse_if (not (eqb a b)) 2 0 ≡ Fine → a ≡ b
      equal a b h = eqb-true a b (not_false (eqb a b) (fine_refuse (not (eqb a b)) 2 0 h))

  -- The buffer begins with the text.
  pub printed_text : take n (survey_printed_out survey out) ≡ survey_text survey
  unfolding survey_printed_out out_after written
  printed_text = rw fine.0 (take_at (survey_text survey) _ n fine.1)

  lists : survey_of_text groups (pairs_in survey) (edges_in survey) ≡ survey
  unfolding survey_of_text survey_of edges_from firsts_of seconds_of weights_of
  lists i =
      let g = edge_at firsts seconds weights in
      record {
        vertices = length groups;
        edges = edges_count firsts seconds weights i;
        groups = groups;
        firsts = (map_tabulate (λ (e : Edge). e.first) (length firsts) g ∙ tabulate_get_d firsts (length firsts) refl) i;
        seconds = (map_tabulate (λ (e : Edge). e.second) (length firsts) g ∙ tabulate_get_d seconds (length firsts) alike.seconds_alike) i;
        weights = (map_tabulate (λ (e : Edge). e.weight) (length firsts) g ∙ tabulate_get_d weights (length firsts) alike.weights_alike) i;
        owners = owners_from owners others i;
        others = others_from owners others alike.others_alike i;
      }

  -- Of a survey within the counts and limits of the text, with any buffers that have room for it.
  pub printed_read : (lent : Lengths) → WithinCounts groups (pairs_in survey) (edges_in survey) → SurveyRoom lent groups (pairs_in survey) (edges_in survey)
      → reading (take n (survey_printed_out survey out)) lent ≡ answer survey
  unfolding survey_text
  printed_read lent within room =
      ap (λ (t : List ℕ). reading t lent) printed_text
      ∙ read_render lent groups (pairs_in survey) (edges_in survey) within room
      ∙ ap answer lists
