-- The numbers of a track line that is read fit 32 bits.
use Rattle.std.specs.Prelude.{ℕ, ◌-◌, ◌<◌, List, [], ◌≡◌}
use Rattle.std.proofs.Common.{arith, subst}
use Rattle.base_limits.specs.Limits.{endpoint_digits, weight_digits}
use Rattle.format_write.specs.Key.{newline}
use Rattle.format_read.specs.Bytes.{fixed_at}
use Rattle.format_read.proofs.Laws.Step.{then_value}
use Rattle.format_read.specs.Step.{found}
use Rattle.format_read.specs.Number.{number_to}
use Rattle.format_read.proofs.Laws.Digits.{number_to_below}
use Rattle.format_survey.proofs.Laws.Tests.{below_word}
use Rattle.format_survey.specs.Line.{Edge, word_numbers}
use Rattle.format_stp.proofs.Laws.Number.{free_below}
use Rattle.format_stp.specs.StpKey.{edge_word, space}
use Rattle.format_stp.specs.StpNumber.{is_free}
use Rattle.format_stp.specs.StpReading.{stp_end, stp_edge}
use Rattle.format_stp.specs.StpWord.{after_empty}

pub record EdgeWords (e : Edge) : Type 0 where
  pub first : e.first < word_numbers
  pub second : e.second < word_numbers
  pub weight : e.weight < word_numbers

end_word_law : (n : ℕ) (t : List ℕ) (at : ℕ) {u p : ℕ} → stp_end n t at ≡ found u p → u - 1 < word_numbers
unfolding stp_end
end_word_law n t at {u} {p} e =
    let h = below_word endpoint_digits {x = u} (omega arith) (free_below (is_free [] 1 n) n space endpoint_digits t at u p (omega arith) e) in
    omega arith

pub edge_words : (n : ℕ) (t : List ℕ) (at : ℕ) {x : Edge} {next : ℕ} → after_empty (stp_edge n) t at ≡ found x next → EdgeWords x
unfolding after_empty stp_edge
edge_words n t at {x} {next} q =
    let k = then_value (fixed_at edge_word t _) _ q in
    let u = then_value (stp_end n t k.1) _ k.3 in
    let v = then_value (stp_end n t u.1) _ u.3 in
    let w = then_value (number_to weight_digits newline t v.1) _ v.3 in
    let same : ◌≡◌ {A = Edge} (record { first = u.0 - 1; second = v.0 - 1; weight = w.0 }) x = cc w.3 in
    subst EdgeWords same
    record {
      first = end_word_law n t k.1 u.2;
      second = end_word_law n t u.1 v.2;
      weight = below_word weight_digits (omega arith) (number_to_below t weight_digits newline v.1 w.0 w.1 (omega arith) w.2);
    }
