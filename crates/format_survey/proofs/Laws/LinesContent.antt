-- The words that an edge's line reads: the text of its values.
use Rattle.std.specs.Prelude.{ℕ, ◌≡◌, refl, List, [], ◌++◌}
use Rattle.std.proofs.Common.{arith, ap, sym, ◌∙◌, subst}
use Rattle.base_limits.specs.Limits.{endpoint_digits, weight_digits}
use Rattle.format_write.specs.Key.{comma, newline, link_key}
use Rattle.format_survey.specs.Line.{Edge, edge_line, EdgeDigits}
use Rattle.format_read.specs.Number.{number_text}
use Rattle.format_survey.specs.LinesRender.{edge_text}
use Rattle.format_read.proofs.Laws.NumberWord.{NumberWord, reads_number}
use Rattle.format_read.proofs.Laws.Keyed.{newline_no_digit, comma_no_digit}
use Rattle.format_read.specs.Language.{Reads, Seq, Empty, Fixed, Text}
use Rattle.format_read.proofs.Laws.Bytes.{reads_fixed}
use Rattle.format_read.proofs.Laws.Language.{reads_then, reads_as, reads_value, append_four}
use Rattle.format_read.specs.Lines.{whole}

EdgeParts : Edge → List ℕ → Type 0
EdgeParts =
    Seq (Fixed link_key) λ z. Seq (NumberWord endpoint_digits comma) λ u. Seq (NumberWord endpoint_digits comma) λ v. Seq (NumberWord weight_digits newline) λ w.
    Empty (record { first = u; second = v; weight = w })

pub reads_edge : (e : ℕ) → Reads (λ t at. edge_line t e at) (Text EdgeDigits edge_text) (Text EdgeDigits edge_text)
unfolding edge_line EdgeParts edge_text
reads_edge e =
    reads_as (λ t at. refl) to from to from
    (reads_then (reads_fixed link_key) λ z.
    reads_then (reads_number endpoint_digits comma (omega arith) comma_no_digit) λ u.
    reads_then (reads_number endpoint_digits comma (omega arith) comma_no_digit) λ v.
    reads_then (reads_number weight_digits newline (omega arith) newline_no_digit) λ w.
    reads_value (record { first = u; second = v; weight = w }))
  where
    to : (x : Edge) (w : List ℕ) → EdgeParts x w → Text EdgeDigits edge_text x w
    to x w m =
        let a = m.second in
        let b = a.second in
        let c = b.second in
        let d = c.second in
        let e : record { first = a.value; second = b.value; weight = c.value } ≡ x = sym d.value in
        record {
          holds = subst EdgeDigits e record { first = a.first.below; second = b.first.below; weight = c.first.below };
          word =
              m.whole ∙ ap (λ (z : List ℕ). z ++ m.right) m.first.word ∙ ap (λ (z : List ℕ). link_key ++ z)
              (a.whole ∙ ap (λ (z : List ℕ). z ++ a.right) a.first.word ∙ ap (λ (z : List ℕ). number_text comma a.value ++ z)
              (b.whole ∙ ap (λ (z : List ℕ). z ++ b.right) b.first.word ∙ ap (λ (z : List ℕ). number_text comma b.value ++ z)
              (c.whole ∙ ap (λ (z : List ℕ). z ++ c.right) c.first.word ∙ ap (λ (z : List ℕ). number_text newline c.value ++ z) d.word)))
              ∙ append_four link_key (number_text comma a.value) (number_text comma b.value) (number_text newline c.value)
              ∙ ap edge_text e;
        }

    from : (x : Edge) (w : List ℕ) → Text EdgeDigits edge_text x w → EdgeParts x w
    from x w m =
        record {
          value = 0;
          left = link_key;
          right = number_text comma x.first ++ (number_text comma x.second ++ (number_text newline x.weight ++ []));
          first = record { value = refl; word = refl };
          whole = m.word ∙ sym (append_four link_key (number_text comma x.first) (number_text comma x.second) (number_text newline x.weight));
          second = record {
            value = x.first;
            left = number_text comma x.first;
            right = number_text comma x.second ++ (number_text newline x.weight ++ []);
            first = record { below = m.holds.first; word = refl };
            whole = refl;
            second = record {
              value = x.second;
              left = number_text comma x.second;
              right = number_text newline x.weight ++ [];
              first = record { below = m.holds.second; word = refl };
              whole = refl;
              second = record {
                value = x.weight;
                left = number_text newline x.weight;
                right = [];
                first = record { below = m.holds.weight; word = refl };
                whole = refl;
                second = record { value = refl; word = refl };
              };
            };
          };
        }
