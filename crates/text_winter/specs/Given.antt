-- The strength lines behind a survey's text (document 02, No. 13): each names a group and its strength, rising by group, up to the end of the text. A group
-- that no line names has strength 1. When a line is complete it is tested: 24.
use Rattle.std.specs.Prelude.{ℕ, ◌-◌, ◌||◌, List, length, set, replicate, leb, ltb}
use Rattle.base_limits.specs.Verdict.{refuse_if, ◌before◌}
use Rattle.base_limits.specs.declared.Verdict.{Verdict}
use Rattle.format_write.specs.Key.{ascii, comma, newline}
use Rattle.format_read.specs.Step.{Step, found, refused, ◌then◌, checked}
use Rattle.format_read.specs.Lines.{Lines}
use Rattle.format_read.specs.Bytes.{fixed_at}
use Rattle.format_read.specs.Items.{ItemReader, items_from, puts}
use Rattle.format_read.specs.Number.{number_to}
use Rattle.winter_rule.specs.Winter.{strength_count, strength_refusal}
use Rattle.text_winter.specs.declared.GivenLine.{GivenLine}
use Rattle.text_winter.specs.declared.GivenLine.TheVariants.{Given as GivenVariant, Refused}

unfoldable pub strength_key : List ℕ
strength_key = ascii "strength="

-- digits of a number in a strength line, at most
abbrev pub strength_digits : ℕ
strength_digits = 3

-- A group and its strength.
pub record Given : Type 0 where
  pub group : ℕ
  pub strength : ℕ

abbrev pub given_of : (group strength : ℕ) → Given
given_of group strength = record { group = group; strength = strength }

-- A line, before it is tested.
unfoldable pub given_at : List ℕ → (at : ℕ) → Step Given
given_at t at =
    fixed_at strength_key t at then λ z a.
    number_to strength_digits comma t a then λ g b.
    number_to strength_digits newline t b then λ x c.
    found (given_of g x) c

-- 24 at the group: one that is not above the group before (0 for none) or is none; or a strength of 0 or over 15.
unfoldable pub given_test : (low : ℕ) → Given → Verdict
given_test low x = refuse_if (leb x.group low || ltb strength_count x.group) 24 x.group before strength_refusal x.strength x.group

unfoldable pub given_line : List ℕ → (low at : ℕ) → Step Given
given_line t low at = given_at t at then λ x p. checked (given_test low x) x p

-- Strength lines stand up to the end of the text; what is kept is the group of the last.
unfoldable pub given_reader : List ℕ → ItemReader ℕ Given
given_reader t = record { stop = λ at. leb (length t) at; item = λ low i at. given_line t low at; after = λ low x. x.group }

-- No more lines rise than there are groups, so that one turn more than these is enough.
abbrev pub given_turns : ℕ
given_turns = 256

unfoldable pub givens_at : List ℕ → (at : ℕ) → Lines ℕ Given
givens_at t at = items_from (given_reader t) given_turns 0 0 at

-- ---- the strengths

abbrev pub put_strength : List ℕ → ℕ → Given → List ℕ
put_strength strengths i x = set strengths (x.group - 1) x.strength

-- Those that are named, and 1 for the others.
unfoldable pub strengths_from : List Given → List ℕ
strengths_from lines = puts put_strength (replicate strength_count 1) 0 lines

-- What the answer of a line says.
unfoldable pub given_step : GivenLine → Step Given
given_step (GivenVariant group strength next) = found (given_of group strength) next.at
given_step (Refused number place) = refused number place
