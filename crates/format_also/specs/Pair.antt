-- The also lines of a survey's text (document 02, No. 2): each names a junction and a further group of it. They stand behind the node lines, at
-- most 256, rising by junction, then by group. When a line is complete it is tested: 17, then 18, then 7.
use Rattle.std.specs.Prelude.{ℕ, ◌+◌, ◌*◌, not, cond, List, map, length, get_or, set, eqb, leb}
use Rattle.base_limits.specs.Limits.{group_numbers, max_pairs, also_digits}
use Rattle.base_limits.specs.Verdict.{refuse_if, ◌before◌}
use Rattle.base_limits.specs.declared.Verdict.{Verdict}
use Rattle.format_write.specs.Key.{also_key, comma, newline}
use Rattle.format_read.specs.Step.{Step, found, refused, ◌then◌, checked}
use Rattle.format_read.specs.Lines.{Lines}
use Rattle.format_read.specs.Bytes.{byte_is, fixed_at}
use Rattle.format_read.specs.Items.{ItemReader, items_from}
use Rattle.format_read.specs.Number.{also_letter, number_to, OfDigits}

-- A junction and a further group of it.
pub record Pair : Type 0 where
  pub owner : ℕ
  pub other : ℕ

abbrev pub pair_of : (v g : ℕ) → Pair
pair_of v g = record { owner = v; other = g }

-- The numbers of an also line have no more digits than it may give them.
pub record PairDigits (x : Pair) : Type 0 where
  pub owner : OfDigits also_digits x.owner
  pub other : OfDigits also_digits x.other

unfoldable pub owners_of : List Pair → List ℕ
owners_of = map (λ x. x.owner)

unfoldable pub others_of : List Pair → List ℕ
others_of = map (λ x. x.other)

-- A number for each pair that rises by v, then by g, and is never 0.
unfoldable pub rank : Pair → ℕ
rank x = group_numbers * x.owner + x.other + 1

-- A line, before it is tested.
unfoldable pub pair_at : List ℕ → (at : ℕ) → Step Pair
pair_at t at =
    fixed_at also_key t at then λ z a.
    number_to also_digits comma t a then λ v b.
    number_to also_digits newline t b then λ g c.
    found (pair_of v g) c

-- The tests of pair i: 17 at v where g is no group; 18 where v is no junction, g is 0 or v's own group, or the pair does not rise above the one
-- before it, whose rank is low (0 for none); 7 where the pair buffers have room for so many pairs only.
unfoldable pub also_test : (groups : List ℕ) (room low i : ℕ) → Pair → Verdict
also_test groups room low i x =
    refuse_if (leb group_numbers x.other) 17 x.owner
    before refuse_if (leb (length groups) x.owner) 18 i
    before refuse_if (eqb x.other 0) 18 i
    before refuse_if (eqb x.other (get_or groups x.owner 0)) 18 i
    before refuse_if (leb (rank x) low) 18 i
    before refuse_if (leb room i) 7 0

-- Line i of its kind; past the last that may be, no such line stands in a survey's text.
unfoldable pub also_line : List ℕ → (groups : List ℕ) (room low i at : ℕ) → Step Pair
also_line t groups room low i at =
    cond (leb max_pairs i) (refused 16 at) (pair_at t at then λ x p. checked (also_test groups room low i x) x p)

-- Also lines stand as long as a line begins like one; what is kept is the rank of the last.
unfoldable pub also_reader : List ℕ → (groups : List ℕ) (room : ℕ) → ItemReader ℕ Pair
also_reader t groups room = record { stop = λ at. not (byte_is t at also_letter); item = also_line t groups room; after = λ low x. rank x }

-- No line behind the last that may be is looked at twice, so that one turn more than these is enough.
abbrev pub also_turns : ℕ
also_turns = max_pairs + 1

unfoldable pub also_at : List ℕ → (groups : List ℕ) (room at : ℕ) → Lines ℕ Pair
also_at t groups room at = items_from (also_reader t groups room) also_turns 0 0 at

-- Where the lines end, with their number.
unfoldable pub pairs_counted : Lines ℕ Pair → Step ℕ
pairs_counted lines = lines.end then λ low p. found (length lines.values) p

-- ---- one store after another, as the reading does it

abbrev pub put_owner : List ℕ → ℕ → Pair → List ℕ
put_owner owners i x = set owners i x.owner

abbrev pub put_other : List ℕ → ℕ → Pair → List ℕ
put_other others i x = set others i x.other
