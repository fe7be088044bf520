-- Surveys made one by hand (document 02, No. 9): one list, and one claim about it, proved by computation.
use Rattle.std.specs.Prelude.{ℕ, ◌≡◌, refl, List, [], ◌∷◌, map, replicate}
use Rattle.base_finite.specs.Below.{counted, sum_below, count_below, any_below, tabulate, those_below}
use Rattle.base_limits.specs.Verdict.{refuse_if, ◌before◌, lowest_below, Outcome, refusal, answer, outcome, written}
use Rattle.base_limits.specs.declared.Verdict.TheVariants.{Fine, Refused}
use Rattle.theory_route.specs.First.{first_below}
use Rattle.survey_core.specs.Survey.{Survey, survey_with, vertex_count, edge_count, member}
use Rattle.survey_core.specs.Lists.{is_paired, in_list}
use Rattle.survey_core.specs.Pairs.{is_rising, pair_refusal, pairs_refusal}
use Rattle.survey_core.specs.Refusal.{edge_refusal, survey_refusal}
use Rattle.merge_rule.specs.Ties.{Ties, ties_from, is_tied_below, is_tied, tie_of, is_untied, placed, merged_count, standing_at}
use Rattle.merge_rule.specs.Merged.{merged_vertices, second_at, own_at, belongs, is_further, merged_pairs, merged}
use Rattle.merge_rule.specs.Refusal.{SurveyCounts, counts_from, counts_of, room_of, tie_refusal, ties_refusal, large_refusal, room_refusal, merge_refusal, merging, over, merged_after}

-- What is answered, and what the six buffers hold then.
pub record Shown : Type 0 where
  pub answered : Outcome SurveyCounts
  pub buffers : Survey

pub record Example : Type 0 where
  pub first : Survey
  pub second : Survey
  pub ties : Ties
  pub out : Survey
  pub expected : Shown

unfoldable pub shown : Example → Shown
shown x =
    record {
      answered = merging x.first x.second x.ties (room_of x.out);
      buffers = merged_after x.first x.second x.ties x.out;
    }

-- Result buffers of the lengths n, m and k, which hold nines.
abbrev nines : (n m k : ℕ) → Survey
nines n m k = survey_with (replicate n 9) (replicate m 9) (replicate m 9) (replicate m 9) (replicate k 9) (replicate k 9)

-- Groups, first ends, second ends, prices, the v and the g of the pairs of each survey; the ties; the result buffers; and the result with its counts.
abbrev made : (first second : Survey) (ties : Ties) (out : Survey) (n m k : ℕ) (result : Survey) → Example
made first second ties out n m k result =
    record {
      first = first;
      second = second;
      ties = ties;
      out = out;
      expected = record { answered = answer (counts_from n m k); buffers = result };
    }

-- The same; the number and the place of the refusal. The buffers keep their nines.
abbrev refused : (first second : Survey) (ties : Ties) (out : Survey) (number place : ℕ) → Example
refused first second ties out number place =
    record { first = first; second = second; ties = ties; out = out; expected = record { answered = refusal number place; buffers = out } }

-- A path of three junctions, and one of two.
abbrev three : Survey
three = survey_with (1 ∷ 0 ∷ 2 ∷ []) (0 ∷ 1 ∷ []) (1 ∷ 2 ∷ []) (5 ∷ 7 ∷ []) [] []

abbrev two : Survey
two = survey_with (3 ∷ 1 ∷ []) (0 ∷ []) (1 ∷ []) (4 ∷ []) [] []

-- Junctions alone, with pairs.
abbrev alone : (groups owners others : List ℕ) → Survey
alone groups owners others = survey_with groups [] [] [] owners others

unfoldable pub examples : List Example
examples =
    -- the first's last junction is the second's first: it keeps 2, and 3 becomes a pair; past the result the buffers keep their nines
    made three two (ties_from (2 ∷ []) (0 ∷ [])) (nines 5 4 2) 4 3 1
    (survey_with (1 ∷ 0 ∷ 2 ∷ 1 ∷ 9 ∷ []) (0 ∷ 1 ∷ 2 ∷ 9 ∷ []) (1 ∷ 2 ∷ 3 ∷ 9 ∷ []) (5 ∷ 7 ∷ 4 ∷ 9 ∷ []) (2 ∷ 9 ∷ []) (3 ∷ 9 ∷ []))
    -- no ties: the second only moves up
    ∷ made three two (ties_from [] []) (nines 5 3 0) 5 3 0
    (survey_with (1 ∷ 0 ∷ 2 ∷ 3 ∷ 1 ∷ []) (0 ∷ 1 ∷ 3 ∷ []) (1 ∷ 2 ∷ 4 ∷ []) (5 ∷ 7 ∷ 4 ∷ []) [] [])
    -- two tracks between the same junctions stay two
    ∷ made three two (ties_from (2 ∷ 1 ∷ []) (0 ∷ 1 ∷ [])) (nines 3 3 1) 3 3 1
    (survey_with (1 ∷ 1 ∷ 2 ∷ []) (0 ∷ 1 ∷ 2 ∷ []) (1 ∷ 2 ∷ 1 ∷ []) (5 ∷ 7 ∷ 4 ∷ []) (2 ∷ []) (3 ∷ []))
    -- the first's own is 0 and its pair is 5, the second's own is 5: own 5, no pair
    ∷ made (alone (0 ∷ []) (0 ∷ []) (5 ∷ [])) (alone (5 ∷ []) [] []) (ties_from (0 ∷ []) (0 ∷ [])) (nines 1 0 0) 1 0 0 (alone (5 ∷ []) [] [])
    -- groups that the junction has in both surveys stand once
    ∷ made (alone (1 ∷ []) (0 ∷ 0 ∷ []) (4 ∷ 6 ∷ [])) (alone (4 ∷ []) (0 ∷ 0 ∷ []) (1 ∷ 2 ∷ [])) (ties_from (0 ∷ []) (0 ∷ [])) (nines 1 0 3) 1 0 3
    (alone (1 ∷ []) (0 ∷ 0 ∷ 0 ∷ []) (2 ∷ 4 ∷ 6 ∷ []))
    -- ties in any order: of the second's four, 2 stands at 0, 0 at 1, and 1 and 3 follow as 2 and 3; pairs rise by the result's numbers
    ∷ made (alone (7 ∷ 0 ∷ []) (1 ∷ []) (8 ∷ [])) (alone (1 ∷ 2 ∷ 3 ∷ 0 ∷ []) (1 ∷ 3 ∷ []) (9 ∷ 9 ∷ [])) (ties_from (0 ∷ 1 ∷ []) (2 ∷ 0 ∷ [])) (nines 4 0 4) 4 0 4
    (alone (7 ∷ 1 ∷ 2 ∷ 0 ∷ []) (0 ∷ 1 ∷ 2 ∷ 3 ∷ []) (3 ∷ 8 ∷ 9 ∷ 9 ∷ []))
    -- the first's, then the second's, then the ties': 5, 1, 2
    ∷ refused (survey_with (0 ∷ []) (0 ∷ []) (0 ∷ []) (1 ∷ []) [] []) (alone [] [] []) (ties_from (0 ∷ []) []) (nines 0 0 0) 5 0
    ∷ refused three (alone [] [] []) (ties_from (0 ∷ []) []) (nines 0 0 0) 1 0
    ∷ refused three two (ties_from (9 ∷ []) []) (nines 0 0 0) 2 0
    -- out of range in either survey; a junction already tied on either side; of two faults the lower tie
    ∷ refused three two (ties_from (0 ∷ 3 ∷ []) (0 ∷ 1 ∷ [])) (nines 0 0 0) 22 1
    ∷ refused three two (ties_from (0 ∷ 1 ∷ []) (0 ∷ 2 ∷ [])) (nines 0 0 0) 22 1
    ∷ refused three two (ties_from (1 ∷ 1 ∷ []) (0 ∷ 1 ∷ [])) (nines 0 0 0) 22 1
    ∷ refused three two (ties_from (0 ∷ 1 ∷ 2 ∷ []) (1 ∷ 0 ∷ 1 ∷ [])) (nines 0 0 0) 22 2
    ∷ refused three two (ties_from (0 ∷ 0 ∷ 8 ∷ []) (1 ∷ 1 ∷ 1 ∷ [])) (nines 0 0 0) 22 1
    ∷ []

-- Of results too large to compute here, by their counts: 449 junctions, 2,049 tracks, a 257th pair; and one at the limits.
pub too_large :
    map large_refusal (counts_from 449 2049 257 ∷ counts_from 448 2049 257 ∷ counts_from 448 2048 257 ∷ counts_from 448 2048 256 ∷ [])
    ≡ (Refused 1 0 ∷ Refused 3 0 ∷ Refused 18 256 ∷ Fine ∷ [])
unfolding large_refusal refuse_if ◌before◌
too_large = refl

-- And buffers one short of a result of 4 junctions, 3 tracks and a pair: groups, tracks, pairs; and just long enough.
pub too_short :
    map (λ out. room_refusal (counts_from 4 3 1) (room_of out)) (nines 3 3 1 ∷ nines 4 2 1 ∷ nines 4 3 0 ∷ nines 4 3 1 ∷ [])
    ≡ (Refused 7 0 ∷ Refused 7 0 ∷ Refused 7 0 ∷ Fine ∷ [])
unfolding room_refusal room_of refuse_if ◌before◌
too_short = refl

pub examples_hold : map shown examples ≡ map (λ x. x.expected) examples
unfolding
    examples shown merging merged_after over outcome written merge_refusal room_refusal large_refusal ties_refusal tie_refusal room_of counts_of
    merged merged_pairs is_further belongs own_at second_at merged_vertices standing_at merged_count placed is_untied tie_of is_tied is_tied_below
    survey_refusal edge_refusal pairs_refusal pair_refusal is_rising refuse_if ◌before◌ lowest_below vertex_count edge_count member in_list is_paired
    first_below count_below sum_below counted any_below tabulate those_below
examples_hold = refl
