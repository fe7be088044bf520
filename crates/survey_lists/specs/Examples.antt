-- Lists worked by hand (document 02, No. 2): one list, and one claim about it, proved by computation.
use Rattle.std.specs.Prelude.{ℕ, ◌+◌, ◌/◌, ◌%◌, ◌≡◌, refl, List, [], ◌∷◌, map}
use Rattle.base_finite.specs.Below.{counted, sum_below, count_below, any_below, tabulate, lookup, memo}
use Rattle.base_limits.specs.Verdict.{refuse_if, ◌before◌, lowest_below, Outcome, refusal, answer, outcome}
use Rattle.theory_graph.specs.Component.{merged, components}
use Rattle.theory_steiner.specs.Problem.{terminal, terminals}
use Rattle.survey_core.specs.Survey.{vertex_count, edge_count, lists_alone, same_group, problem_of}
use Rattle.survey_core.specs.Lists.{Lists, lists_from, is_paired, in_list, same_list}
use Rattle.survey_core.specs.Pairs.{is_rising, pair_refusal, pairs_refusal}
use Rattle.survey_lists.specs.Pouring.{home_below, home, poured_label, poured_groups}

-- k of the lists, and the groups that they are poured into.
pub record Figures : Type 0 where
  pub sites : ℕ
  pub poured : List ℕ

-- 18, or these figures.
unfoldable pub figures : Lists → Outcome Figures
figures l =
    outcome (pairs_refusal l)
    (record { sites = terminals (problem_of (lists_alone l.groups l.owners l.others)); poured = poured_groups l })

pub record Example : Type 0 where
  pub lists : Lists
  pub expected : Outcome Figures

-- Groups by junction, the v and the g of the pairs; k and the poured groups.
abbrev sound : (groups owners others : List ℕ) → ℕ → List ℕ → Example
sound groups owners others k poured = record { lists = lists_from groups owners others; expected = answer (record { sites = k; poured = poured }) }

-- The same; the lowest pair that has something wrong.
abbrev refused : (groups owners others : List ℕ) → ℕ → Example
refused groups owners others place = record { lists = lists_from groups owners others; expected = refusal 18 place }

unfoldable pub examples : List Example
examples =
    -- no pairs: the groups stay
    sound (3 ∷ 0 ∷ 3 ∷ []) [] [] 2 (3 ∷ 0 ∷ 3 ∷ [])
    -- three lists, {0}, {0, 1} and {1, 2}, become one
    ∷ sound (1 ∷ 2 ∷ 3 ∷ 0 ∷ []) (0 ∷ 1 ∷ []) (2 ∷ 3 ∷ []) 3 (1 ∷ 1 ∷ 1 ∷ 0 ∷ [])
    -- a chain through junction 1, which has two pairs and no own group
    ∷ sound (1 ∷ 0 ∷ 2 ∷ []) (1 ∷ 1 ∷ []) (1 ∷ 2 ∷ []) 3 (1 ∷ 1 ∷ 1 ∷ [])
    -- two equal lists: each member counts once
    ∷ sound (4 ∷ 4 ∷ []) (0 ∷ 1 ∷ []) (7 ∷ 7 ∷ []) 2 (4 ∷ 4 ∷ [])
    -- lists of one member each, two of them of the same: no site
    ∷ sound (1 ∷ 2 ∷ 0 ∷ []) (0 ∷ 2 ∷ []) (3 ∷ 5 ∷ []) 0 (1 ∷ 2 ∷ 5 ∷ [])
    -- lists with neighbouring numbers that share no member stay apart
    ∷ sound (1 ∷ 1 ∷ 2 ∷ 2 ∷ []) (0 ∷ []) (3 ∷ []) 4 (1 ∷ 1 ∷ 2 ∷ 2 ∷ [])
    -- the home's number stands for both, also where it is the higher
    ∷ sound (9 ∷ 2 ∷ 2 ∷ []) (0 ∷ []) (2 ∷ []) 3 (9 ∷ 9 ∷ 9 ∷ [])
    -- v is n; g is 0; g is v's own group
    ∷ refused (1 ∷ 1 ∷ []) (0 ∷ 2 ∷ []) (5 ∷ 5 ∷ []) 1
    ∷ refused (1 ∷ 1 ∷ []) (0 ∷ []) (0 ∷ []) 0
    ∷ refused (1 ∷ 2 ∷ []) (1 ∷ []) (2 ∷ []) 0
    -- v falls; g falls; two equal pairs; 300 equal pairs
    ∷ refused (1 ∷ 1 ∷ []) (1 ∷ 0 ∷ []) (5 ∷ 6 ∷ []) 1
    ∷ refused (1 ∷ 1 ∷ []) (0 ∷ 0 ∷ []) (6 ∷ 5 ∷ []) 1
    ∷ refused (1 ∷ 1 ∷ []) (0 ∷ 0 ∷ []) (5 ∷ 5 ∷ []) 1
    ∷ refused (1 ∷ 1 ∷ []) (tabulate 300 (λ i. 0)) (tabulate 300 (λ i. 5)) 1
    -- 257 pairs in rising order
    ∷ refused (0 ∷ 0 ∷ []) (tabulate 257 (λ i. i / 255)) (tabulate 257 (λ i. i % 255 + 1)) 256
    ∷ []

pub examples_hold : map (λ x. figures x.lists) examples ≡ map (λ x. x.expected) examples
unfolding
    examples figures outcome pairs_refusal pair_refusal is_rising refuse_if ◌before◌ lowest_below
    terminals terminal count_below sum_below counted any_below problem_of same_group vertex_count edge_count
    same_list in_list is_paired poured_groups poured_label home home_below components merged memo tabulate lookup
examples_hold = refl
