-- Two surveys side by side, with no junction in common (document 02, No. 9 without ties): the second with all its junctions moved up.
use Rattle.std.specs.Prelude.{ℕ, ◌+◌, [], map, ◌++◌}
use Rattle.survey_core.specs.Survey.{Survey, survey_with, vertex_count}
use Rattle.merge_rule.specs.Ties.{Ties, ties_from}

abbrev pub no_ties : Ties
no_ties = ties_from [] []

unfoldable pub shifted : (n : ℕ) → Survey → Survey
shifted n s = survey_with s.groups (map (λ v. n + v) s.firsts) (map (λ v. n + v) s.seconds) s.weights (map (λ v. n + v) s.owners) s.others

-- One behind the other, buffer by buffer.
unfoldable pub behind : (a b : Survey) → Survey
behind a b =
    survey_with (a.groups ++ b.groups) (a.firsts ++ b.firsts) (a.seconds ++ b.seconds) (a.weights ++ b.weights) (a.owners ++ b.owners) (a.others ++ b.others)

unfoldable pub beside : (a b : Survey) → Survey
beside a b = behind a (shifted (vertex_count a) b)
