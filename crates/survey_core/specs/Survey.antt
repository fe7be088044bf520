-- A survey, its lists, and the Steiner forest problem that it poses (document 01, 'The survey and the plan'; document 02, No. 2).
use Rattle.std.specs.Prelude.{ℕ, ◌<◌, ◌≡◌, Bool, true, ◌&&◌, ◌||◌, not, [], List, length, get_or, eqb}
use Rattle.base_finite.specs.Below.{all_below}
use Rattle.theory_graph.specs.Path.{Linked}
use Rattle.theory_graph.specs.Component.{components}
use Rattle.theory_steiner.specs.Problem.{Problem}
use Rattle.survey_core.specs.Lists.{Lists, lists_from, in_list, same_list}

-- The six buffers of a call: n is the length of the groups, m that of the first ends. A pair says that a vertex (owners) is in a further list (others).
pub record Survey : Type 0 where
  pub groups : List ℕ
  pub firsts : List ℕ
  pub seconds : List ℕ
  pub weights : List ℕ
  pub owners : List ℕ
  pub others : List ℕ

-- The survey that six buffers are.
abbrev pub survey_with : (groups firsts seconds weights owners others : List ℕ) → Survey
survey_with groups firsts seconds weights owners others =
    record { groups = groups; firsts = firsts; seconds = seconds; weights = weights; owners = owners; others = others }

-- The survey that six lent buffers held when the call began.
abbrev pub lent_with : (groups firsts seconds weights owners others : List ℕ) → Survey
lent_with groups firsts seconds weights owners others =
    survey_with groups firsts seconds weights owners others

-- A survey without pairs, by its four buffers.
abbrev pub survey_from : (groups firsts seconds weights : List ℕ) → Survey
survey_from groups firsts seconds weights = survey_with groups firsts seconds weights [] []

abbrev pub lent_survey : (groups firsts seconds weights : List ℕ) → Survey
lent_survey groups firsts seconds weights = survey_from groups firsts seconds weights

-- Lists with no track, and groups with none.
abbrev pub lists_alone : (groups owners others : List ℕ) → Survey
lists_alone groups owners others = survey_with groups [] [] [] owners others

abbrev pub groups_alone : List ℕ → Survey
groups_alone groups = survey_from groups [] [] []

unfoldable pub vertex_count : Survey → ℕ
vertex_count s = length s.groups

unfoldable pub edge_count : Survey → ℕ
edge_count s = length s.firsts

-- The lists of a survey.
abbrev pub lists_of : Survey → Lists
lists_of s = lists_from s.groups s.owners s.others

-- v is a member of group g; 0 is no group.
unfoldable pub member : Survey → (g v : ℕ) → Bool
member s g v = in_list (lists_of s) g v

-- r(u, v) of source 001: the two belong to the same group.
unfoldable pub same_group : Survey → (u v : ℕ) → Bool
same_group s u v = same_list (lists_of s) u v

-- The problem of a survey, with all its tracks to choose from.
unfoldable pub problem_of : Survey → Problem
problem_of s =
    record {
      vertices = vertex_count s;
      edges = edge_count s;
      first = λ e. get_or s.firsts e 0;
      second = λ e. get_or s.seconds e 0;
      weight = λ e. get_or s.weights e 0;
      usable = λ e. true;
      required = same_group s;
    }

-- Any two members of group g are linked by tracks of F.
abbrev pub JoinsGroup : Survey → (ℕ → Bool) → ℕ → Type 0
JoinsGroup s F g =
    (u v : ℕ) → u < vertex_count s → v < vertex_count s → member s g u ≡ true → member s g v ≡ true
    → Linked (problem_of s).first (problem_of s).second F u v

-- The same by labels: any two members of group g have the same one.
unfoldable pub group_joined : Survey → (label : ℕ → ℕ) → (g : ℕ) → Bool
group_joined s label g =
    all_below (vertex_count s) (λ u. all_below (vertex_count s) (λ v. not (member s g u && member s g v) || eqb (label u) (label v)))

-- Labels of the components that a set of tracks makes.
unfoldable pub components_of : Survey → (ℕ → Bool) → ℕ → ℕ
components_of s F = components (vertex_count s) (problem_of s).first (problem_of s).second F (edge_count s)
