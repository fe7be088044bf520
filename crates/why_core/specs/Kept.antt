-- What is answered for a kept track, and what it leaves in the lent route, for any marks.
use Rattle.std.specs.Prelude.{ℕ, ◌-◌, ◌≡◌, cond, List, ◌++◌, length, take, drop, replicate, ltb}
use Rattle.base_finite.specs.Below.{counted}
use Rattle.base_limits.specs.Limits.{max_edges}
use Rattle.base_limits.specs.Verdict.{Outcome, answer, written}
use Rattle.base_buffer.specs.Store.{remade}
use Rattle.theory_route.specs.Route.{route_of}
use Rattle.survey_core.specs.Survey.{Survey, survey_from, problem_of}
use Rattle.survey_components.specs.Labels.{picked_in}
use Rattle.why_rule.specs.Why.{WhyCounts}
use Rattle.why_core.specs.Walk.{route_refusal}
use Rattle.why_core.specs.declared.parted.Pair.{Pair}
use Rattle.why_core.specs.Parted.{marked_but, PairOf}

-- The numbers of a kept track.
unfoldable pub kept_counts : Pair → (entries : ℕ) → WhyCounts
kept_counts p entries = record { kind = 2; group = p.group; low = p.smaller; high = p.larger; entries = entries; round = 0 }

-- How many of m marks there is room for.
unfoldable pub held_marks : ℕ → ℕ
held_marks m = cond (ltb max_edges m) max_edges m

-- The tracks below m with at least this mark, but one, as marks of kept tracks.
abbrev pub marks_but : (marks : List ℕ) → (least out m : ℕ) → List ℕ
marks_but marks least out m = remade (λ e x. counted (marked_but marks least out e) 2) m (replicate max_edges 0)

-- The kept ones of m tracks, as far as they are held.
abbrev pub kept_part : (marks : List ℕ) → (m held : ℕ) → List ℕ
kept_part marks m held = take (held - 0) (marks_but marks 2 m m)

-- The route of a pair, how long it is, and what a buffer holds then; none where it is refused.
abbrev pub route_for : Survey → (kept : List ℕ) → Pair → List ℕ
route_for q kept p = route_of (problem_of q) (picked_in kept) p.smaller p.larger

abbrev pub entries_for : Survey → (kept : List ℕ) → Pair → (route : List ℕ) → ℕ
entries_for q kept p route = written (route_refusal q kept (length route)) (length (route_for q kept p)) 0

abbrev pub route_left : Survey → (kept : List ℕ) → Pair → (route : List ℕ) → List ℕ
route_left q kept p route =
    written (route_refusal q kept (length route)) (route_for q kept p ++ drop (length (route_for q kept p)) route) route

-- The pair that the tracks with a mark leave apart without e, and its route over those with mark 2.
pub record KeptAnswer (s : Survey) (lists marks : List ℕ) (e : ℕ) (route : List ℕ) (o : Outcome WhyCounts) (after : List ℕ) : Type 0 where
  pub pair : Pair
  pub pair_is : PairOf s (marks_but marks 1 e (length s.firsts)) pair
  pub counts_are :
      o
      ≡ answer
      (kept_counts pair
      (entries_for (survey_from lists s.firsts s.seconds s.weights) (kept_part marks (length s.firsts) (held_marks (length s.firsts))) pair route))
  pub route_is :
      after
      ≡ route_left (survey_from lists s.firsts s.seconds s.weights) (kept_part marks (length s.firsts) (held_marks (length s.firsts))) pair route
