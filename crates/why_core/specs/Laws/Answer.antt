-- What the calls find, one after the other, is the answer for a kept track. `explain_kept` cites it.
use Rattle.std.specs.Prelude.{ℕ, ◌-◌, ◌≡◌, List, length, take}
use Rattle.std.proofs.Common.{ap, ap₂, ◌∙◌, subst}
use Rattle.base_limits.specs.Verdict.{Outcome, answer}
use Rattle.survey_core.specs.Survey.{Survey, survey_from}
use Rattle.why_rule.specs.Why.{WhyCounts}
use Rattle.why_core.specs.declared.parted.Pair.{Pair}
use Rattle.why_core.specs.Parted.{PairOf}
use Rattle.why_core.specs.Kept.{kept_counts, held_marks, marks_but, entries_for, route_left, KeptAnswer}

pub kept_found : (s : Survey) (lists marks : List ℕ) (e : ℕ) (route : List ℕ) (p : Pair) {rest all after : List ℕ} {size r : ℕ} {o : Outcome WhyCounts}
    → rest ≡ marks_but marks 1 e (length s.firsts) → PairOf s rest p
    → all ≡ marks_but marks 2 (length s.firsts) (length s.firsts) → size ≡ held_marks (length s.firsts)
    → r ≡ entries_for (survey_from lists s.firsts s.seconds s.weights) (take (size - 0) all) p route
    → after ≡ route_left (survey_from lists s.firsts s.seconds s.weights) (take (size - 0) all) p route
    → o ≡ answer (kept_counts p r) → KeptAnswer s lists marks e route o after
kept_found s lists marks e route p rest_are found all_are size_is r_is after_is told =
    let part = ap₂ (λ (k : ℕ) (l : List ℕ). take (k - 0) l) size_is all_are in
    let q = survey_from lists s.firsts s.seconds s.weights in
    record {
      pair = p;
      pair_is = subst (λ (l : List ℕ). PairOf s l p) rest_are found;
      counts_are = told ∙ ap (λ (n : ℕ). answer (kept_counts p n)) (r_is ∙ ap (λ (l : List ℕ). entries_for q l p route) part);
      route_is = after_is ∙ ap (λ (l : List ℕ). route_left q l p route) part;
    }
