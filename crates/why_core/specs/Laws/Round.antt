-- The picks merged in the order of the rounds give the components of the growth after each round, so the round that is found is the definition's. `explain` cites it for a track that was not picked.
use Prim.Native.Nat.{ℕ, zero, suc, ◌<◌, ◌≤◌}
use Rattle.std.proofs.Common.{arith, ◌∙◌, subst}
use Rattle.std.specs.Prelude.{◌≡◌, refl, Bool, List, length, get_or, ltb}
use Rattle.std.proofs.Math.Path.{ap, sym}
use Rattle.std.proofs.Math.Logic.{⊎_elim}
use Rattle.std.proofs.Math.Bool.{true}
use Rattle.std.proofs.lemmas.Bool.{false≢true}
use borrow.Author.Tests.{eqb-true, eq-eqb, lt-ltb, ltb-true}
use Rattle.base_finite.specs.Laws.Test.{same_test_law, and_left, and_both}
use Rattle.base_finite.specs.Laws.Below.{below_suc}
use Rattle.base_limits.specs.Limits.{max_vertices}
use Rattle.theory_graph.specs.Path.{Leads, forth, back, Linked, here, step}
use Rattle.theory_graph.proofs.Laws.Component.{below, components_iff}
use Rattle.theory_steiner.specs.Problem.{Problem, Sound}
use Rattle.theory_steiner.specs.Growth.{State, start, Winner, nobody, edge, winner, pick, state_at, grown}
use Rattle.theory_steiner.proofs.Laws.Partition.{label_iff_linked}
use Rattle.theory_steiner.proofs.Laws.Round.{pick_more, pick_new, pick_only}
use Rattle.theory_steiner.proofs.Laws.Rounds.{state_at_pick, takes_rounds}
use Rattle.survey_core.specs.Survey.{Survey, vertex_count, edge_count, problem_of}
use Rattle.survey_core.specs.Sound.{SurveySound}
use Rattle.survey_core.proofs.Laws.Refusal.{survey_sound}
use Rattle.plan_rounds.specs.Represents.{pick_at, winner_edge}
use Rattle.why_rule.specs.Reason.{joined_after, first_or_zero, round_of}
use Rattle.why_rule.proofs.Laws.First.{zero_cong}
use Rattle.why_core.specs.Replay.{labels_after, linked_after, round_in}

-- The pick of which round f is.
record PickedAt (p : Problem) (r f : ℕ) : Type 0 where
  at : ℕ
  before : at < r
  is : pick_at p at ≡ f

-- A round below the last has a winner.
record Won (p : Problem) (r : ℕ) : Type 0 where
  e : ℕ
  d : ℕ
  wins : winner p (state_at p r) ≡ edge e d

module _ (p : Problem) (ok : Sound p) (some : 0 < p.vertices) where
  won : (r : ℕ) → r < (grown p).rounds → Won p r
  won r b = by (winner p (state_at p r)) refl
    where
      by : (w : Winner) → winner p (state_at p r) ≡ w → Won p r
      by nobody h = absurd ((takes_rounds p ok some).won r b h)
      by (edge e d) h = record { e = e; d = d; wins = h }

  pick_is : (r : ℕ) (w : Won p r) → pick_at p r ≡ w.e
  unfolding pick_at winner_edge
  pick_is r w = ap winner_edge w.wins

  now : (r f : ℕ) (w : Won p r) → (state_at p (suc r)).picked f ≡ (pick p (state_at p r) w.e w.d).picked f
  now r f w = ap (λ (s : State). s.picked f) (state_at_pick p r w.e w.d w.wins)

  -- What is picked after r rounds are the picks of the first r.
  picked_by : (r : ℕ) → r ≤ (grown p).rounds → (f : ℕ) → (state_at p r).picked f ≡ true → PickedAt p r f
  unfolding state_at start
  picked_by zero b f h = absurd (false≢true h)
  picked_by (suc r) b f h = by (λ k. picked_by r (omega arith) f k) (won r (omega arith))
    where
      by : ((state_at p r).picked f ≡ true → PickedAt p r f) → Won p r → PickedAt p (suc r) f
      by earlier w =
          ⊎_elim
          (λ old. let k : PickedAt p r f = earlier old in record { at = k.at; before = let l = k.before in omega arith; is = k.is })
          (λ same. record { at = r; before = omega arith; is = pick_is r w ∙ sym same })
          (pick_only p (state_at p r) w.e w.d f (sym (now r f w) ∙ h))

  picks_in : (r : ℕ) → r ≤ (grown p).rounds → (i : ℕ) → i < r → (state_at p r).picked (pick_at p i) ≡ true
  picks_in zero b i l = absurd (omega arith)
  picks_in (suc r) b i l = by (λ k. picks_in r (omega arith) i k) (won r (omega arith))
    where
      by : (i < r → (state_at p r).picked (pick_at p i) ≡ true) → Won p r → (state_at p (suc r)).picked (pick_at p i) ≡ true
      by earlier w =
          ⊎_elim
          (λ k. now r (pick_at p i) w ∙ pick_more p (state_at p r) w.e w.d (pick_at p i) (earlier k))
          (λ same.
          subst (λ f. (state_at p (suc r)).picked f ≡ true) (sym (ap (pick_at p) same ∙ pick_is r w))
          (now r w.e w ∙ pick_new p (state_at p r) w.e w.d))
          (below_suc i r l)

module _ (q : Survey) (sound : SurveySound q) (order : List ℕ) (long : length order ≡ (grown (problem_of q)).rounds)
    (order_at : (i : ℕ) → i < length order → get_or order i 0 ≡ pick_at (problem_of q) i) where
  ok : Sound (problem_of q)
  ok = survey_sound q sound

  some : 0 < (problem_of q).vertices
  unfolding problem_of vertex_count
  some = sound.some

  abbrev first : ℕ → ℕ
  first e = get_or q.firsts e 0

  abbrev second : ℕ → ℕ
  second e = get_or q.seconds e 0

  -- Pick i as an edge.
  abbrev a : ℕ → ℕ
  a i = get_or q.firsts (get_or order i 0) 0

  abbrev b : ℕ → ℕ
  b i = get_or q.seconds (get_or order i 0) 0

  abbrev all : ℕ → Bool
  all i = true

  module _ (r : ℕ) (within : r ≤ length order) where
    abbrev F : ℕ → Bool
    F = (state_at (problem_of q) r).picked

    leads_order : {i u v : ℕ} → Leads a b i u v → Leads first second (get_or order i 0) u v
    leads_order (forth h k) = forth h k
    leads_order (back h k) = back h k

    order_leads : (i : ℕ) {u v : ℕ} → Leads first second (get_or order i 0) u v → Leads a b i u v
    order_leads i (forth h k) = forth h k
    order_leads i (back h k) = back h k

    by_picks : {u v : ℕ} → Linked a b (below all r) u v → Linked first second F u v
    by_picks here = here
    by_picks (step i h l rest) =
        let c : i < r = ltb-true i r (and_left (ltb i r) true h) in
        step (get_or order i 0)
        (ap F (order_at i (omega arith)) ∙ picks_in (problem_of q) ok some r (omega (arith, long)) i c)
        (leads_order l) (by_picks rest)

    to_picks : {u v : ℕ} → Linked first second F u v → Linked a b (below all r) u v
    to_picks here = here
    to_picks (step {u} {v} f h l rest) =
        let k : PickedAt (problem_of q) r f = picked_by (problem_of q) ok some r (omega (arith, long)) f h in
        let c : k.at < r = k.before in
        let same : f ≡ get_or order k.at 0 = sym k.is ∙ sym (order_at k.at (omega arith)) in
        step k.at (and_both (ltb k.at r) true (lt-ltb k.at r c) refl)
        (order_leads k.at (subst (λ x. Leads first second x u v) same l)) (to_picks rest)

    linked_is : (e : ℕ) → e < edge_count q → linked_after q.firsts q.seconds order e r ≡ joined_after (problem_of q) e r
    unfolding linked_after labels_after joined_after problem_of vertex_count edge_count
    linked_is e b' =
        let fb = (sound.edges e b').first_below_law in
        let sb = (sound.edges e b').second_below in
        let labels = components_iff max_vertices a b all r (first e) (second e) in
        let grows = label_iff_linked (problem_of q) ok r (first e) (second e) fb sb in
        same_test_law _ _
        (λ h. eq-eqb _ _ (grows.1 (by_picks (labels.0 (eqb-true _ _ h)))))
        (λ h. eq-eqb _ _ (labels.1 (to_picks (grows.0 (eqb-true _ _ h)))))

  -- The round that the picks give is the growth's.
  pub round_is : (e : ℕ) → e < edge_count q → round_in q.firsts q.seconds order e ≡ round_of (problem_of q) e
  unfolding round_in round_of
  round_is e known =
      zero_cong (suc (length order)) (linked_after q.firsts q.seconds order e) (joined_after (problem_of q) e) (λ r l. linked_is r (omega arith) e known)
      ∙ ap (λ n. first_or_zero (suc n) (joined_after (problem_of q) e)) long

-- Problems with the same ends and the same growth have the same rounds.
pub round_same : (p q : Problem) → p.first ≡ q.first → p.second ≡ q.second → grown p ≡ grown q → ((k : ℕ) → state_at p k ≡ state_at q k) → (e : ℕ)
    → round_of p e ≡ round_of q e
unfolding round_of joined_after
round_same p q firsts seconds ends states e =
    zero_cong (suc (grown p).rounds) _ _ (λ r l. rw (states r, firsts, seconds)) ∙ ap (λ (s : State). first_or_zero (suc s.rounds) (joined_after q e)) ends
