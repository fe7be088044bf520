-- One edge closed (document 02, No. 12). An edge that growth never picked can be closed without a change: every round has the same winner, so all of
-- the plan is the same, and the same required pairs can be joined. The accuracy rule of the closed plan speaks of the sets that avoid the edge. Planning
-- with tracks closed one by one uses it: only a track that is picked needs a growth of its own, and only one that is kept can give refusal 8.
use Prim.Native.Nat.{ℕ, zero, suc, ◌*◌, ◌-◌, ◌≤◌, ◌<◌}
use Rattle.std.specs.Prelude.{◌≡◌, ◌⊎◌, ◌↔◌, Bool, ◌&&◌, eqb, ltb}
use Rattle.std.proofs.Math.Path.{refl, ap}
use Rattle.std.proofs.Common.{sym, ◌∙◌, subst, inl, inr, ⊎_elim, arith}
use Rattle.std.proofs.Math.Bool.{true, false, not}
use Rattle.std.proofs.Math.Decide.{ℕ_discrete}
use Rattle.base_finite.specs.Below.{tabulate}
use Rattle.base_finite.specs.Laws.Test.{either, not_true_false, true_not_false, same_test_law}
use Rattle.base_finite.specs.Laws.Below.{lt_or_ge}
use Rattle.theory_graph.specs.Path.{Linked, without}
use Rattle.theory_graph.proofs.Laws.Linked.{linked_trans, linked_mono, linked_without, without_elim, without_intro, Through, avoids, forwards, backwards, through_without, linked_sym}
use Rattle.theory_steiner.specs.Problem.{Problem, Sound, EdgeSet, all_usable, Joins, joined, separates, cost, terminal, terminals}
use Rattle.theory_steiner.specs.Growth.{State, active, numbers, load, slack, never, after, delay, Winner, nobody, edge, winner, pick, advance, state_at, grown}
use Rattle.theory_steiner.specs.Dual.{duals_of}
use Rattle.theory_steiner.specs.Pruning.{needed, picked, kept, mark_of, mark, dual_bound}
use Rattle.theory_steiner.specs.Requirement.{SamePlan}
use Rattle.theory_steiner.specs.Closed.{closing}
use Rattle.theory_steiner.proofs.Laws.Round.{state_at_reached, pick_more, pick_new}
use Rattle.theory_steiner.proofs.Laws.Winner.{never_after, Wins, Decided, none, one, decided}
use Rattle.theory_steiner.proofs.Laws.Partition.{partition, picked_usable}
use Rattle.theory_steiner.proofs.Laws.Rounds.{state_at_pick, state_at_still, state_at_last, grown_reached, grown_still}
use Rattle.theory_steiner.proofs.Laws.Finish.{all_usable_all, active_closed, resting_pair, kept_joins, kept_edges}
use Rattle.theory_steiner.proofs.Laws.KeptAccuracy.{kept_within_factor}

-- ---- the winner is the only edge that wins

wins_same_edge : (p : Problem) (s : State) (k e d f c : ℕ) → Wins p s k e d → Wins p s k f c → e ≡ f
wins_same_edge p s k e d f c w v =
    ⊎_elim
    (λ l. absurd (omega (arith, v.lowest e d l w.delayed, w.least f c v.below v.delayed)))
    (λ g.
    ⊎_elim
    (λ l. absurd (omega (arith, w.lowest f c l v.delayed, v.least e d w.below w.delayed)))
    (λ h. omega arith)
    (lt_or_ge f e))
    (lt_or_ge e f)

decided_same : (p : Problem) (s : State) (k : ℕ) {w v : Winner} → Decided p s k w → Decided p s k v → w ≡ v
decided_same p s k (none h) (none g) = refl
decided_same p s k (none h) (one {e = e} {d = d} v) = never_after d (sym (h e v.below) ∙ v.delayed)
decided_same p s k (one {e = e} {d = d} w) (none g) = never_after d (sym (g e w.below) ∙ w.delayed)
decided_same p s k (one {e = e} {d = d} w) (one {e = f} {d = c} v) =
    let same : e ≡ f = wins_same_edge p s k e d f c w v in
    let delays : after d ≡ after c = sym w.delayed ∙ ap (delay p s) same ∙ v.delayed in
    cc

-- What decides a round is its winner.
pub decided_winner : (p : Problem) (s : State) {w : Winner} → Decided p s p.edges w → winner p s ≡ w
decided_winner p s h = decided_same p s p.edges (decided p s) h

-- ---- an edge closed

module _ (p : Problem) (c : ℕ) where
  pub closing_sound : Sound p → Sound (closing p c)
  closing_sound ok =
      record { first_below_law = ok.first_below_law; second_below = ok.second_below; ends_differ = ok.ends_differ; symmetric = ok.symmetric }

  -- It is no candidate, and every other edge is as before.
  pub closing_usable : (e : ℕ) → (e ≡ c → ⊥) → without p.usable c e ≡ p.usable e
  closing_usable e other =
      same_test_law (without p.usable c e) (p.usable e) (λ h. (without_elim p.usable c e h).0) (λ h. without_intro p.usable c e h other)

  closing_unusable : without p.usable c c ≡ false
  closing_unusable = not_true_false (without p.usable c c) (λ h. (without_elim p.usable c c h).1 refl)

  -- The sets of usable edges are those that avoid it.
  pub closing_edges : (F : ℕ → Bool) → EdgeSet (closing p c) F ↔ (EdgeSet p F × (F c ≡ false))
  closing_edges F = (
    λ set. (
      λ e h. ((set e h).0, (without_elim p.usable c e (set e h).1).0),
      not_true_false (F c) (λ h. (without_elim p.usable c c (set c h).1).1 refl),
    ),
    λ h e f. (
      (h.0 e f).0,
      without_intro p.usable c e (h.0 e f).1 (λ same. true_not_false (F e) f (ap F same ∙ h.1)),
    ),
  )

  pub closing_all_usable : (e : ℕ) → all_usable (closing p c) e ≡ without (all_usable p) c e
  unfolding all_usable without
  closing_all_usable e = by (ltb e p.edges)
    where
      by : (t : Bool) → (t && (p.usable e && not (eqb e c))) ≡ ((t && p.usable e) && not (eqb e c))
      by true = refl
      by false = refl

  pub closed_not_usable : all_usable (closing p c) c ≡ false
  closed_not_usable = not_true_false (all_usable (closing p c) c) (λ h. (without_elim (all_usable p) c c (sym (closing_all_usable c) ∙ h)).1 refl)

  active_closing : (label : ℕ → ℕ) (x : ℕ) → active (closing p c) label x ≡ active p label x
  unfolding active separates
  active_closing label x = refl

  slack_closing : (s : State) (e : ℕ) → slack (closing p c) s e ≡ slack p s e
  unfolding slack load numbers
  slack_closing s e = refl

  pub delay_closed : (s : State) → delay (closing p c) s c ≡ never
  unfolding delay
  delay_closed s = rw closing_unusable

  pub delay_closing : (s : State) (e : ℕ) → (e ≡ c → ⊥) → delay (closing p c) s e ≡ delay p s e
  unfolding delay
  delay_closing s e other =
      rw (closing_usable e other, active_closing s.label (s.label (p.first e)), active_closing s.label (s.label (p.second e)), slack_closing s e)

  -- Where it does not win, the round has the same winner without it.
  decided_closing : (s : State) {w : Winner} → Decided p s p.edges w → ((d : ℕ) → w ≡ edge c d → ⊥) → Decided (closing p c) s p.edges w
  decided_closing s (none h) other = none (λ f b. by f b (ℕ_discrete f c))
    where
      by : (f : ℕ) → f < p.edges → Dec (f ≡ c) → delay (closing p c) s f ≡ never
      by f b (yes same) = ap (delay (closing p c) s) same ∙ delay_closed s
      by f b (no apart) = delay_closing s f apart ∙ h f b
  decided_closing s (one {e = e} {d = d} w) other =
      one {e = e} {d = d}
      (record {
        below = w.below;
        delayed = delay_closing s e (λ same. other d (ap (λ x. edge x d) same)) ∙ w.delayed;
        least = λ f b l k. w.least f b l (before f b k);
        lowest = λ f b l k. w.lowest f b l (before f b k);
      })
    where
      before : (f b : ℕ) → delay (closing p c) s f ≡ after b → delay p s f ≡ after b
      before f b k = by (ℕ_discrete f c)
        where
          by : Dec (f ≡ c) → delay p s f ≡ after b
          by (yes same) = never_after b (sym (delay_closed s) ∙ ap (delay (closing p c) s) (sym same) ∙ k)
          by (no apart) = sym (delay_closing s f apart) ∙ k

  pub winner_closing : (s : State) → ((d : ℕ) → winner p s ≡ edge c d → ⊥) → winner (closing p c) s ≡ winner p s
  winner_closing s other = decided_winner (closing p c) s (decided_closing s (decided p s) other)

  pick_closing : (s : State) (e d : ℕ) → pick (closing p c) s e d ≡ pick p s e d
  unfolding pick numbers active separates
  pick_closing s e d = refl

  advance_closing : (s : State) (w : Winner) → advance (closing p c) s w ≡ advance p s w
  unfolding advance
  advance_closing s nobody = refl
  advance_closing s (edge e d) = pick_closing s e d

  pub terminals_closing : terminals (closing p c) ≡ terminals p
  unfolding terminals terminal
  terminals_closing = refl

  pub joined_closing : (F : ℕ → Bool) → joined (closing p c) F ≡ joined p F
  unfolding joined
  joined_closing F = refl

  needed_closing : (F : ℕ → Bool) (e : ℕ) → needed (closing p c) F e ≡ needed p F e
  unfolding needed
  needed_closing F e = ap (λ t. F e && not t) (joined_closing (without F e))

  pub cost_closing : (F : ℕ → Bool) → cost (closing p c) F ≡ cost p F
  unfolding cost
  cost_closing F = refl

  bound_closing : (s : State) → dual_bound (closing p c) s ≡ dual_bound p s
  unfolding dual_bound numbers
  bound_closing s = refl

  duals_closing : (s : State) → duals_of (closing p c) s ≡ duals_of p s
  unfolding duals_of numbers
  duals_closing s = refl

  -- c itself is not picked, not kept, and marked 0.
  pub closed_unpicked : picked (closing p c) c ≡ false
  unfolding picked
  closed_unpicked = ((closing_edges (grown (closing p c)).picked).0 (picked_usable (closing p c) (grown_reached (closing p c)))).1

  pub closed_unkept : kept (closing p c) c ≡ false
  unfolding kept needed
  closed_unkept = rw closed_unpicked

  pub closed_mark : mark (closing p c) c ≡ 0
  unfolding mark mark_of
  closed_mark = rw closed_unpicked

  -- The accuracy rule of a plan with c closed: it speaks of the sets that avoid c, and of the k of p itself.
  pub closed_within_factor : Sound p → 0 < p.vertices → Joins p (all_usable (closing p c)) → (F : ℕ → Bool) → EdgeSet p F → F c ≡ false → Joins p F →
      terminals p * cost p (kept (closing p c)) ≤ (2 * terminals p - 2) * cost p F
  closed_within_factor ok some joinable F set free joins =
      rw (terminals_closing, cost_closing (kept (closing p c)), cost_closing F)
      at (kept_within_factor (closing p c) (closing_sound ok) some joinable F ((closing_edges F).1 (set, free)) joins)

-- ---- an edge that is never picked

-- What is picked stays picked.
pub picked_stays : (p : Problem) (r k e : ℕ) → r ≤ k → (state_at p r).picked e ≡ true → (state_at p k).picked e ≡ true
picked_stays p r zero e b h = let z : r ≡ 0 = omega arith in subst (λ x. (state_at p x).picked e ≡ true) z h
picked_stays p r (suc k) e b h =
    ⊎_elim
    (λ l. let z : r ≡ suc k = omega arith in subst (λ x. (state_at p x).picked e ≡ true) z h)
    (λ l. by (picked_stays p r k e l h) (winner p (state_at p k)) refl)
    (lt_or_ge k r)
  where
    by : (state_at p k).picked e ≡ true → (w : Winner) → winner p (state_at p k) ≡ w → (state_at p (suc k)).picked e ≡ true
    by old nobody w = ap (λ (s : State). s.picked e) (state_at_still p k w) ∙ old
    by old (edge f d) w = ap (λ (s : State). s.picked e) (state_at_pick p k f d w) ∙ pick_more p (state_at p k) f d e old

-- What is picked in any round is picked at the end.
pub picked_grown : (p : Problem) (ok : Sound p) (r e : ℕ) → (state_at p r).picked e ≡ true → picked p e ≡ true
unfolding picked grown
picked_grown p ok r e h =
    ⊎_elim
    (λ b. picked_stays p r p.vertices e (omega arith) h)
    (λ b. ap (λ (s : State). s.picked e) (sym (state_at_last p p.vertices r (grown_still p ok some) b)) ∙ h)
    (lt_or_ge r p.vertices)
  where
    some : 0 < p.vertices
    some = omega (arith, ok.first_below_law e (picked_usable p (state_at_reached p r) e h).0)

winner_next : (p : Problem) (r e d : ℕ) → winner p (state_at p r) ≡ edge e d → (state_at p (suc r)).picked e ≡ true
winner_next p r e d w = ap (λ (s : State). s.picked e) (state_at_pick p r e d w) ∙ pick_new p (state_at p r) e d

-- The winner of any round is picked.
pub winner_picked : (p : Problem) (ok : Sound p) (r e d : ℕ) → winner p (state_at p r) ≡ edge e d → picked p e ≡ true
winner_picked p ok r e d w = picked_grown p ok (suc r) e (winner_next p r e d w)

-- Until c is picked, the states with c closed are the same: labels, values, members and picked edges.
pub state_until_picked : (p : Problem) (c r : ℕ) → (state_at p r).picked c ≡ false → state_at (closing p c) r ≡ state_at p r
unfolding state_at
state_until_picked p c zero h = refl
state_until_picked p c (suc r) h =
    ap (λ s. advance (closing p c) s (winner (closing p c) s)) (state_until_picked p c r earlier)
    ∙ ap (advance (closing p c) (state_at p r)) (winner_closing p c (state_at p r) (λ d w. true_not_false ((state_at p (suc r)).picked c) (winner_next p r c d w) h))
    ∙ advance_closing p c (state_at p r) (winner p (state_at p r))
  where
    earlier : (state_at p r).picked c ≡ false
    earlier =
        not_true_false ((state_at p r).picked c)
        (λ k. true_not_false ((state_at p (suc r)).picked c) (picked_stays p r (suc r) c (omega arith) k) h)

module _ (p : Problem) (ok : Sound p) (c : ℕ) (unpicked : picked p c ≡ false) where
  -- The states of all rounds are the same.
  pub unpicked_state : (r : ℕ) → state_at (closing p c) r ≡ state_at p r
  unpicked_state r =
      state_until_picked p c r (not_true_false ((state_at p r).picked c) (λ h. true_not_false (picked p c) (picked_grown p ok r c h) unpicked))

  -- And so are the winners.
  pub unpicked_winner : (r : ℕ) → winner (closing p c) (state_at (closing p c) r) ≡ winner p (state_at p r)
  unpicked_winner r =
      ap (winner (closing p c)) (unpicked_state r)
      ∙ winner_closing p c (state_at p r) (λ d w. true_not_false (picked p c) (winner_picked p ok r c d w) unpicked)

  pub unpicked_grown : grown (closing p c) ≡ grown p
  unfolding grown
  unpicked_grown = unpicked_state p.vertices

  pub unpicked_picked : picked (closing p c) ≡ picked p
  unfolding picked
  unpicked_picked = ap (λ (s : State). s.picked) unpicked_grown

  kept_at : (e : ℕ) → kept (closing p c) e ≡ kept p e
  unfolding kept
  kept_at e = needed_closing p c (picked (closing p c)) e ∙ ap (λ (F : ℕ → Bool). needed p F e) unpicked_picked

  pub unpicked_kept : kept (closing p c) ≡ kept p
  unpicked_kept i e = kept_at e i

  pub unpicked_mark : mark (closing p c) ≡ mark p
  unfolding mark
  unpicked_mark i e = mark_of (unpicked_picked i e) (unpicked_kept i e)

  -- Everything that planning answers and draws is the same.
  pub unpicked_plan : SamePlan (closing p c) p
  unpicked_plan =
      record {
        same_terminals = terminals_closing p c;
        same_cost = cost_closing p c (kept (closing p c)) ∙ ap (cost p) unpicked_kept;
        same_bound = bound_closing p c (grown (closing p c)) ∙ ap (dual_bound p) unpicked_grown;
        same_rounds = ap (λ (s : State). s.rounds) unpicked_grown;
        same_marks_law = ap (λ (f : ℕ → ℕ). tabulate p.edges f) unpicked_mark;
        same_duals = duals_closing p c (grown (closing p c)) ∙ ap (duals_of p) unpicked_grown;
      }

-- ---- what can be joined

-- Growth decides which required pairs can be joined, whether or not all can: those that it joins.
pub required_linked : (p : Problem) (ok : Sound p) (u v : ℕ) → u < p.vertices → v < p.vertices → p.required u v ≡ true →
    Linked p.first p.second (all_usable p) u v ↔ Linked p.first p.second (picked p) u v
unfolding picked
required_linked p ok u v bu bv r = (
  λ l. (partition p ok (grown_reached p)).sound u v bu bv (by l (either (active p (grown p).label ((grown p).label u)))),
  λ l. linked_mono (all_usable_all p (grown p).picked (picked_usable p (grown_reached p))) l,
)
  where
    by : Linked p.first p.second (all_usable p) u v →
        (active p (grown p).label ((grown p).label u) ≡ true) ⊎ (active p (grown p).label ((grown p).label u) ≡ false) → (grown p).label u ≡ (grown p).label v
    by l (inl a) = sym (active_closed p (grown p) ((grown p).label u) a (grown_still p ok (omega arith)) l refl)
    by l (inr a) = resting_pair p (grown p).label u v bu bv r a

module _ (p : Problem) (c : ℕ) where
  linked_closing : {u v : ℕ} → Linked p.first p.second (without (all_usable p) c) u v ↔ Linked p.first p.second (all_usable (closing p c)) u v
  linked_closing = (linked_mono (λ e h. closing_all_usable p c e ∙ h), linked_mono (λ e h. sym (closing_all_usable p c e) ∙ h))

  -- What can be joined without c can be joined.
  pub closing_linked : {u v : ℕ} → Linked p.first p.second (all_usable (closing p c)) u v → Linked p.first p.second (all_usable p) u v
  closing_linked l = linked_without c (linked_closing.1 l)

  -- Where the other usable edges link its ends, they link all that they linked with it.
  pub detour_linked : Linked p.first p.second (all_usable (closing p c)) (p.first c) (p.second c) → (u v : ℕ) →
      Linked p.first p.second (all_usable p) u v ↔ Linked p.first p.second (all_usable (closing p c)) u v
  detour_linked around u v = (λ l. linked_closing.0 (by (through_without c l)), closing_linked)
    where
      way : Linked p.first p.second (without (all_usable p) c) (p.first c) (p.second c)
      way = linked_closing.1 around

      by : Through p.first p.second (without (all_usable p) c) c u v → Linked p.first p.second (without (all_usable p) c) u v
      by (avoids l) = l
      by (forwards l m) = linked_trans l (linked_trans way m)
      by (backwards l m) = linked_trans l (linked_trans (linked_sym way) m)

  -- An edge that growth never picked can be closed, and the same required pairs can be joined, whether or not all can.
  pub unpicked_linked : Sound p → picked p c ≡ false → (u v : ℕ) → u < p.vertices → v < p.vertices → p.required u v ≡ true →
      Linked p.first p.second (all_usable p) u v ↔ Linked p.first p.second (all_usable (closing p c)) u v
  unpicked_linked ok unpicked u v bu bv r = (
    λ l.
        (required_linked (closing p c) (closing_sound p c ok) u v bu bv r).1
        (subst (λ (F : ℕ → Bool). Linked p.first p.second F u v) (sym (unpicked_picked p ok c unpicked)) ((required_linked p ok u v bu bv r).0 l)),
    closing_linked,
  )

  pub unpicked_joins : Sound p → picked p c ≡ false → Joins p (all_usable p) ↔ Joins p (all_usable (closing p c))
  unpicked_joins ok unpicked = (
    λ h u v bu bv r. (unpicked_linked ok unpicked u v bu bv r).0 (h u v bu bv r),
    λ h u v bu bv r. closing_linked (h u v bu bv r),
  )

  -- Where all can be joined, all can without an edge that is not kept: picked and dropped, or never picked.
  pub unkept_joinable : Sound p → Joins p (all_usable p) → kept p c ≡ false → Joins p (all_usable (closing p c))
  unkept_joinable ok joinable unkept u v bu bv r = linked_mono usable (kept_joins p ok some joinable u v bu bv r)
    where
      some : 0 < p.vertices
      some = omega arith

      usable : (e : ℕ) → kept p e ≡ true → all_usable (closing p c) e ≡ true
      usable = all_usable_all (closing p c) (kept p) ((closing_edges p c (kept p)).1 (kept_edges p ok some joinable, unkept))

  -- With c closed all can be joined exactly if the other usable edges do.
  pub closing_joins : Joins p (all_usable (closing p c)) ↔ Joins p (without (all_usable p) c)
  closing_joins = (λ h u v bu bv r. linked_closing.1 (h u v bu bv r), λ h u v bu bv r. linked_closing.0 (h u v bu bv r))
