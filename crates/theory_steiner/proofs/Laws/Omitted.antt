-- An edge left out is an edge closed (document 02, No. 12): the growth is the same but for the numbers of the later edges, so both have one cost, one
-- bound, one k and the same pairs that can be joined. Planning with a track closed uses it to plan the survey without the track.
use Prim.Native.Nat.{ℕ, zero, suc, ◌+◌, ◌*◌, ◌-◌, ◌≤◌, ◌<◌}
use Rattle.std.specs.Prelude.{◌≡◌, ◌↔◌, Bool, false, ◌&&◌, ◌||◌, eqb}
use Rattle.std.proofs.Math.Path.{refl, ap, sym}
use Rattle.std.proofs.Common.{◌∙◌, subst, ⊎_elim}
use Rattle.std.proofs.Math.Bool.{not}
use native.Mathlib.Omega.{arith}
use Rattle.std.proofs.Math.Dec.{ltb}
use borrow.Author.Tests.{lt-ltb, le-ltb, ltb-true, eqb-true, eq-eqb}
use Rattle.base_finite.specs.Below.{sum_below, counted}
use Rattle.base_finite.specs.Laws.Test.{not_true_false, true_not_false, same_test_law}
use Rattle.base_finite.specs.Laws.Below.{lt_or_ge, below_suc, sum_cong, counted_false}
use Rattle.theory_graph.specs.Path.{Leads, forth, back, Linked, here, step, without}
use Rattle.theory_graph.proofs.Laws.Linked.{linked_mono, without_elim}
use Rattle.theory_steiner.specs.Problem.{Problem, Sound, Bounded, EdgeSet, Joins, joined, separates, all_usable, cost, terminal, terminals}
use Rattle.theory_steiner.specs.Growth.{State, start, active, numbers, load, slack, Delay, never, after, delay, Winner, nobody, edge, winner, pick, advance, state_at, grown}
use Rattle.theory_steiner.specs.Dual.{duals_of}
use Rattle.theory_steiner.specs.Pruning.{needed, picked, kept, mark, dual_bound}
use Rattle.theory_steiner.specs.Closed.{closing, skipping, omitting, renumbered, old_winner, OmittedPlan}
use Rattle.theory_steiner.proofs.Laws.Joined.{joined_elim, joined_intro}
use Rattle.theory_steiner.proofs.Laws.Winner.{never_after, Decided, none, one, decided}
use Rattle.theory_steiner.proofs.Laws.Partition.{picked_usable}
use Rattle.theory_steiner.proofs.Laws.Rounds.{grown_reached}
use Rattle.theory_steiner.proofs.Laws.Closed.{decided_winner, closing_usable, closed_not_usable, delay_closed, cost_closing, closed_unpicked, closed_unkept, closed_mark, closed_within_factor}

-- ---- the numbers

module _ (c : ℕ) where
  pub skipping_low : (e : ℕ) → e < c → skipping c e ≡ e
  unfolding skipping
  skipping_low e h = rw (lt-ltb e c h)

  pub skipping_high : (e : ℕ) → c ≤ e → skipping c e ≡ suc e
  unfolding skipping
  skipping_high e h = rw (le-ltb e c h)

  -- Below c as it was, and from c on one higher.
  data Skips (e : ℕ) : Type 0 where
    low : e < c → skipping c e ≡ e → Skips e
    high : c ≤ e → skipping c e ≡ suc e → Skips e

  skips : (e : ℕ) → Skips e
  skips e = ⊎_elim (λ h. low h (skipping_low e h)) (λ h. high h (skipping_high e h)) (lt_or_ge e c)

  pub skipping_avoids : (e : ℕ) → skipping c e ≡ c → ⊥
  skipping_avoids e h = by (skips e)
    where
      by : Skips e → ⊥
      by (low b k) = omega arith
      by (high b k) = omega arith

  pub skipping_below : (m e : ℕ) → c < m → (e < m - 1) ↔ (skipping c e < m)
  skipping_below m e b = by (skips e)
    where
      by : Skips e → (e < m - 1) ↔ (skipping c e < m)
      by (low l k) = (λ h. omega arith, λ h. omega arith)
      by (high l k) = (λ h. omega arith, λ h. omega arith)

  pub skipping_same : (e f : ℕ) → skipping c e ≡ skipping c f → e ≡ f
  skipping_same e f h = by (skips e) (skips f)
    where
      by : Skips e → Skips f → e ≡ f
      by (low l k) (low m j) = omega arith
      by (low l k) (high m j) = omega arith
      by (high l k) (low m j) = omega arith
      by (high l k) (high m j) = omega arith

  pub skipping_lower : (e f : ℕ) → skipping c e < skipping c f → e < f
  skipping_lower e f h = by (skips e) (skips f)
    where
      by : Skips e → Skips f → e < f
      by (low l k) (low m j) = omega arith
      by (low l k) (high m j) = omega arith
      by (high l k) (low m j) = omega arith
      by (high l k) (high m j) = omega arith

  pub skipping_eqb : (e f : ℕ) → eqb e f ≡ eqb (skipping c e) (skipping c f)
  skipping_eqb e f =
      same_test_law (eqb e f) (eqb (skipping c e) (skipping c f))
      (λ h. eq-eqb (skipping c e) (skipping c f) (ap (skipping c) (eqb-true e f h)))
      (λ h. eq-eqb e f (skipping_same e f (eqb-true (skipping c e) (skipping c f) h)))

  -- Every other edge has a number where c is left out.
  pub record Renumbered (f : ℕ) : Type 0 where
    pub number : ℕ
    pub old : skipping c number ≡ f

  pub renumber : (f : ℕ) → (f ≡ c → ⊥) → Renumbered f
  renumber f other =
      ⊎_elim
      (λ h. record { number = f; old = skipping_low f h })
      (λ h. let b : c < f = strictly h in record { number = f - 1; old = skipping_high (f - 1) (omega arith) ∙ omega arith })
      (lt_or_ge f c)
    where
      strictly : c ≤ f → c < f
      strictly h = ⊎_elim (λ l. l) (λ l. absurd (other (omega arith))) (lt_or_ge c f)

-- A sum over all numbers is that over those left, and the one at c.
pub sum_skipping : (f : ℕ → ℕ) (c n : ℕ) → c < suc n → sum_below (suc n) f ≡ sum_below n (λ e. f (skipping c e)) + f c
unfolding sum_below
sum_skipping f c zero b = let z : c ≡ 0 = omega arith in omega (arith, ap f z)
sum_skipping f c (suc n) b =
    ⊎_elim
    (λ l. omega (arith, sum_skipping f c n l, ap f (skipping_high c n (omega arith))))
    (λ same. omega (arith, ap f same, sum_cong (suc n) (λ e. f (skipping c e)) f (λ e h. ap f (skipping_low c e (omega arith)))))
    (below_suc c (suc n) b)

-- ---- paths

module _ (a b : ℕ → ℕ) (F : ℕ → Bool) (c : ℕ) (free : F c ≡ false) where
  -- A path that avoids c, by the numbers where c is left out.
  pub linked_omitted : {u v : ℕ} → Linked a b F u v → Linked (λ e. a (skipping c e)) (λ e. b (skipping c e)) (λ e. F (skipping c e)) u v
  linked_omitted here = here
  linked_omitted (step {u = u} {v = v} e f l rest) =
      let n : Renumbered c e = renumber c e (λ same. true_not_false (F e) f (ap F same ∙ free)) in
      step n.number (ap F n.old ∙ f) (by n.number n.old l) (linked_omitted rest)
    where
      by : (n : ℕ) → skipping c n ≡ e → Leads a b e u v → Leads (λ e. a (skipping c e)) (λ e. b (skipping c e)) n u v
      by n old (forth h k) = forth (ap a old ∙ h) (ap b old ∙ k)
      by n old (back h k) = back (ap b old ∙ h) (ap a old ∙ k)

pub linked_restored : (a b : ℕ → ℕ) (F : ℕ → Bool) (c : ℕ) {u v : ℕ} →
    Linked (λ e. a (skipping c e)) (λ e. b (skipping c e)) (λ e. F (skipping c e)) u v → Linked a b F u v
linked_restored a b F c here = here
linked_restored a b F c (step e f (forth h k) rest) = step (skipping c e) f (forth h k) (linked_restored a b F c rest)
linked_restored a b F c (step e f (back h k) rest) = step (skipping c e) f (back h k) (linked_restored a b F c rest)

-- ---- the growth

module _ (p : Problem) (c : ℕ) (known : c < p.edges) where
  pub omitting_sound : Sound p → Sound (omitting p c)
  omitting_sound ok =
      record {
        first_below_law = λ e b. ok.first_below_law (skipping c e) ((skipping_below c p.edges e known).0 b);
        second_below = λ e b. ok.second_below (skipping c e) ((skipping_below c p.edges e known).0 b);
        ends_differ = λ e b. ok.ends_differ (skipping c e) ((skipping_below c p.edges e known).0 b);
        symmetric = ok.symmetric;
      }

  active_omitting : (label : ℕ → ℕ) (x : ℕ) → active (omitting p c) label x ≡ active (closing p c) label x
  unfolding active separates
  active_omitting label x = refl

  slack_omitting : (s : State) (e : ℕ) → slack (omitting p c) (renumbered c s) e ≡ slack (closing p c) s (skipping c e)
  unfolding slack load numbers
  slack_omitting s e = refl

  pub delay_omitting : (s : State) (e : ℕ) → delay (omitting p c) (renumbered c s) e ≡ delay (closing p c) s (skipping c e)
  unfolding delay
  delay_omitting s e =
      rw (
        closing_usable p c (skipping c e) (skipping_avoids c e),
        active_omitting s.label (s.label (p.first (skipping c e))),
        active_omitting s.label (s.label (p.second (skipping c e))),
        slack_omitting s e,
      )

  -- A candidate beside c has a number where c is left out.
  record Counterpart (s : State) (f d : ℕ) : Type 0 where
    number : ℕ
    old : skipping c number ≡ f
    delayed : delay (omitting p c) (renumbered c s) number ≡ after d

  counterpart : (s : State) (f d : ℕ) → delay (closing p c) s f ≡ after d → Counterpart s f d
  counterpart s f d k =
      let n : Renumbered c f = renumber c f (λ same. never_after d (sym (delay_closed p c s) ∙ ap (delay (closing p c) s) (sym same) ∙ k)) in
      record { number = n.number; old = n.old; delayed = delay_omitting s n.number ∙ ap (delay (closing p c) s) n.old ∙ k }

  decided_omitting : (s : State) {w : Winner} → Decided (omitting p c) (renumbered c s) (p.edges - 1) w → Decided (closing p c) s p.edges (old_winner c w)
  unfolding old_winner
  decided_omitting s (none h) = none (λ f b. by f b (delay (closing p c) s f) refl)
    where
      by : (f : ℕ) → f < p.edges → (t : Delay) → delay (closing p c) s f ≡ t → delay (closing p c) s f ≡ never
      by f b never k = k
      by f b (after d) k =
          let n : Counterpart s f d = counterpart s f d k in
          never_after d
          (sym (h n.number ((skipping_below c p.edges n.number known).1 (subst (λ x. x < p.edges) (sym n.old) b))) ∙ n.delayed)
  decided_omitting s (one {e = e} {d = d} w) =
      one {e = skipping c e} {d = d}
      (record {
        below = (skipping_below c p.edges e known).0 w.below;
        delayed = sym (delay_omitting s e) ∙ w.delayed;
        least = λ f b l k.
            let n : Counterpart s f b = counterpart s f b k in
            w.least n.number b ((skipping_below c p.edges n.number known).1 (subst (λ x. x < p.edges) (sym n.old) l)) n.delayed;
        lowest = λ f b l k.
            let n : Counterpart s f b = counterpart s f b k in
            w.lowest n.number b (skipping_lower c n.number e (subst (λ x. x < skipping c e) (sym n.old) l)) n.delayed;
      })

  pub winner_omitting : (s : State) → winner (closing p c) s ≡ old_winner c (winner (omitting p c) (renumbered c s))
  winner_omitting s = decided_winner (closing p c) s (decided_omitting s (decided (omitting p c) (renumbered c s)))

  pick_omitting : (s : State) (e d : ℕ) → pick (omitting p c) (renumbered c s) e d ≡ renumbered c (pick (closing p c) s (skipping c e) d)
  unfolding pick numbers active separates
  pick_omitting s e d i =
      let q : State = pick (closing p c) s (skipping c e) d in
      record {
        rounds = q.rounds;
        label = q.label;
        value = q.value;
        holds = q.holds;
        picked = λ f. s.picked (skipping c f) || skipping_eqb c f e i;
      }

  advance_omitting : (s : State) (w : Winner) → advance (omitting p c) (renumbered c s) w ≡ renumbered c (advance (closing p c) s (old_winner c w))
  unfolding advance old_winner
  advance_omitting s nobody = refl
  advance_omitting s (edge e d) = pick_omitting s e d

  -- After every round: the same labels, values and members, and the picked edges by their numbers.
  pub omitted_state : (r : ℕ) → state_at (omitting p c) r ≡ renumbered c (state_at (closing p c) r)
  unfolding state_at start
  omitted_state zero = refl
  omitted_state (suc r) =
      ap (λ s. advance (omitting p c) s (winner (omitting p c) s)) (omitted_state r)
      ∙ advance_omitting (state_at (closing p c) r) (winner (omitting p c) (renumbered c (state_at (closing p c) r)))
      ∙ ap (λ w. renumbered c (advance (closing p c) (state_at (closing p c) r) w)) (sym (winner_omitting (state_at (closing p c) r)))

  pub omitted_grown : grown (omitting p c) ≡ renumbered c (grown (closing p c))
  unfolding grown
  omitted_grown = omitted_state p.vertices

  pub omitted_picked : (e : ℕ) → picked (omitting p c) e ≡ picked (closing p c) (skipping c e)
  unfolding picked
  omitted_picked e = ap (λ (s : State). s.picked e) omitted_grown

  -- ---- the plan

  picked_bounded : Bounded (closing p c) (picked (closing p c))
  unfolding picked
  picked_bounded e h = (picked_usable (closing p c) (grown_reached (closing p c)) e h).0

  joined_omitting : (F : ℕ → Bool) → F c ≡ false → Bounded p F → joined (omitting p c) (λ e. F (skipping c e)) ≡ joined (closing p c) F
  joined_omitting F free bounded =
      same_test_law (joined (omitting p c) (λ e. F (skipping c e))) (joined (closing p c) F)
      (λ h.
      joined_intro (closing p c) F bounded
      (λ u v bu bv r. linked_restored p.first p.second F c (joined_elim (omitting p c) (λ e. F (skipping c e)) h u v bu bv r)))
      (λ h.
      joined_intro (omitting p c) (λ e. F (skipping c e)) (λ e k. (skipping_below c p.edges e known).1 (bounded (skipping c e) k))
      (λ u v bu bv r. linked_omitted p.first p.second F c free (joined_elim (closing p c) F h u v bu bv r)))

  without_omitting : (F : ℕ → Bool) (e : ℕ) → without (λ f. F (skipping c f)) e ≡ (λ f. without F (skipping c e) (skipping c f))
  unfolding without
  without_omitting F e i f = F (skipping c f) && not (skipping_eqb c f e i)

  needed_omitting : (F : ℕ → Bool) → F c ≡ false → Bounded p F → (e : ℕ) → needed (omitting p c) (λ f. F (skipping c f)) e ≡ needed (closing p c) F (skipping c e)
  unfolding needed
  needed_omitting F free bounded e =
      ap (λ t. F (skipping c e) && not t)
      (ap (joined (omitting p c)) (without_omitting F e)
      ∙ joined_omitting (without F (skipping c e))
      (not_true_false (without F (skipping c e) c) (λ h. true_not_false (F c) (without_elim F (skipping c e) c h).0 free))
      (λ f h. bounded f (without_elim F (skipping c e) f h).0))

  pub omitted_kept : (e : ℕ) → kept (omitting p c) e ≡ kept (closing p c) (skipping c e)
  unfolding kept
  omitted_kept e =
      ap (λ (F : ℕ → Bool). needed (omitting p c) F e) (λ i f. omitted_picked f i)
      ∙ needed_omitting (picked (closing p c)) (closed_unpicked p c) picked_bounded e

  pub omitted_mark : (e : ℕ) → mark (omitting p c) e ≡ mark (closing p c) (skipping c e)
  unfolding mark
  omitted_mark e = rw (omitted_picked e, omitted_kept e)

  -- A set without c costs the same.
  pub cost_omitting : (F : ℕ → Bool) → F c ≡ false → cost (omitting p c) (λ e. F (skipping c e)) ≡ cost (closing p c) F
  unfolding cost
  cost_omitting F free =
      let g : ℕ → ℕ = λ e. counted (F e) (p.weight e) in
      let n : suc (p.edges - 1) ≡ p.edges = omega arith in
      omega (arith, ap (λ m. sum_below m g) n, sum_skipping g c (p.edges - 1) (omega arith), counted_false free (p.weight c))

  pub omitted_cost : cost (omitting p c) (kept (omitting p c)) ≡ cost (closing p c) (kept (closing p c))
  omitted_cost = ap (cost (omitting p c)) (λ i e. omitted_kept e i) ∙ cost_omitting (kept (closing p c)) (closed_unkept p c)

  terminals_omitting : terminals (omitting p c) ≡ terminals (closing p c)
  unfolding terminals terminal
  terminals_omitting = refl

  bound_omitting : (s : State) → dual_bound (omitting p c) (renumbered c s) ≡ dual_bound (closing p c) s
  unfolding dual_bound numbers
  bound_omitting s = refl

  duals_omitting : (s : State) → duals_of (omitting p c) (renumbered c s) ≡ duals_of (closing p c) s
  unfolding duals_of numbers
  duals_omitting s = refl

  -- Everything that planning answers and draws: the marks at their numbers, and all else the same.
  pub omitted_plan : OmittedPlan p c
  omitted_plan =
      record {
        same_terminals = terminals_omitting;
        same_cost = omitted_cost;
        same_bound = ap (dual_bound (omitting p c)) omitted_grown ∙ bound_omitting (grown (closing p c));
        same_rounds = ap (λ (s : State). s.rounds) omitted_grown;
        same_marks_law = omitted_mark;
        closed_unmarked = closed_mark p c;
        same_duals = ap (duals_of (omitting p c)) omitted_grown ∙ duals_omitting (grown (closing p c));
      }

  -- ---- what can be joined

  all_usable_omitting : (e : ℕ) → all_usable (omitting p c) e ≡ all_usable (closing p c) (skipping c e)
  unfolding all_usable
  all_usable_omitting e = rw (counted_same, closing_usable p c (skipping c e) (skipping_avoids c e))
    where
      counted_same : ltb e (p.edges - 1) ≡ ltb (skipping c e) p.edges
      counted_same =
          same_test_law (ltb e (p.edges - 1)) (ltb (skipping c e) p.edges)
          (λ h. lt-ltb (skipping c e) p.edges ((skipping_below c p.edges e known).0 (ltb-true e (p.edges - 1) h)))
          (λ h. lt-ltb e (p.edges - 1) ((skipping_below c p.edges e known).1 (ltb-true (skipping c e) p.edges h)))

  -- The same vertices are linked by usable edges, of all pairs and so of the required ones.
  pub omitted_linked : (u v : ℕ) →
      Linked (λ e. p.first (skipping c e)) (λ e. p.second (skipping c e)) (all_usable (omitting p c)) u v
      ↔ Linked p.first p.second (all_usable (closing p c)) u v
  omitted_linked u v = (
    λ l. linked_restored p.first p.second (all_usable (closing p c)) c (linked_mono (λ e h. sym (all_usable_omitting e) ∙ h) l),
    λ l. linked_mono (λ e h. all_usable_omitting e ∙ h) (linked_omitted p.first p.second (all_usable (closing p c)) c (closed_not_usable p c) l),
  )

  pub omitted_joins : Joins (omitting p c) (all_usable (omitting p c)) ↔ Joins (closing p c) (all_usable (closing p c))
  omitted_joins = (λ h u v bu bv r. (omitted_linked u v).0 (h u v bu bv r), λ h u v bu bv r. (omitted_linked u v).1 (h u v bu bv r))

  -- The accuracy rule of the plan with c left out: it speaks of the sets of p that avoid c, and of the k of p.
  pub omitted_within_factor : Sound p → 0 < p.vertices → Joins (omitting p c) (all_usable (omitting p c)) → (F : ℕ → Bool) → EdgeSet p F → F c ≡ false →
      Joins p F → terminals p * cost (omitting p c) (kept (omitting p c)) ≤ (2 * terminals p - 2) * cost p F
  omitted_within_factor ok some joinable F set free joins =
      rw (omitted_cost, cost_closing p c (kept (closing p c))) (closed_within_factor p c ok some (omitted_joins.0 joinable) F set free joins)
