-- How many rounds there are: each lowers the number of components by one, so at most n - 1 (document 01, 'How moats grow'), each picks one
-- edge, and the n steps of the definition are enough. The bound is the sum over rounds of the delay times the active components.
use Rattle.std.specs.Prelude.{ℕ, zero, suc, ◌+◌, ◌*◌, ◌≤◌, ◌<◌, ◌≡◌, refl, ◌⊎◌, Bool, true, false, ◌&&◌, ◌||◌, eqb}
use Rattle.std.proofs.Math.Path.{ap}
use Rattle.std.proofs.Common.{sym, ◌∙◌, subst, inl, inr, ⊎_elim, eqb-true, eq-eqb}
use native.Mathlib.Omega.{arith}
use Rattle.base_finite.specs.Below.{counted, sum_below, count_below, any_below}
use Rattle.base_finite.specs.Laws.Test.{same_test_law, not_true_false, and_left, and_right, and_both, or_left, or_right, or_cases}
use Rattle.base_finite.specs.Laws.Below.{sum_suc, sum_zero, sum_at, sum_at_two, counted_true, counted_false, counted_le, any_intro, any_elim, Found, count_all, count_positive, lt_or_ge}
use Rattle.theory_graph.specs.Component.{merged}
use Rattle.theory_graph.proofs.Laws.Component.{Merging, inside, outside, merged_in}
use Rattle.theory_steiner.specs.Problem.{Problem, Sound}
use Rattle.theory_steiner.specs.Growth.{State, start, active, numbers, load, slack, Winner, nobody, edge, winner, pick, advance, state_at, grown, Reached, first, next}
use Rattle.theory_steiner.specs.Pruning.{dual_bound}
use Rattle.theory_steiner.specs.Rounds.{active_count, delay_or_zero, round_delay, bound_of_rounds, TakesRounds}
use Rattle.theory_steiner.proofs.Laws.Round.{state_at_reached, pick_rounds, pick_numbers, pick_label, pick_value, pick_more, pick_new, pick_only}
use Rattle.theory_steiner.proofs.Laws.Winner.{Waits, one_first, one_second, both}
use Rattle.theory_steiner.proofs.Laws.Partition.{label_merging, label_below_law, label_fresh, winner_candidate, winner_below_law, partition}
use Rattle.theory_steiner.proofs.Laws.Weighed.{bound_pick, load_pick}
use Rattle.theory_steiner.proofs.Laws.Feasible.{load_start}

-- ---- components are counted by the labels in use

-- Some vertex of X has label c.
unfoldable pub meets : Problem → (ℕ → Bool) → (ℕ → ℕ) → ℕ → Bool
meets p X label c = any_below p.vertices (λ v. X v && eqb (label v) c)

pub meets_intro : (p : Problem) (X : ℕ → Bool) (label : ℕ → ℕ) (v : ℕ) → v < p.vertices → X v ≡ true → meets p X label (label v) ≡ true
unfolding meets
meets_intro p X label v b x =
    any_intro p.vertices (λ u. X u && eqb (label u) (label v)) v b (and_both (X v) (eqb (label v) (label v)) x (eq-eqb (label v) (label v) refl))

pub record Met (p : Problem) (X : ℕ → Bool) (label : ℕ → ℕ) (c : ℕ) : Type 0 where
  pub vertex : ℕ
  pub below : vertex < p.vertices
  pub member : X vertex ≡ true
  pub labelled : label vertex ≡ c

pub meets_elim : (p : Problem) (X : ℕ → Bool) (label : ℕ → ℕ) (c : ℕ) → meets p X label c ≡ true → Met p X label c
unfolding meets
meets_elim p X label c h =
    let f : Found p.vertices (λ v. X v && eqb (label v) c) = any_elim p.vertices _ h in
    record {
      vertex = f.at;
      below = f.below;
      member = and_left (X f.at) (eqb (label f.at) c) f.passes;
      labelled = eqb-true (label f.at) c (and_right (X f.at) (eqb (label f.at) c) f.passes);
    }

-- A set of component numbers before and after a round: the two merged ones go, the new one comes, the others stay.
pub record Exchange (n x y : ℕ) (before after : ℕ → Bool) : Type 0 where
  pub x_below : x < n
  pub y_below : y < n
  pub apart : x ≡ y → ⊥
  pub x_gone : after x ≡ false
  pub y_gone : after y ≡ false
  pub others : (c : ℕ) → c < n → (c ≡ x → ⊥) → (c ≡ y → ⊥) → after c ≡ before c

pub exchange_count : {n x y : ℕ} {before after : ℕ → Bool} → Exchange n x y before after →
    count_below (suc n) after + counted (before x) 1 + counted (before y) 1 ≡ count_below n before + counted (after n) 1
unfolding count_below
exchange_count {n} {x} {y} {before} {after} h =
    omega (
      arith,
      sum_suc n (λ c. counted (after c) 1),
      counted_false h.x_gone 1,
      counted_false h.y_gone 1,
      sum_at_two n (λ c. counted (after c) 1) (λ c. counted (before c) 1) x y h.x_below h.y_below h.apart
          (λ c b nx ny. ap (λ t. counted t 1) (h.others c b nx ny)),
    )

module _ (p : Problem) {s : State} (h : Reached p s) (e d : ℕ) (w : winner p s ≡ edge e d) (ok : Sound p) (X : ℕ → Bool) where
  -- an old label that a vertex has after the round it had before, and neither end had it
  old_label : (v c : ℕ) → c < numbers p s → (pick p s e d).label v ≡ c →
      (s.label v ≡ c) × ((c ≡ s.label (p.first e) → ⊥) × (c ≡ s.label (p.second e) → ⊥))
  old_label v c bc k = by (label_merging p s e v)
    where
      by : Merging (s.label (p.first e)) (s.label (p.second e)) (numbers p s) s.label v →
          (s.label v ≡ c) × ((c ≡ s.label (p.first e) → ⊥) × (c ≡ s.label (p.second e) → ⊥))
      by (inside q i) = absurd (let z : numbers p s ≡ c = sym i ∙ sym (pick_label p s e d v) ∙ k in omega arith)
      by (outside q r i) =
          let same : s.label v ≡ c = sym i ∙ sym (pick_label p s e d v) ∙ k in
          (same, (λ o. q (same ∙ o), λ o. r (same ∙ o)))

  stays : (v c : ℕ) → s.label v ≡ c → (c ≡ s.label (p.first e) → ⊥) → (c ≡ s.label (p.second e) → ⊥) → (pick p s e d).label v ≡ c
  stays v c k nx ny = pick_label p s e d v ∙ by (label_merging p s e v)
    where
      by : Merging (s.label (p.first e)) (s.label (p.second e)) (numbers p s) s.label v →
          merged (s.label (p.first e)) (s.label (p.second e)) (numbers p s) s.label v ≡ c
      by (inside (inl q) i) = absurd (nx (sym k ∙ q))
      by (inside (inr q) i) = absurd (ny (sym k ∙ q))
      by (outside q r i) = i ∙ k

  gone : (c : ℕ) → c < numbers p s → (c ≡ s.label (p.first e)) ⊎ (c ≡ s.label (p.second e)) → meets p X (pick p s e d).label c ≡ false
  gone c bc k =
      not_true_false (meets p X (pick p s e d).label c)
      (λ a.
      let m : Met p X (pick p s e d).label c = meets_elim p X (pick p s e d).label c a in
      let o = old_label m.vertex c bc m.labelled in
      ⊎_elim o.1.0 o.1.1 k)

  meets_exchange : Exchange (numbers p s) (s.label (p.first e)) (s.label (p.second e)) (meets p X s.label) (meets p X (pick p s e d).label)
  meets_exchange =
      let bx : s.label (p.first e) < numbers p s = label_below_law p h (p.first e) (ok.first_below_law e (winner_below_law p s e d w)) in
      let by : s.label (p.second e) < numbers p s = label_below_law p h (p.second e) (ok.second_below e (winner_below_law p s e d w)) in
      record {
        x_below = bx;
        y_below = by;
        apart = (winner_candidate p s e d w).apart;
        x_gone = gone (s.label (p.first e)) bx (inl refl);
        y_gone = gone (s.label (p.second e)) by (inr refl);
        others = λ c bc nx ny.
            same_test_law (meets p X (pick p s e d).label c) (meets p X s.label c)
            (λ a.
            let m : Met p X (pick p s e d).label c = meets_elim p X (pick p s e d).label c a in
            subst (λ k. meets p X s.label k ≡ true) (old_label m.vertex c bc m.labelled).0
            (meets_intro p X s.label m.vertex m.below m.member))
            (λ a.
            let m : Met p X s.label c = meets_elim p X s.label c a in
            subst (λ k. meets p X (pick p s e d).label k ≡ true) (stays m.vertex c m.labelled nx ny)
            (meets_intro p X (pick p s e d).label m.vertex m.below m.member));
      }

  -- The new component has a vertex of X just if one of its two parts had.
  pub meets_new : meets p X (pick p s e d).label (numbers p s) ≡ (meets p X s.label (s.label (p.first e)) || meets p X s.label (s.label (p.second e)))
  meets_new = same_test_law (meets p X (pick p s e d).label (numbers p s)) (meets p X s.label (s.label (p.first e)) || meets p X s.label (s.label (p.second e))) there back
    where
      from : (m : Met p X (pick p s e d).label (numbers p s)) →
          Merging (s.label (p.first e)) (s.label (p.second e)) (numbers p s) s.label m.vertex →
          (meets p X s.label (s.label (p.first e)) || meets p X s.label (s.label (p.second e))) ≡ true
      from m (inside (inl q) i) =
          or_left (meets p X s.label (s.label (p.first e))) (meets p X s.label (s.label (p.second e)))
          (subst (λ k. meets p X s.label k ≡ true) q (meets_intro p X s.label m.vertex m.below m.member))
      from m (inside (inr q) i) =
          or_right (meets p X s.label (s.label (p.first e))) (meets p X s.label (s.label (p.second e)))
          (subst (λ k. meets p X s.label k ≡ true) q (meets_intro p X s.label m.vertex m.below m.member))
      from m (outside q r i) = absurd (label_fresh p h m.vertex m.below (sym i ∙ sym (pick_label p s e d m.vertex) ∙ m.labelled))

      there : meets p X (pick p s e d).label (numbers p s) ≡ true → (meets p X s.label (s.label (p.first e)) || meets p X s.label (s.label (p.second e))) ≡ true
      there a =
          let m : Met p X (pick p s e d).label (numbers p s) = meets_elim p X (pick p s e d).label (numbers p s) a in
          from m (label_merging p s e m.vertex)

      into : (c : ℕ) → (c ≡ s.label (p.first e)) ⊎ (c ≡ s.label (p.second e)) → meets p X s.label c ≡ true → meets p X (pick p s e d).label (numbers p s) ≡ true
      into c k a =
          let m : Met p X s.label c = meets_elim p X s.label c a in
          subst (λ k. meets p X (pick p s e d).label k ≡ true)
          (pick_label p s e d m.vertex
          ∙ merged_in (s.label (p.first e)) (s.label (p.second e)) (numbers p s) s.label m.vertex (⊎_elim (λ q. inl (m.labelled ∙ q)) (λ q. inr (m.labelled ∙ q)) k))
          (meets_intro p X (pick p s e d).label m.vertex m.below m.member)

      back : (meets p X s.label (s.label (p.first e)) || meets p X s.label (s.label (p.second e))) ≡ true → meets p X (pick p s e d).label (numbers p s) ≡ true
      back a =
          ⊎_elim (into (s.label (p.first e)) (inl refl)) (into (s.label (p.second e)) (inr refl))
          (or_cases (meets p X s.label (s.label (p.first e))) (meets p X s.label (s.label (p.second e))) a)

  -- The number of components with a vertex of X.
  pub meets_count :
      count_below (numbers p (pick p s e d)) (meets p X (pick p s e d).label) + counted (meets p X s.label (s.label (p.first e))) 1
      + counted (meets p X s.label (s.label (p.second e))) 1
      ≡ count_below (numbers p s) (meets p X s.label)
      + counted (meets p X s.label (s.label (p.first e)) || meets p X s.label (s.label (p.second e))) 1
  meets_count =
      rw (pick_numbers p s e d)
      (exchange_count meets_exchange ∙ ap (λ t. count_below (numbers p s) (meets p X s.label) + counted t 1) meets_new)

-- ---- rounds

abbrev every_vertex : ℕ → Bool
every_vertex v = true

pub components_and_rounds : (p : Problem) (ok : Sound p) {s : State} → Reached p s →
    count_below (numbers p s) (meets p every_vertex s.label) + s.rounds ≡ p.vertices
unfolding start numbers
components_and_rounds p ok first =
    omega (arith, count_all (p.vertices + 0) (meets p every_vertex (λ v. v)) (λ c b. meets_intro p every_vertex (λ v. v) c (omega arith) refl))
components_and_rounds p ok (next {s = s} {e = e} {d = d} h w) =
    omega (
      arith,
      components_and_rounds p ok h,
      meets_count p h e d w ok every_vertex,
      pick_rounds p s e d,
      counted_true (meets_intro p every_vertex s.label (p.first e) (ok.first_below_law e (winner_below_law p s e d w)) refl) 1,
      counted_true (meets_intro p every_vertex s.label (p.second e) (ok.second_below e (winner_below_law p s e d w)) refl) 1,
      counted_true
          (or_left (meets p every_vertex s.label (s.label (p.first e))) (meets p every_vertex s.label (s.label (p.second e)))
          (meets_intro p every_vertex s.label (p.first e) (ok.first_below_law e (winner_below_law p s e d w)) refl)) 1,
    )

-- At most n - 1 rounds.
pub rounds_lt : (p : Problem) (ok : Sound p) → 0 < p.vertices → {s : State} → Reached p s → s.rounds < p.vertices
rounds_lt p ok some {s} h =
    omega (
      arith,
      components_and_rounds p ok h,
      count_positive (numbers p s) (meets p every_vertex s.label) (s.label 0) (label_below_law p h 0 some)
          (meets_intro p every_vertex s.label 0 some refl),
    )

-- A state has had as many rounds as steps, or no candidate is left.
state_at_suc : (p : Problem) (r : ℕ) → state_at p (suc r) ≡ advance p (state_at p r) (winner p (state_at p r))
unfolding state_at
state_at_suc p r = refl

pub state_at_pick : (p : Problem) (r e d : ℕ) → winner p (state_at p r) ≡ edge e d → state_at p (suc r) ≡ pick p (state_at p r) e d
unfolding advance
state_at_pick p r e d h = state_at_suc p r ∙ ap (advance p (state_at p r)) h

pub state_at_still : (p : Problem) (r : ℕ) → winner p (state_at p r) ≡ nobody → state_at p (suc r) ≡ state_at p r
unfolding advance
state_at_still p r h = state_at_suc p r ∙ ap (advance p (state_at p r)) h

-- Steps after the last round change nothing.
pub state_at_last : (p : Problem) (r k : ℕ) → winner p (state_at p r) ≡ nobody → r ≤ k → state_at p k ≡ state_at p r
state_at_last p r zero h b = let e : 0 ≡ r = omega arith in ap (state_at p) e
state_at_last p r (suc k) h b =
    ⊎_elim
    (λ l. let e : suc k ≡ r = omega arith in ap (state_at p) e)
    (λ l. let ih = state_at_last p r k h l in state_at_still p k (ap (winner p) ih ∙ h) ∙ ih)
    (lt_or_ge k r)

pub steps_or_still : (p : Problem) (r : ℕ) → ((state_at p r).rounds ≡ r) ⊎ (winner p (state_at p r) ≡ nobody)
unfolding state_at start
steps_or_still p zero = inl refl
steps_or_still p (suc r) = by (steps_or_still p r) (winner p (state_at p r)) refl
  where
    by : ((state_at p r).rounds ≡ r) ⊎ (winner p (state_at p r) ≡ nobody) → (x : Winner) → winner p (state_at p r) ≡ x →
        ((state_at p (suc r)).rounds ≡ suc r) ⊎ (winner p (state_at p (suc r)) ≡ nobody)
    by h nobody k = inr (ap (winner p) (state_at_still p r k) ∙ k)
    by (inl h) (edge e d) k = inl (ap (λ s. s.rounds) (state_at_pick p r e d k) ∙ pick_rounds p (state_at p r) e d ∙ ap suc h)
    by (inr h) (edge e d) k = absurd (let z : ◌≡◌ {A = ℕ} 0 1 = cc in omega arith)

-- The definition's steps are enough: after them no candidate is left.
pub grown_still : (p : Problem) (ok : Sound p) → 0 < p.vertices → winner p (grown p) ≡ nobody
unfolding grown
grown_still p ok some =
    ⊎_elim
    (λ h. absurd (omega (arith, rounds_lt p ok some (state_at_reached p p.vertices))))
    (λ h. h)
    (steps_or_still p p.vertices)

-- One step has at most one round.
pub rounds_le : (p : Problem) (r : ℕ) → (state_at p r).rounds ≤ r
unfolding state_at start
rounds_le p zero = omega arith
rounds_le p (suc r) = by (rounds_le p r) (winner p (state_at p r)) refl
  where
    by : (state_at p r).rounds ≤ r → (w : Winner) → winner p (state_at p r) ≡ w → (state_at p (suc r)).rounds ≤ suc r
    by ih nobody h = omega (arith, ap (λ s. s.rounds) (state_at_still p r h))
    by ih (edge e d) h = omega (arith, ap (λ s. s.rounds) (state_at_pick p r e d h), pick_rounds p (state_at p r) e d)

-- Steps without a round can be left out.
pub state_at_rounds : (p : Problem) (k : ℕ) → state_at p (state_at p k).rounds ≡ state_at p k
unfolding state_at start
state_at_rounds p zero = refl
state_at_rounds p (suc k) = by (state_at_rounds p k) (winner p (state_at p k)) refl
  where
    by : state_at p (state_at p k).rounds ≡ state_at p k → (w : Winner) → winner p (state_at p k) ≡ w →
        state_at p (state_at p (suc k)).rounds ≡ state_at p (suc k)
    by ih nobody h = let same = state_at_still p k h in ap (λ s. state_at p s.rounds) same ∙ ih ∙ sym same
    by ih (edge e d) h =
        let now = state_at_pick p k e d h in
        ap (λ s. state_at p s.rounds) now
        ∙ ap (state_at p) (pick_rounds p (state_at p k) e d)
        ∙ state_at_pick p (state_at p k).rounds e d (ap (winner p) ih ∙ h)
        ∙ ap (λ s. pick p s e d) ih
        ∙ sym now

-- The rounds that growth counts are the definition's.
pub takes_rounds : (p : Problem) (ok : Sound p) → 0 < p.vertices → TakesRounds p (grown p).rounds
unfolding grown
takes_rounds p ok some =
    let whole = state_at_rounds p p.vertices in
    record {
      won = λ i b h.
          omega (
            arith,
            ap (λ s. s.rounds) (state_at_last p i (state_at p p.vertices).rounds h (omega arith)),
            ap (λ s. s.rounds) whole,
            rounds_le p i,
          );
      ended = ap (winner p) whole ∙ grown_still p ok some;
      whole = whole;
    }

pub grown_reached : (p : Problem) → Reached p (grown p)
unfolding grown
grown_reached p = state_at_reached p p.vertices

-- ---- picked edges

-- The number of rounds is the number of picked edges.
pub picked_count : (p : Problem) (ok : Sound p) {s : State} → Reached p s → count_below p.edges s.picked ≡ s.rounds
unfolding start count_below
picked_count p ok first = sum_zero p.edges (λ e. counted false 1) (λ e b. counted_false refl 1)
picked_count p ok (next {s = s} {e = e} {d = d} h w) =
    omega (
      arith,
      picked_count p ok h,
      pick_rounds p s e d,
      counted_true (pick_new p s e d) 1,
      counted_false fresh 1,
      sum_at p.edges (λ f. counted ((pick p s e d).picked f) 1) (λ f. counted (s.picked f) 1) e (winner_below_law p s e d w) others,
    )
  where
    fresh : s.picked e ≡ false
    fresh = not_true_false (s.picked e) (λ k. (winner_candidate p s e d w).apart ((partition p ok h).ends e k))

    others : (f : ℕ) → f < p.edges → (f ≡ e → ⊥) → counted ((pick p s e d).picked f) 1 ≡ counted (s.picked f) 1
    others f b other =
        ap (λ t. counted t 1)
        (same_test_law ((pick p s e d).picked f) (s.picked f) (λ k. ⊎_elim (λ old. old) (λ same. absurd (other same)) (pick_only p s e d f k)) (pick_more p s e d f))

-- ---- the bound as a sum over rounds

bound_step : (p : Problem) (ok : Sound p) (r : ℕ) (x : Winner) → winner p (state_at p r) ≡ x →
    dual_bound p (state_at p (suc r)) ≡ dual_bound p (state_at p r) + delay_or_zero x * active_count p (state_at p r)
unfolding delay_or_zero
bound_step p ok r nobody k = ap (dual_bound p) (state_at_still p r k) ∙ omega arith
bound_step p ok r (edge e d) k = ap (dual_bound p) (state_at_pick p r e d k) ∙ bound_pick p ok (state_at_reached p r) e d

bound_start : (p : Problem) → dual_bound p start ≡ 0
unfolding dual_bound start
bound_start p = sum_zero (numbers p start) (λ c. 0) (λ c b. refl)

-- The bound is the sum over rounds of the delay times the number of active components.
pub bound_by_rounds : (p : Problem) (ok : Sound p) (r : ℕ) →
    dual_bound p (state_at p r) ≡ sum_below r (λ i. round_delay p i * active_count p (state_at p i))
unfolding state_at round_delay sum_below
bound_by_rounds p ok zero = bound_start p
bound_by_rounds p ok (suc r) =
    bound_step p ok r (winner p (state_at p r)) refl
    ∙ ap (λ x. x + delay_or_zero (winner p (state_at p r)) * active_count p (state_at p r)) (bound_by_rounds p ok r)

-- For the rounds that growth counts.
pub bound_of_rounds_law : (p : Problem) (ok : Sound p) → dual_bound p (grown p) ≡ bound_of_rounds p (grown p).rounds
unfolding grown bound_of_rounds
bound_of_rounds_law p ok = ap (dual_bound p) (sym (state_at_rounds p p.vertices)) ∙ bound_by_rounds p ok (grown p).rounds

-- ---- how large a load and a value can get

waits_le : (x y : Bool) (r d : ℕ) → Waits x y r d → d ≤ r
waits_le x y r d (one_first a b k) = omega arith
waits_le x y r d (one_second a b k) = omega arith
waits_le x y r d (both a b k) = omega arith

pub delay_le : (p : Problem) (s : State) (e d : ℕ) → winner p s ≡ edge e d → d ≤ 2 * p.weight e
unfolding slack
delay_le p s e d w = omega (arith, waits_le _ _ (slack p s e) d (winner_candidate p s e d w).waits)

module _ (p : Problem) (ok : Sound p) (W : ℕ) (light : (e : ℕ) → e < p.edges → p.weight e ≤ W) where
  delay_bounded : (s : State) (e d : ℕ) → winner p s ≡ edge e d → d ≤ 2 * W
  delay_bounded s e d w = omega (arith, delay_le p s e d w, light e (winner_below_law p s e d w))

  pub value_bounded : {s : State} → Reached p s → (c : ℕ) → s.value c ≤ s.rounds * (2 * W)
  unfolding start
  value_bounded first c = omega arith
  value_bounded (next {s = s} {e = e} {d = d} h w) c =
      omega (
        arith,
        value_bounded h c,
        pick_value p s e d c,
        pick_rounds p s e d,
        counted_le (active p s.label c) d,
        delay_bounded s e d w,
        ap (λ r. r * (2 * W)) (pick_rounds p s e d),
      )

  pub load_bounded : {s : State} → Reached p s → (v : ℕ) → v < p.vertices → load p s v ≤ s.rounds * (2 * W)
  unfolding start
  load_bounded first v b = omega (arith, load_start p v)
  load_bounded (next {s = s} {e = e} {d = d} h w) v b =
      omega (
        arith,
        load_bounded h v b,
        load_pick p ok h e d v b,
        counted_le (active p s.label (s.label v)) d,
        delay_bounded s e d w,
        ap (λ r. r * (2 * W)) (pick_rounds p s e d),
      )
