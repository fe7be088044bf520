-- The winner of a round: an edge with a delay, none of the candidates has a smaller one, and none of a lower number an equal one. With no winner
-- there is no candidate. And what a delay says of its edge.
use Rattle.std.specs.Prelude.{ℕ, zero, suc, ◌/◌, ◌≤◌, ◌<◌, ◌≡◌, Bool, true, false, ◌&&◌, not, cond, eqb, ltb}
use Rattle.std.proofs.Math.Path.{refl}
use Rattle.std.proofs.Common.{ap, sym, ◌∙◌, subst, ⊎_elim, arith, ne_eqb, ltb-true, ltb-false}
use Rattle.std.proofs.lemmas.Bool.{eqb-false, not-true}
use Rattle.base_finite.specs.Laws.Test.{and_left, and_right, and_both, not_of_false}
use Rattle.base_finite.specs.Laws.Below.{below_suc}
use Rattle.theory_steiner.specs.Problem.{Problem}
use Rattle.theory_steiner.specs.Growth.{State, active, slack, Delay, never, after, delay_of, delay, Winner, nobody, edge, better, winner_below, winner, active_ends, delay_for}

-- What remains decides by how many ends are active.
pub data Waits (x y : Bool) (r d : ℕ) : Type 0 where
  one_first : x ≡ true → y ≡ false → d ≡ r → Waits x y r d
  one_second : x ≡ false → y ≡ true → d ≡ r → Waits x y r d
  both : x ≡ true → y ≡ true → d ≡ r / 2 → Waits x y r d

after_same : (c d : ℕ) → after c ≡ after d → d ≡ c
after_same c d h = cc

pub never_after : {A : Type 0} (d : ℕ) → never ≡ after d → A
never_after d h = absurd (let z : ◌≡◌ {A = ℕ} 0 1 = cc in omega arith)

waits_of : (x y : Bool) (r d : ℕ) → delay_of x y r ≡ after d → Waits x y r d
unfolding delay_of active_ends delay_for
waits_of false false r d h = never_after d h
waits_of false true r d h = one_second refl refl (after_same r d h)
waits_of true false r d h = one_first refl refl (after_same r d h)
waits_of true true r d h = both refl refl (after_same (r / 2) d h)

resting_of : (x y : Bool) (r : ℕ) → delay_of x y r ≡ never → (x ≡ false) × (y ≡ false)
unfolding delay_of active_ends delay_for
resting_of false false r h = (refl, refl)
resting_of false true r h = never_after r (sym h)
resting_of true false r h = never_after r (sym h)
resting_of true true r h = never_after (r / 2) (sym h)

-- A candidate: usable, between two components, at least one of them active.
pub record Candidate (p : Problem) (s : State) (e d : ℕ) : Type 0 where
  pub usable : p.usable e ≡ true
  pub apart : s.label (p.first e) ≡ s.label (p.second e) → ⊥
  pub waits : Waits (active p s.label (s.label (p.first e))) (active p s.label (s.label (p.second e))) (slack p s e) d

pub delay_elim : (p : Problem) (s : State) (e d : ℕ) → delay p s e ≡ after d → Candidate p s e d
unfolding delay
delay_elim p s e d h = by (p.usable e && not (eqb x y)) refl h
  where
    x : ℕ
    x = s.label (p.first e)

    y : ℕ
    y = s.label (p.second e)

    by : (t : Bool) → (p.usable e && not (eqb x y)) ≡ t →
        cond (p.usable e && not (eqb x y)) (delay_of (active p s.label x) (active p s.label y) (slack p s e)) never ≡ after d → Candidate p s e d
    by true t k =
        record {
          usable = and_left (p.usable e) (not (eqb x y)) t;
          apart = eqb-false x y (not-true (eqb x y) (and_right (p.usable e) (not (eqb x y)) t));
          waits = waits_of (active p s.label x) (active p s.label y) (slack p s e) d (rw t at k);
        }
    by false t k = never_after d (rw t at k)

-- A usable edge between two components of which one is active has a delay.
pub delay_never : (p : Problem) (s : State) (e : ℕ) → delay p s e ≡ never → p.usable e ≡ true →
    (s.label (p.first e) ≡ s.label (p.second e) → ⊥) →
    (active p s.label (s.label (p.first e)) ≡ false) × (active p s.label (s.label (p.second e)) ≡ false)
unfolding delay
delay_never p s e h u apart =
    resting_of (active p s.label x) (active p s.label y) (slack p s e)
    (rw (and_both (p.usable e) (not (eqb x y)) u (not_of_false (eqb x y) (ne_eqb x y apart))) at h)
  where
    x : ℕ
    x = s.label (p.first e)

    y : ℕ
    y = s.label (p.second e)

-- Of the edges below k: the winner's delay, and everybody else's.
pub record Wins (p : Problem) (s : State) (k e d : ℕ) : Type 0 where
  pub below : e < k
  pub delayed : delay p s e ≡ after d
  pub least : (f c : ℕ) → f < k → delay p s f ≡ after c → d ≤ c
  pub lowest : (f c : ℕ) → f < e → delay p s f ≡ after c → d < c

-- The winner below k, if there is one.
pub data Decided (p : Problem) (s : State) (k : ℕ) : Winner → Type 0 where
  none : ((f : ℕ) → f < k → delay p s f ≡ never) → Decided p s k nobody
  one : {e d : ℕ} → Wins p s k e d → Decided p s k (edge e d)

module _ (p : Problem) (s : State) (k : ℕ) where
  -- Number k has no delay.
  passed : {w : Winner} → Decided p s k w → delay p s k ≡ never → Decided p s (suc k) w
  passed (none h) e = none (λ f b. ⊎_elim (h f) (λ same. ap (delay p s) same ∙ e) (below_suc f k b))
  passed (one {e = g} {d = b} w) e =
      one {e = g} {d = b}
      (record {
        below = omega arith;
        delayed = w.delayed;
        least = λ f c b t. ⊎_elim (λ l. w.least f c l t) (λ same. never_after c (sym e ∙ ap (delay p s) (sym same) ∙ t)) (below_suc f k b);
        lowest = w.lowest;
      })

  -- Number k is the first candidate.
  opened : (d : ℕ) → ((f : ℕ) → f < k → delay p s f ≡ never) → delay p s k ≡ after d → Decided p s (suc k) (edge k d)
  opened d h e =
      one {e = k} {d = d}
      (record {
        below = omega arith;
        delayed = e;
        least = λ f c b t.
            ⊎_elim
            (λ l. never_after c (sym (h f l) ∙ t))
            (λ same. let q : c ≡ d = after_same d c (sym e ∙ ap (delay p s) (sym same) ∙ t) in omega arith)
            (below_suc f k b);
        lowest = λ f c l t. never_after c (sym (h f l) ∙ t);
      })

  -- Number k has a smaller delay, or not.
  contest : {f c : ℕ} (d : ℕ) → Wins p s k f c → delay p s k ≡ after d → (t : Bool) → ltb d c ≡ t → Decided p s (suc k) (cond t (edge k d) (edge f c))
  contest {f} {c} d w e true t =
      let smaller : d < c = ltb-true d c t in
      one {e = k} {d = d}
      (record {
        below = omega arith;
        delayed = e;
        least = λ g b l q.
            ⊎_elim
            (λ m. let r : c ≤ b = w.least g b m q in omega arith)
            (λ same. let r : b ≡ d = after_same d b (sym e ∙ ap (delay p s) (sym same) ∙ q) in omega arith)
            (below_suc g k l);
        lowest = λ g b l q. let r : c ≤ b = w.least g b l q in omega arith;
      })
  contest {f} {c} d w e false t =
      let larger : c ≤ d = ltb-false d c t in
      one {e = f} {d = c}
      (record {
        below = let b : f < k = w.below in omega arith;
        delayed = w.delayed;
        least = λ g b l q.
            ⊎_elim
            (λ m. w.least g b m q)
            (λ same. let r : b ≡ d = after_same d b (sym e ∙ ap (delay p s) (sym same) ∙ q) in omega arith)
            (below_suc g k l);
        lowest = w.lowest;
      })

  decided_step : {w : Winner} → Decided p s k w → (t : Delay) → delay p s k ≡ t → Decided p s (suc k) (better w k t)
  unfolding better
  decided_step h never e = passed h e
  decided_step (none h) (after d) e = opened d h e
  decided_step (one {e = f} {d = c} w) (after d) e = contest d w e (ltb d c) refl

decided_below : (p : Problem) (s : State) (k : ℕ) → Decided p s k (winner_below p s k)
unfolding winner_below
decided_below p s zero = none (λ f h. absurd (omega arith))
decided_below p s (suc k) = decided_step p s k (decided_below p s k) (delay p s k) refl

pub decided : (p : Problem) (s : State) → Decided p s p.edges (winner p s)
unfolding winner
decided p s = decided_below p s p.edges

-- The winner: its delay is at most every candidate's, and no lower number has as small a one.
pub winner_wins : (p : Problem) (s : State) (e d : ℕ) → winner p s ≡ edge e d → Wins p s p.edges e d
winner_wins p s e d h = by (subst (Decided p s p.edges) h (decided p s))
  where
    by : Decided p s p.edges (edge e d) → Wins p s p.edges e d
    by (one w) = w

-- No winner: no candidate.
pub winner_none : (p : Problem) (s : State) → winner p s ≡ nobody → (f : ℕ) → f < p.edges → delay p s f ≡ never
winner_none p s h = by (subst (Decided p s p.edges) h (decided p s))
  where
    by : Decided p s p.edges nobody → (f : ℕ) → f < p.edges → delay p s f ≡ never
    by (none g) = g
