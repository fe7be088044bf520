-- A scan by keys finds the winner, and its keys serve the next round.
use Prim.Native.Nat.{ℕ, zero, suc, ◌+◌, ◌*◌, ◌-◌, ◌/◌, ◌<◌, ◌≤◌}
use native.Mathlib.Omega.{arith}
use Rattle.std.proofs.Common.{add-one, ap, sym, ◌∙◌, subst, length-set, get_or-set_same, get_or-set_other, eq-eqb, eqb-true, ne_eqb, ltb-true, ltb-false, lt-ltb, le-ltb, inl, inr, ⊎_elim}
use Rattle.std.proofs.Math.Decide.{ℕ_discrete}
use Rattle.std.specs.Prelude.{◌≡◌, Bool, ◌&&◌, ◌||◌, not, List, length, set, eqb, ltb, ◌⊎◌}
use Rattle.std.proofs.Math.Path.{refl}
use Rattle.std.proofs.Math.Bool.{true, false, cond}
use Rattle.std.proofs.Math.ListN.{get_or, get_or-eq_default}
use Rattle.std.proofs.lemmas.Bool.{eqb-false, not-true}
use Rattle.base_finite.specs.Below.{counted, tabulate}
use Rattle.base_finite.specs.Laws.Below.{counted_le, counted_false, lt_or_ge, length_tabulate, get_d_tabulate}
use Rattle.base_finite.specs.Laws.Test.{either, and_left, and_right, and_both, or_left, or_right, true_not_false, not_true_false, not_of_false}
use Rattle.base_limits.specs.Limits.{max_vertices, max_weight}
use Rattle.theory_graph.specs.Component.{merged}
use Rattle.theory_graph.proofs.Laws.Component.{Merging, inside, outside, merging}
use Rattle.theory_steiner.specs.Problem.{Problem, Sound}
use Rattle.theory_steiner.specs.Growth.{State, active, numbers, load, slack, Delay, never, after, delay, Winner, nobody, edge, better, winner_below, winner, pick, state_at}
use Rattle.theory_steiner.proofs.Laws.Winner.{Waits, one_first, one_second, both, delay_elim}
use Rattle.theory_steiner.proofs.Laws.Activity.{active_cong, active_other}
use Rattle.theory_steiner.proofs.Laws.Round.{state_at_reached, pick_rounds, pick_label}
use Rattle.theory_steiner.proofs.Laws.Rounds.{state_at_pick, delay_le}
use Rattle.theory_steiner.proofs.Laws.Partition.{winner_below_law}
use Rattle.theory_steiner.proofs.Laws.Weighed.{load_pick}
use Rattle.theory_steiner.proofs.Laws.Degree.{label_later}
use Rattle.theory_steiner.proofs.Laws.Feasible.{load_start}
use Rattle.plan_search.specs.Scan.{no_key, time_limit, idle_alone, resting, reach, key, capped_time, limit_of, Scan, looked, scan, scan_of, Keyed, Woken, block_edges, Floored}

-- ---- the time

pub capped_is : (time : ℕ) → time < time_limit → capped_time time ≡ time
unfolding capped_time
capped_is time h = rw (lt-ltb time time_limit h)

pub capped_small : (time : ℕ) {capped : ℕ} → capped ≡ capped_time time → capped < time_limit
unfolding capped_time
capped_small time h = by (ltb time time_limit) refl h
  where
    by : {capped : ℕ} (t : Bool) → ltb time time_limit ≡ t → capped ≡ cond t time (time_limit - 1) → capped < time_limit
    by true t h = let l = ltb-true time time_limit t in omega arith
    by false t h = omega arith

-- ---- the winner

pub set_low : (l : List ℕ) (e x i B : ℕ) → (i ≡ e → x ≤ B) → ((i ≡ e → ⊥) → get_or l i 0 ≤ B) → get_or (set l e x) i 0 ≤ B
set_low l e x i B h k = by (eqb i e) refl (lt_or_ge e (length l))
  where
    by : (t : Bool) → eqb i e ≡ t → (e < length l) ⊎ (length l ≤ e) → get_or (set l e x) i 0 ≤ B
    by true t (inl b) = let q = eqb-true i e t in let s = get_or-set_same l e x 0 b in let y = h q in rw q (omega arith)
    by true t (inr b) =
        let q = eqb-true i e t in
        let n = length-set l e x in
        let z : get_or (set l e x) i 0 ≡ 0 = get_or-eq_default (set l e x) 0 (omega arith) in
        omega arith
    by false t b = let d = eqb-false i e t in let s = get_or-set_other l e i x 0 d in let y = k d in omega arith

-- ---- edges at rest

pub record IdleAlone (p : Problem) (s : State) (v : ℕ) : Type 0 where
  pub own : s.label v ≡ v
  pub idle : active p s.label (s.label v) ≡ false

pub idle_elim : (p : Problem) (s : State) (v : ℕ) → idle_alone p s v ≡ true → IdleAlone p s v
unfolding idle_alone
idle_elim p s v h =
    record {
      own = eqb-true (s.label v) v (and_right (not (active p s.label (s.label v))) (eqb (s.label v) v) h);
      idle = not-true (active p s.label (s.label v)) (and_left (not (active p s.label (s.label v))) (eqb (s.label v) v) h);
    }

idle_intro : (p : Problem) (s : State) (v : ℕ) → IdleAlone p s v → idle_alone p s v ≡ true
unfolding idle_alone
idle_intro p s v h = and_both _ (eqb (s.label v) v) (not_of_false _ h.idle) (eq-eqb (s.label v) v h.own)

-- An edge that waits does not rest.
waits_awake : (p : Problem) (s : State) (e d : ℕ) → delay p s e ≡ after d → resting p s e ≡ false
unfolding resting
waits_awake p s e d q =
    not_true_false
    (idle_alone p s (p.first e) && idle_alone p s (p.second e))
    (λ t.
    by
    (idle_elim p s (p.first e) (and_left (idle_alone p s (p.first e)) (idle_alone p s (p.second e)) t)).idle
    (idle_elim p s (p.second e) (and_right (idle_alone p s (p.first e)) (idle_alone p s (p.second e)) t)).idle
    (delay_elim p s e d q).waits)
  where
    by : {x y : Bool} {r : ℕ} → x ≡ false → y ≡ false → Waits x y r d → ⊥
    by {x} {y} f g (one_first a b c) = true_not_false x a f
    by {x} {y} f g (one_second a b c) = true_not_false y b g
    by {x} {y} f g (both a b c) = true_not_false x a f

-- The reach is what remains, or twice that.
module _ (p : Problem) (s : State) (e : ℕ) where
  reach_plain : idle_alone p s (p.first e) ≡ false → idle_alone p s (p.second e) ≡ false → reach p s e ≡ slack p s e
  unfolding reach
  reach_plain h k = rw (h, k) refl

  pub slack_reach : slack p s e ≤ reach p s e
  unfolding reach
  slack_reach = by (idle_alone p s (p.first e) || idle_alone p s (p.second e))
    where
      by : (t : Bool) → slack p s e ≤ cond t (2 * slack p s e) (slack p s e)
      by true = omega arith
      by false = omega arith

  reach_twice : reach p s e ≤ 2 * slack p s e
  unfolding reach
  reach_twice = by (idle_alone p s (p.first e) || idle_alone p s (p.second e))
    where
      by : (t : Bool) → cond t (2 * slack p s e) (slack p s e) ≤ 2 * slack p s e
      by true = omega arith
      by false = omega arith

  pub reach_lone : (idle_alone p s (p.first e) || idle_alone p s (p.second e)) ≡ true → reach p s e ≡ 2 * slack p s e
  unfolding reach
  reach_lone h = rw h refl

  -- A delay is at least half of the reach.
  waits_reach : (c d : ℕ) → delay p s e ≡ after d → 2 * c ≤ reach p s e → c ≤ d
  waits_reach c d q h = by (delay_elim p s e d q).waits
    where
      lone : active p s.label (s.label (p.first e)) ≡ true → active p s.label (s.label (p.second e)) ≡ true → reach p s e ≡ slack p s e
      lone a b =
          reach_plain
          (not_true_false (idle_alone p s (p.first e)) (λ i. true_not_false _ a (idle_elim p s (p.first e) i).idle))
          (not_true_false (idle_alone p s (p.second e)) (λ i. true_not_false _ b (idle_elim p s (p.second e) i).idle))

      by : Waits (active p s.label (s.label (p.first e))) (active p s.label (s.label (p.second e))) (slack p s e) d → c ≤ d
      by (one_first a b i) = let t = reach_twice in omega arith
      by (one_second a b i) = let t = reach_twice in omega arith
      by (both a b i) = let t = lone a b in omega arith

module _ (p : Problem) (s : State) (light : (e : ℕ) → e < p.edges → p.weight e ≤ max_weight) (few : s.rounds < max_vertices) (time : ℕ) where
  -- An edge whose key is not below the limit changes nothing.
  pass_keeps : {keys : List ℕ} (k : ℕ) (best : Winner) → Keyed p s time keys → k < p.edges → limit_of time best ≤ get_or keys k 0 → better best k (delay p s k) ≡ best
  unfolding better limit_of slack
  pass_keeps {keys} k best h b l = by_delay (delay p s k) refl best l
    where
      early : time < time_limit
      early = let t = h.early in omega arith

      by_delay : (w : Delay) → delay p s k ≡ w → (best : Winner) → limit_of time best ≤ get_or keys k 0 → better best k w ≡ best
      by_delay never q best l = refl
      by_delay (after d) q nobody l =
          let low = h.low k b (delay_elim p s k d q).apart (waits_awake p s k d q) in
          let w = light k b in
          let t = early in
          let u = reach_twice p s k in
          absurd (omega arith)
      by_delay (after d) q (edge f c) l = by_size (ltb c time_limit) refl
        where
          by_size : (x : Bool) → ltb c time_limit ≡ x → cond (ltb d c) (edge k d) (edge f c) ≡ edge f c
          by_size true x =
              let low = h.low k b (delay_elim p s k d q).apart (waits_awake p s k d q) in
              let m : 2 * (time + c) ≤ get_or keys k 0 = rw x at l in
              let g = waits_reach p s k c d q (omega arith) in
              rw (le-ltb d c g)
          by_size false x =
              let low = h.low k b (delay_elim p s k d q).apart (waits_awake p s k d q) in
              let m : no_key ≤ get_or keys k 0 = rw x at l in
              let w = light k b in
              let t = early in
              let u = reach_twice p s k in
              absurd (omega arith)

  key_low : (e : ℕ) → (s.label (p.first e) ≡ s.label (p.second e) → ⊥) → resting p s e ≡ false → key p s time e ≤ 2 * time + reach p s e
  unfolding key
  key_low e h k = rw (ne_eqb (s.label (p.first e)) (s.label (p.second e)) h, k) (omega arith)

  scan_below : (keys : List ℕ) (k : ℕ) → k ≤ p.edges → Keyed p s time keys
      → ((scan (delay p s) (key p s time) time keys k).best ≡ winner_below p s k) × Keyed p s time (scan (delay p s) (key p s time) time keys k).keys
  unfolding scan looked winner_below
  scan_below keys zero b h = (refl, h)
  scan_below keys (suc k) b h = by_limit (ltb (get_or S.keys k 0) (limit_of time S.best)) refl (scan_below keys k (omega arith) h)
    where
      S : Scan
      S = scan (delay p s) (key p s time) time keys k

      by_limit : (x : Bool) → ltb (get_or S.keys k 0) (limit_of time S.best) ≡ x → (S.best ≡ winner_below p s k) × Keyed p s time S.keys
          → ((cond x (record { best = better S.best k (delay p s k); keys = set S.keys k (key p s time k) }) S).best ≡ better (winner_below p s k) k (delay p s k))
          × Keyed p s time (cond x (record { best = better S.best k (delay p s k); keys = set S.keys k (key p s time k) }) S).keys
      by_limit true x (ih, ik) = (
        ap (λ w. better w k (delay p s k)) ih,
        record {
          early = ik.early;
          low = λ e c a n.
              set_low S.keys k (key p s time k) e (2 * time + reach p s e) (λ q. subst (λ i. key p s time i ≤ 2 * time + reach p s e) q (key_low e a n)) (λ d. ik.low e c a n);
        },
      )
      by_limit false x (ih, ik) =
          (ih ∙ sym (pass_keeps k (winner_below p s k) ik (omega arith) (subst (λ w. limit_of time w ≤ get_or S.keys k 0) ih (ltb-false _ _ x))), ik)

  -- The scan of a round finds the round's winner, and leaves keys that are good.
  pub scan_wins : (keys : List ℕ) → Keyed p s time keys → ((scan_of p s time keys).best ≡ winner p s) × Keyed p s time (scan_of p s time keys).keys
  unfolding scan_of winner
  scan_wins keys h = scan_below keys p.edges (omega arith) h

-- ---- the first round and the next

zero_at : (n : ℕ) {l : List ℕ} → l ≡ tabulate n (λ e. 0) → (i : ℕ) → get_or l i 0 ≡ 0
zero_at n {l} h i = by (lt_or_ge i n)
  where
    by : (i < n) ⊎ (n ≤ i) → get_or l i 0 ≡ 0
    by (inl b) = ap (λ t. get_or t i 0) h ∙ get_d_tabulate n (λ e. 0) i 0 b
    by (inr b) = let k : length l ≡ n = ap length h ∙ length_tabulate n (λ e. 0) in get_or-eq_default l 0 (omega arith)

-- Before the first round all of an edge remains.
pub slack_start : (p : Problem) (e : ℕ) → slack p (state_at p 0) e ≡ 2 * p.weight e
unfolding slack state_at
slack_start p e =
    let x = load_start p (p.first e) in
    let y = load_start p (p.second e) in
    omega arith

pub keyed_start : (p : Problem) {keys : List ℕ} → ((e : ℕ) → e < p.edges → resting p (state_at p 0) e ≡ false → get_or keys e 0 ≤ reach p (state_at p 0) e)
    → Keyed p (state_at p 0) 0 keys
keyed_start p h = record { early = omega arith; low = λ e b a q. let k = h e b q in omega arith }

-- Floors of 0 bound nothing.
pub floored_start : (m n : ℕ) (keys : List ℕ) {floors : List ℕ} → floors ≡ tabulate n (λ b. 0) → Floored m keys floors
floored_start m n keys h = record { low = λ e b. let z = zero_at n h (e / block_edges) in omega arith }

module _ (p : Problem) (ok : Sound p) (light : (e : ℕ) → e < p.edges → p.weight e ≤ max_weight) (r time : ℕ) where
  -- What the round that picks edge e after d leaves of vertices that are alone and idle: all but the two that it joins.
  module _ (e d : ℕ) (w : winner p (state_at p r) ≡ edge e d) where
    abbrev s : State
    s = state_at p r

    abbrev x : ℕ
    x = (state_at p r).label (p.first e)

    abbrev y : ℕ
    y = (state_at p r).label (p.second e)

    next : state_at p (r + 1) ≡ pick p s e d
    next = ap (state_at p) (add-one r) ∙ state_at_pick p r e d w

    label_next : (v : ℕ) → (state_at p (r + 1)).label v ≡ merged x y (numbers p s) s.label v
    label_next v = ap (λ t. t.label v) next ∙ pick_label p s e d v

    idle_next : (v : ℕ) → v < p.vertices → idle_alone p s v ≡ true → (v ≡ x → ⊥) → (v ≡ y → ⊥) → idle_alone p (state_at p (r + 1)) v ≡ true
    unfolding numbers
    idle_next v b h vx vy = idle_intro p (state_at p (r + 1)) v (record { own = own; idle = idle })
      where
        was : IdleAlone p s v
        was = idle_elim p s v h

        by : Merging x y (numbers p s) s.label v → merged x y (numbers p s) s.label v ≡ v
        by (inside k i) = absurd (⊎_elim (λ q. vx (sym was.own ∙ q)) (λ q. vy (sym was.own ∙ q)) k)
        by (outside j k i) = i ∙ was.own

        own : (state_at p (r + 1)).label v ≡ v
        own = label_next v ∙ by (merging x y (numbers p s) s.label v)

        fresh : v ≡ numbers p s → ⊥
        fresh q = omega arith

        idle : active p (state_at p (r + 1)).label ((state_at p (r + 1)).label v) ≡ false
        idle =
            ap (active p (state_at p (r + 1)).label) own
            ∙ active_cong p (state_at p (r + 1)).label (merged x y (numbers p s) s.label) v (λ u c. label_next u)
            ∙ active_other p s.label x y (numbers p s) v vx vy fresh
            ∙ ap (active p s.label) (sym was.own)
            ∙ was.idle

    -- A vertex that is alone and idle after the round was so before.
    idle_before : (v : ℕ) → v < p.vertices → idle_alone p (state_at p (r + 1)) v ≡ true → idle_alone p s v ≡ true
    unfolding numbers
    idle_before v b h = by (merging x y (numbers p s) s.label v)
      where
        now : IdleAlone p (state_at p (r + 1)) v
        now = idle_elim p (state_at p (r + 1)) v h

        own : merged x y (numbers p s) s.label v ≡ v
        own = sym (label_next v) ∙ now.own

        by : Merging x y (numbers p s) s.label v → idle_alone p s v ≡ true
        by (inside k i) = let q : numbers p s ≡ v = sym i ∙ own in absurd (omega arith)
        by (outside j k i) =
            let o : s.label v ≡ v = sym i ∙ own in
            let idle : active p s.label v ≡ false =
            sym (active_other p s.label x y (numbers p s) v (λ q. j (o ∙ q)) (λ q. k (o ∙ q)) (λ q. omega arith))
            ∙ sym (active_cong p (state_at p (r + 1)).label (merged x y (numbers p s) s.label) v (λ u c. label_next u))
            ∙ ap (active p (state_at p (r + 1)).label) (sym now.own)
            ∙ now.idle in
            idle_intro p s v (record { own = o; idle = ap (active p s.label) o ∙ idle })

    -- One that is no longer so was joined.
    joined : (v : ℕ) → v < p.vertices → idle_alone p s v ≡ true → idle_alone p (state_at p (r + 1)) v ≡ false → (v ≡ x) ⊎ (v ≡ y)
    joined v b h n = by (ℕ_discrete v x) (ℕ_discrete v y)
      where
        by : Dec (v ≡ x) → Dec (v ≡ y) → (v ≡ x) ⊎ (v ≡ y)
        by (yes q) _ = inl q
        by (no _) (yes q) = inr q
        by (no j) (no k) = absurd (true_not_false (idle_alone p (state_at p (r + 1)) v) (idle_next v b h j k) n)

    load_grows : (v : ℕ) → v < p.vertices → load p (state_at p (r + 1)) v ≡ load p s v + counted (active p s.label (s.label v)) d
    load_grows v b = ap (λ t. load p t v) next ∙ load_pick p ok (state_at_reached p r) e d v b

    load_next : (v : ℕ) → v < p.vertices → load p (state_at p (r + 1)) v ≤ load p s v + d
    load_next v b =
        let a = load_grows v b in
        let c = counted_le (active p s.label (s.label v)) d in
        omega arith

    load_still : (v : ℕ) → v < p.vertices → idle_alone p s v ≡ true → load p (state_at p (r + 1)) v ≡ load p s v
    load_still v b h =
        let a = load_grows v b in
        let c = counted_false (idle_elim p s v h).idle d in
        omega arith

    module _ {woken : List ℕ} (k : Woken p s time x y woken) (f : ℕ) (b : f < p.edges) (apart : s.label (p.first f) ≡ s.label (p.second f) → ⊥) where
      -- What the key bounds before the round, where an end stays alone and idle.
      twice : idle_alone p s (p.first f) ≡ true → idle_alone p (state_at p (r + 1)) (p.second f) ≡ false → get_or woken f 0 ≤ 2 * time + 2 * slack p s f
      unfolding resting
      twice h n = by (either (idle_alone p s (p.second f)))
        where
          by : (idle_alone p s (p.second f) ≡ true) ⊎ (idle_alone p s (p.second f) ≡ false) → get_or woken f 0 ≤ 2 * time + 2 * slack p s f
          by (inl t) = let q = k.second_up f b t (joined (p.second f) (ok.second_below f b) t n) in omega arith
          by (inr t) = let q = k.awake f b apart (rw (h, t) refl) in let u = reach_twice p s f in omega arith

      twice_second : idle_alone p s (p.second f) ≡ true → idle_alone p (state_at p (r + 1)) (p.first f) ≡ false → get_or woken f 0 ≤ 2 * time + 2 * slack p s f
      unfolding resting
      twice_second h n = by (either (idle_alone p s (p.first f)))
        where
          by : (idle_alone p s (p.first f) ≡ true) ⊎ (idle_alone p s (p.first f) ≡ false) → get_or woken f 0 ≤ 2 * time + 2 * slack p s f
          by (inl t) = let q = k.first_up f b t (joined (p.first f) (ok.first_below_law f b) t n) in omega arith
          by (inr t) = let q = k.awake f b apart (rw t refl) in let u = reach_twice p s f in omega arith

      -- And where neither is.
      once : idle_alone p (state_at p (r + 1)) (p.first f) ≡ false → idle_alone p (state_at p (r + 1)) (p.second f) ≡ false → get_or woken f 0 ≤ 2 * time + slack p s f
      unfolding resting
      once m n = by (either (idle_alone p s (p.first f))) (either (idle_alone p s (p.second f)))
        where
          by : (idle_alone p s (p.first f) ≡ true) ⊎ (idle_alone p s (p.first f) ≡ false) → (idle_alone p s (p.second f) ≡ true) ⊎ (idle_alone p s (p.second f) ≡ false)
              → get_or woken f 0 ≤ 2 * time + slack p s f
          by (inl t) _ = k.first_up f b t (joined (p.first f) (ok.first_below_law f b) t m)
          by (inr _) (inl t) = k.second_up f b t (joined (p.second f) (ok.second_below f b) t n)
          by (inr t) (inr u) = let q = k.awake f b apart (rw t refl) in let z = reach_plain p s f t u in omega arith

      -- The bound after the round: no edge comes nearer than by the delay at each end, and not at an end that is alone and idle.
      bound_next : resting p (state_at p (r + 1)) f ≡ false → get_or woken f 0 ≤ 2 * (time + d) + reach p (state_at p (r + 1)) f
      unfolding slack resting
      bound_next n = by (either (idle_alone p (state_at p (r + 1)) (p.first f))) (either (idle_alone p (state_at p (r + 1)) (p.second f)))
        where
          by : (idle_alone p (state_at p (r + 1)) (p.first f) ≡ true) ⊎ (idle_alone p (state_at p (r + 1)) (p.first f) ≡ false)
              → (idle_alone p (state_at p (r + 1)) (p.second f) ≡ true) ⊎ (idle_alone p (state_at p (r + 1)) (p.second f) ≡ false)
              → get_or woken f 0 ≤ 2 * (time + d) + reach p (state_at p (r + 1)) f
          by (inl t) (inl u) = absurd (true_not_false _ (and_both _ _ t u) n)
          by (inl t) (inr u) =
              let i = idle_before (p.first f) (ok.first_below_law f b) t in
              let q = twice i u in
              let a = load_still (p.first f) (ok.first_below_law f b) i in
              let c = load_next (p.second f) (ok.second_below f b) in
              let z = reach_lone p (state_at p (r + 1)) f (or_left (idle_alone p (state_at p (r + 1)) (p.first f)) (idle_alone p (state_at p (r + 1)) (p.second f)) t) in
              omega arith
          by (inr t) (inl u) =
              let i = idle_before (p.second f) (ok.second_below f b) u in
              let q = twice_second i t in
              let a = load_still (p.second f) (ok.second_below f b) i in
              let c = load_next (p.first f) (ok.first_below_law f b) in
              let z = reach_lone p (state_at p (r + 1)) f (or_right (idle_alone p (state_at p (r + 1)) (p.first f)) (idle_alone p (state_at p (r + 1)) (p.second f)) u) in
              omega arith
          by (inr t) (inr u) =
              let q = once t u in
              let a = load_next (p.first f) (ok.first_below_law f b) in
              let c = load_next (p.second f) (ok.second_below f b) in
              let z = reach_plain p (state_at p (r + 1)) f t u in
              omega arith

    -- Good keys are good after the round, once the edges are woken at the vertices that were joined; components never part.
    pub keyed_next : {keys woken : List ℕ} → Keyed p s time keys → Woken p s time x y woken → Keyed p (state_at p (r + 1)) (time + d) woken
    keyed_next h k =
        record {
          early =
              let l = delay_le p s e d w in
              let m = light e (winner_below_law p s e d w) in
              let t = h.early in
              let q : (state_at p (r + 1)).rounds ≡ suc s.rounds = ap (λ x. x.rounds) next ∙ pick_rounds p s e d in
              omega arith;
          low = λ f b a n. bound_next k f b (λ q. a (label_later p r 1 (p.first f) (p.second f) q)) n;
        }
