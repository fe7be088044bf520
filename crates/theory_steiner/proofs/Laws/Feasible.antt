-- No usable edge is overtight and every picked edge is tight (source 001, Lemma 22.6); and where both ends are active what remains is even, so
-- that half of it is a whole number of half units (document 01, 'How moats grow').
use Rattle.std.specs.Prelude.{ℕ, ◌+◌, ◌*◌, ◌-◌, ◌/◌, ◌%◌, ◌≤◌, ◌<◌, ◌≡◌, refl, ◌⊎◌, Bool, true, eqb}
use Rattle.std.proofs.Common.{ap, sym, ◌∙◌, subst, inl, inr, ⊎_elim, ne_eqb}
use Rattle.std.proofs.lemmas.Bool.{false≢true}
use native.Mathlib.Omega.{arith}
use Rattle.std.proofs.Math.Decide.{ℕ_discrete}
use Rattle.base_finite.specs.Below.{counted}
use Rattle.base_finite.specs.Laws.Below.{sum_zero, counted_true, counted_false, counted_zero}
use Rattle.theory_graph.specs.Component.{merged}
use Rattle.theory_graph.proofs.Laws.Component.{Merging, inside, outside, merged_cong}
use Rattle.theory_steiner.specs.Problem.{Problem, Sound}
use Rattle.theory_steiner.specs.Growth.{State, start, active, numbers, load, slack, Delay, never, after, delay, edge, winner, pick, Reached, first, next}
use Rattle.theory_steiner.proofs.Laws.Joined.{separates_cong}
use Rattle.theory_steiner.proofs.Laws.Round.{pick_label, pick_only}
use Rattle.theory_steiner.proofs.Laws.Winner.{Waits, one_first, one_second, both, Candidate, delay_elim, delay_never, winner_wins}
use Rattle.theory_steiner.proofs.Laws.Partition.{label_merging, label_fresh, winner_candidate, winner_below_law, partition, picked_usable}
use Rattle.theory_steiner.proofs.Laws.Weighed.{weighed, dual_load_at, dual_load_inside, dual_load_between, load_pick, load_weighed}

weighed_start : (p : Problem) (t : (ℕ → Bool) → Bool) → weighed p start t ≡ 0
unfolding weighed start
weighed_start p t = sum_zero (numbers p start) _ (λ c b. counted_zero (t (λ v. eqb v c)))

pub load_start : (p : Problem) (v : ℕ) → load p start v ≡ 0
load_start p v = load_weighed p start v ∙ weighed_start p (λ S. S v)

pub dual_load_start : (p : Problem) (e : ℕ) → dual_load_at p start e ≡ 0
unfolding dual_load_at
dual_load_start p e = weighed_start p _

-- Ends in different components were in different ones before.
pub apart_before : (p : Problem) (s : State) (e d u v : ℕ) → ((pick p s e d).label u ≡ (pick p s e d).label v → ⊥) → s.label u ≡ s.label v → ⊥
apart_before p s e d u v h k =
    h (pick_label p s e d u ∙ merged_cong (s.label (p.first e)) (s.label (p.second e)) (numbers p s) s.label u v k ∙ sym (pick_label p s e d v))

-- While its ends lie in different components, the load of an edge is the sum of their loads.
pub dual_load_loads : (p : Problem) (ok : Sound p) {s : State} → Reached p s → (f : ℕ) → f < p.edges →
    (s.label (p.first f) ≡ s.label (p.second f) → ⊥) → dual_load_at p s f ≡ load p s (p.first f) + load p s (p.second f)
dual_load_loads p ok first f b apart =
    let a = load_start p (p.first f) in let c = load_start p (p.second f) in let z = dual_load_start p f in omega arith
dual_load_loads p ok (next {s = s} {e = e} {d = d} h w) f b apart =
    let before : s.label (p.first f) ≡ s.label (p.second f) → ⊥ = apart_before p s e d (p.first f) (p.second f) apart in
    let ih : dual_load_at p s f ≡ load p s (p.first f) + load p s (p.second f) = dual_load_loads p ok h f b before in
    let q = dual_load_between p ok h e d f b before in
    let l = load_pick p ok h e d (p.first f) (ok.first_below_law f b) in
    let m = load_pick p ok h e d (p.second f) (ok.second_below f b) in
    omega arith

-- ---- not overtight

module _ (p : Problem) (s : State) (f d c : ℕ) (least : d ≤ c)
    (fits : load p s (p.first f) + load p s (p.second f) ≤ 2 * p.weight f) where
  room : Waits (active p s.label (s.label (p.first f))) (active p s.label (s.label (p.second f))) (slack p s f) c →
      load p s (p.first f) + load p s (p.second f)
      + (counted (active p s.label (s.label (p.first f))) d + counted (active p s.label (s.label (p.second f))) d) ≤ 2 * p.weight f
  unfolding slack
  room (one_first x y k) =
      let q = counted_true x d in let r = counted_false y d in omega arith
  room (one_second x y k) =
      let q = counted_false x d in let r = counted_true y d in omega arith
  room (both x y k) =
      let q = counted_true x d in let r = counted_true y d in omega arith

-- A round leaves room in every usable edge between two components.
raise_fits : (p : Problem) (s : State) (e d : ℕ) → winner p s ≡ edge e d → (f : ℕ) → f < p.edges → p.usable f ≡ true →
    (s.label (p.first f) ≡ s.label (p.second f) → ⊥) → load p s (p.first f) + load p s (p.second f) ≤ 2 * p.weight f →
    load p s (p.first f) + load p s (p.second f)
    + (counted (active p s.label (s.label (p.first f))) d + counted (active p s.label (s.label (p.second f))) d) ≤ 2 * p.weight f
raise_fits p s e d w f b u apart fits = by (delay p s f) refl
  where
    by : (t : Delay) → delay p s f ≡ t →
        load p s (p.first f) + load p s (p.second f)
        + (counted (active p s.label (s.label (p.first f))) d + counted (active p s.label (s.label (p.second f))) d) ≤ 2 * p.weight f
    by never k = omega (arith, counted_false (delay_never p s f k u apart).0 d, counted_false (delay_never p s f k u apart).1 d)
    by (after c) k = room p s f d c ((winner_wins p s e d w).least f c b k) fits (delay_elim p s f c k).waits

pub loads_fit : (p : Problem) (ok : Sound p) {s : State} → Reached p s → (f : ℕ) → f < p.edges → p.usable f ≡ true →
    (s.label (p.first f) ≡ s.label (p.second f) → ⊥) → load p s (p.first f) + load p s (p.second f) ≤ 2 * p.weight f
loads_fit p ok first f b u apart = omega (arith, load_start p (p.first f), load_start p (p.second f))
loads_fit p ok (next {s = s} {e = e} {d = d} h w) f b u apart =
    let before : s.label (p.first f) ≡ s.label (p.second f) → ⊥ = apart_before p s e d (p.first f) (p.second f) apart in
    let fits = raise_fits p s e d w f b u before (loads_fit p ok h f b u before) in
    omega (arith, load_pick p ok h e d (p.first f) (ok.first_below_law f b), load_pick p ok h e d (p.second f) (ok.second_below f b))

-- ---- parity

-- Loads of one component, and of all active ones, have the same parity.
abbrev Even : Problem → State → Type 0
Even p s =
    (u v : ℕ) → u < p.vertices → v < p.vertices →
    (s.label u ≡ s.label v) ⊎ ((active p s.label (s.label u) ≡ true) × (active p s.label (s.label v) ≡ true)) →
    (load p s u + load p s v) % 2 ≡ 0

half_fills : (x w d : ℕ) → x % 2 ≡ 0 → x ≤ 2 * w → d ≡ (2 * w - x) / 2 → x + (d + d) ≡ 2 * w
half_fills x w d h k l = omega arith

even_rest : (x w : ℕ) → x % 2 ≡ 0 → (2 * w - x) % 2 ≡ 0
even_rest x w h = omega arith

-- After its round the winner is used up.
tight_after : (p : Problem) (ok : Sound p) {s : State} → Reached p s → Even p s → (e d : ℕ) → winner p s ≡ edge e d →
    load p (pick p s e d) (p.first e) + load p (pick p s e d) (p.second e) ≡ 2 * p.weight e
unfolding slack
tight_after p ok {s} h even e d w =
    by c.waits
  where
    b : e < p.edges
    b = winner_below_law p s e d w

    c : Candidate p s e d
    c = winner_candidate p s e d w

    fits : load p s (p.first e) + load p s (p.second e) ≤ 2 * p.weight e
    fits = loads_fit p ok h e b c.usable c.apart

    l : load p (pick p s e d) (p.first e) ≡ load p s (p.first e) + counted (active p s.label (s.label (p.first e))) d
    l = load_pick p ok h e d (p.first e) (ok.first_below_law e b)

    m : load p (pick p s e d) (p.second e) ≡ load p s (p.second e) + counted (active p s.label (s.label (p.second e))) d
    m = load_pick p ok h e d (p.second e) (ok.second_below e b)

    by : Waits (active p s.label (s.label (p.first e))) (active p s.label (s.label (p.second e))) (slack p s e) d →
        load p (pick p s e d) (p.first e) + load p (pick p s e d) (p.second e) ≡ 2 * p.weight e
    by (one_first x y k) = omega (arith, l, m, fits, counted_true x d, counted_false y d)
    by (one_second x y k) = omega (arith, l, m, fits, counted_false x d, counted_true y d)
    by (both x y k) =
        let twice : load p s (p.first e) + load p s (p.second e) + (d + d) ≡ 2 * p.weight e =
        half_fills (load p s (p.first e) + load p s (p.second e)) (p.weight e) d
        (even (p.first e) (p.second e) (ok.first_below_law e b) (ok.second_below e b) (inr (x, y))) fits k in
        omega (arith, l, m, counted_true x d, counted_true y d)

-- ---- one round keeps parity

even_add : (a b c : ℕ) → (a + b) % 2 ≡ 0 → (b + c) % 2 ≡ 0 → (a + c) % 2 ≡ 0
even_add a b c h k = omega arith

even_sym : (a b : ℕ) → (a + b) % 2 ≡ 0 → (b + a) % 2 ≡ 0
even_sym a b h = omega arith

even_self : (a : ℕ) → (a + a) % 2 ≡ 0
even_self a = omega arith

even_raised : (a b d a' b' : ℕ) → (a + b) % 2 ≡ 0 → a' ≡ a + d → b' ≡ b + d → (a' + b') % 2 ≡ 0
even_raised a b d a' b' h k l = omega arith

even_twice : (a b w : ℕ) → a + b ≡ 2 * w → (a + b) % 2 ≡ 0
even_twice a b w h = omega arith

-- A component that the round leaves alone is active afterwards just if it was before.
active_outside : (p : Problem) {s : State} → Reached p s → (e d u : ℕ) → u < p.vertices →
    (s.label u ≡ s.label (p.first e) → ⊥) → (s.label u ≡ s.label (p.second e) → ⊥) →
    active p (pick p s e d).label (s.label u) ≡ active p s.label (s.label u)
unfolding active
active_outside p {s} h e d u bu q q' =
    separates_cong p _ _ (λ v bv. rw (pick_label p s e d v) (by v bv (label_merging p s e v)))
  where
    by : (v : ℕ) → v < p.vertices → Merging (s.label (p.first e)) (s.label (p.second e)) (numbers p s) s.label v →
        eqb (merged (s.label (p.first e)) (s.label (p.second e)) (numbers p s) s.label v) (s.label u) ≡ eqb (s.label v) (s.label u)
    by v bv (inside r j) =
        rw j
        (ne_eqb (numbers p s) (s.label u) (λ k. label_fresh p h u bu (sym k))
        ∙ sym (ne_eqb (s.label v) (s.label u) (λ k. ⊎_elim (λ a. q (sym k ∙ a)) (λ a. q' (sym k ∙ a)) r)))
    by v bv (outside r r' j) = rw j

module _ (p : Problem) (ok : Sound p) {s : State} (h : Reached p s) (even : Even p s) (e d : ℕ) (w : winner p s ≡ edge e d) where
  ba : p.first e < p.vertices
  ba = ok.first_below_law e (winner_below_law p s e d w)

  bb : p.second e < p.vertices
  bb = ok.second_below e (winner_below_law p s e d w)

  ends_even : (load p (pick p s e d) (p.first e) + load p (pick p s e d) (p.second e)) % 2 ≡ 0
  ends_even = even_twice (load p (pick p s e d) (p.first e)) (load p (pick p s e d) (p.second e)) (p.weight e) (tight_after p ok h even e d w)

  -- two vertices of one component are raised alike
  same_before : (u v : ℕ) → u < p.vertices → v < p.vertices → s.label u ≡ s.label v →
      (load p (pick p s e d) u + load p (pick p s e d) v) % 2 ≡ 0
  same_before u v bu bv k =
      even_raised (load p s u) (load p s v) (counted (active p s.label (s.label u)) d) (load p (pick p s e d) u) (load p (pick p s e d) v)
      (even u v bu bv (inl k)) (load_pick p ok h e d u bu)
      (load_pick p ok h e d v bv ∙ ap (λ x. load p s v + counted (active p s.label x) d) (sym k))

  -- a vertex of the new component, against the winner's first end
  to_first : (u : ℕ) → u < p.vertices → (s.label u ≡ s.label (p.first e)) ⊎ (s.label u ≡ s.label (p.second e)) →
      (load p (pick p s e d) u + load p (pick p s e d) (p.first e)) % 2 ≡ 0
  to_first u bu (inl k) = same_before u (p.first e) bu ba k
  to_first u bu (inr k) =
      even_add (load p (pick p s e d) u) (load p (pick p s e d) (p.second e)) (load p (pick p s e d) (p.first e))
      (same_before u (p.second e) bu bb k)
      (even_sym (load p (pick p s e d) (p.first e)) (load p (pick p s e d) (p.second e)) ends_even)

  same_after : (u v : ℕ) → u < p.vertices → v < p.vertices →
      Merging (s.label (p.first e)) (s.label (p.second e)) (numbers p s) s.label u →
      Merging (s.label (p.first e)) (s.label (p.second e)) (numbers p s) s.label v →
      merged (s.label (p.first e)) (s.label (p.second e)) (numbers p s) s.label u
      ≡ merged (s.label (p.first e)) (s.label (p.second e)) (numbers p s) s.label v →
      (load p (pick p s e d) u + load p (pick p s e d) v) % 2 ≡ 0
  same_after u v bu bv (inside q i) (inside r j) k =
      even_add (load p (pick p s e d) u) (load p (pick p s e d) (p.first e)) (load p (pick p s e d) v) (to_first u bu q)
      (even_sym (load p (pick p s e d) v) (load p (pick p s e d) (p.first e)) (to_first v bv r))
  same_after u v bu bv (outside q q' i) (outside r r' j) k = same_before u v bu bv (sym i ∙ k ∙ j)
  same_after u v bu bv (inside q i) (outside r r' j) k = absurd (label_fresh p h v bv (sym j ∙ sym k ∙ i))
  same_after u v bu bv (outside q q' i) (inside r j) k = absurd (label_fresh p h u bu (sym i ∙ k ∙ j))

  -- a vertex of a component that was active, of the same parity
  record Was (u : ℕ) : Type 0 where
    vertex : ℕ
    below : vertex < p.vertices
    was : active p s.label (s.label vertex) ≡ true
    alike : (load p (pick p s e d) u + load p (pick p s e d) vertex) % 2 ≡ 0

  end_active : (u : ℕ) → u < p.vertices → (s.label u ≡ s.label (p.first e)) ⊎ (s.label u ≡ s.label (p.second e)) →
      Waits (active p s.label (s.label (p.first e))) (active p s.label (s.label (p.second e))) (slack p s e) d → Was u
  end_active u bu q (one_first x y k) = record { vertex = p.first e; below = ba; was = x; alike = to_first u bu q }
  end_active u bu q (both x y k) = record { vertex = p.first e; below = ba; was = x; alike = to_first u bu q }
  end_active u bu q (one_second x y k) =
      record {
        vertex = p.second e;
        below = bb;
        was = y;
        alike = even_add (load p (pick p s e d) u) (load p (pick p s e d) (p.first e)) (load p (pick p s e d) (p.second e)) (to_first u bu q) ends_even;
      }

  was_active : (u : ℕ) → u < p.vertices → Merging (s.label (p.first e)) (s.label (p.second e)) (numbers p s) s.label u →
      active p (pick p s e d).label ((pick p s e d).label u) ≡ true → Was u
  was_active u bu (inside q i) a = end_active u bu q (winner_candidate p s e d w).waits
  was_active u bu (outside q q' i) a =
      record {
        vertex = u;
        below = bu;
        was = sym (active_outside p h e d u bu q q') ∙ ap (active p (pick p s e d).label) (sym (pick_label p s e d u ∙ i)) ∙ a;
        alike = even_self (load p (pick p s e d) u);
      }

  both_active_law : (u v : ℕ) → u < p.vertices → v < p.vertices → Was u → Was v → (load p (pick p s e d) u + load p (pick p s e d) v) % 2 ≡ 0
  both_active_law u v bu bv x y =
      even_add (load p (pick p s e d) u) (load p (pick p s e d) x.vertex) (load p (pick p s e d) v) x.alike
      (even_add (load p (pick p s e d) x.vertex) (load p (pick p s e d) y.vertex) (load p (pick p s e d) v)
      (even_raised (load p s x.vertex) (load p s y.vertex) d (load p (pick p s e d) x.vertex) (load p (pick p s e d) y.vertex)
      (even x.vertex y.vertex x.below y.below (inr (x.was, y.was)))
      (load_pick p ok h e d x.vertex x.below ∙ ap (λ k. load p s x.vertex + k) (counted_true x.was d))
      (load_pick p ok h e d y.vertex y.below ∙ ap (λ k. load p s y.vertex + k) (counted_true y.was d)))
      (even_sym (load p (pick p s e d) v) (load p (pick p s e d) y.vertex) y.alike))

  even_pick : Even p (pick p s e d)
  even_pick u v bu bv (inl k) =
      same_after u v bu bv (label_merging p s e u) (label_merging p s e v) (sym (pick_label p s e d u) ∙ k ∙ pick_label p s e d v)
  even_pick u v bu bv (inr k) =
      both_active_law u v bu bv (was_active u bu (label_merging p s e u) k.0) (was_active v bv (label_merging p s e v) k.1)

pub loads_even : (p : Problem) (ok : Sound p) {s : State} → Reached p s → Even p s
loads_even p ok first = λ u v bu bv k. omega (arith, load_start p u, load_start p v)
loads_even p ok (next {s = s} {e = e} {d = d} h w) = even_pick p ok h (loads_even p ok h) e d w

-- Where both ends of a usable edge are active, what remains is even.
pub slack_even : (p : Problem) (ok : Sound p) {s : State} → Reached p s → (f : ℕ) → f < p.edges →
    active p s.label (s.label (p.first f)) ≡ true → active p s.label (s.label (p.second f)) ≡ true → slack p s f % 2 ≡ 0
unfolding slack
slack_even p ok {s} h f b x y =
    even_rest (load p s (p.first f) + load p s (p.second f)) (p.weight f)
    (loads_even p ok h (p.first f) (p.second f) (ok.first_below_law f b) (ok.second_below f b) (inr (x, y)))

-- ---- tight and not overtight

-- Every picked edge is tight.
pub picked_tight : (p : Problem) (ok : Sound p) {s : State} → Reached p s → (f : ℕ) → s.picked f ≡ true → dual_load_at p s f ≡ 2 * p.weight f
unfolding start
picked_tight p ok first f h = absurd (false≢true h)
picked_tight p ok (next {s = s} {e = e} {d = d} h w) f g =
    ⊎_elim
    (λ old.
    dual_load_inside p ok h e d f (picked_usable p h f old).0 ((partition p ok h).ends f old) ∙ picked_tight p ok h f old)
    (λ same. subst (λ x. dual_load_at p (pick p s e d) x ≡ 2 * p.weight x) (sym same) new)
    (pick_only p s e d f g)
  where
    b : e < p.edges
    b = winner_below_law p s e d w

    new : dual_load_at p (pick p s e d) e ≡ 2 * p.weight e
    new =
        omega (
          arith,
          dual_load_between p ok h e d e b (winner_candidate p s e d w).apart,
          dual_load_loads p ok h e b (winner_candidate p s e d w).apart,
          load_pick p ok h e d (p.first e) (ok.first_below_law e b),
          load_pick p ok h e d (p.second e) (ok.second_below e b),
          tight_after p ok h (loads_even p ok h) e d w,
        )

-- No usable edge is overtight.
pub not_overtight : (p : Problem) (ok : Sound p) {s : State} → Reached p s → (f : ℕ) → f < p.edges → p.usable f ≡ true → dual_load_at p s f ≤ 2 * p.weight f
not_overtight p ok first f b u = omega (arith, dual_load_start p f)
not_overtight p ok (next {s = s} {e = e} {d = d} h w) f b u =
    by (not_overtight p ok h f b u) (ℕ_discrete (s.label (p.first f)) (s.label (p.second f)))
  where
    by : dual_load_at p s f ≤ 2 * p.weight f → Dec (s.label (p.first f) ≡ s.label (p.second f)) → dual_load_at p (pick p s e d) f ≤ 2 * p.weight f
    by ih (yes same) = omega (arith, dual_load_inside p ok h e d f b same)
    by ih (no apart) =
        omega (arith, dual_load_between p ok h e d f b apart, dual_load_loads p ok h f b apart, raise_fits p s e d w f b u apart (loads_fit p ok h f b u apart))
