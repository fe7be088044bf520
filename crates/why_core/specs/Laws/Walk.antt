-- Laws of a walk: what visiting a vertex does, what holds before each turn of the loop over its edges, and how the loop ends. A search that fails leaves a set of visited
-- vertices that no edge leaves, so that it has not missed the goal.
use Rattle.std.specs.Prelude.{ℕ, zero, suc, ◌+◌, ◌<◌, ◌≤◌, ◌≡◌, refl, ◌⊎◌, Bool, true, false, ◌&&◌, cond, length, set, eqb}
use Rattle.std.proofs.Common.{arith, add-one, ap, sym, ◌∙◌, inl, inr, length-set, get_or-set_same, get_or-set_other}
use Rattle.std.proofs.Math.Decide.{ℕ_discrete}
use Rattle.std.proofs.Math.Path.{subst}
use Rattle.std.proofs.Math.Logic.{⊎_elim}
use mathlib.Core.List.{List, [], ◌∷◌}
use Rattle.std.proofs.Math.ListN.{get_or}
use Rattle.base_finite.specs.Laws.Test.{either, and_left, and_right, and_both, true_not_false, not_true_false}
use Rattle.base_finite.specs.Laws.Below.{below_suc}
use Rattle.theory_graph.specs.Path.{Leads}
use Rattle.survey_components.specs.Labels.{picked_in}
use Rattle.theory_route.specs.Route.{occurs, arrived, onward, is_end, far_end}
use Rattle.theory_route.proofs.Laws.Route.{occurs_cases, none_occurs, end_at_law, far_end_is, is_end_law, leads_far}
use Rattle.why_core.specs.Visit.{is_unvisited, end_in}
use Rattle.why_core.specs.Laws.Visit.{free_below, free_zero, free_is}
use Rattle.why_core.specs.Walk.{unvisited, stored_at, Walkable, Explored, WalkEnds, arrives, fails}
use Rattle.std.specs.Prelude.{Option, Some, None}

-- ---- visiting

pub set_unvisited : (l : List ℕ) (i : ℕ) → i < length l → get_or l i 0 ≡ 0 → unvisited (set l i 1) + 1 ≡ unvisited l
unfolding unvisited
set_unvisited [] i b h = absurd (omega arith)
set_unvisited (x ∷ xs) zero b h = rw h (omega arith)
set_unvisited (x ∷ xs) (suc i) b h = let k : unvisited (set xs i 1) + 1 ≡ unvisited xs = set_unvisited xs i (omega arith) h in omega arith

-- ---- what was explored

module _ {a b : ℕ → ℕ} {F : ℕ → Bool} {goal : ℕ} where
  pub explored_none : (l : List ℕ) → Explored a b F goal l l
  explored_none l = record { fewer = omega arith; long = refl; keeps = λ x h k. h k; closed = λ e x y f t h k. absurd (k h); misses = λ h. h }

  pub explored_more : {was now left : List ℕ} → Explored a b F goal was now → Explored a b F goal now left → Explored a b F goal was left
  explored_more {was} {now} {left} g h =
      let x = g.fewer in
      let y = h.fewer in
      record {
        fewer = omega arith;
        long = h.long ∙ g.long;
        keeps = λ x k. h.keeps x (g.keeps x k);
        closed = λ e x y f t unseen seen. by e x y f t unseen seen (ℕ_discrete (get_or now x 0) 0);
        misses = λ k. h.misses (g.misses k);
      }
    where
      by : (e x y : ℕ) → F e ≡ true → Leads a b e x y → get_or was x 0 ≡ 0 → (get_or left x 0 ≡ 0 → ⊥) → Dec (get_or now x 0 ≡ 0) → get_or left y 0 ≡ 0 → ⊥
      by e x y f t unseen seen (yes k) = h.closed e x y f t k seen
      by e x y f t unseen seen (no k) = h.keeps y (g.closed e x y f t unseen k)

-- ---- the loop over the edges: `was` is how the visit of v left the vertices

pub record Walking (a b : ℕ → ℕ) (F : ℕ → Bool) (v goal m : ℕ) (was now : List ℕ) (e : ℕ) : Type 0 where
  pub within : e ≤ m
  pub explored : Explored a b F goal was now
  pub passed : (f y : ℕ) → f < e → F f ≡ true → Leads a b f v y → get_or now y 0 ≡ 0 → ⊥

module _ {a b : ℕ → ℕ} {F : ℕ → Bool} {v goal m : ℕ} where
  pub walking_start : (was : List ℕ) → Walking a b F v goal m was was 0
  walking_start was = record { within = omega arith; explored = explored_none was; passed = λ f y c. absurd (omega arith) }

  -- An edge that is not of the forest, or not at v.
  pub walking_skip : {was now : List ℕ} {e : ℕ} {t : Bool} → Walking a b F v goal m was now e → e < m → t ≡ (F e && is_end a b e v) → t ≡ false
      → Walking a b F v goal m was now (e + 1)
  walking_skip {was} {now} {e} h c is misses =
      record {
        within = omega arith;
        explored = h.explored;
        passed = λ f y d k l. ⊎_elim (λ less. h.passed f y less k l) (λ same. absurd (other f y same k l)) (below_suc f e (rw (add-one e) at d));
      }
    where
      other : (f y : ℕ) → f ≡ e → F f ≡ true → Leads a b f v y → ⊥
      other f y same k l =
          true_not_false (F e && is_end a b e v)
          (and_both (F e) (is_end a b e v) (subst (λ g. F g ≡ true) same k)
          (is_end_law a b e v (end_at_law (subst (λ g. Leads a b g v y) same l))))
          (sym is ∙ misses)

  -- A walk by edge e is lost.
  pub walking_lost : {was now left route stored : List ℕ} {e y depth : ℕ} {r : Option ℕ} → Walking a b F v goal m was now e → e < m → y ≡ far_end a b e v → far_end a b e v < length now
      → WalkEnds a b F y goal depth now left route stored r → r ≡ None → Walking a b F v goal m was left (e + 1) × (stored ≡ route)
  walking_lost h c far inside (arrives es vs i t u s n w) told = absurd (let z : ◌≡◌ {A = ℕ} 0 1 = cc in omega arith)
  walking_lost {was} {now} {left} {e = e} {y = y} h c far inside (fails more seen same) told = (
    record {
      within = omega arith;
      explored = explored_more h.explored more;
      passed = λ f z d k l.
          ⊎_elim
          (λ less. more.keeps z (h.passed f z less k l))
          (λ same. subst (λ x. get_or left x 0 ≡ 0 → ⊥) (far ∙ far_end_is a b e v z (subst (λ g. Leads a b g v z) same l)) (seen (subst (λ z. z < length now) (sym far) inside)))
          (below_suc f e (rw (add-one e) at d));
    },
    same,
  )

-- ---- a vertex that has just been visited

module _ (first : List ℕ) (v : ℕ) (free : is_unvisited first v ≡ true) where
  entered_here : get_or (set first v 1) v 0 ≡ 0 → ⊥
  entered_here h = let one : get_or (set first v 1) v 0 ≡ 1 = get_or-set_same first v 1 0 (free_below first v free) in omega arith

  entered_other : (x : ℕ) → (x ≡ v → ⊥) → get_or (set first v 1) x 0 ≡ get_or first x 0
  entered_other x d = get_or-set_other first v x 1 0 d

  pub fewer_left : {a b : ℕ → ℕ} {F : ℕ → Bool} {goal : ℕ} {now : List ℕ} → Explored a b F goal (set first v 1) now → unvisited now + 1 ≤ unvisited first
  fewer_left h = omega (arith, h.fewer, set_unvisited first v (free_below first v free) (free_zero first v free))

stored_more : (route : List ℕ) (i e : ℕ) (es : List ℕ) → set (stored_at route (i + 1) es) i e ≡ stored_at route i (e ∷ es)
unfolding stored_at
stored_more route i e es = refl

module _ {a b : ℕ → ℕ} {F : ℕ → Bool} {v goal m : ℕ} {first : List ℕ} (free : is_unvisited first v ≡ true) {was : List ℕ} (entered : was ≡ set first v 1) where
  -- All edges at v have been tried.
  pub walking_end : {now route stored : List ℕ} {e depth : ℕ} → (v ≡ goal → ⊥) → ((f : ℕ) → F f ≡ true → f < m) → Walking a b F v goal m was now e → m ≤ e → stored ≡ route
      → WalkEnds a b F v goal depth first now route stored None
  walking_end {now} {e = e} apart bounded g c same =
      fails
      (record {
        fewer = let k = fewer_left first v free h.explored in omega arith;
        long = h.explored.long ∙ length-set first v 1;
        keeps = λ x k. h.explored.keeps x (λ z. keeps x k z (ℕ_discrete x v));
        closed = λ f x y k l unseen seen. closed f x y k l unseen seen (ℕ_discrete x v);
        misses = λ k. h.explored.misses (entered_other first v free goal (λ z. apart (sym z)) ∙ k);
      })
      (λ inside. h.explored.keeps v (entered_here first v free))
      same
    where
      h : Walking a b F v goal m (set first v 1) now e
      h = subst (λ l. Walking a b F v goal m l now e) entered g

      keeps : (x : ℕ) → (get_or first x 0 ≡ 0 → ⊥) → get_or (set first v 1) x 0 ≡ 0 → Dec (x ≡ v) → ⊥
      keeps x k z (yes d) = k (subst (λ y. get_or first y 0 ≡ 0) (sym d) (free_zero first v free))
      keeps x k z (no d) = k (sym (entered_other first v free x d) ∙ z)

      closed : (f x y : ℕ) → F f ≡ true → Leads a b f x y → get_or first x 0 ≡ 0 → (get_or now x 0 ≡ 0 → ⊥) → Dec (x ≡ v) → get_or now y 0 ≡ 0 → ⊥
      closed f x y k l unseen seen (yes d) = h.passed f y (let z = bounded f k in omega arith) k (subst (λ u. Leads a b f u y) d l)
      closed f x y k l unseen seen (no d) = h.explored.closed f x y k l (entered_other first v free x d ∙ unseen) seen

  -- A walk by edge e arrives: the edge is stored before the entries of that walk.
  pub walking_arrives : {now left other route stored : List ℕ} {e y depth entries : ℕ} {r : Option ℕ} → Walking a b F v goal m was now e → (F e && is_end a b e v) ≡ true → y ≡ far_end a b e v
      → WalkEnds a b F y goal (depth + 1) now left route stored r → r ≡ Some entries → WalkEnds a b F v goal depth first other route (set stored depth e) (Some entries)
  walking_arrives g at far (fails more seen same) told = absurd (let z : ◌≡◌ {A = ℕ} 0 1 = cc in omega arith)
  walking_arrives {now} {left} {other} {route} {stored} {e} {y} {depth} {entries} g at far (arrives {entries = n} es vs i t u s count w) told =
      arrives {entries = entries} (e ∷ es) (v ∷ vs) (free_below first v free)
      (onward e (and_left (F e) (is_end a b e v) at)
      (subst (λ z. Leads a b e v z) (sym far) (leads_far a b e v (and_right (F e) (is_end a b e v) at)))
      (not_true_false (occurs vs v) (λ k. h.explored.keeps v (entered_here first v free) (u v k))) t)
      (λ x k. ⊎_elim (λ same. subst (λ z. get_or first z 0 ≡ 0) (sym same) (free_zero first v free)) (λ rest. untouched x rest (ℕ_discrete x v)) (occurs_cases v x vs k))
      (let k = fewer_left first v free h.explored in omega arith)
      (let same : n ≡ entries = cc in omega arith)
      stored_is
    where
      h : Walking a b F v goal m (set first v 1) now e
      h = subst (λ l. Walking a b F v goal m l now e) entered g

      untouched : (x : ℕ) → occurs vs x ≡ true → Dec (x ≡ v) → get_or first x 0 ≡ 0
      untouched x k (yes d) = subst (λ z. get_or first z 0 ≡ 0) (sym d) (free_zero first v free)
      untouched x k (no d) = by (ℕ_discrete (get_or first x 0) 0)
        where
          by : Dec (get_or first x 0 ≡ 0) → get_or first x 0 ≡ 0
          by (yes z) = z
          by (no z) = absurd (h.explored.keeps x (λ q. z (sym (entered_other first v free x d) ∙ q)) (u x k))

      stored_is : set stored depth e ≡ stored_at route depth (e ∷ es)
      stored_is = ap (λ l. set l depth e) w ∙ stored_more route depth e es

module _ {a b : ℕ → ℕ} {F : ℕ → Bool} (v : ℕ) {goal : ℕ} {first : List ℕ} (free : is_unvisited first v ≡ true) where
  -- The goal itself.
  pub walk_here : {left route : List ℕ} {depth : ℕ} → v ≡ goal → WalkEnds a b F v goal depth first left route route (Some depth)
  unfolding stored_at
  walk_here {left} {route} {depth} same =
      subst (λ g. WalkEnds a b F v g depth first left route route (Some depth)) same
      (arrives [] (v ∷ []) (free_below first v free) arrived
      (λ x h. ⊎_elim (λ k. subst (λ y. get_or first y 0 ≡ 0) (sym k) (free_zero first v free)) (λ k. absurd (none_occurs x k)) (occurs_cases v x [] h))
      (let k = set_unvisited first v (free_below first v free) (free_zero first v free) in omega arith)
      (omega arith) refl)

  -- What the next call asks, and that its measure falls.
  pub walk_on : {firsts seconds kept now : List ℕ} {depth : ℕ} → Walkable firsts seconds kept first depth → Explored a b F goal (set first v 1) now
      → Walkable firsts seconds kept now (depth + 1)
  walk_on {now = now} ok h =
      let long : length now ≡ length first = h.long ∙ length-set first v 1 in
      record {
        few = ok.few;
        bounded = ok.bounded;
        first_below_law = λ e c. rw long (ok.first_below_law e c);
        second_below = λ e c. rw long (ok.second_below e c);
        fits = let k = fewer_left first v free h in let f = ok.fits in omega arith;
      }

-- ---- as the code finds it: r is what `visit` answers, and `was` what it leaves

module _ (first : List ℕ) (v : ℕ) {r : Bool} {was : List ℕ} (r_is : r ≡ is_unvisited first v) (was_is : was ≡ cond (is_unvisited first v) (set first v 1) first) where
  pub is_free_law : r ≡ true → is_unvisited first v ≡ true
  is_free_law h = sym r_is ∙ h

  pub visit_made : r ≡ true → was ≡ set first v 1
  visit_made h = was_is ∙ rw (is_free_law h)

  -- A vertex that is visited already, or none.
  pub walk_refused : {a b : ℕ → ℕ} {F : ℕ → Bool} {goal depth : ℕ} {route : List ℕ} → r ≡ false → WalkEnds a b F v goal depth first was route route None
  walk_refused {a} {b} {F} {goal} {depth} {route} h =
      let taken : is_unvisited first v ≡ false = sym r_is ∙ h in
      let same : was ≡ first = was_is ∙ rw taken in
      subst (λ l. WalkEnds a b F v goal depth first l route route None) (sym same)
      (fails (explored_none first) (λ inside z. true_not_false (is_unvisited first v) (free_is first v inside z) taken) refl)

-- The same with the buffers as the code has them.
pub walking_stored : {a b : ℕ → ℕ} {F : ℕ → Bool} {v goal m : ℕ} {first was now left other route started stored after : List ℕ} {e x y depth entries : ℕ} {r : Option ℕ}
    → is_unvisited first v ≡ true → was ≡ set first v 1 → Walking a b F v goal m was now e × (route ≡ started) → (F e && is_end a b e v) ≡ true → y ≡ far_end a b e v
    → WalkEnds a b F y goal (depth + 1) now left route stored r → r ≡ Some entries → after ≡ set stored depth x → x ≡ e
    → WalkEnds a b F v goal depth first other started after (Some entries)
walking_stored {a} {b} {F} {v} {goal} {first = first} {other = other} {route = route} {started = started} {stored = stored} {after = after} {e = e} {depth = depth} {entries = entries}
    free entered h at far ends told kept same =
    subst (λ l. WalkEnds a b F v goal depth first other l after (Some entries)) h.1
    (subst (λ l. WalkEnds a b F v goal depth first other route l (Some entries)) (sym (kept ∙ ap (set stored depth) same))
    (walking_arrives free entered h.0 at far ends told))

-- The measure falls, and the next call may be made.
pub walk_falls : {a b : ℕ → ℕ} {F : ℕ → Bool} {goal : ℕ} (first : List ℕ) (v : ℕ) {was now : List ℕ} → is_unvisited first v ≡ true → was ≡ set first v 1
    → Explored a b F goal was now → unvisited now < unvisited first
walk_falls {a} {b} {F} {goal} first v {was} {now} free entered h =
    let k = fewer_left first v free (subst (λ l. Explored a b F goal l now) entered h) in omega arith

pub walk_next : {a b : ℕ → ℕ} {F : ℕ → Bool} {goal : ℕ} (first : List ℕ) (v : ℕ) {firsts seconds kept was now : List ℕ} {depth : ℕ} → is_unvisited first v ≡ true → was ≡ set first v 1
    → Explored a b F goal was now → Walkable firsts seconds kept first depth → Walkable firsts seconds kept now (depth + 1)
walk_next {a} {b} {F} {goal} first v {now = now} free entered h ok = walk_on v free ok (subst (λ l. Explored a b F goal l now) entered h)

-- The far end of a kept edge is a vertex.
pub far_below : {firsts seconds kept first was now : List ℕ} {goal e depth : ℕ} (v : ℕ) → Walkable firsts seconds kept first depth → was ≡ set first v 1
    → Explored (end_in firsts) (end_in seconds) (picked_in kept) goal was now → e < length firsts → far_end (end_in firsts) (end_in seconds) e v < length now
unfolding far_end
far_below {firsts} {seconds} {kept} {first} {was} {now} {goal} {e} v ok entered h c = by (either (eqb (get_or firsts e 0) v))
  where
    long : length now ≡ length first
    long = h.long ∙ ap length entered ∙ length-set first v 1

    by : (eqb (get_or firsts e 0) v ≡ true) ⊎ (eqb (get_or firsts e 0) v ≡ false) → cond (eqb (get_or firsts e 0) v) (get_or seconds e 0) (get_or firsts e 0) < length now
    by (inl k) = rw (k, long) (ok.second_below e c)
    by (inr k) = rw (k, long) (ok.first_below_law e c)
