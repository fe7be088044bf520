-- Routes in a forest: a route is a path and visits few vertices; linked vertices have one; the definition computes it, so there is no other; an edge
-- without which its ends are not linked lies on it.
use Prim.Native.Nat.{ℕ, zero, suc, ◌+◌, ◌<◌, ◌≤◌}
use Rattle.std.proofs.Common.{arith, ◌∙◌, subst}
use Rattle.std.proofs.Math.Decide.{ℕ_discrete}
use Rattle.std.specs.Prelude.{◌≡◌, ◌⊎◌, Bool, true, List, [], ◌∷◌, length, eqb}
use Rattle.std.proofs.Math.Path.{refl, sym}
use Rattle.std.proofs.Math.Logic.{inl, inr, ⊎_elim}
use Rattle.std.proofs.Math.Bool.{false, cond}
use borrow.Author.Tests.{eqb-true, eqb-false, eq-eqb, ne_eqb, not-true}
use Rattle.base_finite.specs.Below.{counted, count_below}
use Rattle.base_finite.specs.Laws.Test.{either, and_left, and_right, and_both, or_cases, or_left, or_right, or_false_left, or_false_right, true_not_false, not_true_false, not_of_false}
use Rattle.base_finite.specs.Laws.Below.{sum_at, count_positive, count_le, counted_true, counted_false}
use Rattle.theory_graph.specs.Path.{Leads, forth, back, Linked, here, step, without, Forest}
use Rattle.theory_graph.proofs.Laws.Linked.{linked_trans, linked_sym, linked_mono, without_elim, without_intro}
use Rattle.theory_steiner.specs.Problem.{Problem, Bounded}
use Rattle.theory_steiner.proofs.Laws.Joined.{label_linked, linked_label}
use Rattle.theory_route.specs.First.{first_below}
use Rattle.theory_route.specs.Route.{occurs, Route, IsRoute, arrived, onward, are_linked, is_end, far_end, leads_on, steps_to, route_of}
use Rattle.theory_route.proofs.Laws.First.{first_is}

-- ---- what stands in a list

pub head_occurs : (x : ℕ) (xs : List ℕ) → occurs (x ∷ xs) x ≡ true
unfolding occurs
head_occurs x xs = or_left (eqb x x) (occurs xs x) (eq-eqb x x refl)

tail_occurs : (y x : ℕ) (xs : List ℕ) → occurs xs x ≡ true → occurs (y ∷ xs) x ≡ true
unfolding occurs
tail_occurs y x xs h = or_right (eqb x y) (occurs xs x) h

pub occurs_cases : (y x : ℕ) (xs : List ℕ) → occurs (y ∷ xs) x ≡ true → (x ≡ y) ⊎ (occurs xs x ≡ true)
unfolding occurs
occurs_cases y x xs h = ⊎_elim (λ k. inl (eqb-true x y k)) inr (or_cases (eqb x y) (occurs xs x) h)

pub occurs_same : (y x : ℕ) (xs : List ℕ) → (x ≡ y → ⊥) → occurs (y ∷ xs) x ≡ occurs xs x
unfolding occurs
occurs_same y x xs other = rw (ne_eqb x y other)

not_head : (y x : ℕ) (xs : List ℕ) → occurs (y ∷ xs) x ≡ false → x ≡ y → ⊥
unfolding occurs
not_head y x xs h = eqb-false x y (or_false_left (eqb x y) (occurs xs x) h)

not_tail : (y x : ℕ) (xs : List ℕ) → occurs (y ∷ xs) x ≡ false → occurs xs x ≡ false
unfolding occurs
not_tail y x xs h = or_false_right (eqb x y) (occurs xs x) h

pub none_occurs : (x : ℕ) → occurs [] x ≡ true → ⊥
unfolding occurs
none_occurs x h = true_not_false false h refl

-- An edge that leads from u to v has no other end.
end_is : {a b : ℕ → ℕ} {e u v x : ℕ} → Leads a b e u v → (a e ≡ x) ⊎ (b e ≡ x) → (x ≡ u) ⊎ (x ≡ v)
end_is (forth p q) (inl h) = inl (sym h ∙ p)
end_is (forth p q) (inr h) = inr (sym h ∙ q)
end_is (back p q) (inl h) = inr (sym h ∙ q)
end_is (back p q) (inr h) = inl (sym h ∙ p)

pub end_at_law : {a b : ℕ → ℕ} {e u v : ℕ} → Leads a b e u v → (a e ≡ u) ⊎ (b e ≡ u)
end_at_law (forth p q) = inl p
end_at_law (back p q) = inr p

one_more_visited : (n u : ℕ) (vs : List ℕ) → u < n → occurs vs u ≡ false → count_below n (occurs (u ∷ vs)) ≡ count_below n (occurs vs) + 1
unfolding count_below occurs
one_more_visited n u vs bu fresh =
    let same = sum_at n (λ x. counted (occurs (u ∷ vs) x) 1) (λ x. counted (occurs vs x) 1) u bu others in
    omega (arith, same, counted_true (head_occurs u vs) 1, counted_false fresh 1)
  where
    others : (x : ℕ) → x < n → (x ≡ u → ⊥) → counted (occurs (u ∷ vs) x) 1 ≡ counted (occurs vs x) 1
    others x b d = rw (ne_eqb x u d)

-- A route from u to w.
pub record Routed (a b : ℕ → ℕ) (F : ℕ → Bool) (u w : ℕ) : Type 0 where
  pub edges : List ℕ
  pub vertices : List ℕ
  pub route : Route a b F u w edges vertices

-- The other end, and the ends, as tests find them.
module _ (a b : ℕ → ℕ) where
  pub far_end_is : (e u v : ℕ) → Leads a b e u v → far_end a b e u ≡ v
  unfolding far_end
  far_end_is e u v (forth h k) = rw (eq-eqb (a e) u h) k
  far_end_is e u v (back h k) = by (ℕ_discrete (a e) u)
    where
      by : Dec (a e ≡ u) → cond (eqb (a e) u) (b e) (a e) ≡ v
      by (yes same) = rw (eq-eqb (a e) u same) (h ∙ sym same ∙ k)
      by (no other) = rw (ne_eqb (a e) u other) k

  pub is_end_law : (e u : ℕ) → (a e ≡ u) ⊎ (b e ≡ u) → is_end a b e u ≡ true
  unfolding is_end
  is_end_law e u (inl h) = or_left (eqb (a e) u) (eqb (b e) u) (eq-eqb (a e) u h)
  is_end_law e u (inr h) = or_right (eqb (a e) u) (eqb (b e) u) (eq-eqb (b e) u h)

  pub end_elim : (e u : ℕ) → is_end a b e u ≡ true → (a e ≡ u) ⊎ (b e ≡ u)
  unfolding is_end
  end_elim e u h = ⊎_elim (λ k. inl (eqb-true (a e) u k)) (λ k. inr (eqb-true (b e) u k)) (or_cases (eqb (a e) u) (eqb (b e) u) h)

  -- An edge at u leads to its other end.
  pub leads_far : (e u : ℕ) → is_end a b e u ≡ true → Leads a b e u (far_end a b e u)
  unfolding far_end
  leads_far e u h = by (ℕ_discrete (a e) u) (end_elim e u h)
    where
      by : Dec (a e ≡ u) → (a e ≡ u) ⊎ (b e ≡ u) → Leads a b e u (cond (eqb (a e) u) (b e) (a e))
      by (yes same) k = rw (eq-eqb (a e) u same) (forth same refl)
      by (no other) (inl k) = absurd (other k)
      by (no other) (inr k) = rw (ne_eqb (a e) u other) (back k refl)

module _ {a b : ℕ → ℕ} {F : ℕ → Bool} where
  pub start_visited : {u w : ℕ} {es vs : List ℕ} → Route a b F u w es vs → occurs vs u ≡ true
  start_visited (arrived {u}) = head_occurs u []
  start_visited (onward {u} {vs = vs} e f l fresh r) = head_occurs u vs

  pub end_visited : {u w : ℕ} {es vs : List ℕ} → Route a b F u w es vs → occurs vs w ≡ true
  end_visited (arrived {u}) = head_occurs u []
  end_visited (onward {u} {w = w} {vs = vs} e f l fresh r) = tail_occurs u w vs (end_visited r)

  -- A route is a path.
  pub route_path : {u w : ℕ} {es vs : List ℕ} → Route a b F u w es vs → Linked a b F u w
  route_path arrived = here
  route_path (onward e f l fresh r) = step e f l (route_path r)

  -- A route that does not use edge e does without it.
  pub route_spares : (e : ℕ) {u w : ℕ} {es vs : List ℕ} → Route a b F u w es vs → occurs es e ≡ false → Linked a b (without F e) u w
  route_spares e arrived h = here
  route_spares e (onward {es = es} g f l fresh r) h = step g (without_intro F e g f (λ same. not_head g e es h (sym same))) l (route_spares e r (not_tail g e es h))

  -- Its edges are of F,
  pub route_edge : (e : ℕ) {u w : ℕ} {es vs : List ℕ} → Route a b F u w es vs → occurs es e ≡ true → F e ≡ true
  route_edge e arrived h = absurd (none_occurs e h)
  route_edge e (onward {es = es} g f l fresh r) h = ⊎_elim (λ same. subst (λ x. F x ≡ true) (sym same) f) (λ k. route_edge e r k) (occurs_cases g e es h)

  -- they alone link its ends,
  pub route_alone : {u w : ℕ} {es vs : List ℕ} → Route a b F u w es vs → Linked a b (occurs es) u w
  route_alone arrived = here
  route_alone (onward {es = es} e f l fresh r) = step e (head_occurs e es) l (linked_mono (λ x h. tail_occurs e x es h) (route_alone r))

  -- it visits both ends of each,
  pub route_visits : (e x : ℕ) {u w : ℕ} {es vs : List ℕ} → Route a b F u w es vs → occurs es e ≡ true → (a e ≡ x) ⊎ (b e ≡ x) → occurs vs x ≡ true
  route_visits e x arrived h at = absurd (none_occurs e h)
  route_visits e x (onward {u} {v} {es = es} {vs = vs} g f l fresh r) h at =
      ⊎_elim
      (λ same.
      ⊎_elim
      (λ k. subst (λ y. occurs (u ∷ vs) y ≡ true) (sym k) (head_occurs u vs))
      (λ k. subst (λ y. occurs (u ∷ vs) y ≡ true) (sym k) (tail_occurs u v vs (start_visited r)))
      (end_is (subst (λ k. Leads a b k u v) (sym same) l) at))
      (λ k. tail_occurs u x vs (route_visits e x r k at))
      (occurs_cases g e es h)

  -- and so it uses none twice.
  pub route_once : (e : ℕ) {u v w : ℕ} {es vs : List ℕ} → Leads a b e u v → occurs vs u ≡ false → Route a b F v w es vs → occurs es e ≡ false
  route_once e {u} {es = es} {vs = vs} l fresh r =
      not_true_false (occurs es e) (λ h. true_not_false (occurs vs u) (route_visits e u r h (end_at_law l)) fresh)

  -- An edge whose removal parts the two ends lies on it.
  pub route_uses : (e : ℕ) {u w : ℕ} {es vs : List ℕ} → Route a b F u w es vs → (Linked a b (without F e) u w → ⊥) → occurs es e ≡ true
  route_uses e {es = es} r apart = ⊎_elim (λ h. h) (λ h. absurd (apart (route_spares e r h))) (either (occurs es e))

  -- A route that does not visit x does without the edges at x.
  pub route_avoids : (e x : ℕ) {u w : ℕ} {es vs : List ℕ} → Route a b F u w es vs → occurs vs x ≡ false → (a e ≡ x) ⊎ (b e ≡ x) → Linked a b (without F e) u w
  route_avoids e x arrived h at = here
  route_avoids e x (onward {u} {v} {vs = vs} g f l fresh r) h at =
      step g (without_intro F e g f other) l (route_avoids e x r (not_tail u x vs h) at)
    where
      other : g ≡ e → ⊥
      other same =
          ⊎_elim
          (not_head u x vs h)
          (λ k. true_not_false (occurs vs x) (subst (λ y. occurs vs y ≡ true) (sym k) (start_visited r)) (not_tail u x vs h))
          (end_is (subst (λ k. Leads a b k u v) same l) at)

  -- ---- linked vertices have a route

  route_from : (x : ℕ) {u w : ℕ} {es vs : List ℕ} → Route a b F u w es vs → occurs vs x ≡ true → Routed a b F x w
  route_from x (arrived {u}) h =
      ⊎_elim
      (λ same. subst (λ y. Routed a b F y u) (sym same) (record { edges = []; vertices = u ∷ []; route = arrived }))
      (λ k. absurd (none_occurs x k))
      (occurs_cases u x [] h)
  route_from x (onward {u} {v} {w} {es} {vs} e f l fresh r) h =
      ⊎_elim
      (λ same. subst (λ y. Routed a b F y w) (sym same) (record { edges = e ∷ es; vertices = u ∷ vs; route = onward e f l fresh r }))
      (λ k. route_from x r k)
      (occurs_cases u x vs h)

  pub linked_route : {u w : ℕ} → Linked a b F u w → Routed a b F u w
  linked_route (here {u}) = record { edges = []; vertices = u ∷ []; route = arrived }
  linked_route (step {u} {v} {w} e f l p) = by (linked_route p)
    where
      by : Routed a b F v w → Routed a b F u w
      by r =
          ⊎_elim
          (route_from u r.route)
          (λ fresh. record { edges = e ∷ r.edges; vertices = u ∷ r.vertices; route = onward e f l fresh r.route })
          (either (occurs r.vertices u))

  -- ---- a route is shorter than there are vertices

  pub route_counts : (n : ℕ) → ((e u v : ℕ) → F e ≡ true → Leads a b e u v → v < n) → {u w : ℕ} {es vs : List ℕ} → u < n → Route a b F u w es vs
      → length es + 1 ≤ count_below n (occurs vs)
  route_counts n ends bu (arrived {u}) = count_positive n (occurs (u ∷ [])) u bu (head_occurs u [])
  route_counts n ends bu (onward {u} {v} {vs = vs} e f l fresh r) =
      omega (arith, one_more_visited n u vs bu fresh, route_counts n ends (ends e u v f l) r)

  pub route_short : (n : ℕ) → ((e u v : ℕ) → F e ≡ true → Leads a b e u v → v < n) → {u w : ℕ} {es vs : List ℕ} → u < n → Route a b F u w es vs → length es + 1 ≤ n
  route_short n ends {vs = vs} bu r = omega (arith, route_counts n ends bu r, count_le n (occurs vs))

-- ---- what the definition computes

module _ (p : Problem) (F : ℕ → Bool) (bounded : Bounded p F) where
  abbrev a : ℕ → ℕ
  a = p.first

  abbrev b : ℕ → ℕ
  b = p.second

  without_bounded : (e : ℕ) → Bounded p (without F e)
  without_bounded e f h = bounded f (without_elim F e f h).0

  pub linked_elim : (u w : ℕ) → are_linked p F u w ≡ true → Linked a b F u w
  unfolding are_linked
  linked_elim u w h = label_linked p F u w (eqb-true _ _ h)

  pub linked_intro : (u w : ℕ) → Linked a b F u w → are_linked p F u w ≡ true
  unfolding are_linked
  linked_intro u w h = eq-eqb _ _ (linked_label p F bounded u w h)

module _ (p : Problem) (F : ℕ → Bool) (bounded : Bounded p F) (alone : Forest p.first p.second F) where
  ends_linked : (e u v : ℕ) → Leads p.first p.second e u v → Linked p.first p.second (without F e) u v → Linked p.first p.second (without F e) (p.first e) (p.second e)
  ends_linked e u v (forth h k) l = subst (λ x. Linked p.first p.second (without F e) x (p.second e)) (sym h) (subst (λ y. Linked p.first p.second (without F e) u y) (sym k) l)
  ends_linked e u v (back h k) l =
      subst (λ x. Linked p.first p.second (without F e) x (p.second e)) (sym k) (subst (λ y. Linked p.first p.second (without F e) v y) (sym h) (linked_sym l))

  -- At the first vertex of a route the route's edge leads on, and no other.
  module _ {u v w e : ℕ} {es vs : List ℕ} (f : F e ≡ true) (l : Leads p.first p.second e u v) (fresh : occurs vs u ≡ false)
      (r : Route p.first p.second F v w es vs) where
    leads_on_law : leads_on p F w u e ≡ true
    unfolding leads_on
    leads_on_law =
        and_both (F e) _ f
        (and_both (is_end p.first p.second e u) _ (is_end_law p.first p.second e u (end_at_law l))
        (not_of_false (are_linked p (without F e) u w)
        (not_true_false (are_linked p (without F e) u w)
        (λ h.
        alone e f
        (ends_linked e u v l
        (linked_trans (linked_elim p (without F e) (without_bounded p F bounded e) u w h) (linked_sym (route_avoids e u r fresh (end_at_law l)))))))))

    no_other : (g : ℕ) → (g ≡ e → ⊥) → leads_on p F w u g ≡ false
    unfolding leads_on
    no_other g d =
        not_true_false _
        (λ h.
        let rest = and_right (F g) _ h in
        let at : (p.first g ≡ u) ⊎ (p.second g ≡ u) = end_elim p.first p.second g u (and_left (is_end p.first p.second g u) _ rest) in
        let apart : are_linked p (without F g) u w ≡ false = not-true (are_linked p (without F g) u w) (and_right (is_end p.first p.second g u) _ rest) in
        true_not_false (are_linked p (without F g) u w)
        (linked_intro p (without F g) (without_bounded p F bounded g) u w
        (step e (without_intro F g e f (λ same. d (sym same))) l (route_avoids g u r fresh at)))
        apart)

    first_leads : first_below p.edges (leads_on p F w u) ≡ e
    first_leads =
        first_is p.edges (leads_on p F w u) e
        (record { below = bounded e f; passes = leads_on_law; none_before = λ g b. no_other g (λ same. omega arith) })

  -- Whatever route there is, the steps are its edges.
  pub steps_are : (k : ℕ) {u w : ℕ} {es vs : List ℕ} → Route p.first p.second F u w es vs → length es ≤ k → steps_to p F w k u ≡ es
  unfolding steps_to
  steps_are zero arrived h = refl
  steps_are (suc k) (arrived {u}) h = rw (eq-eqb u u refl)
  steps_are zero (onward e f l fresh r) h = absurd (omega arith)
  steps_are (suc k) (onward {u} {v} {w} {es} {vs} e f l fresh r) h =
      rw (
        ne_eqb u w (λ same. true_not_false (occurs vs u) (subst (λ x. occurs vs x ≡ true) (sym same) (end_visited r)) fresh),
        first_leads f l fresh r,
        far_end_is p.first p.second e u v l,
        steps_are k r (omega arith),
      )

  -- A route is what the definition computes.
  walked : ((e u v : ℕ) → F e ≡ true → Leads p.first p.second e u v → v < p.vertices)
      → {u w : ℕ} {es vs : List ℕ} → u < p.vertices → Route p.first p.second F u w es vs → route_of p F u w ≡ es
  unfolding route_of
  walked ends {u} {w} bu r =
      rw (linked_intro p F bounded u w (route_path r)) (steps_are p.vertices r (let s = route_short p.vertices ends bu r in omega arith))

module _ (p : Problem) (F : ℕ → Bool) (bounded : Bounded p F) (forest : Forest p.first p.second F) where
  -- Two routes between the same vertices have the same edges.
  pub route_only : {u w : ℕ} {es vs fs ws : List ℕ} → Route p.first p.second F u w es vs → Route p.first p.second F u w fs ws → es ≡ fs
  route_only {es = es} {fs = fs} r q = sym (steps_are p F bounded forest (length es + length fs) r (omega arith)) ∙ steps_are p F bounded forest (length es + length fs) q (omega arith)

  module _ (ends : (e u v : ℕ) → F e ≡ true → Leads p.first p.second e u v → v < p.vertices) where
    -- A route is what the definition computes.
    pub route_is : {u w : ℕ} {es vs : List ℕ} → u < p.vertices → Route p.first p.second F u w es vs → route_of p F u w ≡ es
    route_is bu r = walked p F bounded forest ends bu r

    -- Linked vertices have the route that the definition computes.
    pub route_of_law : (u w : ℕ) → u < p.vertices → Linked p.first p.second F u w → IsRoute p.first p.second F u w (route_of p F u w)
    route_of_law u w bu h = by (linked_route h)
      where
        by : Routed p.first p.second F u w → IsRoute p.first p.second F u w (route_of p F u w)
        by r = record { vertices = r.vertices; route = subst (λ es. Route p.first p.second F u w es r.vertices) (sym (walked p F bounded forest ends bu r.route)) r.route }

  -- From a vertex to itself nothing is walked.
  pub route_here : (u : ℕ) → route_of p F u u ≡ []
  unfolding route_of
  route_here u = rw (linked_intro p F bounded u u here) (steps_are p F bounded forest p.vertices arrived (omega arith))

  pub route_none : (u w : ℕ) → (Linked p.first p.second F u w → ⊥) → route_of p F u w ≡ []
  unfolding route_of
  route_none u w h = rw (not_true_false (are_linked p F u w) (λ k. h (linked_elim p F bounded u w k)))
