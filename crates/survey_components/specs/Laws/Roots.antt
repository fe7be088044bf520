-- Trees in a buffer are the components of the definition: the root above a vertex is its label, and hanging the root above b on the one above a
-- is `merged`. Labels of all components use it.
use Prim.Native.Nat.{ℕ, zero, suc, ◌+◌, ◌-◌, ◌<◌, ◌≤◌}
use native.Mathlib.Omega.{arith}
use Rattle.std.proofs.Math.Nat.{sub-zero}
use Rattle.std.proofs.Common.{add-one, ap, ◌∙◌, subst, inl, inr, ⊎_elim, length-set, ext_get_or, get_or-set_same, get_or-set_other, eqb-true, eq-eqb, ne_eqb}
use Rattle.std.proofs.Math.Decide.{ℕ_discrete}
use Rattle.std.specs.Prelude.{◌≡◌, refl, ◌⊎◌, Bool, true, false, cond, length, set, eqb}
use Rattle.std.proofs.Math.Path.{sym}
use mathlib.Core.List.{List}
use Rattle.std.proofs.Math.ListN.{get_or}
use Rattle.std.proofs.lemmas.List.{set-get_or}
use Rattle.std.proofs.lemmas.Bool.{eqb-false}
use Rattle.base_finite.specs.Below.{tabulate}
use Rattle.base_finite.specs.Laws.Below.{length_tabulate, get_d_tabulate}
use Rattle.base_finite.specs.Laws.Test.{either}
use Rattle.theory_graph.specs.Component.{merged, components}
use Rattle.theory_graph.proofs.Laws.Component.{merged_in, merged_out, merged_cong}
use Rattle.survey_components.specs.Roots.{Climbed, climbed_to, climbed, climbed_twice, ends_hung, one_root, levelled}
use Rattle.survey_components.specs.Laws.Buffer.{components_suc, merged_one}

by_number : {A : Type 0} (u v : ℕ) → (u ≡ v → A) → ((u ≡ v → ⊥) → A) → A
by_number {A} u v f g = by (ℕ_discrete u v)
  where
    by : Dec (u ≡ v) → A
    by (yes q) = f q
    by (no n) = g n

set_here : (l : List ℕ) (v w u : ℕ) → v < length l → u ≡ v → get_or (set l v w) u 0 ≡ w
set_here l v w u b q = ap (λ t. get_or (set l v w) t 0) q ∙ get_or-set_same l v w 0 b

-- Parents of the N vertices whose components have these labels. Heights rise on the way up to the roots, which have the height `top`.
pub record Hung (N : ℕ) (label : ℕ → ℕ) (top : ℕ) (height : ℕ → ℕ) (parents : List ℕ) : Type 0 where
  pub long : length parents ≡ N
  pub below : (v : ℕ) → v < N → get_or parents v 0 < N
  pub same : (v : ℕ) → v < N → label (get_or parents v 0) ≡ label v
  pub root : (v : ℕ) → v < N → get_or parents v 0 ≡ v → label v ≡ v
  pub own : (v : ℕ) → v < N → label v ≡ v → get_or parents v 0 ≡ v
  pub rises : (v : ℕ) → v < N → (get_or parents v 0 ≡ v) ⊎ (height v < height (get_or parents v 0))
  pub high : (v : ℕ) → v < N → get_or parents v 0 ≡ v → height v ≡ top
  pub bounded : (v : ℕ) → v < N → height v ≤ top

-- What a climb from x comes to: the root is x's label, and who hung on its root still does.
pub record Rooted (N : ℕ) (label : ℕ → ℕ) (top : ℕ) (height : ℕ → ℕ) (x : ℕ) (before : List ℕ) (c : Climbed) : Type 0 where
  pub hung : Hung N label top height c.parents
  pub is : c.root ≡ label x
  pub root_below : c.root < N
  pub at_root : get_or c.parents c.root 0 ≡ c.root
  pub kept : (u : ℕ) → u < N → get_or before u 0 ≡ label u → get_or c.parents u 0 ≡ label u

module _ (N : ℕ) (label : ℕ → ℕ) (top : ℕ) (height : ℕ → ℕ) where
  -- A vertex at the top is a root.
  at_top : (p : List ℕ) → Hung N label top height p → (v : ℕ) → v < N → top ≤ height v → get_or p v 0 ≡ v
  at_top p h v b t = ⊎_elim (λ q. q) (λ l. absurd (let k = h.bounded (get_or p v 0) (h.below v b) in omega arith)) (h.rises v b)

  -- A vertex may hang on any higher one of its component.
  rehung : (p : List ℕ) → Hung N label top height p → (v w : ℕ) → v < N → w < N → label w ≡ label v → height v < height w
      → Hung N label top height (set p v w)
  rehung p h v w bv bw is up =
      record {
        long = length-set p v w ∙ h.long;
        below = λ u b. by_number u v (λ q. rw (here u q) bw) (λ n. rw (there u n) (h.below u b));
        same = λ u b. by_number u v (λ q. ap label (here u q) ∙ is ∙ ap label (sym q)) (λ n. ap label (there u n) ∙ h.same u b);
        root = λ u b t. by_number u v (λ q. absurd (moved u q t)) (λ n. h.root u b (sym (there u n) ∙ t));
        own = λ u b t. by_number u v (λ q. absurd (high_not u b q t)) (λ n. there u n ∙ h.own u b t);
        rises = λ u b. by_number u v (λ q. inr (rw (here u q, q) up)) (λ n. rw (there u n) (h.rises u b));
        high = λ u b t. by_number u v (λ q. absurd (moved u q t)) (λ n. h.high u b (sym (there u n) ∙ t));
        bounded = h.bounded;
      }
    where
      here : (u : ℕ) → u ≡ v → get_or (set p v w) u 0 ≡ w
      here u q = set_here p v w u (let l = h.long in omega arith) q

      there : (u : ℕ) → (u ≡ v → ⊥) → get_or (set p v w) u 0 ≡ get_or p u 0
      there u n = get_or-set_other p v u w 0 n

      moved : (u : ℕ) → u ≡ v → get_or (set p v w) u 0 ≡ u → ⊥
      moved u q t = let e : height w ≡ height v = ap height (sym (here u q) ∙ t ∙ q) in omega arith

      high_not : (u : ℕ) → u < N → u ≡ v → label u ≡ u → ⊥
      high_not u b q t =
          let k : height u ≡ top = h.high u b (h.own u b t) in
          let e : height u ≡ height v = ap height q in
          let m = h.bounded w bw in omega arith

  -- And on its root.
  rooted : (p : List ℕ) → Hung N label top height p → (v r : ℕ) → v < N → r < N → get_or p r 0 ≡ r → r ≡ label v → Hung N label top height (set p v r)
  rooted p h v r bv br t is =
      by_number v r
      (λ q. subst (Hung N label top height) (sym (ap (set p v) (sym (ap (λ k. get_or p k 0) q ∙ t)) ∙ set-get_or p v 0)) h)
      (λ n. rehung p h v r bv br (h.root r br t ∙ is) (lower n (h.rises v bv)))
    where
      lower : (v ≡ r → ⊥) → (get_or p v 0 ≡ v) ⊎ (height v < height (get_or p v 0)) → height v < height r
      lower n (inl q) = absurd (n (sym (h.root v bv q) ∙ sym is))
      lower n (inr l) = let k = h.bounded (get_or p v 0) (h.below v bv) in let e = h.high r br t in omega arith

  climb_right : (k : ℕ) (p : List ℕ) → Hung N label top height p → (x : ℕ) → x < N → top ≤ height x + k → Rooted N label top height x p (climbed k p x)
  unfolding climbed
  climb_right zero p h x b t =
      let q : get_or p x 0 ≡ x = at_top p h x b (omega arith) in
      record { hung = h; is = sym (h.root x b q); root_below = b; at_root = q; kept = λ u l e. e }
  climb_right (suc k) p h x b t = by (λ hh bb tt. climb_right k (set p x (get_or p (get_or p x 0) 0)) hh (get_or p (get_or p x 0) 0) bb tt) (either (eqb (get_or p x 0) x))
    where
      up : ℕ
      up = get_or p x 0

      above : ℕ
      above = get_or p up 0

      stays : get_or p x 0 ≡ x → Rooted N label top height x p (climbed_to x p)
      stays q = record { hung = h; is = sym (h.root x b q); root_below = b; at_root = q; kept = λ u l e. e }

      up_below : up < N
      up_below = h.below x b

      higher : (get_or p x 0 ≡ x → ⊥) → height x < height above
      higher n =
          let one : height x < height up = ⊎_elim (λ q. absurd (n q)) (λ l. l) (h.rises x b) in
          ⊎_elim (λ q. let e : height above ≡ height up = ap height q in omega arith) (λ l. omega arith) (h.rises up up_below)

      hung_on_law : (u : ℕ) → u < N → get_or p u 0 ≡ label u → get_or (set p x above) u 0 ≡ label u
      hung_on_law u l e =
          by_number u x
          (λ q.
          let is_up : up ≡ label x = ap (λ k. get_or p k 0) (sym q) ∙ e ∙ ap label q in
          set_here p x above u (let n = h.long in omega arith) q
          ∙ h.own up up_below (h.same x b ∙ sym is_up) ∙ is_up ∙ ap label (sym q))
          (λ n. get_or-set_other p x u above 0 n ∙ e)

      goes : (get_or p x 0 ≡ x → ⊥) → Rooted N label top height above (set p x above) (climbed k (set p x above) above)
          → Rooted N label top height x p (climbed k (set p x above) above)
      goes n r =
          record {
            hung = r.hung;
            is = r.is ∙ h.same up up_below ∙ h.same x b;
            root_below = r.root_below;
            at_root = r.at_root;
            kept = λ u l e. r.kept u l (hung_on_law u l e);
          }

      by : (Hung N label top height (set p x above) → above < N → top ≤ height above + k
          → Rooted N label top height above (set p x above) (climbed k (set p x above) above))
          → (eqb (get_or p x 0) x ≡ true) ⊎ (eqb (get_or p x 0) x ≡ false)
          → Rooted N label top height x p (cond (eqb (get_or p x 0) x) (climbed_to x p) (climbed k (set p x above) above))
      by rec (inl e) = rw e (stays (eqb-true (get_or p x 0) x e))
      by rec (inr e) =
          let n : get_or p x 0 ≡ x → ⊥ = eqb-false (get_or p x 0) x e in
          let l : height x < height above = higher n in
          rw e (goes n (rec (rehung p h x above b (h.below up up_below) (h.same up up_below ∙ h.same x b) l) (h.below up up_below) (omega arith)))

  -- Vertices below i hang on their roots.
  record OnRoots (i : ℕ) (p : List ℕ) : Type 0 where
    hung : Hung N label top height p
    done : (u : ℕ) → u < i → get_or p u 0 ≡ label u

  level_right : (k : ℕ) → top ≤ k → (p : List ℕ) → Hung N label top height p → (i : ℕ) → i ≤ N → OnRoots i (levelled k i p)
  unfolding levelled
  level_right k few p h zero fits = record { hung = h; done = λ u l. absurd (omega arith) }
  level_right k few p h (suc v) fits = by (level_right k few p h v (omega arith))
    where
      q : List ℕ
      q = levelled k v p

      c : Climbed
      c = climbed k q (get_or q v 0)

      by : OnRoots v q → OnRoots (suc v) (set c.parents v c.root)
      by l =
          let r : Rooted N label top height (get_or q v 0) q c = climb_right k q l.hung (get_or q v 0) (l.hung.below v (omega arith)) (omega arith) in
          let is : c.root ≡ label v = r.is ∙ l.hung.same v (omega arith) in
          let n : length c.parents ≡ N = r.hung.long in
          record {
            hung = rooted c.parents r.hung v c.root (omega arith) r.root_below r.at_root is;
            done = λ u b.
                by_number u v
                (λ e. set_here c.parents v c.root u (omega arith) e ∙ is ∙ ap label (sym e))
                (λ d. get_or-set_other c.parents v u c.root 0 d ∙ r.kept u (omega arith) (l.done u (omega arith)));
          }

-- The root y hangs on another root x. The other roots rise by 1.
module _ (N : ℕ) (label : ℕ → ℕ) (top : ℕ) (height : ℕ → ℕ) (p : List ℕ) (h : Hung N label top height p) (x y : ℕ) (bx : x < N) (by : y < N)
    (tx : get_or p x 0 ≡ x) (ty : get_or p y 0 ≡ y) (apart : x ≡ y → ⊥) where
  abbrev united : ℕ → ℕ
  united = merged x y x label

  -- y keeps its height.
  abbrev raised : ℕ → ℕ
  raised v = cond (eqb v y) (height v) (cond (eqb (height v) top) (top + 1) (height v))

  here : (u : ℕ) → u ≡ y → get_or (set p y x) u 0 ≡ x
  here u q = set_here p y x u (let l = h.long in omega arith) q

  there : (u : ℕ) → (u ≡ y → ⊥) → get_or (set p y x) u 0 ≡ get_or p u 0
  there u n = get_or-set_other p y u x 0 n

  united_x : (u : ℕ) → u ≡ x → united u ≡ x
  united_x u q = merged_in x y x label u (inl (ap label q ∙ h.root x bx tx))

  united_y : (u : ℕ) → u ≡ y → united u ≡ x
  united_y u q = merged_in x y x label u (inr (ap label q ∙ h.root y by ty))

  moved : (u : ℕ) → u ≡ y → get_or (set p y x) u 0 ≡ u → ⊥
  moved u q t = apart (sym (here u q) ∙ t ∙ q)

  raised_y : raised y ≡ height y
  raised_y = rw (eq-eqb y y refl)

  raised_root : (u : ℕ) → (u ≡ y → ⊥) → height u ≡ top → raised u ≡ top + 1
  raised_root u n t = rw (ne_eqb u y n, eq-eqb (height u) top t)

  raised_low : (u : ℕ) → height u < top → raised u ≡ height u
  raised_low u l = by_number u y (λ q. rw (eq-eqb u y q)) (λ n. rw (ne_eqb u y n, ne_eqb (height u) top (λ e. omega arith)))

  raised_le : (u : ℕ) → u < N → (height u ≤ raised u) × (raised u ≤ top + 1)
  raised_le u b =
      let k = h.bounded u b in
      by_number u y
      (λ q. let e : raised u ≡ height u = rw (eq-eqb u y q) in (omega arith, omega arith))
      (λ n.
      by_number (height u) top
      (λ t. let e = raised_root u n t in (omega arith, omega arith))
      (λ t. let e = raised_low u (omega arith) in (omega arith, omega arith)))

  raised_up : (u : ℕ) → u < N → height u < height (get_or p u 0) → raised u < raised (get_or p u 0)
  raised_up u b l =
      let k : height (get_or p u 0) ≤ top = h.bounded (get_or p u 0) (h.below u b) in
      let e : raised u ≡ height u = raised_low u (omega arith) in
      let g : height (get_or p u 0) ≤ raised (get_or p u 0) = (raised_le (get_or p u 0) (h.below u b)).0 in omega arith

  linked_rises : (u : ℕ) → u < N → (get_or (set p y x) u 0 ≡ u) ⊎ (raised u < raised (get_or (set p y x) u 0))
  linked_rises u b =
      by_number u y
      (λ q.
      let hx = raised_root x apart (h.high x bx tx) in
      let hy : raised u ≡ height y = ap raised q ∙ raised_y in
      let k = h.bounded y by in
      inr (rw (here u q) (omega arith)))
      (λ n. ⊎_elim (λ t. inl (there u n ∙ t)) (λ l. inr (rw (there u n) (raised_up u b l))) (h.rises u b))

  linked_root : (u : ℕ) → u < N → get_or p u 0 ≡ u → (u ≡ y → ⊥) → united u ≡ u
  linked_root u b t n =
      let is : label u ≡ u = h.root u b t in
      by_number u x
      (λ q. united_x u q ∙ sym q)
      (λ m. merged_out x y x label u (λ e. m (sym is ∙ e)) (λ e. n (sym is ∙ e)) ∙ is)

  linked_own : (u : ℕ) → u < N → (u ≡ y → ⊥) → united u ≡ u → get_or p u 0 ≡ u
  linked_own u b n t =
      by_number u x
      (λ q. ap (λ k. get_or p k 0) q ∙ tx ∙ sym q)
      (λ m.
      h.own u b
      (sym
      (merged_out x y x label u
      (λ e. m (sym t ∙ merged_in x y x label u (inl e)))
      (λ e. m (sym t ∙ merged_in x y x label u (inr e))))
      ∙ t))

  linked : Hung N united (top + 1) raised (set p y x)
  linked =
      record {
        long = length-set p y x ∙ h.long;
        below = λ u b. by_number u y (λ q. rw (here u q) bx) (λ n. rw (there u n) (h.below u b));
        same = λ u b.
            by_number u y
            (λ q. ap united (here u q) ∙ united_x x refl ∙ sym (united_y u q))
            (λ n. ap united (there u n) ∙ merged_cong x y x label (get_or p u 0) u (h.same u b));
        root = λ u b t. by_number u y (λ q. absurd (moved u q t)) (λ n. linked_root u b (sym (there u n) ∙ t) n);
        own = λ u b t. by_number u y (λ q. absurd (apart (sym (united_y u q) ∙ t ∙ q))) (λ n. there u n ∙ linked_own u b n t);
        rises = linked_rises;
        high = λ u b t. by_number u y (λ q. absurd (moved u q t)) (λ n. raised_root u n (h.high u b (sym (there u n) ∙ t)));
        bounded = λ u b. (raised_le u b).1;
      }

-- ---- trees of at most e joinings

pub record Trees (N : ℕ) (label : ℕ → ℕ) (e : ℕ) (parents : List ℕ) : Type 0 where
  pub top : ℕ
  pub height : ℕ → ℕ
  pub few : top ≤ e
  pub hung : Hung N label top height parents

-- Each vertex is a root.
trees_start : (N : ℕ) {parents : List ℕ} → parents ≡ tabulate N (λ v. v) → Trees N (λ v. v) 0 parents
trees_start N {parents} h =
    record {
      top = 0;
      height = λ v. 0;
      few = omega arith;
      hung =
          record {
            long = ap length h ∙ length_tabulate N (λ v. v);
            below = λ v b. rw (at v b) b;
            same = λ v b. at v b;
            root = λ v b t. refl;
            own = λ v b t. at v b;
            rises = λ v b. inl (at v b);
            high = λ v b t. refl;
            bounded = λ v b. omega arith;
          };
    }
  where
    at : (v : ℕ) → v < N → get_or parents v 0 ≡ v
    at v b = ap (λ t. get_or t v 0) h ∙ get_d_tabulate N (λ v. v) v 0 b

-- Labels that are the same everywhere, and more joinings.
trees_same : (N : ℕ) (f g : ℕ → ℕ) (e d : ℕ) {parents : List ℕ} → ((v : ℕ) → f v ≡ g v) → e ≤ d → Trees N f e parents → Trees N g d parents
trees_same N f g e d {parents} same more t =
    let few = t.few in
    let h = t.hung in
    record {
      top = t.top;
      height = t.height;
      few = omega arith;
      hung =
          record {
            long = h.long;
            below = h.below;
            same = λ v b. sym (same (get_or parents v 0)) ∙ h.same v b ∙ same v;
            root = λ v b q. sym (same v) ∙ h.root v b q;
            own = λ v b q. h.own v b (same v ∙ q);
            rises = h.rises;
            high = h.high;
            bounded = h.bounded;
          };
    }

merged_still : (x : ℕ) (label : ℕ → ℕ) (v : ℕ) → label v ≡ merged x x x label v
unfolding merged
merged_still x label v = sym (merged_one x (label v))

module _ (N : ℕ) (label : ℕ → ℕ) (e k : ℕ) (parents : List ℕ) (t : Trees N label e parents) (enough : e ≤ k) (a b : ℕ) (ab : a < N) (bb : b < N) where
  first : Rooted N label t.top t.height a parents (climbed k parents a)
  first = let few = t.few in climb_right N label t.top t.height k parents t.hung a ab (omega arith)

  second : Rooted N label t.top t.height b (climbed k parents a).parents (climbed_twice k a b parents)
  unfolding climbed_twice
  second = let few = t.few in climb_right N label t.top t.height k (climbed k parents a).parents first.hung b bb (omega arith)

  -- Whether the ends are in one component.
  pub trees_one : one_root k a b parents ≡ eqb (label a) (label b)
  unfolding one_root
  trees_one = rw (first.is, second.is)

  -- The ends become one component.
  pub trees_joined : Trees N (merged (label a) (label b) (label a) label) (e + 1) (ends_hung k a b parents)
  unfolding ends_hung
  trees_joined = by_number x y same (λ n. apart n)
    where
      x : ℕ
      x = (climbed k parents a).root

      y : ℕ
      y = (climbed_twice k a b parents).root

      p : List ℕ
      p = (climbed_twice k a b parents).parents

      tx : get_or p x 0 ≡ x
      tx =
          let high = first.hung.high x first.root_below first.at_root in
          at_top N label t.top t.height p second.hung x first.root_below (omega arith)

      same : x ≡ y → Trees N (merged (label a) (label b) (label a) label) (e + 1) (set p y x)
      same q =
          let is : label a ≡ label b = sym first.is ∙ q ∙ second.is in
          let still : set p y x ≡ p = ap (set p y) (q ∙ sym second.at_root) ∙ set-get_or p y 0 in
          rw (still, ← is)
          (trees_same N label (merged (label a) (label a) (label a) label) e (e + 1) (merged_still (label a) label) (omega arith)
          (record { top = t.top; height = t.height; few = t.few; hung = second.hung }))

      apart : (x ≡ y → ⊥) → Trees N (merged (label a) (label b) (label a) label) (e + 1) (set p y x)
      apart n =
          let few = t.few in
          rw (← first.is, ← second.is)
          (record {
            top = t.top + 1;
            height = raised N label t.top t.height p second.hung x y first.root_below second.root_below tx second.at_root n;
            few = omega arith;
            hung = linked N label t.top t.height p second.hung x y first.root_below second.root_below tx second.at_root n;
          })

-- No edge yet.
pub trees_none : (n N : ℕ) (a b : ℕ → ℕ) (F : ℕ → Bool) {parents : List ℕ} → parents ≡ tabulate N (λ v. v) → Trees N (components n a b F 0) 0 parents
unfolding components
trees_none n N a b F h = trees_start N h

-- One more edge.
pub trees_more : (n N : ℕ) (a b : ℕ → ℕ) (F : ℕ → Bool) (e k : ℕ) {parents after : List ℕ} → a e < N → b e < N → e ≤ k
    → Trees N (components n a b F e) e parents → after ≡ cond (F e) (ends_hung k (a e) (b e) parents) parents
    → Trees N (components n a b F (e + 1)) (e + 1) after
trees_more n N a b F e k {parents} {after} ab bb enough t is = rw (is, add-one e) (by (either (F e)))
  where
    label : ℕ → ℕ
    label = components n a b F e

    by : (F e ≡ true) ⊎ (F e ≡ false) → Trees N (components n a b F (suc e)) (suc e) (cond (F e) (ends_hung k (a e) (b e) parents) parents)
    by (inl f) =
        rw f
        (trees_same N (merged (label (a e)) (label (b e)) (label (a e)) label) (components n a b F (suc e)) (e + 1) (suc e)
        (λ v. sym (components_suc n a b F e v ∙ rw f))
        (omega arith)
        (trees_joined N label e k parents t enough (a e) (b e) ab bb))
    by (inr f) = rw f (trees_same N label (components n a b F (suc e)) e (suc e) (λ v. sym (components_suc n a b F e v ∙ rw f)) (omega arith) t)

-- Levelled trees are the labels.
trees_level : (N : ℕ) (label : ℕ → ℕ) (e k : ℕ) {parents : List ℕ} → Trees N label e parents → e ≤ k → levelled k N parents ≡ tabulate N label
trees_level N label e k {parents} t enough =
    let few = t.few in
    let l : OnRoots N label t.top t.height N (levelled k N parents) = level_right N label t.top t.height k (omega arith) parents t.hung N (omega arith) in
    let long = l.hung.long in
    ext_get_or 0 (levelled k N parents) (tabulate N label) (long ∙ sym (length_tabulate N label))
    (λ v b. l.done v (omega arith) ∙ sym (get_d_tabulate N label v 0 (omega arith)))

-- After all edges, levelled by a call.
pub trees_labels : (n N : ℕ) (a b : ℕ → ℕ) (F : ℕ → Bool) (e m : ℕ) {parents after : List ℕ} → e ≤ m → m ≤ e → Trees N (components n a b F e) e parents
    → after ≡ levelled m (length parents) parents → after ≡ tabulate N (components n a b F m)
trees_labels n N a b F e m {parents} h k t is =
    let q : e ≡ m = omega arith in
    is ∙ ap (λ i. levelled m i parents) t.hung.long ∙ trees_level N (components n a b F e) e m t h ∙ ap (λ i. tabulate N (components n a b F i)) q

-- ---- as the loops come to it

climbed_suc : (k : ℕ) (p : List ℕ) (x : ℕ) → climbed (suc k) p x
    ≡ cond (eqb (get_or p x 0) x) (climbed_to x p) (climbed k (set p x (get_or p (get_or p x 0) 0)) (get_or p (get_or p x 0) 0))
unfolding climbed
climbed_suc k p x = refl

pub climb_start : (k : ℕ) (p : List ℕ) (x : ℕ) → climbed (k - 0) p x ≡ climbed k p x
climb_start k p x = ap (λ j. climbed j p x) (sub-zero k)

module _ (k i : ℕ) (p : List ℕ) (x : ℕ) {end : Climbed} (h : climbed (k - i) p x ≡ end) where
  -- No steps are left.
  pub climb_out : k ≤ i → climbed_to x p ≡ end
  unfolding climbed
  climb_out b = let e : k - i ≡ 0 = omega arith in sym (ap (λ j. climbed j p x) e) ∙ h

  module _ (b : i < k) where
    next : k - i ≡ suc (k - (i + 1))
    next = omega arith

    -- A root.
    pub climb_found : {up : ℕ} → up ≡ get_or p x 0 → up ≡ x → climbed_to x p ≡ end
    climb_found u q = sym (ap (λ j. climbed j p x) next ∙ climbed_suc (k - (i + 1)) p x ∙ rw (eq-eqb (get_or p x 0) x (sym u ∙ q))) ∙ h

    -- A step.
    pub climb_turn : {up above : ℕ} → up ≡ get_or p x 0 → (up ≡ x → ⊥) → above ≡ get_or p up 0 → climbed (k - (i + 1)) (set p x above) above ≡ end
    climb_turn u q a =
        rw (a, u) (sym (ap (λ j. climbed j p x) next ∙ climbed_suc (k - (i + 1)) p x ∙ rw (ne_eqb (get_or p x 0) x (λ e. q (u ∙ e)))) ∙ h)

-- One more vertex on its root.
pub level_turn : (k v : ℕ) (p : List ℕ) {now : List ℕ} → now ≡ levelled k v p
    → set (climbed k now (get_or now v 0)).parents v (climbed k now (get_or now v 0)).root ≡ levelled k (v + 1) p
unfolding levelled
level_turn k v p h = rw (h, add-one v)

pub level_end : (k n v : ℕ) (p : List ℕ) → v ≤ n → n ≤ v → levelled k v p ≡ levelled k n p
level_end k n v p b c = let e : v ≡ n = omega arith in rw e
