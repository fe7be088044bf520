-- Trees of an edge more, where two vertices that hang on one are left as they are. `label_components` uses it.
use Rattle.std.specs.Prelude.{ℕ, ◌+◌, ◌<◌, ◌≤◌, ◌≡◌, refl, ◌⊎◌, Bool, true, false, ◌||◌, cond, List, get_or, eqb}
use Rattle.std.proofs.Common.{arith, add-one, ap, sym, ◌∙◌, inl, inr, ⊎_elim, eqb-true, eq-eqb, ne_eqb}
use Rattle.std.proofs.Math.Path.{subst}
use Rattle.base_finite.specs.Laws.Test.{either}
use Rattle.theory_graph.specs.Component.{merged, components}
use Rattle.survey_components.specs.Roots.{ends_hung}
use Rattle.survey_components.specs.Laws.Buffer.{components_suc}
use Rattle.survey_components.specs.Laws.Roots.{Hung, Trees, trees_more}
use Rattle.survey_components.specs.Met.{ends_met}

-- A component that is joined with itself stays as it is.
merged_self : (x y : ℕ) (label : ℕ → ℕ) (v : ℕ) → x ≡ y → merged x y x label v ≡ label v
unfolding merged
merged_self x y label v q = rw (← q) (by (either (eqb (label v) x)))
  where
    by : (eqb (label v) x ≡ true) ⊎ (eqb (label v) x ≡ false) → cond (eqb (label v) x || eqb (label v) x) x (label v) ≡ label v
    by (inl h) = rw h (sym (eqb-true (label v) x h))
    by (inr h) = rw h

-- Labels that are the same everywhere, and one joining more.
trees_still : (N : ℕ) (f g : ℕ → ℕ) (e : ℕ) {parents : List ℕ} → ((v : ℕ) → f v ≡ g v) → Trees N f e parents → Trees N g (e + 1) parents
trees_still N f g e {parents} same t =
    record {
      top = t.top;
      height = t.height;
      few = let w = t.few in omega arith;
      hung = subst (λ label. Hung N label t.top t.height parents) (λ i v. same v i) t.hung;
    }

module _ (n N : ℕ) (a b : ℕ → ℕ) (F : ℕ → Bool) (e : ℕ) {parents : List ℕ} (ab : a e < N) (bb : b e < N) (t : Trees N (components n a b F e) e parents) where
  -- Both ends hang on one vertex: no label changes.
  met_still : get_or parents (a e) 0 ≡ get_or parents (b e) 0 → (v : ℕ) → components n a b F e v ≡ components n a b F (e + 1) v
  met_still h v =
      let label : ℕ → ℕ = components n a b F e in
      let one : label (a e) ≡ label (b e) = sym (t.hung.same (a e) ab) ∙ ap label h ∙ t.hung.same (b e) bb in
      sym
      (ap (λ k. components n a b F k v) (add-one e)
      ∙ components_suc n a b F e v
      ∙ ⊎_elim
      (λ f. rw f (merged_self (label (a e)) (label (b e)) label v one))
      (λ f. rw f)
      (either (F e)))

  pub trees_met : (k : ℕ) {after : List ℕ} → e ≤ k → after ≡ cond (F e) (ends_met k (a e) (b e) parents) parents
      → Trees N (components n a b F (e + 1)) (e + 1) after
  unfolding ends_met
  trees_met k {after} enough is = by (either (eqb (get_or parents (a e) 0) (get_or parents (b e) 0)))
    where
      by : (eqb (get_or parents (a e) 0) (get_or parents (b e) 0) ≡ true) ⊎ (eqb (get_or parents (a e) 0) (get_or parents (b e) 0) ≡ false)
          → Trees N (components n a b F (e + 1)) (e + 1) after
      by (inl h) =
          subst (Trees N (components n a b F (e + 1)) (e + 1))
          (sym (is ∙ rw h (⊎_elim (λ (f : F e ≡ true). rw f refl) (λ f. rw f refl) (either (F e)))))
          (trees_still N (components n a b F e) (components n a b F (e + 1)) e (met_still (eqb-true (get_or parents (a e) 0) (get_or parents (b e) 0) h)) t)
      by (inr h) = trees_more n N a b F e k ab bb enough t (is ∙ rw h refl)

-- What the code sees of the two: i and j are their places, x and y what they hang on.
module _ (k a b : ℕ) (parents : List ℕ) {i j x y : ℕ} (ia : i ≡ a) (xi : x ≡ get_or parents i 0) (jb : j ≡ b) (yj : y ≡ get_or parents j 0) where
  pub met_one : x ≡ y → parents ≡ ends_met k a b parents
  unfolding ends_met
  met_one h = rw (eq-eqb (get_or parents a 0) (get_or parents b 0) (rw (← ia, ← jb, ← xi, ← yj) h))

  pub met_hung : {after : List ℕ} → (x ≡ y → ⊥) → after ≡ ends_hung k a b parents → after ≡ ends_met k a b parents
  unfolding ends_met
  met_hung h is = is ∙ rw (ne_eqb (get_or parents a 0) (get_or parents b 0) (λ q. h (rw (xi, yj, ia, jb) q)))
