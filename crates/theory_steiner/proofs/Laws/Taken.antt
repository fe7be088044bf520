-- Where any two vertices are required to be linked the picked edges are those taken one by one in order (document 02,
-- No. 14, the second claim). While edges are taken, the taken ones are the picked ones among those seen, and they link
-- whatever those seen link.
use Rattle.std.specs.Prelude.{ℕ, ◌<◌, ◌≡◌, refl, ◌⊎◌, Bool, true, ◌&&◌, eqb}
use Rattle.std.proofs.Common.{sym, ◌∙◌, subst, inl, ⊎_elim, eqb-true, eq-eqb, ne_eqb}
use Rattle.std.proofs.Math.Logic.{inr}
use Rattle.std.proofs.Math.Bool.{false}
use mathlib.Core.List.Memᴰ
use mathlib.Core.List.{[], List, ◌∷◌, Memᴰ}
use Rattle.std.proofs.lemmas.Bool.{eqb-false, not-true, not-false}
use Rattle.base_finite.specs.Laws.Test.{either, same_test_law, and_left, and_right, and_both, or_cases, or_left, or_right, true_not_false, not_of_false}
use Rattle.theory_graph.specs.Path.{Linked}
use Rattle.theory_graph.proofs.Laws.Linked.{linked_mono, linked_over, linked_ends}
use Rattle.theory_steiner.specs.Problem.{Problem, Sound, Bounded, EdgeSet, Joins, all_usable}
use Rattle.theory_steiner.specs.Pruning.{picked}
use Rattle.theory_steiner.specs.Spanning.{RequiresAll, comes_before, in_order_law, Rising, more, joins_parts, with_edge, taken_from, taken}
use Rattle.theory_steiner.proofs.Laws.Joined.{label_linked, linked_label}
use Rattle.theory_steiner.proofs.Laws.Finish.{picked_edges}
use Rattle.theory_steiner.proofs.Laws.Order.{before_not_both, before_not_itself, in_order_only, in_order_all, in_order_rising}
use Rattle.theory_steiner.proofs.Laws.Spanning.{before, before_edge, before_order, before_makes, picked_if_unlinked}

-- ---- the test, and one more edge

pub joins_parts_elim : (p : Problem) (F : ℕ → Bool) → Bounded p F → (e : ℕ) → joins_parts p F e ≡ true → Linked p.first p.second F (p.first e) (p.second e) → ⊥
unfolding joins_parts
joins_parts_elim p F bounded e h l = eqb-false _ _ (not-true _ h) (linked_label p F bounded (p.first e) (p.second e) l)

pub joins_parts_intro : (p : Problem) (F : ℕ → Bool) (e : ℕ) → (Linked p.first p.second F (p.first e) (p.second e) → ⊥) → joins_parts p F e ≡ true
unfolding joins_parts
joins_parts_intro p F e apart = not_of_false _ (ne_eqb _ _ (λ same. apart (label_linked p F (p.first e) (p.second e) same)))

pub joins_parts_not : (p : Problem) (F : ℕ → Bool) (e : ℕ) → joins_parts p F e ≡ false → Linked p.first p.second F (p.first e) (p.second e)
unfolding joins_parts
joins_parts_not p F e h = label_linked p F (p.first e) (p.second e) (eqb-true _ _ (not-false _ h))

pub with_edge_cases : (F : ℕ → Bool) (e : ℕ) (t : Bool) (f : ℕ) → with_edge F e t f ≡ true → (F f ≡ true) ⊎ ((t ≡ true) × (f ≡ e))
unfolding with_edge
with_edge_cases F e t f h =
    ⊎_elim inl (λ k. inr (and_left t (eqb f e) k, eqb-true f e (and_right t (eqb f e) k))) (or_cases (F f) (t && eqb f e) h)

pub with_edge_old : (F : ℕ → Bool) (e : ℕ) (t : Bool) (f : ℕ) → F f ≡ true → with_edge F e t f ≡ true
unfolding with_edge
with_edge_old F e t f h = or_left (F f) (t && eqb f e) h

pub with_edge_new : (F : ℕ → Bool) (e : ℕ) (t : Bool) (f : ℕ) → t ≡ true → f ≡ e → with_edge F e t f ≡ true
unfolding with_edge
with_edge_new F e t f h same = or_right (F f) (t && eqb f e) (and_both t (eqb f e) h (eq-eqb f e same))

-- ---- taking

-- What is left of the list: usable edges, each before all that follow it; what was seen are the usable edges that are
-- not left, and they come before those left.
record Left (p : Problem) (seen : ℕ → Bool) (es : List ℕ) : Type 0 where
  rising : Rising p es
  edges : (f : ℕ) → Memᴰ f es → (f < p.edges) × (p.usable f ≡ true)
  seen_edges : EdgeSet p seen
  seen_or_left : (f : ℕ) → f < p.edges → p.usable f ≡ true → (seen f ≡ true) ⊎ Memᴰ f es
  seen_before : (f g : ℕ) → seen f ≡ true → Memᴰ g es → comes_before p f g ≡ true

-- What is taken by then: of the seen edges the picked ones, and they link whatever the seen ones link.
record Takes (p : Problem) (seen T : ℕ → Bool) : Type 0 where
  sound : (f : ℕ) → T f ≡ true → (seen f ≡ true) × (picked p f ≡ true)
  whole : (f : ℕ) → seen f ≡ true → picked p f ≡ true → T f ≡ true
  links : (f : ℕ) → seen f ≡ true → Linked p.first p.second T (p.first f) (p.second f)

left_next : (p : Problem) (seen : ℕ → Bool) (e : ℕ) (es : List ℕ) → Left p seen (e ∷ es) → Left p (with_edge seen e true) es
left_next p seen e es l = by l.rising
  where
    by : Rising p (e ∷ es) → Left p (with_edge seen e true) es
    by (more low rest) =
        record {
          rising = rest;
          edges = λ f m. l.edges f (Memᴰ.tail m);
          seen_edges = λ f h.
              ⊎_elim
              (λ o. l.seen_edges f o)
              (λ k. l.edges f (Memᴰ.head k.1))
              (with_edge_cases seen e true f h);
          seen_or_left = λ f b u.
              ⊎_elim
              (λ o. inl (with_edge_old seen e true f o))
              (λ m. ⊎_elim (λ same. inl (with_edge_new seen e true f refl same)) inr (Memᴰ.cases_cons m))
              (l.seen_or_left f b u);
          seen_before = λ f g h m.
              ⊎_elim
              (λ o. l.seen_before f g o (Memᴰ.tail m))
              (λ k. subst (λ x. comes_before p x g ≡ true) (sym k.1) (low g m))
              (with_edge_cases seen e true f h);
        }

module _ (p : Problem) (ok : Sound p) (some : 0 < p.vertices) (joinable : Joins p (all_usable p)) (all : RequiresAll p) where
  -- The edges before the next one are those seen.
  seen_is_before : (seen : ℕ → Bool) (e : ℕ) (es : List ℕ) → Left p seen (e ∷ es) → (f : ℕ) → seen f ≡ before p e f
  seen_is_before seen e es l f =
      same_test_law (seen f) (before p e f)
      (λ h. let k = l.seen_edges f h in before_makes p e f k.0 k.1 (l.seen_before f e h (Memᴰ.head refl)))
      (λ h.
      let k = before_edge p e f h in
      let low = before_order p e f h in
      ⊎_elim
      (λ o. o)
      (λ m.
      absurd
      (⊎_elim
      (λ same. before_not_itself p f e same low)
      (λ o. late l.rising o low)
      (Memᴰ.cases_cons m)))
      (l.seen_or_left f k.0 k.1))
    where
      late : Rising p (e ∷ es) → Memᴰ f es → comes_before p f e ≡ true → ⊥
      late (more above rest) m low = before_not_both p f e low (above f m)

  -- The next edge joins two parts exactly if it is picked.
  joins_parts_if_picked : (seen T : ℕ → Bool) (e : ℕ) (es : List ℕ) → Left p seen (e ∷ es) → Takes p seen T → joins_parts p T e ≡ picked p e
  joins_parts_if_picked seen T e es l t =
      same_test_law (joins_parts p T e) (picked p e)
      (λ h.
      (picked_if_unlinked p ok some joinable all e its.0 its.1).1
      (λ k.
      joins_parts_elim p T bounded e h
      (linked_over t.links (linked_mono (λ f b. seen_is_before seen e es l f ∙ b) k))))
      (λ h.
      joins_parts_intro p T e
      (λ k.
      (picked_if_unlinked p ok some joinable all e its.0 its.1).0 h
      (linked_mono (λ f b. sym (seen_is_before seen e es l f) ∙ (t.sound f b).0) k)))
    where
      its : (e < p.edges) × (p.usable e ≡ true)
      its = l.edges e (Memᴰ.head refl)

      bounded : Bounded p T
      bounded f h = (l.seen_edges f (t.sound f h).0).0

  takes_next : (seen T : ℕ → Bool) (e : ℕ) (es : List ℕ) → Left p seen (e ∷ es) → Takes p seen T → Takes p (with_edge seen e true) (with_edge T e (joins_parts p T e))
  takes_next seen T e es l t =
      record {
        sound = λ f h.
            ⊎_elim
            (λ o. (with_edge_old seen e true f (t.sound f o).0, (t.sound f o).1))
            (λ k. (with_edge_new seen e true f refl k.1, subst (λ x. picked p x ≡ true) (sym k.1) (sym same ∙ k.0)))
            (with_edge_cases T e (joins_parts p T e) f h);
        whole = λ f h k.
            ⊎_elim
            (λ o. with_edge_old T e (joins_parts p T e) f (t.whole f o k))
            (λ n. with_edge_new T e (joins_parts p T e) f (same ∙ subst (λ x. picked p x ≡ true) n.1 k) n.1)
            (with_edge_cases seen e true f h);
        links = λ f h.
            ⊎_elim
            (λ o. linked_mono (with_edge_old T e (joins_parts p T e)) (t.links f o))
            (λ n. subst (λ x. Linked p.first p.second (with_edge T e (joins_parts p T e)) (p.first x) (p.second x)) (sym n.1) (new (either (joins_parts p T e))))
            (with_edge_cases seen e true f h);
      }
    where
      same : joins_parts p T e ≡ picked p e
      same = joins_parts_if_picked seen T e es l t

      new : (joins_parts p T e ≡ true) ⊎ (joins_parts p T e ≡ false) → Linked p.first p.second (with_edge T e (joins_parts p T e)) (p.first e) (p.second e)
      new (inl k) = linked_ends e (with_edge_new T e (joins_parts p T e) e k refl)
      new (inr k) = linked_mono (with_edge_old T e (joins_parts p T e)) (joins_parts_not p T e k)

  takes_all : (es : List ℕ) (seen T : ℕ → Bool) → Left p seen es → Takes p seen T → (f : ℕ) → taken_from p T es f ≡ picked p f
  unfolding taken_from
  takes_all [] seen T l t f =
      same_test_law (T f) (picked p f)
      (λ h. (t.sound f h).1)
      (λ h.
      let its = picked_edges p ok some joinable f h in
      t.whole f (⊎_elim (λ o. o) (λ m. absurd (Memᴰ.not-nil m)) (l.seen_or_left f its.0 its.1)) h)
  takes_all (e ∷ es) seen T l t f = takes_all es (with_edge seen e true) (with_edge T e (joins_parts p T e)) (left_next p seen e es l) (takes_next seen T e es l t) f

  taken_at : (f : ℕ) → taken p f ≡ picked p f
  unfolding taken
  taken_at f =
      takes_all (in_order_law p p.edges) (λ e. false) (λ e. false)
      (record {
        rising = in_order_rising p p.edges;
        edges = in_order_only p p.edges;
        seen_edges = λ f h. true_not_false false h refl;
        seen_or_left = λ f b u. inr (in_order_all p p.edges f b u);
        seen_before = λ f g h m. true_not_false false h refl;
      })
      (record {
        sound = λ f h. true_not_false false h refl;
        whole = λ f h k. true_not_false false h refl;
        links = λ f h. true_not_false false h refl;
      })
      f

  -- The picks are those of taking, by weight, then number, each edge that joins two parts.
  pub picked_is_taken : picked p ≡ taken p
  picked_is_taken i f = sym (taken_at f) i
