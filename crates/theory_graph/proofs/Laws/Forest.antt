-- Forests: an edge between two components keeps a forest one, and the edges of a forest that no required pair needs can all be
-- dropped at once (source 001, Lemma 22.6).
use Rattle.std.specs.Prelude.{ℕ, zero, suc, ◌<◌, ◌≤◌, ◌≡◌, ◌⊎◌, Bool, true, false, ◌&&◌, ◌||◌, leb}
use Rattle.std.proofs.Common.{ap, sym, ◌∙◌, subst, inl, inr, ⊎_elim, arith, le-leb, leb-true}
use Rattle.std.proofs.lemmas.Bool.{false≢true}
use Rattle.std.proofs.Math.Decide.{ℕ_discrete}
use Rattle.base_finite.specs.Laws.Test.{either, and_left, and_right, and_both, or_cases, or_left, or_right}
use Rattle.theory_graph.specs.Path.{Linked, without, Forest}
use Rattle.theory_graph.proofs.Laws.Linked.{Through, avoids, forwards, backwards, one_more_law, linked_trans, linked_sym, linked_mono, linked_ends, without_elim, without_intro, without_mono, through_without, linked_without}

-- One more edge, between two components.
module _ (a b : ℕ → ℕ) (F G : ℕ → Bool) (e : ℕ) (forest : Forest a b F) (apart : Linked a b F (a e) (b e) → ⊥)
    (only : (f : ℕ) → G f ≡ true → (F f ≡ true) ⊎ (f ≡ e)) where
  older : (f : ℕ) → F f ≡ true → Through a b (without F f) e (a f) (b f) → ⊥
  older f h (avoids p) = forest f h p
  older f h (forwards p q) =
      apart (linked_trans (linked_sym (linked_without f p)) (linked_trans (linked_ends f h) (linked_sym (linked_without f q))))
  older f h (backwards p q) =
      apart (linked_trans (linked_without f q) (linked_trans (linked_sym (linked_ends f h)) (linked_without f p)))

  pub forest_more : Forest a b G
  forest_more f g p = by (ℕ_discrete f e)
    where
      rest : (k : ℕ) → without G f k ≡ true → (without F f k ≡ true) ⊎ (k ≡ e)
      rest k h =
          ⊎_elim (λ old. inl (without_intro F f k old (without_elim G f k h).1)) inr (only k (without_elim G f k h).0)

      by : Dec (f ≡ e) → ⊥
      by (yes same) =
          apart
          (subst (λ x. Linked a b F (a x) (b x)) same
          (linked_mono
          (λ k h. ⊎_elim (λ old. old) (λ new. absurd ((without_elim G f k h).1 (new ∙ sym same))) (only k (without_elim G f k h).0)) p))
      by (no other) = ⊎_elim (λ old. older f old (one_more_law e rest p)) (λ same. absurd (other same)) (only f g)

-- Dropping at once: F is a forest of edges below m; `needs e` is false only of edges that every required pair can spare.
module _ (a b : ℕ → ℕ) (F needs : ℕ → Bool) (m : ℕ) (R : ℕ → ℕ → Type 0) (bounded : (e : ℕ) → F e ≡ true → e < m)
    (forest : Forest a b F) (joins : (u w : ℕ) → R u w → Linked a b F u w)
    (spare : (e : ℕ) → F e ≡ true → needs e ≡ false → (u w : ℕ) → R u w → Linked a b (without F e) u w) where
  -- what is left after the edges below i
  abbrev left : ℕ → ℕ → Bool
  left i e = F e && (needs e || leb i e)

  left_sub : (i e : ℕ) → left i e ≡ true → F e ≡ true
  left_sub i e h = and_left (F e) (needs e || leb i e) h

  -- an edge that stays but for number i
  left_step : (i e : ℕ) → without (left i) i e ≡ true → left (suc i) e ≡ true
  left_step i e h =
      let l : left i e ≡ true = (without_elim (left i) i e h).0 in
      let other : e ≡ i → ⊥ = (without_elim (left i) i e h).1 in
      and_both (F e) (needs e || leb (suc i) e) (left_sub i e l)
      (⊎_elim
      (λ n. or_left (needs e) (leb (suc i) e) n)
      (λ k. let b : i ≤ e = leb-true i e k in or_right (needs e) (leb (suc i) e) (le-leb (suc i) e (lt_of i e b other)))
      (or_cases (needs e) (leb i e) (and_right (F e) (needs e || leb i e) l)))
    where
      lt_of : (i e : ℕ) → i ≤ e → (e ≡ i → ⊥) → suc i ≤ e
      lt_of i e b d = omega arith

  keep_needed : (i e : ℕ) → needs i ≡ true → left i e ≡ true → left (suc i) e ≡ true
  keep_needed i e n h = by (ℕ_discrete e i)
    where
      by : Dec (e ≡ i) → left (suc i) e ≡ true
      by (yes same) = and_both (F e) (needs e || leb (suc i) e) (left_sub i e h) (or_left (needs e) (leb (suc i) e) (ap needs same ∙ n))
      by (no other) = left_step i e (without_intro (left i) i e h other)

  absent : (i e : ℕ) → F i ≡ false → left i e ≡ true → left (suc i) e ≡ true
  absent i e n h =
      left_step i e (without_intro (left i) i e h (λ same. false≢true (sym n ∙ ap F (sym same) ∙ left_sub i e h)))

  dropped : (i : ℕ) → F i ≡ true → needs i ≡ false → (u w : ℕ) → R u w → Through a b (without (left i) i) i u w → Linked a b (left (suc i)) u w
  dropped i f n u w r (avoids p) = linked_mono (left_step i) p
  dropped i f n u w r (forwards p q) =
      absurd
      (forest i f
      (linked_trans (linked_sym (linked_mono (without_mono i (left_sub i)) p))
      (linked_trans (spare i f n u w r) (linked_sym (linked_mono (without_mono i (left_sub i)) q)))))
  dropped i f n u w r (backwards p q) =
      absurd
      (forest i f
      (linked_trans (linked_mono (without_mono i (left_sub i)) q)
      (linked_trans (linked_sym (spare i f n u w r)) (linked_mono (without_mono i (left_sub i)) p))))

  left_joins : (i u w : ℕ) → R u w → Linked a b (left i) u w
  left_joins zero u w r = linked_mono (λ e f. and_both (F e) (needs e || leb 0 e) f (or_right (needs e) (leb 0 e) (le-leb 0 e (omega arith)))) (joins u w r)
  left_joins (suc i) u w r = by (left_joins i u w r) (either (F i)) (either (needs i))
    where
      by : Linked a b (left i) u w → (F i ≡ true) ⊎ (F i ≡ false) → (needs i ≡ true) ⊎ (needs i ≡ false) → Linked a b (left (suc i)) u w
      by p (inr f) n = linked_mono (λ e. absent i e f) p
      by p (inl f) (inl n) = linked_mono (λ e. keep_needed i e n) p
      by p (inl f) (inr n) = dropped i f n u w r (through_without i p)

  -- The edges that some pair needs link every required pair.
  pub needed_joins : (u w : ℕ) → R u w → Linked a b (λ e. F e && needs e) u w
  needed_joins u w r =
      linked_mono
      (λ e h.
      ⊎_elim
      (λ n. and_both (F e) (needs e) (left_sub m e h) n)
      (λ k. absurd (let b : m ≤ e = leb-true m e k in let c : e < m = bounded e (left_sub m e h) in omega arith))
      (or_cases (needs e) (leb m e) (and_right (F e) (needs e || leb m e) h)))
      (left_joins m u w r)
