-- A cut that one edge e of a joining set F crosses alone: the others of F join every required pair exactly if the cut separates none. So e is needed
-- exactly if its cut separates a required pair.
use Rattle.std.specs.Prelude.{ℕ, ◌≡◌, ◌⊎◌, Bool, true, false}
use Rattle.std.proofs.Common.{sym, ◌∙◌, inl, inr, ⊎_elim}
use Rattle.base_finite.specs.Laws.Test.{either, same_test_law, true_not_false}
use Rattle.theory_graph.specs.Path.{Linked, crosses, without}
use Rattle.theory_graph.proofs.Laws.Linked.{Through, avoids, forwards, backwards, through_without, without_elim, side_kept, crosses_not}
use Rattle.theory_steiner.specs.Problem.{Problem, Sound, Joins, separates, Bounded}
use Rattle.theory_steiner.specs.Pruning.{needed}
use Rattle.theory_steiner.proofs.Laws.Joined.{needed_iff, Split, separates_elim, separates_intro}

module _ (p : Problem) (ok : Sound p) (F : ℕ → Bool) (joins : Joins p F) (e : ℕ) (S : ℕ → Bool) (own : crosses p.first p.second S e ≡ true)
    (only : (f : ℕ) → F f ≡ true → crosses p.first p.second S f ≡ true → f ≡ e) where
  side : {u w : ℕ} → Linked p.first p.second (without F e) u w → S u ≡ S w
  side l = side_kept S (λ f h c. (without_elim F e f h).1 (only f (without_elim F e f h).0 c)) l

  -- separated: the others fail that pair
  separated_fails : separates p S ≡ true → Joins p (without F e) → ⊥
  separated_fails a h =
      let s : Split p S = separates_elim p S a in
      true_not_false (S s.u) s.inside (side (h s.u s.v s.u_below s.v_below s.required) ∙ s.outside)

  -- not separated: the others do
  pub unseparated_joins : separates p S ≡ false → Joins p (without F e)
  unseparated_joins rest u v bu bv r = by (through_without e (joins u v bu bv r))
    where
      parted : (S u ≡ S v → ⊥) → ⊥
      parted apart = go (either (S u)) (either (S v))
        where
          go : (S u ≡ true) ⊎ (S u ≡ false) → (S v ≡ true) ⊎ (S v ≡ false) → ⊥
          go (inl a) (inl b) = apart (a ∙ sym b)
          go (inr a) (inr b) = apart (a ∙ sym b)
          go (inl a) (inr b) =
              true_not_false (separates p S)
              (separates_intro p S (record { u = u; v = v; u_below = bu; v_below = bv; required = r; inside = a; outside = b })) rest
          go (inr a) (inl b) =
              true_not_false (separates p S)
              (separates_intro p S (record { u = v; v = u; u_below = bv; v_below = bu; required = ok.symmetric u v r; inside = b; outside = a })) rest

      ends : S (p.first e) ≡ S (p.second e) → ⊥
      ends same = true_not_false (crosses p.first p.second S e) own (crosses_not p.first p.second S e same)

      by : Through p.first p.second (without F e) e u v → Linked p.first p.second (without F e) u v
      by (avoids l) = l
      by (forwards l m) = absurd (parted (λ same. ends (sym (side l) ∙ same ∙ sym (side m))))
      by (backwards l m) = absurd (parted (λ same. ends (side m ∙ sym same ∙ side l)))

  pub needed_by_cut : Bounded p F → F e ≡ true → needed p F e ≡ separates p S
  needed_by_cut bounded member =
      same_test_law (needed p F e) (separates p S)
      (λ k. ⊎_elim (λ a. a) (λ rest. absurd (((needed_iff p F bounded e).0 k).1 (unseparated_joins rest))) (either (separates p S)))
      (λ a. (needed_iff p F bounded e).1 (member, separated_fails a))
