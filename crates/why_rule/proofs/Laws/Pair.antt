-- The lowest pair of members of a list that have different labels: it exists where the labels do not join the list, and two scans find it.
use Rattle.std.specs.Prelude.{ℕ, ◌<◌, ◌≤◌, ◌≡◌, ◌⊎◌, true, false, ◌&&◌, not, eqb}
use Rattle.std.proofs.Common.{arith, ap, sym, ◌∙◌, subst, inl, inr, ⊎_elim}
use Rattle.std.proofs.Math.Decide.{ℕ_discrete}
use borrow.Author.Tests.{eqb-false, ne_eqb, not-true}
use Rattle.base_finite.specs.Below.{any_below}
use Rattle.base_finite.specs.Laws.Test.{either, and_left, and_right, and_both, true_not_false, not_true_false, not_of_false}
use Rattle.base_finite.specs.Laws.Below.{any_intro, any_none, lt_or_ge}
use Rattle.theory_route.specs.First.{first_below}
use Rattle.theory_route.proofs.Laws.First.{IsFirst, first_is, first_exists, first_cong}
use Rattle.survey_core.specs.Survey.{Survey, vertex_count, member, group_joined}
use Rattle.survey_core.proofs.Laws.Member.{labels_joined_intro}
use Rattle.why_rule.specs.Reason.{is_parted, low_member, high_member}

module _ (s : Survey) (label : ℕ → ℕ) (g : ℕ) where
  pub parted_first : (u v : ℕ) → is_parted s label g u v ≡ true → member s g u ≡ true
  unfolding is_parted
  parted_first u v h = and_left (member s g u) _ h

  pub parted_second : (u v : ℕ) → is_parted s label g u v ≡ true → member s g v ≡ true
  unfolding is_parted
  parted_second u v h = and_left (member s g v) _ (and_right (member s g u) _ h)

  pub parted_labels : (u v : ℕ) → is_parted s label g u v ≡ true → label u ≡ label v → ⊥
  unfolding is_parted
  parted_labels u v h = eqb-false (label u) (label v) (not-true (eqb (label u) (label v)) (and_right (member s g v) _ (and_right (member s g u) _ h)))

  pub parted_intro : (u v : ℕ) → member s g u ≡ true → member s g v ≡ true → (label u ≡ label v → ⊥) → is_parted s label g u v ≡ true
  unfolding is_parted
  parted_intro u v mu mv d = and_both (member s g u) _ mu (and_both (member s g v) _ mv (not_of_false (eqb (label u) (label v)) (ne_eqb (label u) (label v) d)))

  -- Some member is parted from another.
  some_parted : group_joined s label g ≡ false → any_below (vertex_count s) (λ u. any_below (vertex_count s) (is_parted s label g u)) ≡ true
  some_parted apart =
      ⊎_elim (λ h. h)
      (λ h.
      true_not_false (group_joined s label g)
      (labels_joined_intro s label g (λ u v bu bv mu mv. same h u v bu bv mu mv (ℕ_discrete (label u) (label v))))
      apart)
      (either (any_below (vertex_count s) (λ u. any_below (vertex_count s) (is_parted s label g u))))
    where
      same : any_below (vertex_count s) (λ u. any_below (vertex_count s) (is_parted s label g u)) ≡ false → (u v : ℕ) → u < vertex_count s → v < vertex_count s
          → member s g u ≡ true → member s g v ≡ true → Dec (label u ≡ label v) → label u ≡ label v
      same h u v bu bv mu mv (yes k) = k
      same h u v bu bv mu mv (no k) =
          true_not_false (is_parted s label g u v) (parted_intro u v mu mv k)
          (any_none (vertex_count s) (is_parted s label g u) (any_none (vertex_count s) (λ u. any_below (vertex_count s) (is_parted s label g u)) h u bu) v bv)

  module _ (apart : group_joined s label g ≡ false) where
    abbrev low : ℕ
    low = low_member s label g

    abbrev high : ℕ
    high = high_member s label g

    pub low_first : IsFirst (vertex_count s) (λ u. any_below (vertex_count s) (is_parted s label g u)) (low_member s label g)
    unfolding low_member
    low_first = first_exists (vertex_count s) (λ u. any_below (vertex_count s) (is_parted s label g u)) (some_parted apart)

    pub high_first : IsFirst (vertex_count s) (is_parted s label g (low_member s label g)) (high_member s label g)
    unfolding high_member
    high_first = first_exists (vertex_count s) (is_parted s label g (low_member s label g)) low_first.passes

    pub pair_parted : is_parted s label g (low_member s label g) (high_member s label g) ≡ true
    pair_parted = high_first.passes

    -- What is parted from anything is not below the lowest.
    low_least : (x y : ℕ) → y < vertex_count s → is_parted s label g x y ≡ true → low_member s label g ≤ x
    low_least x y b h =
        ⊎_elim
        (λ less.
        true_not_false (any_below (vertex_count s) (is_parted s label g x)) (any_intro (vertex_count s) (is_parted s label g x) y b h)
        (low_first.none_before x less))
        (λ k. k)
        (lt_or_ge x (low_member s label g))

    pub low_lt_high : low_member s label g < high_member s label g
    low_lt_high =
        let d = parted_labels low high pair_parted in
        let back : is_parted s label g high low ≡ true = parted_intro high low (parted_second low high pair_parted) (parted_first low high pair_parted) (λ k. d (sym k)) in
        let k : low ≤ high = low_least high low low_first.below back in
        let other : low ≡ high → ⊥ = λ e. d (ap label e) in
        omega arith

    pub pair_lowest : (x y : ℕ) → y < vertex_count s → is_parted s label g x y ≡ true → (low_member s label g < x) ⊎ ((low_member s label g ≡ x) × (high_member s label g ≤ y))
    pair_lowest x y b h = by (ℕ_discrete (low_member s label g) x)
      where
        by : Dec (low_member s label g ≡ x) → (low_member s label g < x) ⊎ ((low_member s label g ≡ x) × (high_member s label g ≤ y))
        by (no d) = inl (let k = low_least x y b h in omega arith)
        by (yes e) =
            inr (
              e,
              ⊎_elim
                  (λ less.
                  true_not_false (is_parted s label g (low_member s label g) y) (subst (λ z. is_parted s label g z y ≡ true) (sym e) h)
                  (high_first.none_before y less))
                  (λ k. k)
                  (lt_or_ge y (high_member s label g)),
            )

    -- A member below the lowest would be parted from one of the two.
    pub low_is : first_below (vertex_count s) (member s g) ≡ low_member s label g
    low_is =
        first_is (vertex_count s) (member s g) low
        (record {
          below = low_first.below;
          passes = parted_first low high pair_parted;
          none_before = λ j b. not_true_false (member s g j) (λ m. none j b m (ℕ_discrete (label j) (label low)));
        })
      where
        none : (j : ℕ) → j < low_member s label g → member s g j ≡ true → Dec (label j ≡ label (low_member s label g)) → ⊥
        none j b m (no d) = let k = low_least j low low_first.below (parted_intro j low m (parted_first low high pair_parted) d) in omega arith
        none j b m (yes e) =
            let k = low_least j high high_first.below (parted_intro j high m (parted_second low high pair_parted) (λ q. parted_labels low high pair_parted (sym e ∙ q))) in
            omega arith

    pub high_is : first_below (vertex_count s) (λ v. member s g v && not (eqb (label (low_member s label g)) (label v))) ≡ high_member s label g
    unfolding high_member is_parted
    high_is = first_cong (vertex_count s) _ _ (λ v b. rw (parted_first low high pair_parted))
