-- Two members of a group lie on two sides of a cut exactly if some member and its mate do (source 001, f(S) of section 22.1, for groups).
-- Judging picked edges and finding active components use it.
use Prim.Native.Nat.{ℕ, zero, suc, ◌+◌, ◌-◌, ◌<◌, ◌≤◌}
use Rattle.std.proofs.Common.{arith, add-one, ◌∙◌, inl, inr, eq-eqb, ne_eqb}
use Rattle.std.specs.Prelude.{◌≡◌, ◌⊎◌, Bool, List, length}
use Rattle.std.proofs.Math.Path.{refl, ap, sym}
use Rattle.std.proofs.Math.Logic.{⊎_elim}
use Rattle.std.proofs.Math.Bool.{true, false, xor, cond}
use Rattle.std.proofs.Math.ListN.{get_or, get_or-eq_default}
use Rattle.base_finite.specs.Below.{any_below, tabulate}
use Rattle.base_finite.specs.Laws.Below.{below_suc, any_elim, any_none, length_tabulate, get_d_tabulate}
use Rattle.base_finite.specs.Laws.Test.{either, true_not_false, same_test_law}
use Rattle.base_limits.specs.Limits.{group_numbers}
use Rattle.base_buffer.specs.Store.{remade}
use Rattle.base_buffer.proofs.Laws.Store.{remade_part}
use Rattle.theory_steiner.specs.Problem.{separates}
use Rattle.theory_steiner.proofs.Laws.Joined.{Split, separates_elim, separates_intro}
use Rattle.survey_core.specs.Survey.{groups_alone, vertex_count, member, problem_of}
use Rattle.survey_core.proofs.Laws.Member.{member_elim, member_intro}
use Rattle.survey_core.proofs.Laws.Group.{Shared, same_group_shared, members_same_group}
use Rattle.survey_groups.specs.Laws.Spread.{spread_table_more}
use Rattle.survey_groups.specs.Mate.{last_below, mate_by, mate_of, last_in}

xor_differ : (s t : Bool) → xor s t ≡ false → s ≡ t
unfolding xor
xor_differ true true h = refl
xor_differ true false h = h
xor_differ false true h = sym h
xor_differ false false h = refl

-- Two that differ.
data Differ (s t : Bool) : Type 0 where
  first_in : s ≡ true → t ≡ false → Differ s t
  second_in : s ≡ false → t ≡ true → Differ s t

differ_xor : (s t : Bool) → xor s t ≡ true → Differ s t
unfolding xor
differ_xor true true h = true_not_false false h refl
differ_xor true false h = first_in refl refl
differ_xor false true h = second_in refl refl
differ_xor false false h = true_not_false false h refl

pub mate_none : (v : ℕ) {last : ℕ} → last ≡ 0 → mate_by last v ≡ v
unfolding mate_by
mate_none v h = rw (eq-eqb _ 0 h)

pub mate_some : (v w : ℕ) {last : ℕ} → last ≡ w + 1 → mate_by last v ≡ w
unfolding mate_by
mate_some v w {last} h = ap (λ t. cond t v (last - 1)) (ne_eqb last 0 (λ z. omega arith)) ∙ omega arith

-- What the vertices below n make of group g: no member, or all members on one side with the last of them.
data Level (groups : List ℕ) (S : ℕ → Bool) (g n x : ℕ) : Type 0 where
  empty : x ≡ 0 → ((u : ℕ) → u < n → member (groups_alone groups) g u ≡ true → ⊥) → Level groups S g n x
  level : (w : ℕ) → x ≡ w + 1 → w < n → member (groups_alone groups) g w ≡ true
      → ((u : ℕ) → u < n → member (groups_alone groups) g u ≡ true → S u ≡ S w) → Level groups S g n x

module _ (groups : List ℕ) where
  last_suc : (g v : ℕ) → last_below groups g (suc v) ≡ cond (member (groups_alone groups) g v) (v + 1) (last_below groups g v)
  unfolding last_below
  last_suc g v = refl

  mate_is : (v : ℕ) → mate_of groups v ≡ mate_by (last_below groups (get_or groups v 0) v) v
  unfolding mate_of
  mate_is v = refl

  module _ (S : ℕ → Bool) where
    passed : (g n x : ℕ) → member (groups_alone groups) g n ≡ false → Level groups S g n x → Level groups S g (suc n) x
    passed g n x out (empty e h) =
        empty e (λ u b m. ⊎_elim (λ c. h u c m) (λ q. true_not_false (member (groups_alone groups) g u) m (ap (member (groups_alone groups) g) q ∙ out)) (below_suc u n b))
    passed g n x out (level w e l m h) =
        level w e (omega arith) m
        (λ u b k. ⊎_elim (λ c. h u c k) (λ q. true_not_false (member (groups_alone groups) g u) k (ap (member (groups_alone groups) g) q ∙ out)) (below_suc u n b))

    -- The next vertex is a member, on the side of its mate.
    met : (g n x : ℕ) → member (groups_alone groups) g n ≡ true → S n ≡ S (mate_by x n) → Level groups S g n x → Level groups S g (suc n) (n + 1)
    met g n x is s (empty e h) = level n refl (omega arith) is (λ u b m. ⊎_elim (λ c. absurd (h u c m)) (λ q. ap S q) (below_suc u n b))
    met g n x is s (level w e l m h) =
        level n refl (omega arith) is
        (λ u b k. ⊎_elim (λ c. h u c k ∙ sym (s ∙ ap S (mate_some n w e))) (λ q. ap S q) (below_suc u n b))

    -- Where each vertex lies on the side of its mate.
    levels : (g n : ℕ) → ((v : ℕ) → v < n → S v ≡ S (mate_of groups v)) → Level groups S g n (last_below groups g n)
    unfolding last_below
    levels g zero h = empty refl (λ u b m. omega arith)
    levels g (suc n) h = by (either (member (groups_alone groups) g n)) (levels g n (λ v b. h v (omega arith)))
      where
        by : (member (groups_alone groups) g n ≡ true) ⊎ (member (groups_alone groups) g n ≡ false) → Level groups S g n (last_below groups g n)
            → Level groups S g (suc n) (cond (member (groups_alone groups) g n) (n + 1) (last_below groups g n))
        by (inl m) old =
            let own : get_or groups n 0 ≡ g = (member_elim (groups_alone groups) refl g n m).same in
            rw m (met g n (last_below groups g n) m (h n (omega arith) ∙ ap S (mate_is n ∙ ap (λ k. mate_by (last_below groups k n) n) own)) old)
        by (inr m) old = rw m (passed g n (last_below groups g n) m old)

    same_side : ((v : ℕ) → v < length groups → S v ≡ S (mate_of groups v)) → (g u v : ℕ) → u < length groups → v < length groups
        → member (groups_alone groups) g u ≡ true → member (groups_alone groups) g v ≡ true → S u ≡ S v
    same_side h g u v bu bv mu mv = by (levels g (length groups) h)
      where
        by : Level groups S g (length groups) (last_below groups g (length groups)) → S u ≡ S v
        by (empty e k) = absurd (k u bu mu)
        by (level w e l m k) = k u bu mu ∙ sym (k v bv mv)

  -- A vertex whose mate is another one is in a group with it.
  pub record Mated (v : ℕ) : Type 0 where
    pub group : ℕ
    pub own : member (groups_alone groups) group v ≡ true
    pub mates : member (groups_alone groups) group (mate_of groups v) ≡ true
    pub before : mate_of groups v < v

  pub mated : (v : ℕ) → (mate_of groups v ≡ v) ⊎ Mated v
  mated v = by (levels (λ u. true) (get_or groups v 0) v (λ u b. refl))
    where
      by : Level groups (λ u. true) (get_or groups v 0) v (last_below groups (get_or groups v 0) v) → (mate_of groups v ≡ v) ⊎ Mated v
      by (empty e h) = inl (mate_is v ∙ mate_none v e)
      by (level w e l m h) =
          let q : mate_of groups v ≡ w = mate_is v ∙ mate_some v w e in
          inr
          (record {
            group = get_or groups v 0;
            own = member_intro (groups_alone groups) (get_or groups v 0) v (member_elim (groups_alone groups) refl (get_or groups v 0) w m).some refl;
            mates = rw q m;
            before = rw q l;
          })

  -- Past the end there is no group.
  pub mate_past : (v : ℕ) → length groups ≤ v → mate_of groups v ≡ v
  mate_past v out =
      ⊎_elim
      (λ q. q)
      (λ k. let m = member_elim (groups_alone groups) refl k.group v k.own in absurd (m.some (sym m.same ∙ get_or-eq_default groups 0 out)))
      (mated v)

  -- Whatever the cut.
  pub separates_mates : (S : ℕ → Bool) → separates (problem_of (groups_alone groups)) S ≡ any_below (length groups) (λ v. xor (S v) (S (mate_of groups v)))
  unfolding problem_of vertex_count
  separates_mates S = same_test_law (separates (problem_of (groups_alone groups)) S) (any_below (length groups) (λ v. xor (S v) (S (mate_of groups v)))) forth back
    where
      forth : separates (problem_of (groups_alone groups)) S ≡ true → any_below (length groups) (λ v. xor (S v) (S (mate_of groups v))) ≡ true
      forth h = ⊎_elim (λ t. t) (λ t. absurd (whole t)) (either (any_below (length groups) (λ v. xor (S v) (S (mate_of groups v)))))
        where
          whole : any_below (length groups) (λ v. xor (S v) (S (mate_of groups v))) ≡ false → ⊥
          whole t =
              let p : Split (problem_of (groups_alone groups)) S = separates_elim (problem_of (groups_alone groups)) S h in
              let x : Shared (groups_alone groups) p.u p.v = same_group_shared (groups_alone groups) p.u p.v p.required in
              true_not_false (S p.u) p.inside
              (same_side S (λ v b. xor_differ (S v) (S (mate_of groups v)) (any_none (length groups) (λ v. xor (S v) (S (mate_of groups v))) t v b))
              x.group p.u p.v p.u_below p.v_below x.first x.second
              ∙ p.outside)

      back : any_below (length groups) (λ v. xor (S v) (S (mate_of groups v))) ≡ true → separates (problem_of (groups_alone groups)) S ≡ true
      back h =
          let f = any_elim (length groups) (λ v. xor (S v) (S (mate_of groups v))) h in
          by f.at f.below (differ_xor (S f.at) (S (mate_of groups f.at)) f.passes) (mated f.at)
        where
          pair : (g u v : ℕ) → u < length groups → v < length groups → member (groups_alone groups) g u ≡ true → member (groups_alone groups) g v ≡ true → S u ≡ true → S v ≡ false
              → separates (problem_of (groups_alone groups)) S ≡ true
          pair g u v bu bv mu mv hu hv =
              separates_intro (problem_of (groups_alone groups)) S
              (record { u = u; v = v; u_below = bu; v_below = bv; required = members_same_group (groups_alone groups) g u v mu mv; inside = hu; outside = hv })

          by : (v : ℕ) → v < length groups → Differ (S v) (S (mate_of groups v)) → (mate_of groups v ≡ v) ⊎ Mated v
              → separates (problem_of (groups_alone groups)) S ≡ true
          by v b (first_in s t) (inl q) = true_not_false (S v) s (ap S (sym q) ∙ t)
          by v b (second_in s t) (inl q) = true_not_false (S v) (ap S (sym q) ∙ t) s
          by v b (first_in s t) (inr k) = let l = k.before in pair k.group v (mate_of groups v) b (omega arith) k.own k.mates s t
          by v b (second_in s t) (inr k) = let l = k.before in pair k.group (mate_of groups v) v (omega arith) b k.mates k.own t s

  -- ---- the table of all groups

  pub last_none : tabulate group_numbers (λ g. 0) ≡ tabulate group_numbers (λ g. last_below groups g 0)
  unfolding last_below
  last_none = refl

  -- One more vertex, as a call leaves the table.
  pub last_step : (v : ℕ) {table after : List ℕ} {g u : ℕ} → table ≡ tabulate group_numbers (λ g. last_below groups g v) → after ≡ last_in table g u
      → g ≡ get_or groups v 0 → u ≡ v → after ≡ tabulate group_numbers (λ g. last_below groups g (v + 1))
  unfolding last_in
  last_step v t a e f =
      a ∙ rw (t, e, f)
      (spread_table_more (groups_alone groups) refl (last_below groups)
      (λ g u m. rw (add-one u, last_suc g u, m))
      v
      (v + 1)
      (λ m. sym (ap (last_below groups (get_or groups v 0)) (add-one v) ∙ last_suc (get_or groups v 0) v ∙ ap (λ t. cond t (v + 1) (last_below groups (get_or groups v 0) v)) m)))

  -- What stands there for v's group, as calls read it.
  pub mate_read : (v : ℕ) {table : List ℕ} {g x : ℕ} → table ≡ tabulate group_numbers (λ g. last_below groups g v) → x ≡ get_or table g 0 → g ≡ get_or groups v 0
      → get_or groups v 0 < group_numbers → mate_by x v ≡ mate_of groups v
  mate_read v t e f b =
      ap (λ y. mate_by y v) (e ∙ rw (t, f) (get_d_tabulate group_numbers (λ g. last_below groups g v) (get_or groups v 0) 0 b)) ∙ sym (mate_is v)

  -- The mates of the vertices below i, and of those from i on themselves, where there is no group.
  pub mates_stored : (n i : ℕ) {own after : List ℕ} → own ≡ tabulate n (λ v. v) → i ≤ n → ((v : ℕ) → i ≤ v → v < n → mate_of groups v ≡ v)
      → after ≡ remade (λ v x. mate_of groups v) i own → after ≡ tabulate n (mate_of groups)
  mates_stored n i {own} h fits rest k =
      k
      ∙ remade_part (λ v x. mate_of groups v) i n own (mate_of groups) (ap length h ∙ length_tabulate n (λ v. v)) fits (λ v b. refl)
      (λ v b c. ap (λ t. get_or t v 0) h ∙ get_d_tabulate n (λ v. v) v 0 c ∙ sym (rest v b c))
