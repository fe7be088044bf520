-- A group is split exactly if two members have different labels; so a group is joined, a component active and a vertex a terminal
-- exactly as the one-pass summary says (Lemma 22.2 of source 001 read for groups). The group refusals, k and growth use it.
use Prim.Native.Nat.{ℕ, zero, suc, ◌+◌, ◌<◌, ◌≤◌}
use Rattle.std.proofs.Common.{arith, add-one, ◌∙◌, inl, inr}
use Rattle.std.proofs.Math.Decide.{ℕ_discrete}
use Rattle.std.specs.Prelude.{◌≡◌, ◌⊎◌, Bool, ◌&&◌, ◌||◌, cond, [], List, get_or, set}
use Rattle.std.proofs.Math.Path.{refl, ap, sym}
use Rattle.std.proofs.Math.Logic.{⊎_elim}
use Rattle.std.proofs.Math.Bool.{true, false, not, not-not}
use Rattle.std.proofs.Math.Dec.{eqb}
use borrow.Author.Tests.{eq-eqb, ne_eqb, eqb-true, eqb-false, not-true}
use Rattle.base_finite.specs.Below.{count_below, any_below, tabulate}
use Rattle.base_finite.specs.Laws.Below.{below_suc, any_intro, any_elim, any_cong, Found, get_d_tabulate, count_cong}
use Rattle.base_finite.specs.Laws.Test.{either, and_left, and_right, and_both, or_right, same_test_law, not_of_false, true_not_false, not_true_false}
use Rattle.base_limits.specs.Limits.{group_numbers}
use Rattle.base_limits.specs.Verdict.{refuse_if, lowest_below}
use Rattle.base_limits.specs.Laws.Verdict.{lowest_cong}
use Rattle.theory_steiner.specs.Problem.{separates, terminal, terminals}
use Rattle.theory_steiner.specs.Growth.{active}
use Rattle.survey_core.specs.Survey.{Survey, vertex_count, member, same_group, problem_of, group_joined}
use Rattle.survey_groups.specs.Spread.{noted, spread, split, noted_in}
use Rattle.survey_core.proofs.Laws.Refusal.{same_group_symmetric}
use Rattle.survey_core.proofs.Laws.Group.{plain_same}
use Rattle.survey_core.proofs.Laws.Member.{member_elim, member_intro, labels_joined_elim, labels_joined_intro}
use Rattle.base_buffer.proofs.Laws.Store.{tabulate_cong, set_table}

-- Two members of g below n with different labels.
pub record Apart (s : Survey) (label : ℕ → ℕ) (g n : ℕ) : Type 0 where
  pub u : ℕ
  pub v : ℕ
  pub u_below : u < n
  pub v_below : v < n
  pub u_member : member s g u ≡ true
  pub v_member : member s g v ≡ true
  pub differ : label u ≡ label v → ⊥

-- All members of g below n have label l, and w is one of them.
record Together (s : Survey) (label : ℕ → ℕ) (g n l w : ℕ) : Type 0 where
  w_below : w < n
  w_member : member s g w ≡ true
  w_label : label w ≡ l
  all : (v : ℕ) → v < n → member s g v ≡ true → label v ≡ l

data Spread (s : Survey) (label : ℕ → ℕ) (g n x : ℕ) : Type 0 where
  nowhere : x ≡ 0 → ((v : ℕ) → v < n → member s g v ≡ true → ⊥) → Spread s label g n x
  once : (l w : ℕ) → x ≡ l + 2 → Together s label g n l w → Spread s label g n x
  several : x ≡ 1 → Apart s label g n → Spread s label g n x

module _ (s : Survey) (label : ℕ → ℕ) (g : ℕ) where
  apart_more : {n : ℕ} → Apart s label g n → Apart s label g (suc n)
  apart_more a =
      record {
        u = a.u;
        v = a.v;
        u_below = omega arith;
        v_below = omega arith;
        u_member = a.u_member;
        v_member = a.v_member;
        differ = a.differ;
      }

  -- The next vertex is no member.
  passed : (n x : ℕ) → member s g n ≡ false → Spread s label g n x → Spread s label g (suc n) x
  passed n x no_member_law (nowhere e h) =
      nowhere e (λ v b m. ⊎_elim (λ c. h v c m) (λ q. true_not_false (member s g v) m (ap (member s g) q ∙ no_member_law)) (below_suc v n b))
  passed n x no_member_law (once l w e t) =
      once
      l
      w
      e
      (record {
        w_below = let c = t.w_below in omega arith;
        w_member = t.w_member;
        w_label = t.w_label;
        all = λ v b m. ⊎_elim (λ c. t.all v c m) (λ q. true_not_false (member s g v) m (ap (member s g) q ∙ no_member_law)) (below_suc v n b);
      })
  passed n x no_member_law (several e a) = several e (apart_more a)

  -- The next vertex is one.
  met : (n x : ℕ) → member s g n ≡ true → Spread s label g n x → Spread s label g (suc n) (noted x (label n))
  unfolding noted
  met n x is_member (nowhere e h) =
      once
      (label n)
      n
      (rw e)
      (record {
        w_below = omega arith;
        w_member = is_member;
        w_label = refl;
        all = λ v b m. ⊎_elim (λ c. absurd (h v c m)) (λ q. ap label q) (below_suc v n b);
      })
  met n x is_member (once l w e t) = by (ℕ_discrete (label n) l)
    where
      by : Dec (label n ≡ l) → Spread s label g (suc n) (noted x (label n))
      by (yes q) =
          once
          l
          w
          (let f : eqb x (label n + 2) ≡ true = eq-eqb x (label n + 2) (omega arith) in
          let p : (eqb x 0 || eqb x (label n + 2)) ≡ true = or_right (eqb x 0) (eqb x (label n + 2)) f in
          rw (p, q))
          (record {
            w_below = let c = t.w_below in omega arith;
            w_member = t.w_member;
            w_label = t.w_label;
            all = λ v b m. ⊎_elim (λ c. t.all v c m) (λ r. ap label r ∙ q) (below_suc v n b);
          })
      by (no d) =
          several
          (let f : eqb x (label n + 2) ≡ false = ne_eqb x (label n + 2) (λ r. d (omega arith)) in
          let k : eqb x 0 ≡ false = ne_eqb x 0 (λ r. omega arith) in
          rw (k, f))
          (record {
            u = w;
            v = n;
            u_below = let c = t.w_below in omega arith;
            v_below = omega arith;
            u_member = t.w_member;
            v_member = is_member;
            differ = λ r. d (sym r ∙ t.w_label);
          })
  met n x is_member (several e a) =
      several
      (let f : eqb x (label n + 2) ≡ false = ne_eqb x (label n + 2) (λ r. omega arith) in
      let k : eqb x 0 ≡ false = ne_eqb x 0 (λ r. omega arith) in
      rw (k, f))
      (apart_more a)

  spread_is : (n : ℕ) → Spread s label g n (spread s label g n)
  unfolding spread
  spread_is zero = nowhere refl (λ v b m. omega arith)
  spread_is (suc n) = by (either (member s g n)) (spread_is n)
    where
      by : (member s g n ≡ true) ⊎ (member s g n ≡ false) → Spread s label g n (spread s label g n)
          → Spread s label g (suc n) (cond (member s g n) (noted (spread s label g n) (label n)) (spread s label g n))
      by (inl m) h = rw m (met n (spread s label g n) m h)
      by (inr m) h = rw m (passed n (spread s label g n) m h)

  spread_suc : (v : ℕ) → spread s label g (suc v) ≡ cond (member s g v) (noted (spread s label g v) (label v)) (spread s label g v)
  unfolding spread
  spread_suc v = refl

  split_apart : split s label g ≡ true → Apart s label g (vertex_count s)
  unfolding split
  split_apart h = by (spread_is (vertex_count s))
    where
      by : Spread s label g (vertex_count s) (spread s label g (vertex_count s)) → Apart s label g (vertex_count s)
      by (nowhere e k) = let z = eqb-true (spread s label g (vertex_count s)) 1 h in absurd (omega arith)
      by (once l w e t) = let z = eqb-true (spread s label g (vertex_count s)) 1 h in absurd (omega arith)
      by (several e a) = a

  apart_split : (u v : ℕ) → u < vertex_count s → v < vertex_count s → member s g u ≡ true → member s g v ≡ true → (label u ≡ label v → ⊥)
      → split s label g ≡ true
  unfolding split
  apart_split u v ub vb um vm d = by (spread_is (vertex_count s))
    where
      by : Spread s label g (vertex_count s) (spread s label g (vertex_count s)) → eqb (spread s label g (vertex_count s)) 1 ≡ true
      by (nowhere e k) = absurd (k u ub um)
      by (once l w e t) = absurd (d (t.all u ub um ∙ sym (t.all v vb vm)))
      by (several e a) = eq-eqb (spread s label g (vertex_count s)) 1 e

  joined_unsplit : group_joined s label g ≡ true → split s label g ≡ true → ⊥
  joined_unsplit h k =
      let a = split_apart k in
      a.differ (labels_joined_elim s label g h a.u a.v a.u_below a.v_below a.u_member a.v_member)

  unsplit_joined : split s label g ≡ false → group_joined s label g ≡ true
  unsplit_joined h = labels_joined_intro s label g (λ u v bu bv mu mv. by u v bu bv mu mv (ℕ_discrete (label u) (label v)))
    where
      by : (u v : ℕ) → u < vertex_count s → v < vertex_count s → member s g u ≡ true → member s g v ≡ true → Dec (label u ≡ label v) → label u ≡ label v
      by u v bu bv mu mv (yes e) = e
      by u v bu bv mu mv (no d) = true_not_false (split s label g) (apart_split u v bu bv mu mv d) h

  -- A group is joined exactly if it is not split.
  pub joined_not_split : group_joined s label g ≡ not (split s label g)
  joined_not_split =
      same_test_law
      (group_joined s label g)
      (not (split s label g))
      (λ h. not_of_false (split s label g) (not_true_false (split s label g) (joined_unsplit h)))
      (λ h. unsplit_joined (not-true (split s label g) h))

-- ---- active components and terminals

-- Of two vertices with different labels one has not label c.
other : (s : Survey) (label : ℕ → ℕ) (g n c : ℕ) → Apart s label g n → Found n (λ v. not (eqb (label v) c) && member s g v)
other s label g n c a = by (ℕ_discrete (label a.u) c)
  where
    by : Dec (label a.u ≡ c) → Found n (λ v. not (eqb (label v) c) && member s g v)
    by (yes e) =
        record {
          at = a.v;
          below = a.v_below;
          passes =
              and_both
              (not (eqb (label a.v) c))
              (member s g a.v)
              (not_of_false (eqb (label a.v) c) (ne_eqb (label a.v) c (λ f. a.differ (e ∙ sym f))))
              a.v_member;
        }
    by (no d) =
        record {
          at = a.u;
          below = a.u_below;
          passes =
              and_both (not (eqb (label a.u) c)) (member s g a.u) (not_of_false (eqb (label a.u) c) (ne_eqb (label a.u) c d)) a.u_member;
        }

module _ (s : Survey) (plain : s.owners ≡ []) where
  -- Some member of u's group lies outside u's component exactly if the group is split.
  outside_split : (label : ℕ → ℕ) (u : ℕ) → u < vertex_count s
      → any_below (vertex_count s) (λ v. not (eqb (label v) (label u)) && same_group s u v) ≡ split s label (get_or s.groups u 0)
  outside_split label u ub =
      any_cong (vertex_count s) _ _ (λ v vb. ap (λ x. not (eqb (label v) (label u)) && x) (plain_same s plain u v))
      ∙ same_test_law (any_below (vertex_count s) t) (split s label g) forth back
    where
      g : ℕ
      g = get_or s.groups u 0

      t : ℕ → Bool
      t v = not (eqb (label v) (label u)) && member s g v

      forth : any_below (vertex_count s) t ≡ true → split s label g ≡ true
      forth h =
          let f = any_elim (vertex_count s) t h in
          let m = and_right (not (eqb (label f.at) (label u))) (member s g f.at) f.passes in
          let d = eqb-false (label f.at) (label u) (not-true (eqb (label f.at) (label u)) (and_left (not (eqb (label f.at) (label u))) (member s g f.at) f.passes)) in
          apart_split s label g f.at u f.below ub m (member_intro s g u (member_elim s plain g f.at m).some refl) d

      back : split s label g ≡ true → any_below (vertex_count s) t ≡ true
      back h = let f = other s label g (vertex_count s) (label u) (split_apart s label g h) in any_intro (vertex_count s) t f.at f.below f.passes

  -- A component is active exactly if it holds a member of a split group.
  pub active_split : (label : ℕ → ℕ) (c : ℕ)
      → active (problem_of s) label c ≡ any_below (vertex_count s) (λ u. eqb (label u) c && split s label (get_or s.groups u 0))
  unfolding active separates problem_of
  active_split label c =
      any_cong (vertex_count s) _ _ (λ u ub. by u ub (either (eqb (label u) c)))
    where
      by : (u : ℕ) → u < vertex_count s → (eqb (label u) c ≡ true) ⊎ (eqb (label u) c ≡ false)
          → (eqb (label u) c && any_below (vertex_count s) (λ v. not (eqb (label v) c) && same_group s u v)) ≡ (eqb (label u) c && split s label (get_or s.groups u 0))
      by u ub (inr e) = rw e
      by u ub (inl e) =
          let q : label u ≡ c = eqb-true (label u) c e in
          let w = outside_split label u ub in
          ap (λ x. eqb (label u) c && x) (rw q at w)

  -- A vertex is a terminal exactly if its group has two members.
  pub terminal_split : (v : ℕ) → v < vertex_count s → terminal (problem_of s) v ≡ split s (λ x. x) (get_or s.groups v 0)
  unfolding terminal problem_of
  terminal_split v vb = any_cong (vertex_count s) _ _ (λ u ub. ap (λ x. not (eqb u v) && x) (turned u)) ∙ outside_split (λ x. x) v vb
    where
      turned : (u : ℕ) → same_group s u v ≡ same_group s v u
      turned u = same_test_law (same_group s u v) (same_group s v u) (same_group_symmetric s u v) (same_group_symmetric s v u)

-- ---- the table of all groups

-- One more vertex in a table of f, which its own group alone can change.
pub spread_table_more : (s : Survey) → s.owners ≡ [] → (f : (g v : ℕ) → ℕ) → ((g v : ℕ) → member s g v ≡ false → f g v ≡ f g (v + 1))
    → (v x : ℕ) → (member s (get_or s.groups v 0) v ≡ true → x ≡ f (get_or s.groups v 0) (v + 1))
    → cond (eqb (get_or s.groups v 0) 0) (tabulate group_numbers (λ g. f g v)) (set (tabulate group_numbers (λ g. f g v)) (get_or s.groups v 0) x)
    ≡ tabulate group_numbers (λ g. f g (v + 1))
spread_table_more s plain f stays v x h = by (ℕ_discrete g 0)
  where
    g : ℕ
    g = get_or s.groups v 0

    table : List ℕ
    table = tabulate group_numbers (λ g. f g v)

    by : Dec (g ≡ 0) → cond (eqb g 0) table (set table g x) ≡ tabulate group_numbers (λ g. f g (v + 1))
    by (yes e) =
        rw
        (eq-eqb g 0 e)
        (tabulate_cong
        group_numbers
        (λ k. f k v)
        (λ k. f k (v + 1))
        (λ k _. stays k v (not_true_false (member s k v) (λ m. (member_elim s plain k v m).some (sym (member_elim s plain k v m).same ∙ e)))))
    by (no d) =
        rw
        (ne_eqb g 0 d)
        (set_table
        group_numbers
        (λ k. f k v)
        (λ k. f k (v + 1))
        g
        x
        (h (member_intro s g v d refl))
        (λ k q. stays k v (not_true_false (member s k v) (λ m. q (sym (member_elim s plain k v m).same)))))

pub spread_more : (s : Survey) → s.owners ≡ [] → (label : ℕ → ℕ) (v : ℕ) → get_or s.groups v 0 < group_numbers
    → noted_in (tabulate group_numbers (λ g. spread s label g v)) (get_or s.groups v 0) (label v) ≡ tabulate group_numbers (λ g. spread s label g (v + 1))
unfolding noted_in
spread_more s plain label v b =
    spread_table_more s plain (spread s label)
    (λ g u m. rw (add-one u, spread_suc s label g u, m))
    v
    _
    (λ m.
    rw
    (add-one v, spread_suc s label (get_or s.groups v 0) v, m, get_d_tabulate group_numbers (λ g. spread s label g v) (get_or s.groups v 0) 0 b))

-- One more vertex, as a call leaves the table.
pub spread_step : (s : Survey) → s.owners ≡ [] → (label : ℕ → ℕ) (v : ℕ) {table after : List ℕ} {g l : ℕ}
    → table ≡ tabulate group_numbers (λ g. spread s label g v)
    → after ≡ noted_in table g l
    → g ≡ get_or s.groups v 0
    → l ≡ label v
    → g < group_numbers
    → after ≡ tabulate group_numbers (λ g. spread s label g (v + 1))
spread_step s plain label v {table} {after} {g} {l} t a e f b =
    let c : get_or s.groups v 0 < group_numbers = omega arith in
    a ∙ rw (t, e, f) (spread_more s plain label v c)

-- Before the first vertex.
pub spread_none : (s : Survey) (label : ℕ → ℕ) → tabulate group_numbers (λ g. 0) ≡ tabulate group_numbers (λ g. spread s label g 0)
unfolding spread
spread_none s label = refl

-- After the last.
pub spread_end : (s : Survey) (label : ℕ → ℕ) (n v : ℕ) → v ≤ n → n ≤ v
    → tabulate group_numbers (λ g. spread s label g v) ≡ tabulate group_numbers (λ g. spread s label g n)
spread_end s label n v b c = let e : v ≡ n = omega arith in rw e

-- ---- what the table says

pub split_read : (s : Survey) (label : ℕ → ℕ) {table : List ℕ} → table ≡ tabulate group_numbers (λ g. spread s label g (vertex_count s))
    → (g : ℕ) → g < group_numbers → eqb (get_or table g 0) 1 ≡ split s label g
unfolding split
split_read s label t g b = ap (λ x. eqb x 1) (ap (λ l. get_or l g 0) t ∙ get_d_tabulate group_numbers _ g 0 b)

-- The lowest split group is the lowest that is not joined.
pub split_lowest : (s : Survey) (label : ℕ → ℕ) {table : List ℕ} → table ≡ tabulate group_numbers (λ g. spread s label g (vertex_count s))
    → (number : ℕ)
    → lowest_below group_numbers (λ g. refuse_if (eqb (get_or table g 0) 1) number g)
    ≡ lowest_below group_numbers (λ g. refuse_if (not (group_joined s label g)) number g)
split_lowest s label {table} t number =
    lowest_cong
    group_numbers
    (λ g. refuse_if (eqb (get_or table g 0) 1) number g)
    (λ g. refuse_if (not (group_joined s label g)) number g)
    (λ g b.
    ap
    (λ x. refuse_if x number g)
    (split_read s label t g b ∙ sym (ap not (joined_not_split s label g) ∙ not-not (split s label g))))

-- The vertices in split groups, each with its own label, are the terminals.
pub split_terminals : (s : Survey) → s.owners ≡ [] → {table : List ℕ} → table ≡ tabulate group_numbers (λ g. spread s (λ v. v) g (vertex_count s))
    → ((v : ℕ) → get_or s.groups v 0 < group_numbers)
    → count_below (vertex_count s) (λ v. eqb (get_or table (get_or s.groups v 0) 0) 1) ≡ terminals (problem_of s)
unfolding terminals problem_of
split_terminals s plain {table} t b =
    count_cong
    (vertex_count s)
    (λ v. eqb (get_or table (get_or s.groups v 0) 0) 1)
    (terminal (problem_of s))
    (λ v c. split_read s (λ v. v) t (get_or s.groups v 0) (b v) ∙ sym (terminal_split s plain v c))
