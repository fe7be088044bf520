-- What it is that a vertex is a member of a group, and that labels join a group.
use Rattle.std.specs.Prelude.{ℕ, ◌<◌, ◌≡◌, [], Bool, true, ◌&&◌, ◌||◌, not, length, get_or, eqb}
use Rattle.std.proofs.Common.{arith, ap, ⊎_elim, eq-eqb, eqb-true}
use Rattle.base_finite.specs.Below.{all_below}
use Rattle.base_finite.specs.Laws.Below.{all_intro, all_elim}
use Rattle.base_finite.specs.Laws.Test.{either, and_left, and_right, and_both, or_right}
use Rattle.survey_core.specs.Survey.{Survey, lists_of, vertex_count, member, group_joined}
use Rattle.survey_core.proofs.Laws.Lists.{Listed, by_own, by_pair, in_list_some, in_list_elim, in_list_intro}

-- Without pairs: v's own group is g.
pub record IsMember (s : Survey) (g v : ℕ) : Type 0 where
  pub some : g ≡ 0 → ⊥
  pub same : get_or s.groups v 0 ≡ g

pub member_elim : (s : Survey) → s.owners ≡ [] → (g v : ℕ) → member s g v ≡ true → IsMember s g v
unfolding member
member_elim s plain g v h = record { some = in_list_some (lists_of s) g v h; same = by (in_list_elim (lists_of s) g v h) }
  where
    by : Listed (lists_of s) g v → get_or s.groups v 0 ≡ g
    by (by_own e) = e
    by (by_pair p) = absurd (let b : p.at < length s.owners = p.below in let none : length s.owners ≡ 0 = ap length plain in omega arith)

pub member_intro : (s : Survey) (g v : ℕ) → (g ≡ 0 → ⊥) → get_or s.groups v 0 ≡ g → member s g v ≡ true
unfolding member
member_intro s g v n e = in_list_intro (lists_of s) g v n (by_own e)

-- The test of `group_joined` at two vertices.
abbrev test : Survey → (label : ℕ → ℕ) → (g u v : ℕ) → Bool
test s label g u v = not (member s g u && member s g v) || eqb (label u) (label v)

-- A group is joined exactly if any two members have the same label.
pub labels_joined_elim : (s : Survey) (label : ℕ → ℕ) (g : ℕ) → group_joined s label g ≡ true → (u v : ℕ) → u < vertex_count s → v < vertex_count s
    → member s g u ≡ true → member s g v ≡ true → label u ≡ label v
unfolding group_joined
labels_joined_elim s label g h u v bu bv mu mv =
    let t : test s label g u v ≡ true =
    all_elim (vertex_count s) (test s label g u) (all_elim (vertex_count s) (λ u. all_below (vertex_count s) (test s label g u)) h u bu) v bv in
    let m : (member s g u && member s g v) ≡ true = and_both (member s g u) (member s g v) mu mv in
    eqb-true (label u) (label v) (rw m at t)

pub labels_joined_intro : (s : Survey) (label : ℕ → ℕ) (g : ℕ)
    → ((u v : ℕ) → u < vertex_count s → v < vertex_count s → member s g u ≡ true → member s g v ≡ true → label u ≡ label v) → group_joined s label g ≡ true
unfolding group_joined
labels_joined_intro s label g h =
    all_intro (vertex_count s) (λ u. all_below (vertex_count s) (test s label g u))
    (λ u bu.
    all_intro (vertex_count s) (test s label g u)
    (λ v bv.
    ⊎_elim
    (λ m.
    or_right (not (member s g u && member s g v)) (eqb (label u) (label v))
    (eq-eqb (label u) (label v) (h u v bu bv (and_left (member s g u) (member s g v) m) (and_right (member s g u) (member s g v) m))))
    (λ n. rw n)
    (either (member s g u && member s g v))))
