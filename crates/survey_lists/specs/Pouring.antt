-- Lists that share a member poured together (document 02, No. 2): disjoint groups that require what chains of lists do.
use Rattle.std.specs.Prelude.{ℕ, zero, suc, ◌<◌, ◌≡◌, true, ◌&&◌, cond, List, length, get_or, eqb, ltb}
use Rattle.base_finite.specs.Below.{counted, tabulate}
use Rattle.base_limits.specs.Limits.{max_vertices, group_numbers}
use Rattle.theory_graph.specs.Component.{components}
use Rattle.survey_core.specs.Survey.{Survey, survey_from, lists_of}
use Rattle.survey_core.specs.Lists.{Lists, own, owner, other, in_list}

-- Lists g and h are poured together: from g to h each list of a chain shares a member with the next.
pub data Chained (l : Lists) : (g h : ℕ) → Type 0 where
  same : {g : ℕ} → Chained l g g
  shared : {g k h : ℕ} (x : ℕ) → x < length l.groups → in_list l g x ≡ true → in_list l k x ≡ true → Chained l k h → Chained l g h

-- A chain of lists links u, a member of the first, and v, a member of the last.
pub record ChainLinked (l : Lists) (u v : ℕ) : Type 0 where
  pub from : ℕ
  pub to : ℕ
  pub member_from : in_list l from u ≡ true
  pub member_to : in_list l to v ≡ true
  pub chain : Chained l from to

-- These groups are the lists poured together: two junctions are in one of them exactly if a chain of lists links them.
pub record IsPoured (l : Lists) (groups : List ℕ) : Type 0 where
  pub long : length groups ≡ length l.groups
  pub together : (u v : ℕ) → u < length l.groups → v < length l.groups → get_or groups u 0 ≡ get_or groups v 0 → (get_or groups u 0 ≡ 0 → ⊥) → ChainLinked l u v
  pub linked : (u v : ℕ) → u < length l.groups → v < length l.groups → ChainLinked l u v → (get_or groups u 0 ≡ get_or groups v 0) × (get_or groups u 0 ≡ 0 → ⊥)

-- A survey t into which s pours: it has the tracks of s, no pairs, and as its groups the lists of s poured together.
pub record PoursInto (s t : Survey) : Type 0 where
  pub tracks : t ≡ survey_from t.groups s.firsts s.seconds s.weights
  pub groups : IsPoured (lists_of s) t.groups

-- One list of v, if it is in any: its own group, or else the g of the first of its pairs.
unfoldable pub home_below : Lists → (v m : ℕ) → ℕ
home_below l v zero = own l v
home_below l v (suc i) = let h = home_below l v i in cond (eqb h 0 && eqb (owner l i) v) (other l i) h

unfoldable pub home : Lists → ℕ → ℕ
home l v = home_below l v (length l.owners)

-- The lists as vertices, with an edge (home v, g) for each pair (v, g): labels of the components.
unfoldable pub poured_label : Lists → ℕ → ℕ
poured_label l = components group_numbers (λ i. home l (owner l i)) (other l) (λ i. true) (length l.owners)

-- The group of v after pouring, 0 for none (law `poured_iff`).
unfoldable pub poured : Lists → ℕ → ℕ
poured l v = poured_label l (home l v)

unfoldable pub poured_groups : Lists → List ℕ
poured_groups l = let label = poured_label l in tabulate (length l.groups) (λ v. label (home l v))

-- A buffer for every survey: f of the first n vertices, zeros behind.
unfoldable pub room_of : (n : ℕ) → (f : ℕ → ℕ) → List ℕ
room_of n f = tabulate max_vertices (λ v. counted (ltb v n) (f v))

-- The survey without pairs that a survey with pairs is poured into.
abbrev pub poured_survey : Survey → Survey
poured_survey s = survey_from (poured_groups (lists_of s)) s.firsts s.seconds s.weights
