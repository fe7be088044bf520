-- Groups as member lists that may overlap (document 02, No. 2): a junction belongs to its own group and, for each of its pairs (v, g), to g.
use Rattle.std.specs.Prelude.{ℕ, Bool, ◌&&◌, ◌||◌, not, List, length, get_or, eqb}
use Rattle.base_finite.specs.Below.{any_below}

-- The three buffers that say who belongs where: the own groups, and of the pairs each v (`owners`) and each g (`others`). There are as many pairs as owners.
pub record Lists : Type 0 where
  pub groups : List ℕ
  pub owners : List ℕ
  pub others : List ℕ

abbrev pub lists_from : (groups owners others : List ℕ) → Lists
lists_from groups owners others = record { groups = groups; owners = owners; others = others }

-- The lists that three lent buffers held when the call began.
abbrev pub lent_lists : (groups owners others : List ℕ) → Lists
lent_lists groups owners others = lists_from groups owners others

-- The own group of v, 0 for none.
abbrev pub own : Lists → ℕ → ℕ
own l v = get_or l.groups v 0

-- Pair i is (owner i, other i).
abbrev pub owner : Lists → ℕ → ℕ
owner l i = get_or l.owners i 0

abbrev pub other : Lists → ℕ → ℕ
other l i = get_or l.others i 0

-- Some pair is (v, g).
unfoldable pub is_paired : Lists → (g v : ℕ) → Bool
is_paired l g v = any_below (length l.owners) (λ i. eqb (owner l i) v && eqb (other l i) g)

-- v is a member of list g, by a pair or by its own group; 0 is no list.
unfoldable pub in_list : Lists → (g v : ℕ) → Bool
in_list l g v = not (eqb g 0) && (is_paired l g v || eqb (own l v) g)

-- r(u, v) of source 001: some list holds both (laws `same_list_elim`, `same_list_intro`). Looked for among the pairs of u and by u's own group.
unfoldable pub same_list : Lists → (u v : ℕ) → Bool
same_list l u v = any_below (length l.owners) (λ i. eqb (owner l i) u && in_list l (other l i) v) || in_list l (own l u) v
