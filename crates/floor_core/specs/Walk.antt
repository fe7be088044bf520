-- What holds while the cut round a vertex is looked for, and of the cut that was found. A vertex has flag 1 when it is found and 2 when the arcs that lead to it are looked at.
use Rattle.std.specs.Prelude.{ℕ, suc, ◌≤◌, ◌<◌, ◌≡◌, ◌⊎◌, ◌↔◌, Option, Some, None, Bool, true, false, List, length, get_or, eqb}
use Rattle.base_finite.specs.Below.{count_below}
use Rattle.base_limits.specs.Limits.{max_vertices}
use Rattle.floor_rule.specs.Ascent.{arc_count, tail_of, head_of, flagged}
use Rattle.floor_core.specs.Chain.{Ends, Chained, link_of}
use Rattle.floor_core.specs.Laws.Reach.{Leads}

-- The tracks' ends, and the vertex t round which the cut is.
pub record Ground : Type 0 where
  pub firsts : List ℕ
  pub seconds : List ℕ
  pub n : ℕ
  pub t : ℕ
  pub ends : Ends n firsts seconds
  pub inside : t < n

abbrev pub arcs_in : Ground → ℕ
arcs_in g = arc_count g.firsts

abbrev pub tail_in : Ground → ℕ → ℕ
tail_in g a = tail_of g.firsts g.seconds a

abbrev pub head_in : Ground → ℕ → ℕ
head_in g a = head_of g.firsts g.seconds a

abbrev pub LeadsIn : Ground → List ℕ → ℕ → Type 0
LeadsIn g rests u = Leads g.firsts g.seconds rests g.t u

-- The links of the arcs.
abbrev pub LinkedIn : Ground → List ℕ → Type 0
LinkedIn g links = (a : ℕ) → a < arcs_in g → get_or links a 0 ≡ link_of g.firsts g.seconds a

abbrev pub ChainedIn : Ground → (tops links : List ℕ) → Type 0
ChainedIn g tops links = Chained g.firsts g.seconds (arcs_in g) tops links

-- Arc x - 1 leads to v; 0 is none.
abbrev pub LeadsTo : Ground → (v x : ℕ) → Type 0
LeadsTo g v x = (a : ℕ) → x ≡ suc a → (a < arcs_in g) × (head_in g a ≡ v)

-- The arcs that lead to v are looked at.
abbrev pub looked : (flags : List ℕ) → (v : ℕ) → Bool
looked flags v = eqb (get_or flags v 0) 2

-- Place j below e of a list has x.
pub record Among (l : List ℕ) (e x : ℕ) : Type 0 where
  pub place : ℕ
  pub below : place < e
  pub is : get_or l place 0 ≡ x

-- Of the vertices found the first i are looked at, and of the arcs that lead to v those from x up: so many vertices are found, and so many arcs are at the rim.
pub record Turn (g : Ground) (rests : List ℕ) (i v x : ℕ) (flags found rim : List ℕ) (vertices arcs : ℕ) : Type 0 where
  pub flags_long : length flags ≡ max_vertices
  pub found_long : length found ≡ max_vertices
  pub start : flagged flags g.t ≡ true
  pub sound : (u : ℕ) → flagged flags u ≡ true → LeadsIn g rests u
  pub counted : vertices ≡ count_below max_vertices (flagged flags)
  pub queue : (j : ℕ) → j < vertices → flagged flags (get_or found j 0) ≡ true
  pub queued : (u : ℕ) → flagged flags u ≡ true → Among found vertices u
  pub ahead : i ≤ vertices
  pub passed : (j : ℕ) → j < i → looked flags (get_or found j 0) ≡ true
  pub turned : 1 ≤ x → looked flags v ≡ true
  -- an arc that is looked at comes from inside, or has a rest and is at the rim
  pub seen : (a : ℕ) → a < arcs_in g → looked flags (head_in g a) ≡ true → (head_in g a ≡ v → x ≤ a)
      → (flagged flags (tail_in g a) ≡ true) ⊎ ((get_or rests a 0 ≡ 0 → ⊥) × Among rim arcs a)
  pub rim_below : (j : ℕ) → j < arcs → get_or rim j 0 < arcs_in g
  pub rim_looked : (j : ℕ) → j < arcs → looked flags (head_in g (get_or rim j 0)) ≡ true
  pub rim_late : (j : ℕ) → j < arcs → head_in g (get_or rim j 0) ≡ v → x ≤ get_or rim j 0
  pub distinct : (j k : ℕ) → j < arcs → k < arcs → get_or rim j 0 ≡ get_or rim k 0 → j ≡ k

-- A walk has begun, on some graph.
pub record Begun (tops links rests flags found rim : List ℕ) : Type 0 where
  pub graph : Ground
  pub chained : ChainedIn graph tops links
  pub turn : Turn graph rests 0 0 0 flags found rim 1 0

-- And v is the next vertex of the queue.
pub record Next (tops links rests flags found rim : List ℕ) (v vertices arcs : ℕ) : Type 0 where
  pub graph : Ground
  pub i : ℕ
  pub chained : ChainedIn graph tops links
  pub more : i < vertices
  pub is : v ≡ get_or found i 0
  pub turn : Turn graph rests i 0 0 flags found rim vertices arcs

-- The cut round t: flagged is what leads to it, and every arc that enters is at the rim, once.
pub record Cut (g : Ground) (rests flags rim : List ℕ) (arcs : ℕ) : Type 0 where
  pub inside : (u : ℕ) → (flagged flags u ≡ true) ↔ LeadsIn g rests u
  pub entering : (a : ℕ) → a < arcs_in g → flagged flags (head_in g a) ≡ true → flagged flags (tail_in g a) ≡ false → Among rim arcs a
  pub rim_below : (j : ℕ) → j < arcs → get_or rim j 0 < arcs_in g
  pub rim_heads : (j : ℕ) → j < arcs → flagged flags (head_in g (get_or rim j 0)) ≡ true
  pub distinct : (j k : ℕ) → j < arcs → k < arcs → get_or rim j 0 ≡ get_or rim k 0 → j ≡ k

-- What a walk finds: that arcs without rest lead from the root, where it answers none, or the cut, with the root outside.
pub record CutFound (g : Ground) (rests flags rim : List ℕ) (root : ℕ) (walked : Option ℕ) : Type 0 where
  pub led : walked ≡ None → LeadsIn g rests root
  pub cut : (arcs : ℕ) → walked ≡ Some arcs → Cut g rests flags rim arcs
  pub outside : (arcs : ℕ) → walked ≡ Some arcs → flagged flags root ≡ false

-- At the rim there are the arcs that enter alone.
pub record Narrow (g : Ground) (rests flags rim : List ℕ) (arcs : ℕ) : Type 0 where
  pub cut : Cut g rests flags rim arcs
  pub outside : (j : ℕ) → j < arcs → flagged flags (tail_in g (get_or rim j 0)) ≡ false
