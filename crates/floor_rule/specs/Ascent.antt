-- Dual ascent over directed cuts (Wong's ascent, with a list of cuts for each group that may be the lowest of its tree), by what each arc can still bear and what
-- each group has got. Members are visited in turn, groups by number, then by vertex: no tie is left to break.
use Rattle.std.specs.Prelude.{ℕ, zero, suc, ◌+◌, ◌*◌, ◌-◌, Bool, ◌&&◌, ◌||◌, not, cond, List, length, get_or, set, replicate, eqb, ltb}
use Rattle.base_finite.specs.Below.{counted, sum_below, count_below}
use Rattle.base_buffer.specs.Store.{remade}
use Rattle.base_limits.specs.Limits.{max_vertices, max_edges, max_weight, group_numbers}
use Rattle.theory_directed.specs.Directed.{enters}

-- arcs, at most
abbrev pub max_arcs : ℕ
max_arcs = 2 * max_edges

-- no set of tracks costs more
abbrev pub max_cost : ℕ
max_cost = max_edges * max_weight

unfoldable pub lesser : ℕ → ℕ → ℕ
lesser x y = cond (ltb y x) y x

-- ---- arcs: number a below m is edge a from its first to its second end, number m + e is edge e from its second to its first

abbrev pub arc_count : (firsts : List ℕ) → ℕ
arc_count firsts = length firsts + length firsts

unfoldable pub edge_of : (firsts : List ℕ) → (a : ℕ) → ℕ
edge_of firsts a = cond (ltb a (length firsts)) a (a - length firsts)

unfoldable pub tail_of : (firsts seconds : List ℕ) → (a : ℕ) → ℕ
tail_of firsts seconds a = cond (ltb a (length firsts)) (get_or firsts a 0) (get_or seconds (a - length firsts) 0)

unfoldable pub head_of : (firsts seconds : List ℕ) → (a : ℕ) → ℕ
head_of firsts seconds a = cond (ltb a (length firsts)) (get_or seconds a 0) (get_or firsts (a - length firsts) 0)

-- ---- the cut round a vertex

abbrev pub flagged : (flags : List ℕ) → (v : ℕ) → Bool
flagged flags v = not (eqb (get_or flags v 0) 0)

-- Arc a enters the set of the flagged vertices.
unfoldable pub enters_at : (firsts seconds flags : List ℕ) → (a : ℕ) → Bool
enters_at firsts seconds flags a = enters (flagged flags) (tail_of firsts seconds a) (head_of firsts seconds a)

-- A flag for the tail of an arc without rest that enters.
unfoldable pub flag_at : (firsts seconds rests : List ℕ) → (a : ℕ) → List ℕ → List ℕ
flag_at firsts seconds rests a flags =
    cond (eqb (get_or rests a 0) 0 && enters_at firsts seconds flags a) (set flags (tail_of firsts seconds a) 1) flags

-- The arcs below n, one after the other.
unfoldable pub sweep : (firsts seconds rests : List ℕ) → (n : ℕ) → List ℕ → List ℕ
sweep firsts seconds rests zero flags = flags
sweep firsts seconds rests (suc a) flags = flag_at firsts seconds rests a (sweep firsts seconds rests a flags)

unfoldable pub sweeps : (firsts seconds rests : List ℕ) → (n : ℕ) → List ℕ → List ℕ
sweeps firsts seconds rests zero flags = flags
sweeps firsts seconds rests (suc i) flags = sweep firsts seconds rests (arc_count firsts) (sweeps firsts seconds rests i flags)

-- Flags for the vertices from which v is reached by arcs without rest, v among them; n is the number of vertices.
unfoldable pub reaching : (firsts seconds rests : List ℕ) → (n v : ℕ) → List ℕ
reaching firsts seconds rests n v = sweeps firsts seconds rests n (set (replicate max_vertices 0) v 1)

-- The least rest of the arcs below n that enter, and no more than the cap.
unfoldable pub least_rest : (firsts seconds rests flags : List ℕ) → (cap n : ℕ) → ℕ
least_rest firsts seconds rests flags cap zero = cap
least_rest firsts seconds rests flags cap (suc a) =
    let least = least_rest firsts seconds rests flags cap a in
    cond (enters_at firsts seconds flags a) (lesser least (get_or rests a 0)) least

-- The rests, less by d at the arcs that enter.
unfoldable pub loaded : (firsts seconds flags : List ℕ) → (d : ℕ) → List ℕ → List ℕ
loaded firsts seconds flags d rests =
    remade (λ a rest. rest - counted (enters_at firsts seconds flags a) d) (arc_count firsts) rests

-- ---- the list of cuts for trees whose lowest group is k

-- What each arc can still bear, and what each group has got.
pub record State : Type 0 where
  pub rests : List ℕ
  pub got : List ℕ

abbrev pub state_with : (rests got : List ℕ) → State
state_with rests got = record { rests = rests; got = got }

-- What group l may still get of its share.
abbrev pub missing : (share got : List ℕ) → (l : ℕ) → ℕ
missing share got l = get_or share l 0 - get_or got l 0

-- A cut of value d for group l.
unfoldable pub raised : (firsts seconds flags : List ℕ) → (l d : ℕ) → State → State
raised firsts seconds flags l d s =
    state_with (loaded firsts seconds flags d s.rests) (set s.got l (get_or s.got l 0 + d))

-- Raised by as much as the arcs and the share bear, unless the root is inside.
unfoldable pub raised_by : (firsts seconds flags share : List ℕ) → (root l : ℕ) → State → State
raised_by firsts seconds flags share root l s =
    cond (flagged flags root) s
    (raised firsts seconds flags l (least_rest firsts seconds s.rests flags (missing share s.got l) (arc_count firsts)) s)

-- A visit to member v of group l, unless the group has its share; n is the number of vertices.
unfoldable pub visit : (firsts seconds share : List ℕ) → (n root l v : ℕ) → State → State
visit firsts seconds share n root l v s =
    cond (eqb (missing share s.got l) 0) s (raised_by firsts seconds (reaching firsts seconds s.rests n v) share root l s)

-- A visit to v, if it is a member of group l.
unfoldable pub visit_member : (groups firsts seconds share : List ℕ) → (root l v : ℕ) → State → State
visit_member groups firsts seconds share root l v s =
    cond (eqb (get_or groups v 0) l) (visit firsts seconds share (length groups) root l v s) s

-- The members of group l below i.
unfoldable pub visit_members : (groups firsts seconds share : List ℕ) → (root l i : ℕ) → State → State
visit_members groups firsts seconds share root l zero s = s
visit_members groups firsts seconds share root l (suc v) s =
    visit_member groups firsts seconds share root l v (visit_members groups firsts seconds share root l v s)

-- The members of group l, if it is not below k and has not got its share.
unfoldable pub visit_group : (groups firsts seconds share : List ℕ) → (root k l : ℕ) → State → State
visit_group groups firsts seconds share root k l s =
    cond (ltb l k || eqb (missing share s.got l) 0) s
    (visit_members groups firsts seconds share root l (length groups) s)

-- The groups below i.
unfoldable pub visit_groups : (groups firsts seconds share : List ℕ) → (root k i : ℕ) → State → State
visit_groups groups firsts seconds share root k zero s = s
visit_groups groups firsts seconds share root k (suc l) s =
    visit_group groups firsts seconds share root k l (visit_groups groups firsts seconds share root k l s)

unfoldable pub passes : (groups firsts seconds share : List ℕ) → (root k n : ℕ) → State → State
passes groups firsts seconds share root k zero s = s
passes groups firsts seconds share root k (suc i) s =
    visit_groups groups firsts seconds share root k group_numbers (passes groups firsts seconds share root k i s)

-- Every pass but the last leaves an arc more without rest or a group more with its share.
abbrev pub pass_count : (groups firsts : List ℕ) → ℕ
pass_count groups firsts = arc_count firsts + length groups

-- At first an arc can bear the weight of its edge.
unfoldable pub prices : (firsts weights : List ℕ) → List ℕ
prices firsts weights = remade (λ a rest. get_or weights (edge_of firsts a) 0) (arc_count firsts) (replicate max_arcs 0)

unfoldable pub at_first : (firsts weights : List ℕ) → State
at_first firsts weights = state_with (prices firsts weights) (replicate group_numbers 0)

-- The lowest vertex below n in group l, or n.
unfoldable pub lowest_in : (groups : List ℕ) → (l n : ℕ) → ℕ
lowest_in groups l zero = 0
lowest_in groups l (suc v) =
    let low = lowest_in groups l v in cond (eqb low v && not (eqb (get_or groups v 0) l)) (suc v) low

-- The root of group l is its lowest member.
abbrev pub root_of : (groups : List ℕ) → (l : ℕ) → ℕ
root_of groups l = lowest_in groups l (length groups)

unfoldable pub ascended : (groups firsts seconds weights share : List ℕ) → (k : ℕ) → State
ascended groups firsts seconds weights share k =
    passes groups firsts seconds share (root_of groups k) k (pass_count groups firsts) (at_first firsts weights)

-- ---- shares

-- From group k up each keeps as much of its share as it got.
unfoldable pub lowered : (got : List ℕ) → (k : ℕ) → (share : List ℕ) → List ℕ
lowered got k share = remade (λ l x. cond (ltb l k) x (lesser x (get_or got l 0))) group_numbers share

-- The list of group k; a group without a share has none.
unfoldable pub after_list : (groups firsts seconds weights : List ℕ) → (k : ℕ) → (share : List ℕ) → List ℕ
after_list groups firsts seconds weights k share =
    cond (eqb (get_or share k 0) 0) share (lowered (ascended groups firsts seconds weights share k).got k share)

-- Group l, which is not 0, has two members or more.
unfoldable pub in_company : (groups : List ℕ) → (l : ℕ) → Bool
in_company groups l = not (eqb l 0) && ltb 1 (count_below (length groups) (λ v. eqb (get_or groups v 0) l))

-- Before its own list a group may get whatever there is.
unfoldable pub first_shares : (groups : List ℕ) → List ℕ
first_shares groups = remade (λ l x. counted (in_company groups l) max_cost) group_numbers (replicate group_numbers 0)

-- The shares after the lists of the last j groups, the last first.
unfoldable pub shares_after : (groups firsts seconds weights : List ℕ) → (j : ℕ) → List ℕ
shares_after groups firsts seconds weights zero = first_shares groups
shares_after groups firsts seconds weights (suc j) =
    after_list groups firsts seconds weights (group_numbers - suc j) (shares_after groups firsts seconds weights j)

-- No set that joins every group costs less (law `ascent_below`).
unfoldable pub ascent_floor : (groups firsts seconds weights : List ℕ) → ℕ
ascent_floor groups firsts seconds weights =
    let share = shares_after groups firsts seconds weights group_numbers in sum_below group_numbers (λ l. get_or share l 0)
