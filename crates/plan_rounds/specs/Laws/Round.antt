-- A round over the arrays is a round of the definition: the flags are the active components, the winner is the winner, and the arrays after it represent the next state
-- (001, Algorithm 22.3). `grow_rounds` cites it.
use Rattle.std.specs.Prelude.{◌≡◌, ℕ, suc, ◌+◌, ◌-◌, ◌*◌, ◌%◌, ◌^◌, ◌<◌, ◌≤◌, Bool, true, false, cond, not, ◌||◌, eqb, ltb, ◌⊎◌, List, [], length, get_or, set, ◌==◌, ◌≢◌, nat_lt}
use native.Mathlib.Omega.{arith}
use Rattle.std.proofs.Math.Decide.{ℕ_discrete}
use Rattle.std.proofs.Common.{add-one, ◌∙◌, subst, inl, inr, ⊎_elim, length-set, ext_get_or, get_or-set_same}
use Rattle.std.proofs.Math.Path.{refl, ap, sym}
use Rattle.std.proofs.Math.Bool.{or-false}
use borrow.Author.Tests.{eqb-true, ne_eqb, not-true, lt-ltb, le-ltb, ltb-true}
use Rattle.base_finite.specs.Below.{counted, any_below, tabulate}
use Rattle.base_finite.specs.Laws.Test.{and_both, and_left, and_right, not_of_false, or_cases}
use Rattle.base_finite.specs.Laws.Below.{length_tabulate, get_d_tabulate, counted_true, counted_false, lt_or_ge}
use Rattle.theory_graph.specs.Component.{merged}
use Rattle.base_limits.specs.Limits.{max_vertices, max_edges, max_weight, max_duals}
use Rattle.theory_steiner.specs.Problem.{Problem, Sound, separates}
use Rattle.theory_steiner.specs.Growth as theory
use Rattle.theory_steiner.specs.Growth.{State, active, numbers, load, slack, delay, nobody, edge, winner, pick, state_at, Reached}
use Rattle.theory_steiner.proofs.Laws.Activity.{active_cong}
use Rattle.theory_steiner.proofs.Laws.Round.{state_at_reached, pick_rounds, pick_label, pick_picked, pick_new}
use Rattle.theory_steiner.proofs.Laws.Rounds.{rounds_lt, state_at_pick, delay_le}
use Rattle.theory_steiner.proofs.Laws.Partition.{label_below_law, winner_below_law, winner_candidate}
use Rattle.survey_core.specs.Lists.{is_paired, in_list, same_list}
use Rattle.survey_core.specs.Survey.{Survey, survey_with, groups_alone, vertex_count, edge_count, same_group, member, problem_of}
use Rattle.survey_core.proofs.Laws.Refusal.{survey_sound}
use Rattle.base_buffer.proofs.Laws.Store.{set_table, remade_part}
use Rattle.plan_search.specs.Held.{held_value, settled_by}
use Rattle.plan_search.proofs.Laws.Held.{settled_off, held_settled}
use Rattle.plan_search.specs.Between.{winner_in, vertex_end, slack_between, delay_between}
use Rattle.plan_search.specs.declared.delay.Winner.{Winner}
use Rattle.std.specs.Prelude.{Option, Some, None}
use Rattle.plan_search.specs.Scan.{time_limit, idle_alone, resting, reach, key, capped_time, Scan, scan_of, Keyed, Pass, blocks_of, pass_of, Floored}
use Rattle.plan_search.specs.Tables.{Tables, tables_from, first_by, second_by, delay_by, alone_at, rests_between, reach_between, key_between, key_by, pass_by}
use Rattle.plan_search.proofs.Laws.Scan.{capped_is, idle_elim, scan_wins, keyed_next}
use Rattle.plan_search.proofs.Laws.Blocks.{passes_scan, passes_cong}
use Rattle.plan_wake.specs.Wake.{ends_at, idle_vertex, KeyNotes, notes_from, behind_by, woken_key, woken_by}
use Rattle.plan_wake.specs.Laws.Wake.{woken_keys, woken_floored}
use Rattle.plan_active.specs.Flags.{active_flags, MatesListed, relabelled_first, merged_flags}
use Rattle.plan_active.specs.Laws.Merged.{flags_merged}
use Rattle.plan_rounds.specs.Tables.{settled_at, turned_to}
use Rattle.plan_rounds.specs.Laws.Loads.{label_own, turned_own, turned_other, length_turned, load_timely, load_joined, load_other}
use Rattle.plan_rounds.specs.Laws.Clock.{settled_next, timely_next}
use Rattle.plan_rounds.specs.Round.{RoundArrays, round_arrays_from, search_by, round_by}
use Rattle.plan_rounds.specs.Represents.{winner_edge, pick_at, held_label, held_load, Arrays, arrays_from, Represents}

-- A flag of 1 stands for the test.
flag_is : (t : Bool) → (counted t 1 == 1) ≡ t
unfolding counted
flag_is true = refl
flag_is false = refl

active_groups : (s : Survey) → s.owners ≡ [] → (label : ℕ → ℕ) (c : ℕ) → active (problem_of (groups_alone s.groups)) label c ≡ active (problem_of s) label c
unfolding active separates problem_of vertex_count same_group member same_list in_list is_paired any_below
active_groups s plain label c =
    ap (λ (owners : List ℕ). active (problem_of (survey_with s.groups s.firsts s.seconds s.weights owners s.others)) label c) (sym plain)

-- A choice and its reverse.
cond_not {ℓ} : {A : Type ℓ} (t : Bool) (x y : A) → cond t x y ≡ cond (not t) y x
cond_not true x y = refl
cond_not false x y = refl

below_more : (k r : ℕ) → (k ≢ r) → nat_lt k r ≡ nat_lt k (r + 1)
below_more k r d = by (lt_or_ge k r)
  where
    by : (k < r) ⊎ (r ≤ k) → nat_lt k r ≡ nat_lt k (r + 1)
    by (inl h) = lt-ltb k r h ∙ sym (lt-ltb k (r + 1) (omega arith))
    by (inr h) = le-ltb k r h ∙ sym (le-ltb k (r + 1) (omega (arith, d)))

-- Flags by labels in a buffer say which components are active.
module _ (s : Survey) (plain : s.owners ≡ []) (few : length s.groups ≤ max_vertices) (label : ℕ → ℕ) (labels : List ℕ) {flags : List ℕ}
    (l : (v : ℕ) → v < length s.groups → get_or labels v 0 ≡ label v) (f : flags ≡ active_flags s.groups labels) (c : ℕ) (b : c < max_duals) where
  flag_counted : get_or flags c 0 ≡ counted (active (problem_of s) label c) 1
  unfolding active_flags problem_of vertex_count
  flag_counted =
      ap (λ t. get_or t c 0) f
      ∙ get_d_tabulate max_duals _ c 0 b
      ∙ ap (λ t. counted t 1)
      (active_groups s plain (λ v. get_or labels v 0) c
      ∙ active_cong (problem_of s) (λ v. get_or labels v 0) label c l)

  pub flag_active : eqb (get_or flags c 0) 1 ≡ active (problem_of s) label c
  flag_active = ap (λ x. eqb x 1) flag_counted ∙ flag_is (active (problem_of s) label c)

-- The flag of a component that was just made.
flag_stored : (x y z flag : ℕ) (flags : List ℕ) → z < length flags → get_or (merged_flags x y z flag flags) z 0 ≡ flag
unfolding merged_flags
flag_stored x y z flag flags b = get_or-set_same (set (set flags x 0) y 0) z flag 0 (rw (length-set (set flags x 0) y 0, length-set flags x 0) b)

module _ {s : Survey} {r time : ℕ} {a : Arrays} (h : Represents s r time a) where
  abbrev p : Problem
  p = problem_of s

  abbrev S : State
  S = state_at (problem_of s) r

  abbrev n : ℕ
  n = length s.groups

  vertices_are : p.vertices ≡ n
  unfolding problem_of vertex_count
  vertices_are = refl

  edges_are : p.edges ≡ length s.firsts
  unfolding problem_of edge_count
  edges_are = refl

  reached : Reached p S
  reached = state_at_reached p r

  ok : Sound p
  ok = survey_sound s h.sound

  -- A round is left only while fewer rounds were counted than there are vertices.
  pub going : r < n
  going = let some = h.sound.some in let e = vertices_are in let q = h.rounds_are in omega (arith, rounds_lt p ok (omega arith) reached)

  label_at : (v : ℕ) → v < n → get_or a.labels v 0 ≡ S.label v
  unfolding held_label problem_of vertex_count
  label_at v b =
      let few = h.sound.few in
      ap (λ t. get_or t v 0) h.labels_are
      ∙ get_d_tabulate max_vertices (held_label p S) v 0 (omega arith)
      ∙ ap (λ t. cond t (S.label v) v) (lt-ltb v n b)

  label_small : (v : ℕ) → v < n → S.label v < max_duals
  unfolding numbers
  label_small v b =
      let few = h.sound.few in
      let e = vertices_are in
      let k : S.label v < numbers p S = label_below_law p reached v (omega arith) in
      let q = h.rounds_are in
      let g = going in
      omega arith

  held_at : (v : ℕ) → v < n → get_or a.loads v 0 ≡ held_load p S time v
  held_at v b =
      let few = h.sound.few in
      let e = vertices_are in
      ap (λ t. get_or t v 0) h.loads_are ∙ get_d_tabulate max_vertices _ v 0 (omega arith) ∙ counted_true (lt-ltb v p.vertices (omega arith)) (held_load p S time v)

  -- What is held gives the load.
  load_at : (v : ℕ) → v < n → settled_by time (active p S.label (S.label v)) (get_or a.loads v 0) ≡ load p S v
  unfolding held_load
  load_at v b =
      let e = vertices_are in
      ap (settled_by time (active p S.label (S.label v))) (held_at v b)
      ∙ held_settled time (load p S v) (active p S.label (S.label v)) (h.loads_timely v (omega arith))

  flags_long : length a.flags ≡ max_duals
  unfolding active_flags
  flags_long = ap length h.flags_are ∙ length_tabulate max_duals _

  pub weights_light : (e : ℕ) → e < p.edges → p.weight e ≤ max_weight
  unfolding problem_of edge_count
  weights_light e b = (h.sound.edges e b).weight_le

  rounds_few : S.rounds < max_vertices
  rounds_few = let q = h.rounds_are in let g = going in let few = h.sound.few in omega arith

  in_time : time < time_limit
  in_time = let q = rounds_few in let t = h.keyed.early in omega arith

  -- The blocks of the round scan all its edges.
  abbrev pass : Pass
  pass = pass_of (problem_of s) (state_at (problem_of s) r) time a.keys a.floors

  passed : (pass.scanned ≡ scan_of p S time a.keys) × Floored (length s.firsts) pass.scanned.keys pass.floors
  unfolding pass_of scan_of problem_of edge_count
  passed = passes_scan _ _ time (length s.firsts) a.keys a.floors h.floored

  scan_is : ((scan_of p S time a.keys).best ≡ winner p S) × Keyed p S time (scan_of p S time a.keys).keys
  scan_is = scan_wins p S weights_light rounds_few time a.keys h.keyed

  -- The keys that the search leaves are good for this state.
  pass_keyed : Keyed p S time pass.scanned.keys
  pass_keyed = subst (λ (k : Scan). Keyed p S time k.keys) (sym passed.0) scan_is.1

  -- The number of the merged component fits.
  pub merged_small : (n + r < 2 ^ 64) × (n + r < 2 ^ 32)
  merged_small = let few = h.sound.few in let g = going in (omega arith, omega arith)

  module _ {flags : List ℕ} (f : flags ≡ active_flags s.groups a.labels) where
    abbrev tables : Tables
    tables = tables_from s.firsts s.seconds s.weights a.labels a.loads flags

    pub flag_at_law : (c : ℕ) → c < max_duals → (get_or flags c 0 == 1) ≡ active p S.label c
    flag_at_law c b = flag_active s h.plain h.sound.few S.label a.labels label_at f c b

    delay_at : (e : ℕ) → e < length s.firsts → delay_by tables time e ≡ delay p S e
    unfolding delay_by first_by second_by vertex_end delay_between slack_between delay slack problem_of
    delay_at e b =
        let u = get_or s.firsts e 0 in
        let v = get_or s.seconds e 0 in
        let u_below = (h.sound.edges e b).first_below_law in
        let v_below = (h.sound.edges e b).second_below in
        rw (
          label_at u u_below,
          label_at v v_below,
          flag_at_law (S.label u) (label_small u u_below),
          flag_at_law (S.label v) (label_small v v_below),
          load_at u u_below,
          load_at v v_below,
        )
        (cond_not (S.label u == S.label v) _ _)

    key_at : (e : ℕ) → e < length s.firsts → key_by tables time e ≡ key p S time e
    unfolding key_by first_by second_by vertex_end alone_at rests_between reach_between key_between slack_between idle_alone resting reach key slack problem_of
    key_at e b =
        let u = get_or s.firsts e 0 in
        let v = get_or s.seconds e 0 in
        let u_below = (h.sound.edges e b).first_below_law in
        let v_below = (h.sound.edges e b).second_below in
        rw (
          label_at u u_below,
          label_at v v_below,
          flag_at_law (S.label u) (label_small u u_below),
          flag_at_law (S.label v) (label_small v v_below),
          load_at u u_below,
          load_at v v_below,
        )

    -- The passes over the tables are those of the definition.
    pass_is : pass_by tables (capped_time time) a.keys a.floors (blocks_of (length s.firsts)) ≡ pass
    unfolding pass_by pass_of problem_of edge_count
    pass_is = rw (capped_is time in_time) (passes_cong _ _ _ _ time (length s.firsts) delay_at key_at a.keys a.floors (blocks_of (length s.firsts)))

    -- Their winner is the round's.
    winner_is : (pass_by tables (capped_time time) a.keys a.floors (blocks_of (length s.firsts))).scanned.best ≡ winner p S
    winner_is = ap (λ x. x.scanned.best) pass_is ∙ ap (λ x. x.best) passed.0 ∙ scan_is.0

    -- The keys and floors that the search leaves.
    module _ {keys floors : List ℕ}
        (k : keys ≡ (pass_by tables (capped_time time) a.keys a.floors (blocks_of (length s.firsts))).scanned.keys)
        (l : floors ≡ (pass_by tables (capped_time time) a.keys a.floors (blocks_of (length s.firsts))).floors) where
      keys_are : keys ≡ pass.scanned.keys
      keys_are = k ∙ ap (λ y. y.scanned.keys) pass_is

      floors_are : floors ≡ pass.floors
      floors_are = l ∙ ap (λ y. y.floors) pass_is

      search_keyed : Keyed p S time keys
      search_keyed = subst (Keyed p S time) (sym keys_are) pass_keyed

      search_floored : Floored (length s.firsts) keys floors
      search_floored = rw (keys_are, floors_are) passed.1

  -- ---- edge e is picked, after a delay of d

  module _ {e d : ℕ} (w : winner p S ≡ edge e d) where
    winner_edge_law : e < length s.firsts
    winner_edge_law = let q = edges_are in let b = winner_below_law p S e d w in omega arith

    delay_small : d ≤ 2 * max_weight
    delay_small = omega (arith, delay_le p S e d w, weights_light e (winner_below_law p S e d w))

    -- The time after the round fits.
    later_fits : time + d < 2 ^ 64
    later_fits = let t = in_time in let l = delay_small in omega arith

    state_next : state_at p (r + 1) ≡ pick p S e d
    state_next = ap (state_at p) (add-one r) ∙ state_at_pick p r e d w

    numbers_are : numbers p S ≡ n + r
    unfolding numbers
    numbers_are = let q = vertices_are in let k = h.rounds_are in omega arith

    -- Its number is no label yet.
    fresh : (v : ℕ) → v < n → get_or a.labels v 0 ≢ n + r
    fresh v b q =
        let k : S.label v < numbers p S = let e = vertices_are in label_below_law p reached v (omega arith) in
        omega (arith, numbers_are, label_at v b)

    labels_next : relabelled_first n (get_or a.labels (get_or s.firsts e 0) 0) (get_or a.labels (get_or s.seconds e 0) 0) (n + r) a.labels
        ≡ tabulate max_vertices (held_label p (state_at p (r + 1)))
    unfolding problem_of vertex_count relabelled_first held_label merged
    labels_next =
        let u = get_or s.firsts e 0 in
        let v = get_or s.seconds e 0 in
        rw (
          label_at u (h.sound.edges e winner_edge_law).first_below_law,
          label_at v (h.sound.edges e winner_edge_law).second_below,
        )
        (remade_part
        (λ i. merged (S.label u) (S.label v) (n + r) (λ l. l))
        n
        max_vertices
        a.labels
        (held_label p (state_at p (r + 1)))
        (ap length h.labels_are ∙ length_tabulate max_vertices _)
        h.sound.few
        (λ i b.
        rw (label_at i b, lt-ltb i n b)
        (sym
        (ap (λ t. t.label i) state_next
        ∙ pick_label p S e d i
        ∙ ap (λ z. merged (S.label u) (S.label v) z S.label i) numbers_are)))
        (λ i b c.
        ap (λ t. get_or t i 0) h.labels_are
        ∙ get_d_tabulate max_vertices (held_label p S) i 0 c
        ∙ ap (λ t. cond t (S.label i) i) (le-ltb i n b)
        ∙ sym (ap (λ t. cond t ((state_at p (r + 1)).label i) i) (le-ltb i n b))))

    -- The labels after the round, as they are read.
    label_after_law : {labels : List ℕ} → labels ≡ tabulate max_vertices (held_label p (state_at p (r + 1))) → (v : ℕ) → v < n → get_or labels v 0 ≡ (state_at p (r + 1)).label v
    unfolding held_label problem_of vertex_count
    label_after_law l v b =
        let few = h.sound.few in
        ap (λ t. get_or t v 0) l
        ∙ get_d_tabulate max_vertices (held_label p (state_at p (r + 1))) v 0 (omega arith)
        ∙ ap (λ t. cond t ((state_at p (r + 1)).label v) v) (lt-ltb v n b)

    picked_next : set a.picked e 1 ≡ tabulate max_edges (λ f. counted ((state_at p (r + 1)).picked f) 1)
    picked_next =
        rw
        (h.picked_are, state_next)
        (set_table
        max_edges
        (λ f. counted (S.picked f) 1)
        (λ f. counted ((pick p S e d).picked f) 1)
        e
        1
        (sym (counted_true (pick_new p S e d) 1))
        (λ f other.
        ap (λ x. counted x 1) (sym (pick_picked p S e d f ∙ ap (λ x. S.picked f || x) (ne_eqb f e other) ∙ or-false (S.picked f)))))

    order_next : set a.order r e ≡ tabulate max_vertices (λ k. counted (nat_lt k (r + 1)) (pick_at p k))
    unfolding pick_at winner_edge
    order_next =
        rw
        h.order_is
        (set_table
        max_vertices
        (λ k. counted (nat_lt k r) (pick_at p k))
        (λ k. counted (nat_lt k (r + 1)) (pick_at p k))
        r
        e
        (sym (counted_true (lt-ltb r (r + 1) (omega arith)) (pick_at p r) ∙ ap winner_edge w))
        (λ k other. ap (λ x. counted x (pick_at p k)) (below_more k r other)))

    rounds_next : (state_at p (r + 1)).rounds ≡ r + 1
    rounds_next = ap (λ t. t.rounds) state_next ∙ pick_rounds p S e d ∙ ap suc h.rounds_are ∙ sym (add-one r)

    merged_below : n + r < max_duals
    merged_below =
        let few = h.sound.few in
        let some = h.sound.some in
        let q = vertices_are in
        omega (arith, rounds_lt p ok (omega arith) (state_at_reached p (r + 1)), rounds_next)

    -- The new component's flag, by the flags that the round leaves.
    flag_next : {labels flags : List ℕ} {flag : ℕ} (x y : ℕ) → labels ≡ tabulate max_vertices (held_label p (state_at p (r + 1))) → flags ≡ active_flags s.groups labels
        → flags ≡ merged_flags x y (n + r) flag a.flags → flag ≡ counted (active p (pick p S e d).label (numbers p S)) 1
    flag_next {labels} {flags} {flag} x y l f made =
        sym (flag_stored x y (n + r) flag a.flags (rw flags_long merged_below))
        ∙ ap (λ l. get_or l (n + r) 0) (sym made)
        ∙ flag_counted s h.plain h.sound.few (state_at p (r + 1)).label labels (label_after_law l) f (n + r) merged_below
        ∙ ap (λ (t : State). counted (active p t.label (n + r)) 1) state_next
        ∙ ap (λ c. counted (active p (pick p S e d).label c) 1) (sym numbers_are)

    -- What is held for the values, settled where the round changes it.
    values_next : {labels flags values : List ℕ} (x y : ℕ) → x ≡ S.label (p.first e) → y ≡ S.label (p.second e)
        → labels ≡ tabulate max_vertices (held_label p (state_at p (r + 1))) → flags ≡ active_flags s.groups labels
        → values ≡ settled_at flags (time + d) (n + r) (settled_at a.flags (time + d) y (settled_at a.flags (time + d) x a.values))
        → values ≡ tabulate max_duals (λ c. held_value (time + d) (active p (state_at p (r + 1)).label c) ((state_at p (r + 1)).value c))
    unfolding settled_at problem_of
    values_next {labels} {flags} x y x_is y_is l f made =
        let ends = h.sound.edges e winner_edge_law in
        let small_x = label_small (get_or s.firsts e 0) ends.first_below_law in
        let small_y = label_small (get_or s.seconds e 0) ends.second_below in
        settled_next p reached e d time h.values_timely (winner_candidate p S e d w).apart
        (λ q. fresh (get_or s.firsts e 0) ends.first_below_law (label_at (get_or s.firsts e 0) ends.first_below_law ∙ q ∙ numbers_are))
        (λ q. fresh (get_or s.seconds e 0) ends.second_below (label_at (get_or s.seconds e 0) ends.second_below ∙ q ∙ numbers_are))
        max_duals
        h.values_are
        x_is
        y_is
        (sym numbers_are)
        (ap (λ c. eqb (get_or a.flags c 0) 1) x_is ∙ flag_at_law h.flags_are (S.label (get_or s.firsts e 0)) small_x)
        (ap (λ c. eqb (get_or a.flags c 0) 1) y_is ∙ flag_at_law h.flags_are (S.label (get_or s.seconds e 0)) small_y)
        (flag_active s h.plain h.sound.few (state_at p (r + 1)).label labels (label_after_law l) f (n + r) merged_below
        ∙ ap (λ (t : State). active p t.label (n + r)) state_next
        ∙ ap (active p (pick p S e d).label) (sym numbers_are))
        refl
        refl
        made
        ∙ ap (λ (t : State). tabulate max_duals (λ c. held_value (time + d) (active p t.label c) (t.value c))) (sym state_next)

    timely_after : (c : ℕ) → (state_at p (r + 1)).value c ≤ time + d
    timely_after c = rw state_next (timely_next p reached e d time h.values_timely c)

    loads_timely_after : (v : ℕ) → v < p.vertices → load p (state_at p (r + 1)) v ≤ time + d
    loads_timely_after v b = rw state_next (load_timely p ok reached e d time v b (h.loads_timely v b))

    -- What is held for the loads, turned where the round changes it.
    module _ (flag x y : ℕ) (x_is : x ≡ S.label (p.first e)) (y_is : y ≡ S.label (p.second e)) (flag_is : flag ≡ counted (active p (pick p S e d).label (numbers p S)) 1) where
      abbrev one : List ℕ
      one = turned_to flag a.flags a.labels n (time + d) x a.loads

      abbrev both : List ℕ
      both = turned_to flag a.flags a.labels n (time + d) y one

      own : (v : ℕ) → v < n → get_or a.labels v 0 < n → get_or a.labels v 0 ≡ v
      own v b c = let k = label_at v b in let q = vertices_are in k ∙ label_own p reached v (omega arith)

      loads_long : length a.loads ≡ max_vertices
      loads_long = ap length h.loads_are ∙ length_tabulate max_vertices _

      one_long : length one ≡ max_vertices
      one_long = length_turned flag a.flags a.labels n (time + d) x a.loads ∙ loads_long

      first_own : (v : ℕ) → v < n → S.label v ≡ x → get_or one v 0 ≡ settled_by (time + d) (not (get_or a.flags x 0 == flag)) (get_or a.loads v 0)
      unfolding problem_of
      first_own v b q =
          let few = h.sound.few in
          let long = loads_long in
          let ends = h.sound.edges e winner_edge_law in
          turned_own a.labels n (time + d) x (get_or s.firsts e 0) own ends.first_below_law (label_at (get_or s.firsts e 0) ends.first_below_law ∙ sym x_is)
          a.loads (omega arith) flag a.flags v b (label_at v b ∙ q)

      first_other : (v : ℕ) → (v < n → S.label v ≢ x) → get_or one v 0 ≡ get_or a.loads v 0
      unfolding problem_of
      first_other v out =
          let few = h.sound.few in
          let long = loads_long in
          let ends = h.sound.edges e winner_edge_law in
          turned_other a.labels n (time + d) x (get_or s.firsts e 0) own ends.first_below_law (label_at (get_or s.firsts e 0) ends.first_below_law ∙ sym x_is)
          a.loads (omega arith) flag a.flags v (λ b q. out b (sym (label_at v b) ∙ q))

      second_own : (v : ℕ) → v < n → S.label v ≡ y → get_or both v 0 ≡ settled_by (time + d) (not (get_or a.flags y 0 == flag)) (get_or one v 0)
      unfolding problem_of
      second_own v b q =
          let few = h.sound.few in
          let long = one_long in
          let ends = h.sound.edges e winner_edge_law in
          turned_own a.labels n (time + d) y (get_or s.seconds e 0) own ends.second_below (label_at (get_or s.seconds e 0) ends.second_below ∙ sym y_is)
          one (omega arith) flag a.flags v b (label_at v b ∙ q)

      second_other : (v : ℕ) → (v < n → S.label v ≢ y) → get_or both v 0 ≡ get_or one v 0
      unfolding problem_of
      second_other v out =
          let few = h.sound.few in
          let long = one_long in
          let ends = h.sound.edges e winner_edge_law in
          turned_other a.labels n (time + d) y (get_or s.seconds e 0) own ends.second_below (label_at (get_or s.seconds e 0) ends.second_below ∙ sym y_is)
          one (omega arith) flag a.flags v (λ b q. out b (sym (label_at v b) ∙ q))

      -- A member of either component, whose flag is that of its component.
      load_next : (v c : ℕ) → v < n → S.label v ≡ c → (c ≡ S.label (p.first e)) ⊎ (c ≡ S.label (p.second e))
          → settled_by (time + d) (not (get_or a.flags c 0 == flag)) (get_or a.loads v 0) ≡ held_load p (pick p S e d) (time + d) v
      load_next v c b q old =
          let k = vertices_are in
          rw (← q, held_at v b, flag_counted s h.plain h.sound.few S.label a.labels label_at h.flags_are (S.label v) (label_small v b), flag_is)
          (load_joined p ok reached e d time v (omega arith) (h.loads_timely v (omega arith)) (rw (← q) at old))

      both_at : (v : ℕ) → v < n → get_or both v 0 ≡ held_load p (pick p S e d) (time + d) v
      both_at v b = by (ℕ_discrete (S.label v) x) (ℕ_discrete (S.label v) y)
        where
          by : Dec (S.label v ≡ x) → Dec (S.label v ≡ y) → get_or both v 0 ≡ held_load p (pick p S e d) (time + d) v
          by (yes q) k =
              second_other v (λ _ m. (winner_candidate p S e d w).apart (sym x_is ∙ sym q ∙ m ∙ y_is)) ∙ first_own v b q ∙ load_next v x b q (inl x_is)
          by (no k) (yes q) =
              second_own v b q ∙ ap (settled_by (time + d) (not (get_or a.flags y 0 == flag))) (first_other v (λ _. k)) ∙ load_next v y b q (inr y_is)
          by (no k) (no m) =
              let q = vertices_are in
              second_other v (λ _. m) ∙ first_other v (λ _. k) ∙ held_at v b
              ∙ load_other p ok reached e d time v (omega arith) (λ t. k (t ∙ sym x_is)) (λ t. m (t ∙ sym y_is))

      loads_next : {loads : List ℕ} → loads ≡ both → loads ≡ tabulate max_vertices (λ v. counted (nat_lt v p.vertices) (held_load p (state_at p (r + 1)) (time + d) v))
      loads_next made =
          made
          ∙ ext_get_or 0 both (tabulate max_vertices (λ v. counted (nat_lt v p.vertices) (held_load p (state_at p (r + 1)) (time + d) v)))
          (both_long ∙ sym (length_tabulate max_vertices _))
          (λ v b. let c : v < max_vertices = rw both_long at b in at v (lt_or_ge v n) c ∙ sym (get_d_tabulate max_vertices _ v 0 c))
        where
          both_long : length both ≡ max_vertices
          both_long = length_turned flag a.flags a.labels n (time + d) y one ∙ one_long

          at : (v : ℕ) → (v < n) ⊎ (n ≤ v) → v < max_vertices → get_or both v 0 ≡ counted (nat_lt v p.vertices) (held_load p (state_at p (r + 1)) (time + d) v)
          at v (inl b) c =
              let q = vertices_are in
              both_at v b
              ∙ sym
              (counted_true (lt-ltb v p.vertices (omega arith)) (held_load p (state_at p (r + 1)) (time + d) v) ∙ ap (λ (t : State). held_load p t (time + d) v) state_next)
          at v (inr b) c =
              let q = vertices_are in
              let out : ltb v p.vertices ≡ false = le-ltb v p.vertices (omega arith) in
              second_other v (λ l m. omega arith)
              ∙ first_other v (λ l m. omega arith)
              ∙ ap (λ t. get_or t v 0) h.loads_are
              ∙ get_d_tabulate max_vertices _ v 0 c
              ∙ counted_false out (held_load p S time v)
              ∙ sym (counted_false out (held_load p (state_at p (r + 1)) (time + d) v))

    -- A vertex at rest is idle by its flag.
    idle_at : (v : ℕ) → v < n → idle_alone p S v ≡ true → idle_vertex a.flags n v ≡ true
    unfolding idle_vertex
    idle_at v b i =
        let alone = idle_elim p S v i in
        let small = label_small v b in
        let own = alone.own in
        and_both (nat_lt v n) (not (get_or a.flags v 0 == 1)) (lt-ltb v n b)
        (not_of_false _ (flag_at_law h.flags_are v (omega arith) ∙ ap (active p S.label) (sym own) ∙ alone.idle))

    -- A component with a vertex's number is that vertex.
    label_self : (c v : ℕ) → v < n → c ≡ get_or a.labels v 0 → c < n → S.label c ≡ c
    label_self c v b q l =
        let k : c ≡ S.label v = q ∙ label_at v b in
        let all = vertices_are in
        let own : S.label v ≡ v = label_own p reached v (omega arith) in
        ap S.label (k ∙ own) ∙ sym k

    -- The load of an idle one is held as it is.
    load_idle : (c : ℕ) → c < n → S.label c ≡ c → (get_or a.flags c 0 == 1) ≡ false → get_or a.loads c 0 ≡ load p S c
    load_idle c b own flag =
        let small = label_small c b in
        sym (settled_off time (get_or a.loads c 0) (ap (active p S.label) own ∙ sym (flag_at_law h.flags_are c (omega arith)) ∙ flag)) ∙ load_at c b

    -- A woken key bounds its edge from below, since no load is above the time.
    woken_bounds : (c f : ℕ) → (c ≡ get_or a.labels (get_or s.firsts e 0) 0) ⊎ (c ≡ get_or a.labels (get_or s.seconds e 0) 0) → f < p.edges
        → idle_vertex a.flags n c ≡ true → ends_at s.firsts s.seconds c f ≡ true → woken_key s.weights (behind_by a.loads time c) f ≤ 2 * time + slack p S f
    unfolding idle_vertex ends_at woken_key behind_by slack problem_of vertex_count edge_count
    woken_bounds c f joined b i g = by (or_cases (get_or s.firsts f 0 == c) (get_or s.seconds f 0 == c) g)
      where
        below : c < n
        below = ltb-true c n (and_left (nat_lt c n) (not (get_or a.flags c 0 == 1)) i)

        own : S.label c ≡ c
        own =
            let ends = h.sound.edges e winner_edge_law in
            ⊎_elim (λ q. label_self c (get_or s.firsts e 0) ends.first_below_law q below) (λ q. label_self c (get_or s.seconds e 0) ends.second_below q below) joined

        held : get_or a.loads c 0 ≡ load p S c
        held = load_idle c below own (not-true (get_or a.flags c 0 == 1) (and_right (nat_lt c n) (not (get_or a.flags c 0 == 1)) i))

        in_limit : capped_time (time - get_or a.loads c 0) ≡ time - get_or a.loads c 0
        in_limit = let t = in_time in capped_is (time - get_or a.loads c 0) (omega arith)

        by : ((get_or s.firsts f 0 == c) ≡ true) ⊎ ((get_or s.seconds f 0 == c) ≡ true)
            → capped_time (time - get_or a.loads c 0) + 2 * get_or s.weights f 0
            ≤ 2 * time + (2 * get_or s.weights f 0 - (load p S (get_or s.firsts f 0) + load p S (get_or s.seconds f 0)))
        by (inl q) =
            let at = ap (load p S) (eqb-true (get_or s.firsts f 0) c q) in
            let k = held in
            let capped = in_limit in
            let one = h.loads_timely c below in
            let other = h.loads_timely (get_or s.seconds f 0) (h.sound.edges f b).second_below in
            omega arith
        by (inr q) =
            let at = ap (load p S) (eqb-true (get_or s.seconds f 0) c q) in
            let k = held in
            let capped = in_limit in
            let one = h.loads_timely c below in
            let other = h.loads_timely (get_or s.firsts f 0) (h.sound.edges f b).first_below_law in
            omega arith

    -- The keys and floors that waking leaves.
    module _ (keys floors : List ℕ) {after below : List ℕ} (made : notes_from after below ≡ woken_by (tables h.flags_are) time n e (notes_from keys floors)) where
      woken_keyed : Keyed p S time keys → Keyed p (state_at p (r + 1)) (time + d) after
      unfolding problem_of edge_count
      woken_keyed k =
          let ends = h.sound.edges e winner_edge_law in
          let woken =
          woken_keys (tables h.flags_are) time n e (notes_from keys floors) p S refl (λ f. (refl, refl)) woken_bounds
          (λ f b i. idle_at (get_or s.firsts f 0) (h.sound.edges f b).first_below_law i)
          (λ f b i. idle_at (get_or s.seconds f 0) (h.sound.edges f b).second_below i)
          k in
          keyed_next p ok weights_light r time e d w k
          (rw (ap (λ (t : KeyNotes). t.keys) made, ← label_at (get_or s.firsts e 0) ends.first_below_law, ← label_at (get_or s.seconds e 0) ends.second_below) woken)

      woken_low : Floored (length s.firsts) keys floors → Floored (length s.firsts) after below
      woken_low f =
          rw (ap (λ (t : KeyNotes). t.keys) made, ap (λ (t : KeyNotes). t.floors) made)
          (woken_floored (tables h.flags_are) time n e (notes_from keys floors) (length s.firsts) f)

  -- ---- what `grow_rounds` cites: a round has answered x and left these arrays

  module _ (x : Option Winner) {mates members : List ℕ} {count : ℕ} (m : MatesListed s.groups mates members count)
      (found : winner_in x ≡ (search_by (tables h.flags_are) time a.keys a.floors).scanned.best) {labels loads values keys floors flags : List ℕ}
      (made : round_arrays_from labels loads values keys floors flags
      ≡ round_by (tables h.flags_are) mates members count n (n + r) time a.values (search_by (tables h.flags_are) time a.keys a.floors)
      (search_by (tables h.flags_are) time a.keys a.floors).scanned.best) where
    over : x ≡ None → winner p S ≡ nobody
    unfolding winner_in
    over t = sym (winner_is h.flags_are) ∙ sym found ∙ ap winner_in t

    won : {e d : ℕ} → x ≡ Some (record { e = e; d = d }) → winner p S ≡ edge e d
    unfolding winner_in
    won t = sym (winner_is h.flags_are) ∙ sym found ∙ ap winner_in t

    -- The arrays, by the round's winner.
    made_by : {w : theory.Winner} → winner p S ≡ w
        → round_arrays_from labels loads values keys floors flags
        ≡ round_by (tables h.flags_are) mates members count n (n + r) time a.values (search_by (tables h.flags_are) time a.keys a.floors) w
    made_by q = made ∙ ap (round_by (tables h.flags_are) mates members count n (n + r) time a.values (search_by (tables h.flags_are) time a.keys a.floors)) (winner_is h.flags_are ∙ q)

    -- No winner: the arrays stay, and the keys are better.
    pub round_over : x ≡ None → (winner p S ≡ nobody) × Represents s r time (arrays_from labels loads values a.picked a.order keys floors flags)
    unfolding round_by
    round_over t =
        let is = made_by (over t) in (
          over t,
          rw (ap (λ (q : RoundArrays). q.labels) is, ap (λ (q : RoundArrays). q.loads) is, ap (λ (q : RoundArrays). q.values) is, ap (λ (q : RoundArrays). q.flags) is)
              (record {
                sound = h.sound;
                plain = h.plain;
                rounds_are = h.rounds_are;
                labels_are = h.labels_are;
                loads_are = h.loads_are;
                loads_timely = h.loads_timely;
                values_are = h.values_are;
                values_timely = h.values_timely;
                picked_are = h.picked_are;
                order_is = h.order_is;
                keyed = search_keyed h.flags_are (ap (λ (q : RoundArrays). q.keys) is) (ap (λ (q : RoundArrays). q.floors) is);
                floored = search_floored h.flags_are (ap (λ (q : RoundArrays). q.keys) is) (ap (λ (q : RoundArrays). q.floors) is);
                flags_are = h.flags_are;
              }),
        )

    -- Edge e is picked, and noted.
    module _ {e d : ℕ} (t : x ≡ Some (record { e = e; d = d })) where
      pub won_edge : e < 2 ^ 32
      won_edge = let few = h.sound.edges_few in let below = winner_edge_law (won t) in omega arith

      later_is : (time + d) % 2 ^ 64 ≡ time + d
      later_is = let l = later_fits (won t) in omega arith

      abbrev u : ℕ
      u = get_or s.firsts e 0

      abbrev v : ℕ
      v = get_or s.seconds e 0

      -- The arrays represent the next state.
      pub round_won : {picked order : List ℕ} → (picked ≡ set a.picked e 1) × (order ≡ set a.order r e)
          → Represents s (r + 1) (time + d) (arrays_from labels loads values picked order keys floors flags)
      unfolding round_by problem_of
      round_won noted =
          let w = won t in
          let is = made_by w in
          let ends = h.sound.edges e (winner_edge_law w) in
          let labels_made : labels ≡ tabulate max_vertices (held_label p (state_at p (r + 1))) = ap (λ (q : RoundArrays). q.labels) is ∙ labels_next w in
          let flags_is = ap (λ (q : RoundArrays). q.flags) is in
          let flags_made : flags ≡ active_flags s.groups labels =
          flags_merged s.groups a.labels h.sound.few (ap length h.labels_are ∙ length_tabulate max_vertices _)
          m
          ends.first_below_law
          ends.second_below
          (fresh w)
          h.flags_are
          (ap (λ (q : RoundArrays). q.labels) is)
          flags_is in
          let first_is = label_at u ends.first_below_law in
          let second_is = label_at v ends.second_below in
          let flag_made = flag_next w _ _ labels_made flags_made flags_is in
          record {
            sound = h.sound;
            plain = h.plain;
            rounds_are = rounds_next w;
            labels_are = labels_made;
            loads_are = loads_next w _ _ _ first_is second_is flag_made (rw (← later_is) (ap (λ (q : RoundArrays). q.loads) is));
            loads_timely = loads_timely_after w;
            values_are =
                values_next w _ _ first_is second_is labels_made flags_made (rw (← later_is, flags_is) (ap (λ (q : RoundArrays). q.values) is));
            values_timely = timely_after w;
            picked_are = noted.0 ∙ picked_next w;
            order_is = noted.1 ∙ order_next w;
            keyed = woken_keyed w _ _ (ap (λ (q : RoundArrays). notes_from q.keys q.floors) is) (search_keyed h.flags_are refl refl);
            floored = woken_low w _ _ (ap (λ (q : RoundArrays). notes_from q.keys q.floors) is) (search_floored h.flags_are refl refl);
            flags_are = flags_made;
          }
