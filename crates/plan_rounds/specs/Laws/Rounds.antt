-- One round after another: what the arrays represent before the first and after each, and the growth that they are when no candidate is left (001, Algorithm 22.3).
-- `grow_rounds` and `grow` cite it.
use Rattle.std.specs.Prelude.{◌≡◌, ℕ, suc, ◌+◌, ◌-◌, ◌*◌, ◌%◌, ◌^◌, ◌<◌, ◌≤◌, Bool, true, false, cond, ◌&&◌, ◌||◌, ◌⊎◌, List, [], length, replicate, ◌==◌, nat_lt, slice_index, slice_index_or}
use native.Mathlib.Omega.{arith}
use Rattle.std.proofs.Math.Path.{refl, ap}
use Rattle.std.proofs.Common.{sym, ◌∙◌, inl, inr, eq-eqb, lt-ltb, le-ltb}
use Rattle.std.proofs.lemmas.List.{length-replicate}
use Rattle.std.proofs.Math.ListN.{get_or-eq_default}
use Rattle.base_finite.specs.Below.{counted, sum_below, tabulate}
use Rattle.base_finite.specs.Laws.Below.{sum_cong, sum_zero, sum_limit, length_tabulate, get_d_tabulate, counted_false, lt_or_ge}
use Rattle.base_finite.specs.Laws.Test.{and_both, or_left, or_right, true_not_false, not_true_false}
use Rattle.base_limits.specs.Limits.{max_vertices, max_edges, max_weight, max_value, max_duals}
use Rattle.theory_steiner.specs.Problem.{Problem}
use Rattle.theory_steiner.specs.Growth.{Winner, nobody, edge, active, slack, winner, numbers, start, state_at}
use Rattle.theory_steiner.specs.Pruning.{dual_bound}
use Rattle.theory_steiner.proofs.Laws.Round.{state_at_reached, pick_rounds}
use Rattle.theory_steiner.proofs.Laws.Rounds.{rounds_lt, state_at_pick, state_at_last, value_bounded}
use Rattle.theory_steiner.proofs.Laws.Partition.{active_below_law}
use Rattle.theory_steiner.proofs.Laws.Feasible.{load_start}
use Rattle.base_buffer.specs.Store.{remade}
use Rattle.base_buffer.proofs.Laws.Store.{tabulate_cong, remade_passed, remade_table, remade_part, replicate_table}
use Rattle.survey_core.specs.Survey.{Survey, vertex_count, edge_count, problem_of}
use Rattle.survey_core.specs.Sound.{SurveySound}
use Rattle.survey_core.proofs.Laws.Refusal.{survey_sound}
use Rattle.plan_active.specs.Flags.{active_flags}
use Rattle.plan_search.specs.Scan.{no_key, idle_alone, resting, reach, max_blocks}
use Rattle.plan_search.proofs.Laws.Scan.{slack_reach, reach_lone, slack_start, keyed_start, floored_start}
use Rattle.plan_search.specs.Keys.{start_key, start_key_of}
use Rattle.plan_search.specs.Held.{held_value, settled_by}
use Rattle.plan_search.proofs.Laws.Held.{held_off, held_settled}
use Rattle.plan_rounds.specs.Tables.{settled_values}
use Rattle.plan_rounds.specs.Represents.{winner_edge, pick_at, held_label, held_load, Arrays, arrays_from, Represents}
use Rattle.plan_rounds.specs.Grown.{growth_from, GrownAfter}
use Rattle.plan_rounds.specs.Laws.Round.{going, weights_light, flag_active, flag_at_law}

-- ---- before the first round

none : (x : Bool) {y : ℕ} → y ≡ 0 → counted x y ≡ 0
unfolding counted
none true h = h
none false h = refl

held_zero : (t : Bool) → held_value 0 t 0 ≡ 0
unfolding held_value
held_zero true = refl
held_zero false = refl

label_start : (p : Problem) (v : ℕ) → v ≡ held_label p start v
unfolding held_label start
label_start p v = by (nat_lt v p.vertices)
  where
    by : (t : Bool) → v ≡ cond t v v
    by true = refl
    by false = refl

held_start : (p : Problem) (v : ℕ) → held_load p start 0 v ≡ 0
unfolding held_load start
held_start p v = ap (held_value 0 (active p (λ v. v) v)) (load_start p v) ∙ held_zero (active p (λ v. v) v)

-- No step at all.
pub grown_start : (p : Problem) → GrownAfter p 0 (growth_from 0 0 (replicate max_duals 0) (replicate max_edges 0) (replicate max_vertices 0))
unfolding state_at start counted dual_bound
grown_start p =
    record {
      rounds_are = refl;
      bound_is = sym (sum_zero (numbers p start) (λ c. 0) (λ c b. refl));
      values_are = replicate_table max_duals 0;
      picked_are = replicate_table max_edges 0;
      order_is = replicate_table max_vertices 0 ∙ tabulate_cong max_vertices _ _ (λ k _. sym (counted_false (le-ltb k 0 (omega arith)) (pick_at p k)));
    }

-- A vertex without a flag is idle, and a component of its own.
alone_start : {s : Survey} {labels flags : List ℕ} → SurveySound s → s.owners ≡ [] → labels ≡ remade (λ v x. v) max_vertices (replicate max_vertices 0)
    → flags ≡ active_flags s.groups labels
    → (v : ℕ) → v < length s.groups → (slice_index flags v == 1) ≡ false → idle_alone (problem_of s) start v ≡ true
unfolding idle_alone start
alone_start {s} {labels} sound plain h f v b q =
    let few = sound.few in
    let own : (u : ℕ) → u < length s.groups → slice_index labels u ≡ u =
    λ u c. ap (λ l. slice_index l u) h ∙ remade_passed (λ v x. v) max_vertices (replicate max_vertices 0) u (omega arith) (omega (arith, length-replicate {A = ℕ} max_vertices 0)) in
    let idle : active (problem_of s) (λ v. v) v ≡ false = sym (flag_active s plain sound.few (λ v. v) labels own f v (omega arith)) ∙ q in
    rw (idle, eq-eqb v v refl) refl

-- An edge that does not rest has a key that bounds it.
first_keys : {s : Survey} {labels flags keys : List ℕ} → SurveySound s → s.owners ≡ [] → labels ≡ remade (λ v x. v) max_vertices (replicate max_vertices 0)
    → flags ≡ active_flags s.groups labels
    → keys ≡ remade (λ e x. start_key_of s.firsts s.seconds s.weights flags e) (length s.firsts) (replicate max_edges 0)
    → (e : ℕ) → e < (problem_of s).edges → resting (problem_of s) (state_at (problem_of s) 0) e ≡ false → slice_index keys e ≤ reach (problem_of s) (state_at (problem_of s) 0) e
unfolding problem_of edge_count start_key_of start_key resting state_at
first_keys {s} {labels} {flags} {keys} sound plain h f k e b awake =
    let n = sound.edges_few in
    let r = length-replicate {A = ℕ} max_edges 0 in
    let q : slice_index_or keys e 0 ≡ start_key_of s.firsts s.seconds s.weights flags e =
    ap (λ l. slice_index l e) k ∙ remade_passed (λ e x. start_key_of s.firsts s.seconds s.weights flags e) (length s.firsts) (replicate max_edges 0) e (omega arith) (omega arith) in
    by (slice_index flags (slice_index s.firsts e) == 1) (slice_index flags (slice_index s.seconds e) == 1) refl refl q
  where
    alone : (v : ℕ) → v < length s.groups → (slice_index flags v == 1) ≡ false → idle_alone (problem_of s) start v ≡ true
    alone = alone_start sound plain h f

    all : slack (problem_of s) start e ≡ 2 * slice_index s.weights e
    all = slack_start (problem_of s) e

    twice : (idle_alone (problem_of s) start (slice_index s.firsts e) || idle_alone (problem_of s) start (slice_index s.seconds e)) ≡ true
        → reach (problem_of s) start e ≡ 2 * slack (problem_of s) start e
    twice = reach_lone (problem_of s) start e

    by : (x y : Bool) → (slice_index flags (slice_index s.firsts e) == 1) ≡ x → (slice_index flags (slice_index s.seconds e) == 1) ≡ y
        → slice_index keys e ≡ cond (x || y) (cond (x && y) (2 * slice_index s.weights e) (2 * (2 * slice_index s.weights e))) no_key
        → slice_index keys e ≤ reach (problem_of s) start e
    by true true i j q = omega (arith, slack_reach (problem_of s) start e, all, q)
    by true false i j q =
        omega (arith, twice (or_right (idle_alone (problem_of s) start (slice_index s.firsts e)) _ (alone _ (sound.edges e b).second_below j)), all, q)
    by false true i j q =
        omega (arith, twice (or_left _ (idle_alone (problem_of s) start (slice_index s.seconds e)) (alone _ (sound.edges e b).first_below_law i)), all, q)
    by false false i j q =
        absurd
        (true_not_false
        (idle_alone (problem_of s) start (slice_index s.firsts e) && idle_alone (problem_of s) start (slice_index s.seconds e))
        (and_both _ _ (alone _ (sound.edges e b).first_below_law i) (alone _ (sound.edges e b).second_below j))
        awake)

pub represents_start : {s : Survey} {labels keys flags values picked order : List ℕ} → SurveySound s → s.owners ≡ []
    → (values ≡ replicate max_duals 0) × (picked ≡ replicate max_edges 0) × (order ≡ replicate max_vertices 0) → labels ≡ remade (λ v x. v) max_vertices (replicate max_vertices 0)
    → flags ≡ active_flags s.groups labels
    → keys ≡ remade (λ e x. start_key_of s.firsts s.seconds s.weights flags e) (length s.firsts) (replicate max_edges 0)
    → Represents s 0 0 (arrays_from labels (replicate max_vertices 0) values picked order keys (replicate max_blocks 0) flags)
unfolding state_at start
represents_start {s} sound plain empty h f k =
    let g = grown_start (problem_of s) in
    record {
      sound = sound;
      plain = plain;
      rounds_are = refl;
      labels_are = h ∙ remade_table (λ v x. v) max_vertices _ (held_label (problem_of s) start) refl (λ v b. label_start (problem_of s) v);
      loads_are =
          replicate_table max_vertices 0 ∙ tabulate_cong max_vertices _ _ (λ v _. sym (none (nat_lt v (problem_of s).vertices) (held_start (problem_of s) v)));
      loads_timely = λ v _. omega (arith, load_start (problem_of s) v);
      values_are = empty.0 ∙ replicate_table max_duals 0 ∙ tabulate_cong max_duals _ _ (λ c _. sym (held_zero (active (problem_of s) (λ v. v) c)));
      values_timely = λ c. omega arith;
      picked_are = empty.1 ∙ g.picked_are;
      order_is = empty.2 ∙ g.order_is;
      keyed = keyed_start (problem_of s) (first_keys sound plain h f k);
      floored = floored_start (length s.firsts) max_blocks _ (replicate_table max_blocks 0);
      flags_are = f;
    }

-- ---- when no candidate is left

-- Steps after the last round pick nothing.
last_picks : (p : Problem) (r k : ℕ) → winner p (state_at p r) ≡ nobody → r ≤ k → (i : ℕ) → counted (nat_lt i r) (pick_at p i) ≡ counted (nat_lt i k) (pick_at p i)
unfolding pick_at winner_edge
last_picks p r k w b i = by (lt_or_ge i r)
  where
    by : (i < r) ⊎ (r ≤ i) → counted (nat_lt i r) (pick_at p i) ≡ counted (nat_lt i k) (pick_at p i)
    by (inl h) = ap (λ x. counted x (pick_at p i)) (lt-ltb i r h ∙ sym (lt-ltb i k (omega arith)))
    by (inr h) =
        let z : pick_at p i ≡ 0 = ap winner_edge (ap (winner p) (state_at_last p r i w h) ∙ w) in
        none (nat_lt i r) z ∙ sym (none (nat_lt i k) z)

module _ {s : Survey} {r time : ℕ} {a : Arrays} (h : Represents s r time a) where
  -- The time so far fits.
  pub time_fits : time < 2 ^ 64
  time_fits = let q = h.rounds_are in let g = going h in let t = h.keyed.early in let few = h.sound.few in omega arith

  -- After n - 1 rounds no candidate is left.
  pub all_merged : length s.groups - 1 ≤ r → winner (problem_of s) (state_at (problem_of s) r) ≡ nobody
  unfolding problem_of vertex_count
  all_merged b = by (winner (problem_of s) (state_at (problem_of s) r)) refl
    where
      by : (w : Winner) → winner (problem_of s) (state_at (problem_of s) r) ≡ w → w ≡ nobody
      by nobody k = refl
      by (edge e d) k =
          absurd
          (omega (
            arith,
            rounds_lt (problem_of s) (survey_sound s h.sound) h.sound.some (state_at_reached (problem_of s) (suc r)),
            ap (λ t. t.rounds) (state_at_pick (problem_of s) r e d k),
            pick_rounds (problem_of s) (state_at (problem_of s) r) e d,
            h.rounds_are,
          ))

  -- ---- the values, when all is settled

  -- What the loop leaves of them, settled.
  pub settled_left : {values flags after : List ℕ} → values ≡ a.values → flags ≡ a.flags → after ≡ settled_values flags (length s.groups + r) time values
      → after ≡ settled_values a.flags (length s.groups + r) time a.values
  settled_left v f made = made ∙ rw (v, f)

  module _ {values : List ℕ} (v : values ≡ settled_values a.flags (length s.groups + r) time a.values) where
    -- What has not arisen has no value.
    none_yet : (c : ℕ) → length s.groups + r ≤ c → c < max_duals → slice_index a.values c ≡ (state_at (problem_of s) r).value c
    unfolding numbers problem_of vertex_count
    none_yet c past b =
        let reached = state_at_reached (problem_of s) r in
        let number = h.rounds_are in
        let idle = not_true_false (active (problem_of s) (state_at (problem_of s) r).label c) (λ x. let l = active_below_law (problem_of s) reached c x in omega arith) in
        ap (λ t. slice_index t c) h.values_are ∙ get_d_tabulate max_duals _ c 0 b ∙ held_off time ((state_at (problem_of s) r).value c) idle

    values_settled : values ≡ tabulate max_duals (state_at (problem_of s) r).value
    unfolding settled_values
    values_settled =
        let few = h.sound.few in
        let g = going h in
        v
        ∙ remade_part
        (λ c x. settled_by time (slice_index a.flags c == 1) x)
        (length s.groups + r)
        max_duals
        a.values
        (state_at (problem_of s) r).value
        (ap length h.values_are ∙ length_tabulate max_duals _)
        (omega arith)
        (λ c l.
        let b : c < max_duals = omega arith in
        rw
        (flag_at_law h h.flags_are c b, ap (λ t. slice_index t c) h.values_are ∙ get_d_tabulate max_duals _ c 0 b)
        (held_settled time ((state_at (problem_of s) r).value c) (active (problem_of s) (state_at (problem_of s) r).label c) (h.values_timely c)))
        none_yet

    value_at : (c : ℕ) → c < max_duals → slice_index values c ≡ (state_at (problem_of s) r).value c
    value_at c b = ap (λ t. slice_index t c) values_settled ∙ get_d_tabulate max_duals _ c 0 b

    -- Their sum fits: no round raises a value by more than the largest that a dual can have.
    sum_whole : sum_below (length s.groups + r) (λ c. slice_index values c) % 2 ^ 64 ≡ sum_below (length s.groups + r) (λ c. slice_index values c)
    sum_whole =
        let few = h.sound.few in
        let g = going h in
        let b = sum_limit (length s.groups + r) (max_vertices * max_value) (λ c. slice_index values c) (λ c _. by c (lt_or_ge c max_duals)) in
        omega arith
      where
        by : (c : ℕ) → (c < max_duals) ⊎ (max_duals ≤ c) → slice_index values c ≤ max_vertices * max_value
        by c (inl b) =
            let k = value_at c b in
            let q = value_bounded (problem_of s) (survey_sound s h.sound) max_weight (weights_light h) (state_at_reached (problem_of s) r) c in
            let few = h.sound.few in
            let g = going h in
            let n = h.rounds_are in
            omega arith
        by c (inr b) =
            let long : length values ≡ max_duals = ap length values_settled ∙ length_tabulate max_duals _ in
            let k : slice_index_or values c 0 ≡ 0 = get_or-eq_default values 0 (omega arith) in
            omega arith

    bound_at : sum_below (length s.groups + r) (λ c. slice_index values c) ≡ dual_bound (problem_of s) (state_at (problem_of s) r)
    unfolding dual_bound numbers problem_of vertex_count
    bound_at =
        let few = h.sound.few in
        let g = going h in
        rw
        h.rounds_are
        (sum_cong (length s.groups + r) (λ c. slice_index values c) (state_at (problem_of s) r).value (λ c k. value_at c (omega arith)))

    -- With no candidate left this is the growth.
    pub grown_still : {rounds bound : ℕ} {picked order : List ℕ} → picked ≡ a.picked → order ≡ a.order → winner (problem_of s) (state_at (problem_of s) r) ≡ nobody
        → (rounds ≡ r) × (bound ≡ sum_below (length s.groups + r) (λ c. slice_index values c) % 2 ^ 64)
        → GrownAfter (problem_of s) (length s.groups) (growth_from rounds bound values picked order)
    grown_still picks in_order w counted_are =
        let p = problem_of s in
        let still = sym (state_at_last p r (length s.groups) w (omega (arith, going h))) in
        record {
          rounds_are = counted_are.0 ∙ sym h.rounds_are ∙ ap (λ t. t.rounds) still;
          bound_is = counted_are.1 ∙ sum_whole ∙ bound_at ∙ ap (dual_bound p) still;
          values_are = values_settled ∙ ap (λ t. tabulate max_duals t.value) still;
          picked_are = picks ∙ h.picked_are ∙ ap (λ t. tabulate max_edges (λ i. counted (t.picked i) 1)) still;
          order_is = in_order ∙ h.order_is ∙ tabulate_cong max_vertices _ _ (λ i _. last_picks p r (length s.groups) w (omega (arith, going h)) i);
        }
