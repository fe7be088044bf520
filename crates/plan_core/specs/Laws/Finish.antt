-- From what growing leaves to what it answers where nothing stops it: the picked edges are its marks, and the trace's duals the plan's duals. `Laws/Call` cites it.
use Rattle.std.specs.Prelude.{ℕ, ◌+◌, ◌*◌, ◌-◌, ◌≤◌, ◌<◌, ◌≡◌, refl, List, ◌++◌, ltb}
use Rattle.std.proofs.Math.Path.{ap}
use Rattle.std.proofs.Common.{sym, ◌∙◌, subst, ⊎_elim, arith, length-append, length-drop, ext_get_or, get_or-append-add, get_or-drop, lt-ltb}
use Rattle.std.proofs.Math.ListN.{length, get_or, drop, get_or-append}
use Rattle.base_finite.specs.Below.{counted, tabulate}
use Rattle.base_finite.specs.Laws.Below.{length_tabulate, get_d_tabulate, lt_or_ge, counted_true}
use Rattle.base_limits.specs.Limits.{max_vertices, max_edges, record_bytes, duals_for}
use Rattle.base_limits.specs.Verdict.{Outcome, answer}
use Rattle.theory_steiner.specs.Problem.{Problem, Sound}
use Rattle.theory_steiner.specs.Growth.{edge, winner, state_at, grown}
use Rattle.theory_steiner.specs.Pruning.{picked}
use Rattle.theory_steiner.proofs.Laws.Rounds.{rounds_lt, grown_reached}
use Rattle.survey_core.specs.Survey.{Survey, survey_from, vertex_count, edge_count, problem_of}
use Rattle.survey_core.proofs.Laws.Refusal.{survey_sound}
use Rattle.base_buffer.specs.Store.{remade}
use Rattle.base_buffer.proofs.Laws.Store.{tabulate_cong, length_remade, remade_passed, remade_ahead}
use Rattle.plan_rounds.specs.Represents.{pick_at, winner_edge}
use Rattle.plan_rounds.specs.Grown.{Growth, GrownAfter}
use Rattle.plan_draw.specs.Trace.{Trace, trace_from, drawn_duals, Drawable, TraceOf}
use Rattle.plan_draw.proofs.Laws.Drawable.{drawn_all}
use Rattle.plan_draw.proofs.Laws.Growth.{trace_duals_law, trace_drawable, traces_from}
use Rattle.plan_draw.specs.Drawing.{records_over}
use Rattle.plan_rule.specs.Promise.{Ready}
use Rattle.plan_rule.specs.Plan.{plan_of, PlanCounts}
use Rattle.plan_rule.specs.Growing.{grown_counts_of, picked_marks}
use Rattle.plan_rule.proofs.Laws.Same.{plan_terminals}
use Rattle.plan_core.specs.Grown.{GrownInto}

-- A buffer whose first m places were made anew.
pub remade_front : (f : ℕ → ℕ → ℕ) (m : ℕ) (l : List ℕ) → m ≤ length l → remade f m l ≡ tabulate m (λ k. f k (get_or l k 0)) ++ drop m l
remade_front f m l b =
    ext_get_or 0 (remade f m l) (tabulate m g ++ drop m l) lengths
    (λ i bi. ⊎_elim (before i) (after i) (lt_or_ge i m))
  where
    g : ℕ → ℕ
    g k = f k (get_or l k 0)

    lengths : length (remade f m l) ≡ length (tabulate m g ++ drop m l)
    lengths = omega (arith, length_remade f m l, length-append (tabulate m g) (drop m l), length_tabulate m g, length-drop m l)

    before : (i : ℕ) → i < m → get_or (remade f m l) i 0 ≡ get_or (tabulate m g ++ drop m l) i 0
    before i bi =
        remade_passed f m l i bi (omega arith) ∙ sym (get_d_tabulate m g i 0 bi)
        ∙ sym (get_or-append (tabulate m g) (drop m l) 0 i (omega (arith, length_tabulate m g)))

    after : (i : ℕ) → m ≤ i → get_or (remade f m l) i 0 ≡ get_or (tabulate m g ++ drop m l) i 0
    after i bi =
        let at : i ≡ length (tabulate m g) + (i - m) = omega (arith, length_tabulate m g) in
        let split : m + (i - m) ≡ i = omega arith in
        remade_ahead f m l i bi
        ∙ sym
        (ap (λ k. get_or (tabulate m g ++ drop m l) k 0) at ∙ get_or-append-add (tabulate m g) (drop m l) (i - m) 0 ∙ get_or-drop m l (i - m) 0
        ∙ ap (λ k. get_or l k 0) split)

-- ---- after growing

module _ {s : Survey} {marks_length records_length : ℕ} (ready : Ready s marks_length records_length) {g : Growth}
    (grew : GrownAfter (problem_of s) (length s.groups) g) where
  abbrev P : Problem
  P = problem_of s

  abbrev trace : Trace
  trace = trace_from (length s.groups) s.firsts s.seconds g.values g.order g.rounds

  ok : Sound P
  ok = survey_sound s ready.survey

  some : 0 < P.vertices
  unfolding problem_of vertex_count
  some = ready.survey.some

  few : P.vertices ≤ max_vertices
  unfolding problem_of vertex_count
  few = ready.survey.few

  to_the_end : GrownAfter P P.vertices g
  unfolding problem_of vertex_count
  to_the_end = grew

  order_at : (r e d : ℕ) → r < g.rounds → winner P (state_at P r) ≡ edge e d → get_or g.order r 0 ≡ e
  unfolding pick_at winner_edge grown
  order_at r e d b w =
      let lt : (grown P).rounds < P.vertices = rounds_lt P ok some (grown_reached P) in
      let r_lt : r < P.vertices = omega (arith, to_the_end.rounds_are) in
      ap (λ l. get_or l r 0) to_the_end.order_is
      ∙ get_d_tabulate max_vertices (λ i. counted (ltb i P.vertices) (pick_at P i)) r 0 (omega (arith, few))
      ∙ counted_true (lt-ltb r P.vertices r_lt) (pick_at P r)
      ∙ ap winner_edge w

  traces : TraceOf P trace
  unfolding grown problem_of vertex_count edge_count
  traces =
      traces_from (problem_of s) ok s.firsts s.seconds g.values g.order g.rounds some few (λ e b. refl) (λ e b. refl)
      to_the_end.values_are order_at to_the_end.rounds_are

  -- The trace can be replayed.
  drawable : (records : List ℕ) → length records ≡ records_length → Drawable trace records
  unfolding problem_of vertex_count
  drawable records long =
      trace_drawable (problem_of s) ok trace traces records some few (subst (λ x. record_bytes * duals_for (length s.groups) ≤ x) (sym long) ready.records_fit)

  pub rounds_plan : g.rounds ≡ (plan_of P).rounds
  unfolding grown plan_of
  rounds_plan = to_the_end.rounds_are

  pub bound_plan : g.bound ≡ (plan_of P).bound
  unfolding grown plan_of
  bound_plan = to_the_end.bound_is

  pub duals_plan : (records : List ℕ) → length records ≡ records_length → drawn_duals trace (length records) ≡ (plan_of P).duals
  unfolding plan_of
  duals_plan records long = drawn_all trace records (drawable records long) ∙ trace_duals_law P ok trace traces

  -- A mark that growing copies.
  pick_at_law : (e : ℕ) → e < edge_count s → get_or g.picked e 0 ≡ counted (picked P e) 1
  unfolding grown picked edge_count
  pick_at_law e b =
      let few = ready.survey.edges_few in
      ap (λ l. get_or l e 0) to_the_end.picked_are ∙ get_d_tabulate max_edges (λ e. counted ((grown (problem_of s)).picked e) 1) e 0 (omega arith)

  marks_plan : (marks : List ℕ) → length marks ≡ marks_length
      → remade (λ e mark. get_or g.picked e 0) (length s.firsts) marks ≡ picked_marks P ++ drop (length s.firsts) marks
  unfolding picked_marks problem_of edge_count
  marks_plan marks long =
      remade_front (λ e mark. get_or g.picked e 0) (length s.firsts) marks (subst (λ x. length s.firsts ≤ x) (sym long) ready.marks_fit)
      ∙ ap (λ l. l ++ drop (length s.firsts) marks) (tabulate_cong (length s.firsts) _ _ (λ e b. pick_at_law e b))

-- All together: what growing leaves is the plan.
pub grown_plan : (groups firsts seconds weights : List ℕ) {marks records marked drawn : List ℕ} {o : Outcome PlanCounts}
    → Ready (survey_from groups firsts seconds weights) (length marks) (length records)
    → GrownInto (survey_from groups firsts seconds weights) marks records o marked drawn
    → (o ≡ answer (grown_counts_of (plan_of (problem_of (survey_from groups firsts seconds weights)))))
    × ((marked ≡ picked_marks (problem_of (survey_from groups firsts seconds weights)) ++ drop (length firsts) marks)
    × (drawn ≡ records_over (plan_of (problem_of (survey_from groups firsts seconds weights))).duals records))
unfolding grown_counts_of
grown_plan groups firsts seconds weights {marks} {records} ready left =
    let drawn_is = duals_plan ready left.grew records refl in (
      left.counts_are ∙ rw (drawn_is, plan_terminals groups firsts seconds weights, bound_plan ready left.grew, rounds_plan ready left.grew),
      (left.marks_are ∙ marks_plan ready left.grew marks refl, left.records_are ∙ ap (λ d. records_over d records) drawn_is),
    )
