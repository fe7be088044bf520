-- A survey of the picked tracks alone has the figures of the survey. `kept_alone` cites it.
use Rattle.std.specs.Prelude.{ℕ, ◌+◌, ◌-◌, ◌≤◌, ◌<◌, ◌≡◌, Bool, false, cond, List, [], get_or, take, replicate, ltb}
use Rattle.std.proofs.Common.{arith, ◌∙◌, subst, ⊎_elim, get_or-take, length-take-le, lt-ltb, le-ltb}
use Rattle.std.proofs.Math.Path.{refl, ap, sym}
use Rattle.std.proofs.Math.Bool.{true}
use Rattle.std.proofs.Math.ListN.{length, length-replicate, get_or-eq_default}
use Rattle.base_finite.specs.Below.{counted, count_below, tabulate}
use Rattle.base_finite.specs.Laws.Below.{lt_or_ge}
use Rattle.base_finite.specs.Laws.Test.{not_true_false, same_test_law}
use Rattle.base_buffer.proofs.Laws.Store.{tabulate_cong}
use Rattle.base_limits.specs.Limits.{max_vertices, max_edges, max_duals, max_weight}
use Rattle.base_limits.specs.Verdict.{◌before◌, refusal, answer, written}
use Rattle.base_limits.specs.declared.Verdict.{Verdict}
use Rattle.base_limits.specs.declared.Verdict.TheVariants.{Fine, Refused}
use Rattle.theory_steiner.specs.Problem.{Problem, all_usable}
use Rattle.theory_steiner.specs.Growth.{grown}
use Rattle.theory_steiner.specs.Pruning.{picked, dual_bound}
use Rattle.theory_steiner.proofs.Laws.Joined.{joined_iff}
use Rattle.theory_steiner.proofs.Laws.Partition.{picked_usable}
use Rattle.theory_steiner.proofs.Laws.Rounds.{grown_reached, rounds_lt, picked_count}
use Rattle.survey_core.specs.Survey.{Survey, survey_from, vertex_count, edge_count, same_group, problem_of}
use Rattle.survey_core.specs.Sound.{ByteGroups, EdgeSound, SurveySound}
use Rattle.survey_core.specs.Refusal.{group_refusal}
use Rattle.survey_core.proofs.Laws.Refusal.{survey_sound}
use Rattle.survey_components.specs.Labels.{picked_in}
use Rattle.survey_components.specs.Forest.{loop_refusal}
use Rattle.check_core.specs.Cost.{kept_cost, kept_cost_all}
use Rattle.plan_rounds.specs.Represents.{pick_at}
use Rattle.plan_rounds.specs.Grown.{Growth, growth_from, GrownAfter}
use Rattle.plan_drop.specs.Prunable.{Picks, unweighted}
use Rattle.plan_drop.specs.Judge.{pruned_marks}
use Rattle.plan_rule.specs.Plan.{plan_of}
use Rattle.plan_rule.specs.Figures.{FigureCounts, figure_counts_of}
use Rattle.plan_rule.proofs.Laws.Ready.{all_bounded}
use Rattle.plan_core.specs.Planned.{joinable, MarkedInto, figures_joined}
use Rattle.plan_core.specs.Laws.Planned.{grown_picks_law, picks_pruned, picks_join, picks_part, marks_joined_law}
use Rattle.plan_core.specs.Laws.Figures.{figures_joined_law}
use Rattle.closed_core.specs.LeftOut.{closed_of}
use Rattle.closed_core.specs.Alone.{listed, old_number, choosing}
use Rattle.closed_core.specs.Laws.Alone.{old_behind, old_front, length_listed, listed_at, listed_ones, SamePicks, picked_below}

-- A growth of a survey, by its picks.
abbrev growth_of : Survey → (picks : List ℕ) → Growth
growth_of s picks =
    growth_from (grown (problem_of s)).rounds (dual_bound (problem_of s) (grown (problem_of s))) (tabulate max_duals (grown (problem_of s)).value) picks
    (tabulate max_vertices (λ i. counted (ltb i (length s.groups)) (pick_at (problem_of s) i)))

grew_by : (s : Survey) {picks : List ℕ} → picks ≡ tabulate max_edges (λ e. counted (picked (problem_of s) e) 1)
    → GrownAfter (problem_of s) (length s.groups) (growth_of s picks)
unfolding picked grown problem_of vertex_count
grew_by s h = record { rounds_are = refl; bound_is = refl; values_are = refl; picked_are = h; order_is = refl }

pub listed_room : (F : ℕ → Bool) (f : ℕ → ℕ) (m room : ℕ) {now : List ℕ} → now ≡ listed F f m (replicate room 0) → length now ≡ room
listed_room F f m room h = ap length h ∙ length_listed F f (replicate room 0) m ∙ length-replicate {A = ℕ} room 0

closed_by : (t : Bool) (f g : FigureCounts) → f.cost ≡ g.cost → f.bound ≡ g.bound
    → closed_of (cond t (answer f) (refusal 8 0)) ≡ closed_of (cond t (answer g) (refusal 8 0))
unfolding closed_of
closed_by true f g h k = λ i. answer (record { cost = h i; bound = k i })
closed_by false f g h k = refl

module _ (groups firsts seconds weights : List ℕ) (sound : SurveySound (survey_from groups firsts seconds weights)) {picks : List ℕ}
    (picks_are : picks ≡ tabulate max_edges (λ e. counted (picked (problem_of (survey_from groups firsts seconds weights)) e) 1)) {count : ℕ}
    (count_is : count ≡ count_below (length firsts) (picked_in picks)) where
  abbrev s : Survey
  s = survey_from groups firsts seconds weights

  abbrev p : Problem
  p = problem_of s

  abbrev m : ℕ
  m = length firsts

  picks_in : picked_in picks ≡ picked p
  picks_in = grown_picks_law groups firsts seconds weights sound (grew_by s picks_are)

  counted_is : count ≡ count_below m (picked p)
  counted_is = count_is ∙ ap (count_below m) picks_in

  -- There is room for all of them.
  pub count_few : count ≤ max_vertices
  unfolding picked problem_of vertex_count edge_count
  count_few =
      let ok = survey_sound s sound in
      omega (arith, counted_is, picked_count p ok (grown_reached p), rounds_lt p ok sound.some (grown_reached p), sound.few)

  past : (i : ℕ) → count ≤ i → m ≤ old_number (picked p) m i
  past i b =
      let z : count_below m (picked p) + (i - count) ≡ i = omega (arith, counted_is) in
      subst (λ (k : ℕ). m ≤ old_number (picked p) m k) z (omega (arith, old_behind (picked p) m (i - count)))

  module _ (l : List ℕ) (long : m ≡ length l) {part : List ℕ} (part_is : part ≡ listed (picked_in picks) (λ e. get_or l e 0) m (replicate max_vertices 0)) where
    part_listed : part ≡ listed (picked p) (λ e. get_or l e 0) m (replicate max_vertices 0)
    part_listed = part_is ∙ ap (λ (F : ℕ → Bool). listed F (λ e. get_or l e 0) m (replicate max_vertices 0)) picks_in

    part_long : length (take (count - 0) part) ≡ count
    part_long =
        length-take-le (count - 0) part (omega (arith, count_few, listed_room _ _ _ max_vertices part_is))
        ∙ omega arith

    -- Entry by entry, the list at the old numbers.
    part_at : (i : ℕ) → get_or (take (count - 0) part) i 0 ≡ get_or l (old_number (picked p) m i) 0
    part_at i =
        ⊎_elim
        (λ b.
        get_or-take (count - 0) part i 0 (omega arith)
        ∙ ap (λ (k : List ℕ). get_or k i 0) part_listed
        ∙ listed_at (picked p) (λ e. get_or l e 0) (replicate max_vertices 0) m i (omega (arith, counted_is, count_few, length-replicate {A = ℕ} max_vertices 0)) (omega (arith, counted_is)))
        (λ b.
        get_or-eq_default (take (count - 0) part) 0 (omega (arith, part_long))
        ∙ sym (get_or-eq_default l 0 (omega (arith, long, past i b))))
        (lt_or_ge i count)

  module _ {starts ends prices ones : List ℕ}
      (starts_are : starts ≡ listed (picked_in picks) (λ e. get_or firsts e 0) (length firsts) (replicate max_vertices 0))
      (ends_are : ends ≡ listed (picked_in picks) (λ e. get_or seconds e 0) (length firsts) (replicate max_vertices 0))
      (prices_are : prices ≡ listed (picked_in picks) (λ e. get_or weights e 0) (length firsts) (replicate max_vertices 0))
      (ones_are : ones ≡ listed (picked_in picks) (λ e. counted (picked_in picks e) 1) (length firsts) (replicate max_edges 0)) where
    -- The picked tracks alone.
    abbrev own : Survey
    own = survey_from groups (take (count - 0) starts) (take (count - 0) ends) (take (count - 0) prices)

    starts_at : (i : ℕ) → get_or (take (count - 0) starts) i 0 ≡ get_or firsts (old_number (picked p) m i) 0
    starts_at = part_at firsts refl starts_are

    ends_at_law : (i : ℕ) → get_or (take (count - 0) ends) i 0 ≡ get_or seconds (old_number (picked p) m i) 0
    ends_at_law = part_at seconds sound.seconds_long ends_are

    prices_at : (i : ℕ) → get_or (take (count - 0) prices) i 0 ≡ get_or weights (old_number (picked p) m i) 0
    prices_at = part_at weights sound.weights_long prices_are

    own_problem : problem_of own ≡ choosing p (old_number (picked p) m) count
    unfolding problem_of vertex_count edge_count same_group
    own_problem i =
        record {
          vertices = length groups;
          edges = part_long firsts refl starts_are i;
          first = λ e. starts_at e i;
          second = λ e. ends_at_law e i;
          weight = λ e. prices_at e i;
          usable = λ e. true;
          required = same_group s;
        }

    known_edges : p.edges ≡ m
    unfolding problem_of edge_count
    known_edges = refl

    same : SamePicks p (problem_of own) (old_number (picked p) m)
    same =
        subst (λ (q : Problem). SamePicks p q (old_number (picked p) m)) (sym own_problem)
        (picked_below p (survey_sound s sound) m count (omega (arith, known_edges)) (omega (arith, known_edges, counted_is)))

    old_below : (i : ℕ) → i < count → (old_number (picked p) m i < m) × (picked p (old_number (picked p) m i) ≡ true)
    old_below i b = old_front (picked p) m i (omega (arith, counted_is))

    own_edge : (e : ℕ) → e < count → EdgeSound own e
    own_edge e b =
        let old : EdgeSound s (old_number (picked p) m e) = sound.edges (old_number (picked p) m e) (old_below e b).0 in
        record {
          first_below_law = subst (λ x. x < length groups) (sym (starts_at e)) old.first_below_law;
          second_below = subst (λ x. x < length groups) (sym (ends_at_law e)) old.second_below;
          ends_differ = λ h. old.ends_differ (sym (starts_at e) ∙ h ∙ ends_at_law e);
          weight_le = subst (λ x. x ≤ max_weight) (sym (prices_at e)) old.weight_le;
        }

    own_sound : SurveySound own
    own_sound =
        record {
          some = sound.some;
          few = sound.few;
          seconds_long = part_long firsts refl starts_are ∙ sym (part_long seconds sound.seconds_long ends_are);
          weights_long = part_long firsts refl starts_are ∙ sym (part_long weights sound.weights_long prices_are);
          edges_few = subst (λ x. x ≤ max_edges) (sym (part_long firsts refl starts_are)) (omega (arith, count_few));
          edges = λ e b. own_edge e (subst (λ x. e < x) (part_long firsts refl starts_are) b);
          pairs_long = sound.pairs_long;
          pairs = sound.pairs;
        }

    picked_edge : (e : ℕ) → picked p e ≡ true → e < m
    unfolding picked problem_of edge_count
    picked_edge e h = (picked_usable (problem_of s) (grown_reached (problem_of s)) e h).0

    -- All of them are picked.
    own_picked : (i : ℕ) → ltb i count ≡ picked (problem_of own) i
    own_picked i =
        ⊎_elim
        (λ b. lt-ltb i count b ∙ sym (same.picks i ∙ (old_below i b).1))
        (λ b. le-ltb i count b ∙ sym (same.picks i ∙ not_true_false (picked p (old_number (picked p) m i)) (λ h. let c = picked_edge (old_number (picked p) m i) h in omega (arith, past i b))))
        (lt_or_ge i count)

    own_grew : GrownAfter (problem_of own) (length groups) (growth_of own ones)
    own_grew =
        grew_by own
        (ones_are
        ∙ ap (λ (F : ℕ → Bool). listed F (λ e. counted (F e) 1) m (replicate max_edges 0)) picks_in
        ∙ listed_ones (picked p) max_edges m
        ∙ tabulate_cong max_edges _ _ (λ i b. ap (λ (t : Bool). counted t 1) (ap (ltb i) (sym counted_is) ∙ own_picked i)))

    joinable_same : joinable own ≡ joinable s
    joinable_same =
        same_test_law (joinable own) (joinable s)
        (λ h. (joined_iff p (all_usable p) (all_bounded s)).1 (same.same_joins.0 ((joined_iff (problem_of own) (all_usable (problem_of own)) (all_bounded own)).0 h)))
        (λ h. (joined_iff (problem_of own) (all_usable (problem_of own)) (all_bounded own)).1 (same.same_joins.1 ((joined_iff p (all_usable p) (all_bounded s)).0 h)))

    -- Their figures are those of the survey.
    alone_figures : closed_of (figures_joined own) ≡ closed_of (figures_joined s)
    unfolding figures_joined figure_counts_of plan_of
    alone_figures =
        ap (λ (t : Bool). closed_of (cond t (answer (figure_counts_of (plan_of (problem_of own)))) (refusal 8 0))) joinable_same
        ∙ closed_by (joinable s) (figure_counts_of (plan_of (problem_of own))) (figure_counts_of (plan_of p)) same.same_cost same.same_bound

    pub alone_picks : Picks groups (take (count - 0) starts) (take (count - 0) ends) ones
    alone_picks = picks_pruned groups (take (count - 0) starts) (take (count - 0) ends) (take (count - 0) prices) own_sound own_grew

    module _ {found : Verdict}
        (found_is : found ≡ (loop_refusal (survey_from groups (take (count - 0) starts) (take (count - 0) ends) []) (picked_in ones)
        before group_refusal (survey_from groups (take (count - 0) starts) (take (count - 0) ends) []) 14 (picked_in ones))) where
      -- 8
      pub alone_parted : {number place : ℕ} → found ≡ Refused number place → refusal 8 0 ≡ closed_of (figures_joined s)
      unfolding figures_joined closed_of
      alone_parted h =
          ap (λ (t : Bool). closed_of (cond t (answer (figure_counts_of (plan_of (problem_of own)))) (refusal 8 0)))
          (picks_part groups (take (count - 0) starts) (take (count - 0) ends) (take (count - 0) prices) own_sound own_grew found_is h)
          ∙ alone_figures

      -- cost and bound
      pub alone_joined : ByteGroups own → {marked : List ℕ}
          → marked ≡ written found (pruned_marks (unweighted groups (take (count - 0) starts) (take (count - 0) ends)) (picked_in ones) (length (take (count - 0) starts)) (replicate max_vertices 0)) (replicate max_vertices 0)
          → found ≡ Fine → {c bound : ℕ} → c ≡ kept_cost (take (count - 0) starts) (take (count - 0) prices) marked → bound ≡ (plan_of p).bound
          → answer (record { cost = c; bound = bound }) ≡ closed_of (figures_joined s)
      unfolding closed_of plan_of
      alone_joined numbered {marked} marked_is h {c} {bound} c_is bound_is =
          let left : MarkedInto own (replicate max_vertices 0) (grown (problem_of own)).rounds (dual_bound (problem_of own) (grown (problem_of own))) true
          (tabulate max_duals (grown (problem_of own)).value) (tabulate max_vertices (λ i. counted (ltb i (length groups)) (pick_at (problem_of own) i))) marked =
          record {
            picked = ones;
            grew = own_grew;
            joins_is = picks_join groups (take (count - 0) starts) (take (count - 0) ends) (take (count - 0) prices) own_sound own_grew found_is numbered h;
            marks_are = marks_joined_law groups (take (count - 0) starts) (take (count - 0) ends) (take (count - 0) prices) own_sound own_grew found_is (replicate max_vertices 0) marked_is numbered
                (omega (arith, count_few, part_long firsts refl starts_are, length-replicate {A = ℕ} max_vertices 0)) h;
          } in
          ap (λ (b : ℕ). answer (record { cost = c; bound = b })) (bound_is ∙ sym same.same_bound)
          ∙ ap closed_of (figures_joined_law own (replicate max_vertices 0) left refl refl (kept_cost_all _ _ _ own_sound.edges_few c_is) refl)
          ∙ alone_figures
