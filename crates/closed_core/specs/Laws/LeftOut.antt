-- A track left out of a survey is an edge left out of its problem, which is an edge closed: the same groups can be joined, and the plans cost the same and
-- have the same bound. `figures_without` and `entry` cite it.
use Rattle.std.specs.Prelude.{ℕ, ◌+◌, ◌-◌, ◌≤◌, ◌<◌, ◌≡◌, ◌↔◌, true, List, get_or, take, drop, replicate}
use Rattle.std.proofs.Math.Nat.{sub-zero}
use Rattle.std.proofs.Common.{add-one, arith, ◌∙◌, ⊎_elim, take_at}
use Rattle.std.proofs.Math.Path.{refl, ap, sym, subst}
use Rattle.std.proofs.Math.ListN.{length, get_or-eq_default}
use Rattle.std.proofs.lemmas.List.{length-replicate}
use Rattle.base_finite.specs.Below.{tabulate}
use Rattle.base_finite.specs.Laws.Below.{lt_or_ge, length_tabulate, get_d_tabulate}
use Rattle.base_buffer.specs.Store.{remade}
use Rattle.base_buffer.proofs.Laws.Store.{length_remade}
use Rattle.base_limits.specs.Limits.{max_edges, max_weight}
use Rattle.base_limits.specs.Verdict.{◌before◌, Outcome, answer, outcome}
use Rattle.base_limits.specs.declared.Verdict.{Verdict}
use Rattle.base_limits.specs.declared.Verdict.TheVariants.{Fine, Refused}
use Rattle.base_limits.specs.Laws.Verdict.{before_fine}
use Rattle.theory_graph.specs.Path.{Linked}
use Rattle.theory_steiner.specs.Problem.{Problem, Bounded, all_usable}
use Rattle.theory_steiner.specs.Closed.{closing, skipping, omitting}
use Rattle.theory_steiner.proofs.Laws.Finish.{all_usable_edges}
use Rattle.theory_steiner.proofs.Laws.Omitted.{skipping_low, skipping_high, skipping_below, omitted_linked, omitted_plan}
use Rattle.survey_core.specs.Survey.{Survey, survey_with, vertex_count, edge_count, member, same_group, problem_of, JoinsGroup}
use Rattle.survey_core.specs.Sound.{EdgeSound, SurveySound}
use Rattle.survey_core.proofs.Laws.Refusal.{survey_fine}
use Rattle.plan_rule.specs.Plan.{plan_of}
use Rattle.plan_rule.specs.Figures.{FigureCounts, figures_refusal, figure_counts_of, figuring}
use Rattle.plan_core.specs.Laws.Finish.{remade_front}
use Rattle.closed_rule.specs.Closed.{ClosedCounts, closed_counts_of, entry_refusal, closed_entry}
use Rattle.closed_rule.proofs.Laws.Groups.{same_finding}
use Rattle.closed_rule.proofs.Laws.Entry.{open_bounded, known_entry}
use Rattle.closed_core.specs.LeftOut.{omitted, left_out, closed_of}

pub length_omitted : (m c : ℕ) (l : List ℕ) → length (omitted m c l) ≡ m - 1
unfolding omitted
length_omitted m c l = length_tabulate (m - 1) _

-- Entry by entry, the list at the old numbers.
pub omitted_at : (m c : ℕ) (l : List ℕ) → c < m → length l ≡ m → (e : ℕ) → get_or (omitted m c l) e 0 ≡ get_or l (skipping c e) 0
unfolding omitted
omitted_at m c l known long e =
    ⊎_elim
    (λ b. get_d_tabulate (m - 1) (λ e. get_or l (skipping c e) 0) e 0 b)
    (λ b. get_or-eq_default (tabulate (m - 1) (λ e. get_or l (skipping c e) 0)) 0 (subst (λ x. x ≤ e) (sym (length_tabulate (m - 1) _)) b) ∙ sym (past b))
    (lt_or_ge e (m - 1))
  where
    past : m - 1 ≤ e → get_or l (skipping c e) 0 ≡ 0
    past b =
        get_or-eq_default l 0
        (⊎_elim
        (λ h. let k = (skipping_below c m e known).1 h in absurd (omega arith))
        (λ h. subst (λ x. x ≤ skipping c e) (sym long) h)
        (lt_or_ge (skipping c e) m))

-- What a loop leaves that copies the others.
pub left_long : (f : ℕ → ℕ → ℕ) (i : ℕ) {left : List ℕ} → left ≡ remade f i (replicate max_edges 0) → length left ≡ max_edges
left_long f i h = ap length h ∙ length_remade f i (replicate max_edges 0) ∙ length-replicate {A = ℕ} max_edges 0

pub omitted_part : (m c : ℕ) (l : List ℕ) → m ≤ max_edges → {left : List ℕ}
    → left ≡ remade (λ e x. get_or l (skipping c e) 0) (m - 1) (replicate max_edges 0) → take (m - 1 - 0) left ≡ omitted m c l
unfolding omitted
omitted_part m c l few {left} h =
    ap (λ (n : ℕ). take n left) (sub-zero (m - 1))
    ∙ ap (take (m - 1)) (h ∙ remade_front (λ e x. get_or l (skipping c e) 0) (m - 1) (replicate max_edges 0) room)
    ∙ take_at (tabulate (m - 1) (λ e. get_or l (skipping c e) 0)) (drop (m - 1) (replicate max_edges 0)) (m - 1) (length_tabulate (m - 1) _)
  where
    room : m - 1 ≤ length (replicate {A = ℕ} max_edges 0)
    room = subst (λ x. m - 1 ≤ x) (sym (length-replicate {A = ℕ} max_edges 0)) (omega arith)

-- An entry that is read at its old number: its own below c, one more from c on.
pub read_below : (l : List ℕ) (c e : ℕ) → e < c → get_or l e 0 ≡ get_or l (skipping c e) 0
read_below l c e b = ap (λ (i : ℕ). get_or l i 0) (sym (skipping_low c e b))

pub read_above : (l : List ℕ) (c e : ℕ) → c ≤ e → get_or l (e + 1) 0 ≡ get_or l (skipping c e) 0
read_above l c e b = ap (λ (i : ℕ). get_or l i 0) (add-one e ∙ sym (skipping_high c e b))

module _ (s : Survey) (sound : SurveySound s) (c : ℕ) (known : c < length s.firsts) where
  first_at : (e : ℕ) → get_or (left_out s c).firsts e 0 ≡ get_or s.firsts (skipping c e) 0
  first_at = omitted_at (length s.firsts) c s.firsts known refl

  second_at_law : (e : ℕ) → get_or (left_out s c).seconds e 0 ≡ get_or s.seconds (skipping c e) 0
  second_at_law = omitted_at (length s.firsts) c s.seconds known (sym sound.seconds_long)

  weight_at : (e : ℕ) → get_or (left_out s c).weights e 0 ≡ get_or s.weights (skipping c e) 0
  weight_at = omitted_at (length s.firsts) c s.weights known (sym sound.weights_long)

  -- The problem without the track.
  pub left_out_problem : problem_of (left_out s c) ≡ omitting (problem_of s) c
  unfolding problem_of vertex_count edge_count same_group
  left_out_problem i =
      record {
        vertices = length s.groups;
        edges = length_omitted (length s.firsts) c s.firsts i;
        first = λ e. first_at e i;
        second = λ e. second_at_law e i;
        weight = λ e. weight_at e i;
        usable = λ e. true;
        required = same_group s;
      }

  left_out_edge : (e : ℕ) → e < length s.firsts - 1 → EdgeSound (left_out s c) e
  left_out_edge e b =
      let old : EdgeSound s (skipping c e) = sound.edges (skipping c e) ((skipping_below c (length s.firsts) e known).0 b) in
      record {
        first_below_law = subst (λ x. x < length s.groups) (sym (first_at e)) old.first_below_law;
        second_below = subst (λ x. x < length s.groups) (sym (second_at_law e)) old.second_below;
        ends_differ = λ h. old.ends_differ (sym (first_at e) ∙ h ∙ second_at_law e);
        weight_le = subst (λ x. x ≤ max_weight) (sym (weight_at e)) old.weight_le;
      }

  pub left_out_sound : SurveySound (left_out s c)
  left_out_sound =
      let m = length s.firsts in
      let few = sound.edges_few in
      record {
        some = sound.some;
        few = sound.few;
        seconds_long = length_omitted m c s.firsts ∙ sym (length_omitted m c s.seconds);
        weights_long = length_omitted m c s.firsts ∙ sym (length_omitted m c s.weights);
        edges_few = subst (λ x. x ≤ max_edges) (sym (length_omitted m c s.firsts)) (omega arith);
        edges = λ e b. left_out_edge e (subst (λ x. e < x) (length_omitted m c s.firsts) b);
        pairs_long = sound.pairs_long;
        pairs = sound.pairs;
      }

  -- The same vertices are linked by the tracks that are left and by those that are open.
  left_out_linked : (u v : ℕ) →
      Linked (problem_of (left_out s c)).first (problem_of (left_out s c)).second (all_usable (problem_of (left_out s c))) u v
      ↔ Linked (problem_of s).first (problem_of s).second (all_usable (closing (problem_of s) c)) u v
  unfolding edge_count problem_of
  left_out_linked u v =
      subst (λ (q : Problem). Linked q.first q.second (all_usable q) u v ↔ Linked (problem_of s).first (problem_of s).second (all_usable (closing (problem_of s) c)) u v)
      (sym left_out_problem) (omitted_linked (problem_of s) c known_edge u v)
    where
      known_edge : c < (problem_of s).edges
      known_edge = known

  same_groups : (g : ℕ) → JoinsGroup (left_out s c) (all_usable (problem_of (left_out s c))) g ↔ JoinsGroup s (all_usable (closing (problem_of s) c)) g
  unfolding vertex_count member
  same_groups g = (
    λ h u v bu bv mu mv. (left_out_linked u v).0 (h u v bu bv mu mv),
    λ h u v bu bv mu mv. (left_out_linked u v).1 (h u v bu bv mu mv),
  )

  left_out_bounded : Bounded (problem_of (left_out s c)) (all_usable (problem_of (left_out s c)))
  left_out_bounded e h = (all_usable_edges (problem_of (left_out s c)) e h).0

  -- 8 of what is left is 8 judged without the track.
  pub left_out_refusal : figures_refusal (left_out s c) ≡ entry_refusal s c
  unfolding figures_refusal edge_count
  left_out_refusal =
      before_fine (survey_fine (left_out s c) left_out_sound) _
      ∙ same_finding (left_out s c) s 8 (all_usable (problem_of (left_out s c))) (all_usable (closing (problem_of s) c)) left_out_bounded (open_bounded s c) same_groups
      ∙ sym (known_entry s c known)

  left_out_cost : (plan_of (problem_of (left_out s c))).cost ≡ (plan_of (closing (problem_of s) c)).cost
  unfolding plan_of problem_of edge_count
  left_out_cost = ap (λ (q : Problem). (plan_of q).cost) left_out_problem ∙ (omitted_plan (problem_of s) c known).same_cost

  left_out_bound : (plan_of (problem_of (left_out s c))).bound ≡ (plan_of (closing (problem_of s) c)).bound
  unfolding plan_of problem_of edge_count
  left_out_bound = ap (λ (q : Problem). (plan_of q).bound) left_out_problem ∙ (omitted_plan (problem_of s) c known).same_bound

  closed_by : (v : Verdict) (f : FigureCounts) (g : ClosedCounts) → f.cost ≡ g.cost → f.bound ≡ g.bound → closed_of (outcome v f) ≡ outcome v g
  unfolding closed_of outcome
  closed_by Fine f g h k = λ i. answer (record { cost = h i; bound = k i })
  closed_by (Refused number place) f g h k = refl

  -- The figures of what is left are what is answered for the track.
  pub left_out_entry : closed_of (figuring (left_out s c)) ≡ closed_entry s c
  unfolding figuring closed_entry figure_counts_of closed_counts_of
  left_out_entry =
      closed_by (figures_refusal (left_out s c)) (figure_counts_of (plan_of (problem_of (left_out s c)))) (closed_counts_of (plan_of (closing (problem_of s) c))) left_out_cost left_out_bound
      ∙ ap (λ v. outcome v (closed_counts_of (plan_of (closing (problem_of s) c)))) left_out_refusal

-- The survey that is planned in place of the one with the track closed: its tracks are copied.
pub left_out_lent : (s : Survey) (c : ℕ) → SurveySound s → {firsts seconds weights : List ℕ}
    → firsts ≡ remade (λ e x. get_or s.firsts (skipping c e) 0) (length s.firsts - 1) (replicate max_edges 0)
    → seconds ≡ remade (λ e x. get_or s.seconds (skipping c e) 0) (length s.seconds - 1) (replicate max_edges 0)
    → weights ≡ remade (λ e x. get_or s.weights (skipping c e) 0) (length s.weights - 1) (replicate max_edges 0)
    → survey_with s.groups (take (length s.firsts - 1 - 0) firsts) (take (length s.firsts - 1 - 0) seconds) (take (length s.firsts - 1 - 0) weights)
    s.owners s.others
    ≡ left_out s c
left_out_lent s c sound {firsts} {seconds} {weights} a b d =
    let m = length s.firsts in
    let few = sound.edges_few in
    let second : seconds ≡ remade (λ e x. get_or s.seconds (skipping c e) 0) (m - 1) (replicate max_edges 0) = rw sound.seconds_long b in
    let weight : weights ≡ remade (λ e x. get_or s.weights (skipping c e) 0) (m - 1) (replicate max_edges 0) = rw sound.weights_long d in
    ap (λ (l : List ℕ). survey_with s.groups l (take (m - 1 - 0) seconds) (take (m - 1 - 0) weights) s.owners s.others) (omitted_part m c s.firsts few a)
    ∙ ap (λ (l : List ℕ). survey_with s.groups (omitted m c s.firsts) l (take (m - 1 - 0) weights) s.owners s.others) (omitted_part m c s.seconds few second)
    ∙ ap (λ (l : List ℕ). survey_with s.groups (omitted m c s.firsts) (omitted m c s.seconds) l s.owners s.others) (omitted_part m c s.weights few weight)

-- The same for the number that was asked for.
pub left_out_asked : (s : Survey) → SurveySound s → {c track : ℕ} → c ≡ track → c < length s.firsts → {o : Outcome ClosedCounts}
    → o ≡ closed_of (figuring (left_out s c)) → o ≡ closed_entry s track
left_out_asked s sound {c} same known o_is = o_is ∙ left_out_entry s sound c known ∙ ap (closed_entry s) same
