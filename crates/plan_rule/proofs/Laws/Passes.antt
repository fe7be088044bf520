-- Every finished plan passes the checker, with the same k, cost and bound (document 01, 'What a plan holds'), and so obeys the accuracy rule.
use Rattle.std.specs.Prelude.{ℕ, zero, suc, ◌+◌, ◌*◌, ◌/◌, ◌%◌, ◌≤◌, ◌<◌, ◌≡◌, Bool, [], List, ◌∷◌, length, get_or}
use Rattle.std.proofs.Math.Path.{refl, ap, ap₂, sym, subst}
use Rattle.std.proofs.Common.{◌∙◌, lt_of_le_of_lt, lt_of_lt_of_le, arith, lit<}
use Rattle.std.proofs.Math.Logic.{⊎_elim}
use Rattle.std.proofs.Math.Bool.{true, false}
use Rattle.std.proofs.lemmas.Bool.{false≢true}
use Rattle.std.proofs.Math.Nat.{mul-div_cancel_left, mul-mod_right}
use Rattle.std.proofs.Math.ListN.{get_or-eq_default}
use Rattle.std.proofs.Math.Dec.{eqb, lit≤}
use Rattle.base_finite.specs.Below.{counted, sum_below, tabulate}
use Rattle.base_finite.specs.Laws.Test.{not_true_false}
use Rattle.base_finite.specs.Laws.Below.{sum_cong, lt_or_ge, length_tabulate, get_d_tabulate}
use Rattle.theory_graph.specs.Path.{crosses}
use Rattle.theory_graph.proofs.Laws.Linked.{linked_mono, crosses_cong}
use Rattle.base_limits.specs.Limits.{max_weight, max_value, member_bytes, record_bytes, max_duals}
use Rattle.base_limits.specs.Verdict.{answer, outcome}
use Rattle.format_record.specs.Record.{value_in, member_in}
use Rattle.format_record.proofs.Laws.Record.{value_of_record, member_of_record}
use Rattle.theory_steiner.specs.Problem.{Problem, Sound, Joins, separates, terminals, cost, all_usable}
use Rattle.theory_steiner.specs.Growth.{numbers, grown}
use Rattle.theory_steiner.specs.Dual.{Dual, weigh, total, dual_load, EachDual, none, more, duals_of as grown_duals}
use Rattle.theory_steiner.specs.Pruning.{picked, kept, mark_of, mark, dual_bound}
use Rattle.theory_steiner.proofs.Laws.Joined.{separates_cong}
use Rattle.theory_steiner.proofs.Laws.Partition.{members_below}
use Rattle.theory_steiner.proofs.Laws.Weighed.{Local, value_fresh}
use Rattle.theory_steiner.proofs.Laws.Rounds.{grown_reached}
use Rattle.theory_steiner.proofs.Laws.Finish.{kept_joins, kept_picked, kept_edges}
use Rattle.theory_steiner.proofs.Laws.Dual.{weigh_tabulate, each_dual, value_separates, value_fits, duals_count, total_duals}
use Rattle.theory_steiner.proofs.Laws.Accuracy.{kept_accurate, no_terminal_free, grown_feasible}
use Rattle.survey_core.specs.Survey.{Survey, vertex_count, edge_count, problem_of}
use Rattle.survey_core.specs.Accuracy.{Accurate, DualBound}
use Rattle.survey_core.specs.Sound.{SurveySound, ByteGroups}
use Rattle.survey_core.proofs.Laws.Refusal.{survey_sound}
use Rattle.check_rule.specs.Check.{dual_at, duals_in, kept_by, checked_of, checking}
use Rattle.check_rule.specs.Passing.{DualSound, Passing}
use Rattle.check_rule.proofs.Laws.Meaning.{passing_check}
use Rattle.check_rule.proofs.Laws.Accuracy.{passing_accurate, passing_bound}
use Rattle.plan_draw.specs.Drawing.{records_of}
use Rattle.plan_draw.proofs.Laws.Drawing.{nothing, length_records, record_at_law}
use Rattle.plan_rule.specs.Plan.{plan_of}

-- ---- duals by their place in a list

sum_front : (n : ℕ) (f : ℕ → ℕ) → sum_below (suc n) f ≡ f 0 + sum_below n (λ i. f (suc i))
unfolding sum_below
sum_front zero f = omega arith
sum_front (suc n) f = omega (arith, sum_front n f)

weigh_at : (ds : List Dual) (t : (ℕ → Bool) → Bool) →
    weigh ds t ≡ sum_below (length ds) (λ i. counted (t (get_or ds i nothing).holds) (get_or ds i nothing).value)
unfolding weigh sum_below
weigh_at [] t = refl
weigh_at (d ∷ ds) t =
    ap (λ x. counted (t d.holds) d.value + x) (weigh_at ds t)
    ∙ sym (sum_front (length ds) (λ i. counted (t (get_or (d ∷ ds) i nothing).holds) (get_or (d ∷ ds) i nothing).value))

each_at : {P : Dual → Type 0} {ds : List Dual} → EachDual P ds → (i : ℕ) → i < length ds → P (get_or ds i nothing)
each_at none i b = absurd (omega arith)
each_at (more h hs) zero b = h
each_at (more h hs) (suc i) b = each_at hs i (omega arith)

-- ---- the duals that the checker reads

-- What every dual of a finished plan is.
record Grown (p : Problem) (n : ℕ) (d : Dual) : Type 0 where
  positive : 0 < d.value
  small : d.value ≤ max_value
  separating : separates p d.holds ≡ true
  vertices_only : (v : ℕ) → d.holds v ≡ true → v < n

module _ (s : Survey) (sound : SurveySound s) (joinable : Joins (problem_of s) (all_usable (problem_of s))) where
  ok : Sound (problem_of s)
  ok = survey_sound s sound

  some : 0 < (problem_of s).vertices
  unfolding problem_of vertex_count
  some = sound.some

  ds : List Dual
  ds = grown_duals (problem_of s) (grown (problem_of s))

  light : (e : ℕ) → e < (problem_of s).edges → (problem_of s).weight e ≤ max_weight
  unfolding problem_of edge_count
  light e b = (sound.edges e b).weight_le

  each_grown : EachDual (Grown (problem_of s) (problem_of s).vertices) (grown_duals (problem_of s) (grown (problem_of s)))
  each_grown =
      each_dual (problem_of s) (grown (problem_of s))
      (λ c pos.
      record {
        positive = pos;
        small = omega (arith, value_fits (problem_of s) ok joinable (grown_reached (problem_of s)) max_weight light c pos);
        separating = value_separates (problem_of s) ok (grown_reached (problem_of s)) c pos;
        vertices_only = λ v k.
            members_below (problem_of s) ok (grown_reached (problem_of s)) c v
            (⊎_elim (λ l. l) (λ g. absurd (omega (arith, value_fresh (problem_of s) (grown_reached (problem_of s)) c g))) (lt_or_ge c (numbers (problem_of s) (grown (problem_of s))))) k;
      })

  few : length ds ≤ max_duals
  unfolding problem_of vertex_count ds
  few = omega (arith, duals_count (problem_of s) ok some (grown_reached (problem_of s)), sound.few)

  bytes : List ℕ
  bytes = records_of (grown_duals (problem_of s) (grown (problem_of s)))

  -- as many records as duals
  records_count : length bytes / record_bytes ≡ length ds
  unfolding ds bytes
  records_count =
      ap (λ x. x / record_bytes) (length_records (grown_duals (problem_of s) (grown (problem_of s))))
      ∙ mul-div_cancel_left (length (grown_duals (problem_of s) (grown (problem_of s)))) (lit< tt)

  records_multiple : length bytes % record_bytes ≡ 0
  unfolding bytes
  records_multiple =
      ap (λ x. x % record_bytes) (length_records (grown_duals (problem_of s) (grown (problem_of s))))
      ∙ mul-mod_right record_bytes (length (grown_duals (problem_of s) (grown (problem_of s))))

  vertices_few : (problem_of s).vertices ≤ 8 * member_bytes
  unfolding problem_of vertex_count
  vertices_few = sound.few

  module _ (i : ℕ) (b : i < length ds) where
    drawn : Grown (problem_of s) (problem_of s).vertices (get_or ds i nothing)
    unfolding ds
    drawn = each_at each_grown i b

    value_read : (dual_at bytes i).value ≡ (get_or ds i nothing).value
    unfolding dual_at ds bytes
    value_read =
        ap value_in (record_at_law (grown_duals (problem_of s) (grown (problem_of s))) i b)
        ∙ value_of_record (get_or ds i nothing).value (get_or ds i nothing).holds (lt_of_le_of_lt drawn.small (lit< tt))

    holds_read : (v : ℕ) → v < 8 * member_bytes → (dual_at bytes i).holds v ≡ (get_or ds i nothing).holds v
    unfolding dual_at ds bytes
    holds_read v bv =
        ap (λ r. member_in r v) (record_at_law (grown_duals (problem_of s) (grown (problem_of s))) i b)
        ∙ member_of_record (get_or ds i nothing).value (get_or ds i nothing).holds v bv

    sound_read : DualSound s (dual_at bytes i)
    unfolding problem_of
    sound_read =
        record {
          positive = subst (λ x. 0 < x) (sym value_read) drawn.positive;
          small = subst (λ x. x ≤ max_value) (sym value_read) drawn.small;
          vertices_only = λ v bv k. drawn.vertices_only v (sym (holds_read v bv) ∙ k);
        }

    separating_read : separates (problem_of s) (dual_at bytes i).holds ≡ true
    separating_read =
        separates_cong (problem_of s) (dual_at bytes i).holds (get_or ds i nothing).holds (λ v bv. holds_read v (lt_of_lt_of_le bv vertices_few)) ∙ drawn.separating

  -- what is read weighs what was drawn
  weigh_read : (t : (ℕ → Bool) → Bool) → Local (problem_of s) t → weigh (duals_in bytes) t ≡ weigh ds t
  unfolding duals_in
  weigh_read t local =
      weigh_tabulate (length bytes / record_bytes) (dual_at bytes) t
      ∙ ap (λ n. sum_below n (λ i. counted (t (dual_at bytes i).holds) (dual_at bytes i).value)) records_count
      ∙ sum_cong (length ds) _ (λ i. counted (t (get_or ds i nothing).holds) (get_or ds i nothing).value)
      (λ i b.
      ap₂ counted (local (dual_at bytes i).holds (get_or ds i nothing).holds (λ v bv. holds_read i b v (lt_of_lt_of_le bv vertices_few))) (value_read i b))
      ∙ sym (weigh_at ds t)

  load_read : (e : ℕ) → e < (problem_of s).edges → dual_load (problem_of s) (duals_in bytes) e ≡ dual_load (problem_of s) ds e
  unfolding dual_load
  load_read e b =
      weigh_read (λ S. crosses (problem_of s).first (problem_of s).second S e)
      (λ S R k.
      crosses_cong (problem_of s).first (problem_of s).second S R e (k ((problem_of s).first e) (ok.first_below_law e b)) (k ((problem_of s).second e) (ok.second_below e b)))

  total_read : total (duals_in bytes) ≡ dual_bound (problem_of s) (grown (problem_of s))
  unfolding total ds
  total_read = weigh_read (λ S. true) (λ S R k. refl) ∙ total_duals (problem_of s) (grown (problem_of s))

  -- ---- marks

  marks : List ℕ
  marks = tabulate (problem_of s).edges (mark (problem_of s))

  mark_kept : (a b : Bool) → (b ≡ true → a ≡ true) → eqb (mark_of a b) 2 ≡ b
  unfolding mark_of
  mark_kept true true h = refl
  mark_kept true false h = refl
  mark_kept false false h = refl
  mark_kept false true h = absurd (false≢true (h refl))

  mark_le : (a b : Bool) → mark_of a b ≤ 2
  unfolding mark_of
  mark_le true true = lit≤ tt
  mark_le true false = lit≤ tt
  mark_le false b = lit≤ tt

  kept_of_marks : (e : ℕ) → kept_by marks e ≡ kept (problem_of s) e
  unfolding kept_by marks mark
  kept_of_marks e =
      ⊎_elim
      (λ b.
      ap (λ x. eqb x 2) (get_d_tabulate (problem_of s).edges (mark (problem_of s)) e 0 b)
      ∙ mark_kept (picked (problem_of s) e) (kept (problem_of s) e) (kept_picked (problem_of s) ok some joinable e))
      (λ g.
      ap (λ x. eqb x 2)
      (get_or-eq_default (tabulate (problem_of s).edges (mark (problem_of s))) 0 (subst (λ x. x ≤ e) (sym (length_tabulate (problem_of s).edges (mark (problem_of s)))) g))
      ∙ sym (not_true_false (kept (problem_of s) e) (λ k. let l = (kept_edges (problem_of s) ok some joinable e k).0 in omega arith)))
      (lt_or_ge e (problem_of s).edges)

  cost_of_marks : cost (problem_of s) (kept_by marks) ≡ cost (problem_of s) (kept (problem_of s))
  unfolding cost
  cost_of_marks = sum_cong (problem_of s).edges _ _ (λ e b. ap (λ t. counted t ((problem_of s).weight e)) (kept_of_marks e))

  -- The plan's own marks keep what the plan keeps,
  pub marks_kept : (e : ℕ) → kept_by (plan_of (problem_of s)).marks e ≡ kept (problem_of s) e
  unfolding plan_of marks
  marks_kept e = kept_of_marks e

  -- and cost what the plan costs.
  pub marks_cost : cost (problem_of s) (kept_by (plan_of (problem_of s)).marks) ≡ (plan_of (problem_of s)).cost
  unfolding plan_of marks
  marks_cost = cost_of_marks

  -- ---- the checker passes

  pub finished_passing : Passing s (plan_of (problem_of s)).marks (records_of (plan_of (problem_of s)).duals)
  unfolding plan_of problem_of marks bytes mark ds
  finished_passing =
      record {
        survey = sound;
        marks_long = length_tabulate (problem_of s).edges (mark (problem_of s));
        records_whole = records_multiple;
        records_few = subst (λ x. x ≤ max_duals) (sym records_count) few;
        marks_known = λ e b.
            subst (λ x. x ≤ 2) (sym (get_d_tabulate (problem_of s).edges (mark (problem_of s)) e 0 b)) (mark_le (picked (problem_of s) e) (kept (problem_of s) e));
        duals_sound = λ i b. sound_read i (subst (λ x. i < x) records_count b);
        duals_separate = λ i b. separating_read i (subst (λ x. i < x) records_count b);
        not_overtight = λ e b. subst (λ x. x ≤ 2 * (problem_of s).weight e) (sym (load_read e b)) (grown_feasible (problem_of s) ok some joinable e b refl);
        kept_joins = λ u v bu bv r. linked_mono (λ e k. kept_of_marks e ∙ k) (kept_joins (problem_of s) ok some joinable u v bu bv r);
        none_free = λ z. cost_of_marks ∙ no_terminal_free (problem_of s) ok some joinable z;
        rule = rw (cost_of_marks, total_read) (kept_accurate (problem_of s) ok some joinable);
      }

  -- The checker on the plan's own marks and records gives the plan's own figures.
  pub finished_passes : ByteGroups s →
      checking s (plan_of (problem_of s)).marks (records_of (plan_of (problem_of s)).duals)
      ≡ answer (record { terminals = (plan_of (problem_of s)).terminals; cost = (plan_of (problem_of s)).cost; bound = (plan_of (problem_of s)).bound })
  unfolding checking checked_of outcome plan_of marks bytes
  finished_passes numbered =
      ap (λ v. outcome v (checked_of s marks bytes)) (passing_check s numbered marks bytes finished_passing)
      ∙ ap₂ (λ c b. answer (record { terminals = terminals (problem_of s); cost = c; bound = b })) cost_of_marks total_read

  -- The plan's own figures obey the accuracy rule.
  pub finished_accurate : Accurate s (plan_of (problem_of s)).terminals (plan_of (problem_of s)).cost
  unfolding plan_of marks bytes
  finished_accurate = subst (Accurate s (terminals (problem_of s))) cost_of_marks (passing_accurate s marks bytes finished_passing)

  -- And no joining set costs less than half its bound.
  pub finished_bound : DualBound s (plan_of (problem_of s)).bound
  unfolding plan_of marks bytes
  finished_bound = subst (DualBound s) total_read (passing_bound s marks bytes finished_passing)
