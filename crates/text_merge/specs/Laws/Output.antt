-- What `merge` prints, by the outcomes of reading and of merging.
use Rattle.std.specs.Prelude.{ℕ, ◌+◌, ◌-◌, ◌≤◌, ◌<◌, ◌^◌, ◌≡◌, Bool, true, false, cond, drop, replicate, ltb}
use Rattle.std.proofs.Common.{arith, ◌∙◌, length-drop, drop_of_length-le, take_all, eq-eqb, ne_eqb, ltb-true}
use Rattle.std.proofs.Math.Nat.{sub-zero}
use Rattle.std.proofs.Math.Path.{refl, ap, sym, subst}
use mathlib.Core.List.{List, [], map}
use Rattle.std.proofs.Math.ListN.{length, take, length-replicate, length-map}
use Rattle.std.proofs.Math.Seq.{sets, take_at}
use Rattle.base_buffer.specs.Part.{at_most}
use Rattle.base_limits.specs.Limits.{max_vertices, max_edges, max_pairs}
use Rattle.base_limits.specs.Verdict.{Outcome, refusal, answer}
use Rattle.base_limits.specs.Laws.Verdict.{answer_fine}
use Rattle.format_write.specs.Text.{refusal_text}
use Rattle.format_read.specs.Step.{Step, found, refused, ◌then◌}
use Rattle.format_read.specs.Lines.{Lines, whole}
use Rattle.format_print.specs.declared.Printed.{Printed}
use Rattle.format_print.specs.Print.{printed, printed_out}
use Rattle.format_also.specs.Pair.{Pair, pairs_counted, owners_of, others_of}
use Rattle.format_survey.specs.Line.{widest}
use Rattle.format_survey.specs.Reading.{SurveyText}
use Rattle.format_survey.proofs.Laws.LinesBody.{sets_filled}
use Rattle.format_survey_print.specs.Print.{survey_of_lists, survey_text, survey_printed, survey_printed_out}
use Rattle.format_survey_print.specs.Laws.Print.{whole_answer, whole_out}
use Rattle.survey_core.specs.Survey.{Survey, survey_with}
use Rattle.check_printed.specs.Verify.{prefix_at, survey_in}
use Rattle.merge_rule.specs.Ties.{Ties, ties_from}
use Rattle.merge_rule.specs.Merged.{merged}
use Rattle.merge_rule.specs.declared.Merged.{Merged}
use Rattle.merge_rule.specs.Refusal.{SurveyCounts, counts_of, head_of, room_of, merging, merged_outcome, merged_after}
use Rattle.merge_rule.specs.Promise.{MergePromises}
use Rattle.text_merge.specs.Ties.{max_ties, tie_lines}
use Rattle.text_merge.specs.Output.{reached, moved_place, widest_room, said_by, text_for, merged_text, ties_output, ties_from_text, second_output, second_from, first_output, merge_output, stored_printed, stored_out}
use Rattle.text_merge.specs.Front.{Said}
use Rattle.text_merge.specs.Laws.Ties.{ties_few}

-- Printed as one text, it is printed as an equal one.
pub printed_as : (out : List ℕ) {a b : List ℕ} {r : Printed} {new : List ℕ} → a ≡ b → (r ≡ printed a out) × (new ≡ printed_out a out)
    → (r ≡ printed b out) × (new ≡ printed_out b out)
printed_as out same p = (p.0 ∙ ap (λ (t : List ℕ). printed t out) same, p.1 ∙ ap (λ (t : List ℕ). printed_out t out) same)

-- ---- places

pub reach_most : (at next : ℕ) → at < 2 ^ 64 → 2 ^ 64 - 1 - at < next → 2 ^ 64 - 1 ≡ reached at next
unfolding reached
reach_most at next a h = omega arith

pub reach_sum : (at next : ℕ) → at < 2 ^ 64 → next ≤ 2 ^ 64 - 1 - at → at + next ≡ reached at next
unfolding reached
reach_sum at next a h = omega arith

pub moved_sixteen : (number place at : ℕ) {r : ℕ} → number ≡ 16 → r ≡ reached at place → r ≡ moved_place number place at
unfolding moved_place
moved_sixteen number place at h is = rw (eq-eqb number 16 h) is

pub moved_other : (number place at : ℕ) → (number ≡ 16 → ⊥) → place ≡ moved_place number place at
unfolding moved_place
moved_other number place at h = rw (ne_eqb number 16 h)

-- What stands from an offset on.
pub rest_is : (t : List ℕ) (at : ℕ) {start : ℕ} → start ≡ at_most at (length t) → take (length t - start) (drop start t) ≡ drop at t
unfolding at_most
rest_is t at {start} is =
    take_all (length t - start) (drop start t) (omega (arith, length-drop start t)) ∙ ap (λ (k : ℕ). drop k t) is ∙ by (ltb (length t) at) refl
  where
    by : (b : Bool) → ltb (length t) at ≡ b → drop (cond b (length t) at) t ≡ drop at t
    by true h =
        let past : length t < at = ltb-true (length t) at h in
        drop_of_length-le t {i = length t} (omega arith) ∙ sym (drop_of_length-le t {i = at} (omega arith))
    by false h = refl

-- ---- a result in buffers

-- Six buffers that hold every result, in which nothing stands.
abbrev pub empty_buffers : Survey
empty_buffers =
    survey_with (replicate max_vertices 0) (replicate max_edges 0) (replicate max_edges 0) (replicate max_edges 0) (replicate max_pairs 0) (replicate max_pairs 0)

room_is : room_of empty_buffers ≡ widest_room
unfolding room_of
room_is i =
    record {
      groups = length-replicate {A = ℕ} max_vertices 0 i;
      firsts = length-replicate {A = ℕ} max_edges 0 i;
      seconds = length-replicate {A = ℕ} max_edges 0 i;
      weights = length-replicate {A = ℕ} max_edges 0 i;
      owners = length-replicate {A = ℕ} max_pairs 0 i;
      others = length-replicate {A = ℕ} max_pairs 0 i;
    }

module _ (a b : Survey) (ties : Ties) (out : List ℕ) (m : Merged) {after : Survey} (answered : merged_outcome m ≡ merging a b ties (room_of empty_buffers))
    (stands : after ≡ merged_after a b ties empty_buffers) (promised : MergePromises a b ties empty_buffers m) where
  -- The survey at the head of the buffers is the result, of which the text is printed whole.
  head_printed : {r : Printed} {new : List ℕ} (c : SurveyCounts) → merged_outcome m ≡ answer c
      → (r ≡ survey_printed (said_by (head_of c after)) out) × (new ≡ survey_printed_out (said_by (head_of c after)) out)
      → (r ≡ printed (survey_text (said_by (merged a b ties))) out) × (new ≡ printed_out (survey_text (said_by (merged a b ties))) out)
  unfolding merging
  head_printed {r} {new} c e q =
      let promise = promised.finished c e in
      let sound = promise.sound in
      let counts : counts_of (merged a b ties) ≡ c = (answer_fine _ (counts_of (merged a b ties)) c (sym answered ∙ e)).1 in
      let head : head_of c after ≡ merged a b ties =
      ap (λ (k : SurveyCounts). head_of k after) (sym counts) ∙ ap (head_of (counts_of (merged a b ties))) stands ∙ promise.stands in
      let p = subst (λ (s : Survey). (r ≡ survey_printed (said_by s) out) × (new ≡ survey_printed_out (said_by s) out)) head q in (
        p.0 ∙ sym (whole_answer (said_by (merged a b ties)) out sound.seconds_long sound.weights_long sound.pairs_long),
        p.1 ∙ sym (whole_out (said_by (merged a b ties)) out sound.seconds_long sound.weights_long sound.pairs_long),
      )

  -- What is printed of the buffers is what the definition prints.
  pub merged_printed : {r : Printed} {new : List ℕ} → (r ≡ stored_printed (merged_outcome m) after out) × (new ≡ stored_out (merged_outcome m) after out)
      → (r ≡ printed (merged_text a b ties) out) × (new ≡ printed_out (merged_text a b ties) out)
  unfolding merged_text text_for stored_printed stored_out
  merged_printed {r} {new} p =
      let same : merging a b ties widest_room ≡ merged_outcome m = ap (merging a b ties) (sym room_is) ∙ sym answered in
      subst (λ (o : Outcome SurveyCounts). (r ≡ printed (text_for o (merged a b ties)) out) × (new ≡ printed_out (text_for o (merged a b ties)) out)) (sym same)
      (by (merged_outcome m) refl p)
    where
      by : (o : Outcome SurveyCounts) → merged_outcome m ≡ o → (r ≡ stored_printed o after out) × (new ≡ stored_out o after out)
          → (r ≡ printed (text_for o (merged a b ties)) out) × (new ≡ printed_out (text_for o (merged a b ties)) out)
      by (refusal number place) e q = q
      by (answer c) e q = head_printed c e q

-- Each arm of `print_merged`.
module _ (s : Survey) (out : List ℕ) {r : Printed} {new : List ℕ} where
  pub refused_printed : (m : Merged) {number place : ℕ} → merged_outcome m ≡ refusal number place
      → (r ≡ printed (refusal_text number place) out) × (new ≡ printed_out (refusal_text number place) out)
      → (r ≡ stored_printed (merged_outcome m) s out) × (new ≡ stored_out (merged_outcome m) s out)
  unfolding stored_printed stored_out
  refused_printed m e p = subst (λ (o : Outcome SurveyCounts). (r ≡ stored_printed o s out) × (new ≡ stored_out o s out)) (sym e) p

  pub survey_printed_law : (m : Merged) (c : SurveyCounts) {gs fs ss ws os xs : List ℕ} → merged_outcome m ≡ answer c
      → gs ≡ take c.vertices s.groups → fs ≡ take c.edges s.firsts → ss ≡ take c.edges s.seconds → ws ≡ take c.edges s.weights
      → os ≡ take c.pairs s.owners → xs ≡ take c.pairs s.others
      → (r ≡ survey_printed (survey_of_lists gs fs ss ws os xs) out) × (new ≡ survey_printed_out (survey_of_lists gs fs ss ws os xs) out)
      → (r ≡ stored_printed (merged_outcome m) s out) × (new ≡ stored_out (merged_outcome m) s out)
  unfolding stored_printed stored_out head_of
  survey_printed_law m c {gs} {fs} {ss} {ws} {os} {xs} e g f d w o x p =
      let same : survey_of_lists gs fs ss ws os xs ≡ said_by (head_of c s) = λ i. survey_of_lists (g i) (f i) (d i) (w i) (o i) (x i) in
      subst (λ (k : Outcome SurveyCounts). (r ≡ stored_printed k s out) × (new ≡ stored_out k s out)) (sym e)
      (subst (λ (q : SurveyText). (r ≡ survey_printed q out) × (new ≡ survey_printed_out q out)) same p)

-- ---- the ties

whole_counted : {n p : ℕ} (l : Lines ℕ Pair) → pairs_counted l ≡ found n p → (whole l ≡ found l.values p) × (n ≡ length l.values)
unfolding pairs_counted whole ◌then◌
whole_counted {n} {p} l h = by l.end h
  where
    by : (e : Step ℕ) → (e then λ low q. found (length l.values) q) ≡ found n p → ((e then λ z q. found l.values q) ≡ found l.values p) × (n ≡ length l.values)
    by (found low q) k = let same : q ≡ p = cc in let count : length l.values ≡ n = cc in (ap (λ (x : ℕ). found l.values x) same, sym count)
    by (refused x y) k = let z : ◌≡◌ {A = ℕ} 0 1 = cc in absurd (omega arith)

whole_refused : {n p : ℕ} (l : Lines ℕ Pair) → pairs_counted l ≡ refused n p → whole l ≡ refused n p
unfolding pairs_counted whole ◌then◌
whole_refused {n} {p} l h = by l.end h
  where
    by : (e : Step ℕ) → (e then λ low q. found (length l.values) q) ≡ refused n p → (e then λ z q. found l.values q) ≡ refused n p
    by (found low q) k = let z : ◌≡◌ {A = ℕ} 0 1 = cc in absurd (omega arith)
    by (refused x y) k = let a : x ≡ n = cc in let b : y ≡ p = cc in λ i. refused (a i) (b i)

module _ (a b : Survey) (t : List ℕ) (at : ℕ) {rest : List ℕ} (rest_are : rest ≡ drop at t) {step : Step ℕ} (step_is : step ≡ pairs_counted (tie_lines rest)) where
  pub ties_refused : {number place moved : ℕ} → step ≡ refused number place → moved ≡ moved_place number place at → refusal_text number moved ≡ ties_from_text a b t at
  unfolding ties_from_text ties_output
  ties_refused {number} {place} e moved_is =
      ap (refusal_text number) moved_is
      ∙ sym (ap (ties_output a b at) (ap (λ (l : List ℕ). whole (tie_lines l)) (sym rest_are) ∙ whole_refused (tie_lines rest) (sym step_is ∙ e)))

  module _ {n p : ℕ} (e : step ≡ found n p) where
    counted : (whole (tie_lines rest) ≡ found (tie_lines rest).values p) × (n ≡ length (tie_lines rest).values)
    counted = whole_counted (tie_lines rest) (sym step_is ∙ e)

    pub count_few : n ≤ max_ties
    count_few = let c = counted.1 in let few = ties_few rest in omega arith

    -- The ties in two buffers.
    pub ties_printed : {firsts seconds : List ℕ} → firsts ≡ sets (replicate max_vertices 0) 0 (owners_of (tie_lines rest).values)
        → seconds ≡ sets (replicate max_vertices 0) 0 (others_of (tie_lines rest).values)
        → merged_text a b (ties_from (take (n - 0) firsts) (take (n - 0) seconds)) ≡ ties_from_text a b t at
    unfolding ties_from_text ties_output owners_of others_of
    ties_printed {firsts} {seconds} f_is s_is =
        ap (λ (l : List ℕ). merged_text a b (ties_from l (take (n - 0) seconds))) (stored firsts (λ x. x.owner) f_is)
        ∙ ap (λ (l : List ℕ). merged_text a b (ties_from (owners_of (tie_lines rest).values) l)) (stored seconds (λ x. x.other) s_is)
        ∙ sym (ap (ties_output a b at) (ap (λ (l : List ℕ). whole (tie_lines l)) (sym rest_are) ∙ counted.0))
      where
        stored : (l : List ℕ) (f : Pair → ℕ) → l ≡ sets (replicate max_vertices 0) 0 (map f (tie_lines rest).values) → take (n - 0) l ≡ map f (tie_lines rest).values
        stored l f is =
            let values = map f (tie_lines rest).values in
            let long : length values ≡ n = length-map (tie_lines rest).values f ∙ sym counted.1 in
            let few = count_few in
            let fits : length values ≤ length (replicate {A = ℕ} max_vertices 0) = omega (arith, long, few, length-replicate {A = ℕ} max_vertices 0) in
            ap (λ (k : ℕ). take k l) (sub-zero n)
            ∙ ap (take n) (is ∙ sets_filled values (replicate max_vertices 0) fits)
            ∙ take_at values (drop (length values) (replicate max_vertices 0)) n long

-- ---- the surveys

module _ (a : Survey) (t : List ℕ) (at : ℕ) {rest : List ℕ} (rest_are : rest ≡ drop at t) where
  pub second_refused : {number place moved : ℕ} → prefix_at widest rest ≡ refused number place → moved ≡ moved_place number place at
      → refusal_text number moved ≡ second_from a t at
  unfolding second_from second_output
  second_refused {number} e moved_is =
      ap (refusal_text number) moved_is ∙ sym (ap (second_output a t at) (ap (prefix_at widest) (sym rest_are) ∙ e))

  pub second_read : {n m k next sum : ℕ} {groups firsts seconds weights owners others : List ℕ} (s : Said rest n m k next groups firsts seconds weights owners others)
      → sum ≡ reached at next
      → ties_from_text a (survey_with (take (n - 0) groups) (take (m - 0) firsts) (take (m - 0) seconds) (take (m - 0) weights) (take (k - 0) owners) (take (k - 0) others)) t sum ≡ second_from a t at
  unfolding second_from second_output
  second_read {sum = sum} s sum_is_lem =
      ap (λ (b : Survey). ties_from_text a b t sum) s.parts
      ∙ ap (λ (q : ℕ). ties_from_text a (survey_in s.said) t q) sum_is_lem
      ∙ sym (ap (second_output a t at) (ap (prefix_at widest) (sym rest_are) ∙ s.read))

module _ (t : List ℕ) where
  pub first_refused : {number place : ℕ} → prefix_at widest t ≡ refused number place → refusal_text number place ≡ merge_output t
  unfolding merge_output first_output
  first_refused e = sym (ap (first_output t) e)

  pub first_read : {n m k next : ℕ} {groups firsts seconds weights owners others : List ℕ} (s : Said t n m k next groups firsts seconds weights owners others)
      → second_from (survey_with (take (n - 0) groups) (take (m - 0) firsts) (take (m - 0) seconds) (take (m - 0) weights) (take (k - 0) owners) (take (k - 0) others)) t next ≡ merge_output t
  unfolding merge_output first_output
  first_read {next = next} s = ap (λ (a : Survey). second_from a t next) s.parts ∙ sym (ap (first_output t) s.read)
