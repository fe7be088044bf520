-- Demand 1 for texts, proved of what the program `plan` prints: the text of every sound survey within the counts whose groups can be joined prints a plan, every other text its refusal.
use Prim.Native.Nat.{ℕ, suc, ◌+◌, ◌*◌, ◌≤◌, ◌<◌}
use native.Mathlib.Omega.{arith}
use Rattle.std.proofs.Math.Decide.{ℕ_discrete}
use Rattle.std.specs.Prelude.{◌≡◌, ◌⊎◌, true, ◌||◌, List, [], ◌∷◌, get_or, eqb, leb}
use Rattle.std.proofs.Math.Path.{refl, ap, sym, subst}
use Rattle.std.proofs.Common.{◌∙◌, inl, inr, ⊎_elim}
use Rattle.std.proofs.Math.ListN.{length, length-map}
use Rattle.std.proofs.Math.Dec.{ltb}
use borrow.Author.Tests.{eq-eqb, le-ltb, eqb-true, eqb-false, ltb-true, leb-true, leb-false}
use Rattle.base_finite.specs.Below.{tabulate}
use Rattle.base_finite.specs.Laws.Below.{get_d_tabulate, lt_or_ge}
use Rattle.base_finite.specs.Laws.Test.{or_cases, or_false_left, or_false_right}
use Rattle.base_limits.specs.Limits.{max_vertices, max_edges, max_pairs, max_weight, record_bytes, records_room, duals_for, group_numbers}
use Rattle.base_limits.specs.Verdict.{refuse_if, ◌before◌, lowest_below, Outcome, refusal, answer, outcome}
use Rattle.base_limits.specs.declared.Verdict.{Verdict}
use Rattle.base_limits.specs.declared.Verdict.TheVariants.{Fine, Refused}
use Rattle.base_limits.specs.Laws.Verdict.{before_fine, no_refusal, fine_refuse, refused_refuse, Lowest, lowest_elim}
use Rattle.format_read.specs.Language.{EachFrom, none_from, more_from}
use Rattle.format_write.specs.Text.{refusal_text}
use Rattle.format_print.specs.declared.Printed.TheVariants.{Length}
use Rattle.format_print.specs.Print.{print_refusal, answer_of}
use Rattle.format_also.specs.Pair.{Pair, owners_of, others_of}
use Rattle.format_also.specs.Laws.Render.{pairs_many}
use Rattle.format_survey.specs.Line.{Edge, EdgeDigits, firsts_of, seconds_of, weights_of, widest}
use Rattle.format_survey.specs.Reading.{SurveyText, survey_of, reading}
use Rattle.format_survey.specs.WellFormed.{WithinCounts, SurveyRoom, Accepting, survey_of_text}
use Rattle.format_survey.specs.Beginning.{BufferShort, Refusing, vertices_out, edges_over, buffer_short, high_group, pair_faulty}
use Rattle.format_survey.proofs.Laws.WellFormed.{accepted_render, malformed_begins, malformed_stops, malformed_is_none}
use Rattle.format_survey.proofs.Laws.Beginning.{refused_begins}
use Rattle.format_survey_print.specs.Print.{edge_with, edge_at, edges_from, edges_in, pairs_in, survey_of_lists, survey_text, survey_print_refusal, survey_printed}
use Rattle.format_survey_print.specs.Laws.Print.{edges_count}
use Rattle.format_survey_print.specs.Laws.Read.{printed_text, printed_read}
use Rattle.theory_steiner.specs.Problem.{Joins, all_usable}
use Rattle.survey_core.specs.Survey.{Survey, lists_of, vertex_count, edge_count, problem_of}
use Rattle.survey_core.specs.Pairs.{pairs_refusal}
use Rattle.survey_core.specs.Sound.{SurveySound, ByteGroups}
use Rattle.survey_core.specs.Refusal.{edge_refusal, survey_refusal, group_refusal}
use Rattle.survey_core.proofs.Laws.Pairs.{pairs_fine}
use Rattle.survey_core.proofs.Laws.Refusal.{fine_edge, survey_shaped, fine_survey}
use Rattle.survey_core.proofs.Laws.Group.{group_refused}
use Rattle.check_printed.specs.Verify.{survey_in}
use Rattle.check_printed.specs.Laws.Passes.{read_numbered}
use Rattle.plan_rule.specs.Plan.{plan_of, plan_refusal, planning}
use Rattle.plan_rule.specs.Promise.{Ready}
use Rattle.plan_rule.proofs.Laws.Number.{before_cases}
use Rattle.plan_rule.proofs.Laws.Ready.{fine_ready, ready_fine, all_bounded, buffers_fit}
use Rattle.text_plan.specs.Output.{survey_read, survey_plan, read_plan, text_plan, outcome_text, plan_output}
use Rattle.text_plan.specs.Laws.Output.{refused_output}
use Rattle.theorems.specs.Printed.{plan_for, printed_plan}
use Rattle.theorems.specs.Texts.{EdgeFault, end_out, ends_equal, price_over, LowestFault, TextPrints, planned, malformed, vertices_refused, edges_refused, group_over, pair_at_fault, faulty, unjoined, TextsPlanned}
use Rattle.theorems.proofs.Laws.Sound.{read_sound, sound_within}

-- ---- 4, 5 and 6

-- What a refused track is refused for.
edge_fault : (s : Survey) (e number place : ℕ) → edge_refusal s e ≡ Refused number place → EdgeFault s number e × (place ≡ e)
unfolding edge_refusal
edge_fault s e number place h = first_stage (before_cases _ _ h)
  where
    n : ℕ
    n = vertex_count s

    x : ℕ
    x = get_or s.firsts e 0

    y : ℕ
    y = get_or s.seconds e 0

    inside : refuse_if (leb n x || leb n y) 4 e ≡ Fine → (x < n) × (y < n)
    inside k =
        let f = fine_refuse (leb n x || leb n y) 4 e k in
        (leb-false n x (or_false_left (leb n x) (leb n y) f), leb-false n y (or_false_right (leb n x) (leb n y) f))

    out : (leb n x || leb n y) ≡ true → (n ≤ x) ⊎ (n ≤ y)
    out k = ⊎_elim (λ a. inl (leb-true n x a)) (λ b. inr (leb-true n y b)) (or_cases (leb n x) (leb n y) k)

    second_stage : refuse_if (leb n x || leb n y) 4 e ≡ Fine
        → (refuse_if (eqb x y) 5 e ≡ Refused number place) ⊎ ((refuse_if (eqb x y) 5 e ≡ Fine) × (refuse_if (ltb max_weight (get_or s.weights e 0)) 6 e ≡ Refused number place))
        → EdgeFault s number e × (place ≡ e)
    second_stage k (inl l) =
        let r = refused_refuse (eqb x y) 5 e number place l in
        let i = inside k in
        (ends_equal (sym r.1.0) i.0 i.1 (eqb-true x y r.0), sym r.1.1)
    second_stage k (inr l) =
        let r = refused_refuse (ltb max_weight (get_or s.weights e 0)) 6 e number place l.1 in
        let i = inside k in
        (price_over (sym r.1.0) i.0 i.1 (eqb-false x y (fine_refuse (eqb x y) 5 e l.0)) (ltb-true max_weight (get_or s.weights e 0) r.0), sym r.1.1)

    first_stage : (refuse_if (leb n x || leb n y) 4 e ≡ Refused number place)
        ⊎ ((refuse_if (leb n x || leb n y) 4 e ≡ Fine) × ((refuse_if (eqb x y) 5 e before refuse_if (ltb max_weight (get_or s.weights e 0)) 6 e) ≡ Refused number place))
        → EdgeFault s number e × (place ≡ e)
    first_stage (inl k) =
        let r = refused_refuse (leb n x || leb n y) 4 e number place k in
        (end_out (sym r.1.0) (out r.0), sym r.1.1)
    first_stage (inr k) = second_stage k.0 (before_cases _ _ k.1)

-- Of a survey that was read only a track can be refused: its counts, lengths and pairs are those of a text.
module _ (t : List ℕ) (s : SurveyText) (read : reading t widest ≡ answer s) where
  accepts : Accepting widest t s
  accepts = accepted_render widest t s read

  record Shaped (q : SurveyText) : Type 0 where
    some : 1 ≤ length q.groups
    few : length q.groups ≤ max_vertices
    seconds_long : length q.firsts ≡ length q.seconds
    weights_long : length q.firsts ≡ length q.weights
    pairs_long : length q.owners ≡ length q.others
    edges_few : length q.firsts ≤ max_edges

  -- What a text says has lists side by side of one length, within the counts.
  shaped_text : (groups : List ℕ) (pairs : List Pair) (edges : List Edge) → WithinCounts groups pairs edges → Shaped (survey_of_text groups pairs edges)
  unfolding survey_of_text survey_of firsts_of seconds_of weights_of owners_of others_of
  shaped_text groups pairs edges w =
      let some = w.some in
      let few = w.few_edges in
      let f = length-map edges (λ (e : Edge). e.first) in
      let g = length-map edges (λ (e : Edge). e.second) in
      let h = length-map edges (λ (e : Edge). e.weight) in
      let o = length-map pairs (λ (x : Pair). x.owner) in
      let u = length-map pairs (λ (x : Pair). x.other) in
      record {
        some = omega arith;
        few = w.few_groups;
        seconds_long = f ∙ sym g;
        weights_long = f ∙ sym h;
        pairs_long = o ∙ sym u;
        edges_few = omega (arith, f);
      }

  shaped : Shaped s
  shaped = subst (λ (q : SurveyText). Shaped q) (sym accepts.says) (shaped_text accepts.groups accepts.pairs accepts.edges accepts.within)

  abbrev q : Survey
  q = survey_in s

  -- So only 4, 5 and 6 can come, at the lowest track.
  read_fault : (number place : ℕ) → survey_refusal (survey_in s) ≡ Refused number place → LowestFault (survey_in s) number place
  unfolding edge_count
  read_fault number place h =
      by
      (before_cases _ _
      (sym (survey_shaped q shaped.some shaped.few shaped.seconds_long shaped.weights_long shaped.pairs_long shaped.edges_few) ∙ h))
    where
      by : (lowest_below (edge_count q) (edge_refusal q) ≡ Refused number place) ⊎ ((lowest_below (edge_count q) (edge_refusal q) ≡ Fine) × (pairs_refusal (lists_of q) ≡ Refused number place))
          → LowestFault (survey_in s) number place
      by (inl k) =
          let l : Lowest (edge_count q) (edge_refusal q) number place = lowest_elim (edge_count q) (edge_refusal q) number place k in
          let f = edge_fault q l.at number place l.found in
          subst (λ (e : ℕ). LowestFault (survey_in s) number e) (sym f.1)
          (record { below = l.below; fault = f.0; lower = λ i b. fine_edge q i (l.none_before i b) })
      by (inr k) = absurd (no_refusal k.1 (pairs_fine (lists_of q) (read_sound t widest s read)))

  -- What is printed, by planning's verdict, where there is room for every plan.
  output_of : (v : Verdict) → plan_refusal (survey_in s) max_edges records_room ≡ v → plan_output t ≡ outcome_text (outcome v (plan_of (problem_of (survey_in s))))
  unfolding plan_output text_plan survey_read read_plan survey_plan planning
  output_of v e = ap (λ o. outcome_text (read_plan o)) read ∙ ap (λ (w : Verdict). outcome_text (outcome w (plan_of (problem_of q)))) e

  fine_output : plan_refusal (survey_in s) max_edges records_room ≡ Fine → plan_output t ≡ printed_plan (plan_for s)
  unfolding outcome outcome_text
  fine_output e = output_of Fine e

  refused_text : (number place : ℕ) → plan_refusal (survey_in s) max_edges records_room ≡ Refused number place → plan_output t ≡ refusal_text number place
  unfolding outcome outcome_text
  refused_text number place e = output_of (Refused number place) e

  roomy : refuse_if (ltb max_edges (edge_count (survey_in s)) || ltb records_room (record_bytes * duals_for (vertex_count (survey_in s)))) 7 0 ≡ Fine
  unfolding vertex_count edge_count
  roomy = let few = shaped.few in buffers_fit (length s.groups) (length s.firsts) max_edges records_room shaped.edges_few (omega arith)

  read_prints : TextPrints t (plan_output t)
  unfolding plan_refusal
  read_prints = by (plan_refusal q max_edges records_room) refl
    where
      later : (number place : ℕ) → plan_refusal q max_edges records_room ≡ Refused number place → survey_refusal q ≡ Fine
          → (refuse_if (ltb max_edges (edge_count q) || ltb records_room (record_bytes * duals_for (vertex_count q))) 7 0 before group_refusal q 8 (all_usable (problem_of q))) ≡ Refused number place
          → TextPrints t (plan_output t)
      later number place e fine k =
          let l = group_refused q 8 (all_usable (problem_of q)) (all_bounded q) number place (sym (before_fine roomy _) ∙ k) in
          unjoined s accepts (fine_survey q fine) place l.1 (refused_text number place e ∙ ap (λ (n : ℕ). refusal_text n place) l.0)

      by : (v : Verdict) → plan_refusal q max_edges records_room ≡ v → TextPrints t (plan_output t)
      by Fine e =
          let r : Ready q max_edges records_room = fine_ready q (read_numbered t widest s read) max_edges records_room e in
          planned s accepts r.survey r.joinable (fine_output e)
      by (Refused number place) e =
          ⊎_elim
          (λ k. faulty s accepts number place (read_fault number place k) (refused_text number place e))
          (λ k. later number place e k.0 k.1)
          (before_cases (survey_refusal q) _ e)

-- ---- every text

-- With buffers of the limits' sizes 7 does not come of reading.
never_short : {t : List ℕ} → BufferShort widest t → ⊥
never_short (inl x) = let a = x.short in let b = x.most in omega arith
never_short (inr (inl x)) = by x.short
  where
    by : (max_edges < x.edges) ⊎ ((max_edges < x.edges) ⊎ (max_edges < x.edges)) → ⊥
    by (inl a) = let b = x.most in omega arith
    by (inr (inl a)) = let b = x.most in omega arith
    by (inr (inr a)) = let b = x.most in omega arith
never_short (inr (inr x)) = by x.short
  where
    by : (max_pairs ≤ x.number) ⊎ (max_pairs ≤ x.number) → ⊥
    by (inl a) = let b = x.line.few in omega arith
    by (inr a) = let b = x.line.few in omega arith

text_prints : (t : List ℕ) → TextPrints t (plan_output t)
unfolding survey_read
text_prints t = by (survey_read t) refl
  where
    begins : (n p : ℕ) → plan_output t ≡ refusal_text n p → Refusing widest t n p → TextPrints t (plan_output t)
    begins n p e (vertices_out i z x) = vertices_refused x (e ∙ rw (i, z))
    begins n p e (edges_over i z x) = edges_refused x (e ∙ rw (i, z))
    begins n p e (buffer_short i z x) = absurd (never_short x)
    begins n p e (high_group i x) = group_over p x (e ∙ rw i)
    begins n p e (pair_faulty i x) = pair_at_fault p x (e ∙ rw i)

    refused : (n p : ℕ) → survey_read t ≡ refusal n p → Dec (n ≡ 16) → TextPrints t (plan_output t)
    refused n p e (yes is) =
        let k : survey_read t ≡ refusal 16 p = e ∙ ap (λ (i : ℕ). refusal i p) is in
        malformed p (record { begins = malformed_begins widest t p k; stops = malformed_stops widest t p k; not_whole = malformed_is_none widest t p k })
        (sym (refused_output t k))
    refused n p e (no other) = begins n p (sym (refused_output t e)) (refused_begins widest t e other)

    by : (o : Outcome SurveyText) → survey_read t ≡ o → TextPrints t (plan_output t)
    by (refusal n p) e = refused n p e (ℕ_discrete n 16)
    by (answer s) e = read_prints t s e

-- ---- the text of a sound survey

-- Each of a list, by its places.
each_at : {A : Type 0} (P : A → Type 0) (d : A) (l : List A) (i : ℕ) → ((v : ℕ) → v < length l → P (get_or l v d)) → EachFrom (λ k. P) i l
each_at P d [] i h = none_from
each_at P d (a ∷ l) i h = more_from (h 0 (omega arith)) (each_at P d l (i + 1) (λ v b. h (suc v) (omega arith)))

module _ (q : SurveyText) (sound : SurveySound (survey_in q)) (numbered : ByteGroups (survey_in q)) where
  abbrev said : SurveyText
  said = survey_of_lists q.groups q.firsts q.seconds q.weights q.owners q.others

  digits : (e : ℕ) → e < length q.firsts → EdgeDigits (edge_at q.firsts q.seconds q.weights e)
  digits e b =
      let x = (sound.edges e b).first_below_law in
      let y = (sound.edges e b).second_below in
      let w = (sound.edges e b).weight_le in
      let few = sound.few in
      record { first = omega arith; second = omega arith; weight = omega arith }

  edges_many : length (edges_from q.firsts q.seconds q.weights) ≡ length q.firsts
  edges_many = edges_count q.firsts q.seconds q.weights

  each_edge_law : EachFrom (λ e. EdgeDigits) 0 (edges_from q.firsts q.seconds q.weights)
  unfolding edges_from
  each_edge_law =
      let none : Edge = edge_with 0 0 0 in
      let f : ℕ → Edge = edge_at q.firsts q.seconds q.weights in
      each_at EdgeDigits none (tabulate (length q.firsts) f) 0
      (λ v b. let c : v < length q.firsts = omega (arith, edges_many) in subst EdgeDigits (sym (get_d_tabulate (length q.firsts) f v none c)) (digits v c))

  pairs_within : length q.owners ≤ max_pairs
  pairs_within = ⊎_elim (λ less. let few = (sound.pairs max_pairs less).few in absurd (omega arith)) (λ le. le) (lt_or_ge max_pairs (length q.owners))

  within : WithinCounts q.groups (pairs_in q) (edges_in q)
  within =
      let some = sound.some in
      let few = sound.edges_few in
      sound_within q.groups q.owners q.others (edges_in q) (omega arith) sound.few (omega (arith, edges_many))
      (each_at (λ g. g < group_numbers) 0 q.groups 0 (λ v b. numbered.own_byte v)) each_edge_law sound.pairs_long pairs_within numbered.other_byte sound.pairs

  room : SurveyRoom widest q.groups (pairs_in q) (edges_in q)
  room =
      let few = sound.edges_few in
      let pairs = pairs_many q.owners q.others in
      let most = pairs_within in
      record {
        for_groups = sound.few;
        for_firsts = omega (arith, edges_many);
        for_seconds = omega (arith, edges_many);
        for_weights = omega (arith, edges_many);
        for_owners = omega arith;
        for_others = omega arith;
      }

  -- Printing it into a buffer as long as its text answers its length,
  prints : survey_printed said (survey_text said) ≡ Length (length (survey_text said))
  unfolding survey_printed survey_print_refusal print_refusal answer_of refuse_if ◌before◌
  prints =
      rw (
        eq-eqb (length q.firsts) (length q.seconds) sound.seconds_long,
        eq-eqb (length q.firsts) (length q.weights) sound.weights_long,
        eq-eqb (length q.owners) (length q.others) sound.pairs_long,
        le-ltb (length (survey_text said)) (length (survey_text said)) (omega arith),
      )

  -- and so its text is read as the survey.
  text_read : reading (survey_text said) widest ≡ answer said
  text_read =
      ap (λ (u : List ℕ). reading u widest)
      (sym (printed_text q.groups q.firsts q.seconds q.weights q.owners q.others (survey_text said) prints))
      ∙ printed_read q.groups q.firsts q.seconds q.weights q.owners q.others (survey_text said) prints widest within room

  marks_fit : edge_count (survey_in q) ≤ max_edges
  unfolding edge_count
  marks_fit = sound.edges_few

  records_fit : record_bytes * duals_for (vertex_count (survey_in q)) ≤ records_room
  unfolding vertex_count
  records_fit = let few = sound.few in omega arith

  sound_prints : Joins (problem_of (survey_in q)) (all_usable (problem_of (survey_in q))) → plan_output (survey_text q) ≡ printed_plan (plan_for q)
  unfolding survey_text
  sound_prints joins =
      fine_output (survey_text said) said text_read
      (ready_fine (survey_in q) numbered max_edges records_room (record { survey = sound; marks_fit = marks_fit; records_fit = records_fit; joinable = joins }))

-- Demand 1 for texts.
pub texts_planned : TextsPlanned
texts_planned = record { sound_planned = λ q sound numbered joins. sound_prints q sound numbered joins; every_text = text_prints }
