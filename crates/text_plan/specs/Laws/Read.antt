-- Laws of reading into buffers of the limits' sizes: what the filled parts of the buffers are is the survey that the text says. What `plan` and `why` print follows from them.
use Rattle.std.specs.Prelude.{ℕ, ◌-◌, ◌≤◌, ◌≡◌, refl, List, length, take, drop, replicate}
use Rattle.std.proofs.Common.{arith, ap, sym, ◌∙◌, subst, take_at}
use Rattle.std.proofs.Math.Nat.{sub-zero}
use Rattle.std.proofs.lemmas.List.{length-map, length-replicate}
use Rattle.base_limits.specs.Limits.{max_vertices, max_edges, max_pairs}
use Rattle.base_limits.specs.Verdict.{Outcome, refusal, answer}
use Rattle.format_also.specs.Pair.{owners_of, others_of}
use Rattle.format_also.specs.Laws.Passing.{pairs_few}
use Rattle.format_survey.specs.Line.{Lengths, lengths_of, widest, firsts_of, seconds_of, weights_of}
use Rattle.format_survey.specs.Reading.{SurveyText, reading, filled, survey_of}
use Rattle.format_survey.specs.Answer.{TextCounts, counts_of}
use Rattle.format_survey.specs.WellFormed.{survey_of_text}
use Rattle.format_survey.proofs.Laws.WellFormed.{accepted_render}
use Rattle.survey_core.specs.Survey.{Survey, survey_with}
use Rattle.text_plan.specs.Output.{survey_read}

-- Buffers of the limits' sizes to read a survey into, as of zeros.
abbrev pub zero_lengths : Lengths
zero_lengths = lengths_of (replicate max_vertices 0) (replicate max_edges 0) (replicate max_edges 0) (replicate max_edges 0) (replicate max_pairs 0) (replicate max_pairs 0)

pub survey_buffers : zero_lengths ≡ widest
survey_buffers i =
    record {
      groups = length-replicate {A = ℕ} max_vertices 0 i;
      firsts = length-replicate {A = ℕ} max_edges 0 i;
      seconds = length-replicate {A = ℕ} max_edges 0 i;
      weights = length-replicate {A = ℕ} max_edges 0 i;
      owners = length-replicate {A = ℕ} max_pairs 0 i;
      others = length-replicate {A = ℕ} max_pairs 0 i;
    }

pub reading_whole : (t : List ℕ) {lent : Lengths} → lent ≡ widest → reading t lent ≡ survey_read t
unfolding survey_read
reading_whole t b = ap (reading t) b

counts_refused : (o : Outcome SurveyText) {n p : ℕ} → counts_of o ≡ refusal n p → o ≡ refusal n p
unfolding counts_of
counts_refused (refusal x y) e = cc
counts_refused (answer s) e = let z : ◌≡◌ {A = ℕ} 0 1 = cc in absurd (omega arith)

-- What was read, by its counts: n, m and the number of pairs.
record ReadOf (o : Outcome SurveyText) (n m k : ℕ) : Type 0 where
  survey : SurveyText
  is : o ≡ answer survey
  vertices : survey.vertices ≡ n
  edges : survey.edges ≡ m
  pairs : length survey.owners ≡ k

counts_read_law : (o : Outcome SurveyText) {n m k : ℕ} → counts_of o ≡ answer (record { vertices = n; edges = m; pairs = k }) → ReadOf o n m k
unfolding counts_of
counts_read_law (refusal x y) e = let z : ◌≡◌ {A = ℕ} 0 1 = cc in absurd (omega arith)
counts_read_law (answer s) {n} {m} {k} e =
    let same : ◌≡◌ {A = TextCounts} (record { vertices = s.vertices; edges = s.edges; pairs = length s.owners }) (record { vertices = n; edges = m; pairs = k }) = cc e in
    record {
      survey = s;
      is = refl;
      vertices = ap (λ (c : TextCounts). c.vertices) same;
      edges = ap (λ (c : TextCounts). c.edges) same;
      pairs = ap (λ (c : TextCounts). c.pairs) same;
    }

-- How long the lists are that a text says.
record Sizes (s : SurveyText) : Type 0 where
  groups : length s.groups ≡ s.vertices
  firsts : length s.firsts ≡ s.edges
  seconds : length s.seconds ≡ s.edges
  weights : length s.weights ≡ s.edges
  others : length s.others ≡ length s.owners
  few : s.vertices ≤ max_vertices
  some : s.edges ≤ max_edges
  paired : length s.owners ≤ max_pairs

read_sizes : (t : List ℕ) (lent : Lengths) (s : SurveyText) → reading t lent ≡ answer s → Sizes s
unfolding survey_of_text survey_of firsts_of seconds_of weights_of owners_of others_of
read_sizes t lent s e =
    let a = accepted_render lent t s e in
    let owned = length-map a.pairs (λ x. x.owner) in
    let few = pairs_few a.within.each_pair (omega arith) in
    subst Sizes (sym a.says)
    (record {
      groups = refl;
      firsts = length-map a.edges (λ x. x.first);
      seconds = length-map a.edges (λ x. x.second);
      weights = length-map a.edges (λ x. x.weight);
      others = length-map a.pairs (λ x. x.other) ∙ sym owned;
      few = a.within.few_groups;
      some = a.within.few_edges;
      paired = omega (arith, owned, few);
    })

-- What the first n of a filled buffer are.
part_read : {o : Outcome SurveyText} {s : SurveyText} (values : SurveyText → List ℕ) (old : List ℕ) (n : ℕ) {new : List ℕ} → o ≡ answer s → length (values s) ≡ n → new ≡ filled o values old
    → take (n - 0) new ≡ values s
unfolding filled
part_read {s = s} values old n {new} is long e =
    ap (λ (k : ℕ). take k new) (sub-zero n) ∙ ap (take n) (e ∙ ap (λ x. filled x values old) is) ∙ take_at (values s) (drop (length (values s)) old) n long

-- A survey in buffers is the one that a text says.
pub record SaidBy (t : List ℕ) (s : Survey) : Type 0 where
  pub survey : SurveyText
  pub is : survey_read t ≡ answer survey
  pub same : s ≡ survey_with survey.groups survey.firsts survey.seconds survey.weights survey.owners survey.others

-- `counts` is what reading answers.
module _ (t : List ℕ) {lent : Lengths} (buffers : lent ≡ widest) {counts : Outcome TextCounts} (told_counts : counts ≡ counts_of (reading t lent)) where
  pub refused_read : {n p : ℕ} → counts ≡ refusal n p → survey_read t ≡ refusal n p
  refused_read told = sym (reading_whole t buffers) ∙ counts_refused (reading t lent) (sym told_counts ∙ told)

  module _ {n m k : ℕ} (told : counts ≡ answer (record { vertices = n; edges = m; pairs = k })) where
    found : ReadOf (reading t lent) n m k
    found = counts_read_law (reading t lent) (sym told_counts ∙ told)

    size : Sizes found.survey
    size = read_sizes t lent found.survey found.is

    pub counts_few : (n ≤ max_vertices) × ((m ≤ max_edges) × (k ≤ max_pairs))
    counts_few = (
      subst (λ (i : ℕ). i ≤ max_vertices) found.vertices size.few,
      (subst (λ (i : ℕ). i ≤ max_edges) found.edges size.some, subst (λ (i : ℕ). i ≤ max_pairs) found.pairs size.paired),
    )

    -- The parts of the buffers that were filled.
    pub survey_said : (gb fb sb wb ob xb : List ℕ) {groups firsts seconds weights owners others : List ℕ}
        → groups ≡ filled (reading t lent) (λ s. s.groups) gb → firsts ≡ filled (reading t lent) (λ s. s.firsts) fb
        → seconds ≡ filled (reading t lent) (λ s. s.seconds) sb → weights ≡ filled (reading t lent) (λ s. s.weights) wb
        → owners ≡ filled (reading t lent) (λ s. s.owners) ob → others ≡ filled (reading t lent) (λ s. s.others) xb
        → SaidBy t (survey_with (take (n - 0) groups) (take (m - 0) firsts) (take (m - 0) seconds) (take (m - 0) weights) (take (k - 0) owners) (take (k - 0) others))
    survey_said gb fb sb wb ob xb g f s w o x =
        let z = size in
        let y = found in
        let gs = part_read (λ s. s.groups) gb n y.is (z.groups ∙ y.vertices) g in
        let fs = part_read (λ s. s.firsts) fb m y.is (z.firsts ∙ y.edges) f in
        let ss = part_read (λ s. s.seconds) sb m y.is (z.seconds ∙ y.edges) s in
        let ws = part_read (λ s. s.weights) wb m y.is (z.weights ∙ y.edges) w in
        let os = part_read (λ s. s.owners) ob k y.is y.pairs o in
        let xs = part_read (λ s. s.others) xb k y.is (z.others ∙ y.pairs) x in
        record { survey = y.survey; is = sym (reading_whole t buffers) ∙ y.is; same = rw (gs, fs, ss, ws, os, xs) }
