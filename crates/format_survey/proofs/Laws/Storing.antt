-- Laws of reading where the counts are read: what is answered and stored, by how the lines after them end.
use Rattle.std.specs.Prelude.{ℕ, ◌≤◌, ◌≡◌, List, length}
use Rattle.std.proofs.Math.Path.{ap, sym}
use Rattle.std.proofs.Common.{◌∙◌}
use Rattle.std.proofs.lemmas.List.Edits.{sets}
use Rattle.base_limits.specs.Verdict.{Outcome, refusal, answer}
use Rattle.format_read.specs.Step.{found, refused}
use Rattle.format_also.specs.Pair.{owners_of, others_of}
use Rattle.format_survey.specs.Line.{Lengths, lengths_of, pair_room, tests_for, counts_at, firsts_of, seconds_of, weights_of, SurveyLines, lines_at, lines_with}
use Rattle.format_survey.proofs.Laws.LinesBody.{sets_filled, with_room_law}
use Rattle.format_survey.specs.Reading.{body_at, body_of, survey_of, reading, filled}
use Rattle.format_survey.specs.Answer.{counts_of}
use Rattle.format_survey.proofs.Laws.Reading.{reading_stopped, reading_found, lines_fit, counts_read_fit}

-- A buffer that holds what was read.
buffer_stored : {A : Type 0} {o : Outcome A} (values : A → List ℕ) {s : A} (old : List ℕ) {new : List ℕ} → o ≡ answer s → new ≡ sets old 0 (values s) → length (values s) ≤ length old → new ≡ filled o values old
unfolding filled
buffer_stored values {s} old r h fit = h ∙ sets_filled (values s) old fit ∙ sym (ap (λ x. filled x values old) r)

module _ (t gs fs ss ws os xs : List ℕ) where
  abbrev pub lent : Lengths
  lent = lengths_of gs fs ss ws os xs

  -- The answer for n junctions, m tracks and k pairs, and what the buffers then hold.
  pub record ReadInto (n m k : ℕ) (g f s w o x : List ℕ) : Type 0 where
    pub counts : answer (record { vertices = n; edges = m; pairs = k }) ≡ counts_of (reading t lent)
    pub groups : g ≡ filled (reading t lent) (λ s. s.groups) gs
    pub firsts : f ≡ filled (reading t lent) (λ s. s.firsts) fs
    pub seconds : s ≡ filled (reading t lent) (λ s. s.seconds) ss
    pub weights : w ≡ filled (reading t lent) (λ s. s.weights) ws
    pub owners : o ≡ filled (reading t lent) (λ s. s.owners) os
    pub others : x ≡ filled (reading t lent) (λ s. s.others) xs

  module _ {n m at room : ℕ} (e : counts_at (tests_for lent).vertices (tests_for lent).edges t ≡ found (record { vertices = n; edges = m }) at) (same : room ≡ pair_room lent) where
    abbrev lines : SurveyLines
    lines = lines_with (length gs) room t n m at

    pub read_refused : {i p : ℕ} → (body_of room t n m at).end ≡ refused i p → reading t lent ≡ refusal i p
    read_refused b = reading_stopped t lent e (rw same at b)

    -- The lines that are stored are those of the whole text.
    lines_are : lines ≡ lines_at (pair_room lent) t n m at
    lines_are = with_room_law room t n m at (counts_read_fit t lent e).1 ∙ ap (λ (k : ℕ). lines_at k t n m at) same

    pub read_found : {k p : ℕ} {g f s w o x : List ℕ} → (body_of room t n m at).end ≡ found k p
        → g ≡ sets gs 0 lines.groups → f ≡ sets fs 0 (firsts_of lines.edges) → s ≡ sets ss 0 (seconds_of lines.edges) → w ≡ sets ws 0 (weights_of lines.edges)
        → o ≡ sets os 0 (owners_of lines.pairs) → x ≡ sets xs 0 (others_of lines.pairs) → ReadInto n m k g f s w o x
    unfolding body_of body_at lines_at survey_of counts_of
    read_found b hg hf hs hw ho hx =
        let b = rw same at b in
        let r = reading_found t lent e b in
        let fit = lines_fit t lent e b in
        record {
          counts = ap (λ k. answer (record { vertices = n; edges = m; pairs = k })) (sym fit.count) ∙ sym (ap counts_of r);
          groups = buffer_stored (λ s. s.groups) gs r (rw lines_are at hg) fit.groups;
          firsts = buffer_stored (λ s. s.firsts) fs r (rw lines_are at hf) fit.firsts;
          seconds = buffer_stored (λ s. s.seconds) ss r (rw lines_are at hs) fit.seconds;
          weights = buffer_stored (λ s. s.weights) ws r (rw lines_are at hw) fit.weights;
          owners = buffer_stored (λ s. s.owners) os r (rw lines_are at ho) fit.owners;
          others = buffer_stored (λ s. s.others) xs r (rw lines_are at hx) fit.others;
        }
