-- What reading answers and leaves keeps the promises (specs/Promises).
use Rattle.std.specs.Prelude.{ℕ, List, ◌↔◌, ◌≡◌, refl}
use Rattle.std.proofs.Common.{arith, sym, ◌∙◌}
use Rattle.std.proofs.Math.Path.{ap}
use Rattle.base_limits.specs.Verdict.{Outcome, refusal, answer}
use Rattle.format_survey.specs.Line.{SurveyCounts, firsts_of, seconds_of, weights_of}
use Rattle.format_survey.specs.Reading.{filled}
use Rattle.format_stp.specs.Answer.{stp_counts_of}
use Rattle.format_stp.specs.Beginning.{stp_lent, StpEscapes, StpRefusing, vertices_out, edges_over, buffer_short}
use Rattle.format_stp.proofs.Laws.Accepted.{Unrefused, accepted_in, unrefused_accepted, unrefused_refused, stp_malformed_begins, stp_malformed_stops, stp_malformed_is_none, stp_numbers}
use Rattle.format_stp.proofs.Laws.Beginning.{stp_refused_begins, stp_vertices_out_iff, stp_edges_over_iff, stp_buffer_short_iff}
use Rattle.format_stp.proofs.Laws.Bytes.{begins_by_bytes}
use Rattle.format_stp.specs.Promises.{StpBuffers, StpSays, StpAccepted, StpPromises}
use Rattle.format_stp.specs.StpReading.{StpContent, stp_reading}

-- A refusal of the counts is one of reading, and no other.
counts_refusal : (o : Outcome StpContent) {n p : ℕ} → stp_counts_of o ≡ refusal n p → o ≡ refusal n p
unfolding stp_counts_of
counts_refusal (refusal i q) {n} {p} e = let a : i ≡ n = cc in let b : q ≡ p = cc in cc
counts_refusal (answer x) e = let z : ◌≡◌ {A = ℕ} 0 1 = cc in absurd (omega arith)

refusal_counts : {o : Outcome StpContent} {n p : ℕ} → o ≡ refusal n p → stp_counts_of o ≡ refusal n p
unfolding stp_counts_of
refusal_counts e = ap stp_counts_of e

counts_answer : (o : Outcome StpContent) {c : SurveyCounts} → stp_counts_of o ≡ answer c → (x : StpContent) × (o ≡ answer x)
unfolding stp_counts_of
counts_answer (refusal i q) e = let z : ◌≡◌ {A = ℕ} 0 1 = cc in absurd (omega arith)
counts_answer (answer x) e = (x, refl)

module _ (t : List ℕ) (old : StpBuffers) where
  abbrev read : Outcome StpContent
  read = stp_reading t old.groups old.firsts old.seconds old.weights

  unrefused : StpEscapes (stp_lent old.groups old.firsts old.seconds old.weights) t → Unrefused t old.groups old.firsts old.seconds old.weights
  unrefused h =
      record {
        one = λ p e. by_one (stp_refused_begins old.groups old.firsts old.seconds old.weights t e (λ z. omega arith));
        three = λ p e. by_three (stp_refused_begins old.groups old.firsts old.seconds old.weights t e (λ z. omega arith));
        seven = λ p e. by_seven (stp_refused_begins old.groups old.firsts old.seconds old.weights t e (λ z. omega arith));
      }
    where
      by_one : {p : ℕ} → StpRefusing (stp_lent old.groups old.firsts old.seconds old.weights) t 1 p → ⊥
      by_one (vertices_out i z o) = h.one o
      by_one (edges_over i z o) = omega arith
      by_one (buffer_short i z o) = omega arith

      by_three : {p : ℕ} → StpRefusing (stp_lent old.groups old.firsts old.seconds old.weights) t 3 p → ⊥
      by_three (vertices_out i z o) = omega arith
      by_three (edges_over i z o) = h.three o
      by_three (buffer_short i z o) = omega arith

      by_seven : {p : ℕ} → StpRefusing (stp_lent old.groups old.firsts old.seconds old.weights) t 7 p → ⊥
      by_seven (vertices_out i z o) = omega arith
      by_seven (edges_over i z o) = omega arith
      by_seven (buffer_short i z o) = h.seven o

  module _ {r : Outcome SurveyCounts} {groups firsts seconds weights : List ℕ} (told : r ≡ stp_counts_of read) (g : groups ≡ filled read (λ x. x.groups) old.groups)
      (f : firsts ≡ filled read (λ x. firsts_of x.lines) old.firsts) (s : seconds ≡ filled read (λ x. seconds_of x.lines) old.seconds)
      (w : weights ≡ filled read (λ x. weights_of x.lines) old.weights) where
    abbrev new : StpBuffers
    new = record { groups = groups; firsts = firsts; seconds = seconds; weights = weights }

    says : (x : StpContent) → read ≡ answer x → StpSays x old r new
    unfolding stp_counts_of filled
    says x e =
        record {
          counts = told ∙ ap stp_counts_of e;
          groups = g ∙ ap (λ (o : Outcome StpContent). filled o (λ x. x.groups) old.groups) e;
          firsts = f ∙ ap (λ (o : Outcome StpContent). filled o (λ x. firsts_of x.lines) old.firsts) e;
          seconds = s ∙ ap (λ (o : Outcome StpContent). filled o (λ x. seconds_of x.lines) old.seconds) e;
          weights = w ∙ ap (λ (o : Outcome StpContent). filled o (λ x. weights_of x.lines) old.weights) e;
        }

    accepted : (c : SurveyCounts) → r ≡ answer c → StpAccepted t old r new
    accepted c e =
        let a = counts_answer read (sym told ∙ e) in
        let i = accepted_in old.groups old.firsts old.seconds old.weights t a.0 a.1 in
        record { content = a.0; text = i.0; fits = i.1; says = says a.0 a.1 }

    is_refusal : {n p : ℕ} → r ≡ refusal n p → read ≡ refusal n p
    is_refusal e = counts_refusal read (sym told ∙ e)

    kept : {n p : ℕ} → read ≡ refusal n p → new ≡ old
    unfolding filled
    kept e i =
        record {
          groups = (g ∙ ap (λ (o : Outcome StpContent). filled o (λ x. x.groups) old.groups) e) i;
          firsts = (f ∙ ap (λ (o : Outcome StpContent). filled o (λ x. firsts_of x.lines) old.firsts) e) i;
          seconds = (s ∙ ap (λ (o : Outcome StpContent). filled o (λ x. seconds_of x.lines) old.seconds) e) i;
          weights = (w ∙ ap (λ (o : Outcome StpContent). filled o (λ x. weights_of x.lines) old.weights) e) i;
        }

    exactly : {n p : ℕ} {B : Type 0} → (read ≡ refusal n p) ↔ B → (r ≡ refusal n p) ↔ B
    exactly h = (λ e. h.0 (is_refusal e), λ b. told ∙ refusal_counts (h.1 b))

    pub promised : StpPromises t old r new
    promised =
        record {
          accepted = accepted;
          accepts = λ x m h. says x (unrefused_accepted old.groups old.firsts old.seconds old.weights t x (unrefused h) m);
          refuses = λ n h. let q = unrefused_refused old.groups old.firsts old.seconds old.weights t (unrefused h) n in (q.0, told ∙ refusal_counts q.1);
          one = exactly (stp_vertices_out_iff old.groups old.firsts old.seconds old.weights t);
          three = exactly (stp_edges_over_iff old.groups old.firsts old.seconds old.weights t);
          seven = exactly (stp_buffer_short_iff old.groups old.firsts old.seconds old.weights t);
          malformed = λ p e. record {
            begins = begins_by_bytes (stp_malformed_begins old.groups old.firsts old.seconds old.weights t p (is_refusal e));
            stops = stp_malformed_stops old.groups old.firsts old.seconds old.weights t p (is_refusal e);
            outside = stp_malformed_is_none old.groups old.firsts old.seconds old.weights t p (is_refusal e);
          };
          gives = λ n p e. stp_numbers old.groups old.firsts old.seconds old.weights t n p (is_refusal e);
          kept = λ n p e. kept (is_refusal e);
        }
