-- A call: refused, with nothing written, or answered by the reason. `why` cites it.
use Rattle.std.specs.Prelude.{ℕ, ◌-◌, ◌≤◌, ◌≡◌, List, ◌++◌, length, take}
use Rattle.std.proofs.Common.{ap, ◌∙◌}
use Rattle.std.proofs.Math.Path.{sym}
use Rattle.std.proofs.Math.ListN.{drop}
use Rattle.base_limits.specs.Verdict.{Outcome, refusal, answer, outcome, written}
use Rattle.base_limits.specs.declared.Verdict.{Verdict}
use Rattle.base_limits.specs.declared.Verdict.TheVariants.{Fine, Refused}
use Rattle.base_limits.specs.Limits.{max_vertices}
use Rattle.base_limits.specs.Laws.Verdict.{fine_left}
use Rattle.survey_core.specs.Survey.{Survey, lists_of}
use Rattle.survey_core.specs.Sound.{ByteGroups}
use Rattle.survey_core.proofs.Laws.Refusal.{fine_survey}
use Rattle.survey_lists.specs.Pouring.{poured, room_of}
use Rattle.survey_lists.proofs.Laws.Room.{part_poured}
use Rattle.why_rule.specs.Reason.{reason_of}
use Rattle.why_rule.specs.Why.{why_refusal, WhyCounts, why_counts, route_in, reasoning, route_after}
use Rattle.why_rule.specs.Promise.{WhyPromises}
use Rattle.why_rule.proofs.Laws.Promise.{fine_explainable, why_promises}
use Rattle.why_core.specs.Asked.{Asked}

-- ---- what explaining asks

pub few_by : (s : Survey) (route_length e : ℕ) → why_refusal s route_length e ≡ Fine → length s.groups ≤ max_vertices
unfolding why_refusal
few_by s route_length e h = (fine_survey s (fine_left _ _ h)).few

pub asked_by : (s : Survey) → ByteGroups s → (route_length e : ℕ) {room : List ℕ} → why_refusal s route_length e ≡ Fine
    → room ≡ room_of (length s.groups) (poured (lists_of s)) → Asked s (take (length s.groups - 0) room) route_length e
asked_by s numbered route_length e h k =
    record { numbered = numbered; ok = fine_explainable s route_length e numbered h; poured = part_poured (lists_of s) (few_by s route_length e h) k }

-- ---- the call

module _ (s : Survey) (numbered : ByteGroups s) (e : ℕ) (route : List ℕ) where
  -- What is answered and left, with what it promises.
  abbrev Answered : Outcome WhyCounts → List ℕ → Type 0
  Answered o after = (o ≡ reasoning s (length route) e) × ((after ≡ route_after s e route) × WhyPromises s e route after o)

  promised : {o : Outcome WhyCounts} {after : List ℕ} → o ≡ reasoning s (length route) e → after ≡ route_after s e route → Answered o after
  promised h k = (h, (k, why_promises s numbered e route h k))

  pub refused_call : {number place : ℕ} → why_refusal s (length route) e ≡ Refused number place → Answered (refusal number place) route
  unfolding reasoning outcome route_after written
  refused_call h =
      promised (sym (ap (λ (v : Verdict). outcome v (why_counts (reason_of s e))) h))
      (sym (ap (λ (v : Verdict). written v (route_in (reason_of s e) ++ drop (length (route_in (reason_of s e))) route) route) h))

  pub answered_call : {o : Outcome WhyCounts} {after : List ℕ} → why_refusal s (length route) e ≡ Fine → o ≡ answer (why_counts (reason_of s e))
      → after ≡ route_in (reason_of s e) ++ drop (length (route_in (reason_of s e))) route → Answered o after
  unfolding reasoning outcome route_after written
  answered_call h k l =
      promised (k ∙ sym (ap (λ (v : Verdict). outcome v (why_counts (reason_of s e))) h))
      (l ∙ sym (ap (λ (v : Verdict). written v (route_in (reason_of s e) ++ drop (length (route_in (reason_of s e))) route) route) h))
