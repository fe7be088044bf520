-- Laws of what `why` prints: the lines by the outcomes of reading and of asking, and that `why_room` bytes hold them.
use Rattle.std.specs.Prelude.{ℕ, zero, suc, ◌+◌, ◌-◌, ◌^◌, ◌≤◌, ◌<◌, ◌≡◌, refl, Bool, true, get_or, take, replicate}
use Rattle.std.proofs.Common.{arith, ◌∙◌, length-append, length-drop, take_at}
use Rattle.std.proofs.Math.Nat.{sub-zero}
use Rattle.std.proofs.Math.Path.{ap, sym, subst}
use mathlib.Core.List.{List, ◌++◌}
use Rattle.std.proofs.Math.ListN.{length, drop}
use Rattle.std.proofs.lemmas.List.{length-replicate}
use Rattle.base_limits.specs.Limits.{max_edges, max_route, why_room}
use Rattle.base_limits.specs.Verdict.{Outcome, refusal, answer, outcome, written}
use Rattle.base_limits.specs.Laws.Verdict.{answer_fine, refusal_found}
use Rattle.base_limits.specs.declared.Verdict.{Verdict}
use Rattle.base_limits.specs.declared.Verdict.TheVariants.{Fine, Refused}
use Rattle.format_write.specs.Text.{refusal_text}
use Rattle.format_print.specs.Laws.Room.{refusal_text_le}
use Rattle.format_why.specs.ReasonText.{reason_text}
use Rattle.format_why.specs.Laws.Room.{reason_text_le}
use Rattle.theory_steiner.specs.Pruning.{kept}
use Rattle.theory_route.specs.Route.{Route, arrived, onward}
use Rattle.survey_core.specs.Survey.{Survey, vertex_count, edge_count, problem_of}
use Rattle.survey_core.specs.Sound.{SurveySound, ByteGroups}
use Rattle.survey_core.proofs.Laws.Refusal.{survey_sound}
use Rattle.theory_steiner.proofs.Laws.Finish.{kept_edges}
use Rattle.why_rule.specs.Reason.{Reason, needs, spared, passed, reason_of}
use Rattle.why_rule.specs.True.{TrueOf, needs_true, spared_true, passed_true}
use Rattle.why_rule.specs.Why.{WhyCounts, why_counts, route_in, why_refusal, reasoning, route_after}
use Rattle.why_rule.specs.Promise.{Explainable}
use Rattle.why_rule.proofs.Laws.Promise.{fine_explainable}
use Rattle.why_rule.proofs.Laws.Reason.{reason_true}
use Rattle.text_plan.specs.Output.{survey_read}
use Rattle.text_plan.specs.Laws.Read.{SaidBy}
use Rattle.text_why.specs.Output.{survey_reason, read_reason, reason_lines, survey_lines, why_output, ReasonCountsFit}

-- ---- reading

pub why_refused_output : (t : List ℕ) (e : ℕ) {n p : ℕ} → survey_read t ≡ refusal n p → refusal_text n p ≡ why_output t e
unfolding why_output read_reason reason_lines
why_refused_output t e refused = ap (λ o. reason_lines e (read_reason o e)) (sym refused)

-- What is printed for a survey in buffers is what is printed for the text that says it.
pub why_said_output : {t : List ℕ} {s : Survey} (e : ℕ) → SaidBy t s → survey_lines s e ≡ why_output t e
unfolding survey_lines why_output read_reason
why_said_output e h = ap (λ s. reason_lines e (survey_reason s e)) h.same ∙ ap (λ o. reason_lines e (read_reason o e)) (sym h.is)

-- ---- asking

-- A refusal's lines fit the room for reasons.
pub why_refusal_fits : (number place : ℕ) → number < 2 ^ 64 → place < 2 ^ 64 → length (refusal_text number place) ≤ why_room
why_refusal_fits number place hn hp = let l = refusal_text_le number place hn hp in omega arith

-- The tracks of a route are tracks of its set.
route_below : {a b : ℕ → ℕ} {F : ℕ → Bool} {u w : ℕ} {es vs : List ℕ} (m : ℕ) → 0 < m → ((f : ℕ) → F f ≡ true → f < m) → Route a b F u w es vs → (i : ℕ) → get_or es i 0 < m
route_below m some h arrived i = some
route_below m some h (onward e f l n r) zero = h e f
route_below m some h (onward e f l n r) (suc i) = route_below m some h r i

tracks_below : {s : Survey} {e : ℕ} {r : Reason} (m : ℕ) → 0 < m → ((f : ℕ) → kept (problem_of s) f ≡ true → f < m) → TrueOf s e r → (i : ℕ) → get_or (route_in r) i 0 < m
unfolding route_in
tracks_below m some h (needs_true t) i = route_below m some h t.path.route i
tracks_below m some h (spared_true t) i = some
tracks_below m some h (passed_true t) i = some

-- The entries that are counted are those of the route.
entries_are : (r : Reason) → (why_counts r).entries ≡ length (route_in r)
unfolding why_counts route_in
entries_are (needs g u w route) = refl
entries_are spared = refl
entries_are (passed round) = refl

-- A buffer of the limit's size for a route, as of zeros.
pub record RouteBuffer (route : List ℕ) : Type 0 where
  pub room : length route ≡ max_route

pub route_buffer : RouteBuffer (replicate max_route 0)
route_buffer = record { room = length-replicate {A = ℕ} max_route 0 }

-- `o` is what asking answers.
module _ (s : Survey) (e : ℕ) {was : List ℕ} (buffer : RouteBuffer was) {o : Outcome WhyCounts} (answered : o ≡ reasoning s (length was) e) where
  abbrev verdict : Verdict
  verdict = why_refusal s (length was) e

  asked : (v : Verdict) → verdict ≡ v → survey_lines s e ≡ reason_lines e (outcome v (reason_of s e))
  unfolding survey_lines survey_reason
  asked v h = ap (λ (x : Verdict). reason_lines e (outcome x (reason_of s e))) (ap (λ n. why_refusal s n e) (sym buffer.room) ∙ h)

  pub unasked_lines : {n p : ℕ} → o ≡ refusal n p → refusal_text n p ≡ survey_lines s e
  unfolding reasoning outcome reason_lines
  unasked_lines {n} {p} told = sym (asked (Refused n p) (refusal_found verdict (why_counts (reason_of s e)) (sym answered ∙ told)))

  module _ {c : WhyCounts} (told : o ≡ answer c) where
    fine : verdict ≡ Fine
    unfolding reasoning
    fine = (answer_fine verdict (why_counts (reason_of s e)) c (sym answered ∙ told)).0

    same : why_counts (reason_of s e) ≡ c
    unfolding reasoning
    same = (answer_fine verdict (why_counts (reason_of s e)) c (sym answered ∙ told)).1

    long : length (route_in (reason_of s e)) ≡ c.entries
    long = sym (entries_are (reason_of s e)) ∙ ap (λ (k : WhyCounts). k.entries) same

    lines : reason_text e c.kind c.group c.low c.high c.round (route_in (reason_of s e)) ≡ survey_lines s e
    unfolding outcome reason_lines
    lines =
        ap (λ (k : WhyCounts). reason_text e k.kind k.group k.low k.high k.round (route_in (reason_of s e))) (sym same)
        ∙ sym (asked Fine fine)

    module _ {after : List ℕ} (wrote : after ≡ route_after s e was) where
      front : after ≡ route_in (reason_of s e) ++ drop (length (route_in (reason_of s e))) was
      unfolding route_after written
      front = wrote ∙ ap (λ v. written v (route_in (reason_of s e) ++ drop (length (route_in (reason_of s e))) was) was) fine

      -- The route is within the buffer, which is as long as it was.
      pub entries_few : length after ≡ max_route → c.entries ≤ max_route
      entries_few h =
          let l = ap length front ∙ length-append (route_in (reason_of s e)) (drop (length (route_in (reason_of s e))) was) in
          let rest = length-drop (length (route_in (reason_of s e))) was in
          let k = long in
          let room = buffer.room in
          omega (arith, l, rest, k, room)

      -- What is printed of the buffer is the reason.
      pub given_lines : reason_text e c.kind c.group c.low c.high c.round (take (c.entries - 0) after) ≡ survey_lines s e
      given_lines =
          let r : take (c.entries - 0) after ≡ route_in (reason_of s e) =
          ap (λ (i : ℕ). take i after) (sub-zero c.entries)
          ∙ ap (take c.entries) front
          ∙ take_at (route_in (reason_of s e)) (drop (length (route_in (reason_of s e))) was) c.entries long in
          ap (reason_text e c.kind c.group c.low c.high c.round) r ∙ lines

      -- It fits the room.
      pub given_fits : ByteGroups s → e < 2 ^ 64 → ReasonCountsFit c → length after ≡ max_route → length (survey_lines s e) ≤ why_room
      unfolding edge_count problem_of vertex_count
      given_fits numbered small fit h =
          let ok : Explainable s (length was) e = fine_explainable s (length was) e numbered fine in
          let sound : SurveySound s = ok.joinable.askable.survey in
          let few = entries_few h in
          let l = long in
          subst (λ (t : List ℕ). length t ≤ why_room) lines
          (reason_text_le e c.kind c.group c.low c.high c.round (route_in (reason_of s e))
          (record {
            track_fits = small;
            mark_fits = fit.kind_fits;
            group_fits = fit.group_fits;
            low_fits = fit.low_fits;
            high_fits = fit.high_fits;
            round_fits = fit.round_fits;
            route_short = omega (arith, l, few);
            route_tracks =
                tracks_below max_edges (omega arith) (λ f k. let b = (kept_edges (problem_of s) (survey_sound s sound) sound.some ok.joinable.joins f k).0 in let m = sound.edges_few in omega arith)
                (reason_true s sound numbered ok.joinable.joins e ok.known);
          }))
