-- How long a text that passes can be: a survey's longest text and a plan's, so that what the checking program cannot read whole does not pass.
use Rattle.std.specs.Prelude.{ℕ, zero, suc, ◌+◌, ◌*◌, ◌≤◌, ◌≡◌, List, [], ◌∷◌, ◌++◌, length}
use Rattle.std.proofs.Common.{arith, add-one, ap, sym, ◌∙◌, ⊎_elim, length-append}
use Rattle.format_read.proofs.Laws.NumberWord.{digits_most}
use Rattle.base_finite.specs.Below.{sum_below}
use Rattle.base_finite.specs.Laws.Below.{lt_or_ge}
use Rattle.base_limits.specs.Limits.{record_bytes, max_edges, max_duals, value_digits, longest_members, longest_dual, kept_room, plan_room}
use Rattle.base_limits.specs.Verdict.{answer}
use Rattle.format_write.specs.Key.{kept_key, comma}
use Rattle.format_write.specs.Decimal.{decimal}
use Rattle.format_write.specs.Text.{line_of, listed, kept_line}
use Rattle.format_print.specs.Laws.Room.{room_below, room_of_members, length_dual, kept_line_le, length_count_lines}
use Rattle.format_read.specs.Step.{found}
use Rattle.format_survey.specs.Line.{Lengths, widest, tests_for}
use Rattle.format_survey.specs.Reading.{SurveyText}
use Rattle.format_read.specs.Lines.{text_of}
use Rattle.format_survey.specs.Render.{render, longest_text}
use Rattle.format_read.proofs.Laws.Step.{then_value}
use Rattle.format_survey.proofs.Laws.Content.{content_at, reads_content}
use Rattle.format_survey.proofs.Laws.WellFormed.{never_malformed, accepted_within}
use Rattle.format_survey.proofs.Laws.Longest.{longest_within}
use Rattle.survey_core.specs.Survey.{edge_count}
use Rattle.check_rule.specs.Check.{Checked}
use Rattle.format_read.specs.Language.{Each, none, more}
use Rattle.format_plan.specs.Lines.{separator, member_numbers, PrintedDual}
use Rattle.format_plan.specs.Plan.{PrintedPlan, plan_at}
use Rattle.check_printed.specs.Verify.{prefix_at, survey_in, plan_from, verifying}
use Rattle.check_printed.specs.Laws.Accuracy.{verified_parts}
use Rattle.check_printed.specs.Laws.Prefix.{prefix_content}
use Rattle.format_plan.proofs.Laws.Room.{room_answer}
use Rattle.format_plan.specs.WellFormed.{Rising, ended, rising, dual_text, claims_text, plan_words, Printed, Printable}
use Rattle.format_plan.proofs.Laws.RoundTrip.{followers, member_words, listed_text}
use Rattle.format_plan.proofs.Laws.Accepted.{found_rendering}

-- ---- moat lines

-- More numbers take more room.
room_more : (a n : ℕ) → a ≤ n → room_below a ≤ room_below n
unfolding room_below sum_below
room_more a zero h = by_zero (omega arith)
  where
    by_zero : a ≡ 0 → room_below a ≤ room_below 0
    by_zero e = rw e (omega arith)
room_more a (suc n) h = ⊎_elim (λ l. let ih = room_more a n (omega arith) in omega arith) (λ l. same (omega arith)) (lt_or_ge a (suc n))
  where
    same : a ≡ suc n → room_below a ≤ room_below (suc n)
    same e = rw e (omega arith)

-- Members that rise below n, each with its comma, take no more room than the numbers from low on.
followers_most : {n low : ℕ} {l : List ℕ} → low ≤ n → Rising n low l → length (followers l) + room_below low ≤ room_below n
unfolding followers room_below sum_below
followers_most {n} {low} h ended = let r = room_more low n h in omega arith
followers_most {n} {low} h (rising {e = v} {es = vs} a b r) =
    let ih = followers_most (omega arith) r in
    let up = room_more low v a in
    let s : room_below (v + 1) ≡ room_below v + (length (decimal v) + 1) = ap room_below (add-one v) in
    let x = length-append ((comma ∷ []) ++ decimal v) (followers vs) in
    let y = length-append (comma ∷ []) (decimal v) in
    omega arith

-- Printed members take no more than all of them.
listed_most : (vs : List ℕ) → Rising member_numbers 0 vs → length (listed vs) ≤ longest_members
unfolding listed member_words separator followers
listed_most [] r = omega arith
listed_most (v ∷ vs) r =
    let e : length (listed (v ∷ vs)) ≡ length (decimal v ++ followers vs) = ap length (listed_text (v ∷ vs)) in
    let a = length-append (decimal v) (followers vs) in
    let x = length-append ((comma ∷ []) ++ decimal v) (followers vs) in
    let y = length-append (comma ∷ []) (decimal v) in
    let m = followers_most (omega arith) r in
    let n = room_of_members in
    omega arith

-- A moat line takes no more than the longest.
dual_most : (d : PrintedDual) → Printed d → length (dual_text d) ≤ longest_dual
unfolding dual_text
dual_most d p =
    let l = length_dual d.value d.members in
    let x = digits_most value_digits d.value (omega arith) p.small in
    let m = listed_most d.members p.rises in
    omega arith

-- Nor do moat lines one after another.
duals_most : {ds : List PrintedDual} → Each Printed ds → length (text_of dual_text ds) ≤ longest_dual * length ds
unfolding text_of
duals_most none = omega arith
duals_most (more {a = d} {l = ds} p r) =
    let ih = duals_most r in
    let x = dual_most d p in
    let l = length-append (dual_text d) (text_of dual_text ds) in
    omega arith

-- ---- keep lines

-- Keep lines of tracks that rise take at most `kept_room` bytes for each track.
kept_most : {m low : ℕ} {ks : List ℕ} → m ≤ max_edges → low ≤ m → Rising m low ks → length (text_of (line_of kept_key) ks) + kept_room * low ≤ kept_room * m
unfolding text_of kept_line
kept_most few h ended = omega arith
kept_most few h (rising {e = e} {es = ks} a b r) =
    let ih = kept_most few (omega arith) r in
    let x : length (line_of kept_key e) ≤ kept_room = kept_line_le 2 e (omega arith) in
    let l = length-append (line_of kept_key e) (text_of (line_of kept_key) ks) in
    omega arith

-- ---- the whole text

-- A plan's text is no longer than the room for every plan.
pub words_most : (m : ℕ) (p : PrintedPlan) → m ≤ max_edges → Printable m p → length (plan_words p) ≤ plan_room
unfolding plan_words claims_text
words_most m p few w =
    let C = claims_text p.claims in
    let K = text_of (line_of kept_key) p.kept in
    let D = text_of dual_text p.duals in
    let a = length-append C K in
    let b = length-append (C ++ K) D in
    let f = w.few in
    let k = f.terminals in
    let x = f.cost in
    let y = f.bound in
    let z = f.rounds in
    let c = length_count_lines p.claims.terminals p.claims.cost p.claims.bound p.claims.rounds (omega arith) (omega arith) (omega arith) (omega arith) in
    let d = kept_most few (omega arith) w.kept in
    let e = duals_most w.duals in
    let n = w.count in
    omega arith

-- A survey at the start of a text ends no later than the longest survey.
pub prefix_most : (lent : Lengths) (t : List ℕ) {s : SurveyText} {at : ℕ} → prefix_at lent t ≡ found s at → at ≤ longest_text
prefix_most lent t {s} {at} e =
    let g = then_value (content_at (tests_for lent) t 0) _ (sym (prefix_content lent t) ∙ e) in
    let w = (reads_content (tests_for lent) (never_malformed lent)).sound t 0 g.0 g.1 (omega arith) g.2 in
    let l = longest_within (accepted_within lent w.member) in
    let same : length w.word ≡ length (render g.0.groups g.0.pairs g.0.edges) = ap length w.member.word in
    let x = w.ends in
    let y : g.1 ≡ at = cc g.3 in
    omega arith

-- What passes is no longer than a survey's longest text and a plan's.
pub verified_length : (t : List ℕ) (c : Checked) → verifying t ≡ answer c → length t ≤ longest_text + plan_room
unfolding plan_from
verified_length t c e =
    let v = verified_parts t c e in
    let m = edge_count (survey_in v.survey) in
    let a = room_answer (plan_at t m v.next) m max_edges (record_bytes * max_duals) v.behind in
    let r = found_rendering t m v.next a.1 in
    let h = prefix_most widest t v.read in
    let w = words_most m v.plan a.2 r.printable in
    let x = r.ends in
    omega arith
