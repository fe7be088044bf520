-- No report is longer than the longest, and every season's is no longer.
use Rattle.std.specs.Prelude.{ℕ, zero, suc, ◌+◌, ◌*◌, ◌≤◌, ◌<◌, ◌≡◌, refl, List, [], ◌∷◌, ◌++◌, length, get_or, ltb}
use Rattle.std.proofs.Common.{arith, subst, ⊎_elim, length-append}
use Rattle.base_finite.specs.Below.{sum_below}
use Rattle.base_finite.specs.Laws.Test.{either}
use Rattle.base_finite.specs.Laws.Below.{sum_limit, count_le}
use Rattle.base_limits.specs.Limits.{word_digits}
use Rattle.base_limits.specs.Verdict.{Outcome, answer}
use Rattle.format_write.specs.Key.{cost_key, bound_key, refused_key, comma, newline}
use Rattle.format_write.specs.Decimal.{digits_within, decimal}
use Rattle.format_write.specs.Text.{line_of, listed, text_below}
use Rattle.format_write.proofs.Laws.Decimal.{length_decimal}
use Rattle.survey_core.specs.Survey.{Survey}
use Rattle.season_rule.specs.declared.Farthest.{Farthest}
use Rattle.season_rule.specs.declared.Report.{Report}
use Rattle.season_rule.specs.Report.{max_surveys, refusal_numbers, word_limit, most_cost, most_bound, season_of}
use Rattle.season_rule.specs.Figures.{Figures, is_planned, is_refused, cost_of, bound_of}
use Rattle.season_rule.specs.Season.{outcome_at, Totals, IsFarthest, none, one}
use Rattle.season_rule.specs.Text.{planned_key, far_key, none_word, list_line, refused_line, refused_lines, far_line, report_text, report_room, FarWords, nothing, numbers, Words}
use Rattle.season_rule.proofs.Laws.Figures.{Limited}
use Rattle.season_rule.proofs.Laws.Season.{limited_at, season_totals, season_farthest}

-- ---- lines

word_digits_law : (x : ℕ) → x < word_limit → length (decimal x) ≤ word_digits
word_digits_law x h = length_decimal 19 x (omega arith)

length_line : (key : List ℕ) (x : ℕ) → length (line_of key x) ≡ length key + length (decimal x) + 1
unfolding line_of
length_line key x = omega (arith, length-append (key ++ decimal x) (newline ∷ []), length-append key (decimal x))

length_list_line : (key xs : List ℕ) → length (list_line key xs) ≡ length key + length (listed xs) + 1
unfolding list_line
length_list_line key xs = omega (arith, length-append (key ++ listed xs) (newline ∷ []), length-append key (listed xs))

length_listed : (x y : ℕ) (more : List ℕ) → length (listed (x ∷ y ∷ more)) ≡ length (decimal x) + 1 + length (listed (y ∷ more))
unfolding listed
length_listed x y more =
    omega (arith, length-append (decimal x ++ (comma ∷ [])) (listed (y ∷ more)), length-append (decimal x) (comma ∷ []))

length_last : (x : ℕ) → length (listed (x ∷ [])) ≡ length (decimal x)
unfolding listed
length_last x = refl

refused_line_le : (count number : ℕ) → count < word_limit → length (refused_line count number) ≤ 10 + word_digits + length (decimal number)
unfolding refused_line refused_key
refused_line_le count number h =
    let line : length (list_line refused_key (number ∷ count ∷ [])) ≡ 8 + length (listed (number ∷ count ∷ [])) + 1 =
    length_list_line refused_key (number ∷ count ∷ []) in
    let both = length_listed number count [] in
    let last = length_last count in
    let digits = word_digits_law count h in
    ⊎_elim (λ some. rw some (omega arith)) (λ zero_count. rw zero_count (omega arith)) (either (ltb 0 count))

length_text_le : (n : ℕ) (f : ℕ → List ℕ) (most : ℕ → ℕ) → ((i : ℕ) → i < n → length (f i) ≤ most i) → length (text_below n f) ≤ sum_below n most
unfolding text_below sum_below
length_text_le zero f most h = omega arith
length_text_le (suc n) f most h =
    omega (
      arith,
      length_text_le n f most (λ i b. h i (omega arith)),
      h n (omega arith),
      length-append (text_below n f) (f n),
    )

lines_room : sum_below refusal_numbers (λ k. 10 + word_digits + length (decimal k)) ≡ refusal_numbers * (10 + word_digits) + 28
unfolding sum_below decimal digits_within
lines_room = refl

refused_lines_le : (counts : List ℕ) → length counts ≡ refusal_numbers → ((k : ℕ) → k < refusal_numbers → get_or counts k 0 < word_limit)
    → length (refused_lines counts) ≤ refusal_numbers * (10 + word_digits) + 28
unfolding refused_lines
refused_lines_le counts long words =
    let all : length (text_below refusal_numbers (λ k. refused_line (get_or counts k 0) k)) ≤ sum_below refusal_numbers (λ k. 10 + word_digits + length (decimal k)) =
    length_text_le refusal_numbers (λ k. refused_line (get_or counts k 0) k) (λ k. 10 + word_digits + length (decimal k))
    (λ k b. refused_line_le (get_or counts k 0) k (words k b)) in
    let e = lines_room in
    rw long (omega arith)

far_line_le : (far : Farthest) → FarWords far → length (far_line far) ≤ 7 + 3 * word_digits
unfolding far_line far_key none_word
far_line_le far nothing = omega arith
far_line_le far (numbers {position = p} {twice = t} {bound = b} hp ht hb) =
    let line : length (list_line far_key (p ∷ t ∷ b ∷ [])) ≡ 4 + length (listed (p ∷ t ∷ b ∷ [])) + 1 = length_list_line far_key (p ∷ t ∷ b ∷ []) in
    omega (
      arith,
      length_listed p t (b ∷ []),
      length_listed t b [],
      length_last b,
      word_digits_law p hp,
      word_digits_law t ht,
      word_digits_law b hb,
    )

-- ---- the report

pub report_text_le : (r : Report) → Words r → length (report_text r) ≤ report_room
unfolding report_text planned_key cost_key bound_key
report_text_le r w =
    let p = line_of planned_key r.planned in
    let c = line_of cost_key r.cost in
    let b = line_of bound_key r.bound in
    let l = refused_lines r.refused in
    let lp : length p ≡ 8 + length (decimal r.planned) + 1 = length_line planned_key r.planned in
    let lc : length c ≡ 5 + length (decimal r.cost) + 1 = length_line cost_key r.cost in
    let lb : length b ≡ 6 + length (decimal r.bound) + 1 = length_line bound_key r.bound in
    let s₁ : length (p ++ c) ≡ length p + length c = length-append p c in
    let s₂ : length (p ++ c ++ b) ≡ length (p ++ c) + length b = length-append (p ++ c) b in
    let s₃ : length (p ++ c ++ b ++ l) ≡ length (p ++ c ++ b) + length l = length-append (p ++ c ++ b) l in
    let s₄ = length-append (p ++ c ++ b ++ l) (far_line r.farthest) in
    omega (
      arith,
      word_digits_law r.planned w.planned_word,
      word_digits_law r.cost w.cost_word,
      word_digits_law r.bound w.bound_word,
      refused_lines_le r.refused w.refused_long w.refused_words_law,
      far_line_le r.farthest w.farthest_words,
    )

-- ---- a season's report

far_words : (n : ℕ) (o : ℕ → Outcome Figures) → n ≤ max_surveys → ((i : ℕ) → i < n → Limited (o i)) → {far : Farthest} → IsFarthest n o far → FarWords far
unfolding cost_of bound_of
far_words n o few small (none h) = nothing
far_words n o few small (one {position = p} {twice = x} {bound = y} l) =
    let below : p < n = l.below in
    let lim : Limited (answer l.plan) = subst (λ q. Limited q) l.planned (small p below) in
    let cost_small : l.plan.cost ≤ most_cost = lim.cost_small in
    let bound_small : l.plan.bound ≤ most_bound = lim.bound_small in
    let t = l.twice_is in
    let b = l.bound_is in
    numbers {position = p} {twice = x} {bound = y} (omega arith) (omega arith) (omega arith)

pub season_words : (ss : List Survey) → length ss ≤ max_surveys → Words (season_of ss)
season_words ss few =
    let o = outcome_at ss in
    let n = length ss in
    let t : Totals n o (season_of ss) = season_totals ss few in
    record {
      planned_word = omega (arith, t.planned_are, count_le n (λ i. is_planned (o i)));
      cost_word = omega (arith, t.cost_is, sum_limit n most_cost (λ i. cost_of (o i)) (λ i b. (limited_at ss i b).cost_small));
      bound_word = omega (arith, t.bound_is, sum_limit n most_bound (λ i. bound_of (o i)) (λ i b. (limited_at ss i b).bound_small));
      refused_long = t.refused_long;
      refused_words_law = λ k b. omega (arith, t.refused_are k b, count_le n (λ i. is_refused k (o i)));
      farthest_words = far_words n o few (limited_at ss) (season_farthest ss few);
    }

-- Room for every season's report.
pub season_text_le : (ss : List Survey) → length ss ≤ max_surveys → length (report_text (season_of ss)) ≤ report_room
season_text_le ss few = report_text_le (season_of ss) (season_words ss few)
