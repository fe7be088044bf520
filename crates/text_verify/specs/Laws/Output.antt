-- Laws of what `verify` prints: that `findings_room` bytes hold it; and what is cut off a long text.
use Rattle.std.specs.Prelude.{ℕ, ◌+◌, ◌^◌, ◌≤◌, ◌<◌, ◌≡◌, ◌↔◌, List, ◌++◌, length, take}
use Rattle.std.proofs.Common.{arith, ap, sym, ◌∙◌, ⊎_elim, length-append, length-take-le, take_all}
use Rattle.base_finite.specs.Laws.Below.{lt_or_ge}
use Rattle.base_limits.specs.Limits.{verify_room}
use Rattle.base_limits.specs.Verdict.{answer}
use Rattle.format_write.specs.Key.{terminals_key, cost_key, bound_key}
use Rattle.format_write.specs.Decimal.{decimal}
use Rattle.format_write.specs.Text.{line_of, refusal_text}
use Rattle.format_print.specs.Laws.Room.{refusal_text_le, word_digits_law, length_line}
use Rattle.check_rule.specs.Check.{Checked}
use Rattle.check_printed.specs.Verify.{verifying}
use Rattle.check_printed.specs.Laws.Length.{verified_length}
use Rattle.text_verify.specs.Output.{passed_line, passed_text, findings_room}

-- ---- room

pub passed_text_le : (k c b : ℕ) → k < 2 ^ 64 → c < 2 ^ 64 → b < 2 ^ 64 → length (passed_text k c b) ≤ findings_room
unfolding passed_text passed_line terminals_key cost_key bound_key
passed_text_le k c b hk hc hb =
    let l₁ = line_of terminals_key k in
    let l₂ = line_of cost_key c in
    let l₃ = line_of bound_key b in
    let e₁ : length l₁ ≡ 6 + length (decimal k) + 1 = length_line terminals_key k in
    let e₂ : length l₂ ≡ 5 + length (decimal c) + 1 = length_line cost_key c in
    let e₃ : length l₃ ≡ 6 + length (decimal b) + 1 = length_line bound_key b in
    let s₁ : length (passed_line ++ l₁) ≡ 7 + length l₁ = length-append passed_line l₁ in
    let s₂ : length (passed_line ++ l₁ ++ l₂) ≡ length (passed_line ++ l₁) + length l₂ = length-append (passed_line ++ l₁) l₂ in
    let s₃ : length (passed_line ++ l₁ ++ l₂ ++ l₃) ≡ length (passed_line ++ l₁ ++ l₂) + length l₃ = length-append (passed_line ++ l₁ ++ l₂) l₃ in
    let d₁ = word_digits_law k hk in
    let d₂ = word_digits_law c hc in
    let d₃ = word_digits_law b hb in
    omega arith

pub refused_text_le : (number place : ℕ) → number < 2 ^ 64 → place < 2 ^ 64 → length (refusal_text number place) ≤ findings_room
refused_text_le number place hn hp = let l = refusal_text_le number place hn hp in omega arith

-- ---- long texts

-- The program reads at most `verify_room` bytes: these pass exactly if the whole text does, with the same figures.
pub passed_cut : (t : List ℕ) (c : Checked) → (verifying (take verify_room t) ≡ answer c) ↔ (verifying t ≡ answer c)
passed_cut t c = (whole, cut)
  where
    same : length t ≤ verify_room → take verify_room t ≡ t
    same h = take_all verify_room t h

    whole : verifying (take verify_room t) ≡ answer c → verifying t ≡ answer c
    whole e =
        ⊎_elim
        (λ (past : verify_room < length t).
        absurd (let l = verified_length (take verify_room t) c e in let n = length-take-le verify_room t (omega arith) in omega arith))
        (λ (h : length t ≤ verify_room). ap verifying (sym (same h)) ∙ e)
        (lt_or_ge verify_room (length t))

    cut : verifying t ≡ answer c → verifying (take verify_room t) ≡ answer c
    cut e = let l = verified_length t c e in ap verifying (same (omega arith)) ∙ e
