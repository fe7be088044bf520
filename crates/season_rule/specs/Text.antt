-- The report's lines (document 02, No. 11), each with one byte 10 at its end.
use Rattle.std.specs.Prelude.{ℕ, ◌+◌, ◌*◌, ◌<◌, ◌≡◌, cond, List, [], ◌∷◌, ◌++◌, length, get_or, ltb}
use Rattle.base_limits.specs.Limits.{word_digits}
use Rattle.format_write.specs.Key.{ascii, cost_key, bound_key, refused_key, newline}
use Rattle.format_write.specs.Text.{line_of, listed, text_below}
use Rattle.season_rule.specs.declared.Farthest.{Farthest}
use Rattle.season_rule.specs.declared.Farthest.TheVariants.{Nothing, At}
use Rattle.season_rule.specs.declared.Report.{Report}
use Rattle.season_rule.specs.Report.{refusal_numbers, word_limit}

unfoldable pub planned_key : List ℕ
planned_key = ascii "planned="

unfoldable pub far_key : List ℕ
far_key = ascii "far="

unfoldable pub none_word : List ℕ
none_word = ascii "none"

-- A line key=number,number,..
unfoldable pub list_line : List ℕ → List ℕ → List ℕ
list_line key xs = key ++ listed xs ++ (newline ∷ [])

-- A line for a number that was met.
unfoldable pub refused_line : (count number : ℕ) → List ℕ
refused_line count number = cond (ltb 0 count) (list_line refused_key (number ∷ count ∷ [])) []

unfoldable pub refused_lines : List ℕ → List ℕ
refused_lines counts = text_below (length counts) (λ k. refused_line (get_or counts k 0) k)

unfoldable pub far_line : Farthest → List ℕ
far_line Nothing = far_key ++ none_word ++ (newline ∷ [])
far_line (At position twice bound) = list_line far_key (position ∷ twice ∷ bound ∷ [])

unfoldable pub report_text : Report → List ℕ
report_text r = line_of planned_key r.planned ++ line_of cost_key r.cost ++ line_of bound_key r.bound ++ refused_lines r.refused ++ far_line r.farthest

-- ---- how long it is

-- bytes of the longest report (laws `report_text_le`, `longest_report`): three totals with 19 bytes of keys; a line for
-- each number, with 10 bytes beside the count and the number's digits, of which 0 to 18 have 28; and the farthest plan,
-- with 7 bytes beside its three numbers
abbrev pub report_room : ℕ
report_room = 19 + 3 * (word_digits + 1) + (refusal_numbers * (10 + word_digits) + 28) + (7 + 3 * word_digits)

-- Three numbers of 64 bits.
pub data FarWords : Farthest → Type 0 where
  nothing : FarWords Nothing
  numbers : {position twice bound : ℕ} → position < word_limit → twice < word_limit → bound < word_limit → FarWords (At position twice bound)

-- All of a report's numbers have 64 bits, as its type says.
pub record Words (r : Report) : Type 0 where
  pub planned_word : r.planned < word_limit
  pub cost_word : r.cost < word_limit
  pub bound_word : r.bound < word_limit
  pub refused_long : length r.refused ≡ refusal_numbers
  pub refused_words_law : (k : ℕ) → k < refusal_numbers → get_or r.refused k 0 < word_limit
  pub farthest_words : FarWords r.farthest
