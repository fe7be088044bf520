-- Every printed line of a plan, of a survey and of a refusal has at most 2,048 bytes (document 02, No. 8), whatever 64-bit numbers and bytes are printed; the longest of a reason has 2,241.
use Prim.Native.Nat.{ℕ, zero, suc, ◌+◌, ◌-◌, ◌*◌, ◌^◌, ◌≤◌, ◌<◌}
use Rattle.std.proofs.Common.{arith, sym, subst, append_assoc, append-nil}
use Rattle.std.proofs.Math.Decide.{ℕ_discrete}
use Rattle.std.specs.Prelude.{◌≡◌, refl, Bool, cond, List, [], ◌∷◌, ◌++◌, get_or, eqb}
use Rattle.std.proofs.Math.Bool.{true, false}
use Rattle.std.proofs.Math.ListN.{length, length-append}
use Rattle.base_limits.specs.Limits.{max_edges, word_digits, dual_room}
use Rattle.format_record.specs.Bits.{Bytes}
use Rattle.format_record.specs.Record.{value_in, record_at}
use Rattle.format_record.proofs.Laws.Record.{bytes_record_at}
use Rattle.format_write.specs.Key.{terminals_key, cost_key, bound_key, rounds_key, kept_key, dual_key, refused_key, place_key, nodes_key, links_key, node_key, link_key, also_key, track_key, mark_key, group_key, from_key, to_key, route_key, round_key, colon, comma, newline}
use Rattle.format_write.specs.Decimal.{decimal}
use Rattle.format_write.specs.Text.{line_of, listed, members_of, dual_line, text_below, kept_line, kept_lines, dual_lines, count_lines, plan_text, refusal_text}
use Rattle.format_write.proofs.Laws.Decimal.{length_decimal}
use Rattle.format_read.specs.Lines.{text_of}
use Rattle.format_read.specs.Language.{EachFrom, none_from, more_from}
use Rattle.format_read.specs.Number.{number_text}
use Rattle.format_print.specs.Laws.Room.{word_digits_law, dual_line_le}
use Rattle.format_also.specs.Pair.{Pair, PairDigits}
use Rattle.format_also.specs.Render.{pair_text, pairs_text}
use Rattle.format_also.specs.WellFormed.{PairsPass, no_pair, next_pair}
use Rattle.format_survey.specs.Line.{Edge, EdgeDigits}
use Rattle.format_survey.specs.LinesRender.{edge_text}
use Rattle.format_survey.specs.Render.{render}
use Rattle.format_survey.specs.WellFormed.{WithinCounts}
use Rattle.format_why.specs.ReasonText.{route_line, kept_text, mark_text, reason_text}
use Rattle.format_why.specs.Within.{ReasonWithin}
use Rattle.theorems.specs.Lines.{LinesFrom, text_end, line_end, in_line, LinesWithin, longest_reason_line}

-- ---- whole lines

-- A text of whole lines that fit, whatever stands behind it.
pub record Whole (room : ℕ) (p : List ℕ) : Type 0 where
  pub before : (rest : List ℕ) → LinesFrom room 0 rest → LinesFrom room 0 (p ++ rest)

module _ (room : ℕ) where
  lines_fit : {k : ℕ} {t : List ℕ} → LinesFrom room k t → k ≤ room
  lines_fit (text_end h) = h
  lines_fit (line_end e h r) = omega arith
  lines_fit (in_line d r) = let h = lines_fit r in omega arith

  -- Fewer bytes may stand before.
  fewer_before : {k j : ℕ} {t : List ℕ} → j ≤ k → LinesFrom room k t → LinesFrom room j t
  fewer_before {k} {j} b (text_end h) = let c : j ≤ room = omega arith in text_end c
  fewer_before {k} {j} b (line_end e h r) = let c : j + 1 ≤ room = omega arith in line_end e c r
  fewer_before {k} {j} b (in_line d r) = let c : j + 1 ≤ k + 1 = omega arith in in_line d (fewer_before c r)

  -- Any bytes before a text add at most their number to its first line.
  bytes_before : (p : List ℕ) (k : ℕ) (rest : List ℕ) → LinesFrom room (k + length p) rest → LinesFrom room k (p ++ rest)
  bytes_before [] k rest h = let e : k + 0 ≡ k = omega arith in subst (λ i. LinesFrom room i rest) e h
  bytes_before (b ∷ p) k rest h = by (λ i g. bytes_before p i rest g) (ℕ_discrete b newline)
    where
      by : ((i : ℕ) → LinesFrom room (i + length p) rest → LinesFrom room i (p ++ rest)) → Dec (b ≡ newline) → LinesFrom room k (b ∷ (p ++ rest))
      by more (yes e) =
          let f = lines_fit h in
          let c : 0 + length p ≤ k + suc (length p) = omega arith in
          let d : k + 1 ≤ room = omega arith in
          line_end e d (more 0 (fewer_before c h))
      by more (no d) = let e : k + suc (length p) ≡ k + 1 + length p = omega arith in in_line d (more (k + 1) (subst (λ i. LinesFrom room i rest) e h))

  -- One line.
  line_whole : (p : List ℕ) → length p + 1 ≤ room → Whole room (p ++ (newline ∷ []))
  line_whole p h =
      record {
        before = λ rest r.
            let k : 0 + length p + 1 ≤ room = omega arith in
            subst (λ (l : List ℕ). LinesFrom room 0 l) (sym (append_assoc p (newline ∷ []) rest)) (bytes_before p 0 (newline ∷ rest) (line_end refl k r));
      }

  none_whole : Whole room []
  none_whole = record { before = λ rest r. r }

  both_whole : {p q : List ℕ} → Whole room p → Whole room q → Whole room (p ++ q)
  both_whole {p} {q} f g = record { before = λ rest r. subst (λ (l : List ℕ). LinesFrom room 0 l) (sym (append_assoc p q rest)) (f.before (q ++ rest) (g.before rest r)) }

  whole_within : {p : List ℕ} → Whole room p → LinesWithin room p
  whole_within {p} f = let z : 0 ≤ room = omega arith in subst (λ (l : List ℕ). LinesFrom room 0 l) (append-nil p) (f.before [] (text_end z))

  below_whole : (n : ℕ) (f : ℕ → List ℕ) → ((i : ℕ) → i < n → Whole room (f i)) → Whole room (text_below n f)
  unfolding text_below
  below_whole zero f h = none_whole
  below_whole (suc n) f h = both_whole (below_whole n f (λ i b. h i (omega arith))) (h n (omega arith))

  each_whole : {A : Type 0} {P : A → Type 0} (f : A → List ℕ) → ((a : A) → P a → Whole room (f a)) → {i : ℕ} {l : List A} → EachFrom (λ k. P) i l → Whole room (text_of f l)
  unfolding text_of
  each_whole f h none_from = none_whole
  each_whole f h (more_from {a = a} p r) = both_whole (h a p) (each_whole f h r)

  -- A line of a key and a number of 64 bits.
  number_whole : (key : List ℕ) (x : ℕ) → x < 2 ^ 64 → length key + word_digits + 1 ≤ room → Whole room (line_of key x)
  unfolding line_of
  number_whole key x h k =
      let d : length (decimal x) ≤ word_digits = word_digits_law x h in
      let l : length (key ++ decimal x) ≡ length key + length (decimal x) = length-append key (decimal x) in
      line_whole (key ++ decimal x) (omega arith)

-- ---- plans

-- A keep line.
kept_whole : (mark e : ℕ) → e < 2 ^ 64 → Whole dual_room (kept_line mark e)
unfolding kept_line kept_key
kept_whole mark e h = by (eqb mark 2)
  where
    by : (b : Bool) → Whole dual_room (cond b (line_of kept_key e) [])
    by true = number_whole dual_room kept_key e h (omega arith)
    by false = none_whole dual_room

-- A moat line.
dual_whole : (r : List ℕ) → Bytes r → Whole dual_room (dual_line r)
unfolding dual_line dual_key
dual_whole r h =
    let body = dual_key ++ decimal (value_in r) ++ (colon ∷ []) ++ listed (members_of r) in
    let most = dual_line_le r h in
    let l : length (body ++ (newline ∷ [])) ≡ length body + 1 = length-append body (newline ∷ []) in
    line_whole dual_room body (omega arith)

pub plan_lines : (k c b n : ℕ) (marks records : List ℕ) → k < 2 ^ 64 → c < 2 ^ 64 → b < 2 ^ 64 → n < 2 ^ 64 → length marks ≤ 2 ^ 64 → Bytes records → LinesWithin dual_room (plan_text k c b n marks records)
unfolding plan_text count_lines kept_lines dual_lines terminals_key cost_key bound_key rounds_key
plan_lines k c b n marks records hk hc hb hn few bytes =
    whole_within dual_room
    (both_whole dual_room
    (both_whole dual_room
    (both_whole dual_room
    (both_whole dual_room
    (both_whole dual_room (number_whole dual_room terminals_key k hk (omega arith)) (number_whole dual_room cost_key c hc (omega arith)))
    (number_whole dual_room bound_key b hb (omega arith)))
    (number_whole dual_room rounds_key n hn (omega arith)))
    (below_whole dual_room (length marks) _ (λ e l. let h : e < 2 ^ 64 = omega arith in kept_whole (get_or marks e 0) e h)))
    (below_whole dual_room _ _ (λ i l. dual_whole (record_at records i) (bytes_record_at records i bytes))))

pub refusal_lines : (number place : ℕ) → number < 2 ^ 64 → place < 2 ^ 64 → LinesWithin dual_room (refusal_text number place)
unfolding refusal_text refused_key place_key
refusal_lines number place hn hp =
    whole_within dual_room (both_whole dual_room (number_whole dual_room refused_key number hn (omega arith)) (number_whole dual_room place_key place hp (omega arith)))

-- ---- surveys

edge_whole : (e : Edge) → EdgeDigits e → Whole dual_room (edge_text e)
unfolding edge_text number_text
edge_whole e d =
    let x = e.first in
    let y = e.second in
    let w = e.weight in
    let dx : length (decimal x) ≤ 3 = length_decimal 2 x d.first in
    let dy : length (decimal y) ≤ 3 = length_decimal 2 y d.second in
    let dw : length (decimal w) ≤ 9 = length_decimal 8 w d.weight in
    let a = link_key ++ (decimal x ++ (comma ∷ [])) ++ (decimal y ++ (comma ∷ [])) in
    let l₁ = length-append (link_key ++ (decimal x ++ (comma ∷ []))) (decimal y ++ (comma ∷ [])) in
    let l₂ = length-append link_key (decimal x ++ (comma ∷ [])) in
    let l₃ = length-append (decimal x) (comma ∷ []) in
    let l₄ = length-append (decimal y) (comma ∷ []) in
    let l₅ = length-append a (decimal w) in
    let few : length (a ++ decimal w) + 1 ≤ dual_room = omega arith in
    subst (λ (l : List ℕ). Whole dual_room l) (append_assoc a (decimal w) (newline ∷ [])) (line_whole dual_room (a ++ decimal w) few)

pair_whole : (x : Pair) → PairDigits x → Whole dual_room (pair_text x)
unfolding pair_text number_text
pair_whole x d =
    let v = x.owner in
    let g = x.other in
    let dv : length (decimal v) ≤ 3 = length_decimal 2 v d.owner in
    let dg : length (decimal g) ≤ 3 = length_decimal 2 g d.other in
    let a = also_key ++ (decimal v ++ (comma ∷ [])) in
    let l₁ = length-append also_key (decimal v ++ (comma ∷ [])) in
    let l₂ = length-append (decimal v) (comma ∷ []) in
    let l₃ = length-append a (decimal g) in
    let few : length (a ++ decimal g) + 1 ≤ dual_room = omega arith in
    subst (λ (l : List ℕ). Whole dual_room l) (append_assoc a (decimal g) (newline ∷ [])) (line_whole dual_room (a ++ decimal g) few)

pairs_whole : {groups : List ℕ} {room low i : ℕ} {pairs : List Pair} → PairsPass groups room low i pairs → Whole dual_room (text_of pair_text pairs)
unfolding text_of
pairs_whole no_pair = none_whole dual_room
pairs_whole (next_pair {x = x} f d p r) = both_whole dual_room (pair_whole x d) (pairs_whole r)

-- The text of every survey that reading accepts.
pub survey_lines_law : {groups : List ℕ} {pairs : List Pair} {edges : List Edge} → WithinCounts groups pairs edges → LinesWithin dual_room (render groups pairs edges)
unfolding render pairs_text
survey_lines_law {groups} {pairs} {edges} w =
    let few = w.few_groups in
    let some = w.few_edges in
    let n : length groups < 2 ^ 64 = omega arith in
    let m : length edges < 2 ^ 64 = omega arith in
    whole_within dual_room
    (both_whole dual_room
    (both_whole dual_room
    (both_whole dual_room
    (both_whole dual_room (number_whole dual_room nodes_key (length groups) n (omega arith)) (number_whole dual_room links_key (length edges) m (omega arith)))
    (each_whole dual_room (line_of node_key) (λ g b. number_whole dual_room node_key g (omega arith) (omega arith)) w.each_group))
    (pairs_whole w.each_pair))
    (each_whole dual_room edge_text edge_whole w.each_edge))

-- ---- reasons

-- Tracks have at most four digits, and a comma stands between two.
route_short : (es : List ℕ) → ((i : ℕ) → get_or es i 0 < max_edges) → length (listed es) ≤ 5 * length es - 1
unfolding listed
route_short [] h = omega arith
route_short (e ∷ []) h =
    let below : e < max_edges = h 0 in
    let digits : length (decimal e) ≤ 4 = length_decimal 3 e (omega arith) in
    omega arith
route_short (e ∷ f ∷ es) h =
    let below : e < max_edges = h 0 in
    let digits : length (decimal e) ≤ 4 = length_decimal 3 e (omega arith) in
    let ih : length (listed (f ∷ es)) ≤ 5 * length (f ∷ es) - 1 = route_short (f ∷ es) (λ i. h (suc i)) in
    let a = length-append (decimal e ++ (comma ∷ [])) (listed (f ∷ es)) in
    let b = length-append (decimal e) (comma ∷ []) in
    omega arith

module _ (track mark group low high round : ℕ) (route : List ℕ) (w : ReasonWithin track mark group low high round route) where
  route_whole : Whole longest_reason_line (route_line route)
  unfolding route_line route_key
  route_whole =
      let short = route_short route w.route_tracks in
      let few = w.route_short in
      let l : length (route_key ++ listed route) ≡ 6 + length (listed route) = length-append route_key (listed route) in
      line_whole longest_reason_line (route_key ++ listed route) (omega arith)

  mark_whole : Whole longest_reason_line (mark_text mark group low high round route)
  unfolding mark_text kept_text group_key from_key to_key round_key
  mark_whole = by (eqb mark 2) (eqb mark 0)
    where
      by : (a b : Bool) → Whole longest_reason_line (cond a (line_of group_key group ++ line_of from_key low ++ line_of to_key high ++ route_line route) (cond b (line_of round_key round) []))
      by true b =
          both_whole longest_reason_line
          (both_whole longest_reason_line
          (both_whole longest_reason_line (number_whole longest_reason_line group_key group w.group_fits (omega arith)) (number_whole longest_reason_line from_key low w.low_fits (omega arith)))
          (number_whole longest_reason_line to_key high w.high_fits (omega arith)))
          route_whole
      by false true = number_whole longest_reason_line round_key round w.round_fits (omega arith)
      by false false = none_whole longest_reason_line

  pub reason_lines_law : LinesWithin longest_reason_line (reason_text track mark group low high round route)
  unfolding reason_text track_key mark_key
  reason_lines_law =
      whole_within longest_reason_line
      (both_whole longest_reason_line
      (both_whole longest_reason_line (number_whole longest_reason_line track_key track w.track_fits (omega arith)) (number_whole longest_reason_line mark_key mark w.mark_fits (omega arith)))
      mark_whole)

pub longest_reason_line_law : longest_reason_line ≡ 2241
longest_reason_line_law = refl
