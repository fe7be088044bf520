-- Printing: an entry for the length, and it is the library's own; none, and a buffer of no length is lent on, which is refused.
use Rattle.std.specs.Prelude.{ℕ, ◌+◌, ◌*◌, ◌-◌, ◌<◌, ◌≡◌, refl, Bool, true, false, not, cond, length, take, eqb}
use Rattle.std.proofs.Common.{arith, ◌∙◌, length-append, lit<, lt-ltb}
use Rattle.std.proofs.Math.Path.{ap, sym}
use mathlib.Core.List.{List, [], ◌∷◌, ◌++◌, append-nil}
use Rattle.std.proofs.Math.ListN.{set, drop}
use Rattle.std.proofs.Math.Dec.{ltb}
use Rattle.base_limits.specs.Limits.{record_bytes}
use Rattle.base_limits.specs.Verdict.{refuse_if, ◌before◌, written}
use Rattle.base_limits.specs.declared.Verdict.{Verdict}
use Rattle.base_limits.specs.declared.Verdict.TheVariants.{Fine, Refused}
use Rattle.base_limits.specs.Laws.Verdict.{before_none, before_assoc}
use Rattle.format_write.specs.Key.{terminals_key, cost_key, bound_key, rounds_key, dual_key, nodes_key, links_key, node_key, colon, newline}
use Rattle.format_record.specs.Record.{value_in}
use Rattle.format_write.specs.Decimal.{decimal}
use Rattle.format_write.specs.Text.{line_of, listed, members_of, dual_line, kept_lines, dual_lines, count_lines, plan_text}
use Rattle.format_read.specs.Lines.{text_of}
use Rattle.format_print.specs.Print.{answer_of, out_after, print_refusal, printed, printed_out, dual_print_refusal, dual_printed, dual_printed_out}
use Rattle.format_print.specs.declared.Printed.{Printed}
use Rattle.format_print.specs.declared.Printed.TheVariants.{Length, Refused as PrintRefused}
use Rattle.format_survey.specs.LinesRender.{edge_text}
use Rattle.format_survey.specs.Render.{render}
use Rattle.format_also.specs.Render.{pairs_text}
use Rattle.format_survey.specs.Reading.{SurveyText}
use Rattle.format_survey_print.specs.Print.{edges_in, pairs_in, survey_text, survey_print_refusal, survey_printed, survey_printed_out}
use Rattle.api_code.specs.Code.{place_unit, code_of, capped, counts_after, lent_on}
use Rattle.api_code.specs.Laws.Encodable.{Encodable, encodable_before, encodable_refuse, encodable_fine, at_zero, capped_code}
use Rattle.api_code.specs.Laws.Lending.{lent_part, lent_rest}
use Rattle.api_print.specs.Call.{print_figures, with_length, printed_code, printed_counts, dual_call, dual_out, dual_counts, text_call, text_out, text_counts, survey_call, survey_out, survey_counts}

printed_code_law : (v : Verdict) (text : List ℕ) → printed_code (answer_of v text) ≡ code_of v
unfolding answer_of printed_code code_of
printed_code_law Fine text = refl
printed_code_law (Refused number place) text = refl

printed_counts_law : (v : Verdict) (text counts : List ℕ) → printed_counts (answer_of v text) counts ≡ counts_after v (length text ∷ []) counts
unfolding answer_of printed_counts counts_after written
printed_counts_law Fine text counts = refl
printed_counts_law (Refused number place) text counts = refl

-- The arms of `printed_code`.
module _ {p : Printed} where
  pub refused_answers : {number place code : ℕ} (counts : List ℕ) → p ≡ PrintRefused number place → code ≡ capped (number + place_unit * place)
      → (code ≡ capped (printed_code p)) × (counts ≡ printed_counts p counts)
  unfolding printed_code printed_counts
  refused_answers counts e h = (h ∙ sym (ap (λ (q : Printed). capped (printed_code q)) e), sym (ap (λ (q : Printed). printed_counts q counts) e))

  pub length_answers : {n x : ℕ} {counts' : List ℕ} (counts : List ℕ) → p ≡ Length n → x ≡ n → counts' ≡ set counts 0 x
      → (0 ≡ capped (printed_code p)) × (counts' ≡ printed_counts p counts)
  unfolding capped printed_code printed_counts
  length_answers counts e same h =
      (sym (ap (λ (q : Printed). capped (printed_code q)) e), h ∙ ap (λ (n : ℕ). set counts 0 n) same ∙ sym (ap (λ (q : Printed). printed_counts q counts) e))

before_either : (v : Verdict) (b : Bool) → (v before Refused 7 0) ≡ ((v before refuse_if b 7 0) before Refused 7 0)
unfolding ◌before◌ refuse_if
before_either Fine true = refl
before_either Fine false = refl
before_either (Refused number place) b = refl

-- A text that is not empty has no room in a buffer of no length.
empty_refused : (first : Verdict) (text : List ℕ) → 0 < length text → (first before print_refusal text []) ≡ (first before Refused 7 0)
unfolding print_refusal refuse_if
empty_refused first text some = rw (lt-ltb 0 (length text) some)

-- So lending nothing on where the counts do not fit is what the call refuses.
lent_verdict : (first : Verdict) (text out : List ℕ) (b : Bool) → 0 < length text
    → (first before print_refusal text (cond b [] out)) ≡ ((first before print_refusal text out) before refuse_if b 7 0)
unfolding refuse_if print_refusal
lent_verdict first text out true some = empty_refused first text some ∙ before_either first (ltb (length out) (length text))
lent_verdict first text out false some = sym (before_none (first before print_refusal text out))

out_kept : (v : Verdict) (text out : List ℕ) → out_after (v before Refused 7 0) text [] ++ out ≡ out_after (v before Refused 7 0) text out
unfolding out_after written ◌before◌
out_kept Fine text out = refl
out_kept (Refused number place) text out = refl

out_rest : (first : Verdict) (text out : List ℕ) (b : Bool) → 0 < length text
    → out_after (first before print_refusal text (cond b [] out)) text (cond b [] out) ++ cond b out [] ≡ out_after (first before print_refusal text (cond b [] out)) text out
out_rest first text out true some = rw (empty_refused first text some) (out_kept first text out)
out_rest first text out false some = append-nil (out_after (first before print_refusal text out) text out)

print_encodable : (first : Verdict) (text out : List ℕ) → Encodable first → Encodable (first before print_refusal text out)
unfolding print_refusal
print_encodable first text out h = encodable_before _ _ h λ _. encodable_refuse _ (at_zero 7 (lit< tt) (lit< tt))

-- The three clauses of a call that prints, where so much of the buffer is lent on: what is refused first, then a text and the buffer for it.
module _ (first : Verdict) (text out counts : List ℕ) {room : ℕ} (lent : room ≡ lent_on (length counts) print_figures (length out)) (some : 0 < length text) (fits : Encodable first) where
  print_into : {r : Printed} {code : ℕ} {held counts' : List ℕ} → r ≡ answer_of (first before print_refusal text (take (room - 0) out)) text → held ≡ out_after (first before print_refusal text (take (room - 0) out)) text (take (room - 0) out)
      → code ≡ capped (printed_code r) → counts' ≡ printed_counts r counts
      → (code ≡ code_of (with_length (first before print_refusal text out) (length counts)))
      × ((held ++ drop (room - 0) out ≡ out_after (with_length (first before print_refusal text out) (length counts)) text out)
      × (counts' ≡ counts_after (with_length (first before print_refusal text out) (length counts)) (length text ∷ []) counts))
  unfolding with_length
  print_into {r} answered left coded stored =
      let short = ltb (length counts) print_figures in
      let found = first before print_refusal text (cond short [] out) in
      let call_is = lent_verdict first text out short some in
      let part = lent_part (length counts) print_figures out lent in
      let answer : r ≡ answer_of found text = answered ∙ ap (λ (l : List ℕ). answer_of (first before print_refusal text l) text) part in (
        coded ∙ ap (λ (p : Printed). capped (printed_code p)) answer ∙ ap capped (printed_code_law found text)
            ∙ capped_code found (print_encodable first text (cond short [] out) fits) ∙ ap code_of call_is,
        (
          ap (λ (l : List ℕ). l ++ drop (room - 0) out) (left ∙ ap (λ (l : List ℕ). out_after (first before print_refusal text l) text l) part)
              ∙ ap (λ (l : List ℕ). out_after found text (cond short [] out) ++ l) (lent_rest (length counts) print_figures out lent)
              ∙ out_rest first text out short some
              ∙ ap (λ (v : Verdict). out_after v text out) call_is,
          stored ∙ ap (λ (p : Printed). printed_counts p counts) answer ∙ printed_counts_law found text counts
              ∙ ap (λ (v : Verdict). counts_after v (length text ∷ []) counts) call_is,
        ),
      )

-- ---- no text is empty

some_last : (w : List ℕ) (b : ℕ) → 0 < length (w ++ (b ∷ []))
some_last w b = let a = length-append w (b ∷ []) in omega arith

pub some_left : (w x : List ℕ) → 0 < length w → 0 < length (w ++ x)
some_left w x h = let a = length-append w x in omega arith

pub some_line : (key : List ℕ) (x : ℕ) → 0 < length (line_of key x)
unfolding line_of
some_line key x = some_last (key ++ decimal x) newline

some_dual : (part : List ℕ) → 0 < length (dual_line part)
unfolding dual_line
some_dual part = some_last (dual_key ++ decimal (value_in part) ++ (colon ∷ []) ++ listed (members_of part)) newline

some_plan : (k c b r : ℕ) (marks records : List ℕ) → 0 < length (plan_text k c b r marks records)
unfolding plan_text count_lines
some_plan k c b r marks records =
    some_left (count_lines k c b r ++ kept_lines marks) (dual_lines records)
    (some_left (count_lines k c b r) (kept_lines marks)
    (some_left (line_of terminals_key k ++ line_of cost_key c ++ line_of bound_key b) (line_of rounds_key r)
    (some_left (line_of terminals_key k ++ line_of cost_key c) (line_of bound_key b) (some_left (line_of terminals_key k) (line_of cost_key c) (some_line terminals_key k)))))

some_survey : (s : SurveyText) → 0 < length (survey_text s)
unfolding survey_text render
some_survey s =
    let n = line_of nodes_key (length s.groups) in
    let m = line_of links_key (length (edges_in s)) in
    let gs = text_of (line_of node_key) s.groups in
    let ps = pairs_text (pairs_in s) in
    some_left (n ++ m ++ gs ++ ps) (text_of edge_text (edges_in s))
    (some_left (n ++ m ++ gs) ps (some_left (n ++ m) gs (some_left n m (some_line nodes_key (length s.groups)))))

-- ---- a moat line

abbrev cut : List ℕ → Verdict
cut part = refuse_if (not (eqb (length part) record_bytes)) 9 0

-- Counts that do not fit: 9, else 7.
pub dual_short : (part out counts : List ℕ) → length counts < print_figures → dual_call part out counts ≡ (refuse_if (not (eqb (length part) record_bytes)) 9 0 before Refused 7 0)
unfolding dual_call dual_print_refusal print_refusal with_length refuse_if
dual_short part out counts short = rw (lt-ltb (length counts) print_figures short) (sym (before_either (cut part) (ltb (length out) (length (dual_line part)))))

pub dual_into : (part out counts : List ℕ) {room : ℕ} {r : Printed} {code : ℕ} {held counts' : List ℕ} → room ≡ lent_on (length counts) print_figures (length out)
    → r ≡ dual_printed part (take (room - 0) out) → held ≡ dual_printed_out part (take (room - 0) out) → code ≡ capped (printed_code r) → counts' ≡ printed_counts r counts
    → (code ≡ code_of (dual_call part out counts)) × ((held ++ drop (room - 0) out ≡ dual_out part out counts) × (counts' ≡ dual_counts part out counts))
unfolding dual_call dual_out dual_counts dual_printed dual_printed_out dual_print_refusal
dual_into part out counts lent e o k c = print_into (cut part) (dual_line part) out counts lent (some_dual part) (encodable_refuse _ (at_zero 9 (lit< tt) (lit< tt))) e o k c

-- ---- a plan

-- Any text that is not empty.
pub text_into : (text out counts : List ℕ) → 0 < length text → {room : ℕ} {r : Printed} {code : ℕ} {held counts' : List ℕ} → room ≡ lent_on (length counts) print_figures (length out)
    → r ≡ printed text (take (room - 0) out) → held ≡ printed_out text (take (room - 0) out) → code ≡ capped (printed_code r) → counts' ≡ printed_counts r counts
    → (code ≡ code_of (text_call text out counts)) × ((held ++ drop (room - 0) out ≡ text_out text out counts) × (counts' ≡ text_counts text out counts))
unfolding text_call text_out text_counts printed printed_out ◌before◌
text_into text out counts some lent e o k c = print_into Fine text out counts lent some encodable_fine e o k c

pub plan_into : (k c b n : ℕ) (marks records out counts : List ℕ) {room : ℕ} {r : Printed} {code : ℕ} {held counts' : List ℕ} → room ≡ lent_on (length counts) print_figures (length out)
    → r ≡ printed (plan_text k c b n marks records) (take (room - 0) out) → held ≡ printed_out (plan_text k c b n marks records) (take (room - 0) out)
    → code ≡ capped (printed_code r) → counts' ≡ printed_counts r counts
    → (code ≡ code_of (text_call (plan_text k c b n marks records) out counts))
    × ((held ++ drop (room - 0) out ≡ text_out (plan_text k c b n marks records) out counts) × (counts' ≡ text_counts (plan_text k c b n marks records) out counts))
plan_into k c b n marks records out counts lent e o x l = text_into (plan_text k c b n marks records) out counts (some_plan k c b n marks records) lent e o x l

-- ---- a survey

abbrev unequal : SurveyText → Verdict
unequal s =
    refuse_if (not (eqb (length s.firsts) (length s.seconds))) 2 0
    before refuse_if (not (eqb (length s.firsts) (length s.weights))) 2 0
    before refuse_if (not (eqb (length s.owners) (length s.others))) 2 0

unequal_encodable : (s : SurveyText) → Encodable (unequal s)
unequal_encodable s =
    encodable_before _ _ (encodable_refuse _ (at_zero 2 (lit< tt) (lit< tt))) λ _.
    encodable_before _ _ (encodable_refuse _ (at_zero 2 (lit< tt) (lit< tt))) λ _. encodable_refuse _ (at_zero 2 (lit< tt) (lit< tt))

-- The tests of lengths, taken together.
unequal_first : (s : SurveyText) (out : List ℕ) → survey_print_refusal s out ≡ (unequal s before print_refusal (survey_text s) out)
unfolding survey_print_refusal
unequal_first s out =
    let first = refuse_if (not (eqb (length s.firsts) (length s.seconds))) 2 0 in
    let second = refuse_if (not (eqb (length s.firsts) (length s.weights))) 2 0 in
    let third = refuse_if (not (eqb (length s.owners) (length s.others))) 2 0 in
    let last = print_refusal (survey_text s) out in
    sym (before_assoc first (second before third) last ∙ ap (λ (v : Verdict). first before v) (before_assoc second third last))

pub survey_into : (s : SurveyText) (out counts : List ℕ) {room : ℕ} {r : Printed} {code : ℕ} {held counts' : List ℕ}
    → room ≡ lent_on (length counts) print_figures (length out) → r ≡ survey_printed s (take (room - 0) out) → held ≡ survey_printed_out s (take (room - 0) out)
    → code ≡ capped (printed_code r) → counts' ≡ printed_counts r counts
    → (code ≡ code_of (survey_call s out counts)) × ((held ++ drop (room - 0) out ≡ survey_out s out counts) × (counts' ≡ survey_counts s out counts))
unfolding survey_call survey_out survey_counts survey_printed survey_printed_out
survey_into s out counts {room} lent e o k c =
    let text = survey_text s in
    let part = unequal_first s (take (room - 0) out) in
    let same = ap (λ (v : Verdict). with_length v (length counts)) (sym (unequal_first s out)) in
    let into =
    print_into (unequal s) text out counts lent (some_survey s) (unequal_encodable s) (e ∙ ap (λ (v : Verdict). answer_of v text) part)
    (o ∙ ap (λ (v : Verdict). out_after v text (take (room - 0) out)) part) k c in
    (into.0 ∙ ap code_of same, (into.1.0 ∙ ap (λ (v : Verdict). out_after v text out) same, into.1.1 ∙ ap (λ (v : Verdict). counts_after v (length text ∷ []) counts) same))
