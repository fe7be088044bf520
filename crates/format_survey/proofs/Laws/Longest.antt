-- How long a well-formed text within the counts can be (document 01, 'Survey text and printed plan'; with the also lines and ends of document 02, No. 2,
-- the prices of No. 6 and the junctions of No. 8, 56,277 bytes), and that there is one so long.
use Rattle.std.specs.Prelude.{ℕ, ◌+◌, ◌*◌, ◌≤◌, ◌<◌, ◌≡◌, refl, List, [], ◌++◌, length}
use Rattle.std.proofs.Common.{arith, ap, sym, subst, length-append}
use Rattle.format_read.proofs.Laws.NumberWord.{line_most, number_most}
use Rattle.base_limits.specs.Limits.{max_vertices, max_edges, survey_room, group_digits, endpoint_digits, weight_digits}
use Rattle.base_limits.specs.Verdict.{answer}
use Rattle.format_write.specs.Key.{nodes_key, links_key, node_key, link_key, comma, newline}
use Rattle.format_write.specs.Text.{line_of}
use Rattle.format_also.specs.Pair.{Pair, PairDigits}
use Rattle.format_also.specs.Render.{pair_text, pairs_text, pair_bytes}
use Rattle.format_also.specs.Laws.Word.{pair_length}
use Rattle.format_also.specs.Laws.Passing.{pairs_well}
use Rattle.format_survey.specs.Line.{Edge, EdgeDigits, Lengths}
use Rattle.format_survey.specs.Reading.{SurveyText, reading}
use Rattle.format_read.specs.Number.{number_text, line_bytes}
use Rattle.format_survey.specs.LinesRender.{edge_text}
use Rattle.format_read.specs.Lines.{text_of}
use Rattle.format_survey.specs.Render.{render, edge_bytes, longest_text}
use Rattle.format_read.specs.Language.{EachFrom, none_from, more_from, Each, none, more}
use Rattle.format_survey.specs.WellFormed.{WellFormed, WithinCounts}
use Rattle.format_survey.proofs.Laws.WellFormed.{accepted_render}
use Rattle.format_read.proofs.Laws.Lines.{each_map}

edge_most : (x : Edge) → EdgeDigits x → length (edge_text x) ≤ edge_bytes
unfolding edge_text
edge_most x s =
    let u = number_text comma x.first in
    let v = number_text comma x.second in
    let w = number_text newline x.weight in
    let a = length-append (link_key ++ u ++ v) w in
    let b = length-append (link_key ++ u) v in
    let c = length-append link_key u in
    let d = number_most comma endpoint_digits x.first (omega arith) s.first in
    let e = number_most comma endpoint_digits x.second (omega arith) s.second in
    let f = number_most newline weight_digits x.weight (omega arith) s.weight in
    omega arith

texts_most : {A : Type 0} {P : ℕ → A → Type 0} {i : ℕ} {l : List A} (text : A → List ℕ) (most : ℕ) → ((i : ℕ) (a : A) → P i a → length (text a) ≤ most) → EachFrom P i l → length (text_of text l) ≤ length l * most
unfolding text_of
texts_most text most h none_from = omega arith
texts_most text most h (more_from {i = i} {a = a} {l = l} p r) =
    let ih = texts_most text most h r in
    let x = h i a p in
    let y = length-append (text a) (text_of text l) in
    omega arith

pairs_most : {l : List Pair} → Each PairDigits l → length (pairs_text l) ≤ length l * pair_bytes
unfolding pairs_text text_of
pairs_most none = omega arith
pairs_most (more {a = x} {l = l} p r) =
    let ih = pairs_most r in
    let y = pair_length x p in
    let z = length-append (pair_text x) (pairs_text l) in
    omega arith

pub longest_text_law : {t : List ℕ} (w : WellFormed t) → length w.groups ≤ max_vertices → length w.edges ≤ max_edges → length t ≤ longest_text
unfolding render
longest_text_law {t} w h k =
    let gs = w.groups in
    let es = w.edges in
    let n = line_of nodes_key (length gs) in
    let m = line_of links_key (length es) in
    let g = text_of (line_of node_key) gs in
    let o = pairs_text w.pairs in
    let e = text_of edge_text es in
    let word : length t ≡ length (n ++ m ++ g ++ o ++ e) = ap length w.word in
    let few = w.few_pairs.few in
    let a = length-append (n ++ m ++ g ++ o) e in
    let d = length-append (n ++ m ++ g) o in
    let u = pairs_most w.few_pairs.digits in
    let b = length-append (n ++ m) g in
    let c = length-append n m in
    let p : length n ≤ line_bytes nodes_key 3 = line_most nodes_key 3 (length gs) (omega arith) (omega arith) in
    let q : length m ≤ line_bytes links_key 4 = line_most links_key 4 (length es) (omega arith) (omega arith) in
    let r : length g ≤ length gs * line_bytes node_key group_digits = texts_most (line_of node_key) (line_bytes node_key group_digits) (λ i x s. line_most node_key group_digits x (omega arith) s) w.each_group in
    let s : length e ≤ length es * edge_bytes = texts_most edge_text edge_bytes (λ i x s. edge_most x s) w.each_edge in
    omega arith

-- The text of a survey within the counts is no longer.
pub longest_within : {groups : List ℕ} {pairs : List Pair} {edges : List Edge} → WithinCounts groups pairs edges → length (render groups pairs edges) ≤ longest_text
longest_within {groups} {pairs} {edges} w =
    let few = w.few_groups in
    let some = w.few_edges in
    longest_text_law
    (record {
      groups = groups;
      pairs = pairs;
      edges = edges;
      few_groups = omega arith;
      few_edges = omega arith;
      each_group = each_map (λ v g h. omega arith) w.each_group;
      few_pairs = pairs_well w.each_pair;
      each_edge = w.each_edge;
      word = refl;
    })
    few some

-- A text that is read is no longer.
pub longest_read : (t : List ℕ) (lent : Lengths) (s : SurveyText) → reading t lent ≡ answer s → length t ≤ longest_text
longest_read t lent s e =
    let a = accepted_render lent t s e in
    subst (λ (x : List ℕ). length x ≤ longest_text) (sym a.word) (longest_within a.within)

pub longest_is : longest_text ≡ 56277
longest_is = refl

-- The program reads more.
pub longest_below : longest_text < survey_room
longest_below = omega arith
