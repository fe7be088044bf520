-- What an STP file within the limits says is a survey within the counts of our own text: its groups are bytes, its ends have three digits.
use Rattle.std.specs.Prelude.{ℕ, zero, suc, ◌+◌, ◌≤◌, ◌<◌, List, [], ◌≡◌, refl, length, set, replicate}
use Rattle.std.proofs.Common.{arith, ap, sym, ◌∙◌, subst, length-set}
use Rattle.std.proofs.lemmas.List.{length-replicate}
use Rattle.base_limits.specs.Limits.{max_vertices, group_numbers}
use Rattle.base_limits.specs.Verdict.{answer}
use Rattle.format_read.specs.Language.{Text, EachFrom, none_from, more_from}
use Rattle.format_also.specs.WellFormed.{no_pair}
use Rattle.format_survey.specs.Line.{Edge, EdgeDigits}
use Rattle.format_survey.specs.WellFormed.{WithinCounts}
use Rattle.format_stp.proofs.Laws.Accepted.{accepted_in}
use Rattle.format_stp.proofs.Laws.Grammar.{text_factored}
use Rattle.format_stp.specs.StpReading.{StpContent, stp_reading}
use Rattle.format_stp.specs.StpWord.{AfterEmpty, Repeated, none, one}
use Rattle.format_stp.specs.Subset.{StpEdgeIn, stp_edge_text, TerminalLines, StpFactored}
use Rattle.format_stp.specs.Subset.{none as no_line, one as one_line_law}

-- ---- tracks

tracks_each : {n count : ℕ} {es : List Edge} {w : List ℕ} (i : ℕ) → n ≤ max_vertices → Repeated (AfterEmpty (Text (StpEdgeIn n) stp_edge_text)) count es w → EachFrom (λ e. EdgeDigits) i es
tracks_each i h none = none_from
tracks_each {n} i h (one {a = e} m r) =
    let x = m.member.holds in
    let a = x.first in
    let b = x.second in
    more_from {a = e} (record { first = omega arith; second = omega arith; weight = x.weight }) (tracks_each (i + 1) h r)

tracks_many : {n count : ℕ} {es : List Edge} {w : List ℕ} → Repeated (AfterEmpty (Text (StpEdgeIn n) stp_edge_text)) count es w → length es ≡ count
tracks_many none = refl
tracks_many (one m r) = ap suc (tracks_many r)

-- ---- groups

abbrev Byte : ℕ → ℕ → Type 0
Byte v g = g < group_numbers

zeros_each : (n i : ℕ) → EachFrom Byte i (replicate n 0)
zeros_each zero i = none_from
zeros_each (suc n) i = more_from {i = i} {a = 0} (omega arith) (zeros_each n (i + 1))

set_each : {i : ℕ} {l : List ℕ} (v : ℕ) → EachFrom Byte i l → EachFrom Byte i (set l v 1)
set_each v none_from = none_from
set_each zero (more_from {i = i} g r) = more_from {i = i} {a = 1} (omega arith) r
set_each (suc v) (more_from g r) = more_from g (set_each v r)

terminals_each : {n count : ℕ} {front after w : List ℕ} → TerminalLines n count front after w → EachFrom Byte 0 front → EachFrom Byte 0 after
terminals_each no_line h = h
terminals_each (one_line_law {v = v} m r) h = terminals_each r (set_each v h)

terminals_many : {n count : ℕ} {front after w : List ℕ} → TerminalLines n count front after w → length after ≡ length front
terminals_many no_line = refl
terminals_many (one_line_law {before = b} {v = v} m r) = terminals_many r ∙ length-set b v 1

-- ---- the file

-- What a file says, in lengths and members.
record Says (x : StpContent) : Type 0 where
  groups : EachFrom Byte 0 x.groups
  tracks : x.vertices ≤ max_vertices → EachFrom (λ e. EdgeDigits) 0 x.lines
  vertices : length x.groups ≡ x.vertices
  edges : length x.lines ≡ x.edges

says : (x : StpContent) (t : List ℕ) → StpFactored x t → Says x
says x t m =
    let counts = m.member.second in
    let body = counts.second.second in
    let section = body.second in
    let lines = section.first.second.second.second in
    let gs : lines.value ≡ section.value = sym lines.second.second.second.value in
    let n = counts.value in
    let is : record { vertices = n; edges = counts.second.value; groups = section.value; lines = body.value } ≡ x = sym section.second.value in
    subst Says is
    (record {
      groups = subst (EachFrom Byte 0) gs (terminals_each lines.first (zeros_each n 0));
      tracks = λ h. tracks_each 0 h body.first;
      vertices = ap length (sym gs) ∙ terminals_many lines.first ∙ length-replicate {A = ℕ} n 0;
      edges = tracks_many body.first;
    })

pub stp_within : (t groups firsts seconds weights : List ℕ) (x : StpContent) → stp_reading t groups firsts seconds weights ≡ answer x → WithinCounts x.groups [] x.lines
stp_within t groups firsts seconds weights x e =
    let a = accepted_in groups firsts seconds weights t x e in
    let s = says x t (text_factored a.0) in
    let f = a.1 in
    let v = s.vertices in
    let m = s.edges in
    let some = f.some in
    let most = f.most_vertices in
    let few = f.most_edges in
    record {
      some = omega arith;
      few_groups = omega arith;
      few_edges = omega arith;
      each_group = s.groups;
      each_pair = no_pair;
      each_edge = s.tracks most;
    }

-- As many groups and tracks as the counts say.
pub stp_sizes : (t groups firsts seconds weights : List ℕ) (x : StpContent) → stp_reading t groups firsts seconds weights ≡ answer x → (length x.groups ≡ x.vertices) × (length x.lines ≡ x.edges)
stp_sizes t groups firsts seconds weights x e = let s = says x t (text_factored (accepted_in groups firsts seconds weights t x e).0) in (s.vertices, s.edges)
