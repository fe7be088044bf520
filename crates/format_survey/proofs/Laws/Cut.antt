-- How far reading looks: no farther than the longest text and the bytes that show that a number or a text does not end. So what stands
-- beyond 65,536 bytes changes nothing (document 01, 'Survey text and printed plan').
use Rattle.std.specs.Prelude.{ℕ, ◌+◌, ◌*◌, ◌≤◌, ◌≡◌, refl, List, take}
use Rattle.std.proofs.Common.{arith, ap, sym, ◌∙◌, take-take}
use Rattle.format_read.specs.Number.{line_bytes}
use Rattle.format_survey.specs.Render.{edge_bytes}
use Rattle.base_limits.specs.Limits.{max_vertices, max_edges, count_digits, group_digits, endpoint_digits, weight_digits, survey_room}
use Rattle.format_write.specs.Key.{comma, newline, nodes_key, links_key, node_key, link_key}
use Rattle.format_survey.specs.Line.{Lengths, pair_room, Tests, tests_for, vertices_test, edges_test, group_test, count_line, group_line, group_lines, edge_line, edge_lines}
use Rattle.format_survey.specs.Reading.{survey_at, step_outcome, reading}
use Rattle.format_survey.proofs.Laws.Tests.{vertices_passed, edges_passed}
use Rattle.format_survey.proofs.Laws.Content.{content_with, content_survey, content_at, content_survey_law}
use Rattle.format_read.specs.Bytes.{end_at}
use Rattle.format_read.specs.Language.{LooksWithin, Any}
use Rattle.format_read.proofs.Laws.Local.{local_value, local_then, local_as, local_fixed, local_lines, local_end}
use Rattle.format_read.specs.Lines.{lines_from, whole}
use Rattle.format_read.specs.Step.{found, ◌then◌}
use Rattle.format_read.proofs.Laws.Near.{local_number, local_tested}
use Rattle.format_also.specs.Laws.Near.{also_look, local_also}

local_edge : (e : ℕ) → LooksWithin (λ t at. edge_line t e at) edge_bytes Any
unfolding edge_line
local_edge e =
    local_as (λ t at. refl) (omega arith) (λ a x. tt)
    (local_then {Q = Any} (local_fixed link_key) λ z x.
    local_then {Q = Any} (local_number endpoint_digits comma (omega arith)) λ u x.
    local_then {Q = Any} (local_number endpoint_digits comma (omega arith)) λ v x.
    local_then {Q = Any} (local_number weight_digits newline (omega arith)) λ w x.
    local_value (record { first = u; second = v; weight = w }))

-- How many bytes are looked at.
abbrev pub farthest_look : ℕ
farthest_look = line_bytes nodes_key count_digits + (line_bytes links_key count_digits + (max_vertices * line_bytes node_key group_digits + (also_look + (max_edges * edge_bytes + 1))))

module _ (lent : Lengths) where
  abbrev tests : Tests
  tests = tests_for lent

  local_content : LooksWithin (content_at tests) (line_bytes nodes_key count_digits + (line_bytes links_key count_digits + (max_vertices * line_bytes node_key group_digits + (also_look + (max_edges * edge_bytes + 0))))) Any
  unfolding content_at count_line group_lines group_line edge_lines tests_for
  local_content =
      local_then {Q = Any} (local_tested nodes_key count_digits (omega arith) (vertices_test lent.groups)) λ n x.
      local_then {Q = Any} (local_tested links_key count_digits (omega arith) (edges_test lent.firsts lent.seconds lent.weights)) λ m y.
      local_then {Q = Any} (few_groups_law n (vertices_passed lent.groups n x).most) λ gs z.
      local_then {Q = Any} (local_also gs (pair_room lent)) λ ps z.
      local_then {Q = Any} (few_edges_law m (edges_passed lent.firsts lent.seconds lent.weights m y).most) λ es z.
      local_value (content_with n m gs ps es)
    where
      few_groups_law : (n : ℕ) → n ≤ max_vertices → LooksWithin (λ t at. whole (lines_from (group_line group_test t) n 0 at)) (max_vertices * line_bytes node_key group_digits) Any
      few_groups_law n h = local_as (λ t at. refl) (omega arith) (λ a x. tt) (local_lines (group_line group_test) (line_bytes node_key group_digits) (λ i. local_as (λ t at. refl) (omega arith) (λ a x. tt) (local_tested node_key group_digits (omega arith) (group_test i))) n 0)

      few_edges_law : (m : ℕ) → m ≤ max_edges → LooksWithin (λ t at. whole (lines_from (edge_line t) m 0 at)) (max_edges * edge_bytes) Any
      few_edges_law m h = local_as (λ t at. refl) (omega arith) (λ a x. tt) (local_lines edge_line edge_bytes local_edge m 0)

  survey_same : (t u : List ℕ) → take farthest_look t ≡ take farthest_look u → survey_at tests t ≡ survey_at tests u
  survey_same t u e = content_survey_law tests t ∙ whole_survey.same t u 0 e ∙ sym (content_survey_law tests u)
    where
      whole_survey : LooksWithin (λ t at. content_at tests t at then λ x p. end_at t p then λ z q. found (content_survey x) q) farthest_look Any
      whole_survey =
          local_as (λ t at. refl) (omega arith) (λ a x. tt)
          (local_then {Q = Any} local_content λ x y. local_then {Q = Any} local_end λ z y. local_value (content_survey x))

-- Bytes beyond the first k change nothing.
pub reading_cut : (k : ℕ) (t : List ℕ) (lent : Lengths) → farthest_look ≤ k → reading (take k t) lent ≡ reading t lent
unfolding reading
reading_cut k t lent h = ap step_outcome (survey_same lent (take k t) t (take-take farthest_look k t h))

-- A program that reads at most `survey_room` bytes gives the answer of its whole input.
pub reading_first_bytes : (t : List ℕ) (lent : Lengths) → reading (take survey_room t) lent ≡ reading t lent
reading_first_bytes t lent = reading_cut survey_room t lent (omega arith)
