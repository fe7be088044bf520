-- A survey's text with anything behind it: the survey is read, and what follows begins at its end.
use Rattle.std.specs.Prelude.{ℕ, zero, suc, ◌+◌, ◌<◌, ◌≤◌, ◌≡◌, List, [], ◌++◌, length, get_or, take}
use Rattle.std.proofs.Common.{arith, zero-add, ap, sym, ◌∙◌, subst}
use Rattle.base_limits.specs.Limits.{group_numbers, max_pairs}
use Rattle.format_read.specs.Step.{found, ◌then◌}
use Rattle.format_read.specs.Language.{EachFrom, none_from, more_from}
use Rattle.format_read.specs.Number.{also_letter}
use Rattle.format_also.specs.Pair.{Pair, others_of}
use Rattle.format_also.specs.WellFormed.{PairsPass, no_pair, next_pair, NoAlso}
use Rattle.format_also.specs.Laws.Passing.{pairs_few}
use Rattle.format_survey.specs.Line.{Lengths, widest, tests_for, Edge, lines_at, lines_of}
use Rattle.format_survey.specs.Reading.{SurveyText, survey_of}
use Rattle.format_survey.specs.Render.{render}
use Rattle.format_read.proofs.Laws.Step.{then_found, then_value}
use Rattle.format_read.proofs.Laws.Bytes.{byte_not}
use Rattle.format_read.proofs.Laws.Stands.{stands_first, stands_whole, stands_end, stands_head}
use Rattle.format_survey.proofs.Laws.Content.{content_at, content_survey, reads_content, content_then}
use Rattle.format_survey.specs.WellFormed.{WithinCounts, survey_of_text}
use Rattle.format_survey.proofs.Laws.WellFormed.{content_from, never_malformed, within_accepted, accepted_within}
use Rattle.format_write.specs.Key.{terminals_key}
use Rattle.format_write.specs.Text.{count_lines, line_of, plan_text}
use Rattle.format_plan.specs.Plan.{PrintedPlan}
use Rattle.format_plan.specs.WellFormed.{claims_text, plan_words}
use Rattle.survey_core.specs.Sound.{ByteGroups}
use Rattle.check_printed.specs.Verify.{survey_lines_at, prefix_at, survey_in}

-- ---- a survey at the start

-- The survey at the start of a text is what the lines there say.
pub prefix_content : (lent : Lengths) (t : List ℕ) → prefix_at lent t ≡ (content_at (tests_for lent) t 0 then λ x p. found (content_survey x) p)
unfolding prefix_at survey_lines_at lines_at lines_of tests_for
prefix_content lent t = content_then (tests_for lent) t (λ x p. found (content_survey x) p)

-- The survey at the start of a text, as groups, pairs and edges.
pub record Start (t : List ℕ) (s : SurveyText) (at : ℕ) : Type 0 where
  pub groups : List ℕ
  pub pairs : List Pair
  pub edges : List Edge
  pub within : WithinCounts groups pairs edges
  pub word : take at t ≡ render groups pairs edges
  pub says : s ≡ survey_of_text groups pairs edges

pub prefix_start : (lent : Lengths) (t : List ℕ) (s : SurveyText) (at : ℕ) → prefix_at lent t ≡ found s at → Start t s at
unfolding survey_of_text
prefix_start lent t s at e =
    let g = then_value (content_at (tests_for lent) t 0) _ (sym (prefix_content lent t) ∙ e) in
    let w = (reads_content (tests_for lent) (never_malformed lent)).sound t 0 g.0 g.1 (omega arith) g.2 in
    let m = w.member in
    let next : g.1 ≡ at = cc g.3 in
    let same : content_survey g.0 ≡ s = cc g.3 in
    let end : at ≡ 0 + length w.word = sym next ∙ w.ends in
    record {
      groups = g.0.groups;
      pairs = g.0.pairs;
      edges = g.0.edges;
      within = accepted_within lent m;
      word = ap (λ (k : ℕ). take k t) end ∙ w.stands.is ∙ m.word;
      says = sym same ∙ (λ i. survey_of (record { vertices = m.vertices i; edges = m.edges i }) g.0.groups g.0.pairs g.0.edges);
    }

-- ---- its groups

groups_below : {i : ℕ} {l : List ℕ} → EachFrom (λ v g. g < group_numbers) i l → (v : ℕ) → get_or l v 0 < group_numbers
groups_below none_from v = omega arith
groups_below (more_from p r) zero = p
groups_below (more_from p r) (suc v) = groups_below r v

others_below : {groups : List ℕ} {room low i : ℕ} {l : List Pair} → PairsPass groups room low i l → (j : ℕ) → get_or (others_of l) j 0 < group_numbers
unfolding others_of
others_below no_pair j = omega arith
others_below (next_pair f d p r) zero = p.group
others_below (next_pair f d p r) (suc j) = others_below r j

-- Groups and pairs of a survey within the counts are group numbers.
pub within_numbered : (groups : List ℕ) (pairs : List Pair) (edges : List Edge) → WithinCounts groups pairs edges → ByteGroups (survey_in (survey_of_text groups pairs edges))
unfolding survey_of_text survey_of
within_numbered groups pairs edges w = record { own_byte = groups_below w.each_group; other_byte = others_below w.each_pair }

-- So are those that are read.
pub prefix_numbered : (lent : Lengths) (t : List ℕ) {s : SurveyText} {at : ℕ} → prefix_at lent t ≡ found s at → ByteGroups (survey_in s)
prefix_numbered lent t {s} {at} e =
    let g = prefix_start lent t s at e in
    subst (λ (x : SurveyText). ByteGroups (survey_in x)) (sym g.says) (within_numbered g.groups g.pairs g.edges g.within)

-- ---- a rendering at the start

-- A plan's text does not begin like an also line.
not_also : {b : ℕ} → b ≡ 115 → b ≡ also_letter → ⊥
not_also h k = omega arith

pub words_behind : (u : List ℕ) (p : PrintedPlan) → NoAlso (u ++ plan_words p) (length u)
unfolding plan_words claims_text count_lines line_of terminals_key
words_behind u p = byte_not (u ++ plan_words p) (length u) also_letter (λ z. not_also (stands_head (stands_end u (plan_words p))) z)

pub plan_behind : (u : List ℕ) (terminals cost bound rounds : ℕ) (marks records : List ℕ) → NoAlso (u ++ plan_text terminals cost bound rounds marks records) (length u)
unfolding plan_text count_lines line_of terminals_key
plan_behind u terminals cost bound rounds marks records =
    byte_not (u ++ plan_text terminals cost bound rounds marks records) (length u) also_letter (λ z. not_also (stands_head (stands_end u (plan_text terminals cost bound rounds marks records))) z)

-- A rendering is read back from the start of a text, where no also line follows, and the offset behind it is its length.
pub prefix_render : (groups : List ℕ) (pairs : List Pair) (edges : List Edge) (w : List ℕ) → WithinCounts groups pairs edges → NoAlso (render groups pairs edges ++ w) (length (render groups pairs edges))
    → prefix_at widest (render groups pairs edges ++ w) ≡ found (survey_of_text groups pairs edges) (length (render groups pairs edges))
unfolding survey_of_text
prefix_render groups pairs edges w h behind =
    let t = render groups pairs edges in
    let k = pairs_few h.each_pair (omega arith) in
    let e = h.few_edges in
    let few : length pairs ≤ max_pairs = omega arith in
    let a = within_accepted widest groups pairs edges h (record { for_groups = h.few_groups; for_firsts = e; for_seconds = e; for_weights = e; for_owners = few; for_others = few }) in
    let there : NoAlso (t ++ w) (0 + length t) = subst (NoAlso (t ++ w)) (sym (zero-add (length t))) behind in
    let c = (reads_content (tests_for widest) (never_malformed widest)).complete (t ++ w) 0 (content_from groups pairs edges) t a (stands_first t w (stands_whole (t ++ w))) there in
    prefix_content widest (t ++ w) ∙ then_found _ c ∙ ap (λ (p : ℕ). found (survey_of_text groups pairs edges) p) (zero-add (length t))
