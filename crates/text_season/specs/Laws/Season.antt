-- The texts of at most 1,000 surveys, one after the other, print the report over these surveys.
use Rattle.std.specs.Prelude.{ℕ, zero, suc, ◌+◌, ◌≤◌, ◌<◌, ◌≡◌, refl, List, [], ◌∷◌, ◌++◌, map, length, drop}
use Rattle.std.proofs.Common.{arith, ap, sym, ◌∙◌, length-append, drop_at}
use Rattle.std.proofs.Math.ListN.{get_or-eq_default}
use Rattle.base_limits.specs.Verdict.{written}
use Rattle.base_limits.specs.declared.Verdict.TheVariants.{Fine}
use Rattle.format_write.specs.Text.{line_of}
use Rattle.format_read.specs.Number.{also_letter}
use Rattle.format_read.proofs.Laws.Bytes.{byte_not}
use Rattle.format_read.proofs.Laws.Stands.{stands_head, stands_end}
use Rattle.format_also.specs.WellFormed.{NoAlso}
use Rattle.format_survey.specs.Render.{render}
use Rattle.survey_core.specs.Survey.{Survey}
use Rattle.check_printed.specs.Laws.Prefix.{prefix_render}
use Rattle.season_rule.specs.declared.Report.{Report}
use Rattle.season_rule.specs.Figures.{figures}
use Rattle.season_rule.specs.Report.{max_surveys, empty_report, season_refusal, add_survey, add_surveys, season_of}
use Rattle.season_rule.specs.Text.{report_text}
use Rattle.season_rule.proofs.Laws.Season.{season_goes_on}
use Rattle.text_season.specs.declared.TextAdded.{TextAdded}
use Rattle.text_season.specs.Added.{survey_added, added_from, text_added, answer_text}
use Rattle.text_season.specs.Season.{texts_added, season_output, Rendered, rendered_text, rendered_survey, texts_of}

-- ---- what stands behind a text

none_also : {b : ℕ} → b ≡ 0 → b ≡ also_letter → ⊥
none_also h k = omega arith

node_also : {b : ℕ} → b ≡ 110 → b ≡ also_letter → ⊥
node_also h k = omega arith

behind : (u : List ℕ) (xs : List Rendered) → NoAlso (u ++ texts_of xs) (length u)
unfolding texts_of rendered_text render line_of
behind u [] =
    let long = length-append u [] in
    byte_not (u ++ []) (length u) also_letter (λ z. none_also (get_or-eq_default (u ++ []) 0 {n = length u} (omega arith)) z)
behind u (x ∷ xs) =
    byte_not (u ++ texts_of (x ∷ xs)) (length u) also_letter (λ z. node_also (stands_head (stands_end u (texts_of (x ∷ xs)))) z)

-- ---- one text

some_text : (x : Rendered) (xs : List Rendered) → 0 < length (texts_of (x ∷ xs))
unfolding texts_of rendered_text render line_of
some_text x xs = omega arith

text_added_law : (r : Report) (x : Rendered) (xs : List Rendered) → text_added r (texts_of (x ∷ xs)) ≡ survey_added r (length (rendered_text x)) (rendered_survey x)
unfolding text_added added_from texts_of rendered_text rendered_survey
text_added_law r x xs =
    ap (added_from r) (prefix_render x.groups x.pairs x.edges (texts_of xs) x.within (behind (render x.groups x.pairs x.edges) xs))

texts_none : (k : ℕ) (r : Report) → ◌≡◌ {A = TextAdded} (texts_added k r []) (record { verdict = Fine; used = 0; report = r })
unfolding texts_added
texts_none zero r = refl
texts_none (suc k) r = refl

texts_next : (k : ℕ) (r : Report) (t : List ℕ) → 0 < length t
    → texts_added (suc k) r t ≡ written (text_added r t).verdict (texts_added k (text_added r t).report (drop (text_added r t).used t)) (text_added r t)
unfolding texts_added
texts_next k r [] h = absurd (omega arith)
texts_next k r (b ∷ t) h = refl

texts_more : (k : ℕ) (r : Report) (x : Rendered) (xs : List Rendered) → season_refusal r (figures (rendered_survey x)) ≡ Fine
    → texts_added (suc k) r (texts_of (x ∷ xs)) ≡ texts_added k (add_survey r (rendered_survey x)) (texts_of xs)
unfolding survey_added written texts_of
texts_more k r x xs fine =
    let t = texts_of (x ∷ xs) in
    let s = rendered_survey x in
    texts_next k r t (some_text x xs)
    ∙ ap (λ (a : TextAdded). written a.verdict (texts_added k a.report (drop a.used t)) a) (text_added_law r x xs)
    ∙ ap (λ v. written v (texts_added k (add_survey r s) (drop (length (rendered_text x)) t)) (survey_added r (length (rendered_text x)) s)) fine
    ∙ ap (texts_added k (add_survey r s)) (drop_at (rendered_text x) (texts_of xs) (length (rendered_text x)) refl)

-- ---- all texts

surveys_last : (r : Report) (done : List Survey) (s : Survey) → add_surveys r (done ++ (s ∷ [])) ≡ add_survey (add_surveys r done) s
unfolding add_surveys
surveys_last r [] s = refl
surveys_last r (d ∷ done) s = surveys_last (add_survey r d) done s

texts_added_law : (xs : List Rendered) (k : ℕ) (r : Report) (done : List Survey) → r ≡ season_of done → length xs ≤ k → length done + length xs ≤ max_surveys
    → ◌≡◌ {A = TextAdded} (texts_added k r (texts_of xs)) (record { verdict = Fine; used = 0; report = add_surveys r (map rendered_survey xs) })
unfolding texts_of add_surveys season_of
texts_added_law [] k r done e h few = texts_none k r
texts_added_law (x ∷ xs) zero r done e h few = absurd (omega arith)
texts_added_law (x ∷ xs) (suc k) r done e h few =
    let s = rendered_survey x in
    let fine : season_refusal r (figures s) ≡ Fine = ap (λ y. season_refusal y (figures s)) e ∙ season_goes_on done (omega arith) s in
    let long = length-append done (s ∷ []) in
    texts_more k r x xs fine
    ∙ texts_added_law xs k (add_survey r s) (done ++ (s ∷ [])) (ap (λ y. add_survey y s) e ∙ sym (surveys_last empty_report done s)) (omega arith) (omega arith)

pub season_texts : (xs : List Rendered) → length xs ≤ max_surveys → season_output (texts_of xs) ≡ report_text (season_of (map rendered_survey xs))
unfolding season_output answer_text season_of add_surveys empty_report
season_texts xs few =
    ap (λ (a : TextAdded). answer_text a.verdict a.report) (texts_added_law xs (max_surveys + 1) empty_report [] refl (omega arith) (omega arith))
