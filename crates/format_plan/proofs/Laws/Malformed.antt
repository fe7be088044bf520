-- Where refusal 16 stands in a printed plan: at the first byte that fits no well-formed plan (document 01, 'Survey text and printed plan').
use Prim.Native.Nat.{ℕ, ◌+◌, ◌≤◌, ◌<◌}
use Prim.Native.Char.{code}
use native.Mathlib.Omega.{arith}
use Rattle.std.specs.Prelude.{◌≡◌, refl, false, not, List, [], ◌++◌, length, take}
use Rattle.std.proofs.Common.{ap, sym, ◌∙◌, subst, append_assoc, append-nil, length-append, take_at, length-take-le, le-leb}
use Rattle.std.proofs.lemmas.Bool.{lt-leb}
use Rattle.base_limits.specs.Limits.{kept_digits}
use Rattle.format_read.specs.Number.{OfDigits}
use Rattle.base_limits.specs.Verdict.{refusal}
use Rattle.format_write.specs.Key.{kept_key}
use Rattle.format_write.specs.Text.{line_of}
use Rattle.format_read.specs.Step.{Step, found, refused, ◌then◌}
use Rattle.format_read.specs.Lines.{Lines, lines_after, text_of}
use Rattle.format_read.specs.Bytes.{byte_is}
use Rattle.format_read.proofs.Laws.Step.{then_found, then_refused}
use Rattle.format_read.specs.Stands.{Stands}
use Rattle.format_read.proofs.Laws.Stands.{stands_first, stands_second, stands_end}
use Rattle.format_read.specs.Language.{NotMalformed, read, otherwise, Each, none}
use Rattle.format_read.proofs.Laws.Language.{bound, read_again, text_stands}
use Rattle.format_read.specs.Items.{Broken}
use Rattle.format_plan.specs.Lines.{kept_test, keep_reader, kept_at, PrintedDual, dual_test, dual_reader, duals_at}
use Rattle.format_plan.specs.Plan.{Claims, claims_at, PrintedPlan, plan_lines_at, plan_at, with_room, plan_reading}
use Rattle.format_plan.proofs.Laws.Room.{room_refusal_law}
use Rattle.format_read.proofs.Laws.Items.{items_reads_back}
use Rattle.format_plan.proofs.Laws.RoundTrip.{keep_line_reads_back, dual_line_reads_back, claims_reads_back, claims_some, lines_long, line_some, dual_some, no_keep}
use Rattle.format_read.proofs.Laws.Listing.{items_standing, items_broken, broken_items, item_goes, standing_long, broken_place, broken_extends, items_again, items_broken_again, text_from_law, ItemsMet, all_read, one_refused, Tested, met_lines}
use Rattle.format_plan.proofs.Laws.Listed.{kept_not_malformed, dual_not_malformed, lists_kept, lists_duals}
use Rattle.format_plan.proofs.Laws.Accepted.{reads_claims, lines_words, plan_missing}
use Rattle.format_plan.specs.WellFormed.{DualDigits, dual_text, claims_text, plan_words, WellFormedPlan, PlanBegins}

-- ---- a well-formed plan is not refused with 16

-- Keep lines that stand before a byte that begins none.
met_kept : (t : List ℕ) (m : ℕ) {ks : List ℕ} → Each (OfDigits kept_digits) ks → (at end : ℕ) → Stands t at (text_of (line_of kept_key) ks) → end ≡ at + length (text_of (line_of kept_key) ks) → byte_is t end (code "k") ≡ false
    → ItemsMet (keep_reader t m) 0 0 at ks end
unfolding keep_reader
met_kept t m {ks} w at end s q e = met_lines (keep_reader t m) t (OfDigits kept_digits) (line_of kept_key) (length ks) tested w 0 0 at end (omega arith) s q (ap not e)
  where
    tested : (low i at e : ℕ) → i < length ks → OfDigits kept_digits e → Stands t at (line_of kept_key e) → Tested (keep_reader t m) low i at e (at + length (line_of kept_key e))
    tested low i at e b h s = let b = keep_line_reads_back t m low i at e h s in record { test = kept_test m low i e; not_malformed = kept_not_malformed m low i e; begins = b.0; line = b.1 }

-- Moat lines that stand to the end of the text.
met_duals : (t : List ℕ) {ds : List PrintedDual} → Each DualDigits ds → (at : ℕ) → Stands t at (text_of dual_text ds) → at + length (text_of dual_text ds) ≡ length t → ItemsMet (dual_reader t) 0 0 at ds (length t)
unfolding dual_reader
met_duals t {ds} w at s q = met_lines (dual_reader t) t DualDigits dual_text (length ds) tested w 0 0 at (length t) (omega arith) s (sym q) (le-leb (length t) (length t) (omega arith))
  where
    tested : (low i at : ℕ) (d : PrintedDual) → i < length ds → DualDigits d → Stands t at (dual_text d) → Tested (dual_reader t) low i at d (at + length (dual_text d))
    tested low i at d b h s =
        let b = dual_line_reads_back t i at d h s in
        let n = dual_some d in
        let f = s.fits in
        record { test = dual_test i b.last; not_malformed = dual_not_malformed i b.last; begins = lt-leb (length t) at (omega arith); line = b.line }

-- A well-formed plan that stands to the end of a text is read, or refused for another reason than its form.
pub plan_lively : (t : List ℕ) (m at : ℕ) (p : PrintedPlan) → WellFormedPlan p → Stands t at (plan_words p) → at + length (plan_words p) ≡ length t → NotMalformed (plan_at t m at) p (length t)
unfolding plan_at plan_lines_at plan_words kept_at duals_at ◌then◌ lines_after
plan_lively t m at p w s q =
    let C = claims_text p.claims in
    let K = text_of (line_of kept_key) p.kept in
    let D = text_of dual_text p.duals in
    let a = stands_first (C ++ K) D s in
    let l₁ = length-append C K in
    let l₂ = length-append (C ++ K) D in
    let y = at + length (C ++ K) in
    let d = stands_second (C ++ K) D s in
    by_kept (claims_reads_back t at p.claims w.few (stands_first C K a))
    (met_kept t m w.kept (at + length C) y (stands_second C K a) (omega arith) (no_keep t p.duals y d (omega arith)))
    (met_duals t w.duals y d (omega arith))
  where
    many : length p.kept + length p.duals < length t
    many =
        let n₁ = lines_long (line_of kept_key) (line_some kept_key) p.kept in
        let n₂ = lines_long dual_text dual_some p.duals in
        let n₃ = claims_some p.claims in
        let l₁ = length-append (claims_text p.claims) (text_of (line_of kept_key) p.kept) in
        let l₂ = length-append (claims_text p.claims ++ text_of (line_of kept_key) p.kept) (text_of dual_text p.duals) in
        omega arith

    rest : Lines ℕ ℕ → Step PrintedPlan
    rest k = let l = lines_after k.end (duals_at t) in l.end then λ count z. found (record { claims = p.claims; kept = k.values; duals = l.values }) z

    last : List ℕ → Lines ℕ PrintedDual → Step PrintedPlan
    last ks l = l.end then λ count z. found (record { claims = p.claims; kept = ks; duals = l.values }) z

    by_duals : {y : ℕ} → plan_at t m at ≡ last p.kept (duals_at t y) → ItemsMet (dual_reader t) 0 0 y p.duals (length t) → NotMalformed (plan_at t m at) p (length t)
    by_duals e (all_read n s) = let z = many in read (e ∙ ap (last p.kept) (items_reads_back (dual_reader t) (length t) (omega arith) s))
    by_duals e (one_refused b k n) = let z = many in otherwise (e ∙ ap (last p.kept) (broken_items (dual_reader t) (length t) (omega arith) b)) n

    by_kept : {x y : ℕ} → claims_at t at ≡ found p.claims x → ItemsMet (keep_reader t m) 0 0 x p.kept y → ItemsMet (dual_reader t) 0 0 y p.duals (length t) → NotMalformed (plan_at t m at) p (length t)
    by_kept c (all_read n s) d = let z = many in by_duals (then_found _ c ∙ ap rest (items_reads_back (keep_reader t m) (length t) (omega arith) s)) d
    by_kept c (one_refused b k n) d = let z = many in otherwise (then_found _ c ∙ ap rest (broken_items (keep_reader t m) (length t) (omega arith) b)) n

-- ---- where 16 comes from

data PlanStops (t : List ℕ) (m at q : ℕ) : Type 0 where
  in_claims : claims_at t at ≡ refused 16 q → PlanStops t m at q
  in_kept : (c : Claims) (from : ℕ) → claims_at t at ≡ found c from → (kept_at t m from).end ≡ refused 16 q → PlanStops t m at q
  in_duals : (c : Claims) (from last middle : ℕ) → claims_at t at ≡ found c from → (kept_at t m from).end ≡ found last middle → (duals_at t middle).end ≡ refused 16 q → PlanStops t m at q

-- 16 comes from the counts, the keep lines or the moats.
plan_stops : (t : List ℕ) (m at q : ℕ) → plan_at t m at ≡ refused 16 q → PlanStops t m at q
unfolding plan_at plan_lines_at lines_after ◌then◌
plan_stops t m at q e = by_claims (claims_at t at) refl e
  where
    again : {A : Type 0} {n r : ℕ} → ◌≡◌ {A = Step PrintedPlan} (refused n r) (refused 16 q) → ◌≡◌ {A = Step A} (refused n r) (refused 16 q)
    again {A} {n} {r} e = let a : n ≡ 16 = cc in let b : r ≡ q = cc in cc

    ends : Claims → List ℕ → List PrintedDual → Step ℕ → Step PrintedPlan
    ends c ks ds s = s then λ count y. found (record { claims = c; kept = ks; duals = ds }) y

    by_duals : (c : Claims) (from last middle : ℕ) (s : Step ℕ) → claims_at t at ≡ found c from → (kept_at t m from).end ≡ found last middle → (duals_at t middle).end ≡ s
        → ends c (kept_at t m from).values (duals_at t middle).values s ≡ refused 16 q → PlanStops t m at q
    by_duals c from last middle (found count y) h k d e = let z : ◌≡◌ {A = ℕ} 0 1 = cc in absurd (omega arith)
    by_duals c from last middle (refused n y) h k d e = in_duals c from last middle h k (d ∙ again e)

    by_kept : (c : Claims) (from : ℕ) (s : Step ℕ) → claims_at t at ≡ found c from → (kept_at t m from).end ≡ s
        → ends c (kept_at t m from).values (lines_after s (duals_at t)).values (lines_after s (duals_at t)).end ≡ refused 16 q → PlanStops t m at q
    by_kept c from (found last middle) h k e = by_duals c from last middle (duals_at t middle).end h k refl e
    by_kept c from (refused n y) h k e = in_kept c from h (k ∙ again e)

    by_claims : (s : Step Claims) → claims_at t at ≡ s → (s then λ c from. ends c (plan_lines_at t m from).kept (plan_lines_at t m from).duals (plan_lines_at t m from).end) ≡ refused 16 q → PlanStops t m at q
    by_claims (found c from) h e = by_kept c from (kept_at t m from).end h refl e
    by_claims (refused n y) h e = in_claims (h ∙ again e)

module _ (t : List ℕ) (m at : ℕ) (h : at ≤ length t) where
  -- Where the keep lines begin, and where the moats do.
  after_claims : {c : Claims} {from : ℕ} → claims_at t at ≡ found c from → (at < from) × (from ≤ length t)
  after_claims {c} {from} e =
      let w = reads_claims.sound t at c from h e in
      let s = (text_stands w).1 in
      let n = claims_some c in
      (omega arith, (bound w).1)

  after_kept : {from last middle : ℕ} → from ≤ length t → (kept_at t m from).end ≡ found last middle → (from ≤ middle) × (middle ≤ length t)
  unfolding kept_at
  after_kept {from} i e =
      let b = standing_long (lists_kept m) t i (items_standing (keep_reader t m) (length t) 0 0 from e) in
      let a = b.0 in
      (omega arith, b.1)

  -- The keep lines and the moats before the line that is refused.
  kept_broken : {from q : ℕ} → 0 < from → from ≤ length t → (kept_at t m from).end ≡ refused 16 q → Broken (keep_reader t m) 16 q 0 0 from (kept_at t m from).values
  unfolding kept_at
  kept_broken {from} pos i e = items_broken (keep_reader t m) t (item_goes (lists_kept m) t) (length t) 0 0 from i (omega arith) e

  duals_broken : {middle q : ℕ} → 0 < middle → middle ≤ length t → (duals_at t middle).end ≡ refused 16 q → Broken (dual_reader t) 16 q 0 0 middle (duals_at t middle).values
  unfolding duals_at
  duals_broken {middle} pos i e = items_broken (dual_reader t) t (item_goes lists_duals t) (length t) 0 0 middle i (omega arith) e

  -- 16 stands from the plan on, inside the text.
  pub plan_place : (q : ℕ) → plan_at t m at ≡ refused 16 q → (at ≤ q) × (q ≤ length t)
  plan_place q e = by_place (plan_stops t m at q e)
    where
      by_place : PlanStops t m at q → (at ≤ q) × (q ≤ length t)
      by_place (in_claims f) = reads_claims.place t at q h f
      by_place (in_kept c from f k) =
          let a = after_claims f in
          let a0 = a.0 in
          let b = broken_place (lists_kept m) t a.1 (kept_broken (omega arith) a.1 k) in
          let b0 = b.0 in
          (omega arith, b.1)
      by_place (in_duals c from last middle f k d) =
          let a = after_claims f in
          let a0 = a.0 in
          let b = after_kept a.1 k in
          let b0 = b.0 in
          let x = broken_place lists_duals t b.1 (duals_broken (omega arith) b.1 d) in
          let x0 = x.0 in
          (omega arith, x.1)

  -- Where 16 stands depends on nothing behind that place.
  pub plan_read_same : (u : List ℕ) (q : ℕ) → plan_at t m at ≡ refused 16 q → take (q + 1) t ≡ take (q + 1) u → plan_at u m at ≡ refused 16 q
  unfolding plan_at plan_lines_at kept_at duals_at lines_after ◌then◌
  plan_read_same u q e k = by_place (plan_stops t m at q e)
    where
      rest : Claims → Lines ℕ ℕ → Step PrintedPlan
      rest c ks = let l = lines_after ks.end (duals_at u) in l.end then λ count z. found (record { claims = c; kept = ks.values; duals = l.values }) z

      by_place : PlanStops t m at q → plan_at u m at ≡ refused 16 q
      by_place (in_claims f) = then_refused _ (reads_claims.same t u at q h f k)
      by_place (in_kept c from f x) =
          let a = after_claims f in
          let a0 = a.0 in
          let b = (broken_place (lists_kept m) t a.1 (kept_broken (omega arith) a.1 x)).0 in
          then_found _ (read_again reads_claims t u at c from (q + 1) h (omega arith) k f)
          ∙ ap (rest c) (items_broken_again (lists_kept m) t u 0 0 from q (omega arith) a.1 k x)
      by_place (in_duals c from last middle f x d) =
          let a = after_claims f in
          let a0 = a.0 in
          let b = after_kept a.1 x in
          let b0 = b.0 in
          let y = (broken_place lists_duals t b.1 (duals_broken (omega arith) b.1 d)).0 in
          then_found _ (read_again reads_claims t u at c from (q + 1) h (omega arith) k f)
          ∙ ap (rest c) (items_again (lists_kept m) t u 0 0 from q (omega arith) a.1 (omega arith) k x)
          ∙ ap (λ (l : Lines ℕ PrintedDual). l.end then λ count z. found (record { claims = c; kept = (kept_at t m from).values; duals = l.values }) z) (items_broken_again lists_duals t u 0 0 middle q (omega arith) b.1 k d)

-- ---- the place of 16

-- What goes on from behind a word goes on from before it.
before_word : {t : List ℕ} {at from : ℕ} {l : List ℕ} (w x : List ℕ) → Stands t at w → from ≡ at + length w → l ≡ take from t ++ x → l ≡ take at t ++ (w ++ x)
before_word {t} {at} w x s e q = q ∙ ap (λ (k : ℕ). take k t ++ x) e ∙ ap (λ (y : List ℕ). y ++ x) s.is ∙ append_assoc (take at t) w x

-- The bytes before the place of 16 begin a well-formed plan.
pub plan_malformed_begins : (t : List ℕ) (m at : ℕ) → at ≤ length t → {q : ℕ} → plan_at t m at ≡ refused 16 q → PlanBegins t at q
unfolding plan_words text_of kept_at
plan_malformed_begins t m at h {q} e = by_place (plan_stops t m at q e)
  where
    place : (at ≤ q) × (q ≤ length t)
    place = plan_place t m at h q e

    by_place : PlanStops t m at q → PlanBegins t at q
    by_place (in_claims f) =
        let x = reads_claims.extends t at q h f in
        let C = claims_text x.value in
        record {
          after = place.0;
          inside = place.1;
          rest = x.rest;
          plan = record { claims = x.value; kept = []; duals = [] };
          well = record { few = x.member.holds; kept = none; duals = none };
          whole = x.whole ∙ ap (λ (w : List ℕ). take at t ++ w) (x.member.word ∙ sym (append-nil (C ++ []) ∙ append-nil C));
        }
    by_place (in_kept c from f k) =
        let w = reads_claims.sound t at c from h f in
        let a = after_claims t m at h f in
        let a0 = a.0 in
        let s = text_stands w in
        let x = broken_extends (lists_kept m) t a.1 (kept_broken t m at h (omega arith) a.1 k) in
        let C = claims_text c in
        let K = text_of (line_of kept_key) x.value in
        record {
          after = place.0;
          inside = place.1;
          rest = x.rest;
          plan = record { claims = c; kept = x.value; duals = [] };
          well = record { few = w.member.holds; kept = x.member.holds; duals = none };
          whole =
              before_word C K s.0 s.1 (x.whole ∙ ap (λ (y : List ℕ). take from t ++ y) (x.member.word ∙ text_from_law (line_of kept_key) 0 x.value))
              ∙ ap (λ (y : List ℕ). take at t ++ y) (sym (append-nil (C ++ K)));
        }
    by_place (in_duals c from last middle f k d) =
        let w = reads_claims.sound t at c from h f in
        let a = after_claims t m at h f in
        let a0 = a.0 in
        let v = lines_words (lists_kept m) t a.1 (items_standing (keep_reader t m) (length t) 0 0 from k) in
        let b = after_kept t m at h a.1 k in
        let b0 = b.0 in
        let x = broken_extends lists_duals t b.1 (duals_broken t m at h (omega arith) b.1 d) in
        let s = text_stands w in
        let r = text_stands v in
        let C = claims_text c in
        let K = text_of (line_of kept_key) (kept_at t m from).values in
        let D = text_of dual_text x.value in
        record {
          after = place.0;
          inside = place.1;
          rest = x.rest;
          plan = record { claims = c; kept = (kept_at t m from).values; duals = x.value };
          well = record { few = w.member.holds; kept = v.member.holds; duals = x.member.holds };
          whole =
              before_word C (K ++ D) s.0 s.1 (before_word K D r.0 r.1 (x.whole ∙ ap (λ (y : List ℕ). take middle t ++ y) (x.member.word ∙ text_from_law dual_text 0 x.value)))
              ∙ ap (λ (y : List ℕ). take at t ++ y) (sym (append_assoc C K D));
        }

-- With the byte at that place they begin none.
pub plan_malformed_stops : (t : List ℕ) (m at : ℕ) → at ≤ length t → {q : ℕ} → plan_at t m at ≡ refused 16 q → q < length t
    → (rest : List ℕ) (p : PrintedPlan) → WellFormedPlan p → take (q + 1) t ++ rest ≡ take at t ++ plan_words p → ⊥
plan_malformed_stops t m at h {q} e l rest p w whole =
    let u = take (q + 1) t ++ rest in
    let W = plan_words p in
    let n : length (take (q + 1) t) ≡ q + 1 = length-take-le (q + 1) t (omega arith) in
    let k : length (take at t) ≡ at = length-take-le at t h in
    let same : take (q + 1) t ≡ take (q + 1) u = sym (take_at (take (q + 1) t) rest (q + 1) n) in
    let o : length u ≡ length (take at t) + length W = ap length whole ∙ length-append (take at t) W in
    let s : Stands (take at t ++ W) (length (take at t)) W = stands_end (take at t) W in
    let s' : Stands u at W = subst (λ (x : List ℕ). Stands x at W) (sym whole) (subst (λ (x : ℕ). Stands (take at t ++ W) x W) k s) in
    by_lively u (plan_read_same t m at h u q e same) (plan_lively u m at p w s' (omega arith))
  where
    by_lively : (u : List ℕ) → plan_at u m at ≡ refused 16 q → NotMalformed (plan_at u m at) p (length u) → ⊥
    by_lively u f (read x) = let z : ◌≡◌ {A = ℕ} 0 1 = cc in omega arith
    by_lively u f (otherwise {n = i} x y) = let z : 16 ≡ i = cc in y (sym z)

-- ---- with lent buffers

module _ (t : List ℕ) (from m : ℕ) (marks records : List ℕ) (h : from ≤ length t) {q : ℕ} (e : plan_reading t from m marks records ≡ refusal 16 q) where
  -- 16 comes from the text, whatever the buffers.
  text_refused_law : plan_at t m from ≡ refused 16 q
  unfolding plan_reading
  text_refused_law = room_refusal_law (plan_at t m from) m (length marks) (length records) (λ z. omega arith) e

  -- The bytes before the place of 16 begin a well-formed plan.
  pub reading_malformed_begins : PlanBegins t from q
  reading_malformed_begins = plan_malformed_begins t m from h text_refused_law

  -- With the byte at that place they begin none.
  pub reading_malformed_stops : q < length t → (rest : List ℕ) (p : PrintedPlan) → WellFormedPlan p → take (q + 1) t ++ rest ≡ take from t ++ plan_words p → ⊥
  reading_malformed_stops = plan_malformed_stops t m from h text_refused_law

-- From the end of the text on, or from behind it, reading is refused with 16 where it begins.
pub reading_missing : (t : List ℕ) (from m : ℕ) (marks records : List ℕ) → length t ≤ from → plan_reading t from m marks records ≡ refusal 16 from
unfolding plan_reading with_room
reading_missing t from m marks records h = ap (λ (x : Step PrintedPlan). with_room x m (length marks) (length records)) (plan_missing t m from h)
