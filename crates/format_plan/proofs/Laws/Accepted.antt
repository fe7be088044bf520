-- A printed plan is accepted only if it is a rendering of what was read (document 01, 'Survey text and printed plan').
use Rattle.std.specs.Prelude.{ℕ, ◌+◌, ◌-◌, ◌^◌, ◌≤◌, ◌<◌, ◌≡◌, refl, ◌↔◌, Bool, true, false, List, [], ◌++◌, length, take, leb}
use Rattle.std.proofs.Common.{arith, ap, sym, ◌∙◌, subst, length-append, take_all, leb-true, leb-false}
use Rattle.format_read.specs.Number.{number_line, OfDigits}
use Rattle.base_limits.specs.Limits.{max_duals, kept_digits, figure_digits}
use Rattle.base_limits.specs.Verdict.{answer, outcome}
use Rattle.format_write.specs.Key.{kept_key, terminals_key, cost_key, bound_key, rounds_key}
use Rattle.format_write.specs.Text.{line_of, count_lines}
use Rattle.format_read.specs.Step.{Step, found, refused, ◌then◌}
use Rattle.format_read.specs.Lines.{lines_after, text_of}
use Rattle.format_read.proofs.Laws.Step.{then_value, then_refused}
use Rattle.format_read.proofs.Laws.Bytes.{fixed_short}
use Rattle.format_read.specs.Stands.{Stands}
use Rattle.format_read.proofs.Laws.Stands.{stands_append}
use Rattle.format_read.specs.Language.{Reads, Word, Seq, Empty, Text, Each, none, more}
use Rattle.format_read.proofs.Laws.Language.{bound, reads_then, reads_as, reads_value, append_four, text_stands}
use Rattle.format_read.proofs.Laws.Keyed.{reads_line}
use Rattle.format_read.specs.Items.{ItemReader, Standing, stop, item, ListsItems}
use Rattle.format_plan.specs.Lines.{keep_reader, kept_at, member_reader, members_at, member_numbers, PrintedDual, dual_line_at, dual_reader, duals_at}
use Rattle.format_plan.specs.Plan.{Claims, claims_at, PrintedPlan, plan_lines_at, plan_at, with_room, plan_reading}
use Rattle.format_plan.proofs.Laws.Tests.{risen_next}
use Rattle.format_plan.proofs.Laws.Lines.{keep_passed, risen_rises}
use Rattle.format_read.proofs.Laws.Items.{items_stop}
use Rattle.format_plan.proofs.Laws.Reading.{room_fine}
use Rattle.format_plan.proofs.Laws.Room.{room_answer, dual_passed}
use Rattle.format_plan.proofs.Laws.RoundTrip.{plan_reads_back}
use Rattle.format_read.proofs.Laws.Listing.{standing_words, items_standing, text_from_law}
use Rattle.format_plan.proofs.Laws.Listed.{lists_kept, lists_duals, dual_parts_read}
use Rattle.format_plan.specs.WellFormed.{Rising, ended, rising, DualDigits, Printed, ClaimDigits, dual_text, claims_text, plan_words, Rendering, RoomFor, FewParts}

-- ---- the counts

ClaimParts : Claims → List ℕ → Type 0
ClaimParts =
    Seq (Text (OfDigits figure_digits) (line_of terminals_key)) λ k. Seq (Text (OfDigits figure_digits) (line_of cost_key)) λ c. Seq (Text (OfDigits figure_digits) (line_of bound_key)) λ b. Seq (Text (OfDigits figure_digits) (line_of rounds_key)) λ r.
    Empty (record { terminals = k; cost = c; bound = b; rounds = r })

-- The counts are read exactly where their lines stand.
pub reads_claims : Reads claims_at (Text ClaimDigits claims_text) (Text ClaimDigits claims_text)
unfolding claims_at ClaimParts claims_text count_lines
reads_claims =
    reads_as (λ t at. refl) to from to from
    (reads_then (reads_line terminals_key figure_digits (omega arith)) λ k.
    reads_then (reads_line cost_key figure_digits (omega arith)) λ c.
    reads_then (reads_line bound_key figure_digits (omega arith)) λ b.
    reads_then (reads_line rounds_key figure_digits (omega arith)) λ r.
    reads_value (record { terminals = k; cost = c; bound = b; rounds = r }))
  where
    to : (x : Claims) (w : List ℕ) → ClaimParts x w → Text ClaimDigits claims_text x w
    to x w m =
        let a = m.second in
        let b = a.second in
        let c = b.second in
        let d = c.second in
        let e : record { terminals = m.value; cost = a.value; bound = b.value; rounds = c.value } ≡ x = sym d.value in
        record {
          holds = subst ClaimDigits e record { terminals = m.first.holds; cost = a.first.holds; bound = b.first.holds; rounds = c.first.holds };
          word =
              m.whole ∙ ap (λ (z : List ℕ). z ++ m.right) m.first.word ∙ ap (λ (z : List ℕ). line_of terminals_key m.value ++ z)
              (a.whole ∙ ap (λ (z : List ℕ). z ++ a.right) a.first.word ∙ ap (λ (z : List ℕ). line_of cost_key a.value ++ z)
              (b.whole ∙ ap (λ (z : List ℕ). z ++ b.right) b.first.word ∙ ap (λ (z : List ℕ). line_of bound_key b.value ++ z)
              (c.whole ∙ ap (λ (z : List ℕ). z ++ c.right) c.first.word ∙ ap (λ (z : List ℕ). line_of rounds_key c.value ++ z) d.word)))
              ∙ append_four (line_of terminals_key m.value) (line_of cost_key a.value) (line_of bound_key b.value) (line_of rounds_key c.value)
              ∙ ap claims_text e;
        }

    from : (x : Claims) (w : List ℕ) → Text ClaimDigits claims_text x w → ClaimParts x w
    from x w m =
        record {
          value = x.terminals;
          left = line_of terminals_key x.terminals;
          right = line_of cost_key x.cost ++ (line_of bound_key x.bound ++ (line_of rounds_key x.rounds ++ []));
          first = record { holds = m.holds.terminals; word = refl };
          whole = m.word ∙ sym (append_four (line_of terminals_key x.terminals) (line_of cost_key x.cost) (line_of bound_key x.bound) (line_of rounds_key x.rounds));
          second = record {
            value = x.cost;
            left = line_of cost_key x.cost;
            right = line_of bound_key x.bound ++ (line_of rounds_key x.rounds ++ []);
            first = record { holds = m.holds.cost; word = refl };
            whole = refl;
            second = record {
              value = x.bound;
              left = line_of bound_key x.bound;
              right = line_of rounds_key x.rounds ++ [];
              first = record { holds = m.holds.bound; word = refl };
              whole = refl;
              second = record {
                value = x.rounds;
                left = line_of rounds_key x.rounds;
                right = [];
                first = record { holds = m.holds.rounds; word = refl };
                whole = refl;
                second = record { value = refl; word = refl };
              };
            };
          };
        }

-- ---- the limits

-- Tracks that are read rise below m.
kept_rise : (t : List ℕ) (m : ℕ) {low i at last end : ℕ} {ks : List ℕ} → Standing (keep_reader t m) low i at ks last end → Rising m low ks
unfolding keep_reader
kept_rise t m (stop e) = ended
kept_rise t m {low} {i} {at} (item e f s) = let k = keep_passed t m low i at f in rising k.rises k.below (kept_rise t m s)

-- Members that leave no more than the number of members rise.
members_rise : (t : List ℕ) {low i at last end : ℕ} {vs : List ℕ} → last ≤ member_numbers → Standing (member_reader t) low i at vs last end → (low ≤ member_numbers) × Rising member_numbers low vs
unfolding member_reader
members_rise t h (stop e) = (h, ended)
members_rise t {low} h (item {a = v} {l = vs} e f s) =
    let r = members_rise t h s in
    let k = risen_rises low v r.0 in
    let k0 = k.0 in
    let k1 = k.1 in
    (omega arith, rising k0 k1 (subst (λ (x : ℕ). Rising member_numbers x vs) (risen_next low v k0 k1) r.1))

-- A moat line that is read has a moat that fits, and few before it.
dual_printed_law : (t : List ℕ) (i at : ℕ) (d : PrintedDual) (p : ℕ) → dual_line_at t i at ≡ found d p → DualDigits d → Printed d × (i < max_duals)
unfolding members_at
dual_printed_law t i at d p e w =
    let r = dual_parts_read t i at d p e in
    let b = dual_passed i r.last r.fine in
    let m = (members_rise t b.0 (items_standing (member_reader t) (length t) 0 0 r.from r.list)).1 in
    (record { small = w.value; rises = subst (λ (x : PrintedDual). Rising member_numbers 0 x.members) r.dual m }, b.1)

-- Moats that are read fit their lines, and are few.
duals_printed : (t : List ℕ) {low i at last end : ℕ} {ds : List PrintedDual} → i ≤ max_duals → Each DualDigits ds → Standing (dual_reader t) low i at ds last end → Each Printed ds × (i + length ds ≤ max_duals)
unfolding dual_reader
duals_printed t h none (stop e) = (none, omega arith)
duals_printed t {low} {i} {at} h (more {a = d} w ws) (item {next = next} e f s) =
    let a = dual_printed_law t i at d next f w in
    let few = a.1 in
    let b = duals_printed t {low = low + 1} (omega arith) ws s in
    let n = b.1 in
    (more a.0 b.0, omega arith)

-- ---- the whole plan

-- A plan that is read, part by part.
pub record AcceptedPlan (t : List ℕ) (m at : ℕ) (p : PrintedPlan) (q : ℕ) : Type 0 where
  pub claims : Claims
  pub from : ℕ
  pub last : ℕ
  pub middle : ℕ
  pub count : ℕ
  pub head : claims_at t at ≡ found claims from
  pub kept : (kept_at t m from).end ≡ found last middle
  pub duals : (duals_at t middle).end ≡ found count q
  pub plan : record { claims = claims; kept = (kept_at t m from).values; duals = (duals_at t middle).values } ≡ p

-- A plan is read only by reading its counts, its keep lines and its moats.
pub plan_read : (t : List ℕ) (m at : ℕ) (p : PrintedPlan) (q : ℕ) → plan_at t m at ≡ found p q → AcceptedPlan t m at p q
unfolding plan_at plan_lines_at lines_after ◌then◌
plan_read t m at p q e =
    let h = then_value (claims_at t at) _ e in
    by_kept h.0 h.1 (kept_at t m h.1).end h.2 refl h.3
  where
    by_duals : (c : Claims) (from last middle : ℕ) (s : Step ℕ) → claims_at t at ≡ found c from → (kept_at t m from).end ≡ found last middle → (duals_at t middle).end ≡ s
        → (s then λ count y. found (record { claims = c; kept = (kept_at t m from).values; duals = (duals_at t middle).values }) y) ≡ found p q → AcceptedPlan t m at p q
    by_duals c from last middle (found count y) h k d e =
        let same : y ≡ q = cc in
        record { claims = c; from = from; last = last; middle = middle; count = count; head = h; kept = k; duals = d ∙ ap (λ (z : ℕ). found count z) same; plan = cc }
    by_duals c from last middle (refused n y) h k d e = let z : ◌≡◌ {A = ℕ} 0 1 = cc in absurd (omega arith)

    by_kept : (c : Claims) (from : ℕ) (s : Step ℕ) → claims_at t at ≡ found c from → (kept_at t m from).end ≡ s
        → ((lines_after s (duals_at t)).end then λ count y. found (record { claims = c; kept = (kept_at t m from).values; duals = (lines_after s (duals_at t)).values }) y) ≡ found p q → AcceptedPlan t m at p q
    by_kept c from (found last middle) h k e = by_duals c from last middle (duals_at t middle).end h k refl e
    by_kept c from (refused n y) h k e = let z : ◌≡◌ {A = ℕ} 0 1 = cc in absurd (omega arith)

-- Lines that stand one after another, as one text.
pub lines_words : {A : Type 0} {r : List ℕ → ItemReader ℕ A} {P : A → Type 0} {f : A → List ℕ} → ListsItems r P (λ i. f) → (t : List ℕ) {low i at last end : ℕ} {l : List A} → at ≤ length t → Standing (r t) low i at l last end
    → Word (Text (Each P) (text_of f)) t at l end
lines_words {f = f} x t {i = i} {l = l} h s =
    let w = standing_words x t h s in
    record { word = w.word; member = record { holds = w.member.holds; word = w.member.word ∙ text_from_law f i l }; ends = w.ends; stands = w.stands }

-- What is accepted is a rendering.
pub accepted_rendering : (t : List ℕ) (m at : ℕ) → at ≤ length t → {p : PrintedPlan} {q : ℕ} → plan_at t m at ≡ found p q → Rendering t m at p q
unfolding kept_at duals_at plan_words dual_reader
accepted_rendering t m at h {p} {q} e =
    let r = plan_read t m at p q e in
    let ks = (kept_at t m r.from).values in
    let ds = (duals_at t r.middle).values in
    let C = claims_text r.claims in
    let K = text_of (line_of kept_key) ks in
    let D = text_of dual_text ds in
    let c = reads_claims.sound t at r.claims r.from h r.head in
    let a = items_standing (keep_reader t m) (length t) 0 0 r.from r.kept in
    let k = lines_words (lists_kept m) t (bound c).1 a in
    let b = items_standing (dual_reader t) (length t) 0 0 r.middle r.duals in
    let d = lines_words lists_duals t (bound k).1 b in
    let f = duals_printed t (omega arith) d.member.holds b in
    let few = f.1 in
    let ce = (text_stands c).1 in
    let ke = (text_stands k).1 in
    let de = (text_stands d).1 in
    let stop_there = leb-true (length t) q (items_stop (dual_reader t) (length t) 0 0 r.middle r.duals) in
    let inside = (bound d).1 in
    let n = length-append C K in
    let o = length-append (C ++ K) D in
    let ck : Stands t at (C ++ K) = stands_append C K (text_stands c).0 (subst (λ (z : ℕ). Stands t z K) ce (text_stands k).0) in
    let there : r.middle ≡ at + length (C ++ K) = omega arith in
    subst (λ (x : PrintedPlan). Rendering t m at x q) r.plan
    record {
      printable = record { few = c.member.holds; kept = kept_rise t m a; duals = f.0; count = omega arith };
      stands = stands_append (C ++ K) D ck (subst (λ (z : ℕ). Stands t z D) there (text_stands d).0);
      ends = omega arith;
      next = omega arith;
    }

-- The text is what stands before the plan, and the plan.
pub rendering_whole : {t : List ℕ} {m at : ℕ} {p : PrintedPlan} {q : ℕ} → Rendering t m at p q → t ≡ take at t ++ plan_words p
rendering_whole {t} {at = at} {p = p} r =
    let e = r.ends in
    sym (take_all (at + length (plan_words p)) t (omega arith)) ∙ r.stands.is

-- A rendering is accepted.
pub rendering_accepted : (t : List ℕ) (m at : ℕ) → m ≤ 10 ^ kept_digits → {p : PrintedPlan} {q : ℕ} → Rendering t m at p q → plan_at t m at ≡ found p q
rendering_accepted t m at few {p} r = plan_reads_back t m at p few r.printable r.stands r.ends ∙ ap (λ (z : ℕ). found p z) (sym r.next)

-- At the end of a text, or behind it, no plan stands: the first byte of its first key is missing.
pub plan_missing : (t : List ℕ) (m at : ℕ) → length t ≤ at → plan_at t m at ≡ refused 16 at
unfolding plan_at claims_at number_line terminals_key
plan_missing t m at h = then_refused _ (then_refused _ (then_refused _ (fixed_short terminals_key t 0 at (omega arith) h)))

-- What is accepted from any offset is a rendering, which ends where the text does.
pub found_rendering : (t : List ℕ) (m at : ℕ) {p : PrintedPlan} {q : ℕ} → plan_at t m at ≡ found p q → Rendering t m at p q
found_rendering t m at {p} {q} e = by_test (leb at (length t)) refl
  where
    by_test : (b : Bool) → leb at (length t) ≡ b → Rendering t m at p q
    by_test true h = accepted_rendering t m at (leb-true at (length t) h) e
    by_test false h =
        let l = leb-false at (length t) h in
        let z : ◌≡◌ {A = ℕ} 0 1 = cc (plan_missing t m at (omega arith)) in
        absurd (omega arith)

-- A plan is accepted exactly if the text from there to its end is the plan's rendering.
pub accepted_iff : (t : List ℕ) (m at : ℕ) → m ≤ 10 ^ kept_digits → (p : PrintedPlan) (q : ℕ) → (plan_at t m at ≡ found p q) ↔ Rendering t m at p q
accepted_iff t m at few p q = (found_rendering t m at, rendering_accepted t m at few)

-- ---- with lent buffers

-- Reading answers a plan exactly if the text from there to its end is the plan's rendering and the lent buffers have room for it.
pub reading_accepted : (t : List ℕ) (from m : ℕ) (marks records : List ℕ) → m ≤ 10 ^ kept_digits → (p : PrintedPlan)
    → (plan_reading t from m marks records ≡ answer p) ↔ (Rendering t m from p (length t) × RoomFor m p marks records)
unfolding plan_reading with_room outcome
reading_accepted t from m marks records few p = (to, back)
  where
    to : plan_reading t from m marks records ≡ answer p → Rendering t m from p (length t) × RoomFor m p marks records
    to e =
        let a = room_answer (plan_at t m from) m (length marks) (length records) e in
        let r = found_rendering t m from a.1 in
        (subst (Rendering t m from p) r.next r, record { tracks = a.2; duals = a.3 })

    back : Rendering t m from p (length t) × RoomFor m p marks records → plan_reading t from m marks records ≡ answer p
    back h =
        let tracks = h.1.tracks in
        let duals = h.1.duals in
        rw (rendering_accepted t m from few h.0, room_fine m (length p.duals) (length marks) (length records) tracks (omega arith)) refl

-- ---- how much a plan says

-- Numbers that rise below m from low on are no more than there are.
rising_few : {m low : ℕ} {l : List ℕ} → Rising m low l → length l ≤ m - low
rising_few ended = omega arith
rising_few (rising h k r) = let n = rising_few r in omega arith

-- Moats that rise have few members.
members_few : {ds : List PrintedDual} → Each Printed ds → Each (λ d. length d.members ≤ member_numbers) ds
members_few none = none
members_few (more {a = d} {l = ds} p r) = let n = rising_few p.rises in more {a = d} {l = ds} (omega arith) (members_few r)

-- What is accepted is no more than that.
pub accepted_few : {t : List ℕ} {m at : ℕ} {p : PrintedPlan} {q : ℕ} → Rendering t m at p q → FewParts m p
accepted_few r = let w = r.printable in let n = rising_few w.kept in record { kept = omega arith; duals = w.count; members = members_few w.duals }
