-- Also lines are read exactly where the texts of their pairs stand and no also line follows; a malformed text is refused with 16 at the first byte that
-- no such lines have there.
use Prim.Native.Nat.{ℕ, zero, suc, ◌+◌, ◌≤◌, ◌<◌}
use native.Mathlib.Omega.{arith}
use Rattle.std.specs.Prelude.{◌≡◌, Bool, true, false, cond, take}
use Rattle.std.proofs.Math.Path.{refl, ap, subst}
use Rattle.std.proofs.Common.{sym, ◌∙◌}
use Rattle.std.proofs.Math.Bool.{not}
use mathlib.Core.List.{List, [], ◌∷◌, ◌++◌, append_assoc, append-nil}
use Rattle.std.proofs.Math.ListN.{length, length-append}
use Rattle.base_limits.specs.Limits.{max_pairs}
use Rattle.format_read.specs.Step.{Step, found, refused}
use Rattle.format_read.specs.Bytes.{byte_is}
use Rattle.format_read.specs.Lines.{Lines, following, text_of, whole}
use Rattle.format_read.specs.Items.{items_from, Standing, stop, item, Broken, here, later}
use Rattle.format_read.specs.Language.{ReadsBefore, Word, Extends, Text, Each, none, more, NotMalformed, read, otherwise}
use Rattle.format_read.specs.Stands.{Stands}
use Rattle.format_read.proofs.Laws.Bytes.{byte_is_law}
use Rattle.format_read.proofs.Laws.Items.{items_reads_back}
use Rattle.format_read.proofs.Laws.Language.{bound}
use Rattle.format_read.proofs.Laws.Listing.{items_standing, standing_words, standing_same, broken_place, broken_same, broken_items, text_from_law, ItemsMet, all_read, one_refused, Tested, met_lines}
use Rattle.format_read.proofs.Laws.Stands.{stands_first, stands_second, stands_head}
use Rattle.format_read.proofs.Laws.Step.{then_found, then_refused, then_value, Stops, early, late, then_stops}
use Rattle.format_read.specs.Number.{also_letter}
use Rattle.format_also.specs.Pair.{Pair, PairDigits, rank, also_test, also_line, also_reader, also_turns, also_at}
use Rattle.format_also.specs.Render.{pair_text, pairs_text}
use Rattle.format_also.specs.WellFormed.{PairsPass, no_pair, next_pair, FewPairs, NoAlso}
use Rattle.format_also.specs.Laws.Tests.{line_read, line_fine, line_passed, passed_fine}
use Rattle.format_also.specs.Laws.Word.{reads_pair, reads_tested_pair, also_not_malformed, pair_some, LineStops, past, other, line_stops, lists_also}
use Rattle.format_also.specs.Laws.Passing.{also_passes, also_few, pairs_few, pairs_well}

-- ---- what is rendered is read back

pub begins_also : (t : List ℕ) (at : ℕ) (x : Pair) → Stands t at (pair_text x) → byte_is t at also_letter ≡ true
unfolding pair_text
begins_also t at x s =
    let some = pair_some x in
    let fits = s.fits in
    byte_is_law t at also_letter (omega arith) (stands_head s)

module _ (t groups : List ℕ) (room : ℕ) where
  pairs_stand : {low i : ℕ} {l : List Pair} → PairsPass groups room low i l → (at end : ℕ) → Stands t at (pairs_text l) → end ≡ at + length (pairs_text l)
      → NoAlso t end → (last : ℕ) × Standing (also_reader t groups room) low i at l last end
  unfolding also_reader pairs_text text_of
  pairs_stand {low} {i} no_pair at end s q e =
      let same : end ≡ at = omega arith in
      (low, subst (λ (z : ℕ). Standing (also_reader t groups room) low i at [] low z) (sym same) (stop (ap not (subst (λ (z : ℕ). byte_is t z also_letter ≡ false) same e))))
  pairs_stand {low} {i} (next_pair {x = x} {l = l} f d p r) at end s q e =
      let line = pair_text x in
      let a : Stands t at line = stands_first line (pairs_text l) s in
      let b : Stands t (at + length line) (pairs_text l) = stands_second line (pairs_text l) s in
      let n = length-append line (pairs_text l) in
      let read = reads_pair.complete t at x line (record { holds = d; word = refl }) a in
      let rest = pairs_stand r (at + length line) end b (omega arith) e in
      (rest.0, item (ap not (begins_also t at x a)) (line_fine t groups room low i at f read (passed_fine groups room low i x p)) rest.1)

  -- What stands is what is read.
  standing_read : {l : List Pair} {at last end : ℕ} → length l ≤ max_pairs → Standing (also_reader t groups room) 0 0 at l last end → whole (also_at t groups room at) ≡ found l end
  unfolding also_at whole
  standing_read {l} {at} {last} {end} few s =
      let all = items_reads_back (also_reader t groups room) also_turns (omega arith) s in
      then_found _ (ap (λ (x : Lines ℕ Pair). x.end) all) ∙ ap (λ (x : Lines ℕ Pair). found x.values end) all

  -- Pairs that pass, whose text stands with no also line behind it, are what is read.
  also_complete : (at : ℕ) (l : List Pair) → PairsPass groups room 0 0 l → Stands t at (pairs_text l) → NoAlso t (at + length (pairs_text l)) → whole (also_at t groups room at) ≡ found l (at + length (pairs_text l))
  also_complete at l a s e = let few = pairs_few a (omega arith) in standing_read (omega arith) (pairs_stand a at (at + length (pairs_text l)) s refl e).1

-- ---- what is read is a rendering

-- The turns that a text was read with.
also_standing : (t groups : List ℕ) (room at : ℕ) {l : List Pair} {p : ℕ} → whole (also_at t groups room at) ≡ found l p → (l ≡ (also_at t groups room at).values) × (last : ℕ) × Standing (also_reader t groups room) 0 0 at l last p
unfolding also_at whole
also_standing t groups room at {l} {p} e =
    let f = then_value (also_at t groups room at).end _ e in
    let q : f.1 ≡ p = cc f.3 in
    let same : l ≡ (also_at t groups room at).values = cc f.3 in
    let s = items_standing (also_reader t groups room) also_turns 0 0 at (f.2 ∙ ap (λ (z : ℕ). found f.0 z) q) in
    (same, f.0, subst (λ (z : List Pair). Standing (also_reader t groups room) 0 0 at z f.0 p) (sym same) s)

also_words : (t groups : List ℕ) (room at : ℕ) (l : List Pair) (p : ℕ) → at ≤ length t → whole (also_at t groups room at) ≡ found l p → Word (Text (PairsPass groups room 0 0) pairs_text) t at l p
unfolding pairs_text
also_words t groups room at l p h e =
    let s = also_standing t groups room at e in
    let w = standing_words (lists_also groups room) t h s.2 in
    record {
      word = w.word;
      member = record { holds = subst (PairsPass groups room 0 0) (sym s.0) (also_passes t groups room at); word = w.member.word ∙ text_from_law pair_text 0 l };
      ends = w.ends;
      stands = w.stands;
    }

also_again : (t u groups : List ℕ) (room at : ℕ) (l : List Pair) (p : ℕ) → at ≤ length t → take (p + 1) t ≡ take (p + 1) u → whole (also_at t groups room at) ≡ found l p → whole (also_at u groups room at) ≡ found l p
also_again t u groups room at l p h k e =
    let s = also_standing t groups room at e in
    let few = subst (λ (z : List Pair). length z ≤ max_pairs) (sym s.0) (also_few t groups room at).few in
    standing_read u groups room few (standing_same (lists_also groups room) t u p k h (omega arith) s.2).1

-- ---- well-formed lines are not malformed

also_not_sixteen : (t groups : List ℕ) (room at : ℕ) (l : List Pair) (w : List ℕ) → Text FewPairs pairs_text l w → Stands t at w → NoAlso t (at + length w) → NotMalformed (whole (also_at t groups room at)) l (at + length w)
unfolding also_reader pairs_text also_at whole
also_not_sixteen t groups room at l w m s e =
    let few = m.holds.few in
    let n : length w ≡ length (pairs_text l) = ap length m.word in
    by_met (met_lines (also_reader t groups room) t PairDigits pair_text max_pairs tested m.holds.digits 0 0 at (at + length w) (omega arith) (subst (Stands t at) m.word s) (omega arith) (ap not e))
  where
    tested : (low i at : ℕ) (x : Pair) → i < max_pairs → PairDigits x → Stands t at (pair_text x) → Tested (also_reader t groups room) low i at x (at + length (pair_text x))
    tested low i at x b d s =
        record {
          test = also_test groups room low i x;
          not_malformed = also_not_malformed groups room low i x;
          begins = ap not (begins_also t at x s);
          line = line_read t groups room low i at b ∙ then_found _ (reads_pair.complete t at x (pair_text x) (record { holds = d; word = refl }) s);
        }

    by_met : ItemsMet (also_reader t groups room) 0 0 at l (at + length w) → NotMalformed (whole (also_at t groups room at)) l (at + length w)
    by_met (all_read last s) = let few = m.holds.few in read (standing_read t groups room few s)
    by_met (one_refused b f n) =
        let few = m.holds.few in
        otherwise (then_refused _ (ap (λ (z : Lines ℕ Pair). z.end) (broken_items (also_reader t groups room) also_turns (omega arith) b))) n

-- ---- malformed lines

-- Lines that end with a refusal stand before it.
also_broken : (t groups : List ℕ) (room fuel low i at : ℕ) {n q : ℕ} → i ≤ max_pairs → max_pairs < i + fuel → (items_from (also_reader t groups room) fuel low i at).end ≡ refused n q
    → Broken (also_reader t groups room) n q low i at (items_from (also_reader t groups room) fuel low i at).values
unfolding items_from following also_reader
also_broken t groups room zero low i at h k e = absurd (omega arith)
also_broken t groups room (suc fuel) low i at {n} {q} h k e =
    by_stop (not (byte_is t at also_letter)) (also_line t groups room low i at) refl refl (λ x p m. also_broken t groups room fuel (rank x) (i + 1) p (further m) (enough m)) e
  where
    further : i < max_pairs → i + 1 ≤ max_pairs
    further m = omega arith

    enough : i < max_pairs → max_pairs < i + 1 + fuel
    enough m = omega arith

    turn : Bool → Step Pair → Lines ℕ Pair
    turn b s = cond b (record { values = []; end = found low at }) (following s (λ x p. items_from (also_reader t groups room) fuel (rank x) (i + 1) p))

    by_stop : (b : Bool) (s : Step Pair) → not (byte_is t at also_letter) ≡ b → also_line t groups room low i at ≡ s
        → ((x : Pair) (p : ℕ) → i < max_pairs → (items_from (also_reader t groups room) fuel (rank x) (i + 1) p).end ≡ refused n q
        → Broken (also_reader t groups room) n q (rank x) (i + 1) p (items_from (also_reader t groups room) fuel (rank x) (i + 1) p).values)
        → (turn b s).end ≡ refused n q → Broken (also_reader t groups room) n q low i at (turn b s).values
    by_stop true s x y ih e = let z : ◌≡◌ {A = ℕ} 0 1 = cc in absurd (omega arith)
    by_stop false (found a p) x y ih e = later x y (ih a p (line_passed t groups room low i at y).few e)
    by_stop false (refused u v) x y ih e = here x (y ∙ same_refusal e)
      where
        same_refusal : ◌≡◌ {A = Step ℕ} (refused u v) (refused n q) → ◌≡◌ {A = Step Pair} (refused u v) (refused n q)
        same_refusal e = let a : u ≡ n = cc in let b : v ≡ q = cc in cc

-- The same of a whole refusal.
pub also_stops : (t groups : List ℕ) (room at : ℕ) {n q : ℕ} → whole (also_at t groups room at) ≡ refused n q → Broken (also_reader t groups room) n q 0 0 at (also_at t groups room at).values
unfolding also_at whole
also_stops t groups room at {n} {q} e = by_end (then_stops (also_at t groups room at).end _ e)
  where
    by_end : Stops (also_at t groups room at).end (λ low p. found (also_at t groups room at).values p) n q → Broken (also_reader t groups room) n q 0 0 at (also_at t groups room at).values
    by_end (early f) = also_broken t groups room also_turns 0 0 at (omega arith) (omega arith) f
    by_end (late low p x y) = let z : ◌≡◌ {A = ℕ} 0 1 = cc in absurd (omega arith)

pub broken_refused : (t groups : List ℕ) (room at : ℕ) {n q : ℕ} {l : List Pair} → length l ≤ max_pairs → Broken (also_reader t groups room) n q 0 0 at l → whole (also_at t groups room at) ≡ refused n q
unfolding also_at whole
broken_refused t groups room at few b = then_refused _ (ap (λ (z : Lines ℕ Pair). z.end) (broken_items (also_reader t groups room) also_turns (omega arith) b))

-- The bytes before a 16 go on to the text of at most so many pairs that no line past the last is among them.
broken_few : (t groups : List ℕ) (room : ℕ) {p low i at : ℕ} {l : List Pair} → at ≤ length t → i ≤ max_pairs → Broken (also_reader t groups room) 16 p low i at l
    → (e : Extends (Text (Each PairDigits) pairs_text) t at p) × (i + length e.value ≤ max_pairs)
unfolding also_reader pairs_text text_of
broken_few t groups room {p} {low} {i} {at} h k (here e f) = by_case (line_stops t groups room low i at f)
  where
    by_case : LineStops t groups room low i at 16 p → (e : Extends (Text (Each PairDigits) pairs_text) t at p) × (i + length e.value ≤ max_pairs)
    by_case (past m n q) =
        (record { value = []; word = []; member = record { holds = none; word = refl }; rest = []; whole = ap (λ (z : ℕ). take z t ++ []) q }, omega arith)
    by_case (other m q) =
        let w = (reads_tested_pair groups room low i).extends t at p h q in
        (record { value = w.value ∷ []; word = w.word; member = record { holds = more w.member.holds none; word = w.member.word ∙ sym (append-nil (pair_text w.value)) }; rest = w.rest; whole = w.whole }, omega arith)
broken_few t groups room {p} {low} {i} {at} h k (later {next = next} {a = a} e f b) =
    let c = line_passed t groups room low i at f in
    let few = c.few in
    let v = reads_pair.sound t at a next h c.read in
    let z = broken_few t groups room (bound v).1 (omega arith) b in
    let m = z.1 in
    let x = z.0 in (
      record {
        value = a ∷ x.value;
        word = v.word ++ x.word;
        member = record { holds = more v.member.holds x.member.holds; word = ap (λ (y : List ℕ). y ++ x.word) v.member.word ∙ ap (λ (y : List ℕ). pair_text a ++ y) x.member.word };
        rest = x.rest;
        whole = x.whole ∙ ap (λ (k : ℕ). take k t ++ x.word) v.ends ∙ ap (λ (y : List ℕ). y ++ x.word) v.stands.is ∙ append_assoc (take at t) v.word x.word;
      },
      omega arith,
    )

also_extends : (t groups : List ℕ) (room at p : ℕ) → at ≤ length t → whole (also_at t groups room at) ≡ refused 16 p → Extends (Text FewPairs pairs_text) t at p
also_extends t groups room at p h e =
    let x = broken_few t groups room h (omega arith) (also_stops t groups room at e) in
    let m = x.1 in
    let y = x.0 in
    record { value = y.value; word = y.word; member = record { holds = record { digits = y.member.holds; few = omega arith }; word = y.member.word }; rest = y.rest; whole = y.whole }

also_place : (t groups : List ℕ) (room at p : ℕ) → at ≤ length t → whole (also_at t groups room at) ≡ refused 16 p → (at ≤ p) × (p ≤ length t)
also_place t groups room at p h e =
    let place = broken_place (lists_also groups room) t h (also_stops t groups room at e) in
    let a = place.0 in
    (omega arith, place.1)

also_same : (t u groups : List ℕ) (room at p : ℕ) → at ≤ length t → whole (also_at t groups room at) ≡ refused 16 p → take (p + 1) t ≡ take (p + 1) u → whole (also_at u groups room at) ≡ refused 16 p
also_same t u groups room at p h e k =
    broken_refused u groups room at (also_few t groups room at).few (broken_same (lists_also groups room) t u p k h (also_stops t groups room at e))

-- Also lines read the texts of pairs that pass, among those of at most 256 pairs, where no also line follows.
pub reads_also : (groups : List ℕ) (room : ℕ) → ReadsBefore NoAlso (λ t at. whole (also_at t groups room at)) (Text (PairsPass groups room 0 0) pairs_text) (Text FewPairs pairs_text)
unfolding pairs_text text_of
reads_also groups room =
    record {
      complete =
          λ t at l w m s e.
          let same : w ≡ pairs_text l = m.word in
          also_complete t groups room at l m.holds (subst (Stands t at) same s) (subst (λ (z : List ℕ). NoAlso t (at + length z)) same e)
          ∙ ap (λ (z : List ℕ). found l (at + length z)) (sym same);
      sound = λ t at l p h e. also_words t groups room at l p h e;
      again = λ t u at l p h k e. also_again t u groups room at l p h k e;
      not_malformed = λ t at l w m s e. also_not_sixteen t groups room at l w m s e;
      same = λ t u at p h e k. also_same t u groups room at p h e k;
      place = λ t at p h e. also_place t groups room at p h e;
      extends = λ t at p h e. also_extends t groups room at p h e;
      some = ([], [], record { holds = record { digits = none; few = omega arith }; word = refl });
      well = λ l w m. record { holds = pairs_well m.holds; word = m.word };
    }
