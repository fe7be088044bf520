-- The pairs that reading accepts are those to which 18 does not come in planning and checking (document 02, No. 2): what is read is sound, and a survey whose
-- pairs are sound is read back from its text.
use Prim.Native.Nat.{ℕ, zero, suc, ◌+◌, ◌-◌, ◌*◌, ◌^◌, ◌≤◌, ◌<◌}
use native.Mathlib.Omega.{arith}
use Rattle.std.specs.Prelude.{◌≡◌, Bool, true, false, List, [], ◌∷◌, length, ltb}
use Rattle.std.proofs.Math.Path.{refl}
use Rattle.std.proofs.Common.{sym, ◌∙◌, subst, ltb-true, ltb-false}
use Rattle.std.proofs.Math.ListN.{get_or}
use Rattle.std.proofs.lemmas.List.{length-map}
use Rattle.base_limits.specs.Limits.{max_vertices, max_edges, max_pairs, group_numbers, also_digits}
use Rattle.base_limits.specs.Verdict.{answer}
use Rattle.format_read.specs.Language.{EachFrom}
use Rattle.format_read.proofs.Laws.Bytes.{no_bool}
use Rattle.survey_core.specs.Lists.{lists_from}
use Rattle.survey_core.specs.Pairs.{is_rising, PairsSound}
use Rattle.survey_core.proofs.Laws.Pairs.{rising_first, rising_vertex, rising_group, falling_vertex, falling_group}
use Rattle.format_also.specs.Pair.{Pair, pair_of, PairDigits, rank, owners_of, others_of}
use Rattle.format_also.specs.Render.{pairs_from}
use Rattle.format_also.specs.WellFormed.{PairPasses, PairsPass, no_pair, next_pair}
use Rattle.format_also.specs.Laws.Render.{owners_from, others_from, pairs_many}
use Rattle.format_survey.specs.Line.{Edge, EdgeDigits, Lengths}
use Rattle.format_survey.specs.Reading.{SurveyText, survey_of, reading}
use Rattle.format_survey.specs.WellFormed.{WithinCounts, survey_of_text}
use Rattle.format_survey.proofs.Laws.WellFormed.{accepted_render}

-- ---- sound

abbrev nth : List Pair → ℕ → Pair
nth l j = pair_of (get_or (owners_of l) j 0) (get_or (others_of l) j 0)

-- The rank behind which pair j stands.
low_at : (low : ℕ) → List Pair → ℕ → ℕ
low_at low l zero = low
low_at low l (suc j) = rank (nth l j)

record Nth (groups : List ℕ) (room low i : ℕ) (l : List Pair) (j : ℕ) : Type 0 where
  passes : PairPasses groups room (low_at low l j) (i + j) (nth l j)
  few : i + j < max_pairs

low_same : (low : ℕ) (x : Pair) (l : List Pair) (j : ℕ) → low_at (rank x) l j ≡ low_at low (x ∷ l) (suc j)
unfolding low_at owners_of others_of rank
low_same low x l zero = refl
low_same low x l (suc j) = refl

passing_nth : {groups : List ℕ} {room low i : ℕ} {l : List Pair} → PairsPass groups room low i l → (j : ℕ) → j < length l → Nth groups room low i l j
unfolding low_at owners_of others_of
passing_nth no_pair j b = absurd (omega arith)
passing_nth {groups} {room} {low} {i} (next_pair {x = x} {l = l} f d p r) zero b =
    let e : i ≡ i + 0 = omega arith in
    record { passes = subst (λ (k : ℕ). PairPasses groups room low k x) e (p); few = omega arith }
passing_nth {groups} {room} {low} {i} (next_pair {x = x} {l = l} f d p r) (suc j) b =
    let n = passing_nth r j (omega arith) in
    let few = n.few in
    let e : i + 1 + j ≡ i + suc j = omega arith in
    record {
      passes =
          subst (λ (k : ℕ). PairPasses groups room (rank (nth (x ∷ l) j)) k (nth l j)) e
          (subst (λ (k : ℕ). PairPasses groups room k (i + 1 + j) (nth l j)) (low_same low x l j) n.passes);
      few = omega arith;
    }

owners_many : (l : List Pair) → length (owners_of l) ≡ length l
unfolding owners_of
owners_many l = length-map l (λ x. x.owner)

module _ {groups : List ℕ} {room : ℕ} (l : List Pair) (a : PairsPass groups room 0 0 l) where
  passing_rises : (i : ℕ) → i < length l → is_rising (owners_of l) (others_of l) i ≡ true
  unfolding low_at rank
  passing_rises zero b = rising_first (owners_of l) (others_of l) 0 refl
  passing_rises (suc k) b = by_owner (ltb (get_or (owners_of l) k 0) (get_or (owners_of l) (suc k) 0)) refl
    where
      before : suc k - 1 ≡ k
      before = omega arith

      by_owner : (x : Bool) → ltb (get_or (owners_of l) k 0) (get_or (owners_of l) (suc k) 0) ≡ x → is_rising (owners_of l) (others_of l) (suc k) ≡ true
      by_owner true e =
          let h = ltb-true (get_or (owners_of l) k 0) (get_or (owners_of l) (suc k) 0) e in
          rising_vertex (owners_of l) (others_of l) (suc k) (λ z. omega arith) (subst (λ (j : ℕ). get_or (owners_of l) j 0 < get_or (owners_of l) (suc k) 0) (sym before) h)
      by_owner false e =
          let h = ltb-false (get_or (owners_of l) k 0) (get_or (owners_of l) (suc k) 0) e in
          let m = passing_nth a k (omega arith) in
          let n = passing_nth a (suc k) b in
          let g = m.passes.group in
          let g' = n.passes.group in
          let r = n.passes.order.rises in
          let w : get_or (owners_of l) k 0 ≤ get_or (owners_of l) (suc k) 0 = omega arith in
          let lower : get_or (others_of l) k 0 < get_or (others_of l) (suc k) 0 = omega arith in
          rising_group (owners_of l) (others_of l) (suc k) (λ z. omega arith)
          (subst (λ (j : ℕ). get_or (owners_of l) (suc k) 0 ≤ get_or (owners_of l) j 0) (sym before) h)
          (subst (λ (j : ℕ). get_or (owners_of l) j 0 ≤ get_or (owners_of l) (suc k) 0) (sym before) w)
          (subst (λ (j : ℕ). get_or (others_of l) j 0 < get_or (others_of l) (suc k) 0) (sym before) lower)

  -- Pairs that pass are sound for the groups that they were tested with.
  pub pass_sound : PairsSound (lists_from groups (owners_of l) (others_of l))
  pass_sound i b =
      let many : length (owners_of l) ≡ length l = owners_many l in
      let h : i < length l = omega arith in
      let n = passing_nth a i h in
      let few = n.few in
      record { below = n.passes.order.below; some = n.passes.order.some; foreign = n.passes.order.foreign; rising = passing_rises i h; few = omega arith }

-- ---- sound pairs pass

-- Pairs of which each passes pass one after another.
nth_passing : (groups : List ℕ) (room low i : ℕ) (l : List Pair) → length groups ≤ 10 ^ also_digits → ((j : ℕ) → j < length l → Nth groups room low i l j) → PairsPass groups room low i l
unfolding low_at owners_of others_of
nth_passing groups room low i [] small h = no_pair
nth_passing groups room low i (x ∷ l) small h =
    let n = h 0 (omega arith) in
    let few = n.few in
    let e : i + 0 ≡ i = omega arith in
    let p : PairPasses groups room low i x = subst (λ (k : ℕ). PairPasses groups room low k x) e n.passes in
    let below = p.order.below in
    let group = p.group in
    let m : i < max_pairs = omega arith in
    let d : PairDigits x = record { owner = omega arith; other = omega arith } in
    next_pair m d p
    (nth_passing groups room (rank x) (i + 1) l small (λ j b. next j (h (suc j) (further j b))))
  where
    further : (j : ℕ) → j < length l → suc j < suc (length l)
    further j b = omega arith

    next : (j : ℕ) → Nth groups room low i (x ∷ l) (suc j) → Nth groups room (rank x) (i + 1) l j
    next j n =
        let few = n.few in
        let e : i + suc j ≡ i + 1 + j = omega arith in
        record {
          passes =
              subst (λ (k : ℕ). PairPasses groups room (low_at (rank x) l j) k (nth l j)) e
              (subst (λ (k : ℕ). PairPasses groups room k (i + suc j) (nth l j)) (sym (low_same low x l j)) n.passes);
          few = omega arith;
        }

module _ (l : List Pair) (bytes : (j : ℕ) → get_or (others_of l) j 0 < group_numbers) where
  -- Pairs that rise by v, then by g, rise by rank.
  rising_rank : (i : ℕ) → is_rising (owners_of l) (others_of l) i ≡ true → low_at 0 l i < rank (nth l i)
  unfolding low_at rank
  rising_rank zero e = omega arith
  rising_rank (suc k) e = by_owner (ltb v w) refl (ltb w v) refl (ltb g h) refl
    where
      v : ℕ
      v = get_or (owners_of l) k 0

      w : ℕ
      w = get_or (owners_of l) (suc k) 0

      g : ℕ
      g = get_or (others_of l) k 0

      h : ℕ
      h = get_or (others_of l) (suc k) 0

      before : k ≡ suc k - 1
      before = omega arith

      by_owner : (x : Bool) → ltb v w ≡ x → (y : Bool) → ltb w v ≡ y → (z : Bool) → ltb g h ≡ z → group_numbers * v + g + 1 < group_numbers * w + h + 1
      by_owner true a y b z c = let p = ltb-true v w a in let q = bytes k in omega arith
      by_owner false a true b z c =
          let p = ltb-true w v b in
          no_bool (sym e ∙ falling_vertex (owners_of l) (others_of l) (suc k) (λ o. omega arith) (subst (λ (j : ℕ). w < get_or (owners_of l) j 0) before p))
      by_owner false a false b true c = let p = ltb-false v w a in let q = ltb-false w v b in let r = ltb-true g h c in omega arith
      by_owner false a false b false c =
          let p = ltb-false v w a in
          let q = ltb-false w v b in
          let r = ltb-false g h c in
          no_bool
          (sym e
          ∙ falling_group (owners_of l) (others_of l) (suc k) (λ o. omega arith) (subst (λ (j : ℕ). w ≤ get_or (owners_of l) j 0) before p) (subst (λ (j : ℕ). get_or (owners_of l) j 0 ≤ w) before q)
          (subst (λ (j : ℕ). h ≤ get_or (others_of l) j 0) before r))

  -- Sound pairs of groups that are bytes, with room for them, pass.
  pub sound_passes : (groups : List ℕ) (room : ℕ) → length groups ≤ 10 ^ also_digits → length l ≤ room → PairsSound (lists_from groups (owners_of l) (others_of l)) → PairsPass groups room 0 0 l
  sound_passes groups room small fits sound = nth_passing groups room 0 0 l small each
    where
      each : (j : ℕ) → j < length l → Nth groups room 0 0 l j
      each j b =
          let many : length (owners_of l) ≡ length l = owners_many l in
          let s = sound j (omega arith) in
          let few = s.few in
          let e : j ≡ 0 + j = omega arith in
          let inside : j < room = omega arith in
          record {
            passes =
                subst (λ (k : ℕ). PairPasses groups room (low_at 0 l j) k (nth l j)) e
                record { group = bytes j; order = record { below = s.below; some = s.some; foreign = s.foreign; rises = rising_rank j s.rising }; fits = inside };
            few = omega arith;
          }

-- ---- the whole text

-- Whatever is read, 18 comes to none of its pairs.
pub read_sound : (t : List ℕ) (lent : Lengths) (s : SurveyText) → reading t lent ≡ answer s → PairsSound (lists_from s.groups s.owners s.others)
unfolding survey_of_text survey_of
read_sound t lent s e =
    let a = accepted_render lent t s e in
    subst (λ (x : SurveyText). PairsSound (lists_from x.groups x.owners x.others)) (sym a.says) (pass_sound a.pairs a.within.each_pair)

-- Two buffers of sound pairs are pairs that reading accepts, so that a survey within the counts which has them is read back from its text (`printed_read`).
pub sound_within : (groups owners others : List ℕ) (edges : List Edge) → 0 < length groups → length groups ≤ max_vertices → length edges ≤ max_edges → EachFrom (λ v g. g < group_numbers) 0 groups
    → EachFrom (λ e. EdgeDigits) 0 edges → length owners ≡ length others → length owners ≤ max_pairs → ((j : ℕ) → get_or others j 0 < group_numbers) → PairsSound (lists_from groups owners others)
    → WithinCounts groups (pairs_from owners others) edges
sound_within groups owners others edges some few few_edges_law each each_edge_law same few_pairs_ bytes sound =
    let l = pairs_from owners others in
    let v = owners_from owners others in
    let g = others_from owners others same in
    let n = pairs_many owners others in
    let b : (j : ℕ) → get_or (others_of l) j 0 < group_numbers = subst (λ (x : List ℕ). (j : ℕ) → get_or x j 0 < group_numbers) (sym g) bytes in
    let p : PairsSound (lists_from groups (owners_of l) (others_of l)) =
    subst (λ (x : List ℕ). PairsSound (lists_from groups (owners_of l) x)) (sym g) (subst (λ (x : List ℕ). PairsSound (lists_from groups x others)) (sym v) sound) in
    record {
      some = some;
      few_groups = few;
      few_edges = few_edges_law;
      each_group = each;
      each_pair = sound_passes l b groups max_pairs (omega arith) (omega arith) p;
      each_edge = each_edge_law;
    }
