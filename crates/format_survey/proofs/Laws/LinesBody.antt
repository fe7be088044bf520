-- Laws of the lines of a survey after its counts: what they are where a line is refused, and how many they are.
use Rattle.std.specs.Prelude.{ℕ, ◌-◌, ◌≤◌, ◌<◌, drop}
use Rattle.std.proofs.Common.{arith, zero-add, sym, ◌∙◌, take_at, lt-ltb, le-ltb}
use Rattle.std.proofs.Math.Nat.{sub-zero}
use Rattle.std.proofs.Math.Path.{◌≡◌, refl, ap}
use mathlib.Core.List.{List, [], ◌++◌}
use Rattle.std.proofs.Math.ListN.{length, take}
use Rattle.std.proofs.lemmas.List.Edits.{sets, sets-eq}
use Rattle.format_read.specs.Step.{Step, found, refused, ◌then◌}
use Rattle.format_read.specs.Lines.{lines_after}
use Rattle.format_read.proofs.Laws.Lines.{lines_length}
use Rattle.format_read.proofs.Laws.Step.{then_value}
use Rattle.format_also.specs.Pair.{also_at, pairs_counted}
use Rattle.format_also.specs.Laws.Passing.{also_room}
use Rattle.format_survey.specs.Line.{group_test, group_lines, edge_lines, SurveyTail, tail_at, tail_after, SurveyLines, lines_of, lines_at, lines_with}

pub sets_filled : (values old : List ℕ) → length values ≤ length old → sets old 0 values ≡ values ++ drop (length values) old
sets_filled values old h =
    let e = zero-add (length values) in
    sets-eq values old 0 (omega arith) ∙ ap (λ (k : ℕ). values ++ drop k old) e

-- Values that fill the first part of a buffer are that part.
pub sets_part : (values old : List ℕ) (n : ℕ) → length values ≡ n → n ≤ length old → take (n - 0) (sets old 0 values) ≡ values
sets_part values old n e h =
    ap (λ (k : ℕ). take k (sets old 0 values)) (sub-zero n) ∙ ap (take n) (sets_filled values old (omega arith)) ∙ take_at values (drop (length values) old) n e

-- By where the also lines end: the edge lines are not read, or follow.
module _ (room : ℕ) (t groups : List ℕ) (m at : ℕ) where
  pub tail_pairs : (tail_at room t groups m at).pairs ≡ (also_at t groups room at).values
  unfolding tail_at
  tail_pairs = refl

  pub tail_refused : {number place : ℕ} → pairs_counted (also_at t groups room at) ≡ refused number place → ((tail_at room t groups m at).end ≡ refused number place) × ((tail_at room t groups m at).edges ≡ [])
  unfolding tail_at pairs_counted lines_after ◌then◌
  tail_refused e = by_end (also_at t groups room at).end e
    where
      by_end : {number place : ℕ} (s : Step ℕ) → (s then λ low p. found (length (also_at t groups room at).values) p) ≡ refused number place
          → (((lines_after s (edge_lines t m)).end then λ z p. found (length (also_at t groups room at).values) p) ≡ refused number place) × ((lines_after s (edge_lines t m)).values ≡ [])
      by_end (found low p) e = let z : ◌≡◌ {A = ℕ} 0 1 = cc in absurd (omega arith)
      by_end (refused n p) e = (e, refl)

  pub tail_found : {k p : ℕ} → pairs_counted (also_at t groups room at) ≡ found k p
      → ((tail_at room t groups m at).end ≡ ((edge_lines t m p).end then λ z q. found k q)) × ((tail_at room t groups m at).edges ≡ (edge_lines t m p).values)
  unfolding tail_at pairs_counted lines_after ◌then◌
  tail_found {k} {p} e = by_end (also_at t groups room at).end e
    where
      by_end : (s : Step ℕ) → (s then λ low p. found (length (also_at t groups room at).values) p) ≡ found k p
          → (((lines_after s (edge_lines t m)).end then λ z q. found (length (also_at t groups room at).values) q) ≡ ((edge_lines t m p).end then λ z q. found k q)) × ((lines_after s (edge_lines t m)).values ≡ (edge_lines t m p).values)
      by_end (found low q) e =
          let n : length (also_at t groups room at).values ≡ k = cc in
          let same : q ≡ p = cc in
          rw (n, same) (refl, refl)
      by_end (refused n q) e = let z : ◌≡◌ {A = ℕ} 0 1 = cc in absurd (omega arith)

-- With a group buffer that is short, or long enough.
module _ (room : ℕ) (t : List ℕ) (n m at : ℕ) {lent : ℕ} where
  pub with_short : lent < n → lines_with lent room t n m at ≡ record { groups = []; pairs = []; edges = []; end = refused 7 0 }
  unfolding lines_with
  with_short h = rw (lt-ltb lent n h)

  pub with_room_law : n ≤ lent → lines_with lent room t n m at ≡ lines_at room t n m at
  unfolding lines_with
  with_room_law h = rw (le-ltb lent n h)

-- By where the group lines end: the tail is not read, or follows.
module _ (lent room : ℕ) (t : List ℕ) (n m at : ℕ) (h : n ≤ lent) where
  -- The lines, by the tail behind the group lines.
  pub record Behind (tail : SurveyTail) : Type 0 where
    pub groups : (lines_with lent room t n m at).groups ≡ (group_lines group_test t n at).values
    pub pairs : (lines_with lent room t n m at).pairs ≡ tail.pairs
    pub edges : (lines_with lent room t n m at).edges ≡ tail.edges
    pub end : (lines_with lent room t n m at).end ≡ tail.end

  follows : {tail : SurveyTail} → tail_after (group_lines group_test t n at).end (tail_at room t (group_lines group_test t n at).values m) ≡ tail → Behind tail
  unfolding lines_at lines_of
  follows same =
      let w = with_room_law room t n m at h in
      record {
        groups = ap (λ (x : SurveyLines). x.groups) w;
        pairs = ap (λ (x : SurveyLines). x.pairs) w ∙ ap (λ (x : SurveyTail). x.pairs) same;
        edges = ap (λ (x : SurveyLines). x.edges) w ∙ ap (λ (x : SurveyTail). x.edges) same;
        end = ap (λ (x : SurveyLines). x.end) w ∙ ap (λ (x : SurveyTail). x.end) same;
      }

  pub lines_refused : {number place : ℕ} → (group_lines group_test t n at).end ≡ refused number place → Behind (record { pairs = []; edges = []; end = refused number place })
  unfolding tail_after
  lines_refused e = follows (ap (λ (s : Step ℕ). tail_after s (tail_at room t (group_lines group_test t n at).values m)) e)

  -- The tail is read with the groups that the buffer holds then.
  pub lines_found : {z p : ℕ} (old held : List ℕ) → lent ≡ length old → held ≡ sets old 0 (group_lines group_test t n at).values → (group_lines group_test t n at).end ≡ found z p → Behind (tail_at room t (take (n - 0) held) m p)
  unfolding tail_after group_lines
  lines_found {z} {p} old held l stored e =
      let gs = (group_lines group_test t n at).values in
      let size : length gs ≡ n = lines_length _ n 0 at e in
      let part : take (n - 0) held ≡ gs = ap (take (n - 0)) stored ∙ sets_part gs old n size (omega arith) in
      follows (ap (λ (s : Step ℕ). tail_after s (tail_at room t gs m)) e ∙ ap (λ (l : List ℕ). tail_at room t l m p) (sym part))

-- Lines that are all read are as many as the counts say, and the pairs as many as is answered.
pub record Sizes (b : SurveyLines) (n k m : ℕ) : Type 0 where
  pub groups : length b.groups ≡ n
  pub pairs : length b.pairs ≡ k
  pub edges : length b.edges ≡ m

pub lines_sizes : (room : ℕ) (t : List ℕ) (n m at : ℕ) {k p : ℕ} → (lines_at room t n m at).end ≡ found k p → Sizes (lines_at room t n m at) n k m
unfolding lines_at lines_of tail_after tail_at lines_after group_lines edge_lines
lines_sizes room t n m at {k} {p} e = by_groups (group_lines group_test t n at).end refl e
  where
    gs : List ℕ
    gs = (group_lines group_test t n at).values

    by_pairs : (q : ℕ) (s : Step ℕ) → ((lines_after s (edge_lines t m)).end then λ z p. found (length (also_at t gs room q).values) p) ≡ found k p
        → (length (also_at t gs room q).values ≡ k) × (length (lines_after s (edge_lines t m)).values ≡ m)
    by_pairs q (found low r) e = let f = then_value (edge_lines t m r).end _ e in ((cc f.3), lines_length _ m 0 r f.2)
    by_pairs q (refused x r) e = let f = then_value (refused x r) _ e in let w : ◌≡◌ {A = ℕ} 0 1 = cc f.2 in absurd (omega arith)

    by_groups : (s : Step ℕ) → (group_lines group_test t n at).end ≡ s → (tail_after s (tail_at room t gs m)).end ≡ found k p
        → Sizes (record { groups = gs; pairs = (tail_after s (tail_at room t gs m)).pairs; edges = (tail_after s (tail_at room t gs m)).edges; end = (tail_after s (tail_at room t gs m)).end }) n k m
    by_groups (found y q) g e = let b = by_pairs q (also_at t gs room q).end e in record { groups = lines_length _ n 0 at g; pairs = b.0; edges = b.1 }
    by_groups (refused x q) g e =
        let f : ◌≡◌ {A = Step ℕ} (refused x q) (found k p) = e in
        let w : ◌≡◌ {A = ℕ} 0 1 = cc in absurd (omega arith)

-- There is room for the pairs that are read.
pub lines_room : (room : ℕ) (t : List ℕ) (n m at : ℕ) → length (lines_at room t n m at).pairs ≤ room
unfolding lines_at lines_of tail_after tail_at
lines_room room t n m at = by_groups (group_lines group_test t n at).end
  where
    by_groups : (s : Step ℕ) → length (tail_after s (tail_at room t (group_lines group_test t n at).values m)).pairs ≤ room
    by_groups (found z p) = also_room t (group_lines group_test t n at).values room p
    by_groups (refused x p) = omega arith
