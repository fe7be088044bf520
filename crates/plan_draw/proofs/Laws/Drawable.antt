-- The test of a trace says what the replay needs. `draw` and the planner cite it.
use Rattle.std.specs.Prelude.{ℕ, ◌+◌, ◌*◌, ◌≤◌, ◌<◌, ◌≡◌, refl, Bool, true, false, ◌&&◌, List, length, ltb, leb}
use Rattle.std.proofs.Common.{sym, ◌∙◌, add-one, arith}
use borrow.Author.Tests.{lt-ltb, ltb-true, le-ltb, le-leb, leb-true, lt-leb}
use Rattle.base_finite.specs.Below.{all_below}
use Rattle.base_finite.specs.Laws.Test.{and_left, and_right, and_both}
use Rattle.base_finite.specs.Laws.Below.{all_intro, all_elim}
use Rattle.base_limits.specs.Limits.{max_vertices, record_bytes}
use Rattle.plan_draw.specs.Drawing.{records_of, records_over}
use Rattle.plan_draw.specs.Trace.{Trace, trace_duals, Drawable, ends_fit, is_drawable, drawn_duals}

-- ---- the ends of a round

pub fits_both : (n : ℕ) (first second : ℕ → ℕ) (r : ℕ) → first r < n → second r < n → ends_fit n first second r ≡ true
unfolding ends_fit
fits_both n first second r a b = and_both (ltb (first r) n) (ltb (second r) n) (lt-ltb (first r) n a) (lt-ltb (second r) n b)

pub first_out : (n : ℕ) (first second : ℕ → ℕ) (r : ℕ) → n ≤ first r → ends_fit n first second r ≡ false
unfolding ends_fit
first_out n first second r a = rw (le-ltb (first r) n a)

pub second_out : (n : ℕ) (first second : ℕ → ℕ) (r : ℕ) → first r < n → n ≤ second r → ends_fit n first second r ≡ false
unfolding ends_fit
second_out n first second r a b = rw (lt-ltb (first r) n a, le-ltb (second r) n b)

-- ---- a loop that stops at the first number that fails

pub all_none : (t : ℕ → Bool) → all_below 0 t ≡ true
unfolding all_below
all_none t = refl

pub all_more : (i : ℕ) (t : ℕ → Bool) → all_below i t ≡ true → t i ≡ true → all_below (i + 1) t ≡ true
unfolding all_below
all_more i t h k = rw (add-one i) (and_both (all_below i t) (t i) h k)

pub all_fails : (n i : ℕ) (t : ℕ → Bool) → i < n → t i ≡ false → all_below n t ≡ false
all_fails n i t b h = not_all (all_below n t) refl
  where
    not_all : (x : Bool) → all_below n t ≡ x → x ≡ false
    not_all true k = sym (all_elim n t k i b) ∙ h
    not_all false k = refl

pub all_end : (n i : ℕ) (t : ℕ → Bool) → i ≤ n → n ≤ i → all_below i t ≡ true → all_below n t ≡ true
all_end n i t a b h = let e : n ≡ i = omega arith in rw e h

-- ---- the whole test

module _ (t : Trace) (room : ℕ) where
  pub too_many : max_vertices < t.vertices → is_drawable t room ≡ false
  unfolding is_drawable
  too_many h = rw (lt-leb t.vertices max_vertices h)

  pub too_long_law : t.vertices ≤ max_vertices → t.vertices < t.rounds → is_drawable t room ≡ false
  unfolding is_drawable
  too_long_law a h = rw (le-leb t.vertices max_vertices a, lt-leb t.rounds t.vertices h)

  pub too_short : t.vertices ≤ max_vertices → t.rounds ≤ t.vertices → room < record_bytes * (t.vertices + t.rounds) → is_drawable t room ≡ false
  unfolding is_drawable
  too_short a b h =
      rw (le-leb t.vertices max_vertices a, le-leb t.rounds t.vertices b, lt-leb (record_bytes * (t.vertices + t.rounds)) room h)

  pub ends_decide : t.vertices ≤ max_vertices → t.rounds ≤ t.vertices → record_bytes * (t.vertices + t.rounds) ≤ room
      → is_drawable t room ≡ all_below t.rounds (ends_fit t.vertices t.first t.second)
  unfolding is_drawable
  ends_decide a b h =
      rw (le-leb t.vertices max_vertices a, le-leb t.rounds t.vertices b, le-leb (record_bytes * (t.vertices + t.rounds)) room h)

module _ (t : Trace) (records : List ℕ) where
  pub drawable_test : Drawable t records → is_drawable t (length records) ≡ true
  drawable_test h =
      ends_decide t (length records) h.few h.few_rounds h.room
      ∙ all_intro t.rounds _ (λ r b. fits_both t.vertices t.first t.second r (h.first_below_law r b) (h.second_below r b))

  pub test_drawable : is_drawable t (length records) ≡ true → Drawable t records
  unfolding is_drawable ends_fit
  test_drawable h =
      let n = t.vertices in
      let k = t.rounds in
      let bytes = record_bytes * (n + k) in
      let fits = all_below k (ends_fit n t.first t.second) in
      let after = and_right (leb n max_vertices) (leb k n && (leb bytes (length records) && fits)) h in
      let last = and_right (leb k n) (leb bytes (length records) && fits) after in
      let all = and_right (leb bytes (length records)) fits last in
      record {
        few = leb-true n max_vertices (and_left (leb n max_vertices) _ h);
        few_rounds = leb-true k n (and_left (leb k n) _ after);
        room = leb-true bytes (length records) (and_left (leb bytes (length records)) _ last);
        first_below_law = λ r b. ltb-true (t.first r) n (and_left _ (ltb (t.second r) n) (all_elim k (ends_fit n t.first t.second) all r b));
        second_below = λ r b. ltb-true (t.second r) n (and_right (ltb (t.first r) n) _ (all_elim k (ends_fit n t.first t.second) all r b));
      }

  -- All duals of a trace that can be replayed are drawn.
  pub drawn_all : Drawable t records → drawn_duals t (length records) ≡ trace_duals t
  unfolding drawn_duals
  drawn_all h = rw (drawable_test h)

  -- And none of another.
  pub drawn_none : is_drawable t (length records) ≡ false → (0 ≡ length (drawn_duals t (length records))) × (records ≡ records_over (drawn_duals t (length records)) records)
  unfolding drawn_duals records_over records_of
  drawn_none h = rw h (refl, refl)
