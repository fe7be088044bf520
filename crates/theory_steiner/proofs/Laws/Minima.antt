-- The delay of a round is the smaller of the two minima of source 003, section 4.2.1, or the only one that there is; where there is neither, there is no round. This holds of every
-- state, so of every round. Each minimum is attained and at most every candidate's; in states that growth reaches the second is even, so that its half is exact; and the smaller of the two is the
-- delay that the bound sums up over the rounds.
use Prim.Native.Nat.{ℕ, zero, suc, ◌/◌, ◌%◌, ◌<◌, ◌≤◌}
use native.Mathlib.Omega.{arith}
use Rattle.std.specs.Prelude.{◌≡◌, ◌⊎◌, Bool, false, ◌&&◌, not, eqb, ltb}
use Rattle.std.proofs.Math.Path.{refl, subst}
use Rattle.std.proofs.Common.{ap, sym, ◌∙◌, inl, inr, ltb-true, ltb-false}
use Rattle.std.proofs.Math.Bool.{true, xor, cond}
use Rattle.base_finite.specs.Laws.Test.{and_left, and_right}
use Rattle.base_finite.specs.Laws.Below.{below_suc}
use Rattle.theory_steiner.specs.Problem.{Problem, Sound}
use Rattle.theory_steiner.specs.Growth.{State, active, slack, Delay, never, after, active_ends, delay_for, delay_of, delay, Winner, nobody, edge, better, winner_below, winner, Reached, state_at}
use Rattle.theory_steiner.specs.Rounds.{delay_or_zero, round_delay, TakesRounds}
use Rattle.theory_steiner.specs.Minima.{winner_delay, smaller, least, Attained, halved, is_between, has_one_active, has_both_active, least_one_active, least_both_active}
use Rattle.theory_steiner.proofs.Laws.Feasible.{slack_even}

-- No edge counts in both minima.
pub one_excludes_both : (p : Problem) (s : State) (e : ℕ) → has_one_active p s e ≡ true → has_both_active p s e ≡ false
unfolding has_one_active has_both_active xor
one_excludes_both p s e = by (is_between p s e) (active p s.label (s.label (p.first e))) (active p s.label (s.label (p.second e)))
  where
    by : (t x y : Bool) → (t && xor x y) ≡ true → (t && (x && y)) ≡ false
    by false x y h = refl
    by true false y h = refl
    by true true false h = refl
    by true true true h = sym h

-- One more candidate: its delay counts if it is the smaller one.
better_delay : (w : Winner) (e : ℕ) (d : Delay) → winner_delay (better w e d) ≡ smaller (winner_delay w) d
unfolding winner_delay better smaller
better_delay nobody e never = refl
better_delay nobody e (after d) = refl
better_delay (edge f c) e never = refl
better_delay (edge f c) e (after d) = by (ltb d c)
  where
    by : (t : Bool) → winner_delay (cond t (edge e d) (edge f c)) ≡ after (cond t d c)
    by true = refl
    by false = refl

-- ---- laws of the smaller

smaller_assoc : (x y z : Delay) → smaller (smaller x y) z ≡ smaller x (smaller y z)
unfolding smaller
smaller_assoc never y z = refl
smaller_assoc (after a) never z = refl
smaller_assoc (after a) (after b) never = refl
smaller_assoc (after a) (after b) (after c) = ap after (by (ltb b a) (ltb c b) (ltb c a) refl refl refl)
  where
    by : (s t u : Bool) → ltb b a ≡ s → ltb c b ≡ t → ltb c a ≡ u → cond (ltb c (cond (ltb b a) b a)) c (cond (ltb b a) b a) ≡ cond (ltb (cond (ltb c b) c b) a) (cond (ltb c b) c b) a
    by true true true h k m = rw (h, k, m)
    by true true false h k m = let x = ltb-true b a h in let y = ltb-true c b k in let z = ltb-false c a m in absurd (omega arith)
    by true false u h k m = rw (h, k, h)
    by false true u h k m = rw (h, k)
    by false false true h k m = let x = ltb-false b a h in let y = ltb-false c b k in let z = ltb-true c a m in absurd (omega arith)
    by false false false h k m = rw (h, k, m, h)

smaller_comm : (x y : Delay) → smaller x y ≡ smaller y x
unfolding smaller
smaller_comm never never = refl
smaller_comm never (after b) = refl
smaller_comm (after a) never = refl
smaller_comm (after a) (after b) = ap after (by (ltb b a) (ltb a b) refl refl)
  where
    by : (s t : Bool) → ltb b a ≡ s → ltb a b ≡ t → cond s b a ≡ cond t a b
    by true true h k = let y = ltb-true b a h in let z = ltb-true a b k in absurd (omega arith)
    by true false h k = refl
    by false true h k = refl
    by false false h k = let y = ltb-false b a h in let z = ltb-false a b k in omega arith

half_smaller : (x y : Delay) → halved (smaller x y) ≡ smaller (halved x) (halved y)
unfolding smaller halved
half_smaller never y = refl
half_smaller (after a) never = refl
half_smaller (after a) (after b) = ap after (by (ltb b a) (ltb (b / 2) (a / 2)) refl refl)
  where
    by : (s t : Bool) → ltb b a ≡ s → ltb (b / 2) (a / 2) ≡ t → cond s b a / 2 ≡ cond t (b / 2) (a / 2)
    by true true h k = refl
    by true false h k = let y = ltb-true b a h in let z = ltb-false (b / 2) (a / 2) k in omega arith
    by false true h k = let y = ltb-false b a h in let z = ltb-true (b / 2) (a / 2) k in absurd (omega arith)
    by false false h k = refl

-- One edge: its delay is the smaller of what it gives to the two minima.
delay_two : (p : Problem) (s : State) (e : ℕ) →
    delay p s e ≡ smaller (cond (has_one_active p s e) (after (slack p s e)) never) (halved (cond (has_both_active p s e) (after (slack p s e)) never))
unfolding delay has_one_active has_both_active is_between delay_of active_ends delay_for smaller halved xor
delay_two p s e = by (p.usable e && not (eqb (s.label (p.first e)) (s.label (p.second e)))) (active p s.label (s.label (p.first e))) (active p s.label (s.label (p.second e)))
  where
    by : (t x y : Bool) → cond t (delay_of x y (slack p s e)) never ≡ smaller (cond (t && xor x y) (after (slack p s e)) never) (halved (cond (t && (x && y)) (after (slack p s e)) never))
    by false x y = refl
    by true false false = refl
    by true false true = refl
    by true true false = refl
    by true true true = refl

smaller_exchange : (a b x y : Delay) → smaller (smaller a b) (smaller x y) ≡ smaller (smaller a x) (smaller b y)
smaller_exchange a b x y =
    smaller_assoc a b (smaller x y)
    ∙ ap (smaller a) (sym (smaller_assoc b x y) ∙ ap (λ z. smaller z y) (smaller_comm b x) ∙ smaller_assoc x b y)
    ∙ sym (smaller_assoc a x (smaller b y))

delay_below : (p : Problem) (s : State) (k : ℕ) →
    winner_delay (winner_below p s k) ≡ smaller (least (has_one_active p s) (slack p s) k) (halved (least (has_both_active p s) (slack p s) k))
unfolding winner_below least winner_delay halved smaller
delay_below p s zero = refl
delay_below p s (suc e) =
    better_delay (winner_below p s e) e (delay p s e)
    ∙ ap (λ x. smaller x (delay p s e)) (delay_below p s e)
    ∙ ap (smaller (smaller (least (has_one_active p s) (slack p s) e) (halved (least (has_both_active p s) (slack p s) e)))) (delay_two p s e)
    ∙ smaller_exchange (least (has_one_active p s) (slack p s) e) (halved (least (has_both_active p s) (slack p s) e)) (cond (has_one_active p s e) (after (slack p s e)) never) (halved (cond (has_both_active p s e) (after (slack p s e)) never))
    ∙ ap (smaller (smaller (least (has_one_active p s) (slack p s) e) (cond (has_one_active p s e) (after (slack p s e)) never))) (sym (half_smaller (least (has_both_active p s) (slack p s) e) (cond (has_both_active p s e) (after (slack p s e)) never)))

-- The delay of a round.
pub round_delay_law : (p : Problem) (s : State) → winner_delay (winner p s) ≡ smaller (least_one_active p s) (halved (least_both_active p s))
unfolding winner least_one_active least_both_active
round_delay_law p s = delay_below p s p.edges

-- ---- the least is attained, and at most every candidate's

never_after : {A : Type 0} (d : ℕ) → never ≡ after d → A
never_after d h = absurd (let z : ◌≡◌ {A = ℕ} 0 1 = cc in omega arith)

after_same : (c d : ℕ) → after c ≡ after d → c ≡ d
after_same c d h = cc

smaller_never : (x y : Delay) → smaller x y ≡ never → (x ≡ never) × (y ≡ never)
unfolding smaller
smaller_never never y h = (refl, h)
smaller_never (after a) never h = never_after a (sym h)
smaller_never (after a) (after b) h = never_after (cond (ltb b a) b a) (sym h)

smaller_left : (x y : Delay) (a d : ℕ) → x ≡ after a → smaller x y ≡ after d → d ≤ a
unfolding smaller
smaller_left never y a d k h = never_after a k
smaller_left (after c) never a d k h = let p = after_same c a k in let q = after_same c d h in omega arith
smaller_left (after c) (after b) a d k h = by (ltb b c) refl (after_same (cond (ltb b c) b c) d h)
  where
    by : (t : Bool) → ltb b c ≡ t → cond (ltb b c) b c ≡ d → d ≤ a
    by true e q = let l = ltb-true b c e in let p = after_same c a k in let r : b ≡ d = rw e at q in omega arith
    by false e q = let p = after_same c a k in let r : c ≡ d = rw e at q in omega arith

smaller_right : (x y : Delay) (b d : ℕ) → y ≡ after b → smaller x y ≡ after d → d ≤ b
unfolding smaller
smaller_right never y b d k h = let p = after_same d b (sym h ∙ k) in omega arith
smaller_right (after c) never b d k h = never_after b k
smaller_right (after c) (after a) b d k h = by (ltb a c) refl (after_same (cond (ltb a c) a c) d h)
  where
    by : (t : Bool) → ltb a c ≡ t → cond (ltb a c) a c ≡ d → d ≤ b
    by true e q = let p = after_same a b k in let r : a ≡ d = rw e at q in omega arith
    by false e q = let l = ltb-false a c e in let p = after_same a b k in let r : c ≡ d = rw e at q in omega arith

-- One of the two is the smaller.
data OneOf (x y : Delay) (d : ℕ) : Type 0 where
  is_left : x ≡ after d → OneOf x y d
  is_right : y ≡ after d → OneOf x y d

smaller_one : (x y : Delay) (d : ℕ) → smaller x y ≡ after d → OneOf x y d
unfolding smaller
smaller_one never y d h = is_right h
smaller_one (after a) never d h = is_left h
smaller_one (after a) (after b) d h = by (ltb b a) refl
  where
    by : (t : Bool) → ltb b a ≡ t → OneOf (after a) (after b) d
    by true e = is_right (rw e at h)
    by false e = is_left (rw e at h)

module _ (test : ℕ → Bool) (f : ℕ → ℕ) where
  candidate_after : (n d : ℕ) → cond (test n) (after (f n)) never ≡ after d → (test n ≡ true) × (f n ≡ d)
  candidate_after n d h = by (test n) refl
    where
      by : (t : Bool) → test n ≡ t → (test n ≡ true) × (f n ≡ d)
      by true e = (e, after_same (f n) d (rw e at h))
      by false e = never_after d (rw e at h)

  -- The least is attained.
  pub least_attained : (n d : ℕ) → least test f n ≡ after d → Attained test f n d
  unfolding least
  least_attained zero d h = never_after d h
  least_attained (suc n) d h = by (λ e. least_attained n d e) (smaller_one (least test f n) (cond (test n) (after (f n)) never) d h)
    where
      widen : Attained test f n d → Attained test f (suc n) d
      widen x = let b = x.below in record { at = x.at; below = omega arith; passes = x.passes; value = x.value }

      by : (least test f n ≡ after d → Attained test f n d) → OneOf (least test f n) (cond (test n) (after (f n)) never) d → Attained test f (suc n) d
      by before (is_left e) = widen (before e)
      by before (is_right e) = let c = candidate_after n d e in record { at = n; below = omega arith; passes = c.0; value = c.1 }

  -- Where there is none, nothing passes.
  pub least_never : (n : ℕ) → least test f n ≡ never → (e : ℕ) → e < n → test e ≡ true → ⊥
  unfolding least
  least_never zero h e b t = absurd (omega arith)
  least_never (suc n) h e b t = by (λ k c. least_never n k e c t) (below_suc e n b)
    where
      parts : (least test f n ≡ never) × (cond (test n) (after (f n)) never ≡ never)
      parts = smaller_never (least test f n) (cond (test n) (after (f n)) never) h

      by : (least test f n ≡ never → e < n → ⊥) → (e < n) ⊎ (e ≡ n) → ⊥
      by before (inl c) = before parts.0 c
      by before (inr same) =
          let t' : test n ≡ true = subst (λ x. test x ≡ true) same t in
          never_after (f n) (sym (rw t' at parts.1))

  -- It is at most that of every number that passes.
  pub least_below : (n d : ℕ) → least test f n ≡ after d → (e : ℕ) → e < n → test e ≡ true → d ≤ f e
  unfolding least
  least_below zero d h e b t = absurd (omega arith)
  least_below (suc n) d h e b t = by (λ a k c. least_below n a k e c t) (least test f n) refl (below_suc e n b)
    where
      by : ((a : ℕ) → least test f n ≡ after a → e < n → a ≤ f e) → (l : Delay) → least test f n ≡ l → (e < n) ⊎ (e ≡ n) → d ≤ f e
      by before never k (inl c) = absurd (least_never n k e c t)
      by before (after a) k (inl c) =
          let p : d ≤ a = smaller_left (least test f n) (cond (test n) (after (f n)) never) a d k h in
          let q : a ≤ f e = before a k c in
          omega arith
      by before l k (inr same) =
          let t' : test n ≡ true = subst (λ x. test x ≡ true) same t in
          let c : cond (test n) (after (f n)) never ≡ after (f n) = rw t' in
          let p : d ≤ f n = smaller_right (least test f n) (cond (test n) (after (f n)) never) (f n) d c h in
          subst (λ x. d ≤ f x) (sym same) p

-- In every state that growth reaches, the least slack with both ends active is even, so that its half is exact.
pub least_both_even : (p : Problem) → Sound p → {s : State} → Reached p s → (d : ℕ) → least_both_active p s ≡ after d → d % 2 ≡ 0
unfolding least_both_active has_both_active
least_both_even p ok {s} reached d h =
    let x : Attained (has_both_active p s) (slack p s) p.edges d = least_attained (has_both_active p s) (slack p s) p.edges d h in
    let e = x.at in
    let first = active p s.label (s.label (p.first e)) in
    let second = active p s.label (s.label (p.second e)) in
    let both : (first && second) ≡ true = and_right (is_between p s e) (first && second) x.passes in
    subst (λ r. r % 2 ≡ 0) x.value (slack_even p ok reached e x.below (and_left first second both) (and_right first second both))

-- The smaller of the two minima, or the only one, is the wait that the bound sums up, in every round that has a winner.
pub minima_wait : (p : Problem) (r : ℕ) → (winner p (state_at p r) ≡ nobody → ⊥) → smaller (least_one_active p (state_at p r)) (halved (least_both_active p (state_at p r))) ≡ after (round_delay p r)
unfolding round_delay winner_delay delay_or_zero
minima_wait p r won = sym (round_delay_law p (state_at p r)) ∙ by (winner p (state_at p r)) won
  where
    by : (w : Winner) → (w ≡ nobody → ⊥) → winner_delay w ≡ after (delay_or_zero w)
    by nobody h = absurd (h refl)
    by (edge e d) h = refl

-- So in each round that growth takes; after them there is neither minimum.
pub minima_rounds : (p : Problem) {rounds : ℕ} → TakesRounds p rounds → (r : ℕ) → r < rounds
    → smaller (least_one_active p (state_at p r)) (halved (least_both_active p (state_at p r))) ≡ after (round_delay p r)
minima_rounds p takes r b = minima_wait p r (takes.won r b)

pub minima_ended : (p : Problem) {rounds : ℕ} → TakesRounds p rounds → smaller (least_one_active p (state_at p rounds)) (halved (least_both_active p (state_at p rounds))) ≡ never
unfolding winner_delay
minima_ended p {rounds} takes = sym (round_delay_law p (state_at p rounds)) ∙ ap winner_delay takes.ended
