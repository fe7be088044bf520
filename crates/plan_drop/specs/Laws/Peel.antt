-- What the loops know of the buffers, and that they end where the definition does.
use Rattle.std.specs.Prelude.{◌≡◌, ℕ, zero, suc, ◌+◌, ◌%◌, ◌^◌, ◌<◌, ◌≤◌, Bool, true, false, cond, ◌⊎◌, List, replicate, ◌==◌, ◌≢◌, bit_xor, nat_eq, nat_lt, slice_index, slice_set}
use native.Mathlib.Omega.{arith}
use Rattle.std.proofs.Math.Numerals.{add-one}
use Rattle.std.proofs.Math.Path.{refl}
use Rattle.std.proofs.Common.{sym, ◌∙◌, inl, inr}
use Rattle.std.proofs.Math.Logic.{⊎_elim}
use borrow.Author.Tests.{eq-eqb, ne_eqb, lt-ltb, le-ltb}
use Rattle.base_finite.specs.Below.{count_below}
use Rattle.base_finite.specs.Laws.Below.{lt_or_ge}
use Rattle.base_finite.specs.Laws.Test.{either}
use Rattle.plan_drop.specs.Peel.{EndSums, ends_of, Queue, queue_of, Peel, peel_of, one_more, one_less, end_turned, edge_noted, edges_noted, leaf_queued, leaves_queued, leaf_gone, leaf_taken, leaves_taken, unpeeled, peeled}

-- ---- edges

-- Three stores.
pub turned_by : (v w mark more : ℕ) (degrees others marks : List ℕ) {degrees_after others_after marks_after_ : List ℕ}
    → degrees_after ≡ slice_set degrees v ((slice_index degrees v + more) % 2 ^ 32) → others_after ≡ slice_set others v (bit_xor (slice_index others v) w)
    → marks_after_ ≡ slice_set marks v (bit_xor (slice_index marks v) mark)
    → ends_of degrees_after others_after marks_after_ ≡ end_turned v w mark more (ends_of degrees others marks)
unfolding end_turned
turned_by v w mark more degrees others marks d o m = rw (d, o, m)

-- A picked edge, and another.
pub noted_picked : (a b i : ℕ) (s : EndSums) {in_set : Bool} {u v mark : ℕ} {mid after : EndSums} → in_set ≡ true → u ≡ a → v ≡ b → mark ≡ (i + 1) % 2 ^ 32
    → mid ≡ end_turned u v mark one_more s → after ≡ end_turned v u mark one_more mid → after ≡ cond in_set (edge_noted a b ((i + 1) % 2 ^ 32) s) s
unfolding edge_noted
noted_picked a b i s t u v m h k = k ∙ rw (h, u, v, m, t)

pub noted_passed : (n s : EndSums) {in_set : Bool} → in_set ≡ false → s ≡ cond in_set n s
noted_passed n s t = rw t

module _ (a b : ℕ → ℕ) (F : ℕ → Bool) (s : EndSums) where
  pub edges_none : edges_noted a b F 0 s ≡ s
  unfolding edges_noted
  edges_none = refl

  pub edges_more : (e : ℕ) {i : ℕ} {now after : EndSums} → i ≡ count_below e F % 2 ^ 32 → now ≡ edges_noted a b F e s
      → after ≡ cond (F e) (edge_noted (a e) (b e) ((i + 1) % 2 ^ 32) now) now → after ≡ edges_noted a b F (e + 1) s
  unfolding edges_noted
  edges_more e {i} h k r =
      let mark : (i + 1) % 2 ^ 32 ≡ (count_below e F + 1) % 2 ^ 32 = omega arith in r ∙ rw (mark, k, add-one e)

  pub edges_end : (m e : ℕ) {now : EndSums} → e ≤ m → m ≤ e → now ≡ edges_noted a b F e s → now ≡ edges_noted a b F m s
  edges_end m e l k h = let q : m ≡ e = omega arith in rw q h

-- ---- leaves

module _ (N : ℕ) (degrees : List ℕ) where
  pub queued_not : (v : ℕ) (q : Queue) → (slice_index degrees v ≢ 1) → q ≡ leaf_queued N degrees v q
  unfolding leaf_queued
  queued_not v q h = rw (ne_eqb (slice_index degrees v) 1 h)

  pub queued_full : (v : ℕ) (q : Queue) → N ≤ q.count → q ≡ leaf_queued N degrees v q
  unfolding leaf_queued
  queued_full v q l = ⊎_elim (λ (t : nat_eq (slice_index degrees v) 1 ≡ true). rw (t, le-ltb q.count N l)) (λ t. rw t) (either (slice_index degrees v == 1))

  pub queued_next : (v : ℕ) (q : Queue) → slice_index degrees v ≡ 1 → q.count < N → queue_of (slice_set q.order q.count v) (q.count + 1) ≡ leaf_queued N degrees v q
  unfolding leaf_queued
  queued_next v q h l = rw (eq-eqb (slice_index degrees v) 1 h, lt-ltb q.count N l)

  pub queued_few : (v : ℕ) (q : Queue) → q.count ≤ N → (leaf_queued N degrees v q).count ≤ N
  unfolding leaf_queued
  queued_few v q l =
      ⊎_elim
      (λ (t : nat_eq (slice_index degrees v) 1 ≡ true). ⊎_elim (λ (k : q.count < N). rw (t, lt-ltb q.count N k) (omega arith)) (λ (k : N ≤ q.count). rw (t, le-ltb q.count N k) l) (lt_or_ge q.count N))
      (λ t. rw t l)
      (either (slice_index degrees v == 1))

  pub leaves_none : (q : Queue) → leaves_queued N degrees 0 q ≡ q
  unfolding leaves_queued
  leaves_none q = refl

  pub leaves_more : (v : ℕ) (q : Queue) {now after : Queue} → now ≡ leaves_queued N degrees v q → after ≡ leaf_queued N degrees v now
      → after ≡ leaves_queued N degrees (v + 1) q
  unfolding leaves_queued
  leaves_more v q h r = r ∙ rw (h, add-one v)

  pub leaves_end : (n v : ℕ) (q : Queue) {now : Queue} → v ≤ n → n ≤ v → now ≡ leaves_queued N degrees v q → now ≡ leaves_queued N degrees n q
  leaves_end n v q l k h = let e : n ≡ v = omega arith in rw e h

  pub leaves_few : (n : ℕ) (q : Queue) → q.count ≤ N → (leaves_queued N degrees n q).count ≤ N
  unfolding leaves_queued
  leaves_few zero q l = l
  leaves_few (suc n) q l = queued_few n _ (leaves_few n q l)

-- ---- taking them away

module _ (N : ℕ) where
  pub leaf_kept : (k : ℕ) (s : Peel) {v : ℕ} → v ≡ slice_index s.queue.order k → (slice_index s.ends.degrees v ≢ 1) → s ≡ leaf_taken N k s
  unfolding leaf_taken
  leaf_kept k s {v} e h = rw⁻¹ e (rw (ne_eqb (slice_index s.ends.degrees v) 1 h))

  pub leaf_gone_law : (k : ℕ) (s : Peel) {v w mark : ℕ} {ends : EndSums} {queue : Queue} → v ≡ slice_index s.queue.order k → slice_index s.ends.degrees v ≡ 1
      → w ≡ slice_index s.ends.others v → mark ≡ slice_index s.ends.marks v → ends ≡ end_turned w v mark one_less s.ends
      → queue ≡ leaf_queued N ends.degrees w s.queue → peel_of ends queue ≡ leaf_taken N k s
  unfolding leaf_taken leaf_gone
  leaf_gone_law k s {v} e h o m r q = rw (q, r, m, o, e) (rw (eq-eqb (slice_index s.ends.degrees (slice_index s.queue.order k)) 1 (rw⁻¹ e h)))

  leaf_few : (k : ℕ) (s : Peel) → s.queue.count ≤ N → (leaf_taken N k s).queue.count ≤ N
  unfolding leaf_taken leaf_gone
  leaf_few k s l =
      ⊎_elim (λ t. rw t (queued_few N _ _ s.queue l)) (λ t. rw t l) (either (slice_index s.ends.degrees (slice_index s.queue.order k) == 1))

  all_few : (k : ℕ) (s : Peel) → s.queue.count ≤ N → (leaves_taken N k s).queue.count ≤ N
  unfolding leaves_taken
  all_few zero s l = l
  all_few (suc k) s l =
      ⊎_elim (λ t. rw t (leaf_few k _ (all_few k s l))) (λ t. rw t (all_few k s l)) (either (nat_lt k (leaves_taken N k s).queue.count))

  pub peel_more : (k : ℕ) (s : Peel) {now after : Peel} → now ≡ leaves_taken N k s → k < now.queue.count → after ≡ leaf_taken N k now
      → after ≡ leaves_taken N (k + 1) s
  unfolding leaves_taken
  peel_more k s {now} h l r = r ∙ rw (add-one k) (rw⁻¹ h (rw (lt-ltb k now.queue.count l)))

  -- Behind the last of the order nothing changes any more.
  peel_still : (k : ℕ) (s : Peel) → (leaves_taken N k s).queue.count ≤ k → (n : ℕ) → k ≤ n → leaves_taken N n s ≡ leaves_taken N k s
  unfolding leaves_taken
  peel_still k s few zero l = let q : k ≡ 0 = omega arith in rw q
  peel_still k s few (suc n) l = by (lt_or_ge n k) (λ h. peel_still k s few n h)
    where
      by : (n < k) ⊎ (k ≤ n) → (k ≤ n → leaves_taken N n s ≡ leaves_taken N k s) → leaves_taken N (suc n) s ≡ leaves_taken N k s
      by (inl h) old = let q : k ≡ suc n = omega arith in rw q
      by (inr h) old =
          let last : (leaves_taken N n s).queue.count ≤ n = rw (old h) (omega arith) in
          rw (le-ltb n (leaves_taken N n s).queue.count last) (old h)

  pub peel_last : (k : ℕ) (s : Peel) {now : Peel} → k ≤ N → now ≡ leaves_taken N k s → now.queue.count ≤ k → now ≡ leaves_taken N N s
  peel_last k s few h l = h ∙ sym (peel_still k s (rw⁻¹ h l) N few)

-- ---- the whole

module _ (N n : ℕ) (a b : ℕ → ℕ) (F : ℕ → Bool) (m : ℕ) where
  -- There is room for the whole order at any time.
  pub peel_few : (k : ℕ) {now : Peel} → now ≡ leaves_taken N k (unpeeled N n a b F m) → now.queue.count ≤ N
  unfolding unpeeled
  peel_few k h = rw h (all_few N k _ (leaves_few N _ n _ (omega arith)))

  -- What the first two loops leave.
  pub peel_start : {ends : EndSums} {queue : Queue} → ends ≡ edges_noted a b F m (ends_of (replicate N 0) (replicate N 0) (replicate N 0))
      → queue ≡ leaves_queued N ends.degrees n (queue_of (replicate N 0) 0) → peel_of ends queue ≡ leaves_taken N 0 (unpeeled N n a b F m)
  unfolding leaves_taken unpeeled
  peel_start h k = rw (k, h)

  -- And the last.
  pub peel_end : (k : ℕ) {now : Peel} → k ≤ N → now ≡ leaves_taken N k (unpeeled N n a b F m) → now.queue.count ≤ k → now ≡ peeled N n a b F m
  unfolding peeled
  peel_end k few h l = peel_last N k _ few h l
