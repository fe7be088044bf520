-- Scanning block by block, and passing over whole blocks, is scanning edge by edge.
use Prim.Native.Nat.{ℕ, zero, suc, ◌+◌, ◌*◌, ◌-◌, ◌/◌, ◌<◌, ◌≤◌}
use native.Mathlib.Omega.{arith}
use Rattle.std.proofs.Common.{add-one, add-zero, add-suc, ◌∙◌, inl, inr}
use Rattle.std.specs.Prelude.{◌≡◌, ◌⊎◌, Bool, List}
use Rattle.std.proofs.Math.Path.{refl, ap, sym}
use Rattle.std.proofs.Math.Bool.{true, false, cond}
use Rattle.std.proofs.Math.ListN.{length, get_or, set, length-set}
use Rattle.std.proofs.Math.Seq.{get_or-set_other}
use Rattle.std.proofs.Math.Dec.{ltb}
use borrow.Author.Tests.{ltb-true, ltb-false, le-ltb, lt-ltb}
use Rattle.base_finite.specs.Laws.Below.{lt_or_ge}
use Rattle.theory_steiner.specs.Growth.{Delay, Winner, better}
use Rattle.plan_search.specs.Scan.{no_key, limit_of, Scan, looked, scan, scan_on, block_edges, block_size, blocks_of, lowest_key, Pass, block_pass, passes_below, Floored}
use Rattle.plan_search.proofs.Laws.Scan.{set_low}

module _ (delays : ℕ → Delay) (fresh : ℕ → ℕ) (time : ℕ) where
  abbrev one : Scan → ℕ → Scan
  one = looked delays fresh time

  abbrev on : Scan → (from count : ℕ) → Scan
  on = scan_on delays fresh time

  -- An edge whose key is not below the limit changes nothing.
  looked_pass : (S : Scan) (e : ℕ) → limit_of time S.best ≤ get_or S.keys e 0 → one S e ≡ S
  unfolding looked
  looked_pass S e h = rw (le-ltb (get_or S.keys e 0) (limit_of time S.best) h)

  -- Nor do many.
  on_skip : (S : Scan) (from n : ℕ) → ((k : ℕ) → k < n → limit_of time S.best ≤ get_or S.keys (from + k) 0) → on S from n ≡ S
  unfolding scan_on
  on_skip S from zero h = refl
  on_skip S from (suc n) h = ap (λ T. one T (from + n)) (on_skip S from n (λ k b. h k (omega arith))) ∙ looked_pass S (from + n) (h n (omega arith))

  -- From a scan on.
  scan_on_law : (keys : List ℕ) (e k : ℕ) → on (scan delays fresh time keys e) e k ≡ scan delays fresh time keys (e + k)
  unfolding scan_on scan
  scan_on_law keys e zero = ap (scan delays fresh time keys) (sym (add-zero e))
  scan_on_law keys e (suc k) = ap (λ T. one T (e + k)) (scan_on_law keys e k) ∙ ap (scan delays fresh time keys) (sym (add-suc e k))

  -- Other edges keep their keys.
  looked_other : (S : Scan) (e i : ℕ) → (i ≡ e → ⊥) → get_or (one S e).keys i 0 ≡ get_or S.keys i 0
  unfolding looked
  looked_other S e i h = by_limit (ltb (get_or S.keys e 0) (limit_of time S.best))
    where
      by_limit : (x : Bool) → get_or (cond x (record { best = better S.best e (delays e); keys = set S.keys e (fresh e) }) S).keys i 0 ≡ get_or S.keys i 0
      by_limit true = get_or-set_other S.keys e i (fresh e) 0 h
      by_limit false = refl

  on_other : (S : Scan) (from n i : ℕ) → ((k : ℕ) → k < n → i ≡ from + k → ⊥) → get_or (on S from n).keys i 0 ≡ get_or S.keys i 0
  unfolding scan_on
  on_other S from zero i h = refl
  on_other S from (suc n) i h = looked_other (on S from n) (from + n) i (h n (omega arith)) ∙ on_other S from n i (λ k b. h k (omega arith))

  length_looked : (S : Scan) (e : ℕ) → length (one S e).keys ≡ length S.keys
  unfolding looked
  length_looked S e = by_limit (ltb (get_or S.keys e 0) (limit_of time S.best))
    where
      by_limit : (x : Bool) → length (cond x (record { best = better S.best e (delays e); keys = set S.keys e (fresh e) }) S).keys ≡ length S.keys
      by_limit true = length-set S.keys e (fresh e)
      by_limit false = refl

  -- As many keys as before.
  pub length_on : (S : Scan) (from n : ℕ) → length (on S from n).keys ≡ length S.keys
  unfolding scan_on
  length_on S from zero = refl
  length_on S from (suc n) = length_looked (on S from n) (from + n) ∙ length_on S from n

  -- ---- one edge after another, as the code goes

  pub on_none : (S : Scan) (from : ℕ) → (S.best ≡ (on S from (from - from)).best) × (S.keys ≡ (on S from (from - from)).keys)
  unfolding scan_on
  on_none S from = let z : from - from ≡ 0 = omega arith in (rw z refl, rw z refl)

  pub on_end : (S : Scan) (from to e : ℕ) {best : Winner} {now : List ℕ} → from ≤ e → e - from ≤ to - from → to ≤ e
      → best ≡ (on S from (e - from)).best → now ≡ (on S from (e - from)).keys → (best ≡ (on S from (to - from)).best) × (now ≡ (on S from (to - from)).keys)
  on_end S from to e a b c p q = let z : to - from ≡ e - from = omega arith in (rw z p, rw z q)

  module _ (S : Scan) (from e x l : ℕ) {best : Winner} {now : List ℕ} (b : from ≤ e) (x_is : x ≡ get_or now e 0) (l_is : l ≡ limit_of time best)
      (p : best ≡ (on S from (e - from)).best) (q : now ≡ (on S from (e - from)).keys) where
    next_is : e + 1 - from ≡ suc (e - from)
    next_is = omega arith

    here : from + (e - from) ≡ e
    here = omega arith

    test_is : ltb (get_or now e 0) (limit_of time best) ≡ ltb x l
    test_is = ap (λ z. ltb z (limit_of time best)) (sym x_is) ∙ ap (ltb x) (sym l_is)

    -- An edge that is looked at.
    pub on_look : {after : Winner} {then : List ℕ} → x < l → after ≡ better best e (delays e) → then ≡ set now e (fresh e)
        → (after ≡ (on S from (e + 1 - from)).best) × (then ≡ (on S from (e + 1 - from)).keys)
    unfolding scan_on looked
    on_look h c d =
        let t : ltb (get_or now e 0) (limit_of time best) ≡ true = test_is ∙ lt-ltb x l h in
        (rw (next_is, here, sym p, sym q, t) c, rw (next_is, here, sym p, sym q, t) d)

    -- An edge that is passed over.
    pub on_pass : l ≤ x → (best ≡ (on S from (e + 1 - from)).best) × (now ≡ (on S from (e + 1 - from)).keys)
    unfolding scan_on looked
    on_pass h =
        let t : ltb (get_or now e 0) (limit_of time best) ≡ false = test_is ∙ le-ltb x l h in
        (rw (next_is, here, sym p, sym q, t) refl, rw (next_is, here, sym p, sym q, t) refl)

-- ---- the lowest key

cond_low : (x y : ℕ) → (cond (ltb y x) y x ≤ x) × (cond (ltb y x) y x ≤ y)
cond_low x y = by (ltb y x) refl
  where
    by : (t : Bool) → ltb y x ≡ t → (cond t y x ≤ x) × (cond t y x ≤ y)
    by true h = let l = ltb-true y x h in (omega arith, omega arith)
    by false h = let l = ltb-false y x h in (omega arith, omega arith)

lowest_le : (keys : List ℕ) (from n k : ℕ) → k < n → lowest_key keys from n ≤ get_or keys (from + k) 0
unfolding lowest_key
lowest_le keys from zero k b = absurd (omega arith)
lowest_le keys from (suc n) k b = by (lt_or_ge k n) (λ h. lowest_le keys from n k h)
  where
    by : (k < n) ⊎ (n ≤ k) → (k < n → lowest_key keys from n ≤ get_or keys (from + k) 0)
        → cond (ltb (get_or keys (from + n) 0) (lowest_key keys from n)) (get_or keys (from + n) 0) (lowest_key keys from n) ≤ get_or keys (from + k) 0
    by (inl h) ih = let l = (cond_low (lowest_key keys from n) (get_or keys (from + n) 0)).0 in let i = ih h in omega arith
    by (inr h) ih = let q : k ≡ n = omega arith in rw q (cond_low (lowest_key keys from n) (get_or keys (from + n) 0)).1

lowest_cong : (keys others : List ℕ) (from n : ℕ) → ((k : ℕ) → k < n → get_or keys (from + k) 0 ≡ get_or others (from + k) 0) → lowest_key keys from n ≡ lowest_key others from n
unfolding lowest_key
lowest_cong keys others from zero h = refl
lowest_cong keys others from (suc n) h = rw (lowest_cong keys others from n (λ k b. h k (omega arith)), h n (omega arith)) refl

-- One key more, as the code goes: those before it are as they were.
pub lowest_start : (keys : List ℕ) (from : ℕ) → no_key ≡ lowest_key keys from (from - from)
unfolding lowest_key
lowest_start keys from = let z : from - from ≡ 0 = omega arith in rw z refl

pub lowest_next : (from e : ℕ) (now now' : List ℕ) {low low' y : ℕ} → from ≤ e → ((i : ℕ) → i < e → get_or now i 0 ≡ get_or now' i 0) → low ≡ lowest_key now from (e - from)
    → y ≡ get_or now' e 0 → low' ≡ cond (ltb y low) y low → low' ≡ lowest_key now' from (e + 1 - from)
unfolding lowest_key
lowest_next from e now now' b same p y_is l =
    let q : e + 1 - from ≡ suc (e - from) = omega arith in
    let h : from + (e - from) ≡ e = omega arith in
    let s : lowest_key now from (e - from) ≡ lowest_key now' from (e - from) = lowest_cong now now' from (e - from) (λ k c. same (from + k) (omega arith)) in
    l ∙ rw (q, h, sym (p ∙ s), sym y_is) refl

pub lowest_end : (keys : List ℕ) (from to e : ℕ) {x : ℕ} → from ≤ e → e - from ≤ to - from → to ≤ e → x ≡ lowest_key keys from (e - from) → x ≡ lowest_key keys from (to - from)
lowest_end keys from to e a b c p = let z : to - from ≡ e - from = omega arith in rw z p

-- ---- blocks

size_cases : (m b k : ℕ) → k < block_size m b → (k < block_edges) × (block_edges * b + k < m)
unfolding block_size
size_cases m b k = by (ltb (m - block_edges * b) block_edges) refl
  where
    by : (t : Bool) → ltb (m - block_edges * b) block_edges ≡ t → k < cond t (m - block_edges * b) block_edges → (k < block_edges) × (block_edges * b + k < m)
    by true t h = let l = ltb-true (m - block_edges * b) block_edges t in (omega arith, omega arith)
    by false t h = let l = ltb-false (m - block_edges * b) block_edges t in (omega arith, omega arith)

pub size_fits : (m b : ℕ) → block_edges * b ≤ m → block_edges * b + block_size m b ≤ m
unfolding block_size
size_fits m b h = by (ltb (m - block_edges * b) block_edges) refl
  where
    by : (t : Bool) → ltb (m - block_edges * b) block_edges ≡ t → block_edges * b + cond t (m - block_edges * b) block_edges ≤ m
    by true t = omega arith
    by false t = let l = ltb-false (m - block_edges * b) block_edges t in omega arith

pub size_is : (b : ℕ) {n size : ℕ} → n ≡ size → block_edges * b + n - block_edges * b ≡ size
size_is b h = omega arith

-- An edge is in its block.
size_above : (m b e : ℕ) → e < m → e / block_edges ≡ b → e - block_edges * b < block_size m b
unfolding block_size
size_above m b e h q = by (ltb (m - block_edges * b) block_edges)
  where
    by : (t : Bool) → e - block_edges * b < cond t (m - block_edges * b) block_edges
    by true = omega arith
    by false = omega arith

module _ (delays : ℕ → Delay) (fresh : ℕ → ℕ) (time m : ℕ) where
  abbrev through : Pass → ℕ → Scan
  through S b = scan_on delays fresh time S.scanned (block_edges * b) (block_size m b)

  -- Passed over or not, a block is scanned.
  block_scans : (S : Pass) (b : ℕ) → Floored m S.scanned.keys S.floors → (block_pass delays fresh time m S b).scanned ≡ through S b
  unfolding block_pass
  block_scans S b f = by (ltb (get_or S.floors b 0) (limit_of time S.scanned.best)) refl
    where
      high : (k : ℕ) → limit_of time S.scanned.best ≤ get_or S.floors b 0 → k < block_size m b → limit_of time S.scanned.best ≤ get_or S.scanned.keys (block_edges * b + k) 0
      high k l h =
          let c = size_cases m b k h in
          let q : (block_edges * b + k) / block_edges ≡ b = omega (arith, c.0) in
          let g : get_or S.floors b 0 ≤ get_or S.scanned.keys (block_edges * b + k) 0 = rw q at (f.low (block_edges * b + k) c.1) in
          omega arith

      by : (t : Bool) → ltb (get_or S.floors b 0) (limit_of time S.scanned.best) ≡ t
          → (cond t (record { scanned = through S b; floors = set S.floors b (lowest_key (through S b).keys (block_edges * b) (block_size m b)) }) S).scanned ≡ through S b
      by true t = refl
      by false t = sym (on_skip delays fresh time S.scanned (block_edges * b) (block_size m b) (λ k h. high k (ltb-false _ _ t) h))

  -- Floors stay below the keys.
  block_floors : (S : Pass) (b : ℕ) → Floored m S.scanned.keys S.floors → Floored m (block_pass delays fresh time m S b).scanned.keys (block_pass delays fresh time m S b).floors
  unfolding block_pass
  block_floors S b f = by (ltb (get_or S.floors b 0) (limit_of time S.scanned.best))
    where
      T : Scan
      T = through S b

      inside : (e : ℕ) → e < m → e / block_edges ≡ b → lowest_key T.keys (block_edges * b) (block_size m b) ≤ get_or T.keys e 0
      inside e h q =
          let k : block_edges * b + (e - block_edges * b) ≡ e = omega arith in
          rw k at (lowest_le T.keys (block_edges * b) (block_size m b) (e - block_edges * b) (size_above m b e h q))

      outside : (e : ℕ) → e < m → (e / block_edges ≡ b → ⊥) → get_or S.floors (e / block_edges) 0 ≤ get_or T.keys e 0
      outside e h d =
          let same : get_or T.keys e 0 ≡ get_or S.scanned.keys e 0 =
          on_other delays fresh time S.scanned (block_edges * b) (block_size m b) e (λ k c q. let z = (size_cases m b k c).0 in d (omega arith)) in
          let l = f.low e h in
          omega arith

      by : (t : Bool) →
          let P = cond t (record { scanned = T; floors = set S.floors b (lowest_key T.keys (block_edges * b) (block_size m b)) }) S in
          Floored m P.scanned.keys P.floors
      by true = record { low = λ e h. set_low S.floors b (lowest_key T.keys (block_edges * b) (block_size m b)) (e / block_edges) (get_or T.keys e 0) (inside e h) (outside e h) }
      by false = f

  -- The edges of the blocks below b.
  unfoldable covered : ℕ → ℕ
  covered b = cond (ltb m (block_edges * b)) m (block_edges * b)

  covered_all : covered (blocks_of m) ≡ m
  unfolding covered blocks_of
  covered_all = rw (lt-ltb m (block_edges * (m / block_edges + 1)) (omega arith))

  covered_none : covered 0 ≡ 0
  unfolding covered
  covered_none = rw (le-ltb m 0 (omega arith))

  covered_here : (b : ℕ) → b < blocks_of m → covered b ≡ block_edges * b
  unfolding covered blocks_of
  covered_here b h = rw (le-ltb m (block_edges * b) (omega arith))

  covered_more : (b : ℕ) → b < blocks_of m → block_edges * b + block_size m b ≡ covered (suc b)
  unfolding covered blocks_of block_size
  covered_more b h = by (ltb (m - block_edges * b) block_edges) (ltb m (block_edges * suc b)) refl refl
    where
      by : (s t : Bool) → ltb (m - block_edges * b) block_edges ≡ s → ltb m (block_edges * suc b) ≡ t
          → block_edges * b + cond s (m - block_edges * b) block_edges ≡ cond t m (block_edges * suc b)
      by true true p q = omega arith
      by true false p q = let x = ltb-true (m - block_edges * b) block_edges p in let y = ltb-false m (block_edges * suc b) q in omega arith
      by false true p q = let x = ltb-false (m - block_edges * b) block_edges p in let y = ltb-true m (block_edges * suc b) q in omega arith
      by false false p q = omega arith

  module _ (keys floors : List ℕ) (f : Floored m keys floors) where
    abbrev after : ℕ → Pass
    after b = passes_below delays fresh time m keys floors b

    passes_to : (b : ℕ) → b ≤ blocks_of m → ((after b).scanned ≡ scan delays fresh time keys (covered b)) × Floored m (after b).scanned.keys (after b).floors
    unfolding passes_below scan
    passes_to zero h = (ap (scan delays fresh time keys) (sym covered_none), f)
    passes_to (suc b) h =
        let ih = passes_to b (omega arith) in (
          block_scans (after b) b ih.1
              ∙ ap (λ T. scan_on delays fresh time T (block_edges * b) (block_size m b)) (ih.0 ∙ ap (scan delays fresh time keys) (covered_here b (omega arith)))
              ∙ scan_on_law delays fresh time keys (block_edges * b) (block_size m b)
              ∙ ap (scan delays fresh time keys) (covered_more b (omega arith)),
          block_floors (after b) b ih.1,
        )

    -- All blocks: the scan of all edges, and floors that are good.
    pub passes_scan : ((after (blocks_of m)).scanned ≡ scan delays fresh time keys m) × Floored m (after (blocks_of m)).scanned.keys (after (blocks_of m)).floors
    passes_scan = let p = passes_to (blocks_of m) (omega arith) in (p.0 ∙ ap (scan delays fresh time keys) covered_all, p.1)

-- ---- one block after another, as the code goes

module _ (delays : ℕ → Delay) (fresh : ℕ → ℕ) (time m : ℕ) (keys floors : List ℕ) (b x l : ℕ) {best : Winner} {now low : List ℕ} (x_is : x ≡ get_or low b 0)
    (l_is : l ≡ limit_of time best) (p : best ≡ (passes_below delays fresh time m keys floors b).scanned.best) (q : now ≡ (passes_below delays fresh time m keys floors b).scanned.keys)
    (r : low ≡ (passes_below delays fresh time m keys floors b).floors) where
  abbrev then : Pass
  then = passes_below delays fresh time m keys floors (b + 1)

  scanned_is : passes_below delays fresh time m keys floors b ≡ record { scanned = record { best = best; keys = now }; floors = low }
  scanned_is i = record { scanned = record { best = sym p i; keys = sym q i }; floors = sym r i }

  then_is : then ≡ block_pass delays fresh time m (record { scanned = record { best = best; keys = now }; floors = low }) b
  unfolding passes_below
  then_is = ap (passes_below delays fresh time m keys floors) (add-one b) ∙ ap (λ S. block_pass delays fresh time m S b) scanned_is

  floor_is : ltb (get_or low b 0) (limit_of time best) ≡ ltb x l
  floor_is = ap (λ z. ltb z (limit_of time best)) (sym x_is) ∙ ap (ltb x) (sym l_is)

  -- A block that is looked through.
  pub block_look : {after : Winner} {new left high : List ℕ} → x < l
      → after ≡ (scan_on delays fresh time (record { best = best; keys = now }) (block_edges * b) (block_size m b)).best
      → new ≡ left
      → left ≡ (scan_on delays fresh time (record { best = best; keys = now }) (block_edges * b) (block_size m b)).keys
      → high ≡ set low b (lowest_key left (block_edges * b) (block_size m b))
      → (after ≡ then.scanned.best) × (new ≡ then.scanned.keys) × (high ≡ then.floors)
  unfolding block_pass
  block_look h c i d e =
      let t : ltb (get_or low b 0) (limit_of time best) ≡ true = floor_is ∙ lt-ltb x l h in
      (rw (then_is, t) c, i ∙ rw (then_is, t) d, rw (then_is, t, sym d) e)

  -- A block that is passed over.
  pub block_pass_law : l ≤ x → (best ≡ then.scanned.best) × (now ≡ then.scanned.keys) × (low ≡ then.floors)
  unfolding block_pass
  block_pass_law h =
      let t : ltb (get_or low b 0) (limit_of time best) ≡ false = floor_is ∙ le-ltb x l h in
      (rw (then_is, t) refl, rw (then_is, t) refl, rw (then_is, t) refl)

pub passes_end : (delays : ℕ → Delay) (fresh : ℕ → ℕ) (time m : ℕ) (keys floors : List ℕ) (n b : ℕ) {best : Winner} {now low : List ℕ} → b ≤ n → n ≤ b
    → best ≡ (passes_below delays fresh time m keys floors b).scanned.best → now ≡ (passes_below delays fresh time m keys floors b).scanned.keys
    → low ≡ (passes_below delays fresh time m keys floors b).floors
    → (best ≡ (passes_below delays fresh time m keys floors n).scanned.best) × ((now ≡ (passes_below delays fresh time m keys floors n).scanned.keys) × (low ≡ (passes_below delays fresh time m keys floors n).floors))
passes_end delays fresh time m keys floors n b h k p q r = let z : n ≡ b = omega arith in (rw z p, (rw z q, rw z r))

-- ---- passes that see the same

module _ (f g : ℕ → Delay) (h i : ℕ → ℕ) (time m : ℕ) (a : (e : ℕ) → e < m → f e ≡ g e) (c : (e : ℕ) → e < m → h e ≡ i e) where
  on_cong : (S : Scan) (from n : ℕ) → ((k : ℕ) → k < n → from + k < m) → scan_on f h time S from n ≡ scan_on g i time S from n
  unfolding scan_on looked
  on_cong S from zero b = refl
  on_cong S from (suc n) b = rw (on_cong S from n (λ k l. b k (omega arith)), a (from + n) (b n (omega arith)), c (from + n) (b n (omega arith)))

  pub passes_cong : (keys floors : List ℕ) (b : ℕ) → passes_below f h time m keys floors b ≡ passes_below g i time m keys floors b
  unfolding passes_below block_pass
  passes_cong keys floors zero = refl
  passes_cong keys floors (suc b) =
      rw (passes_cong keys floors b, on_cong (passes_below g i time m keys floors b).scanned (block_edges * b) (block_size m b) (λ k l. (size_cases m b k l).1))

length_block : (delays : ℕ → Delay) (fresh : ℕ → ℕ) (time m : ℕ) (S : Pass) (b : ℕ)
    → (length (block_pass delays fresh time m S b).scanned.keys ≡ length S.scanned.keys) × (length (block_pass delays fresh time m S b).floors ≡ length S.floors)
unfolding block_pass
length_block delays fresh time m S b = by (ltb (get_or S.floors b 0) (limit_of time S.scanned.best))
  where
    T : Scan
    T = scan_on delays fresh time S.scanned (block_edges * b) (block_size m b)

    by : (t : Bool) →
        let P = cond t (record { scanned = T; floors = set S.floors b (lowest_key T.keys (block_edges * b) (block_size m b)) }) S in
        (length P.scanned.keys ≡ length S.scanned.keys) × (length P.floors ≡ length S.floors)
    by true = (length_on delays fresh time S.scanned (block_edges * b) (block_size m b), length-set S.floors b _)
    by false = (refl, refl)

-- As many keys and floors as before.
pub length_passes : (delays : ℕ → Delay) (fresh : ℕ → ℕ) (time m : ℕ) (keys floors : List ℕ) (b : ℕ)
    → (length (passes_below delays fresh time m keys floors b).scanned.keys ≡ length keys) × (length (passes_below delays fresh time m keys floors b).floors ≡ length floors)
unfolding passes_below
length_passes delays fresh time m keys floors zero = (refl, refl)
length_passes delays fresh time m keys floors (suc b) =
    let l = length_block delays fresh time m (passes_below delays fresh time m keys floors b) b in
    let ih = length_passes delays fresh time m keys floors b in
    (l.0 ∙ ih.0, l.1 ∙ ih.1)
