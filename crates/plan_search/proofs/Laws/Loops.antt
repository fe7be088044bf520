-- The loops over edges and over blocks: what holds before each turn, and what a turn and the end make of it.
use Prim.Native.Nat.{ℕ, zero, suc, ◌+◌, ◌*◌, ◌-◌, ◌/◌, ◌<◌, ◌≤◌}
use native.Mathlib.Omega.{arith}
use Rattle.std.proofs.Math.Numerals.{add-one}
use Rattle.std.specs.Prelude.{◌≡◌, Bool, true, false, cond, List, set, ltb}
use Rattle.std.proofs.Math.Path.{refl, ap, sym}
use Rattle.std.proofs.Common.{◌∙◌, subst}
use Rattle.std.proofs.Math.ListN.{length, get_or}
use Rattle.std.proofs.Math.Seq.{get_or-set_other}
use borrow.Author.Tests.{ltb-true, ltb-false, lt-ltb, le-ltb}
use Rattle.theory_steiner.specs.Growth.{Winner, nobody, better}
use Rattle.plan_search.specs.Scan.{no_key, time_limit, limit_of, capped_time, block_edges, block_size, lowest_key, next_block, passes_below}
use Rattle.plan_search.specs.Tables.{Tables, delay_by, key_by, on_by, pass_by, scan_from}
use Rattle.plan_search.proofs.Laws.Scan.{capped_is}
use Rattle.plan_search.proofs.Laws.Blocks.{lowest_start, lowest_next, lowest_end, on_none, on_look, on_pass, on_end, length_on, block_look, block_pass_law, passes_end, length_passes}

-- Before edge e of a block, from the best and the keys at its start.
pub record Scanning (t : Tables) (time : ℕ) (start : Winner) (keys : List ℕ) (from to e limit low : ℕ) (best : Winner) (now : List ℕ) : Type 0 where
  pub small : time < time_limit
  pub from_le : from ≤ e
  pub upto : e - from ≤ to - from
  pub limit_is : limit ≡ limit_of time best
  pub best_is : best ≡ (on_by t time (scan_from start keys) from (e - from)).best
  pub keys_are : now ≡ (on_by t time (scan_from start keys) from (e - from)).keys
  pub low_is : low ≡ lowest_key now from (e - from)

pub scanning_start : (t : Tables) (time : ℕ) (start : Winner) (keys : List ℕ) (from to : ℕ) {limit : ℕ} → time < time_limit → limit ≡ limit_of time start
    → Scanning t time start keys from to from limit no_key start keys
unfolding on_by
scanning_start t time start keys from to b h =
    let z = on_none (delay_by t time) (key_by t time) time (scan_from start keys) from in
    record { small = b; from_le = omega arith; upto = omega arith; limit_is = h; best_is = z.0; keys_are = z.1; low_is = lowest_start keys from }

module _ {t : Tables} {time : ℕ} {start : Winner} {keys : List ℕ} {from to e limit low : ℕ} {best : Winner} {now : List ℕ}
    (h : Scanning t time start keys from to e limit low best now) where
  -- An edge that is looked at.
  pub scanning_look : {x limit' y low' : ℕ} {found best' : Winner} {left now' : List ℕ} → e < to → x ≡ get_or now e 0 → x < limit → found ≡ better best e (delay_by t (capped_time time) e)
      → left ≡ set now e (key_by t (capped_time time) e) → best' ≡ found → limit' ≡ limit_of time found → now' ≡ left
      → y ≡ get_or now' e 0 → low' ≡ cond (ltb y low) y low → Scanning t time start keys from to (e + 1) limit' low' best' now'
  unfolding on_by
  scanning_look {x} {now' = now'} b x_is u f l g m n y_is low_is =
      let c = capped_is time h.small in
      let k = on_look (delay_by t time) (key_by t time) time (scan_from start keys) from e x limit h.from_le x_is h.limit_is h.best_is h.keys_are u (g ∙ rw c at f) (n ∙ rw c at l) in
      let a = h.from_le in
      let same : (i : ℕ) → i < e → get_or now i 0 ≡ get_or now' i 0 =
      λ i d. sym (ap (λ t. get_or t i 0) (n ∙ l) ∙ get_or-set_other now e i _ 0 (λ q. omega arith)) in
      record {
        small = h.small;
        from_le = omega arith;
        upto = omega arith;
        limit_is = m ∙ ap (limit_of time) (sym g);
        best_is = k.0;
        keys_are = k.1;
        low_is = lowest_next from e now now' h.from_le same h.low_is y_is low_is;
      }

  -- An edge that is passed over.
  pub scanning_pass : {x limit' y low' : ℕ} {best' : Winner} {now' : List ℕ} → e < to → x ≡ get_or now e 0 → limit ≤ x → best' ≡ best → limit' ≡ limit → now' ≡ now
      → y ≡ get_or now' e 0 → low' ≡ cond (ltb y low) y low → Scanning t time start keys from to (e + 1) limit' low' best' now'
  unfolding on_by
  scanning_pass {x} {now' = now'} b x_is u g m n y_is low_is =
      let k = on_pass (delay_by t time) (key_by t time) time (scan_from start keys) from e x limit h.from_le x_is h.limit_is h.best_is h.keys_are u in
      let a = h.from_le in
      record {
        small = h.small;
        from_le = omega arith;
        upto = omega arith;
        limit_is = m ∙ h.limit_is ∙ ap (limit_of time) (sym g);
        best_is = g ∙ k.0;
        keys_are = n ∙ k.1;
        low_is = lowest_next from e now now' h.from_le (λ i d. ap (λ t. get_or t i 0) (sym n)) h.low_is y_is low_is;
      }

  pub scanning_low : to ≤ e → low ≡ lowest_key now from (to - from)
  scanning_low b = lowest_end now from to e h.from_le h.upto b h.low_is

  pub scanning_long : length now ≡ length keys
  unfolding on_by
  scanning_long = ap length h.keys_are ∙ length_on (delay_by t time) (key_by t time) time (scan_from start keys) from (e - from)

  pub scanning_end : to ≤ e → (best ≡ (on_by t time (scan_from start keys) from (to - from)).best) × (now ≡ (on_by t time (scan_from start keys) from (to - from)).keys)
  unfolding on_by
  scanning_end b = on_end (delay_by t time) (key_by t time) time (scan_from start keys) from to e h.from_le h.upto b h.best_is h.keys_are

-- The next block, as the code goes from b to `to`.
module _ (floors : List ℕ) (limit b to : ℕ) where
  pub next_here : b < to → get_or floors b 0 < limit → next_block floors limit b (to - b) ≡ b
  unfolding next_block
  next_here h l = let q : to - b ≡ suc (to - (b + 1)) = omega arith in rw (q, lt-ltb _ _ l) refl

  pub next_on : b < to → limit ≤ get_or floors b 0 → next_block floors limit b (to - b) ≡ next_block floors limit (b + 1) (to - (b + 1))
  unfolding next_block
  next_on h l = let q : to - b ≡ suc (to - (b + 1)) = omega arith in rw (q, le-ltb _ _ l, add-one b) refl

  pub next_end : to ≤ b → next_block floors limit b (to - b) ≡ b
  unfolding next_block
  next_end h = let q : to - b ≡ 0 = omega arith in rw q refl

next_from : (floors : List ℕ) (limit b n : ℕ) → b ≤ next_block floors limit b n
unfolding next_block
next_from floors limit b zero = omega arith
next_from floors limit b (suc n) = by (ltb (get_or floors b 0) limit) (next_from floors limit (suc b) n)
  where
    by : (x : Bool) → suc b ≤ next_block floors limit (suc b) n → b ≤ cond x b (next_block floors limit (suc b) n)
    by true h = omega arith
    by false h = omega arith

pub next_less : (floors : List ℕ) (limit b n k : ℕ) {r : ℕ} → b < n → r ≡ next_block floors limit (b + 1) k → n - r < n - b
next_less floors limit b n k h q = let f = next_from floors limit (b + 1) k in omega arith

-- Before block b of n.
pub record PassingBlocks (t : Tables) (time : ℕ) (keys floors : List ℕ) (n b limit : ℕ) (best : Winner) (now low : List ℕ) : Type 0 where
  pub upto : b ≤ n
  pub limit_is : limit ≡ limit_of time best
  pub best_is : best ≡ (pass_by t time keys floors b).scanned.best
  pub keys_are : now ≡ (pass_by t time keys floors b).scanned.keys
  pub floors_are : low ≡ (pass_by t time keys floors b).floors

pub passing_start : (t : Tables) (time : ℕ) (keys floors : List ℕ) (n : ℕ) → PassingBlocks t time keys floors n 0 no_key nobody keys floors
unfolding limit_of pass_by passes_below
passing_start t time keys floors n = record { upto = omega arith; limit_is = refl; best_is = refl; keys_are = refl; floors_are = refl }

-- A block starts among the edges.
pub block_starts : (m b : ℕ) → b < m / block_edges + 1 → block_edges * b ≤ m
block_starts m b h = omega arith

module _ {t : Tables} {time : ℕ} {keys floors : List ℕ} {n b limit : ℕ} {best : Winner} {now low : List ℕ} (h : PassingBlocks t time keys floors n b limit best now low) where
  -- A block that is looked through.
  pub passing_look : {x limit' : ℕ} {found best' : Winner} {left now' low' : List ℕ} → b < n → x ≡ get_or low b 0 → x < limit
      → (found ≡ (on_by t time (scan_from best now) (block_edges * b) (block_size (length t.firsts) b)).best)
      → left ≡ (on_by t time (scan_from best now) (block_edges * b) (block_size (length t.firsts) b)).keys
      → low' ≡ set low b (lowest_key left (block_edges * b) (block_size (length t.firsts) b))
      → best' ≡ found
      → limit' ≡ limit_of time found
      → now' ≡ left
      → PassingBlocks t time keys floors n (b + 1) limit' best' now' low'
  unfolding pass_by on_by
  passing_look {x} c x_is u f l o g m k =
      let z =
      block_look (delay_by t time) (key_by t time) time (length t.firsts) keys floors b x limit x_is h.limit_is h.best_is h.keys_are h.floors_are u (g ∙ f) k l o in
      record { upto = omega arith; limit_is = m ∙ ap (limit_of time) (sym g); best_is = z.0; keys_are = z.1; floors_are = z.2 }

  -- A block that is passed over.
  passing_over : b < n → limit ≤ get_or low b 0 → PassingBlocks t time keys floors n (b + 1) limit best now low
  unfolding pass_by
  passing_over c u =
      let z = block_pass_law (delay_by t time) (key_by t time) time (length t.firsts) keys floors b (get_or low b 0) limit refl h.limit_is h.best_is h.keys_are h.floors_are u in
      record { upto = omega arith; limit_is = h.limit_is; best_is = z.0; keys_are = z.1; floors_are = z.2 }

  pub passing_keys : length now ≡ length keys
  unfolding pass_by
  passing_keys = ap length h.keys_are ∙ (length_passes (delay_by t time) (key_by t time) time (length t.firsts) keys floors b).0

  pub passing_floors : length low ≡ length floors
  unfolding pass_by
  passing_floors = ap length h.floors_are ∙ (length_passes (delay_by t time) (key_by t time) time (length t.firsts) keys floors b).1

  -- The end, where the time is another's cap.
  pub passing_end : (whole : ℕ) → time ≡ capped_time whole → n ≤ b
      → (best ≡ (pass_by t (capped_time whole) keys floors n).scanned.best)
      × ((now ≡ (pass_by t (capped_time whole) keys floors n).scanned.keys) × (low ≡ (pass_by t (capped_time whole) keys floors n).floors))
  unfolding pass_by
  passing_end whole e c =
      rw (sym e) (passes_end (delay_by t time) (key_by t time) time (length t.firsts) keys floors n b h.upto c h.best_is h.keys_are h.floors_are)

-- Before a block that is not passed over, or behind the last.
pub record BeforeBlock (t : Tables) (time : ℕ) (keys floors : List ℕ) (n b limit : ℕ) (best : Winner) (now low : List ℕ) : Type 0 where
  pub passing : PassingBlocks t time keys floors n b limit best now low
  pub below : b < n → get_or low b 0 < limit

-- The blocks up to the next whose floor is below the limit are passed over.
pub passing_to : (k : ℕ) {t : Tables} {time : ℕ} {keys floors : List ℕ} {n b limit : ℕ} {best : Winner} {now low : List ℕ} → n - b ≡ k
    → PassingBlocks t time keys floors n b limit best now low → BeforeBlock t time keys floors n (next_block low limit b k) limit best now low
unfolding next_block
passing_to zero q h = record { passing = h; below = λ l. absurd (omega arith) }
passing_to (suc k) {t} {time} {keys} {floors} {n} {b} {limit} {best} {now} {low} q h =
    by (ltb (get_or low b 0) limit) refl (λ p. passing_to k (omega arith) p)
  where
    by : (x : Bool) → ltb (get_or low b 0) limit ≡ x
        → (PassingBlocks t time keys floors n (suc b) limit best now low → BeforeBlock t time keys floors n (next_block low limit (suc b) k) limit best now low)
        → BeforeBlock t time keys floors n (cond x b (next_block low limit (suc b) k)) limit best now low
    by true x on = record { passing = h; below = λ l. ltb-true _ _ x }
    by false x on = on (subst (λ i. PassingBlocks t time keys floors n i limit best now low) (add-one b) (passing_over h (omega arith) (ltb-false _ _ x)))

pub passing_next : {t : Tables} {time : ℕ} {keys floors : List ℕ} {n b limit r : ℕ} {best : Winner} {now low : List ℕ} → r ≡ next_block low limit b (n - b)
    → PassingBlocks t time keys floors n b limit best now low → BeforeBlock t time keys floors n r limit best now low
passing_next {t} {time} {keys} {floors} {n} {b} {limit} {r} {best} {now} {low} q h =
    subst (λ i. BeforeBlock t time keys floors n i limit best now low) (sym q) (passing_to (n - b) refl h)
