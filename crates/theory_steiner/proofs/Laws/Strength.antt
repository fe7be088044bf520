-- Copies for groups with strengths, bit by bit (document 02, No. 13; source 003, section 3.3: b problems for numbers of b bits, and the bound 2(1-1/k)b).
-- The duals of one bit's problem bound the price of any copies that cross each of its cuts 2 ^ b times; so each bit is within 2 - 2/k of any copies that meet
-- the strengths, and all of them together within that times their number. The argument is given once, for any number of bits.
use Rattle.std.specs.Prelude.{ℕ, zero, suc, ◌+◌, ◌*◌, ◌-◌, ◌/◌, ◌%◌, ◌^◌, ◌≤◌, ◌<◌, ◌≡◌, Bool, ◌&&◌, eqb}
use native.Mathlib.Omega.{arith}
use Rattle.std.proofs.Math.Nat.{mul-le-mul_left, mod-add-div, mod-one, div-div-eq-div-mul, div-eq_of_lt}
use Rattle.std.proofs.Common.{mod-eq_of_lt, pow-suc, sym, ◌∙◌, eqb-true}
use Rattle.std.proofs.Math.Path.{refl, ap}
use Rattle.std.proofs.Math.Logic.{⊎_elim}
use Rattle.std.proofs.Math.Bool.{true, false}
use mathlib.Core.List.{[], List, ◌∷◌}
use Rattle.std.proofs.lemmas.Bool.{eqb-false}
use Rattle.base_finite.specs.Below.{counted, sum_below, count_below}
use Rattle.base_finite.specs.Laws.Test.{either, and_left, and_right, and_both, true_not_false, not_true_false}
use Rattle.base_finite.specs.Laws.Below.{lt_or_ge, sum_le, sum_cong, sum_add, sum_scale, sum_swap, sum_limit, sum_zero, sum_member, counted_true, counted_false, counted_le, counted_mono, counted_sum, any_intro, any_elim, Found}
use Rattle.theory_graph.specs.Path.{crosses}
use Rattle.theory_graph.proofs.Laws.Linked.{Crossing, cut_crossed}
use Rattle.theory_steiner.specs.Problem.{Problem, Sound, Joins, separates, all_usable, cost, terminal, terminals}
use Rattle.theory_steiner.specs.Growth.{grown}
use Rattle.theory_steiner.specs.Dual.{Dual, weigh, total, dual_load, duals_of, Separating, EachDual, none, more}
use Rattle.theory_steiner.specs.Pruning.{kept}
use Rattle.theory_steiner.specs.Strength.{Strengths, RequiresGroups, crossings, copies_cost, CopiesUsable, MeetsStrengths, CopiesAccurate, has_bit, required_at, bit_problem, copies}
use Rattle.theory_steiner.proofs.Laws.Joined.{Split, separates_elim, Partner, terminal_elim, terminal_intro}
use Rattle.theory_steiner.proofs.Laws.Finish.{kept_joins, kept_edges}
use Rattle.theory_steiner.proofs.Laws.Dual.{total_duals}
use Rattle.theory_steiner.proofs.Laws.Accuracy.{kept_accurate_at, no_terminal_free, grown_separating, grown_feasible}

-- ---- bits

-- A number with bit b is at least 2 ^ b.
pub bit_le : (n b : ℕ) → has_bit n b ≡ true → 2 ^ b ≤ n
unfolding has_bit
bit_le n b h = ⊎_elim (λ l. absurd (small (div-eq_of_lt l))) (λ g. g) (lt_or_ge n (2 ^ b))
  where
    small : n / 2 ^ b ≡ 0 → ⊥
    small z = let k : n / 2 ^ b % 2 ≡ 1 = eqb-true (n / 2 ^ b % 2) 1 h in omega arith

bit_value : (n b : ℕ) → counted (has_bit n b) (2 ^ b) ≡ 2 ^ b * (n / 2 ^ b % 2)
unfolding has_bit
bit_value n b =
    ⊎_elim
    (λ h. counted_true h (2 ^ b) ∙ omega (arith, ap (λ x. 2 ^ b * x) (eqb-true (n / 2 ^ b % 2) 1 h)))
    (λ h.
    let z : n / 2 ^ b % 2 ≡ 0 = let d = eqb-false (n / 2 ^ b % 2) 1 h in omega arith in
    counted_false h (2 ^ b) ∙ omega (arith, ap (λ x. 2 ^ b * x) z))
    (either (eqb (n / 2 ^ b % 2) 1))

mod_double : (n D : ℕ) → n % (D * 2) ≡ n % D + D * (n / D % 2)
mod_double n D =
    from (n / D) (n / D / 2) (n / (D * 2)) (n / D % 2) (mod-add-div n D) (mod-add-div n (D * 2)) (mod-add-div (n / D) 2) (div-div-eq-div-mul n D 2)
  where
    from : (q h r t : ℕ) → n % D + D * q ≡ n → n % (D * 2) + D * 2 * r ≡ n → t + 2 * h ≡ q → h ≡ r → n % (D * 2) ≡ n % D + D * t
    from q h r t x y z w = omega (arith, ap (λ k. D * k) z, ap (λ k. D * k) w)

bits_modulo : (n bits : ℕ) → n % 2 ^ bits ≡ sum_below bits (λ b. counted (has_bit n b) (2 ^ b))
unfolding sum_below
bits_modulo n zero = mod-one n
bits_modulo n (suc b) = ap (λ x. n % x) (pow-suc 2 b) ∙ mod_double n (2 ^ b) ∙ omega (arith, bits_modulo n b, bit_value n b)

-- A number is the sum of its bits.
pub bits_whole : (n bits : ℕ) → n < 2 ^ bits → n ≡ sum_below bits (λ b. counted (has_bit n b) (2 ^ b))
bits_whole n bits l = sym (mod-eq_of_lt l) ∙ bits_modulo n bits

-- Bits that count where tests hold come to less than 2 ^ bits.
pub bits_below : (t : ℕ → Bool) (bits : ℕ) → sum_below bits (λ b. counted (t b) (2 ^ b)) < 2 ^ bits
unfolding sum_below
bits_below t zero = omega arith
bits_below t (suc b) = omega (arith, bits_below t b, counted_le (t b) (2 ^ b), pow-suc 2 b)

-- ---- copies that cross every cut of p so often: duals bound their price

module _ (p : Problem) (x : ℕ → ℕ) (usable : CopiesUsable p x) (D : ℕ) (often : (S : ℕ → Bool) → separates p S ≡ true → D ≤ crossings p x S) where
  load_often : (ds : List Dual) → EachDual (Separating p) ds → D * total ds ≤ sum_below p.edges (λ e. x e * dual_load p ds e)
  unfolding total weigh dual_load crossings
  load_often [] none = omega arith
  load_often (d ∷ ds) (more h hs) =
      omega (
        arith,
        load_often ds hs,
        mul-le-mul_left d.value (often d.holds h),
        sum_cong p.edges (λ e. x e * (counted (crosses p.first p.second d.holds e) d.value + dual_load p ds e))
            (λ e. d.value * counted (crosses p.first p.second d.holds e) (x e) + x e * dual_load p ds e)
            (λ e b. at (crosses p.first p.second d.holds e) (x e) (dual_load p ds e)),
        sum_add p.edges (λ e. d.value * counted (crosses p.first p.second d.holds e) (x e)) (λ e. x e * dual_load p ds e),
        sum_scale p.edges d.value (λ e. counted (crosses p.first p.second d.holds e) (x e)),
        ap (λ y. D * y) (counted_true {t = true} refl d.value),
      )
    where
      at : (t : Bool) (y z : ℕ) → y * (counted t d.value + z) ≡ d.value * counted t y + y * z
      at true y z = rw (counted_true {t = true} refl d.value, counted_true {t = true} refl y) (omega arith)
      at false y z = rw (counted_false {t = false} refl d.value, counted_false {t = false} refl y) (omega arith)

  -- Weak duality for copies.
  pub copies_duality : (ds : List Dual) → EachDual (Separating p) ds → ((e : ℕ) → e < p.edges → p.usable e ≡ true → dual_load p ds e ≤ 2 * p.weight e) →
      D * total ds ≤ 2 * copies_cost p x
  unfolding copies_cost
  copies_duality ds h fits =
      omega (
        arith,
        load_often ds h,
        sum_le p.edges (λ e. x e * dual_load p ds e) (λ e. 2 * (x e * p.weight e)) (λ e b. ⊎_elim (used e b) (unused e b) (either (p.usable e))),
        sum_scale p.edges 2 (λ e. x e * p.weight e),
      )
    where
      used : (e : ℕ) → e < p.edges → p.usable e ≡ true → x e * dual_load p ds e ≤ 2 * (x e * p.weight e)
      used e b u = omega (arith, mul-le-mul_left (x e) (fits e b u))

      unused : (e : ℕ) → e < p.edges → p.usable e ≡ false → x e * dual_load p ds e ≤ 2 * (x e * p.weight e)
      unused e b u = rw (usable e b u) (omega arith)

  -- D times what is kept, against any copies that cross every cut D times, for the number of terminals or any number above it.
  pub kept_within_copies : (ok : Sound p) (some : 0 < p.vertices) (joinable : Joins p (all_usable p)) (k : ℕ) → terminals p ≤ k →
      k * (D * cost p (kept p)) ≤ (2 * k - 2) * copies_cost p x
  kept_within_copies ok some joinable k most =
      let dual = copies_duality (duals_of p (grown p)) (grown_separating p ok some joinable) (grown_feasible p ok some joinable) in
      let twice : 2 * k - 2 ≡ 2 * (k - 1) = omega arith in
      omega (
        arith,
        ap (λ y. y * copies_cost p x) twice,
        ap (λ y. (k - 1) * (D * y)) (total_duals p (grown p)),
        mul-le-mul_left (k - 1) dual,
        mul-le-mul_left D (kept_accurate_at p ok some joinable k most),
      )

-- ---- the problem of one bit

-- A group whose strength has bit b and that holds both.
pub record SharesBit (s : Strengths) (b u v : ℕ) : Type 0 where
  pub group : ℕ
  pub below : group < s.groups
  pub bit : has_bit (s.strength group) b ≡ true
  pub first_member : s.member group u ≡ true
  pub second_member : s.member group v ≡ true

pub required_at_elim : (s : Strengths) (b u v : ℕ) → required_at s b u v ≡ true → SharesBit s b u v
unfolding required_at
required_at_elim s b u v h =
    let f : Found s.groups (λ g. has_bit (s.strength g) b && (s.member g u && s.member g v)) = any_elim s.groups _ h in
    let both = and_right (has_bit (s.strength f.at) b) (s.member f.at u && s.member f.at v) f.passes in
    record {
      group = f.at;
      below = f.below;
      bit = and_left (has_bit (s.strength f.at) b) (s.member f.at u && s.member f.at v) f.passes;
      first_member = and_left (s.member f.at u) (s.member f.at v) both;
      second_member = and_right (s.member f.at u) (s.member f.at v) both;
    }

pub required_at_intro : (s : Strengths) (b u v : ℕ) → SharesBit s b u v → required_at s b u v ≡ true
unfolding required_at
required_at_intro s b u v h =
    any_intro s.groups (λ g. has_bit (s.strength g) b && (s.member g u && s.member g v)) h.group h.below
    (and_both (has_bit (s.strength h.group) b) (s.member h.group u && s.member h.group v) h.bit
    (and_both (s.member h.group u) (s.member h.group v) h.first_member h.second_member))

module _ (p : Problem) (s : Strengths) where
  pub bit_sound : Sound p → (b : ℕ) → Sound (bit_problem p s b)
  bit_sound ok b =
      record {
        first_below_law = ok.first_below_law;
        second_below = ok.second_below;
        ends_differ = ok.ends_differ;
        symmetric = λ u v r.
            let h : SharesBit s b u v = required_at_elim s b u v r in
            required_at_intro s b v u
            (record { group = h.group; below = h.below; bit = h.bit; first_member = h.second_member; second_member = h.first_member });
      }

  -- What a bit requires p requires.
  bit_required : RequiresGroups p s → (b u v : ℕ) → u < p.vertices → v < p.vertices → required_at s b u v ≡ true → p.required u v ≡ true
  bit_required asks b u v bu bv r =
      let h : SharesBit s b u v = required_at_elim s b u v r in asks h.group u v h.below bu bv h.first_member h.second_member

  pub bit_joinable : RequiresGroups p s → Joins p (all_usable p) → (b : ℕ) → Joins (bit_problem p s b) (all_usable (bit_problem p s b))
  unfolding all_usable
  bit_joinable asks joinable b u v bu bv r = joinable u v bu bv (bit_required asks b u v bu bv r)

  pub bit_terminals : RequiresGroups p s → (b : ℕ) → terminals (bit_problem p s b) ≤ terminals p
  unfolding terminals count_below
  bit_terminals asks b =
      sum_le p.vertices (λ v. counted (terminal (bit_problem p s b) v) 1) (λ v. counted (terminal p v) 1)
      (λ v bv. counted_mono (terminal (bit_problem p s b) v) (terminal p v) 1 (is v bv))
    where
      is : (v : ℕ) → v < p.vertices → terminal (bit_problem p s b) v ≡ true → terminal p v ≡ true
      is v bv t =
          let w : Partner (bit_problem p s b) v = terminal_elim (bit_problem p s b) v t in
          terminal_intro p v
          (record { vertex = w.vertex; below = w.below; other = w.other; required = bit_required asks b w.vertex v w.below bv w.required })

  -- Copies that meet the strengths cross each cut of bit b 2 ^ b times.
  bit_crossed : (x : ℕ → ℕ) → MeetsStrengths p s x → (b : ℕ) (S : ℕ → Bool) → separates (bit_problem p s b) S ≡ true → 2 ^ b ≤ crossings (bit_problem p s b) x S
  unfolding crossings
  bit_crossed x meets b S a =
      let split : Split (bit_problem p s b) S = separates_elim (bit_problem p s b) S a in
      let h : SharesBit s b split.u split.v = required_at_elim s b split.u split.v split.required in
      let enough = meets S h.group split.u split.v h.below split.u_below split.v_below h.first_member h.second_member split.inside split.outside in
      omega (arith, bit_le (s.strength h.group) b h.bit, enough)

  bit_price_law : (x : ℕ → ℕ) (b : ℕ) → copies_cost (bit_problem p s b) x ≡ copies_cost p x
  unfolding copies_cost
  bit_price_law x b = refl

  -- ---- our copies

  -- Their price is that of the kept edges of each bit, 2 ^ b times.
  pub copies_price : (bits : ℕ) → copies_cost p (copies p s bits) ≡ sum_below bits (λ b. 2 ^ b * cost (bit_problem p s b) (kept (bit_problem p s b)))
  unfolding copies_cost copies cost
  copies_price bits =
      sum_cong p.edges _ (λ e. sum_below bits (λ b. 2 ^ b * counted (kept (bit_problem p s b) e) (p.weight e))) (λ e b. each e)
      ∙ sum_swap p.edges bits (λ e b. 2 ^ b * counted (kept (bit_problem p s b) e) (p.weight e))
      ∙ sum_cong bits _ (λ b. 2 ^ b * sum_below p.edges (λ e. counted (kept (bit_problem p s b) e) (p.weight e)))
      (λ b l. sum_scale p.edges (2 ^ b) (λ e. counted (kept (bit_problem p s b) e) (p.weight e)))
    where
      turned : (t : Bool) (y w : ℕ) → w * counted t y ≡ y * counted t w
      turned true y w = rw (counted_true {t = true} refl y, counted_true {t = true} refl w) (omega arith)
      turned false y w = rw (counted_false {t = false} refl y, counted_false {t = false} refl w) (omega arith)

      each : (e : ℕ) → sum_below bits (λ b. counted (kept (bit_problem p s b) e) (2 ^ b)) * p.weight e
          ≡ sum_below bits (λ b. 2 ^ b * counted (kept (bit_problem p s b) e) (p.weight e))
      each e =
          omega (
            arith,
            sum_scale bits (p.weight e) (λ b. counted (kept (bit_problem p s b) e) (2 ^ b)),
            sum_cong bits (λ b. p.weight e * counted (kept (bit_problem p s b) e) (2 ^ b)) (λ b. 2 ^ b * counted (kept (bit_problem p s b) e) (p.weight e))
                (λ b l. turned (kept (bit_problem p s b) e) (2 ^ b) (p.weight e)),
          )

  -- No edge has 2 ^ bits copies.
  pub copies_below : (bits e : ℕ) → copies p s bits e < 2 ^ bits
  unfolding copies
  copies_below bits e = bits_below (λ b. kept (bit_problem p s b) e) bits

  module _ (ok : Sound p) (some : 0 < p.vertices) (joinable : Joins p (all_usable p)) (asks : RequiresGroups p s) where
    pub copies_usable : (bits : ℕ) → CopiesUsable p (copies p s bits)
    unfolding copies
    copies_usable bits e b u =
        sum_zero bits (λ b. counted (kept (bit_problem p s b) e) (2 ^ b))
        (λ b l.
        counted_false
        (not_true_false (kept (bit_problem p s b) e)
        (λ k. true_not_false (p.usable e) (kept_edges (bit_problem p s b) (bit_sound ok b) some (bit_joinable asks joinable b) e k).1 u)) (2 ^ b))

    -- How many copies for bit b cross.
    crossing_for : (S : ℕ → Bool) (b : ℕ) → ℕ
    crossing_for S b = sum_below p.edges (λ e. counted (crosses p.first p.second S e) (counted (kept (bit_problem p s b) e) (2 ^ b)))

    -- A division with members on both sides of a group with that bit is crossed by an edge kept for it.
    bit_met : (S : ℕ → Bool) (g u v : ℕ) → g < s.groups → u < p.vertices → v < p.vertices → s.member g u ≡ true → s.member g v ≡ true
        → S u ≡ true → S v ≡ false → (b : ℕ) → counted (has_bit (s.strength g) b) (2 ^ b) ≤ crossing_for S b
    unfolding crossing_for
    bit_met S g u v bg bu bv mu mv inside outside b = ⊎_elim has lacks (either (has_bit (s.strength g) b))
      where
        lacks : has_bit (s.strength g) b ≡ false → counted (has_bit (s.strength g) b) (2 ^ b) ≤ crossing_for S b
        lacks h = omega (arith, counted_false h (2 ^ b))

        has : has_bit (s.strength g) b ≡ true → counted (has_bit (s.strength g) b) (2 ^ b) ≤ crossing_for S b
        has h =
            let r = required_at_intro s b u v (record { group = g; below = bg; bit = h; first_member = mu; second_member = mv }) in
            let x : Crossing p.first p.second (kept (bit_problem p s b)) S =
            cut_crossed S (kept_joins (bit_problem p s b) (bit_sound ok b) some (bit_joinable asks joinable b) u v bu bv r) inside outside in
            omega (
              arith,
              sum_member p.edges (λ e. counted (crosses p.first p.second S e) (counted (kept (bit_problem p s b) e) (2 ^ b))) x.edge
                  (kept_edges (bit_problem p s b) (bit_sound ok b) some (bit_joinable asks joinable b) x.edge x.member).0,
              counted_true x.crossing (counted (kept (bit_problem p s b) x.edge) (2 ^ b)),
              counted_true x.member (2 ^ b),
              counted_le (has_bit (s.strength g) b) (2 ^ b),
            )

    -- The copies meet every strength.
    pub copies_meet : (bits : ℕ) → ((g : ℕ) → g < s.groups → s.strength g < 2 ^ bits) → MeetsStrengths p s (copies p s bits)
    unfolding crossings copies crossing_for
    copies_meet bits fits S g u v bg bu bv mu mv inside outside =
        omega (
          arith,
          bits_whole (s.strength g) bits (fits g bg),
          sum_le bits (λ b. counted (has_bit (s.strength g) b) (2 ^ b)) (crossing_for S) (λ b l. bit_met S g u v bg bu bv mu mv inside outside b),
          sum_swap p.edges bits (λ e b. counted (crosses p.first p.second S e) (counted (kept (bit_problem p s b) e) (2 ^ b))),
          sum_cong p.edges (λ e. counted (crosses p.first p.second S e) (sum_below bits (λ b. counted (kept (bit_problem p s b) e) (2 ^ b))))
              (λ e. sum_below bits (λ b. counted (crosses p.first p.second S e) (counted (kept (bit_problem p s b) e) (2 ^ b))))
              (λ e l. counted_sum (crosses p.first p.second S e) bits (λ b. counted (kept (bit_problem p s b) e) (2 ^ b))),
        )

    -- Each bit is within the factor, so all together are within it times their number.
    copies_within_factor : (bits : ℕ) (x : ℕ → ℕ) → CopiesUsable p x → MeetsStrengths p s x →
        terminals p * copies_cost p (copies p s bits) ≤ bits * (2 * terminals p - 2) * copies_cost p x
    copies_within_factor bits x usable meets =
        rw (copies_price bits)
        (omega (
          arith,
          sum_scale bits (terminals p) (λ b. 2 ^ b * cost (bit_problem p s b) (kept (bit_problem p s b))),
          sum_limit bits ((2 * terminals p - 2) * copies_cost p x) (λ b. terminals p * (2 ^ b * cost (bit_problem p s b) (kept (bit_problem p s b)))) (λ b l. one b),
        ))
      where
        one : (b : ℕ) → terminals p * (2 ^ b * cost (bit_problem p s b) (kept (bit_problem p s b))) ≤ (2 * terminals p - 2) * copies_cost p x
        one b =
            rw (sym (bit_price_law x b))
            (kept_within_copies (bit_problem p s b) x usable (2 ^ b) (bit_crossed x meets b) (bit_sound ok b) some (bit_joinable asks joinable b)
            (terminals p) (bit_terminals asks b))

    no_terminal_copies_free : (bits : ℕ) → terminals p ≡ 0 → copies_cost p (copies p s bits) ≡ 0
    no_terminal_copies_free bits zero_terminals =
        copies_price bits
        ∙ sum_zero bits (λ b. 2 ^ b * cost (bit_problem p s b) (kept (bit_problem p s b)))
        (λ b l.
        omega (
          arith,
          ap (λ x. 2 ^ b * x)
              (no_terminal_free (bit_problem p s b) (bit_sound ok b) some (bit_joinable asks joinable b) (omega (arith, bit_terminals asks b))),
        ))

    -- The accuracy rule.
    pub copies_accurate : (bits : ℕ) → CopiesAccurate p s bits (terminals p) (copies_cost p (copies p s bits))
    copies_accurate bits = record { factor = copies_within_factor bits; free = no_terminal_copies_free bits }
