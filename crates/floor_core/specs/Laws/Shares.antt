-- The root, the members and the share of a group, and the shares after one list more.
use Prim.Native.Nat.{ℕ, zero, suc, ◌+◌, ◌-◌, ◌^◌, ◌≤◌, ◌<◌}
use native.Mathlib.Omega.{arith}
use Rattle.std.proofs.Math.Decide.{ℕ_discrete}
use Rattle.std.proofs.Common.{add-one, ◌∙◌}
use Rattle.std.specs.Prelude.{◌≡◌, Bool, cond, set, replicate, eqb, ltb}
use Rattle.std.proofs.Math.Path.{refl, ap, sym, subst}
use Rattle.std.proofs.Math.Bool.{true, false}
use mathlib.Core.List.{List}
use Rattle.std.proofs.Math.ListN.{length, get_or, length-set, length-replicate, get_or-replicate}
use Rattle.std.proofs.Math.Seq.{get_or-set_same, get_or-set_other}
use borrow.Author.Tests.{eq-eqb, ne_eqb, lt-ltb, le-ltb}
use Rattle.base_finite.specs.Below.{counted, sum_below, count_below}
use Rattle.base_finite.specs.Laws.Below.{counted_true, counted_false, counted_le, sum_limit, sum_suc, count_le}
use Rattle.base_buffer.specs.Store.{remade}
use Rattle.base_buffer.proofs.Laws.Store.{length_remade, remade_end}
use Rattle.base_limits.specs.Limits.{max_vertices, max_edges, group_numbers}
use Rattle.survey_core.specs.Survey.{survey_from, vertex_count}
use Rattle.floor_rule.specs.Ascent.{max_cost, lesser, lowest_in, ascended, lowered, after_list, in_company, first_shares, shares_after, ascent_floor}
use Rattle.floor_rule.proofs.Laws.Ascent.{share_limit}
use Rattle.floor_core.specs.Tables.{Counts}

module _ (groups : List ℕ) (l v : ℕ) {low : ℕ} (low_is : low ≡ lowest_in groups l v) where
  pub lowest_stays : (low ≡ v → ⊥) → low ≡ lowest_in groups l (suc v)
  unfolding lowest_in
  lowest_stays other = rw (ne_eqb (lowest_in groups l v) v (λ e. other (low_is ∙ e))) low_is

  pub lowest_found : {x : ℕ} → low ≡ v → x ≡ get_or groups v 0 → x ≡ l → low ≡ lowest_in groups l (suc v)
  unfolding lowest_in
  lowest_found same x_is in_group = rw (eq-eqb (lowest_in groups l v) v (sym low_is ∙ same), eq-eqb (get_or groups v 0) l (sym x_is ∙ in_group)) low_is

  pub lowest_past : {x : ℕ} → low ≡ v → x ≡ get_or groups v 0 → (x ≡ l → ⊥) → v + 1 ≡ lowest_in groups l (suc v)
  unfolding lowest_in
  lowest_past same x_is other = rw (eq-eqb (lowest_in groups l v) v (sym low_is ∙ same), ne_eqb (get_or groups v 0) l (λ e. other (x_is ∙ e))) (add-one v)

pub lowest_more : (groups : List ℕ) (l v : ℕ) {low : ℕ} → low ≡ lowest_in groups l (suc v) → low ≡ lowest_in groups l (v + 1)
lowest_more groups l v h = h ∙ ap (lowest_in groups l) (sym (add-one v))

pub lowest_end : (groups : List ℕ) (l n v : ℕ) {low : ℕ} → v ≤ n → n ≤ v → low ≡ lowest_in groups l v → low ≡ lowest_in groups l n
lowest_end groups l n v b c h = let e : v ≡ n = omega arith in h ∙ ap (lowest_in groups l) e

module _ (groups : List ℕ) where
  pub counts_start : {counts : List ℕ} → counts ≡ replicate group_numbers 0 → Counts groups 0 counts
  unfolding count_below sum_below
  counts_start h = record {
    long = ap length h ∙ length-replicate {A = ℕ} group_numbers 0;
    members = λ l b. ap (λ (k : List ℕ). get_or k l 0) h ∙ get_or-replicate group_numbers l 0 0 b;
  }

  module _ (v : ℕ) {counts : List ℕ} (h : Counts groups v counts) where
    pub count_fits : {d : ℕ} → d < group_numbers → get_or counts d 0 ≤ v
    count_fits {d} b = omega (arith, h.members d b, count_le v (λ u. eqb (get_or groups u 0) d))

    pub counts_more : {next : List ℕ} {d : ℕ} → d ≡ get_or groups v 0 → next ≡ set counts d (get_or counts d 0 + 1) → Counts groups (v + 1) next
    unfolding count_below
    counts_more {next} {d} d_is next_is = record {
      long = ap length next_is ∙ length-set counts d (get_or counts d 0 + 1) ∙ h.long;
      members = λ l b. ap (λ (k : List ℕ). get_or k l 0) next_is ∙ by l b (ℕ_discrete l d) ∙ more l b;
    }
      where
        -- as many as before, and v, if it is a member
        by : (l : ℕ) → l < group_numbers → Dec (l ≡ d) → get_or (set counts d (get_or counts d 0 + 1)) l 0 ≡ get_or counts l 0 + counted (eqb (get_or groups v 0) l) 1
        by l b (yes e) =
            let at : get_or (set counts d (get_or counts d 0 + 1)) d 0 ≡ get_or counts d 0 + 1 = get_or-set_same counts d (get_or counts d 0 + 1) 0 (subst (λ n. d < n) (sym h.long) (subst (λ k. k < group_numbers) e b)) in
            subst (λ k. get_or (set counts d (get_or counts d 0 + 1)) k 0 ≡ get_or counts k 0 + counted (eqb (get_or groups v 0) k) 1) (sym e)
            (omega (arith, at, counted_true (eq-eqb (get_or groups v 0) d (sym d_is)) 1))
        by l b (no e) = omega (arith, get_or-set_other counts d l (get_or counts d 0 + 1) 0 e, counted_false (ne_eqb (get_or groups v 0) l (λ k. e (sym (d_is ∙ k)))) 1)

        more : (l : ℕ) → l < group_numbers → get_or counts l 0 + counted (eqb (get_or groups v 0) l) 1 ≡ sum_below (v + 1) (λ u. counted (eqb (get_or groups u 0) l) 1)
        more l b =
            ap (λ x. x + counted (eqb (get_or groups v 0) l) 1) (h.members l b) ∙ sym (sum_suc v (λ u. counted (eqb (get_or groups u 0) l) 1))
            ∙ ap (λ n. sum_below n (λ u. counted (eqb (get_or groups u 0) l) 1)) (sym (add-one v))

  pub counts_end : (n v : ℕ) {counts : List ℕ} → v ≤ n → n ≤ v → Counts groups v counts → Counts groups n counts
  counts_end n v {counts} b d h = let e : v ≡ n = omega arith in subst (λ k. Counts groups k counts) e h

pub noted_member : (counts : List ℕ) (d : ℕ) {i x k : ℕ} {next : List ℕ} → i ≡ d → x ≡ get_or counts i 0 → k ≡ d → next ≡ set counts k (x + 1) → next ≡ set counts d (get_or counts d 0 + 1)
noted_member counts d {i} {x} i_is x_is k_is next_is =
    next_is ∙ ap (λ j. set counts j (x + 1)) k_is ∙ ap (λ y. set counts d (y + 1)) (x_is ∙ ap (λ j. get_or counts j 0) i_is)

pub noted_fits : (counts : List ℕ) (d : ℕ) {i x : ℕ} → get_or counts d 0 + 1 < 2 ^ 64 → i ≡ d → x ≡ get_or counts i 0 → x + 1 < 2 ^ 64
noted_fits counts d fits i_is x_is = omega (arith, fits, x_is ∙ ap (λ j. get_or counts j 0) i_is)

module _ (groups : List ℕ) (l : ℕ) where
  abbrev count : ℕ
  count = count_below (length groups) (λ v. eqb (get_or groups v 0) l)

  no_group_share : l ≡ 0 → 0 ≡ counted (in_company groups l) max_cost
  unfolding in_company
  no_group_share h = sym (counted_false (rw (eq-eqb l 0 h)) max_cost)

  alone_share : {m : ℕ} → (l ≡ 0 → ⊥) → m ≡ count_below (length groups) (λ v. eqb (get_or groups v 0) l) → m ≤ 1 → 0 ≡ counted (in_company groups l) max_cost
  unfolding in_company
  alone_share some m_is few = sym (counted_false (rw (ne_eqb l 0 some, le-ltb 1 count (omega (arith, m_is, few)))) max_cost)

  company_share : {m : ℕ} → (l ≡ 0 → ⊥) → m ≡ count_below (length groups) (λ v. eqb (get_or groups v 0) l) → 1 < m → max_cost ≡ counted (in_company groups l) max_cost
  unfolding in_company
  company_share some m_is many = sym (counted_true (rw (ne_eqb l 0 some, lt-ltb 1 count (omega (arith, m_is, many)))) max_cost)

-- The share of a group, by how many members it has.
module _ (counts : List ℕ) (l : ℕ) where
  pub share_none : l ≡ 0 → (groups : List ℕ) → Counts groups (length groups) counts → l < group_numbers → 0 ≡ counted (in_company groups l) max_cost
  share_none none groups h b = no_group_share groups l none

  module _ (some : l ≡ 0 → ⊥) {x : ℕ} (x_is : x ≡ get_or counts l 0) where
    pub share_alone : x ≤ 1 → (groups : List ℕ) → Counts groups (length groups) counts → l < group_numbers → 0 ≡ counted (in_company groups l) max_cost
    share_alone few groups h b = alone_share groups l some (x_is ∙ h.members l b) few

    pub share_company : 1 < x → (groups : List ℕ) → Counts groups (length groups) counts → l < group_numbers → max_cost ≡ counted (in_company groups l) max_cost
    share_company many groups h b = company_share groups l some (x_is ∙ h.members l b) many

pub first_shares_end : (groups : List ℕ) (l : ℕ) {now : List ℕ} → l ≤ group_numbers → group_numbers ≤ l
    → now ≡ remade (λ l x. counted (in_company groups l) max_cost) l (replicate group_numbers 0) → now ≡ first_shares groups
unfolding first_shares
first_shares_end groups l b c h = h ∙ remade_end _ group_numbers l (replicate group_numbers 0) b c

module _ (got : List ℕ) (k whole l : ℕ) where
  pub share_below : l < k → whole ≡ cond (ltb l k) whole (lesser whole (get_or got l 0))
  share_below b = rw (lt-ltb l k b)

  pub share_less : {x : ℕ} → k ≤ l → x ≡ get_or got l 0 → x < whole → x ≡ cond (ltb l k) whole (lesser whole (get_or got l 0))
  unfolding lesser
  share_less b x_is h = let c : get_or got l 0 < whole = omega (arith, x_is, h) in rw (le-ltb l k b, lt-ltb (get_or got l 0) whole c) x_is

  pub share_whole : {x : ℕ} → k ≤ l → x ≡ get_or got l 0 → whole ≤ x → whole ≡ cond (ltb l k) whole (lesser whole (get_or got l 0))
  unfolding lesser
  share_whole b x_is h = let c : whole ≤ get_or got l 0 = omega (arith, x_is, h) in rw (le-ltb l k b, le-ltb (get_or got l 0) whole c)

-- One share more, as it was read and kept.
pub share_kept : (got : List ℕ) (k l : ℕ) {x y z : ℕ} → x ≡ z → y ≡ cond (ltb l k) x (lesser x (get_or got l 0)) → y ≡ cond (ltb l k) z (lesser z (get_or got l 0))
share_kept got k l x_is y_is = y_is ∙ ap (λ w. cond (ltb l k) w (lesser w (get_or got l 0))) x_is

pub lowered_end : (got : List ℕ) (k l : ℕ) (start : List ℕ) {now : List ℕ} → l ≤ group_numbers → group_numbers ≤ l
    → now ≡ remade (λ l x. cond (ltb l k) x (lesser x (get_or got l 0))) l start → now ≡ lowered got k start
unfolding lowered
lowered_end got k l start b c h = h ∙ remade_end _ group_numbers l start b c

module _ (groups firsts seconds weights : List ℕ) where
  pub list_none : (k : ℕ) (share : List ℕ) {x : ℕ} → x ≡ get_or share k 0 → x ≡ 0 → share ≡ after_list groups firsts seconds weights k share
  unfolding after_list
  list_none k share x_is none = rw (eq-eqb (get_or share k 0) 0 (sym x_is ∙ none))

  pub list_some : (k : ℕ) (share : List ℕ) {x : ℕ} {got next : List ℕ} → x ≡ get_or share k 0 → (x ≡ 0 → ⊥) → got ≡ (ascended groups firsts seconds weights share k).got
      → next ≡ lowered got k share → next ≡ after_list groups firsts seconds weights k share
  unfolding after_list
  list_some k share x_is some got_is next_is =
      rw (ne_eqb (get_or share k 0) 0 (λ z. some (x_is ∙ z))) (next_is ∙ ap (λ (g : List ℕ). lowered g k share) got_is)

  pub shares_more : (j : ℕ) {now next : List ℕ} {k : ℕ} → now ≡ shares_after groups firsts seconds weights j → k ≡ group_numbers - (j + 1)
      → next ≡ after_list groups firsts seconds weights k now → next ≡ shares_after groups firsts seconds weights (j + 1)
  unfolding shares_after
  shares_more j {now} h k_is e =
      let last : group_numbers - (j + 1) ≡ group_numbers - suc j = omega arith in
      e ∙ ap (λ i. after_list groups firsts seconds weights i now) (k_is ∙ last) ∙ ap (after_list groups firsts seconds weights (group_numbers - suc j)) h
      ∙ ap (shares_after groups firsts seconds weights) (sym (add-one j))

  length_after : (k : ℕ) (share : List ℕ) → length (after_list groups firsts seconds weights k share) ≡ length share
  unfolding after_list lowered
  length_after k share = by (eqb (get_or share k 0) 0)
    where
      by : (t : Bool) → length (cond t share (lowered (ascended groups firsts seconds weights share k).got k share)) ≡ length share
      by true = refl
      by false = length_remade _ group_numbers share

  length_shares : (j : ℕ) → length (shares_after groups firsts seconds weights j) ≡ group_numbers
  unfolding shares_after first_shares
  length_shares zero = length_remade _ group_numbers (replicate group_numbers 0) ∙ length-replicate {A = ℕ} group_numbers 0
  length_shares (suc j) = length_after (group_numbers - suc j) (shares_after groups firsts seconds weights j) ∙ length_shares j

  pub shares_long : (j : ℕ) {now : List ℕ} → now ≡ shares_after groups firsts seconds weights j → group_numbers ≡ length now
  shares_long j h = sym (ap length h ∙ length_shares j)

  pub shares_end : (j : ℕ) {now : List ℕ} → j ≤ group_numbers → group_numbers ≤ j → now ≡ shares_after groups firsts seconds weights j → now ≡ shares_after groups firsts seconds weights group_numbers
  shares_end j b c h = let e : j ≡ group_numbers = omega arith in h ∙ ap (shares_after groups firsts seconds weights) e

  pub shares_fit : length groups ≤ max_vertices → length firsts ≤ max_edges → (j : ℕ) {now : List ℕ} → now ≡ shares_after groups firsts seconds weights j → (l : ℕ) → l < group_numbers → get_or now l 0 ≤ max_cost
  unfolding vertex_count
  shares_fit few edges_few j h l b =
      omega (
        arith,
        ap (λ (s : List ℕ). get_or s l 0) h,
        share_limit (survey_from groups firsts seconds weights) groups refl few edges_few j l b,
        counted_le (in_company groups l) max_cost,
      )

  pub floor_total : {share : List ℕ} {sum : ℕ} → share ≡ shares_after groups firsts seconds weights group_numbers → sum ≡ sum_below group_numbers (λ l. get_or share l 0)
      → sum ≡ ascent_floor groups firsts seconds weights
  unfolding ascent_floor
  floor_total h e = e ∙ ap (λ (s : List ℕ). sum_below group_numbers (λ l. get_or s l 0)) h

pub total_fits : (share : List ℕ) (l : ℕ) {sum x : ℕ} → ((i : ℕ) → i < group_numbers → get_or share i 0 ≤ max_cost) → l < group_numbers → sum ≡ sum_below l (λ i. get_or share i 0) → x ≡ get_or share l 0
    → sum + x < 2 ^ 64
total_fits share l fits b sum_is_lem x_is =
    omega (arith, sum_is_lem, x_is, fits l b, sum_limit l max_cost (λ i. get_or share i 0) (λ i c. fits i (omega arith)))
