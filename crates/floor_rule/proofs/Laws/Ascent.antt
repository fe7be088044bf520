-- The floor of the ascent is one: behind every state of a list stand cuts that are rooted, load no arc above its weight and give each group what it has got, and
-- every share is covered by each list that counts for it. So directed duality applies.
use Prim.Native.Nat.{ℕ, zero, suc, ◌+◌, ◌-◌, ◌≤◌, ◌<◌}
use native.Mathlib.Omega.{arith}
use Rattle.std.proofs.Math.Decide.{ℕ_discrete}
use Rattle.std.specs.Prelude.{◌≡◌, refl, ◌⊎◌, Bool, ◌&&◌, ◌||◌, replicate}
use Rattle.std.proofs.Math.Path.{ap, sym, subst}
use Rattle.std.proofs.Common.{◌∙◌, inl, inr, length-set}
use Rattle.std.proofs.Math.Bool.{true, false, cond}
use mathlib.Core.List.{[], List, ◌∷◌}
use Rattle.std.proofs.Math.ListN.{length, get_or, set, length-replicate, get_or-replicate, get_or-eq_default}
use Rattle.std.proofs.Math.Seq.{get_or-set_same, get_or-set_other}
use Rattle.std.proofs.Math.Dec.{eqb, ltb}
use borrow.Author.Tests.{eqb-true, eqb-false, eq-eqb, ne_eqb, lt-ltb, le-ltb}
use Rattle.base_finite.specs.Below.{counted}
use Rattle.base_finite.specs.Laws.Test.{either, and_left, and_right, and_both, or_false_right, true_not_false}
use Rattle.base_finite.specs.Laws.Below.{lt_or_ge, counted_true, counted_false, any_intro, any_elim, Found}
use Rattle.base_buffer.proofs.Laws.Store.{length_remade, remade_passed}
use Rattle.base_limits.specs.Limits.{max_vertices, max_edges, group_numbers}
use Rattle.theory_steiner.specs.Problem.{Problem, EdgeSet, Joins, cost}
use Rattle.theory_directed.specs.Directed.{Groups, peopled, Grouped, Cut, EachCut, none, more, amount, arc_load, Fits, Rooted, Certified}
use Rattle.theory_directed.proofs.Laws.Directed.{directed_duality}
use Rattle.survey_core.specs.Survey.{Survey, vertex_count, edge_count, problem_of}
use Rattle.floor_rule.specs.Ascent.{max_arcs, max_cost, lesser, arc_count, edge_of, tail_of, head_of, flagged, enters_at, reaching, least_rest, loaded, State, missing, raised, raised_by, visit, visit_member, visit_members, visit_group, visit_groups, passes, pass_count, prices, at_first, root_of, ascended, lowered, after_list, in_company, first_shares, shares_after, ascent_floor}
use Rattle.floor_rule.proofs.Laws.Root.{lowest_member, lowest_below_law, company_some, company_member}
use Rattle.floor_rule.proofs.Laws.Cut.{lesser_left, lesser_right, reaching_self, least_le, loaded_at, length_loaded, arc_forth, arc_back}

-- The groups with two members or more, by number.
abbrev pub companies : (groups : List ℕ) → Groups
companies groups =
    record { count = group_numbers; member = λ l v. in_company groups l && eqb (get_or groups v 0) l; root = root_of groups }

module _ (t : Survey) (groups : List ℕ) (long : length groups ≡ vertex_count t) (few : length groups ≤ max_vertices) (edges_few : length t.firsts ≤ max_edges) where
  abbrev p : Problem
  p = problem_of t

  abbrev g : Groups
  g = companies groups

  vertices_are : length groups ≡ (problem_of t).vertices
  unfolding problem_of
  vertices_are = long

  -- ---- the groups

  peopled_company : (l : ℕ) → peopled (problem_of t) (companies groups) l ≡ true → in_company groups l ≡ true
  unfolding peopled
  peopled_company l h =
      let x : Found p.vertices (g.member l) = any_elim p.vertices (g.member l) h in
      and_left (in_company groups l) (eqb (get_or groups x.at 0) l) x.passes

  company_peopled : (l : ℕ) → in_company groups l ≡ true → peopled (problem_of t) (companies groups) l ≡ true
  unfolding peopled problem_of
  company_peopled l h =
      let x : Found (length groups) (λ v. eqb (get_or groups v 0) l) = company_member groups l h in
      any_intro (vertex_count t) (g.member l) x.at (subst (λ n. x.at < n) long x.below) (and_both (in_company groups l) (eqb (get_or groups x.at 0) l) h x.passes)

  root_found : (l : ℕ) → peopled (problem_of t) (companies groups) l ≡ true → (root_of groups l < length groups) × (get_or groups (root_of groups l) 0 ≡ l)
  root_found l h =
      let x : Found (length groups) (λ v. eqb (get_or groups v 0) l) = company_member groups l (peopled_company l h) in
      let b : root_of groups l < length groups = lowest_below_law groups l (length groups) x.at x.below (eqb-true (get_or groups x.at 0) l x.passes) in
      (b, lowest_member groups l (length groups) b)

  pub companies_grouped : ((u v : ℕ) → get_or groups u 0 ≡ get_or groups v 0 → (get_or groups u 0 ≡ 0 → ⊥) → (problem_of t).required u v ≡ true) → Grouped (problem_of t) (companies groups)
  unfolding problem_of
  companies_grouped same =
      record {
        root_below = λ l b h. subst (λ n. root_of groups l < n) long (root_found l h).0;
        root_member = λ l b h. and_both (in_company groups l) (eqb (get_or groups (root_of groups l) 0) l) (peopled_company l h) (eq-eqb (get_or groups (root_of groups l) 0) l (root_found l h).1);
        within = λ l u v b mu mv.
            let eu : get_or groups u 0 ≡ l = eqb-true (get_or groups u 0) l (and_right (in_company groups l) (eqb (get_or groups u 0) l) mu) in
            let ev : get_or groups v 0 ≡ l = eqb-true (get_or groups v 0) l (and_right (in_company groups l) (eqb (get_or groups v 0) l) mv) in
            same u v (eu ∙ sym ev) (λ z. company_some groups l (and_left (in_company groups l) (eqb (get_or groups u 0) l) mu) (sym eu ∙ z));
      }

  -- ---- the list of group k

  module _ (k : ℕ) (share : List ℕ) (shared : (l : ℕ) → (get_or share l 0 ≡ 0 → ⊥) → in_company groups l ≡ true) where
    -- The cuts that a state stands for.
    record Behind (s : State) : Type 0 where
      cuts : List Cut
      rooted : EachCut (Rooted (problem_of t) (companies groups) k) cuts
      bears : (a : ℕ) → a < arc_count t.firsts → arc_load cuts (tail_of t.firsts t.seconds a) (head_of t.firsts t.seconds a) + get_or s.rests a 0 ≡ get_or t.weights (edge_of t.firsts a) 0
      gives : (l : ℕ) → l < group_numbers → get_or s.got l 0 ≡ amount cuts (λ d. eqb d.group l)
      rests_long : arc_count t.firsts ≤ length s.rests
      got_long : group_numbers ≤ length s.got

    behind_raised : (s : State) (flags : List ℕ) (l d : ℕ) → Behind s → l < group_numbers
        → ((a : ℕ) → a < arc_count t.firsts → enters_at t.firsts t.seconds flags a ≡ true → d ≤ get_or s.rests a 0)
        → Rooted (problem_of t) (companies groups) k (record { value = d; group = l; holds = flagged flags })
        → Behind (raised t.firsts t.seconds flags l d s)
    unfolding raised arc_load amount enters_at
    behind_raised s flags l d h b bounded root =
        record {
          cuts = record { value = d; group = l; holds = flagged flags } ∷ h.cuts;
          rooted = more root h.rooted;
          bears = λ a c. carried a c (either (enters_at t.firsts t.seconds flags a));
          gives = λ i c. given i c (ℕ_discrete i l);
          rests_long = subst (λ n. arc_count t.firsts ≤ n) (sym (length_loaded t.firsts t.seconds flags d s.rests)) h.rests_long;
          got_long = subst (λ n. group_numbers ≤ n) (sym (length-set s.got l (get_or s.got l 0 + d))) h.got_long;
        }
      where
        given : (i : ℕ) → i < group_numbers → Dec (i ≡ l) → get_or (set s.got l (get_or s.got l 0 + d)) i 0 ≡ counted (eqb l i) d + amount h.cuts (λ c. eqb c.group i)
        given i c (no other) =
            omega (arith, get_or-set_other s.got l i (get_or s.got l 0 + d) 0 other, h.gives i c, counted_false (ne_eqb l i (λ e. other (sym e))) d)
        given i c (yes same) =
            let wide : group_numbers ≤ length s.got = h.got_long in
            subst (λ j. get_or (set s.got l (get_or s.got l 0 + d)) j 0 ≡ counted (eqb l j) d + amount h.cuts (λ c. eqb c.group j)) (sym same)
            (omega (arith, get_or-set_same s.got l (get_or s.got l 0 + d) 0 (omega arith), h.gives l b, counted_true (eq-eqb l l refl) d))

        carried : (a : ℕ) → a < arc_count t.firsts → (enters_at t.firsts t.seconds flags a ≡ true) ⊎ (enters_at t.firsts t.seconds flags a ≡ false)
            → counted (enters_at t.firsts t.seconds flags a) d + arc_load h.cuts (tail_of t.firsts t.seconds a) (head_of t.firsts t.seconds a)
            + get_or (loaded t.firsts t.seconds flags d s.rests) a 0 ≡ get_or t.weights (edge_of t.firsts a) 0
        carried a c (inl e) =
            omega (arith, counted_true e d, bounded a c e, loaded_at t.firsts t.seconds flags d a s.rests c h.rests_long, h.bears a c)
        carried a c (inr e) =
            omega (arith, counted_false e d, loaded_at t.firsts t.seconds flags d a s.rests c h.rests_long, h.bears a c)

    abbrev root : ℕ
    root = root_of groups k

    behind_visit : (s : State) (l v : ℕ) → Behind s → l < group_numbers → in_company groups l ≡ true → v < length groups → get_or groups v 0 ≡ l
        → Behind (visit t.firsts t.seconds share (length groups) (root_of groups k) l v s)
    unfolding visit raised_by
    behind_visit s l v h b company bv m = by (either (eqb (missing share s.got l) 0)) (either (flagged flags root))
      where
        flags : List ℕ
        flags = reaching t.firsts t.seconds s.rests (length groups) v

        d : ℕ
        d = least_rest t.firsts t.seconds s.rests flags (missing share s.got l) (arc_count t.firsts)

        by : (eqb (missing share s.got l) 0 ≡ true) ⊎ (eqb (missing share s.got l) 0 ≡ false) → (flagged flags root ≡ true) ⊎ (flagged flags root ≡ false)
            → Behind (cond (eqb (missing share s.got l) 0) s (cond (flagged flags root) s (raised t.firsts t.seconds flags l d s)))
        by (inl z) r = rw z h
        by (inr z) (inl r) = rw (z, r) h
        by (inr z) (inr r) =
            rw (z, r) (behind_raised s flags l d h b (λ a c e. least_le t.firsts t.seconds s.rests flags (missing share s.got l) (arc_count t.firsts) a c e)
            (record {
              inside =
                  any_intro p.vertices (λ u. g.member l u && flagged flags u) v (subst (λ n. v < n) vertices_are bv)
                  (and_both (g.member l v) (flagged flags v) (and_both (in_company groups l) (eqb (get_or groups v 0) l) company (eq-eqb (get_or groups v 0) l m))
                  (reaching_self t.firsts t.seconds s.rests (length groups) v (omega arith)));
              outside = λ c. r;
            }))

    behind_members : (s : State) (l i : ℕ) → Behind s → l < group_numbers → in_company groups l ≡ true → i ≤ length groups
        → Behind (visit_members groups t.firsts t.seconds share (root_of groups k) l i s)
    unfolding visit_members visit_member
    behind_members s l zero h b company c = h
    behind_members s l (suc v) h b company c = by (behind_members s l v h b company (omega arith)) (either (eqb (get_or groups v 0) l))
      where
        by : Behind (visit_members groups t.firsts t.seconds share (root_of groups k) l v s) → (eqb (get_or groups v 0) l ≡ true) ⊎ (eqb (get_or groups v 0) l ≡ false)
            → Behind (visit_members groups t.firsts t.seconds share (root_of groups k) l (suc v) s)
        by x (inl m) =
            rw m (behind_visit (visit_members groups t.firsts t.seconds share (root_of groups k) l v s) l v x b company (omega arith) (eqb-true (get_or groups v 0) l m))
        by x (inr m) = rw m x

    behind_groups : (s : State) (i : ℕ) → Behind s → i ≤ group_numbers → Behind (visit_groups groups t.firsts t.seconds share (root_of groups k) k i s)
    unfolding visit_groups visit_group
    behind_groups s zero h c = h
    behind_groups s (suc l) h c = by (behind_groups s l h (omega arith)) (either (ltb l k || eqb (missing share before.got l) 0))
      where
        before : State
        before = visit_groups groups t.firsts t.seconds share (root_of groups k) k l s

        by : Behind before → ((ltb l k || eqb (missing share before.got l) 0) ≡ true) ⊎ ((ltb l k || eqb (missing share before.got l) 0) ≡ false)
            → Behind (visit_groups groups t.firsts t.seconds share (root_of groups k) k (suc l) s)
        by x (inl m) = rw m x
        by x (inr m) =
            let lacks : missing share before.got l ≡ 0 → ⊥ = eqb-false (missing share before.got l) 0 (or_false_right (ltb l k) (eqb (missing share before.got l) 0) m) in
            rw m (behind_members before l (length groups) x (omega arith) (shared l (λ z. lacks (omega arith))) (omega arith))

    behind_passes : (s : State) (i : ℕ) → Behind s → Behind (passes groups t.firsts t.seconds share (root_of groups k) k i s)
    unfolding passes
    behind_passes s zero h = h
    behind_passes s (suc i) h = behind_groups (passes groups t.firsts t.seconds share (root_of groups k) k i s) group_numbers (behind_passes s i h) (omega arith)

    behind_first : Behind (at_first t.firsts t.weights)
    unfolding at_first prices arc_load amount
    behind_first =
        record {
          cuts = [];
          rooted = none;
          bears = λ a c.
              let in_table : a < length {A = ℕ} (replicate max_arcs 0) = subst (λ n. a < n) (sym (length-replicate {A = ℕ} max_arcs 0)) (omega arith) in
              omega (arith, remade_passed (λ b rest. get_or t.weights (edge_of t.firsts b) 0) (arc_count t.firsts) (replicate max_arcs 0) a c in_table);
          gives = λ l b. get_or-replicate group_numbers l 0 0 b;
          rests_long = subst (λ n. arc_count t.firsts ≤ n) (sym (length_remade _ (arc_count t.firsts) (replicate max_arcs 0) ∙ length-replicate {A = ℕ} max_arcs 0)) (omega arith);
          got_long = subst (λ n. group_numbers ≤ n) (sym (length-replicate {A = ℕ} group_numbers 0)) (omega arith);
        }

    behind_ascended : Behind (ascended groups t.firsts t.seconds t.weights share k)
    unfolding ascended
    behind_ascended = behind_passes (at_first t.firsts t.weights) (pass_count groups t.firsts) behind_first

    -- No edge is loaded above its weight.
    behind_fits : (s : State) (h : Behind s) → Fits (problem_of t) h.cuts
    unfolding problem_of edge_count
    behind_fits s h e b u =
        let forth = arc_forth t.firsts t.seconds e b in
        let back = arc_back t.firsts t.seconds e in
        let one : arc_load h.cuts (tail_of t.firsts t.seconds e) (head_of t.firsts t.seconds e) + get_or s.rests e 0 ≡ get_or t.weights (edge_of t.firsts e) 0 = h.bears e (omega arith) in
        let two : arc_load h.cuts (tail_of t.firsts t.seconds (length t.firsts + e)) (head_of t.firsts t.seconds (length t.firsts + e)) + get_or s.rests (length t.firsts + e) 0
        ≡ get_or t.weights (edge_of t.firsts (length t.firsts + e)) 0 = h.bears (length t.firsts + e) (omega arith) in
        let one_is : arc_load h.cuts (get_or t.firsts e 0) (get_or t.seconds e 0) + get_or s.rests e 0 ≡ get_or t.weights e 0 = rw (forth.0, forth.1, forth.2) at one in
        let two_is : arc_load h.cuts (get_or t.seconds e 0) (get_or t.firsts e 0) + get_or s.rests (length t.firsts + e) 0 ≡ get_or t.weights e 0 = rw (back.0, back.1, back.2) at two in
        (omega (arith, one_is), omega (arith, two_is))

  -- ---- the shares

  abbrev shares_of : (j : ℕ) → List ℕ
  shares_of j = shares_after groups t.firsts t.seconds t.weights j

  -- What list j, from the last, gives: its lowest group is this.
  abbrev lowest_of : (j : ℕ) → ℕ
  lowest_of j = group_numbers - suc j

  abbrev got_of : (j : ℕ) → List ℕ
  got_of j = (ascended groups t.firsts t.seconds t.weights (shares_after groups t.firsts t.seconds t.weights j) (group_numbers - suc j)).got

  shares_long : (j : ℕ) → length (shares_after groups t.firsts t.seconds t.weights j) ≡ group_numbers
  unfolding shares_after after_list first_shares lowered
  shares_long zero = length_remade _ group_numbers (replicate group_numbers 0) ∙ length-replicate {A = ℕ} group_numbers 0
  shares_long (suc j) = by (shares_long j) (either (eqb (get_or (shares_of j) (lowest_of j) 0) 0))
    where
      by : length (shares_of j) ≡ group_numbers → (eqb (get_or (shares_of j) (lowest_of j) 0) 0 ≡ true) ⊎ (eqb (get_or (shares_of j) (lowest_of j) 0) 0 ≡ false)
          → length (shares_of (suc j)) ≡ group_numbers
      by h (inl e) = rw e h
      by h (inr e) = rw e (length_remade _ group_numbers (shares_of j) ∙ h)

  -- A share of the next list: as it was, or what the list gives where that is less.
  abbrev next : (j l : ℕ) → ℕ
  next j l = cond (ltb l (lowest_of j)) (get_or (shares_of j) l 0) (lesser (get_or (shares_of j) l 0) (get_or (got_of j) l 0))

  share_same : (j l : ℕ) → eqb (get_or (shares_after groups t.firsts t.seconds t.weights j) (group_numbers - suc j) 0) 0 ≡ true
      → get_or (shares_after groups t.firsts t.seconds t.weights (suc j)) l 0 ≡ get_or (shares_after groups t.firsts t.seconds t.weights j) l 0
  unfolding shares_after after_list
  share_same j l e = rw e

  share_next : (j l : ℕ) → eqb (get_or (shares_after groups t.firsts t.seconds t.weights j) (group_numbers - suc j) 0) 0 ≡ false → l < group_numbers
      → get_or (shares_after groups t.firsts t.seconds t.weights (suc j)) l 0 ≡ next j l
  unfolding shares_after after_list lowered
  share_next j l e b = rw e (remade_passed _ group_numbers (shares_of j) l b (subst (λ n. l < n) (sym (shares_long j)) b))

  share_falls : (j l : ℕ) → l < group_numbers
      → get_or (shares_after groups t.firsts t.seconds t.weights (suc j)) l 0 ≤ get_or (shares_after groups t.firsts t.seconds t.weights j) l 0
  share_falls j l b = by (either (eqb (get_or (shares_of j) (lowest_of j) 0) 0))
    where
      less : (x : Bool) → cond x (get_or (shares_of j) l 0) (lesser (get_or (shares_of j) l 0) (get_or (got_of j) l 0)) ≤ get_or (shares_of j) l 0
      less true = omega arith
      less false = lesser_left (get_or (shares_of j) l 0) (get_or (got_of j) l 0)

      by : (eqb (get_or (shares_of j) (lowest_of j) 0) 0 ≡ true) ⊎ (eqb (get_or (shares_of j) (lowest_of j) 0) 0 ≡ false) → get_or (shares_of (suc j)) l 0 ≤ get_or (shares_of j) l 0
      by (inl e) = omega (arith, share_same j l e)
      by (inr e) = omega (arith, share_next j l e b, less (ltb l (lowest_of j)))

  share_later : (l j n : ℕ) → l < group_numbers → j ≤ n
      → get_or (shares_after groups t.firsts t.seconds t.weights n) l 0 ≤ get_or (shares_after groups t.firsts t.seconds t.weights j) l 0
  share_later l j zero b c = let e : j ≡ zero = omega arith in subst (λ i. get_or (shares_of zero) l 0 ≤ get_or (shares_of i) l 0) (sym e) (omega arith)
  share_later l j (suc n) b c = by (λ d. share_later l j n b d) (lt_or_ge n j)
    where
      by : (j ≤ n → get_or (shares_of n) l 0 ≤ get_or (shares_of j) l 0) → (n < j) ⊎ (j ≤ n) → get_or (shares_of (suc n)) l 0 ≤ get_or (shares_of j) l 0
      by before (inl d) = let e : j ≡ suc n = omega arith in subst (λ i. get_or (shares_of (suc n)) l 0 ≤ get_or (shares_of i) l 0) (sym e) (omega arith)
      by before (inr d) = omega (arith, before d, share_falls n l b)

  first_share : (l : ℕ) → l < group_numbers → get_or (first_shares groups) l 0 ≡ counted (in_company groups l) max_cost
  unfolding first_shares
  first_share l b = remade_passed _ group_numbers (replicate group_numbers 0) l b (subst (λ n. l < n) (sym (length-replicate {A = ℕ} group_numbers 0)) b)

  -- Until its own list a group may get whatever there is.
  share_first : (j l : ℕ) → l + j < group_numbers → get_or (shares_after groups t.firsts t.seconds t.weights j) l 0 ≡ counted (in_company groups l) max_cost
  unfolding shares_after
  share_first zero l b = first_share l (omega arith)
  share_first (suc j) l b = by (share_first j l (omega arith)) (either (eqb (get_or (shares_of j) (lowest_of j) 0) 0))
    where
      by : get_or (shares_of j) l 0 ≡ counted (in_company groups l) max_cost → (eqb (get_or (shares_of j) (lowest_of j) 0) 0 ≡ true) ⊎ (eqb (get_or (shares_of j) (lowest_of j) 0) 0 ≡ false)
          → get_or (shares_of (suc j)) l 0 ≡ counted (in_company groups l) max_cost
      by h (inl e) = share_same j l e ∙ h
      by h (inr e) =
          let low : ltb l (lowest_of j) ≡ true = lt-ltb l (lowest_of j) (omega arith) in
          share_next j l e (omega arith) ∙ ap (λ x. cond x (get_or (shares_of j) l 0) (lesser (get_or (shares_of j) l 0) (get_or (got_of j) l 0))) low ∙ h

  pub share_limit : (j l : ℕ) → l < group_numbers → get_or (shares_after groups t.firsts t.seconds t.weights j) l 0 ≤ counted (in_company groups l) max_cost
  share_limit j l b = omega (arith, share_later l 0 j b (omega arith), share_first 0 l (omega arith))

  -- A group with a share is in company.
  shared_company : (j l : ℕ) → (get_or (shares_after groups t.firsts t.seconds t.weights j) l 0 ≡ 0 → ⊥) → in_company groups l ≡ true
  shared_company j l some = by (either (in_company groups l)) (lt_or_ge l group_numbers)
    where
      by : (in_company groups l ≡ true) ⊎ (in_company groups l ≡ false) → (l < group_numbers) ⊎ (group_numbers ≤ l) → in_company groups l ≡ true
      by (inl h) c = h
      by (inr h) (inl c) = absurd (some (omega (arith, share_limit j l c, counted_false h max_cost)))
      by (inr h) (inr c) = absurd (some (get_or-eq_default (shares_of j) 0 {n = l} (subst (λ n. n ≤ l) (sym (shares_long j)) c)))

  -- ---- the certificate

  -- The cuts of the list of group k.
  cuts_of : ℕ → List Cut
  cuts_of k = (behind_ascended k (shares_of (group_numbers - suc k)) (shared_company (group_numbers - suc k))).cuts

  share_covered : (k l : ℕ) → k ≤ l → l < group_numbers → in_company groups k ≡ true → get_or (shares_after groups t.firsts t.seconds t.weights group_numbers) l 0 ≤ amount (cuts_of k) (λ d. eqb d.group l)
  unfolding cuts_of
  share_covered k l c b company =
      let j : ℕ = group_numbers - suc k in
      let back : group_numbers - suc j ≡ k = omega arith in
      let own : get_or (shares_of j) k 0 ≡ max_cost = share_first j k (omega arith) ∙ counted_true company max_cost in
      let some : eqb (get_or (shares_of j) (lowest_of j) 0) 0 ≡ false =
      ap (λ i. eqb (get_or (shares_of j) i 0) 0) back ∙ ne_eqb (get_or (shares_of j) k 0) 0 (λ z. omega (arith, own, z)) in
      let high : ltb l (lowest_of j) ≡ false = ap (ltb l) back ∙ le-ltb l k c in
      let lists : get_or (got_of j) l 0 ≡ get_or (ascended groups t.firsts t.seconds t.weights (shares_of j) k).got l 0 =
      ap (λ i. get_or (ascended groups t.firsts t.seconds t.weights (shares_of j) i).got l 0) back in
      let now : get_or (shares_of (suc j)) l 0 ≡ lesser (get_or (shares_of j) l 0) (get_or (got_of j) l 0) =
      share_next j l some b ∙ ap (λ x. cond x (get_or (shares_of j) l 0) (lesser (get_or (shares_of j) l 0) (get_or (got_of j) l 0))) high in
      omega (
        arith,
        share_later l (suc j) group_numbers b (omega arith),
        now,
        lesser_right (get_or (shares_of j) l 0) (get_or (got_of j) l 0),
        lists,
        (behind_ascended k (shares_of j) (shared_company j)).gives l b,
      )

  ascent_certified : Certified (problem_of t) (companies groups) cuts_of (λ l. get_or (shares_after groups t.firsts t.seconds t.weights group_numbers) l 0)
  unfolding cuts_of
  ascent_certified =
      record {
        rooted = λ k b some. (behind_ascended k (shares_of (group_numbers - suc k)) (shared_company (group_numbers - suc k))).rooted;
        fits = λ k b some.
            behind_fits k (shares_of (group_numbers - suc k)) (shared_company (group_numbers - suc k)) (ascended groups t.firsts t.seconds t.weights (shares_of (group_numbers - suc k)) k)
            (behind_ascended k (shares_of (group_numbers - suc k)) (shared_company (group_numbers - suc k)));
        covers = λ k l c b some also. share_covered k l c b (peopled_company k some);
        idle = λ l b empty. idle l b (either (in_company groups l)) empty;
      }
    where
      idle : (l : ℕ) → l < group_numbers → (in_company groups l ≡ true) ⊎ (in_company groups l ≡ false) → peopled p g l ≡ false → get_or (shares_of group_numbers) l 0 ≡ 0
      idle l b (inl h) empty = true_not_false (peopled p g l) (company_peopled l h) empty
      idle l b (inr h) empty = omega (arith, share_limit group_numbers l b, counted_false h max_cost)

  -- No set that joins every group costs less than the floor.
  pub ascent_below : ((u v : ℕ) → get_or groups u 0 ≡ get_or groups v 0 → (get_or groups u 0 ≡ 0 → ⊥) → (problem_of t).required u v ≡ true)
      → (F : ℕ → Bool) → EdgeSet (problem_of t) F → Joins (problem_of t) F → ascent_floor groups t.firsts t.seconds t.weights ≤ cost (problem_of t) F
  unfolding ascent_floor
  ascent_below same F set joins =
      directed_duality (problem_of t) (companies groups) (companies_grouped same) F set joins cuts_of
      (λ l. get_or (shares_after groups t.firsts t.seconds t.weights group_numbers) l 0) ascent_certified
