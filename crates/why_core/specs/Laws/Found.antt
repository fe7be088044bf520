-- From a walk over no visited vertex to the route: where it arrives it has stored the route that the definition computes, and where it is lost there is none.
use Rattle.std.specs.Prelude.{ℕ, zero, suc, ◌+◌, ◌-◌, ◌<◌, ◌≤◌, refl, Bool, true, false, not, get_or, set, take, replicate, eqb}
use native.Mathlib.Omega.{arith}
use Rattle.std.proofs.Common.{add-one, add-zero, ◌∙◌, ⊎_elim, take-append-drop, take-suc-set, length-take-le}
use Rattle.std.proofs.Math.Nat.{sub-zero}
use Rattle.std.proofs.Math.Decide.{ℕ_discrete}
use Rattle.std.proofs.Math.Path.{◌≡◌, ap, sym, subst}
use mathlib.Core.List.{List, [], ◌∷◌, ◌++◌, append_assoc}
use Rattle.std.proofs.Math.ListN.{length, drop}
use Rattle.std.proofs.lemmas.List.{length-replicate, set-append_left}
use Rattle.std.proofs.Math.Seq.{take-set-lt}
use borrow.Author.Tests.{eqb-true, eq-eqb, ne_eqb, lt-ltb, le-ltb, not-false}
use Rattle.base_finite.specs.Laws.Test.{true_not_false}
use Rattle.base_finite.specs.Laws.Below.{lt_or_ge}
use Rattle.base_limits.specs.Limits.{max_vertices}
use Rattle.base_limits.specs.declared.Verdict.{Verdict}
use Rattle.base_limits.specs.declared.Verdict.TheVariants.{Fine, Refused}
use Rattle.base_limits.specs.Laws.Verdict.{before_fine, before_refused, fine_left, fine_right, refuse_true, refuse_false, fine_refuse}
use Rattle.theory_graph.specs.Path.{Leads, forth, back, Linked, here, step, Forest, crosses}
use Rattle.theory_graph.proofs.Laws.Linked.{side_kept, crosses_elim}
use Rattle.theory_steiner.specs.Problem.{Bounded}
use Rattle.survey_core.specs.Survey.{Survey, vertex_count, edge_count, problem_of}
use Rattle.survey_core.specs.Sound.{SurveySound}
use Rattle.survey_core.proofs.Laws.Refusal.{fine_survey}
use Rattle.survey_components.specs.Labels.{picked_in}
use Rattle.survey_components.specs.Forest.{forest_refusal}
use Rattle.survey_components.specs.Laws.Picked.{picked_below}
use Rattle.survey_components.specs.Laws.Forest.{fine_forest}
use Rattle.theory_route.specs.Route.{route_of}
use Rattle.theory_route.proofs.Laws.Route.{route_is, route_none, route_here}
use Rattle.why_core.specs.Visit.{end_in}
use Rattle.why_core.specs.Walk.{unvisited, stored_at, Walkable, Explored, WalkEnds, arrives, fails, route_refusal}
use Rattle.std.specs.Prelude.{Option, Some, None, unwrap_or}

-- ---- entries stored from a place on

stored_front : (l : List ℕ) (i : ℕ) (es : List ℕ) → i + length es ≤ length l → stored_at l i es ≡ take i l ++ (es ++ drop (i + length es) l)
unfolding stored_at
stored_front l i [] h = rw (add-zero i) (sym (take-append-drop i l))
stored_front l i (e ∷ es) h =
    let room : i + 1 + length es ≤ length l = omega arith in
    let past : i + 1 + length es ≡ i + suc (length es) = omega arith in
    let long : i < length (take (i + 1) l) = let k = length-take-le (i + 1) l (omega arith) in omega arith in
    ap (λ t. set t i e) (stored_front l (i + 1) es room)
    ∙ set-append_left (take (i + 1) l) (es ++ drop (i + 1 + length es) l) i e long
    ∙ ap (λ t. t ++ (es ++ drop (i + 1 + length es) l)) (front ∙ take-suc-set l i e (omega arith))
    ∙ append_assoc (take i l) (e ∷ []) (es ++ drop (i + 1 + length es) l)
    ∙ ap (λ k. take i l ++ (e ∷ (es ++ drop k l))) past
  where
    front : set (take (i + 1) l) i e ≡ take (suc i) (set l i e)
    front = rw (add-one i) (sym (take-set-lt (suc i) l i e (omega arith)))

-- ---- nothing is visited at first

unvisited_all : (l : List ℕ) → ((i : ℕ) → get_or l i 0 ≡ 0) → unvisited l ≡ length l
unfolding unvisited
unvisited_all [] h = refl
unvisited_all (x ∷ xs) h =
    let first : x ≡ 0 = h 0 in
    let rest : unvisited xs ≡ length xs = unvisited_all xs (λ i. h (suc i)) in
    rw first (omega arith)

zeros_part : (k N i : ℕ) → get_or {A = ℕ} (take k (replicate N 0)) i 0 ≡ 0
zeros_part zero N i = refl
zeros_part (suc k) zero i = refl
zeros_part (suc k) (suc N) zero = refl
zeros_part (suc k) (suc N) (suc i) = zeros_part k N i

-- ---- a search that fails

-- From vertices that were not visited it has left a set that no edge leaves.
closed_apart : (a b : ℕ → ℕ) (F : ℕ → Bool) (u w : ℕ) (was left : List ℕ) → ((i : ℕ) → get_or was i 0 ≡ 0) → Explored a b F w was left → (get_or left u 0 ≡ 0 → ⊥) → Linked a b F u w → ⊥
closed_apart a b F u w was left none h seen path =
    true_not_false (visited w) (sym (side_kept visited kept_side path) ∙ in_set u seen) (ap not (eq-eqb (get_or left w 0) 0 (h.misses (none w))))
  where
    visited : ℕ → Bool
    visited x = not (eqb (get_or left x 0) 0)

    in_set : (x : ℕ) → (get_or left x 0 ≡ 0 → ⊥) → visited x ≡ true
    in_set x d = ap not (ne_eqb (get_or left x 0) 0 d)

    out_of : (x : ℕ) → visited x ≡ false → get_or left x 0 ≡ 0
    out_of x k = eqb-true (get_or left x 0) 0 (not-false (eqb (get_or left x 0) 0) k)

    in_it : (x : ℕ) → visited x ≡ true → get_or left x 0 ≡ 0 → ⊥
    in_it x k z = true_not_false (visited x) k (ap not (eq-eqb (get_or left x 0) 0 z))

    kept_side : (e : ℕ) → F e ≡ true → crosses a b visited e ≡ true → ⊥
    kept_side e f x =
        ⊎_elim
        (λ k. h.closed e (a e) (b e) f (forth refl refl) (none (a e)) (in_it (a e) k.0) (out_of (b e) k.1))
        (λ k. h.closed e (b e) (a e) f (back refl refl) (none (b e)) (in_it (b e) k.1) (out_of (a e) k.0))
        (crosses_elim a b visited e x)

module _ (s : Survey) (kept : List ℕ) (fine : forest_refusal s kept ≡ Fine) where
  pub forest_sound : SurveySound s
  unfolding forest_refusal
  forest_sound = fine_survey s (fine_left _ _ fine)

  kept_long : length kept ≡ length s.firsts
  unfolding forest_refusal edge_count
  kept_long = eqb-true _ _ (not-false _ (fine_refuse _ 9 0 (fine_left _ _ (fine_right _ _ fine))))

  bounded : (e : ℕ) → picked_in kept e ≡ true → e < length s.firsts
  bounded e h = let b = picked_below kept e h in let k = kept_long in omega arith

  problem_bounded : Bounded (problem_of s) (picked_in kept)
  unfolding problem_of edge_count
  problem_bounded = bounded

  forest : Forest (problem_of s).first (problem_of s).second (picked_in kept)
  unfolding forest_refusal
  forest = fine_forest s (picked_in kept) problem_bounded (fine_left _ _ (fine_right _ _ (fine_right _ _ fine)))

  ends_below : (e u v : ℕ) → picked_in kept e ≡ true → Leads (problem_of s).first (problem_of s).second e u v → v < (problem_of s).vertices
  unfolding problem_of vertex_count
  ends_below e u v h (forth p q) = subst (λ x. x < length s.groups) q (forest_sound.edges e (bounded e h)).second_below
  ends_below e u v h (back p q) = subst (λ x. x < length s.groups) q (forest_sound.edges e (bounded e h)).first_below_law

  starts_below : (e u v : ℕ) → picked_in kept e ≡ true → Leads (problem_of s).first (problem_of s).second e u v → u < (problem_of s).vertices
  unfolding problem_of vertex_count
  starts_below e u v h (forth p q) = subst (λ x. x < length s.groups) p (forest_sound.edges e (bounded e h)).first_below_law
  starts_below e u v h (back p q) = subst (λ x. x < length s.groups) p (forest_sound.edges e (bounded e h)).second_below

  -- What is no vertex is linked with itself alone.
  outside_apart : (u w : ℕ) → (problem_of s).vertices ≤ u → (u ≡ w → ⊥) → Linked (problem_of s).first (problem_of s).second (picked_in kept) u w → ⊥
  outside_apart u w out apart here = apart refl
  outside_apart u w out apart (step {v = v} e f l p) = let b = starts_below e u v f l in omega arith

  module _ {part : List ℕ} (part_is : part ≡ take (length s.groups - 0) (replicate max_vertices 0)) where
    part_zero : (i : ℕ) → get_or part i 0 ≡ 0
    part_zero i = ap (λ l. get_or l i 0) part_is ∙ zeros_part (length s.groups - 0) max_vertices i

    part_long : length part ≡ length s.groups
    part_long =
        let few = forest_sound.few in
        ap length part_is ∙ ap (λ k. length {A = ℕ} (take k (replicate max_vertices 0))) (sub-zero (length s.groups))
        ∙ length-take-le (length s.groups) (replicate max_vertices 0) (let l = length-replicate {A = ℕ} max_vertices 0 in omega arith)

    part_unvisited : unvisited part ≡ length s.groups
    part_unvisited = unvisited_all part part_zero ∙ part_long

    -- The first call may be made.
    pub walk_starts : Walkable s.firsts s.seconds kept part 0
    walk_starts =
        record {
          few = forest_sound.edges_few;
          bounded = bounded;
          first_below_law = λ e b. rw part_long (forest_sound.edges e b).first_below_law;
          second_below = λ e b. rw part_long (forest_sound.edges e b).second_below;
          fits = let few = forest_sound.few in let u = part_unvisited in omega arith;
        }

    -- Arrived: what is stored is the route.
    pub walk_arrived : {from to entries : ℕ} {left route stored : List ℕ} {r : Option ℕ} → length s.groups - 1 ≤ length route
        → WalkEnds (end_in s.firsts) (end_in s.seconds) (picked_in kept) from to 0 part left route stored r → r ≡ Some entries
        → (entries ≡ length (route_of (problem_of s) (picked_in kept) from to))
        × (stored ≡ route_of (problem_of s) (picked_in kept) from to ++ drop (length (route_of (problem_of s) (picked_in kept) from to)) route)
    unfolding problem_of vertex_count
    walk_arrived room (fails more seen same) told = absurd (let z : ◌≡◌ {A = ℕ} 0 1 = cc in omega arith)
    walk_arrived {from} {to} {entries} {route = route} room (arrives {entries = n} es vs inside t u short count w) told =
        let is : route_of (problem_of s) (picked_in kept) from to ≡ es = route_is (problem_of s) (picked_in kept) problem_bounded forest ends_below (subst (λ k. from < k) part_long inside) t in
        let fits : 0 + length es ≤ length route = let k = part_unvisited in omega arith in
        let same : n ≡ entries = cc in
        let counted : entries ≡ length es = omega arith in
        let past : 0 + length es ≡ length es = omega arith in
        rw is (counted, w ∙ stored_front route 0 es fits ∙ ap (λ k. es ++ drop k route) past)

    -- Lost: the two are not linked, or are one and the same.
    pub walk_lost : {from to : ℕ} {left route stored : List ℕ} {r : Option ℕ}
        → WalkEnds (end_in s.firsts) (end_in s.seconds) (picked_in kept) from to 0 part left route stored r → r ≡ None
        → (0 ≡ length (route_of (problem_of s) (picked_in kept) from to))
        × (stored ≡ route_of (problem_of s) (picked_in kept) from to ++ drop (length (route_of (problem_of s) (picked_in kept) from to)) route)
    unfolding problem_of vertex_count
    walk_lost (arrives es vs inside t u short count w) told = absurd (let z : ◌≡◌ {A = ℕ} 0 1 = cc in omega arith)
    walk_lost {from} {to} {left} (fails more seen same) told = rw (none (ℕ_discrete from to)) (refl, same)
      where
        none : Dec (from ≡ to) → route_of (problem_of s) (picked_in kept) from to ≡ []
        none (yes equal) =
            subst (λ x. route_of (problem_of s) (picked_in kept) from x ≡ []) equal (route_here (problem_of s) (picked_in kept) problem_bounded forest from)
        none (no apart) =
            route_none (problem_of s) (picked_in kept) problem_bounded forest from to
            (⊎_elim
            (λ b. closed_apart (problem_of s).first (problem_of s).second (picked_in kept) from to part left part_zero more (seen (subst (λ k. from < k) (sym part_long) b)))
            (λ out. outside_apart from to out apart)
            (lt_or_ge from (length s.groups)))

    -- What is answered then: how many entries, and 0 for none.
    pub walk_ended : (r : Option ℕ) {from to : ℕ} {left route stored : List ℕ} → length s.groups - 1 ≤ length route
        → WalkEnds (end_in s.firsts) (end_in s.seconds) (picked_in kept) from to 0 part left route stored r
        → (unwrap_or r 0 ≡ length (route_of (problem_of s) (picked_in kept) from to))
        × (stored ≡ route_of (problem_of s) (picked_in kept) from to ++ drop (length (route_of (problem_of s) (picked_in kept) from to)) route)
    walk_ended (Some entries) room ends = walk_arrived room ends refl
    walk_ended None room ends = walk_lost ends refl

-- ---- the refusals as the code finds them

module _ (s : Survey) (kept : List ℕ) (route_length : ℕ) {v : Verdict} (v_is : v ≡ forest_refusal s kept) where
  pub route_stops : {number place : ℕ} → v ≡ Refused number place → v ≡ route_refusal s kept route_length
  unfolding route_refusal
  route_stops h = h ∙ sym (before_refused (sym v_is ∙ h) _)

  pub route_short : v ≡ Fine → route_length < length s.groups - 1 → Refused 7 0 ≡ route_refusal s kept route_length
  unfolding route_refusal vertex_count
  route_short h c = sym (before_fine (sym v_is ∙ h) _ ∙ refuse_true (lt-ltb route_length (length s.groups - 1) c) 7 0)

  pub route_fits : v ≡ Fine → length s.groups - 1 ≤ route_length → v ≡ route_refusal s kept route_length
  unfolding route_refusal vertex_count
  route_fits h c = h ∙ sym (before_fine (sym v_is ∙ h) _ ∙ refuse_false (le-ltb route_length (length s.groups - 1) c) 7 0)
