-- The result is a sound survey (document 02, No. 9): 2, 4, 5 and 6 never come of it, and of 18 only a 257th pair.
use Rattle.std.specs.Prelude.{ℕ, ◌+◌, ◌*◌, ◌-◌, ◌<◌, ◌≤◌, ◌≡◌, true, List, map, ◌++◌, get_or, ltb}
use native.Mathlib.Omega.{arith}
use Rattle.std.proofs.Math.Decide.{ℕ_discrete}
use Rattle.std.proofs.Math.Path.{refl, ap, sym}
use Rattle.std.proofs.Common.{◌∙◌, subst, get_or-append-add, lt-ltb, le-ltb}
use Rattle.std.proofs.Math.Logic.{⊎_elim}
use Rattle.std.proofs.Math.ListN.{length, length-append, get_or-append}
use Rattle.std.proofs.lemmas.List.{length-map}
use Rattle.base_finite.specs.Laws.Below.{lt_or_ge}
use Rattle.base_limits.specs.Limits.{max_vertices, max_edges, max_pairs, group_numbers}
use Rattle.base_limits.specs.Verdict.{refuse_if}
use Rattle.base_limits.specs.Laws.Verdict.{before_fine, before_refused, refuse_true, refuse_false, lowest_none, lowest_found}
use Rattle.survey_core.specs.Survey.{Survey, lists_of, vertex_count, edge_count}
use Rattle.survey_core.specs.Lists.{Lists, own, owner, other}
use Rattle.survey_core.specs.Sound.{EdgeSound, SurveySound}
use Rattle.survey_core.specs.Pairs.{is_rising, pair_refusal, pairs_refusal, PairSound}
use Rattle.survey_core.specs.Refusal.{edge_refusal, survey_refusal}
use Rattle.survey_core.proofs.Laws.Pairs.{rising_first, rising_vertex, rising_group, pair_past, pair_fine}
use Rattle.survey_core.proofs.Laws.Refusal.{edge_fine, survey_large, survey_many, survey_shaped}
use Rattle.merge_rule.specs.Ties.{Ties, placed, merged_count}
use Rattle.merge_rule.specs.Merged.{merged_vertices, pair_vertex, pair_group, merged_pairs, merged}
use Rattle.merge_rule.specs.Refusal.{counts_of, large_refusal}
use Rattle.merge_rule.specs.Sound.{TiesSound, Mergeable}
use Rattle.merge_rule.proofs.Laws.Those.{get_d_map_below}
use Rattle.merge_rule.proofs.Laws.Placed.{placed_below, placed_once}
use Rattle.merge_rule.proofs.Laws.Member.{merged_vertices_law, merged_own, pairs_count, pairs_even, merged_owner, merged_other, pairs_chosen, belongs_some, further_elim}

-- Behind the first n elements.
pub get_d_behind : (xs ys : List ℕ) (n k : ℕ) → length xs ≡ n → get_or (xs ++ ys) (n + k) 0 ≡ get_or ys k 0
get_d_behind xs ys n k e = rw (← e) (get_or-append-add xs ys k 0)

-- ---- pairs, whatever the surveys

-- What holds of pair i, wherever it stands.
record PairStands (l : Lists) (i : ℕ) : Type 0 where
  below : owner l i < length l.groups
  some : other l i ≡ 0 → ⊥
  foreign : other l i ≡ own l (owner l i) → ⊥
  rising : is_rising l.owners l.others i ≡ true

module _ (a b : Survey) (ties : Ties) where
  -- Pair i as one number.
  abbrev pair_at : ℕ → ℕ
  pair_at i = get_or (merged_pairs a b ties) i 0

  pairs_rise : (i : ℕ) → i < length (merged_pairs a b ties) → is_rising (merged a b ties).owners (merged a b ties).others i ≡ true
  pairs_rise i h = by (ℕ_discrete i 0)
    where
      by : Dec (i ≡ 0) → is_rising (merged a b ties).owners (merged a b ties).others i ≡ true
      by (yes e) = rising_first (merged a b ties).owners (merged a b ties).others i e
      by (no later) =
          let c : pair_at (i - 1) < pair_at i = (pairs_chosen a b ties).rising (i - 1) i (omega arith) h in
          let v = merged_owner a b ties (i - 1) in
          let w = merged_owner a b ties i in
          let f = merged_other a b ties (i - 1) in
          let g = merged_other a b ties i in
          ⊎_elim
          (λ lower. rising_vertex (merged a b ties).owners (merged a b ties).others i later lower)
          (λ upper.
          rising_group (merged a b ties).owners (merged a b ties).others i later upper
          (omega (arith, v, w, c)) (omega (arith, v, w, f, g, c, upper)))
          (lt_or_ge (get_or (merged a b ties).owners (i - 1) 0) (get_or (merged a b ties).owners i 0))

  pair_stands : (i : ℕ) → i < length (merged a b ties).owners → PairStands (lists_of (merged a b ties)) i
  pair_stands i bi =
      let h : i < length (merged_pairs a b ties) = let x = pairs_count a b ties in omega arith in
      let v_is = merged_owner a b ties i in
      let g_is = merged_other a b ties i in
      let inside : pair_at i < merged_vertices a b ties * group_numbers = (pairs_chosen a b ties).below i h in
      let v_below : pair_vertex (pair_at i) < merged_vertices a b ties = omega arith in
      let n_is : length (merged a b ties).groups ≡ merged_vertices a b ties = merged_vertices_law a b ties in
      let further = further_elim a b ties (pair_group (pair_at i)) (pair_vertex (pair_at i)) ((pairs_chosen a b ties).passes i h) in
      record {
        below = rw (v_is, n_is) v_below;
        some = λ e. belongs_some a b ties (pair_group (pair_at i)) (pair_vertex (pair_at i)) further.0 (sym g_is ∙ e);
        foreign = λ e.
            further.1
            (sym g_is ∙ e ∙ ap (λ k. get_or (merged a b ties).groups k 0) v_is ∙ merged_own a b ties (pair_vertex (pair_at i)) v_below);
        rising = pairs_rise i h;
      }

  pair_sound : (i : ℕ) → i < length (merged a b ties).owners → i < max_pairs → PairSound (lists_of (merged a b ties)) i
  pair_sound i h few =
      let p : PairStands (lists_of (merged a b ties)) i = pair_stands i h in
      record { below = p.below; some = p.some; foreign = p.foreign; rising = p.rising; few = few }

  -- 18 comes of the 257th pair alone.
  pub merged_pairs_judged : pairs_refusal (lists_of (merged a b ties)) ≡ refuse_if (ltb max_pairs (length (merged a b ties).owners)) 18 max_pairs
  unfolding pairs_refusal
  merged_pairs_judged =
      let l = lists_of (merged a b ties) in
      let k = length (merged a b ties).owners in
      ⊎_elim
      (λ many.
      let p : PairStands (lists_of (merged a b ties)) max_pairs = pair_stands max_pairs many in
      lowest_found k max_pairs (pair_refusal l) many
      (lowest_none max_pairs (pair_refusal l) (λ i c. pair_fine l i (pair_sound i (omega arith) c)))
      (pair_past l max_pairs p.below p.some p.foreign p.rising (omega arith))
      ∙ sym (refuse_true (lt-ltb max_pairs k many) 18 max_pairs))
      (λ few.
      lowest_none k (pair_refusal l) (λ i c. pair_fine l i (pair_sound i c (omega arith)))
      ∙ sym (refuse_false (le-ltb max_pairs k few) 18 max_pairs))
      (lt_or_ge max_pairs k)

-- ---- tracks

module _ (a b : Survey) (ties : Ties) (first_sound : SurveySound a) (second_sound : SurveySound b)
    (ties_sound : TiesSound (length a.groups) (length b.groups) ties)
  where
    merged_edges : length (merged a b ties).firsts ≡ length a.firsts + length b.firsts
    unfolding merged
    merged_edges = length-append a.firsts (map (placed (vertex_count a) ties) b.firsts) ∙ ap (λ k. length a.firsts + k) (length-map b.firsts (placed (vertex_count a) ties))

    merged_seconds : length (merged a b ties).firsts ≡ length (merged a b ties).seconds
    unfolding merged
    merged_seconds =
        merged_edges
        ∙ sym (length-append a.seconds (map (placed (vertex_count a) ties) b.seconds)
        ∙ ap (λ k. length a.seconds + k) (length-map b.seconds (placed (vertex_count a) ties))
        ∙ rw (← first_sound.seconds_long, ← second_sound.seconds_long))

    merged_weights : length (merged a b ties).firsts ≡ length (merged a b ties).weights
    unfolding merged
    merged_weights = merged_edges ∙ sym (length-append a.weights b.weights ∙ rw (← first_sound.weights_long, ← second_sound.weights_long))

    merged_some : length a.groups ≤ length (merged a b ties).groups
    unfolding merged_vertices merged_count vertex_count
    merged_some = let e = merged_vertices_law a b ties in omega arith

    place_below : (v : ℕ) → v < length b.groups → placed (length a.groups) ties v < length (merged a b ties).groups
    unfolding merged_vertices vertex_count
    place_below v h = rw (merged_vertices_law a b ties) (placed_below (length a.groups) (length b.groups) ties ties_sound v h)

    -- Track e of the first, and track e of the second.
    module _ (e : ℕ) (h : e < length a.firsts) where
      left_first : get_or (merged a b ties).firsts e 0 ≡ get_or a.firsts e 0
      unfolding merged
      left_first = get_or-append a.firsts (map (placed (vertex_count a) ties) b.firsts) 0 e h

      left_second : get_or (merged a b ties).seconds e 0 ≡ get_or a.seconds e 0
      unfolding merged
      left_second = get_or-append a.seconds (map (placed (vertex_count a) ties) b.seconds) 0 e (let l = first_sound.seconds_long in omega arith)

      left_weight : get_or (merged a b ties).weights e 0 ≡ get_or a.weights e 0
      unfolding merged
      left_weight = get_or-append a.weights b.weights 0 e (let l = first_sound.weights_long in omega arith)

      left_sound : EdgeSound (merged a b ties) e
      left_sound =
          let s : EdgeSound a e = first_sound.edges e h in
          let n : length a.groups ≤ length (merged a b ties).groups = merged_some in
          let x : get_or a.firsts e 0 < length a.groups = s.first_below_law in
          let y : get_or a.seconds e 0 < length a.groups = s.second_below in
          record {
            first_below_law = rw left_first (omega arith);
            second_below = rw left_second (omega arith);
            ends_differ = rw (left_first, left_second) s.ends_differ;
            weight_le = rw left_weight s.weight_le;
          }

    module _ (e : ℕ) (h : e < length b.firsts) where
      right_first : get_or (merged a b ties).firsts (length a.firsts + e) 0 ≡ placed (length a.groups) ties (get_or b.firsts e 0)
      unfolding merged vertex_count
      right_first =
          get_d_behind a.firsts (map (placed (vertex_count a) ties) b.firsts) (length a.firsts) e refl
          ∙ get_d_map_below (placed (length a.groups) ties) b.firsts e h

      right_second : get_or (merged a b ties).seconds (length a.firsts + e) 0 ≡ placed (length a.groups) ties (get_or b.seconds e 0)
      unfolding merged vertex_count
      right_second =
          get_d_behind a.seconds (map (placed (vertex_count a) ties) b.seconds) (length a.firsts) e (sym first_sound.seconds_long)
          ∙ get_d_map_below (placed (length a.groups) ties) b.seconds e (let l = second_sound.seconds_long in omega arith)

      right_weight : get_or (merged a b ties).weights (length a.firsts + e) 0 ≡ get_or b.weights e 0
      unfolding merged
      right_weight = get_d_behind a.weights b.weights (length a.firsts) e (sym first_sound.weights_long)

      -- Both ends have places of their own, so that 5 cannot come.
      right_sound : EdgeSound (merged a b ties) (length a.firsts + e)
      right_sound =
          let s : EdgeSound b e = second_sound.edges e h in
          record {
            first_below_law = rw right_first (place_below (get_or b.firsts e 0) s.first_below_law);
            second_below = rw right_second (place_below (get_or b.seconds e 0) s.second_below);
            ends_differ = rw (right_first, right_second)
                (λ k. s.ends_differ (placed_once (length a.groups) (length b.groups) ties ties_sound (get_or b.firsts e 0) (get_or b.seconds e 0) k));
            weight_le = rw right_weight s.weight_le;
          }

    pub merged_edge : (e : ℕ) → e < length (merged a b ties).firsts → EdgeSound (merged a b ties) e
    merged_edge e h =
        ⊎_elim
        (λ c. left_sound e c)
        (λ c.
        let k : e - length a.firsts < length b.firsts = let l = merged_edges in omega arith in
        let is : length a.firsts + (e - length a.firsts) ≡ e = omega arith in
        subst (EdgeSound (merged a b ties)) is (right_sound (e - length a.firsts) k))
        (lt_or_ge e (length a.firsts))

    -- The result is judged as any survey is: what planning would refuse of it is what merging does, 1, 3 and 18.
    pub merged_judged : survey_refusal (merged a b ties) ≡ large_refusal (counts_of (merged a b ties))
    unfolding large_refusal counts_of vertex_count edge_count
    merged_judged = ⊎_elim many_vertices few_vertices (lt_or_ge max_vertices (length (merged a b ties).groups))
      where
        some : 1 ≤ length (merged a b ties).groups
        some = omega (arith, merged_some, first_sound.some)

        even : length (merged a b ties).owners ≡ length (merged a b ties).others
        even = pairs_count a b ties ∙ sym (pairs_even a b ties)

        many_vertices : max_vertices < length (merged a b ties).groups → survey_refusal (merged a b ties) ≡ large_refusal (counts_of (merged a b ties))
        many_vertices h =
            survey_large (merged a b ties) h ∙ sym (before_refused (refuse_true (lt-ltb max_vertices (length (merged a b ties).groups) h) 1 0) _)

        few_vertices : length (merged a b ties).groups ≤ max_vertices → survey_refusal (merged a b ties) ≡ large_refusal (counts_of (merged a b ties))
        few_vertices h =
            ⊎_elim
            (λ k.
            survey_many (merged a b ties) some h merged_seconds merged_weights even k
            ∙ sym (before_refused (refuse_true (lt-ltb max_edges (length (merged a b ties).firsts) k) 3 0) _))
            (λ k.
            survey_shaped (merged a b ties) some h merged_seconds merged_weights even k
            ∙ before_fine (lowest_none (edge_count (merged a b ties)) (edge_refusal (merged a b ties)) (λ e c. edge_fine (merged a b ties) e (merged_edge e c))) _
            ∙ merged_pairs_judged a b ties
            ∙ sym (before_fine (refuse_false (le-ltb max_edges (length (merged a b ties).firsts) k) 3 0) _))
            (lt_or_ge max_edges (length (merged a b ties).firsts))
            ∙ sym (before_fine (refuse_false (le-ltb max_vertices (length (merged a b ties).groups) h) 1 0) _)

-- Where merging refuses nothing the result is sound.
pub merged_sound : (a b : Survey) (ties : Ties) → Mergeable a b ties → SurveySound (merged a b ties)
merged_sound a b ties h =
    record {
      some = omega (arith, merged_some a b ties h.first_sound h.second_sound h.ties_sound, h.first_sound.some);
      few = h.few;
      seconds_long = merged_seconds a b ties h.first_sound h.second_sound h.ties_sound;
      weights_long = merged_weights a b ties h.first_sound h.second_sound h.ties_sound;
      edges_few = h.edges_few;
      edges = merged_edge a b ties h.first_sound h.second_sound h.ties_sound;
      pairs_long = pairs_count a b ties ∙ sym (pairs_even a b ties);
      pairs = λ i b'. pair_sound a b ties i b' (let k = h.pairs_few in omega arith);
    }
