-- What the code makes is the definition's result: the places, the pairs and each buffer; and the whole call, refused or not. `merge` cites it.
use Rattle.std.specs.Prelude.{ℕ, suc, ◌+◌, ◌*◌, ◌≤◌, ◌<◌, ◌≡◌, take, drop, replicate}
use native.Mathlib.Omega.{arith}
use Rattle.std.proofs.Math.Path.{refl, ap, sym}
use Rattle.std.proofs.Common.{◌∙◌}
use mathlib.Core.List.{List, [], ◌∷◌, ◌++◌, map}
use Rattle.std.proofs.Math.ListN.{length, get_or, length-append, length-map, get_or-append}
use Rattle.std.proofs.lemmas.List.{length-replicate}
use Rattle.std.proofs.lemmas.List.Edits.{sets}
use Rattle.std.proofs.Math.Seq.{length-sets}
use Rattle.std.proofs.Math.Dec.{eqb}
use Rattle.base_finite.specs.Below.{tabulate}
use Rattle.base_finite.specs.Laws.Below.{length_tabulate, get_d_tabulate, count_le}
use Rattle.base_buffer.proofs.Laws.Store.{tabulate_cong}
use Rattle.base_limits.specs.Limits.{max_vertices, max_pairs, group_numbers}
use Rattle.base_limits.specs.Verdict.{◌before◌, answer, outcome}
use Rattle.base_limits.specs.declared.Verdict.{Verdict}
use Rattle.base_limits.specs.declared.Verdict.TheVariants.{Fine, Refused}
use Rattle.base_limits.specs.Laws.Verdict.{before_fine, before_refused, written_fine, written_refused}
use Rattle.theory_route.proofs.Laws.First.{first_cong}
use Rattle.survey_core.specs.Survey.{Survey, survey_with, lists_of, vertex_count, edge_count, member}
use Rattle.survey_core.specs.Sound.{ByteGroups, SurveySound}
use Rattle.survey_core.specs.Refusal.{survey_refusal}
use Rattle.survey_core.proofs.Laws.Refusal.{fine_survey}
use Rattle.merge_rule.specs.Ties.{Ties, is_untied, placed, merged_count, standing_at}
use Rattle.merge_rule.specs.Merged.{merged_vertices, second_at, own_at, belongs, is_further, pair_vertex, pair_group, merged_pairs, merged}
use Rattle.merge_rule.specs.declared.Merged.{Merged}
use Rattle.merge_rule.specs.declared.Merged.TheVariants.{Finished as MergedFinished, Refused as MergedRefused}
use Rattle.merge_rule.specs.Refusal.{SurveyCounts, counts_from, counts_of, room_from, room_of, ties_refusal, large_refusal, room_refusal, merge_refusal, merging, merged_outcome, over, merged_after}
use Rattle.merge_rule.specs.Sound.{RoomFor}
use Rattle.merge_rule.specs.Promise.{MergePromises}
use Rattle.merge_rule.proofs.Laws.Refusal.{fine_merge, fine_merge_room}
use Rattle.merge_rule.proofs.Laws.Sound.{merged_sound}
use Rattle.merge_rule.proofs.Laws.Promise.{merge_promises}
use Rattle.merge_core.specs.Row.{own_with, further_with}
use Rattle.merge_core.specs.Pairs.{standing_in, pairs_by}
use Rattle.merge_core.specs.Laws.Stored.{sets_head, take_sets}
use Rattle.merge_core.specs.Laws.Pairs.{those_cong}

-- ---- places

pub map_same : (f g : ℕ → ℕ) (l : List ℕ) → ((i : ℕ) → i < length l → f (get_or l i 0) ≡ g (get_or l i 0)) → map f l ≡ map g l
map_same f g [] h = refl
map_same f g (x ∷ l) h = λ i. h 0 (omega arith) i ∷ map_same f g l (λ k b. h (suc k) (omega arith)) i

module _ (a b : Survey) (ties : Ties) where
  module _ (few : length b.groups ≤ max_vertices) {places : List ℕ}
      (places_are : places ≡ sets (replicate max_vertices 0) 0 (tabulate (length b.groups) (placed (length a.groups) ties))) where
    place_is : (v : ℕ) → v < length b.groups → get_or places v 0 ≡ placed (length a.groups) ties v
    place_is v below =
        let table = tabulate (length b.groups) (placed (length a.groups) ties) in
        let long : length table ≡ length b.groups = length_tabulate (length b.groups) (placed (length a.groups) ties) in
        let fits : length table ≤ length (replicate {A = ℕ} max_vertices 0) = omega (arith, long, length-replicate {A = ℕ} max_vertices 0) in
        ap (λ (l : List ℕ). get_or l v 0) (places_are ∙ sets_head table (replicate max_vertices 0) fits)
        ∙ get_or-append table (drop (length table) (replicate max_vertices 0)) 0 v (omega (arith, long))
        ∙ get_d_tabulate (length b.groups) (placed (length a.groups) ties) v 0 below

    pub standing_is : (w : ℕ) → standing_in places (length b.groups) w ≡ second_at a b ties w
    unfolding standing_in second_at standing_at vertex_count
    standing_is w = first_cong (length b.groups) _ _ (λ v below. ap (λ (x : ℕ). eqb x w) (place_is v below))

    -- ---- the result's parts

    pub pairs_are : {vertices : ℕ} → vertices ≡ merged_count (length a.groups) (length b.groups) ties
        → pairs_by (lists_of a) (lists_of b) places (vertices * group_numbers) ≡ merged_pairs a b ties
    unfolding pairs_by merged_pairs merged_vertices further_with own_with is_further belongs own_at member vertex_count
    pairs_are vertices_are =
        ap (λ (n : ℕ). pairs_by (lists_of a) (lists_of b) places (n * group_numbers)) vertices_are
        ∙ those_cong (merged_count (length a.groups) (length b.groups) ties * group_numbers) _ _
        (λ c below. ap (λ (v : ℕ). further_with (lists_of a) (lists_of b) (pair_vertex c) v (pair_group c)) (standing_is (pair_vertex c)))

    pub groups_are : {vertices : ℕ} → vertices ≡ merged_count (length a.groups) (length b.groups) ties
        → tabulate vertices (λ w. own_with a.groups b.groups w (standing_in places (length b.groups) w)) ≡ (merged a b ties).groups
    unfolding merged merged_vertices own_with own_at vertex_count
    groups_are vertices_are =
        ap (λ (n : ℕ). tabulate n (λ w. own_with a.groups b.groups w (standing_in places (length b.groups) w))) vertices_are
        ∙ tabulate_cong (merged_count (length a.groups) (length b.groups) ties) _ _ (λ w below. ap (own_with a.groups b.groups w) (standing_is w))

    module _ (sound : SurveySound b) where
      pub firsts_are : a.firsts ++ map (λ v. get_or places v 0) b.firsts ≡ (merged a b ties).firsts
      unfolding merged vertex_count
      firsts_are =
          ap (λ (l : List ℕ). a.firsts ++ l)
          (map_same (λ v. get_or places v 0) (placed (length a.groups) ties) b.firsts (λ e c. place_is (get_or b.firsts e 0) (sound.edges e c).first_below_law))

      pub seconds_are : a.seconds ++ map (λ v. get_or places v 0) b.seconds ≡ (merged a b ties).seconds
      unfolding merged vertex_count
      seconds_are =
          ap (λ (l : List ℕ). a.seconds ++ l)
          (map_same (λ v. get_or places v 0) (placed (length a.groups) ties) b.seconds
          (λ e c. place_is (get_or b.seconds e 0) (sound.edges e (omega (arith, sound.seconds_long))).second_below))

  -- ---- its counts

  pub merged_counts : {vertices edges pairs : ℕ} → vertices ≡ merged_count (length a.groups) (length b.groups) ties
      → edges ≡ length a.firsts + length b.firsts → pairs ≡ length (merged_pairs a b ties) → counts_from vertices edges pairs ≡ counts_of (merged a b ties)
  unfolding counts_of merged merged_vertices vertex_count edge_count
  merged_counts {vertices} {edges} {pairs} v_is e_is p_is i =
      record {
        vertices = (v_is ∙ sym (length_tabulate (merged_count (length a.groups) (length b.groups) ties) (own_at a b ties))) i;
        edges = tracks i;
        pairs = (p_is ∙ sym (length-map (merged_pairs a b ties) pair_vertex)) i;
      }
    where
      tracks : edges ≡ length (a.firsts ++ map (placed (length a.groups) ties) b.firsts)
      tracks =
          omega (
            arith,
            e_is,
            length-append a.firsts (map (placed (length a.groups) ties) b.firsts),
            length-map b.firsts (placed (length a.groups) ties),
          )

  -- No more junctions than the two have.
  pub merged_most : {vertices : ℕ} → vertices ≡ merged_count (length a.groups) (length b.groups) ties → length a.groups ≤ max_vertices
      → length b.groups ≤ max_vertices → vertices ≤ 2 * max_vertices
  unfolding merged_count
  merged_most h x y = omega (arith, h, x, y, count_le (length b.groups) (is_untied ties))

-- A buffer over which the result's is written from its head on.
head_is : (out : List ℕ) {made result after : List ℕ} → made ≡ result → length result ≤ length out → after ≡ sets out 0 made → after ≡ result ++ drop (length result) out
head_is out {made} {result} same fits is = is ∙ ap (sets out 0) same ∙ sets_head result out fits

-- An array filled from its head on keeps its length.
pub stored_long : (n : ℕ) (xs : List ℕ) {l : List ℕ} → l ≡ sets (replicate n 0) 0 xs → n ≡ length l
stored_long n xs h = sym (ap length h ∙ length-sets (replicate n 0) 0 xs ∙ length-replicate {A = ℕ} n 0)

-- ---- the whole call

-- What the call owes: its answer, the six buffers, its promises.
abbrev pub Owed : (a b : Survey) (ties : Ties) (out after : Survey) (r : Merged) → Type 0
Owed a b ties out after r =
    (merged_outcome r ≡ merging a b ties (room_of out)) × ((after ≡ merged_after a b ties out) × MergePromises a b ties out r)

module _ (a b : Survey) (ties : Ties) (out : Survey) (ga : ByteGroups a) (gb : ByteGroups b) where
  owed_refused : {number place : ℕ} → merge_refusal a b ties (room_of out) ≡ Refused number place → Owed a b ties out out (MergedRefused number place)
  unfolding merging outcome merged_after merged_outcome
  owed_refused {number} {place} h =
      let answered : merged_outcome (MergedRefused number place) ≡ merging a b ties (room_of out) =
      sym (ap (λ (v : Verdict). outcome v (counts_of (merged a b ties))) h) in
      (answered, (written_refused (over (merged a b ties) out) out refl h, merge_promises a b ties out ga gb answered))

  module _ {v : Verdict} (v_is : v ≡ survey_refusal a) where
    pub first_stops : {number place : ℕ} → v ≡ Refused number place → Owed a b ties out out (MergedRefused number place)
    unfolding merge_refusal
    first_stops h = owed_refused (before_refused (sym v_is ∙ h) _)

    module _ (v_fine : v ≡ Fine) {w : Verdict} (w_is : w ≡ survey_refusal b) where
      after_first : merge_refusal a b ties (room_of out) ≡ (survey_refusal b before ties_refusal (vertex_count a) (vertex_count b) ties before large_refusal (counts_of (merged a b ties)) before room_refusal (counts_of (merged a b ties)) (room_of out))
      unfolding merge_refusal
      after_first = before_fine (sym v_is ∙ v_fine) _

      pub second_stops : {number place : ℕ} → w ≡ Refused number place → Owed a b ties out out (MergedRefused number place)
      second_stops h = owed_refused (after_first ∙ before_refused (sym w_is ∙ h) _)

      module _ (w_fine : w ≡ Fine) {t : Verdict} (t_is : t ≡ ties_refusal (length a.groups) (length b.groups) ties) where
        after_second : merge_refusal a b ties (room_of out) ≡ (ties_refusal (vertex_count a) (vertex_count b) ties before large_refusal (counts_of (merged a b ties)) before room_refusal (counts_of (merged a b ties)) (room_of out))
        after_second = after_first ∙ before_fine (sym w_is ∙ w_fine) _

        pub ties_stop : {number place : ℕ} → t ≡ Refused number place → Owed a b ties out out (MergedRefused number place)
        unfolding vertex_count
        ties_stop h = owed_refused (after_second ∙ before_refused (sym t_is ∙ h) _)

        module _ (t_fine : t ≡ Fine) {places : List ℕ} {vertices edges pairs : ℕ}
            (places_are : places ≡ sets (replicate max_vertices 0) 0 (tabulate (length b.groups) (placed (length a.groups) ties)))
            (vertices_are : vertices ≡ merged_count (length a.groups) (length b.groups) ties)
            (edges_are : edges ≡ length a.firsts + length b.firsts)
            (pairs_count : pairs ≡ length (pairs_by (lists_of a) (lists_of b) places (vertices * group_numbers)))
            {l : Verdict} (l_is : l ≡ large_refusal (counts_from vertices edges pairs)) where
          second_sound : SurveySound b
          second_sound = fine_survey b (sym w_is ∙ w_fine)

          all_pairs : pairs_by (lists_of a) (lists_of b) places (vertices * group_numbers) ≡ merged_pairs a b ties
          all_pairs = pairs_are a b ties second_sound.few places_are vertices_are

          counts_are : counts_from vertices edges pairs ≡ counts_of (merged a b ties)
          counts_are = merged_counts a b ties vertices_are edges_are (pairs_count ∙ ap length all_pairs)

          after_ties : merge_refusal a b ties (room_of out) ≡ (large_refusal (counts_of (merged a b ties)) before room_refusal (counts_of (merged a b ties)) (room_of out))
          unfolding vertex_count
          after_ties = after_second ∙ before_fine (sym t_is ∙ t_fine) _

          pub large_stops : {number place : ℕ} → l ≡ Refused number place → Owed a b ties out out (MergedRefused number place)
          large_stops h = owed_refused (after_ties ∙ before_refused (ap large_refusal (sym counts_are) ∙ sym l_is ∙ h) _)

          module _ (l_fine : l ≡ Fine) {s : Verdict}
              (s_is : s ≡ room_refusal (counts_from vertices edges pairs) (room_from (length out.groups) (length out.firsts) (length out.seconds) (length out.weights) (length out.owners) (length out.others))) where
            after_large : merge_refusal a b ties (room_of out) ≡ s
            unfolding room_of
            after_large =
                after_ties
                ∙ before_fine (ap large_refusal (sym counts_are) ∙ sym l_is ∙ l_fine) _
                ∙ ap (λ (c : SurveyCounts). room_refusal c (room_of out)) (sym counts_are)
                ∙ sym s_is

            pub short_stops : {number place : ℕ} → s ≡ Refused number place → Owed a b ties out out (MergedRefused number place)
            short_stops h = owed_refused (after_large ∙ h)

            module _ (s_fine : s ≡ Fine) where
              merges : merge_refusal a b ties (room_of out) ≡ Fine
              merges = after_large ∙ s_fine

              pub pairs_kept : pairs ≤ max_pairs
              unfolding counts_of
              pairs_kept = omega (arith, (fine_merge a b ties (room_of out) merges).pairs_few, ap (λ (c : SurveyCounts). c.pairs) counts_are)

              module _ {ranks : List ℕ} (ranks_are : ranks ≡ sets (replicate max_pairs 0) 0 (pairs_by (lists_of a) (lists_of b) places (vertices * group_numbers))) where
                kept : take pairs ranks ≡ merged_pairs a b ties
                kept =
                    ap (λ (k : ℕ). take k ranks) pairs_count
                    ∙ ap (take (length (pairs_by (lists_of a) (lists_of b) places (vertices * group_numbers)))) ranks_are
                    ∙ take_sets (pairs_by (lists_of a) (lists_of b) places (vertices * group_numbers)) (replicate max_pairs 0)
                    (omega (arith, pairs_count, pairs_kept, length-replicate {A = ℕ} max_pairs 0))
                    ∙ all_pairs

                module _ {g f d p o x : List ℕ}
                    (g_is : g ≡ sets out.groups 0 (tabulate vertices (λ w. own_with a.groups b.groups w (standing_in places (length b.groups) w))))
                    (f_is : f ≡ sets out.firsts 0 (a.firsts ++ map (λ v. get_or places v 0) b.firsts))
                    (d_is : d ≡ sets out.seconds 0 (a.seconds ++ map (λ v. get_or places v 0) b.seconds))
                    (p_is : p ≡ sets out.weights 0 (a.weights ++ b.weights))
                    (o_is : o ≡ sets out.owners 0 (map pair_vertex (take pairs ranks)))
                    (x_is : x ≡ sets out.others 0 (map pair_group (take pairs ranks))) where
                  room : RoomFor (counts_of (merged a b ties)) (room_of out)
                  room = fine_merge_room a b ties (room_of out) merges

                  sound : SurveySound (merged a b ties)
                  sound = merged_sound a b ties (fine_merge a b ties (room_of out) merges)

                  is_over : survey_with g f d p o x ≡ over (merged a b ties) out
                  unfolding over merged counts_of room_of vertex_count edge_count
                  is_over i =
                      record {
                        groups = head_is out.groups (groups_are a b ties second_sound.few places_are vertices_are) room.groups g_is i;
                        firsts = head_is out.firsts (firsts_are a b ties second_sound.few places_are second_sound) room.firsts f_is i;
                        seconds =
                            head_is out.seconds (seconds_are a b ties second_sound.few places_are second_sound) (omega (arith, room.seconds, sound.seconds_long)) d_is i;
                        weights = head_is out.weights {made = a.weights ++ b.weights} refl (omega (arith, room.weights, sound.weights_long)) p_is i;
                        owners = head_is out.owners (ap (map pair_vertex) kept) room.owners o_is i;
                        others = head_is out.others (ap (map pair_group) kept) (omega (arith, room.others, sound.pairs_long)) x_is i;
                      }

                  pub merge_goes : Owed a b ties out (survey_with g f d p o x) (MergedFinished vertices edges pairs)
                  unfolding merging outcome merged_after merged_outcome
                  merge_goes =
                      let answered : merged_outcome (MergedFinished vertices edges pairs) ≡ merging a b ties (room_of out) =
                      ap answer counts_are ∙ sym (ap (λ (v : Verdict). outcome v (counts_of (merged a b ties))) merges) in
                      (answered, (is_over ∙ written_fine (over (merged a b ties) out) out refl merges, merge_promises a b ties out ga gb answered))
