-- Without ties the second survey is only shifted (document 02, No. 9).
use Rattle.std.specs.Prelude.{ℕ, ◌+◌, ◌*◌, ◌-◌, ◌<◌, ◌≡◌, refl, true, false, ◌||◌, eqb}
use Rattle.std.proofs.Common.{arith, sym, ◌∙◌, subst, ⊎_elim, length-append, get_or-append-add, ext_get_or, eqb-true}
use Rattle.std.proofs.Math.Path.{ap}
use Rattle.std.proofs.Math.Bool.{cond, or-false}
use mathlib.Core.List.{List, [], ◌∷◌, map, ◌++◌}
use Rattle.std.proofs.Math.ListN.{length, get_or, get_or-append, get_or-eq_default}
use Rattle.std.proofs.lemmas.List.{length-map}
use Rattle.base_finite.specs.Below.{any_below}
use Rattle.base_finite.specs.Laws.Below.{lt_or_ge, count_all}
use Rattle.base_finite.specs.Laws.Test.{either}
use Rattle.base_limits.specs.Limits.{group_numbers}
use Rattle.survey_core.specs.Survey.{Survey, lists_of, vertex_count, member}
use Rattle.survey_core.specs.Sound.{ByteGroups, SurveySound}
use Rattle.survey_core.proofs.Laws.Lists.{PairAt, Listed, by_own, by_pair, in_list_elim, in_list_intro}
use Rattle.merge_rule.specs.Ties.{is_tied_below, is_tied, is_untied, placed, merged_count, standing_at}
use Rattle.merge_rule.specs.Merged.{merged_vertices, second_at, own_at, belongs, is_further, pair_vertex, pair_group, merged_pairs, merged}
use Rattle.merge_rule.specs.Shifted.{no_ties, shifted, behind, beside}
use Rattle.merge_rule.specs.Sound.{TiesSound}
use Rattle.merge_rule.proofs.Laws.Those.{At, get_d_map_below}
use Rattle.merge_rule.proofs.Laws.Placed.{placed_untied, standing_placed, standing_none}
use Rattle.merge_rule.proofs.Laws.Member.{member_past, split_vertex, split_group, merged_vertices_law, merged_own, pairs_chosen, further_elim, further_intro}
use Rattle.merge_rule.proofs.Laws.Rising.{Rising, rising_same, at_left, at_right, at_either, append_rises, pair_numbers, pairs_length, pair_number, pair_numbers_rise}

-- ---- places

pub no_ties_sound : (n m : ℕ) → TiesSound n m no_ties
no_ties_sound n m =
    record {
      long = refl;
      first_below_law = λ i b. absurd (omega arith);
      second_below = λ i b. absurd (omega arith);
      first_once = λ i j c b. absurd (omega arith);
      second_once = λ i j c b. absurd (omega arith);
    }

none_tied : (v : ℕ) → is_tied [] v ≡ false
unfolding is_tied is_tied_below any_below
none_tied v = refl

all_untied : (v : ℕ) → is_untied no_ties v ≡ true
unfolding is_untied is_tied is_tied_below any_below
all_untied v = refl

pub placed_shifted : (n v : ℕ) → placed n no_ties v ≡ n + v
placed_shifted n v = placed_untied n 0 no_ties (no_ties_sound n 0) v (none_tied v) ∙ ap (λ k. n + k) (count_all v (is_untied no_ties) (λ i b. all_untied i))

count_shifted : (n m : ℕ) → merged_count n m no_ties ≡ n + m
unfolding merged_count
count_shifted n m = ap (λ k. n + k) (count_all m (is_untied no_ties) (λ i b. all_untied i))

stands_first : (n m w : ℕ) → w < n → standing_at n m no_ties w ≡ m
stands_first n m w h = standing_none n m no_ties (no_ties_sound n m) w h (none_tied w)

stands_second : (n m v : ℕ) → v < m → standing_at n m no_ties (n + v) ≡ v
stands_second n m v h = ap (standing_at n m no_ties) (sym (placed_shifted n v)) ∙ standing_placed n m no_ties (no_ties_sound n m) v h

-- ---- lists

map_same : (f g : ℕ → ℕ) (l : List ℕ) → ((x : ℕ) → f x ≡ g x) → map f l ≡ map g l
map_same f g [] h = refl
map_same f g (x ∷ l) h = rw (h x, map_same f g l h)

map_stays : (f : ℕ → ℕ) (l : List ℕ) → ((x : ℕ) → f x ≡ x) → map f l ≡ l
map_stays f [] h = refl
map_stays f (x ∷ l) h = rw (h x, map_stays f l h)

map_joined : (f : ℕ → ℕ) (l r : List ℕ) → map f (l ++ r) ≡ map f l ++ map f r
map_joined f [] r = refl
map_joined f (x ∷ l) r = rw (map_joined f l r)

-- ---- pairs of one survey

-- Pair i, as what it says.
pair_here : (s : Survey) (i : ℕ) → i < length s.owners → PairAt (lists_of s) (get_or s.others i 0) (get_or s.owners i 0)
pair_here s i h = record { at = i; below = h; owner_is = refl; other_is = refl }

-- A pair makes a member; and a membership that is not the own group is a pair.
pair_member : (s : Survey) (g v : ℕ) → (g ≡ 0 → ⊥) → PairAt (lists_of s) g v → member s g v ≡ true
unfolding member
pair_member s g v some p = in_list_intro (lists_of s) g v some (by_pair p)

member_pair : (s : Survey) (g v : ℕ) → member s g v ≡ true → (g ≡ get_or s.groups v 0 → ⊥) → PairAt (lists_of s) g v
unfolding member
member_pair s g v h other = by (in_list_elim (lists_of s) g v h)
  where
    by : Listed (lists_of s) g v → PairAt (lists_of s) g v
    by (by_own e) = absurd (other (sym e))
    by (by_pair p) = p

-- The number of a pair among the survey's numbers.
pair_among : (n : ℕ) (s : Survey) (g v : ℕ) → PairAt (lists_of s) g v → At (pair_numbers n s) ((n + v) * group_numbers + g)
pair_among n s g v p =
    record {
      at = p.at;
      below = let l = pairs_length n s in let b = p.below in omega arith;
      is = pair_number n s p.at p.below ∙ rw (p.owner_is, p.other_is);
    }

-- Its junctions and its groups are the survey's.
module _ (n : ℕ) (s : Survey) (bytes : ByteGroups s) where
  numbers_vertices : map pair_vertex (pair_numbers n s) ≡ map (λ v. n + v) s.owners
  numbers_vertices =
      ext_get_or 0 (map pair_vertex (pair_numbers n s)) (map (λ v. n + v) s.owners)
      (length-map (pair_numbers n s) pair_vertex ∙ pairs_length n s ∙ sym (length-map s.owners (λ v. n + v)))
      (λ i b.
      let c : i < length (pair_numbers n s) = let e = length-map (pair_numbers n s) pair_vertex in omega arith in
      let d : i < length s.owners = let e = pairs_length n s in omega arith in
      get_d_map_below pair_vertex (pair_numbers n s) i c
      ∙ ap pair_vertex (pair_number n s i d)
      ∙ split_vertex (get_or s.others i 0) (n + get_or s.owners i 0) (bytes.other_byte i)
      ∙ sym (get_d_map_below (λ v. n + v) s.owners i d))

  numbers_groups : length s.owners ≡ length s.others → map pair_group (pair_numbers n s) ≡ s.others
  numbers_groups even =
      ext_get_or 0 (map pair_group (pair_numbers n s)) s.others
      (length-map (pair_numbers n s) pair_group ∙ pairs_length n s ∙ even)
      (λ i b.
      let c : i < length (pair_numbers n s) = let e = length-map (pair_numbers n s) pair_group in omega arith in
      let d : i < length s.owners = let e = pairs_length n s in omega arith in
      get_d_map_below pair_group (pair_numbers n s) i c
      ∙ ap pair_group (pair_number n s i d)
      ∙ split_group (get_or s.others i 0) (n + get_or s.owners i 0) (bytes.other_byte i))

-- ---- two surveys

not_moved : (g w : ℕ) → (0 + w) * group_numbers + g ≡ w * group_numbers + g
not_moved g w = omega arith

own_or_none : (x : ℕ) → cond (eqb x 0) 0 x ≡ x
own_or_none x = ⊎_elim (λ e. rw e (sym (eqb-true x 0 e))) (λ e. rw e) (either (eqb x 0))

module _ (a b : Survey) (first_sound : SurveySound a) (second_sound : SurveySound b) (first_bytes : ByteGroups a) (second_bytes : ByteGroups b) where
  vertices_shifted : merged_vertices a b no_ties ≡ length a.groups + length b.groups
  unfolding merged_vertices vertex_count
  vertices_shifted = count_shifted (length a.groups) (length b.groups)

  own_first : (w : ℕ) → w < length a.groups → own_at a b no_ties w ≡ get_or a.groups w 0
  unfolding own_at second_at vertex_count
  own_first w h =
      ap (λ v. cond (eqb (get_or a.groups w 0) 0) (get_or b.groups v 0) (get_or a.groups w 0)) (stands_first (length a.groups) (length b.groups) w h)
      ∙ ap (λ x. cond (eqb (get_or a.groups w 0) 0) x (get_or a.groups w 0)) (get_or-eq_default b.groups 0 {n = length b.groups} (omega arith))
      ∙ own_or_none (get_or a.groups w 0)

  own_second : (v : ℕ) → v < length b.groups → own_at a b no_ties (length a.groups + v) ≡ get_or b.groups v 0
  unfolding own_at second_at vertex_count
  own_second v h =
      ap (λ x. cond (eqb x 0) (get_or b.groups (standing_at (length a.groups) (length b.groups) no_ties (length a.groups + v)) 0) x)
      (get_or-eq_default a.groups 0 {n = length a.groups + v} (omega arith))
      ∙ ap (λ x. get_or b.groups x 0) (stands_second (length a.groups) (length b.groups) v h)

  belongs_first : (g w : ℕ) → w < length a.groups → belongs a b no_ties g w ≡ member a g w
  unfolding belongs second_at vertex_count
  belongs_first g w h =
      ap (λ v. member a g w || member b g v) (stands_first (length a.groups) (length b.groups) w h)
      ∙ ap (λ t. member a g w || t) (member_past b second_sound g (length b.groups) (omega arith))
      ∙ or-false (member a g w)

  belongs_second : (g v : ℕ) → v < length b.groups → belongs a b no_ties g (length a.groups + v) ≡ member b g v
  unfolding belongs second_at vertex_count
  belongs_second g v h =
      ap (λ x. member a g (length a.groups + v) || member b g x) (stands_second (length a.groups) (length b.groups) v h)
      ∙ ap (λ t. t || member b g v) (member_past a first_sound g (length a.groups + v) (omega arith))

  -- ---- the pairs of both, as numbers

  abbrev both : List ℕ
  both = pair_numbers 0 a ++ pair_numbers (length a.groups) b

  both_rise : Rising both
  both_rise =
      append_rises (pair_numbers 0 a) (pair_numbers (length a.groups) b) (length a.groups * group_numbers)
      (pair_numbers_rise 0 a first_sound first_bytes) (pair_numbers_rise (length a.groups) b second_sound second_bytes)
      (λ i h.
      let c : i < length a.owners = let e = pairs_length 0 a in omega arith in
      let x = first_bytes.other_byte i in
      let y : get_or a.owners i 0 < length a.groups = (first_sound.pairs i c).below in
      rw (pair_number 0 a i c) (omega arith))
      (λ i h.
      let c : i < length b.owners = let e = pairs_length (length a.groups) b in omega arith in
      rw (pair_number (length a.groups) b i c) (omega arith))

  further_among : (g w : ℕ) → g < group_numbers → w < length a.groups + length b.groups → is_further a b no_ties g w ≡ true
      → At (merged_pairs a b no_ties) (w * group_numbers + g)
  further_among g w bg bw h =
      (pairs_chosen a b no_ties).each (w * group_numbers + g) (let e = vertices_shifted in omega arith) (rw (split_vertex g w bg, split_group g w bg) h)

  from_first : {x : ℕ} → At (pair_numbers 0 a) x → At (merged_pairs a b no_ties) x
  from_first q =
      let c : q.at < length a.owners = let e = pairs_length 0 a in let d = q.below in omega arith in
      let w = get_or a.owners q.at 0 in
      let g = get_or a.others q.at 0 in
      let ok = first_sound.pairs q.at c in
      let bw : get_or a.owners q.at 0 < length a.groups = ok.below in
      let made : At (merged_pairs a b no_ties) (w * group_numbers + g) =
      further_among g w (first_bytes.other_byte q.at) (omega arith)
      (further_intro a b no_ties g w (belongs_first g w bw ∙ pair_member a g w ok.some (pair_here a q.at c)) (λ e. ok.foreign (e ∙ own_first w bw))) in
      subst (At (merged_pairs a b no_ties)) (sym (not_moved g w) ∙ sym (pair_number 0 a q.at c) ∙ q.is) made

  from_second : {x : ℕ} → At (pair_numbers (length a.groups) b) x → At (merged_pairs a b no_ties) x
  from_second q =
      let c : q.at < length b.owners = let e = pairs_length (length a.groups) b in let d = q.below in omega arith in
      let v = get_or b.owners q.at 0 in
      let g = get_or b.others q.at 0 in
      let ok = second_sound.pairs q.at c in
      let bv : get_or b.owners q.at 0 < length b.groups = ok.below in
      let made : At (merged_pairs a b no_ties) ((length a.groups + v) * group_numbers + g) =
      further_among g (length a.groups + v) (second_bytes.other_byte q.at) (omega arith)
      (further_intro a b no_ties g (length a.groups + v) (belongs_second g v bv ∙ pair_member b g v ok.some (pair_here b q.at c))
      (λ e. ok.foreign (e ∙ own_second v bv))) in
      subst (At (merged_pairs a b no_ties)) (sym (pair_number (length a.groups) b q.at c) ∙ q.is) made

  -- A number of the result's, by its junction.
  to_first : (g w : ℕ) → w < length a.groups → is_further a b no_ties g w ≡ true → At both (w * group_numbers + g)
  to_first g w h k =
      let f = further_elim a b no_ties g w k in
      subst (At both) (not_moved g w)
      (at_left (pair_numbers 0 a) (pair_numbers (length a.groups) b)
      (pair_among 0 a g w (member_pair a g w (sym (belongs_first g w h) ∙ f.0) (λ e. f.1 (e ∙ sym (own_first w h))))))

  to_second : (g v : ℕ) → v < length b.groups → is_further a b no_ties g (length a.groups + v) ≡ true → At both ((length a.groups + v) * group_numbers + g)
  to_second g v h k =
      let f = further_elim a b no_ties g (length a.groups + v) k in
      at_right (pair_numbers 0 a) (pair_numbers (length a.groups) b)
      (pair_among (length a.groups) b g v (member_pair b g v (sym (belongs_second g v h) ∙ f.0) (λ e. f.1 (e ∙ sym (own_second v h)))))

  to_both : (x : ℕ) → At (merged_pairs a b no_ties) x → At both x
  to_both x q =
      let below : x < merged_vertices a b no_ties * group_numbers = subst (λ k. k < merged_vertices a b no_ties * group_numbers) q.is ((pairs_chosen a b no_ties).below q.at q.below) in
      let passes : is_further a b no_ties (pair_group x) (pair_vertex x) ≡ true =
      subst (λ k. is_further a b no_ties (pair_group k) (pair_vertex k) ≡ true) q.is ((pairs_chosen a b no_ties).passes q.at q.below) in
      let whole : pair_vertex x * group_numbers + pair_group x ≡ x = omega arith in
      let e = vertices_shifted in
      subst (At both) whole
      (⊎_elim
      (λ h. to_first (pair_group x) (pair_vertex x) h passes)
      (λ h.
      let v_is : length a.groups + (pair_vertex x - length a.groups) ≡ pair_vertex x = omega arith in
      let v_below : pair_vertex x - length a.groups < length b.groups = omega arith in
      subst (λ w. At both (w * group_numbers + pair_group x)) v_is
      (to_second (pair_group x) (pair_vertex x - length a.groups) v_below (subst (λ w. is_further a b no_ties (pair_group x) w ≡ true) (sym v_is) passes)))
      (lt_or_ge (pair_vertex x) (length a.groups)))

  pairs_shifted : merged_pairs a b no_ties ≡ both
  pairs_shifted =
      rising_same (merged_pairs a b no_ties) both (pairs_chosen a b no_ties).rising both_rise to_both
      (λ x q. ⊎_elim from_first from_second (at_either (pair_numbers 0 a) (pair_numbers (length a.groups) b) q))

  -- ---- the six lists

  groups_shifted : (merged a b no_ties).groups ≡ a.groups ++ b.groups
  groups_shifted =
      ext_get_or 0 (merged a b no_ties).groups (a.groups ++ b.groups)
      (merged_vertices_law a b no_ties ∙ vertices_shifted ∙ sym (length-append a.groups b.groups))
      (λ w h.
      let n_is = merged_vertices_law a b no_ties in
      let both_are = vertices_shifted in
      let bw : w < merged_vertices a b no_ties = omega arith in
      merged_own a b no_ties w bw
      ∙ ⊎_elim
      (λ c. own_first w c ∙ sym (get_or-append a.groups b.groups 0 w c))
      (λ c.
      let v_is : length a.groups + (w - length a.groups) ≡ w = omega arith in
      let v_below : w - length a.groups < length b.groups = omega arith in
      subst (λ k. own_at a b no_ties k ≡ get_or (a.groups ++ b.groups) k 0) v_is
      (own_second (w - length a.groups) v_below ∙ sym (get_or-append-add a.groups b.groups (w - length a.groups) 0)))
      (lt_or_ge w (length a.groups)))

  -- With no ties the second survey is only shifted.
  pub merged_beside : merged a b no_ties ≡ beside a b
  unfolding merged beside behind shifted vertex_count
  merged_beside i =
      record {
        groups = groups_shifted i;
        firsts = ap (λ l. a.firsts ++ l) (map_same (placed (length a.groups) no_ties) (λ v. length a.groups + v) b.firsts (placed_shifted (length a.groups))) i;
        seconds = ap (λ l. a.seconds ++ l) (map_same (placed (length a.groups) no_ties) (λ v. length a.groups + v) b.seconds (placed_shifted (length a.groups))) i;
        weights = a.weights ++ b.weights;
        owners = owners_shifted i;
        others = others_shifted i;
      }
    where
      owners_shifted : map pair_vertex (merged_pairs a b no_ties) ≡ a.owners ++ map (λ v. length a.groups + v) b.owners
      owners_shifted =
          ap (map pair_vertex) pairs_shifted
          ∙ map_joined pair_vertex (pair_numbers 0 a) (pair_numbers (length a.groups) b)
          ∙ rw (numbers_vertices 0 a first_bytes, numbers_vertices (length a.groups) b second_bytes)
          (ap (λ l. l ++ map (λ v. length a.groups + v) b.owners) (map_stays (λ v. 0 + v) a.owners (λ v. omega arith)))

      others_shifted : map pair_group (merged_pairs a b no_ties) ≡ a.others ++ b.others
      others_shifted =
          ap (map pair_group) pairs_shifted
          ∙ map_joined pair_group (pair_numbers 0 a) (pair_numbers (length a.groups) b)
          ∙ rw (numbers_groups 0 a first_bytes first_sound.pairs_long, numbers_groups (length a.groups) b second_bytes second_sound.pairs_long)
