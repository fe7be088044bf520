-- Forests by labels: a set of edges is a forest exactly if none of them closes a loop with edges of lower number. Pruning and the laws of sides use it.
use Rattle.std.specs.Prelude.{ℕ, zero, suc, ◌+◌, ◌-◌, ◌<◌, ◌≤◌, ◌≡◌, refl, ◌⊎◌, Bool, true, false, ◌&&◌, cond, List, [], ◌++◌, length, get_or, take, eqb, ltb}
use Rattle.std.proofs.Common.{arith, ap, ◌∙◌, subst, inl, inr, ⊎_elim, take_at, eqb-true, eq-eqb, ne_eqb, lt-ltb, ltb-true}
use Rattle.std.proofs.Math.Nat.{sub-zero}
use Rattle.std.proofs.Math.Path.{sym}
use Rattle.std.proofs.Math.Bool.{not}
use Rattle.std.proofs.lemmas.Bool.{false≢true}
use Rattle.std.proofs.Math.ListN.{drop, get_or-append}
use Rattle.std.proofs.Math.Seq.{length_front}
use Rattle.base_finite.specs.Below.{tabulate}
use Rattle.base_finite.specs.Laws.Below.{below_suc, length_tabulate, get_d_tabulate}
use Rattle.base_finite.specs.Laws.Test.{either, and_left, and_right, and_both, not_true_false, true_not_false}
use Rattle.theory_graph.specs.Path.{Linked, Forest}
use Rattle.theory_graph.specs.Component.{components}
use Rattle.theory_graph.proofs.Laws.Linked.{linked_mono, without_intro, without_mono}
use Rattle.theory_graph.proofs.Laws.Component.{below, components_iff, components_right}
use Rattle.theory_graph.proofs.Laws.Forest.{forest_more}
use Rattle.base_limits.specs.Limits.{max_vertices, group_numbers}
use Rattle.base_limits.specs.Verdict.{refuse_if, ◌before◌, lowest_below}
use Rattle.base_limits.specs.declared.Verdict.{Verdict}
use Rattle.base_limits.specs.declared.Verdict.TheVariants.{Fine, Refused}
use Rattle.base_limits.specs.Laws.Verdict.{before_fine, before_refused, passed_on, lowest_none, none_lowest, refuse_true, refuse_false, fine_refuse, Scanned, scan_start, scan_turn, scan_found, scan_end}
use Rattle.theory_steiner.specs.Problem.{Bounded}
use Rattle.survey_core.specs.Survey.{Survey, survey_from, groups_alone, vertex_count, edge_count, member, group_joined, components_of, problem_of}
use Rattle.survey_core.specs.Refusal.{survey_refusal, group_refusal}
use Rattle.survey_core.proofs.Laws.Refusal.{fine_survey}
use Rattle.survey_components.specs.Roots.{ends_hung, one_root, levelled}
use Rattle.survey_components.specs.Laws.Buffer.{components_stored}
use Rattle.survey_components.specs.Laws.Front.{table_front}
use Rattle.survey_components.specs.Laws.Roots.{Trees, trees_none, trees_more, trees_one, trees_labels}
use Rattle.survey_components.specs.Labels.{picked_in}
use Rattle.survey_components.specs.Laws.Labels.{refusal_by_table, sound_ends}
use Rattle.survey_components.specs.Forest.{closes_loop, loop_refusal, forest_refusal, EndsBelow}

-- ---- forests

-- Fewer edges.
pub forest_sub : {a b : ℕ → ℕ} {F G : ℕ → Bool} → ((e : ℕ) → G e ≡ true → F e ≡ true) → Forest a b F → Forest a b G
forest_sub sub forest = λ e g p. forest e (sub e g) (linked_mono (without_mono e sub) p)

-- In a forest an edge joins two components of the edges below it.
pub forest_apart : (n : ℕ) (a b : ℕ → ℕ) (F : ℕ → Bool) → Forest a b F → (e : ℕ) → F e ≡ true → components n a b F e (a e) ≡ components n a b F e (b e) → ⊥
forest_apart n a b F forest e f same =
    forest e f
    (linked_mono
    (λ g h. without_intro F e g (and_right (ltb g e) (F g) h) (λ k. let l : g < e = ltb-true g e (and_left (ltb g e) (F g) h) in omega arith))
    ((components_right n a b F e).sound (a e) (b e) tt tt same))

forest_open : (n : ℕ) (a b : ℕ → ℕ) (F : ℕ → Bool) → Forest a b F → (e : ℕ) → closes_loop n a b F e ≡ false
unfolding closes_loop
forest_open n a b F forest e =
    let label : ℕ → ℕ = components n a b F e in
    let one : Bool = eqb (label (a e)) (label (b e)) in
    not_true_false (F e && one)
    (λ h. forest_apart n a b F forest e (and_left (F e) one h) (eqb-true (label (a e)) (label (b e)) (and_right (F e) one h)))

below_only : (F : ℕ → Bool) (m f : ℕ) → below F (suc m) f ≡ true → (below F m f ≡ true) ⊎ (f ≡ m)
below_only F m f h =
    ⊎_elim
    (λ b. inl (and_both (ltb f m) (F f) (lt-ltb f m b) (and_right (ltb f (suc m)) (F f) h)))
    inr
    (below_suc f m (ltb-true f (suc m) (and_left (ltb f (suc m)) (F f) h)))

-- And edges of which none closes a loop are a forest.
open_forest : (n : ℕ) (a b : ℕ → ℕ) (F : ℕ → Bool) (m : ℕ) → ((e : ℕ) → e < m → closes_loop n a b F e ≡ false) → Forest a b (below F m)
unfolding closes_loop
open_forest n a b F zero h = λ e g p. absurd (let l : e < 0 = ltb-true e 0 (and_left (ltb e 0) (F e) g) in omega arith)
open_forest n a b F (suc m) h = by (open_forest n a b F m (λ e l. h e (omega arith))) (either (F m))
  where
    apart : F m ≡ true → Linked a b (below F m) (a m) (b m) → ⊥
    apart t l =
        let label : ℕ → ℕ = components n a b F m in
        let one : Bool = eqb (label (a m)) (label (b m)) in
        true_not_false (F m && one) (and_both (F m) one t (eq-eqb (label (a m)) (label (b m)) ((components_iff n a b F m (a m) (b m)).1 l))) (h m (omega arith))

    by : Forest a b (below F m) → (F m ≡ true) ⊎ (F m ≡ false) → Forest a b (below F (suc m))
    by old (inl t) = forest_more a b (below F m) (below F (suc m)) m old (apart t) (below_only F m)
    by old (inr t) =
        forest_sub
        (λ f g. ⊎_elim (λ k. k) (λ same. absurd (false≢true (sym t ∙ ap F (sym same) ∙ and_right (ltb f (suc m)) (F f) g))) (below_only F m f g))
        old

module _ (s : Survey) (F : ℕ → Bool) where
  -- 21 comes of no forest.
  pub forest_fine : Forest (problem_of s).first (problem_of s).second F → loop_refusal s F ≡ Fine
  unfolding loop_refusal
  forest_fine forest =
      lowest_none (edge_count s) _
      (λ e b. refuse_false (forest_open (vertex_count s) (problem_of s).first (problem_of s).second F forest e) 21 e)

  -- And where it does not come there is one.
  pub fine_forest : Bounded (problem_of s) F → loop_refusal s F ≡ Fine → Forest (problem_of s).first (problem_of s).second F
  unfolding loop_refusal problem_of
  fine_forest bounded h =
      forest_sub
      (λ e f. and_both (ltb e (edge_count s)) (F e) (lt-ltb e (edge_count s) (bounded e f)) f)
      (open_forest (vertex_count s) (problem_of s).first (problem_of s).second F (edge_count s)
      (λ e b. fine_refuse (closes_loop (vertex_count s) (problem_of s).first (problem_of s).second F e) 21 e (none_lowest (edge_count s) _ h e b)))

-- ---- trees in a buffer

-- Whether an edge closes a loop, by the trees of the edges below it.
pub closes_by_trees : (n k N m : ℕ) (a b : ℕ → ℕ) (F : ℕ → Bool) (e : ℕ) {parents : List ℕ} → a e < N → b e < N → e ≤ m
    → Trees N (components k a b F e) e parents → (F e && one_root m (a e) (b e) parents) ≡ closes_loop n a b F e
unfolding closes_loop
closes_by_trees n k N m a b F e {parents} ha hb enough t =
    rw (trees_one N (components k a b F e) e m parents t enough (a e) (b e) ha hb, components_stored k n a b F e (a e), components_stored k n a b F e (b e))

-- ---- edges of which none has closed a loop yet

-- Before edge e comes: nothing found below it, and the vertices are in the trees of the picked edges below it.
pub record Joining (groups firsts seconds picked labels : List ℕ) (e : ℕ) : Type 0 where
  pub scanned :
      Scanned (length firsts)
      (λ i. refuse_if (closes_loop (length groups) (λ k. get_or firsts k 0) (λ k. get_or seconds k 0) (picked_in picked) i) 21 i) e
  pub long : length labels ≡ max_vertices
  pub trees :
      Trees (length groups) (components max_vertices (λ k. get_or firsts k 0) (λ k. get_or seconds k 0) (picked_in picked) e) e (take (length groups - 0) labels)

module _ (groups firsts seconds picked : List ℕ) (ok : EndsBelow groups firsts seconds) where
  abbrev s : Survey
  s = survey_from groups firsts seconds []

  abbrev F : ℕ → Bool
  F = picked_in picked

  abbrev a : ℕ → ℕ
  a k = get_or firsts k 0

  abbrev b : ℕ → ℕ
  b k = get_or seconds k 0

  pub joining_start : {labels : List ℕ} → labels ≡ tabulate max_vertices (λ v. v) → Joining groups firsts seconds picked labels 0
  joining_start h =
      record {
        scanned = scan_start (length firsts) _;
        long = ap length h ∙ length_tabulate max_vertices _;
        trees = trees_none max_vertices (length groups) a b F (table_front (length groups) max_vertices (λ v. v) ok.few h);
      }

  module _ {labels : List ℕ} {e : ℕ} (h : Joining groups firsts seconds picked labels e) where
    -- The places of the vertices.
    abbrev part : List ℕ
    part = take (length groups - 0) labels

    module _ {found : Verdict} (l : e < length firsts) (is : found ≡ refuse_if (F e && one_root (length firsts) (a e) (b e) part) 21 e) where
      found_is : found ≡ refuse_if (closes_loop (length groups) a b F e) 21 e
      found_is =
          is
          ∙ ap (λ t. refuse_if t 21 e)
          (closes_by_trees (length groups) max_vertices (length groups) (length firsts) a b F e (ok.first_below_law e l) (ok.second_below e l) (omega arith)
          h.trees)

      pub joining_found : {number place : ℕ} → found ≡ Refused number place → found ≡ (loop_refusal s F before group_refusal s 14 F)
      unfolding loop_refusal problem_of vertex_count edge_count
      joining_found r = passed_on (scan_found h.scanned l found_is r) r _

      pub joining_turn : {front : List ℕ} → found ≡ Fine → front ≡ cond (F e) (ends_hung (length firsts) (a e) (b e) part) part
          → Joining groups firsts seconds picked (front ++ drop (length groups - 0) labels) (e + 1)
      joining_turn {front} f k =
          let after : Trees (length groups) (components max_vertices a b F (e + 1)) (e + 1) front =
          trees_more max_vertices (length groups) a b F e (length firsts) (ok.first_below_law e l) (ok.second_below e l) (omega arith) h.trees k in
          record {
            scanned = scan_turn h.scanned l found_is f;
            long = length_front labels front (length groups - 0) (after.hung.long ∙ sym h.trees.hung.long) ∙ h.long;
            trees =
                subst (Trees (length groups) (components max_vertices a b F (e + 1)) (e + 1))
                (sym (take_at front (drop (length groups - 0) labels) (length groups - 0) (after.hung.long ∙ sym (sub-zero (length groups))))) after;
          }

    -- A call has levelled the trees.
    module _ {front : List ℕ} (c : length firsts ≤ e) (level : front ≡ levelled (length firsts) (length part) part) where
      front_is : front ≡ tabulate (length groups) (components max_vertices a b F (length firsts))
      front_is = trees_labels max_vertices (length groups) a b F e (length firsts) h.scanned.within c h.trees level

      front_long : length front ≡ length groups
      front_long = ap length front_is ∙ length_tabulate (length groups) (components max_vertices a b F (length firsts))

      pub joining_long : max_vertices ≡ length (front ++ drop (length groups - 0) labels)
      joining_long = sym (length_front labels front (length groups - 0) (front_long ∙ sym h.trees.hung.long) ∙ h.long)

      at : (v : ℕ) → v < length groups → get_or (front ++ drop (length groups - 0) labels) v 0 ≡ components max_vertices a b F (length firsts) v
      at v l =
          let n = front_long in
          get_or-append front (drop (length groups - 0) labels) 0 v (omega arith)
          ∙ ap (λ t. get_or t v 0) front_is ∙ get_d_tabulate (length groups) _ v 0 l

      pub joining_end : {w : Verdict}
          → w ≡ lowest_below group_numbers (λ g. refuse_if (not (group_joined (groups_alone groups) (λ v. get_or (front ++ drop (length groups - 0) labels) v 0) g)) 14 g)
          → w ≡ (loop_refusal s F before group_refusal s 14 F)
      unfolding loop_refusal problem_of vertex_count edge_count
      joining_end is =
          is
          ∙ refusal_by_table s F 14 (front ++ drop (length groups - 0) labels) at
          ∙ sym (before_fine (sym (scan_end h.scanned c)) _)

-- ---- the refusals as the code finds them: v is the survey's

-- Weights decide neither loops nor groups.
pub unweighted_refusal : (groups firsts seconds weights : List ℕ) (F : ℕ → Bool)
    → (loop_refusal (survey_from groups firsts seconds []) F before group_refusal (survey_from groups firsts seconds []) 14 F)
    ≡ (loop_refusal (survey_from groups firsts seconds weights) F before group_refusal (survey_from groups firsts seconds weights) 14 F)
unfolding loop_refusal group_refusal group_joined components_of member problem_of vertex_count edge_count
unweighted_refusal groups firsts seconds weights F = refl

pub ends_below : (s : Survey) {v : Verdict} → v ≡ survey_refusal s → v ≡ Fine → EndsBelow s.groups s.firsts s.seconds
ends_below s is fine = sound_ends s (fine_survey s (sym is ∙ fine))

module _ (s : Survey) (picked : List ℕ) {v : Verdict} (v_is : v ≡ survey_refusal s) (fine : v ≡ Fine) where
  -- 9
  pub marks_uneven : (length picked ≡ length s.firsts → ⊥) → forest_refusal s picked ≡ Refused 9 0
  unfolding forest_refusal edge_count
  marks_uneven h =
      before_fine (sym v_is ∙ fine) _
      ∙ before_refused (refuse_true (ap not (ne_eqb (length picked) (length s.firsts) h)) 9 0) _

pub marks_even : (groups firsts seconds weights picked : List ℕ) {v w : Verdict} → v ≡ survey_refusal (survey_from groups firsts seconds weights) → v ≡ Fine
    → length picked ≡ length firsts
    → w ≡ (loop_refusal (survey_from groups firsts seconds []) (picked_in picked) before group_refusal (survey_from groups firsts seconds []) 14 (picked_in picked))
    → w ≡ forest_refusal (survey_from groups firsts seconds weights) picked
unfolding forest_refusal edge_count
marks_even groups firsts seconds weights picked v_is fine h is =
    is ∙ unweighted_refusal groups firsts seconds weights (picked_in picked)
    ∙ sym
    (before_fine (sym v_is ∙ fine) _
    ∙ before_fine (refuse_false (ap not (eq-eqb (length picked) (length firsts) h)) 9 0) _)
