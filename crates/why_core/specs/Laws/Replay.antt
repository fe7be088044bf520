-- Laws of the picks merged in their order: what holds before each turn of the loop, and what it finds.
use Rattle.std.specs.Prelude.{ℕ, suc, ◌+◌, ◌<◌, ◌≤◌, ◌≡◌, refl, Bool, true, false, List, length, eqb}
use Rattle.std.proofs.Common.{arith, ◌∙◌, ⊎_elim}
use Rattle.std.proofs.Math.Path.{ap, sym}
use Rattle.std.proofs.Math.ListN.{get_or, get_or-eq_default}
use Rattle.base_finite.specs.Below.{tabulate}
use Rattle.base_finite.specs.Laws.Below.{get_d_tabulate, lt_or_ge}
use Rattle.base_limits.specs.Limits.{max_vertices}
use Rattle.base_buffer.specs.Store.{remade}
use Rattle.base_buffer.proofs.Laws.Store.{remade_table}
use Rattle.theory_route.proofs.Laws.First.{Unmet, unmet_start, unmet_turn}
use Rattle.survey_core.specs.Survey.{Survey}
use Rattle.survey_core.specs.Sound.{SurveySound}
use Rattle.survey_components.specs.Buffer.{ends_joined}
use Rattle.survey_components.specs.Laws.Buffer.{components_more, components_none}
use Rattle.why_rule.proofs.Laws.First.{zero_first, zero_none}
use Rattle.why_core.specs.Replay.{labels_after, linked_after, round_in, PicksFit}

-- Two labels as the code reads them.
pub read_both : (labels : List ℕ) {x y i j a b : ℕ} → x ≡ get_or labels i 0 → i ≡ a → y ≡ get_or labels j 0 → j ≡ b → eqb x y ≡ eqb (get_or labels a 0) (get_or labels b 0)
read_both labels h p k q = rw (h, p, k, q)

-- A sound survey has a label for every end.
pub picks_fit : (s : Survey) → SurveySound s → PicksFit s.firsts s.seconds
picks_fit s sound = record { first_below_law = first; second_below = second }
  where
    few : length s.groups ≤ max_vertices
    few = sound.few

    first : (e : ℕ) → get_or s.firsts e 0 < max_vertices
    first e =
        ⊎_elim
        (λ b. let h = (sound.edges e b).first_below_law in omega (arith, few))
        (λ out. rw (get_or-eq_default s.firsts 0 {n = e} out) (omega arith))
        (lt_or_ge e (length s.firsts))

    second : (e : ℕ) → get_or s.seconds e 0 < max_vertices
    second e =
        ⊎_elim
        (λ b. let h = (sound.edges e b).second_below in omega (arith, few))
        (λ out. rw (get_or-eq_default s.seconds 0 {n = e} (let k = sound.seconds_long in omega arith)) (omega arith))
        (lt_or_ge e (length s.firsts))

-- Before each turn: the labels are those of r picks, and none of the first r links the ends.
pub record PicksReplayed (firsts seconds order : List ℕ) (e r : ℕ) (labels : List ℕ) : Type 0 where
  pub within : r ≤ length order
  pub labels_are : labels ≡ tabulate max_vertices (labels_after firsts seconds order r)
  pub unmet : Unmet (suc (length order)) (linked_after firsts seconds order e) (r + 1)

module _ (firsts seconds order : List ℕ) (e : ℕ) (ok : PicksFit firsts seconds) where
  -- What the buffer of labels says.
  test_is : (r : ℕ) {labels : List ℕ} → labels ≡ tabulate max_vertices (labels_after firsts seconds order r)
      → eqb (get_or labels (get_or firsts e 0) 0) (get_or labels (get_or seconds e 0) 0) ≡ linked_after firsts seconds order e r
  unfolding linked_after
  test_is r {labels} h = rw (at (get_or firsts e 0) (ok.first_below_law e), at (get_or seconds e 0) (ok.second_below e))
    where
      at : (v : ℕ) → v < max_vertices → get_or labels v 0 ≡ labels_after firsts seconds order r v
      at v b = ap (λ l. get_or l v 0) h ∙ get_d_tabulate max_vertices (labels_after firsts seconds order r) v 0 b

  pub own_after : (l : List ℕ) {labels : List ℕ} → length l ≡ max_vertices → labels ≡ remade (λ v x. v) max_vertices l
      → labels ≡ tabulate max_vertices (labels_after firsts seconds order 0)
  unfolding labels_after
  own_after l long h =
      h ∙ remade_table (λ v x. v) max_vertices l (λ v. v) long (λ k b. refl)
      ∙ components_none max_vertices (λ i. get_or firsts (get_or order i 0) 0) (λ i. get_or seconds (get_or order i 0) 0) (λ i. true) max_vertices

  -- The ends of e are one.
  pub joined_at_once : {labels : List ℕ} {r : Bool} → labels ≡ tabulate max_vertices (labels_after firsts seconds order 0)
      → r ≡ eqb (get_or labels (get_or firsts e 0) 0) (get_or labels (get_or seconds e 0) 0) → r ≡ true → 0 ≡ round_in firsts seconds order e
  unfolding round_in
  joined_at_once h is same =
      zero_first (suc (length order)) (linked_after firsts seconds order e) 0
      (record { below = omega arith; passes = sym (test_is 0 h) ∙ sym is ∙ same; none_before = λ j b. absurd (omega arith) })

  pub replay_start : {labels : List ℕ} {r : Bool} → labels ≡ tabulate max_vertices (labels_after firsts seconds order 0)
      → r ≡ eqb (get_or labels (get_or firsts e 0) 0) (get_or labels (get_or seconds e 0) 0) → r ≡ false → PicksReplayed firsts seconds order e 0 labels
  replay_start h is misses =
      record {
        within = omega arith;
        labels_are = h;
        unmet = unmet_turn (unmet_start (suc (length order)) (linked_after firsts seconds order e)) (omega arith) (is ∙ test_is 0 h) misses;
      }

  -- One more pick.
  module _ {r : ℕ} {labels after : List ℕ} {t : Bool} (h : PicksReplayed firsts seconds order e r labels) (b : r < length order)
      (merged : after ≡ ends_joined (get_or firsts (get_or order r 0) 0) (get_or seconds (get_or order r 0) 0) labels)
      (is : t ≡ eqb (get_or after (get_or firsts e 0) 0) (get_or after (get_or seconds e 0) 0)) where
    after_is : after ≡ tabulate max_vertices (labels_after firsts seconds order (r + 1))
    unfolding labels_after
    after_is =
        components_more max_vertices (λ i. get_or firsts (get_or order i 0) 0) (λ i. get_or seconds (get_or order i 0) 0) (λ i. true) max_vertices r
        (ok.first_below_law (get_or order r 0)) (ok.second_below (get_or order r 0)) h.labels_are merged

    pub replay_turn : t ≡ false → PicksReplayed firsts seconds order e (r + 1) after
    replay_turn misses =
        record { within = omega arith; labels_are = after_is; unmet = unmet_turn h.unmet (omega arith) (is ∙ test_is (r + 1) after_is) misses }

    pub replay_found : t ≡ true → r + 1 ≡ round_in firsts seconds order e
    unfolding round_in
    replay_found found =
        zero_first (suc (length order)) (linked_after firsts seconds order e) (r + 1)
        (record { below = omega arith; passes = sym (is ∙ test_is (r + 1) after_is) ∙ found; none_before = h.unmet.none })

  pub replay_end : {r : ℕ} {labels : List ℕ} → PicksReplayed firsts seconds order e r labels → length order ≤ r → 0 ≡ round_in firsts seconds order e
  unfolding round_in
  replay_end h c = zero_none (suc (length order)) (linked_after firsts seconds order e) (λ j b. h.unmet.none j (omega arith))
