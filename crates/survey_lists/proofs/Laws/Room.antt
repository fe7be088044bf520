-- What the loops of pouring leave in their buffers: the labels of the lists, and the poured groups in a buffer for every survey.
use Rattle.std.specs.Prelude.{ℕ, suc, ◌+◌, ◌-◌, ◌<◌, ◌≤◌, ◌≡◌, ◌⊎◌, true, ◌&&◌, cond, List, set, take, replicate, eqb, ltb}
use native.Mathlib.Omega.{arith}
use Rattle.std.proofs.Math.Nat.{sub-zero}
use Rattle.std.proofs.Common.{add-one, ◌∙◌, subst, inl, inr, ext_get_or, length-take-le, get_or-take}
use Rattle.std.proofs.Math.Decide.{ℕ_discrete}
use Rattle.std.proofs.Math.Path.{ap, sym}
use Rattle.std.proofs.Math.ListN.{length, get_or, get_or-eq_default}
use borrow.Author.Tests.{eq-eqb, ne_eqb, lt-ltb, le-ltb}
use Rattle.base_finite.specs.Below.{counted, tabulate}
use Rattle.base_finite.specs.Laws.Below.{lt_or_ge, counted_true, counted_false, length_tabulate, get_d_tabulate}
use Rattle.base_limits.specs.Limits.{max_vertices, group_numbers}
use Rattle.base_buffer.specs.Store.{remade}
use Rattle.base_buffer.proofs.Laws.Store.{length_remade, remade_passed, tabulate_cong, replicate_table, set_table}
use Rattle.theory_graph.specs.Component.{components}
use Rattle.survey_components.specs.Buffer.{relabelled, ends_joined}
use Rattle.survey_components.specs.Laws.Buffer.{components_more, components_none, components_end}
use Rattle.survey_core.specs.Lists.{Lists, own, owner, other}
use Rattle.survey_lists.specs.Pouring.{home_below, home, poured_label, poured, poured_groups, room_of}
use Rattle.survey_lists.proofs.Laws.Home.{home_below_law, home_stays, home_passed, home_taken}

-- Each place of a buffer numbered, by a loop at least as long.
pub numbered : (n N : ℕ) (labels : List ℕ) {after : List ℕ} → n ≤ N → length labels ≡ n → after ≡ remade (λ v x. v) N labels → after ≡ tabulate n (λ v. v)
numbered n N labels {after} fits long h =
    let e : length (remade (λ v x. v) N labels) ≡ n = length_remade (λ v x. v) N labels ∙ long in
    h
    ∙ ext_get_or 0 (remade (λ v x. v) N labels) (tabulate n (λ v. v)) (e ∙ sym (length_tabulate n (λ v. v)))
    (λ k b. remade_passed (λ v x. v) N labels k (omega arith) (omega arith) ∙ sym (get_d_tabulate n (λ v. v) k 0 (omega arith)))

-- The components of two vertices become the first's, by the numbers that a call was given.
pub joined_by_merge : (labels : List ℕ) {after : List ℕ} {first second a b z : ℕ} → first ≡ a → second ≡ b → z ≡ get_or labels first 0
    → after ≡ relabelled (get_or labels first 0) (get_or labels second 0) z labels → after ≡ ends_joined a b labels
unfolding ends_joined
joined_by_merge labels p q r h = h ∙ rw (r, p, q)

-- The labels of the lists, after i pairs.
abbrev pub label_below : Lists → (i : ℕ) → ℕ → ℕ
label_below l i = components group_numbers (λ i. home l (owner l i)) (other l) (λ i. true) i

pub record Labelled (l : Lists) (i : ℕ) (labels : List ℕ) : Type 0 where
  pub within : i ≤ length l.owners
  pub made : labels ≡ tabulate group_numbers (label_below l i)

module _ (l : Lists) where
  pub labelled_start : (labels : List ℕ) {after : List ℕ} → length labels ≡ group_numbers → after ≡ remade (λ v x. v) max_vertices labels → Labelled l 0 after
  labelled_start labels long h =
      record {
        within = omega arith;
        made = numbered group_numbers max_vertices labels (omega arith) long h ∙ components_none group_numbers (λ i. home l (owner l i)) (other l) (λ i. true) group_numbers;
      }

  -- One more pair, where groups are bytes, own and by pair.
  pub labelled_turn : {i : ℕ} {labels after : List ℕ} → ((v : ℕ) → own l v < group_numbers) → ((i : ℕ) → other l i < group_numbers)
      → Labelled l i labels → i < length l.owners → after ≡ ends_joined (home l (owner l i)) (other l i) labels → Labelled l (i + 1) after
  unfolding home
  labelled_turn {i} groups others h b is =
      record {
        within = omega arith;
        made =
            components_more group_numbers (λ i. home l (owner l i)) (other l) (λ i. true) group_numbers i
            (home_below_law l group_numbers groups others (owner l i) (length l.owners)) (others i) h.made is;
      }

  pub labelled_end : {i : ℕ} {labels : List ℕ} → Labelled l i labels → length l.owners ≤ i → labels ≡ tabulate group_numbers (poured_label l)
  unfolding poured_label
  labelled_end {i} h b =
      h.made
      ∙ components_end group_numbers (λ i. home l (owner l i)) (other l) (λ i. true) group_numbers (length l.owners) i h.within b

  -- The label of a home is read from such a buffer.
  pub label_read : {labels : List ℕ} → ((v : ℕ) → own l v < group_numbers) → ((i : ℕ) → other l i < group_numbers)
      → labels ≡ tabulate group_numbers (poured_label l) → (v : ℕ) → get_or labels (home l v) 0 ≡ poured l v
  unfolding poured home
  label_read groups others h v =
      ap (λ t. get_or t (home l v) 0) h
      ∙ get_d_tabulate group_numbers (poured_label l) (home l v) 0 (home_below_law l group_numbers groups others v (length l.owners))

  -- Without pairs the poured group is the own one.
  unpaired : length l.owners ≡ 0 → (v : ℕ) → own l v ≡ poured l v
  unfolding poured poured_label home home_below components
  unpaired none v = rw none

  pub unpaired_room : {room : List ℕ} → length l.owners ≡ 0 → room ≡ room_of (length l.groups) (own l)
      → room ≡ room_of (length l.groups) (poured l)
  unpaired_room none h = h ∙ ap (room_of (length l.groups)) (λ i v. unpaired none v i)

-- ---- rooms

-- A loop has stored f of the first i vertices of n.
pub record Filled (f : ℕ → ℕ) (n i : ℕ) (room : List ℕ) : Type 0 where
  pub within : i ≤ n
  pub made : room ≡ room_of i f

pub length_room : (n : ℕ) (f : ℕ → ℕ) → length (room_of n f) ≡ max_vertices
unfolding room_of
length_room n f = length_tabulate max_vertices (λ v. counted (ltb v n) (f v))

module _ (f : ℕ → ℕ) (n : ℕ) where
  pub filled_start : Filled f n 0 (replicate max_vertices 0)
  unfolding room_of
  filled_start =
      record {
        within = omega arith;
        made =
            replicate_table max_vertices 0
            ∙ tabulate_cong max_vertices (λ v. 0) (λ v. counted (ltb v 0) (f v)) (λ v b. sym (counted_false (le-ltb v 0 (omega arith)) (f v)));
      }

  pub filled_turn : {i x : ℕ} {room after : List ℕ} → Filled f n i room → i < n → x ≡ f i → after ≡ set room i x → Filled f n (i + 1) after
  unfolding room_of
  filled_turn {i} {x} {room} {after} h b is made =
      record {
        within = omega arith;
        made =
            made
            ∙ rw h.made
            (set_table max_vertices (λ v. counted (ltb v i) (f v)) (λ v. counted (ltb v (i + 1)) (f v)) i x
            (is ∙ sym (counted_true (lt-ltb i (i + 1) (omega arith)) (f i)))
            (λ v other. by v (lt_or_ge v i) other));
      }
    where
      by : (v : ℕ) → (v < i) ⊎ (i ≤ v) → (v ≡ i → ⊥) → counted (ltb v i) (f v) ≡ counted (ltb v (i + 1)) (f v)
      by v (inl c) other = rw (lt-ltb v i c, lt-ltb v (i + 1) (omega arith))
      by v (inr c) other =
          let d : i + 1 ≤ v = omega (arith, other) in
          rw (le-ltb v i c, le-ltb v (i + 1) d)

  pub filled_end : {i : ℕ} {room : List ℕ} → Filled f n i room → n ≤ i → room ≡ room_of n f
  filled_end {i} h c = let w : i ≤ n = h.within in let e : n ≡ i = omega arith in rw e h.made

-- ---- the homes of all vertices

-- One more pair, as a call leaves the homes.
module _ (homes : List ℕ) (v group : ℕ) where
  abbrev noted : List ℕ
  noted = cond (ltb v max_vertices && eqb (get_or homes v 0) 0) (set homes v group) homes

  pub home_past : max_vertices ≤ v → homes ≡ noted
  home_past h = rw (le-ltb v max_vertices h)

  pub home_kept : v < max_vertices → (get_or homes v 0 ≡ 0 → ⊥) → homes ≡ noted
  home_kept h k = rw (lt-ltb v max_vertices h, ne_eqb (get_or homes v 0) 0 k)

  pub home_noted : v < max_vertices → get_or homes v 0 ≡ 0 → set homes v group ≡ noted
  home_noted h k = rw (lt-ltb v max_vertices h, eq-eqb (get_or homes v 0) 0 k)

-- The homes by the first i pairs.
pub record Housed (l : Lists) (i : ℕ) (homes : List ℕ) : Type 0 where
  pub within : i ≤ length l.owners
  pub made : homes ≡ tabulate max_vertices (λ v. home_below l v i)

module _ (l : Lists) where
  pub housed_start : {homes : List ℕ} → homes ≡ room_of (length l.groups) (own l) → Housed l 0 homes
  unfolding room_of home_below
  housed_start h =
      record {
        within = omega arith;
        made =
            h
            ∙ tabulate_cong max_vertices (λ v. counted (ltb v (length l.groups)) (own l v)) (λ v. own l v)
            (λ v b. by v (lt_or_ge v (length l.groups)));
      }
    where
      by : (v : ℕ) → (v < length l.groups) ⊎ (length l.groups ≤ v) → counted (ltb v (length l.groups)) (own l v) ≡ own l v
      by v (inl b) = counted_true (lt-ltb v (length l.groups) b) (own l v)
      by v (inr b) = counted_false (le-ltb v (length l.groups) b) (own l v) ∙ sym (get_or-eq_default l.groups 0 b)

  module _ {i : ℕ} {homes after : List ℕ} {v g : ℕ} (h : Housed l i homes) (b : i < length l.owners) (v_is : v ≡ owner l i) (g_is : g ≡ other l i)
      (is : after ≡ cond (ltb v max_vertices && eqb (get_or homes v 0) 0) (set homes v g) homes) where
    below : (x : ℕ) → ℕ
    below x = home_below l x i

    above : (x : ℕ) → ℕ
    above x = home_below l x (suc i)

    -- Every vertex but the pair's keeps its home.
    others_keep : (x : ℕ) → (x ≡ v → ⊥) → below x ≡ above x
    unfolding below above
    others_keep x d = sym (home_passed l x i (λ e. d (sym e ∙ sym v_is)))

    after_is : after ≡ tabulate max_vertices above
    unfolding below above
    after_is = by (lt_or_ge v max_vertices) (ℕ_discrete (home_below l v i) 0)
      where
        at : v < max_vertices → get_or homes v 0 ≡ home_below l v i
        at c = ap (λ t. get_or t v 0) h.made ∙ get_d_tabulate max_vertices (λ x. home_below l x i) v 0 c

        stays : (home_below l v i ≡ home_below l v (suc i)) → homes ≡ tabulate max_vertices (λ x. home_below l x (suc i))
        stays e =
            h.made
            ∙ tabulate_cong max_vertices (λ x. home_below l x i) (λ x. home_below l x (suc i))
            (λ x _. each x e (ℕ_discrete x v))
          where
            each : (x : ℕ) → (home_below l v i ≡ home_below l v (suc i)) → Dec (x ≡ v) → home_below l x i ≡ home_below l x (suc i)
            each x e (yes q) = subst (λ y. home_below l y i ≡ home_below l y (suc i)) (sym q) e
            each x e (no d) = others_keep x d

        out : max_vertices ≤ v → homes ≡ tabulate max_vertices (λ x. home_below l x (suc i))
        out c =
            h.made
            ∙ tabulate_cong max_vertices (λ x. home_below l x i) (λ x. home_below l x (suc i))
            (λ x bx. others_keep x (λ q. omega arith))

        by : (v < max_vertices) ⊎ (max_vertices ≤ v) → Dec (home_below l v i ≡ 0) → after ≡ tabulate max_vertices (λ x. home_below l x (suc i))
        by (inr c) d = is ∙ sym (home_past homes v g c) ∙ out c
        by (inl c) (no d) = is ∙ sym (home_kept homes v g c (λ z. d (sym (at c) ∙ z))) ∙ stays (sym (home_stays l v i d))
        by (inl c) (yes none) =
            is ∙ sym (home_noted homes v g c (at c ∙ none))
            ∙ ap (λ (t : List ℕ). set t v g) h.made
            ∙ set_table max_vertices (λ x. home_below l x i) (λ x. home_below l x (suc i)) v g
            (g_is ∙ sym (home_taken l v i none (sym v_is)))
            (λ x d. others_keep x d)

    pub housed_turn : Housed l (i + 1) after
    unfolding below above
    housed_turn = record { within = omega arith; made = rw (add-one i) after_is }

  pub housed_end : {i : ℕ} {homes : List ℕ} → Housed l i homes → length l.owners ≤ i → homes ≡ tabulate max_vertices (home l)
  unfolding home
  housed_end {i} h c =
      let w : i ≤ length l.owners = h.within in
      let e : i ≡ length l.owners = omega arith in
      h.made ∙ ap (λ (k : ℕ). tabulate max_vertices (λ v. home_below l v k)) e

  pub home_read : {homes : List ℕ} {v found : ℕ} → homes ≡ tabulate max_vertices (home l) → v < max_vertices → found ≡ get_or homes v 0 → found ≡ home l v
  home_read {homes} {v} h b is = is ∙ ap (λ t. get_or t v 0) h ∙ get_d_tabulate max_vertices (home l) v 0 b

-- The front of a room, as it is lent.
pub take_room : (n : ℕ) (f : ℕ → ℕ) → n ≤ max_vertices → take (n - 0) (room_of n f) ≡ tabulate n f
unfolding room_of
take_room n f fits =
    let room : List ℕ = tabulate max_vertices (λ v. counted (ltb v n) (f v)) in
    let long : n ≤ length room = rw (length_tabulate max_vertices (λ v. counted (ltb v n) (f v))) fits in
    let e : length (take n room) ≡ n = length-take-le n room long in
    rw (sub-zero n)
    (ext_get_or 0 (take n room) (tabulate n f) (e ∙ sym (length_tabulate n f))
    (λ k b.
    let c : k < n = omega arith in
    get_or-take n room k 0 c
    ∙ get_d_tabulate max_vertices (λ v. counted (ltb v n) (f v)) k 0 (omega arith)
    ∙ counted_true (lt-ltb k n c) (f k)
    ∙ sym (get_d_tabulate n f k 0 c)))

-- The poured groups, read from the buffer that pouring leaves.
pub take_poured : (l : Lists) → length l.groups ≤ max_vertices → take (length l.groups - 0) (room_of (length l.groups) (poured l)) ≡ poured_groups l
unfolding poured_groups poured
take_poured l fits = take_room (length l.groups) (poured l) fits

pub part_poured : (l : Lists) {room : List ℕ} → length l.groups ≤ max_vertices → room ≡ room_of (length l.groups) (poured l)
    → take (length l.groups - 0) room ≡ poured_groups l
part_poured l fits h = ap (take (length l.groups - 0)) h ∙ take_poured l fits
