-- The arcs are linked one after the other, and what is stored fits.
use Prim.Native.Nat.{ℕ, zero, suc, ◌+◌, ◌*◌, ◌-◌, ◌≤◌, ◌<◌}
use native.Mathlib.Omega.{arith}
use Rattle.std.proofs.Math.Numerals.{add-one}
use Rattle.std.proofs.Math.Decide.{ℕ_discrete}
use Rattle.std.specs.Prelude.{◌≡◌, Bool, set, replicate}
use Rattle.std.proofs.Math.Path.{ap, sym, subst}
use Rattle.std.proofs.Common.{◌∙◌, ⊎_elim}
use Rattle.std.proofs.Math.Bool.{true, false, cond}
use mathlib.Core.List.{List}
use Rattle.std.proofs.Math.ListN.{length, get_or, get_or-replicate}
use Rattle.std.proofs.Math.Seq.{get_or-set_same, get_or-set_other}
use Rattle.std.proofs.Math.Dec.{eqb}
use borrow.Author.Tests.{eq-eqb, ne_eqb}
use Rattle.base_finite.specs.Laws.Below.{lt_or_ge}
use Rattle.base_limits.specs.Limits.{max_vertices}
use Rattle.survey_core.specs.Survey.{Survey}
use Rattle.survey_core.specs.Sound.{SurveySound}
use Rattle.floor_rule.specs.Ascent.{max_arcs, arc_count, tail_of, head_of}
use Rattle.floor_core.specs.Chain.{last_into, link_of, Ends, Chained}
use Rattle.floor_core.specs.Laws.Arcs.{tail_low, tail_high, head_low, head_high}

-- The ends of a survey that nothing is wrong with.
pub survey_ends : (s : Survey) → SurveySound s → Ends (length s.groups) s.firsts s.seconds
survey_ends s sound = record { few = sound.few; short = sound.edges_few; tails_below = tails; heads_below = heads }
  where
    firsts : List ℕ
    firsts = s.firsts

    seconds : List ℕ
    seconds = s.seconds

    n : ℕ
    n = length s.groups

    tails : (a : ℕ) → a < arc_count firsts → tail_of firsts seconds a < n
    tails a b =
        ⊎_elim
        (λ c. subst (λ x. x < n) (tail_low firsts seconds a c) (sound.edges a c).first_below_law)
        (λ c. subst (λ x. x < n) (tail_high firsts seconds a c) (sound.edges (a - length firsts) (omega arith)).second_below)
        (lt_or_ge a (length firsts))

    heads : (a : ℕ) → a < arc_count firsts → head_of firsts seconds a < n
    heads a b =
        ⊎_elim
        (λ c. subst (λ x. x < n) (head_low firsts seconds a c) (sound.edges a c).second_below)
        (λ c. subst (λ x. x < n) (head_high firsts seconds a c) (sound.edges (a - length firsts) (omega arith)).first_below_law)
        (lt_or_ge a (length firsts))

module _ (firsts seconds : List ℕ) where
  -- There is room for all vertices.
  pub ends_room : {n : ℕ} → Ends n firsts seconds → Ends max_vertices firsts seconds
  ends_room {n} ends =
      let few : n ≤ max_vertices = ends.few in
      record {
        few = omega arith;
        short = ends.short;
        tails_below = λ a b. omega (arith, few, ends.tails_below a b);
        heads_below = λ a b. omega (arith, few, ends.heads_below a b);
      }

  pub last_le : (v n : ℕ) → last_into firsts seconds v n ≤ n
  unfolding last_into
  last_le v zero = omega arith
  last_le v (suc a) = by (eqb (head_of firsts seconds a) v) (last_le v a)
    where
      by : (t : Bool) → last_into firsts seconds v a ≤ a → cond t (suc a) (last_into firsts seconds v a) ≤ suc a
      by true h = omega arith
      by false h = omega arith

  pub chained_none : {tops : List ℕ} (links : List ℕ) → tops ≡ replicate max_vertices 0 → Chained firsts seconds 0 tops links
  unfolding last_into
  chained_none links tops_are =
      record {
        tops_are = λ v b. ap (λ (l : List ℕ). get_or l v 0) tops_are ∙ get_or-replicate max_vertices v 0 0 b;
        links_are = λ a b. absurd (omega arith);
      }

  pub chained_end : (n a : ℕ) {tops links : List ℕ} → a ≤ n → n ≤ a → n ≡ arc_count firsts → Chained firsts seconds a tops links → Chained firsts seconds (arc_count firsts) tops links
  chained_end n a {tops} {links} b c n_is h = let e : a ≡ arc_count firsts = omega (arith, n_is) in subst (λ i. Chained firsts seconds i tops links) e h

  module _ (a : ℕ) (tops links : List ℕ) (chained : Chained firsts seconds a tops links) {head before : ℕ} (head_is : head ≡ head_of firsts seconds a)
      (before_is : before ≡ get_or tops head 0) (ends : Ends max_vertices firsts seconds) (below : a < arc_count firsts) where
    head_below : head < max_vertices
    head_below = omega (arith, head_is, ends.heads_below a below)

    before_last : before ≡ last_into firsts seconds (head_of firsts seconds a) a
    before_last = before_is ∙ chained.tops_are head head_below ∙ ap (λ v. last_into firsts seconds v a) head_is

    pub before_le : before ≤ a
    before_le = omega (arith, before_last, last_le (head_of firsts seconds a) a)

    module _ (tops_long : length tops ≡ max_vertices) (links_long : length links ≡ max_arcs) {tail : ℕ} (tail_is : tail ≡ tail_of firsts seconds a) {tops_after links_after : List ℕ}
        (links_set : links_after ≡ set links a (tail + 512 * before)) (tops_set : tops_after ≡ set tops head (a + 1)) where
      top_after : (v : ℕ) → v < max_vertices → Dec (v ≡ head) → get_or tops_after v 0 ≡ last_into firsts seconds v (suc a)
      unfolding last_into
      top_after v b (yes same) =
          let low : head < length tops = omega (arith, tops_long, head_below) in
          let here : eqb (head_of firsts seconds a) v ≡ true = eq-eqb (head_of firsts seconds a) v (sym head_is ∙ sym same) in
          rw here (ap (λ (l : List ℕ). get_or l v 0) tops_set ∙ ap (λ u. get_or (set tops head (a + 1)) u 0) same ∙ get_or-set_same tops head (a + 1) 0 low ∙ add-one a)
      top_after v b (no other) =
          let there : eqb (head_of firsts seconds a) v ≡ false = ne_eqb (head_of firsts seconds a) v (λ e. other (sym (head_is ∙ e))) in
          rw there (ap (λ (l : List ℕ). get_or l v 0) tops_set ∙ get_or-set_other tops head v (a + 1) 0 other ∙ chained.tops_are v b)

      link_after : (b : ℕ) → b < a + 1 → Dec (b ≡ a) → get_or links_after b 0 ≡ link_of firsts seconds b
      unfolding link_of
      link_after b c (yes same) =
          let low : a < length links = omega (arith, links_long, below, ends.short) in
          let x : tail + 512 * before ≡ tail_of firsts seconds a + 512 * last_into firsts seconds (head_of firsts seconds a) a = ap (λ t. t + 512 * before) tail_is ∙ ap (λ t. tail_of firsts seconds a + 512 * t) before_last in
          subst (λ d. get_or links_after d 0 ≡ tail_of firsts seconds d + 512 * last_into firsts seconds (head_of firsts seconds d) d) (sym same)
          (ap (λ (l : List ℕ). get_or l a 0) links_set ∙ get_or-set_same links a (tail + 512 * before) 0 low ∙ x)
      link_after b c (no other) = ap (λ (l : List ℕ). get_or l b 0) links_set ∙ get_or-set_other links a b (tail + 512 * before) 0 other ∙ chained.links_are b (omega arith)

      -- One arc more.
      pub chained_more : Chained firsts seconds (a + 1) tops_after links_after
      chained_more =
          record {
            tops_are = λ v b. top_after v b (ℕ_discrete v head) ∙ ap (last_into firsts seconds v) (sym (add-one a));
            links_are = λ b c. link_after b c (ℕ_discrete b a);
          }
