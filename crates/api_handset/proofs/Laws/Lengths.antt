-- What the six lengths are refused for is what the call is refused for; where nothing is wrong with them, the slices spell even counts.
use Rattle.std.specs.Prelude.{ℕ, ◌/◌, ◌≤◌, ◌<◌, ◌≡◌, Bool, ◌&&◌, ◌||◌}
use Rattle.std.proofs.Math.Path.{refl, sym}
use Rattle.std.proofs.Common.{◌∙◌}
use Rattle.std.proofs.Math.Bool.{true, false, not}
use Rattle.std.proofs.Math.ListN.{length}
use Rattle.std.proofs.Math.Dec.{eqb}
use borrow.Author.Tests.{ltb-false, eqb-true, eq-eqb, ne_eqb, lt-ltb, le-ltb}
use Rattle.base_finite.specs.Laws.Test.{and_left, and_right, or_false_left, or_false_right}
use Rattle.base_limits.specs.Limits.{max_vertices, max_edges}
use Rattle.base_limits.specs.Verdict.{refuse_if, ◌before◌}
use Rattle.base_limits.specs.declared.Verdict.{Verdict}
use Rattle.base_limits.specs.declared.Verdict.TheVariants.{Fine, Refused}
use Rattle.base_limits.specs.Laws.Verdict.{before_refused, before_fine, before_assoc, fine_left, fine_right, fine_refuse, no_refusal}
use Rattle.survey_core.specs.Survey.{vertex_count, edge_count}
use Rattle.survey_core.specs.Refusal.{survey_refusal}
use Rattle.api_handset.specs.Words.{word_bytes}
use Rattle.api_handset.specs.Slices.{Slices, survey_spelled, size_refusal, is_ragged, any_ragged, are_uneven, lengths_refusal, ragged_refusal}
use Rattle.api_handset.proofs.Laws.Words.{length_words}

-- Refused for the six lengths.
abbrev pub slices_refusal : Slices → Verdict
slices_refusal b =
    lengths_refusal (length b.groups) (length b.firsts) (length b.seconds) (length b.weights) (length b.owners) (length b.others)

-- The survey's first tests find what the lengths alone are refused for.
absorbed : (one odd : Verdict) (u w : Bool) (three rest : Verdict) {number place : ℕ}
    → (one before odd before refuse_if (u || w) 2 0 before three) ≡ Refused number place
    → ((one before odd) before one before refuse_if u 2 0 before refuse_if w 2 0 before three before rest) ≡ Refused number place
unfolding ◌before◌ refuse_if
absorbed (Refused a b) odd u w three rest h = h
absorbed Fine (Refused a b) u w three rest h = h
absorbed Fine Fine true w three rest h = h
absorbed Fine Fine false true three rest h = h
absorbed Fine Fine false false (Refused a b) rest h = h
absorbed Fine Fine false false Fine rest h = absurd (no_refusal h refl)

module _ (b : Slices) where
  pub lengths_refused : {number place : ℕ} → slices_refusal b ≡ Refused number place → (w : Verdict)
      → (ragged_refusal b before survey_refusal (survey_spelled b) before w) ≡ Refused number place
  unfolding survey_refusal survey_spelled vertex_count edge_count size_refusal ragged_refusal lengths_refusal are_uneven
  lengths_refused h w =
      sym (before_assoc (ragged_refusal b) (survey_refusal (survey_spelled b)) w)
      ∙ before_refused
      (rw (length_words b.firsts, length_words b.seconds, length_words b.weights, length_words b.owners)
      (absorbed (size_refusal (length b.groups)) _ _ _ _ _ h))
      w

  -- What no refusal leaves of the lengths.
  pub record Even : Type 0 where
    pub seconds_even : length b.firsts / word_bytes ≡ length b.seconds / word_bytes
    pub weights_even : length b.firsts / word_bytes ≡ length b.weights / word_bytes
    pub pairs_even : length b.owners / word_bytes ≡ length b.others
    pub edges_few : length b.firsts / word_bytes ≤ max_edges

  pub lengths_even : slices_refusal b ≡ Fine → Even
  unfolding lengths_refusal are_uneven
  lengths_even h =
      let rest = fine_right _ _ (fine_right _ _ h) in
      let f = length b.firsts / word_bytes in
      let s = length b.seconds / word_bytes in
      let w = length b.weights / word_bytes in
      let o = length b.owners / word_bytes in
      let even = fine_refuse (not (eqb f s && eqb f w) || not (eqb o (length b.others))) 2 0 (fine_left _ _ rest) in
      let tracks = not_false (eqb f s && eqb f w) (or_false_left _ _ even) in
      record {
        seconds_even = eqb-true f s (and_left _ _ tracks);
        weights_even = eqb-true f w (and_right (eqb f s) _ tracks);
        pairs_even = eqb-true o (length b.others) (not_false _ (or_false_right (not (eqb f s && eqb f w)) _ even));
        edges_few = ltb-false max_edges f (fine_refuse _ 3 0 (fine_right _ _ rest));
      }
    where
      not_false : (t : Bool) → not t ≡ false → t ≡ true
      not_false true h = refl
      not_false false h = sym h

  pub lengths_whole : slices_refusal b ≡ Fine → ragged_refusal b ≡ Fine
  unfolding lengths_refusal ragged_refusal
  lengths_whole h = before_fine (fine_left _ _ h) _ ∙ fine_left _ _ (fine_right (size_refusal (length b.groups)) _ h)

-- ---- the tests of lengths, one case after the other

module _ (firsts seconds weights owners : ℕ) where
  pub ragged_firsts : is_ragged firsts ≡ true → true ≡ any_ragged firsts seconds weights owners
  unfolding any_ragged
  ragged_firsts h = rw h

  module _ (a : is_ragged firsts ≡ false) where
    pub ragged_seconds : is_ragged seconds ≡ true → true ≡ any_ragged firsts seconds weights owners
    unfolding any_ragged
    ragged_seconds h = rw (a, h)

    module _ (b : is_ragged seconds ≡ false) where
      pub ragged_weights : is_ragged weights ≡ true → true ≡ any_ragged firsts seconds weights owners
      unfolding any_ragged
      ragged_weights h = rw (a, b, h)

      pub ragged_owners : is_ragged weights ≡ false → is_ragged owners ≡ any_ragged firsts seconds weights owners
      unfolding any_ragged
      ragged_owners h = rw (a, b, h)

  module _ (others : ℕ) where
    pub uneven_seconds : (firsts / word_bytes ≡ seconds / word_bytes → ⊥) → true ≡ are_uneven firsts seconds weights owners others
    unfolding are_uneven
    uneven_seconds h = rw (ne_eqb (firsts / word_bytes) (seconds / word_bytes) h)

    module _ (a : firsts / word_bytes ≡ seconds / word_bytes) where
      pub uneven_weights : (firsts / word_bytes ≡ weights / word_bytes → ⊥) → true ≡ are_uneven firsts seconds weights owners others
      unfolding are_uneven
      uneven_weights h = rw (eq-eqb (firsts / word_bytes) (seconds / word_bytes) a, ne_eqb (firsts / word_bytes) (weights / word_bytes) h)

      pub uneven_pairs : firsts / word_bytes ≡ weights / word_bytes → not (eqb (owners / word_bytes) others) ≡ are_uneven firsts seconds weights owners others
      unfolding are_uneven
      uneven_pairs h = rw (eq-eqb (firsts / word_bytes) (seconds / word_bytes) a, eq-eqb (firsts / word_bytes) (weights / word_bytes) h)

    module _ (groups : ℕ) where
      abbrev pub found : Verdict
      found = lengths_refusal groups firsts seconds weights owners others

      pub size_none : groups ≡ 0 → Refused 1 0 ≡ found
      unfolding lengths_refusal size_refusal refuse_if ◌before◌
      size_none h = rw (eq-eqb groups 0 h)

      module _ (some : groups ≡ 0 → ⊥) where
        pub size_many : max_vertices < groups → Refused 1 0 ≡ found
        unfolding lengths_refusal size_refusal refuse_if ◌before◌
        size_many h = rw (ne_eqb groups 0 some, lt-ltb max_vertices groups h)

        module _ (few : groups ≤ max_vertices) where
          pub found_ragged : any_ragged firsts seconds weights owners ≡ true → Refused 2 0 ≡ found
          unfolding lengths_refusal size_refusal refuse_if ◌before◌
          found_ragged h = rw (ne_eqb groups 0 some, le-ltb max_vertices groups few, h)

          module _ (clean : any_ragged firsts seconds weights owners ≡ false) where
            pub found_uneven : are_uneven firsts seconds weights owners others ≡ true → Refused 2 0 ≡ found
            unfolding lengths_refusal size_refusal refuse_if ◌before◌
            found_uneven h = rw (ne_eqb groups 0 some, le-ltb max_vertices groups few, clean, h)

            module _ (even : are_uneven firsts seconds weights owners others ≡ false) where
              pub found_many : max_edges < firsts / word_bytes → Refused 3 0 ≡ found
              unfolding lengths_refusal size_refusal refuse_if ◌before◌
              found_many h =
                  rw (ne_eqb groups 0 some, le-ltb max_vertices groups few, clean, even, lt-ltb max_edges (firsts / word_bytes) h)

              pub found_none : firsts / word_bytes ≤ max_edges → Fine ≡ found
              unfolding lengths_refusal size_refusal refuse_if ◌before◌
              found_none h =
                  rw (ne_eqb groups 0 some, le-ltb max_vertices groups few, clean, even, le-ltb max_edges (firsts / word_bytes) h)
