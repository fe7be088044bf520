-- A vertex whose cut has the root inside keeps it there: rests never rise, so what leads to it leads to it ever after.
use Rattle.std.specs.Prelude.{ℕ, ◌-◌, ◌≤◌, ◌<◌, ◌≡◌, Option, Some, None, true, List, length, get_or, set, replicate}
use Rattle.std.proofs.Common.{arith, ap, sym, ◌∙◌, subst, get_or-set_other}
use Rattle.std.proofs.Math.Decide.{ℕ_discrete}
use Rattle.std.proofs.Math.Logic.{⊎_elim}
use Rattle.std.proofs.lemmas.List.{get_or-replicate}
use Rattle.std.proofs.Math.ListN.{get_or-eq_default}
use Rattle.base_finite.specs.Below.{counted}
use Rattle.base_finite.specs.Laws.Below.{lt_or_ge}
use Rattle.base_buffer.proofs.Laws.Store.{remade_passed}
use Rattle.base_limits.specs.Limits.{max_vertices}
use Rattle.floor_rule.specs.Ascent.{arc_count, flagged, enters_at, reaching, loaded}
use Rattle.floor_rule.proofs.Laws.Cut.{length_loaded}
use Rattle.floor_core.specs.Chain.{Ends, CutRaised}
use Rattle.floor_core.specs.Done.{Done}
use Rattle.floor_core.specs.Laws.Reach.{Leads, here, along, reaching_iff}

module _ (firsts seconds : List ℕ) where
  -- An arc without rest stays without.
  loaded_bare : (flags : List ℕ) (d : ℕ) (rests : List ℕ) (a : ℕ) → a < arc_count firsts → get_or rests a 0 ≡ 0 → get_or (loaded firsts seconds flags d rests) a 0 ≡ 0
  unfolding loaded
  loaded_bare flags d rests a c none =
      ⊎_elim
      (λ b. omega (arith, remade_passed (λ i rest. rest - counted (enters_at firsts seconds flags i) d) (arc_count firsts) rests a c b, none))
      (λ b. get_or-eq_default (loaded firsts seconds flags d rests) 0 {n = a} (omega (arith, b, length_loaded firsts seconds flags d rests)))
      (lt_or_ge a (length rests))

  leads_still : (rests after : List ℕ) → ((a : ℕ) → a < arc_count firsts → get_or rests a 0 ≡ 0 → get_or after a 0 ≡ 0) → (t : ℕ) {v : ℕ} → Leads firsts seconds rests t v → Leads firsts seconds after t v
  leads_still rests after bare t here = here
  leads_still rests after bare t (along a b none same rest) = along a b (bare a b none) same (leads_still rests after bare t rest)

  module _ (n root : ℕ) where
    pub none_done : (rests : List ℕ) {done : List ℕ} → n ≤ max_vertices → done ≡ replicate max_vertices 0 → Done firsts seconds n root rests done
    none_done rests few done_is =
        record {
          root_inside = λ v b some. absurd (some (ap (λ (l : List ℕ). get_or l v 0) done_is ∙ get_or-replicate max_vertices v 0 0 (omega arith)));
        }

    -- One vertex more, whose cut has the root inside.
    done_more : (v : ℕ) (rests done : List ℕ) {next : List ℕ} → Done firsts seconds n root rests done → flagged (reaching firsts seconds rests n v) root ≡ true → next ≡ set done v 1
        → Done firsts seconds n root rests next
    done_more v rests done {next} h inside next_is = record { root_inside = λ u b some. by u b some (ℕ_discrete u v) }
      where
        by : (u : ℕ) → u < n → (get_or next u 0 ≡ 0 → ⊥) → Dec (u ≡ v) → flagged (reaching firsts seconds rests n u) root ≡ true
        by u b some (yes same) = subst (λ w. flagged (reaching firsts seconds rests n w) root ≡ true) (sym same) inside
        by u b some (no other) = h.root_inside u b (λ z. some (ap (λ (l : List ℕ). get_or l u 0) next_is ∙ get_or-set_other done v u 1 0 other ∙ z))

    -- A cut changes nothing about it.
    done_loaded : Ends n firsts seconds → (flags : List ℕ) (d : ℕ) (rests done : List ℕ) {after : List ℕ} → after ≡ loaded firsts seconds flags d rests
        → Done firsts seconds n root rests done → Done firsts seconds n root after done
    done_loaded ends flags d rests done {after} after_is h =
        record {
          root_inside = λ v b some.
              (reaching_iff firsts seconds after n ends.few ends.tails_below v b root).1
              (leads_still rests after (λ a c none. ap (λ (l : List ℕ). get_or l a 0) after_is ∙ loaded_bare flags d rests a c none) v
              ((reaching_iff firsts seconds rests n ends.few ends.tails_below v b root).0 (h.root_inside v b some)));
        }

    -- After a visit.
    module _ (v : ℕ) {cap : ℕ} {raised : Option ℕ} (rests done : List ℕ) {after : List ℕ} (cut : CutRaised firsts seconds n root v cap rests after raised) (h : Done firsts seconds n root rests done) where
      pub done_inside : {next : List ℕ} → raised ≡ None → next ≡ set done v 1 → Done firsts seconds n root after next
      done_inside {next} told next_is =
          subst (λ (r : List ℕ). Done firsts seconds n root r next) (sym (cut.root_inside told).1) (done_more v rests done h (cut.root_inside told).0 next_is)

      pub done_raised : Ends n firsts seconds → {by : ℕ} → raised ≡ Some by → Done firsts seconds n root after done
      done_raised ends {by} told = done_loaded ends (reaching firsts seconds rests n v) by rests done (cut.root_outside by told).2 h
