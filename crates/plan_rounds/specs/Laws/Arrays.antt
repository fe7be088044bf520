-- The arrays that a round leaves, by what its calls leave. `round` cites it.
use Rattle.std.specs.Prelude.{◌≡◌, ℕ, ◌+◌, ◌%◌, ◌^◌, List, slice_index}
use Rattle.std.proofs.Math.Path.{ap, sym}
use Rattle.std.proofs.Common.{◌∙◌}
use Rattle.base_finite.specs.Below.{counted}
use Rattle.plan_search.specs.Between.{winner_in}
use Rattle.plan_search.specs.declared.delay.Winner.{Winner}
use Rattle.std.specs.Prelude.{Option, Some, None}
use Rattle.plan_search.specs.Tables.{Tables}
use Rattle.plan_wake.specs.Wake.{KeyNotes, notes_from, woken_by}
use Rattle.plan_active.specs.Flags.{joined_active, relabelled_first, merged_flags}
use Rattle.plan_rounds.specs.Tables.{settled_at, turned_to}
use Rattle.plan_rounds.specs.Round.{round_arrays_from, search_by, round_by}

module _ (t : Tables) (mates members : List ℕ) (count n z time : ℕ) (values keys floors : List ℕ) {x : Option Winner} (found : winner_in x ≡ (search_by t time keys floors).scanned.best)
    {searched lowered : List ℕ} (k : searched ≡ (search_by t time keys floors).scanned.keys) (l : lowered ≡ (search_by t time keys floors).floors) where
  -- No winner: keys and floors alone.
  pub arrays_over : x ≡ None
      → (winner_in None ≡ (search_by t time keys floors).scanned.best)
      × (round_arrays_from t.labels t.loads values searched lowered t.flags
      ≡ round_by t mates members count n z time values (search_by t time keys floors) (search_by t time keys floors).scanned.best)
  unfolding winner_in round_by
  arrays_over q =
      let none = sym found ∙ ap winner_in q in
      (sym none, rw (none, k, l))

  -- Edge e has won.
  pub arrays_won : {e d later u v : ℕ} {labels loads settled flags woken_keys woken_floors : List ℕ} → x ≡ Some (record { e = e; d = d })
      → notes_from woken_keys woken_floors ≡ woken_by t time n e (notes_from searched lowered)
      → u ≡ slice_index t.firsts e
      → v ≡ slice_index t.seconds e
      → later ≡ (time + d) % 2 ^ 64
      → (labels ≡ relabelled_first n (slice_index t.labels u) (slice_index t.labels v) z t.labels)
      × (flags ≡ merged_flags (slice_index t.labels u) (slice_index t.labels v) z (counted (joined_active mates t.labels members count u v) 1) t.flags)
      → settled ≡ settled_at flags later z (settled_at t.flags later (slice_index t.labels v) (settled_at t.flags later (slice_index t.labels u) values))
      → loads ≡ turned_to (counted (joined_active mates t.labels members count u v) 1) t.flags t.labels n later (slice_index t.labels v)
      (turned_to (counted (joined_active mates t.labels members count u v) 1) t.flags t.labels n later (slice_index t.labels u) t.loads)
      → (winner_in (Some (record { e = e; d = d })) ≡ (search_by t time keys floors).scanned.best)
      × (round_arrays_from labels loads settled woken_keys woken_floors flags
      ≡ round_by t mates members count n z time values (search_by t time keys floors) (search_by t time keys floors).scanned.best)
  unfolding winner_in round_by
  arrays_won q woken u_is v_is later_is made settled_made loads_made =
      let won = sym found ∙ ap winner_in q in
      let notes = rw (k, l) at woken in (
        sym won,
        rw (won, ap (λ (w : KeyNotes). w.keys) notes, ap (λ (w : KeyNotes). w.floors) notes, settled_made, loads_made, made.0, made.1, u_is, v_is, later_is),
      )
