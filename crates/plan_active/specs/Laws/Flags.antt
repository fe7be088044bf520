-- The flags are 1 exactly at the active component numbers (001, Lemma 22.2, read for groups).
use Prim.Native.Nat.{ℕ, suc, ◌+◌, ◌≤◌}
use Rattle.std.proofs.Common.{arith, sym, ◌∙◌, inl, inr, eq-eqb, ne_eqb}
use Rattle.std.proofs.Math.Numerals.{add-one}
use Rattle.std.specs.Prelude.{◌≡◌, ◌⊎◌, Bool, true, false, ◌&&◌, ◌||◌, cond, [], List, set, eqb}
use Rattle.std.proofs.Math.Path.{refl, ap}
use Rattle.std.proofs.Math.Bool.{or-false}
use Rattle.std.proofs.Math.ListN.{get_or}
use Rattle.base_finite.specs.Below.{counted, any_below, tabulate}
use Rattle.base_finite.specs.Laws.Below.{counted_true}
use Rattle.base_finite.specs.Laws.Test.{either, and_both, or_right}
use Rattle.base_limits.specs.Limits.{max_duals}
use Rattle.theory_steiner.specs.Growth.{active}
use Rattle.survey_core.specs.Survey.{Survey, vertex_count, problem_of}
use Rattle.survey_groups.specs.Spread.{split}
use Rattle.survey_groups.specs.Laws.Spread.{active_split}
use Rattle.base_buffer.proofs.Laws.Store.{tabulate_cong, set_table}
use Rattle.plan_active.specs.Flags.{flagged}

-- A vertex below v makes component c active.
unfoldable pub active_below : Survey → (label : ℕ → ℕ) → (v c : ℕ) → Bool
active_below s label v c = any_below v (λ u. eqb (label u) c && split s label (get_or s.groups u 0))

module _ (s : Survey) (label : ℕ → ℕ) where
  active_suc : (v c : ℕ) → active_below s label (suc v) c ≡ (active_below s label v c || (eqb (label v) c && split s label (get_or s.groups v 0)))
  unfolding active_below any_below
  active_suc v c = refl

  pub flags_none : tabulate max_duals (λ c. 0) ≡ tabulate max_duals (λ c. counted (active_below s label 0 c) 1)
  unfolding active_below any_below counted
  flags_none = refl

  pub flags_end : (n v : ℕ) → v ≤ n → n ≤ v → tabulate max_duals (λ c. counted (active_below s label v c) 1) ≡ tabulate max_duals (λ c. counted (active_below s label n c) 1)
  flags_end n v b c = let e : v ≡ n = omega arith in rw e

  -- One more vertex, as a call leaves the flags.
  pub flags_step : (v : ℕ) {flags after : List ℕ} (summary l : ℕ)
      → flags ≡ tabulate max_duals (λ c. counted (active_below s label v c) 1)
      → after ≡ flagged flags summary l
      → eqb summary 1 ≡ split s label (get_or s.groups v 0)
      → l ≡ label v
      → after ≡ tabulate max_duals (λ c. counted (active_below s label (v + 1) c) 1)
  unfolding flagged
  flags_step v {flags} {after} summary l h a e f = a ∙ rw (e, f, h, add-one v) (by (either (split s label (get_or s.groups v 0))))
    where
      g : ℕ
      g = get_or s.groups v 0

      stays : (c : ℕ) → (eqb (label v) c && split s label g) ≡ false → active_below s label v c ≡ active_below s label (suc v) c
      stays c k = sym (active_suc v c ∙ ap (λ x. active_below s label v c || x) k ∙ or-false (active_below s label v c))

      by : (split s label g ≡ true) ⊎ (split s label g ≡ false)
          → cond (split s label g) (set (tabulate max_duals (λ c. counted (active_below s label v c) 1)) (label v) 1) (tabulate max_duals (λ c. counted (active_below s label v c) 1))
          ≡ tabulate max_duals (λ c. counted (active_below s label (suc v) c) 1)
      by (inl k) =
          rw
          k
          (set_table
          max_duals
          (λ c. counted (active_below s label v c) 1)
          (λ c. counted (active_below s label (suc v) c) 1)
          (label v)
          1
          (sym
          (counted_true
          (active_suc v (label v)
          ∙ or_right
          (active_below s label v (label v))
          (eqb (label v) (label v) && split s label g)
          (and_both (eqb (label v) (label v)) (split s label g) (eq-eqb (label v) (label v) refl) k))
          1))
          (λ c d. ap (λ x. counted x 1) (stays c (rw (ne_eqb (label v) c (λ q. d (sym q)))))))
      by (inr k) =
          rw
          k
          (tabulate_cong
          max_duals
          (λ c. counted (active_below s label v c) 1)
          (λ c. counted (active_below s label (suc v) c) 1)
          (λ c _. ap (λ x. counted x 1) (stays c (no_and (eqb (label v) c) (split s label g) k))))
        where
          no_and : (x y : Bool) → y ≡ false → (x && y) ≡ false
          no_and true y q = q
          no_and false y q = refl

  pub flags_active : s.owners ≡ [] → tabulate max_duals (λ c. counted (active_below s label (vertex_count s) c) 1) ≡ tabulate max_duals (λ c. counted (active (problem_of s) label c) 1)
  unfolding active_below
  flags_active plain =
      tabulate_cong
      max_duals
      (λ c. counted (active_below s label (vertex_count s) c) 1)
      (λ c. counted (active (problem_of s) label c) 1)
      (λ c _. ap (λ x. counted x 1) (sym (active_split s plain label c)))
