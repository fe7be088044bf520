-- What the code reads, read by read, is what the definitions say.
use Rattle.std.specs.Prelude.{ℕ, ◌≡◌, refl, Bool, List, get_or, eqb, None}
use Rattle.std.proofs.Common.{ap, ◌∙◌, eq-eqb, ne_eqb}
use Rattle.std.proofs.Math.Path.{sym}
use Rattle.theory_steiner.specs.Growth.{Delay, active_ends, delay_for, delay_of, Winner, better}
use Rattle.plan_search.specs.declared.delay.ActiveEnds.{ActiveEnds as CodeEnds}
use Rattle.plan_search.specs.declared.delay.End.{End}
use Rattle.plan_search.specs.Held.{settled_by}
use Rattle.plan_search.specs.Between.{delay_in, ends_in, vertex_end, slack_between, delay_between}

pub end_read : (labels loads flags : List ℕ) (time v : ℕ) {label c flag held load : ℕ} → label ≡ get_or labels v 0 → c ≡ label → flag ≡ get_or flags c 0
    → held ≡ get_or loads v 0 → load ≡ settled_by time (eqb flag 1) held → record { label = label; flag = flag; load = load } ≡ vertex_end labels loads flags time v
unfolding vertex_end
end_read labels loads flags time v Label_is c_is flag_is held_is load_is = rw (load_is, held_is, flag_is, c_is, Label_is)

-- What never comes is no better.
pub better_never : (best : Winner) (e : ℕ) → better best e (delay_in None) ≡ best
unfolding better delay_in
better_never best e = refl

-- Between two ends.
module _ (a b : End) (w : ℕ) where
  -- Inside a component the best stays.
  pub better_inside : (best : Winner) (e : ℕ) → a.label ≡ b.label → best ≡ better best e (delay_between a b w)
  unfolding delay_between better
  better_inside best e h = rw (eq-eqb a.label b.label h)

  pub delay_apart : {s : ℕ} {d : Delay} → (a.label ≡ b.label → ⊥) → s ≡ slack_between a b w → d ≡ delay_of (eqb a.flag 1) (eqb b.flag 1) s
      → d ≡ delay_between a b w
  unfolding delay_between
  delay_apart apart s_is h = rw (ne_eqb a.label b.label apart, sym s_is) h

-- The delay is that of the case that the code found.
pub delay_case : (x y : Bool) (slack : ℕ) {r e : CodeEnds} → ends_in r ≡ active_ends x y → r ≡ e → delay_of x y slack ≡ delay_for (ends_in e) slack
unfolding delay_of
delay_case x y slack h k = ap (λ a. delay_for a slack) (sym h ∙ ap ends_in k)
