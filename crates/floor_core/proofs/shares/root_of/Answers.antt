-- `root_of` meets its contract: the first member, or the number of vertices.
use Prim.Native.Nat.{ℕ, zero, suc, ◌+◌, ◌≤◌, ◌<◌}
use native.Mathlib.Omega.{arith}
use mathlib.Core.Path.{◌≡◌, refl, ap, sym, ◌∙◌}
use mathlib.Core.List.{List}
use Rattle.std.proofs.Common.{cond, length, get_or, take, eqb, true, false, rules}
use Rattle.std.proofs.Math.Decide.{ℕ_discrete}
use Rattle.std.proofs.Math.Seq.{take-suc, take-length}
use Rattle.std.proofs.lemmas.List.{length-take-le}
use Rattle.std.proofs.lemmas.List.Folds.{position_or_len_push}
use Rattle.std.proofs.lemmas.List.Sums.{position_or_len_is}
use Rattle.std.specs.List.{position_or_len}
use borrow.Author.Tests.{eq-eqb, ne_eqb}
use Rattle.floor_rule.specs.Ascent.{lowest_in}
use Rattle.floor_core.specs.Laws.Shares.{lowest_stays, lowest_found, lowest_past}
use Rattle.floor_core.proofs.shares.root_of.Goals as goal

module _ (groups : List ℕ) (l : ℕ) where
  more : (v : ℕ) {low : ℕ} → low ≡ lowest_in groups l v → Dec (low ≡ v) → Dec (get_or groups v 0 ≡ l) → cond (eqb low v) (v + cond (eqb (get_or groups v 0) l) 0 1) low ≡ lowest_in groups l (suc v)
  more v {low} low_is (no e) m = rw (ne_eqb low v e) (lowest_stays groups l v low_is e)
  more v {low} low_is (yes e) (yes m) = rw (eq-eqb low v e, eq-eqb (get_or groups v 0) l m) (let same : v + 0 ≡ low = omega arith in same ∙ lowest_found groups l v low_is e refl m)
  more v {low} low_is (yes e) (no m) = rw (eq-eqb low v e, ne_eqb (get_or groups v 0) l m) (lowest_past groups l v low_is e refl m)

  -- the lowest of the first v vertices that is a member
  first : (v : ℕ) → v ≤ length groups → position_or_len (λ x. eqb x l) (take v groups) ≡ lowest_in groups l v
  unfolding lowest_in
  first zero b = refl
  first (suc v) b =
      let low = position_or_len (λ x. eqb x l) (take v groups) in
      let long : length (take v groups) ≡ v = length-take-le v groups (omega arith) in
      ap (position_or_len (λ x. eqb x l)) (take-suc groups v 0 (omega arith))
      ∙ position_or_len_push (λ x. eqb x l) (take v groups) (get_or groups v 0)
      ∙ rw long (more v (first v (omega arith)) (ℕ_discrete low v) (ℕ_discrete (get_or groups v 0) l))

  whole : {r : ℕ} → r ≤ length groups → ((k : ℕ) → k < r → eqb (get_or groups k 0) l ≡ false) → (r < length groups → eqb (get_or groups r 0) l ≡ true) → r ≡ lowest_in groups l (length groups)
  whole {r} within before member =
      sym (position_or_len_is (λ x. eqb x l) groups r 0 within before member)
      ∙ ap (position_or_len (λ x. eqb x l)) (sym (take-length groups)) ∙ first (length groups) (omega arith)

pub returns : goal.returns
returns c = whole c.args.groups.now c.args.l (search rules) (search rules) (search rules)
