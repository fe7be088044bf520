-- The lowest list whose members have two labels, and the memberships that a pass over the lists meets (document 02, No. 2: the unjoinable rule speaks of lists).
use Rattle.std.specs.Prelude.{ℕ, ◌+◌, ◌-◌, not, cond, List, length, ltb}
use Rattle.base_finite.specs.Below.{tabulate}
use Rattle.base_limits.specs.Limits.{group_numbers}
use Rattle.base_limits.specs.Verdict.{refuse_if, lowest_below}
use Rattle.base_limits.specs.declared.Verdict.{Verdict}
use Rattle.survey_core.specs.Lists.{Lists, own, owner, other}
use Rattle.survey_core.specs.Survey.{lists_alone, group_joined}

-- The lowest list that labels do not join.
abbrev pub split_list : Lists → (label : ℕ → ℕ) → (number : ℕ) → Verdict
split_list l label number =
    lowest_below group_numbers (λ g. refuse_if (not (group_joined (lists_alone l.groups l.owners l.others) label g)) number g)

-- The memberships one after the other, as a pass over them meets them: the own groups of the n vertices, then the pairs. A pair of no vertex is none.
unfoldable pub pair_group : Lists → (i : ℕ) → ℕ
pair_group l i = cond (ltb (owner l i) (length l.groups)) (other l i) 0

unfoldable pub entry_group : Lists → (j : ℕ) → ℕ
entry_group l j = cond (ltb j (length l.groups)) (own l j) (pair_group l (j - length l.groups))

unfoldable pub entry_vertex : Lists → (j : ℕ) → ℕ
entry_vertex l j = cond (ltb j (length l.groups)) j (owner l (j - length l.groups))

unfoldable pub entries : Lists → List ℕ
entries l = tabulate (length l.groups + length l.owners) (entry_group l)
