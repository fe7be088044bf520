-- The two minima of source 003, section 4.2.1: the least slack of the edges between components with exactly one end active, and half the least of those with
-- both. Laws/Minima shows that the delay of a round is the smaller of them, or the only one that there is.
use Rattle.std.specs.Prelude.{ℕ, zero, suc, ◌/◌, ◌<◌, ◌≡◌, Bool, true, ◌&&◌, not, cond, eqb, ltb}
use Rattle.std.specs.Bool.{xor}
use Rattle.theory_steiner.specs.Problem.{Problem}
use Rattle.theory_steiner.specs.Growth.{State, active, slack, Delay, never, after, Winner, nobody, edge}

-- The delay of a round: that of its winner, if it has one.
unfoldable pub winner_delay : Winner → Delay
winner_delay nobody = never
winner_delay (edge e d) = after d

-- The smaller of two delays, or the only one that there is.
unfoldable pub smaller : Delay → Delay → Delay
smaller never y = y
smaller (after a) never = after a
smaller (after a) (after b) = after (cond (ltb b a) b a)

-- The least of f over the numbers below n that pass the test, if any does.
unfoldable pub least : (test : ℕ → Bool) (f : ℕ → ℕ) → (n : ℕ) → Delay
least test f zero = never
least test f (suc e) = smaller (least test f e) (cond (test e) (after (f e)) never)

-- d is f of one of them.
pub record Attained (test : ℕ → Bool) (f : ℕ → ℕ) (n d : ℕ) : Type 0 where
  pub at : ℕ
  pub below : at < n
  pub passes : test at ≡ true
  pub value : f at ≡ d

unfoldable pub halved : Delay → Delay
halved never = never
halved (after r) = after (r / 2)

-- An edge between two components; with exactly one of them active; with both.
unfoldable pub is_between : Problem → State → ℕ → Bool
is_between p s e = p.usable e && not (eqb (s.label (p.first e)) (s.label (p.second e)))

unfoldable pub has_one_active : Problem → State → ℕ → Bool
has_one_active p s e = is_between p s e && xor (active p s.label (s.label (p.first e))) (active p s.label (s.label (p.second e)))

unfoldable pub has_both_active : Problem → State → ℕ → Bool
has_both_active p s e = is_between p s e && (active p s.label (s.label (p.first e)) && active p s.label (s.label (p.second e)))

-- The first minimum, and the second before it is halved.
unfoldable pub least_one_active : Problem → State → Delay
least_one_active p s = least (has_one_active p s) (slack p s) p.edges

unfoldable pub least_both_active : Problem → State → Delay
least_both_active p s = least (has_both_active p s) (slack p s) p.edges
