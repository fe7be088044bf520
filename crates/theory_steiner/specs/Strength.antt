-- Groups that carry a strength, and copies of edges that meet it (document 02, No. 13: 'Winter rules'; source 003, section 3.3: requirements above one, met
-- by several copies of an edge, each at the same cost).
use Rattle.std.specs.Prelude.{ℕ, ◌*◌, ◌-◌, ◌/◌, ◌%◌, ◌^◌, ◌≤◌, ◌<◌, ◌≡◌, Bool, true, false, ◌&&◌, eqb}
use Rattle.base_finite.specs.Below.{counted, sum_below, any_below}
use Rattle.theory_graph.specs.Path.{crosses}
use Rattle.theory_steiner.specs.Problem.{Problem}
use Rattle.theory_steiner.specs.Pruning.{kept}
use Rattle.theory_steiner.specs.Requirement.{requiring}

-- Groups, numbered below a count: who is a member, and the strength of each.
pub record Strengths : Type 0 where
  pub groups : ℕ
  pub member : (g v : ℕ) → Bool
  pub strength : ℕ → ℕ

-- p requires any two members of a group to be linked.
abbrev pub RequiresGroups : Problem → Strengths → Type 0
RequiresGroups p s =
    (g u v : ℕ) → g < s.groups → u < p.vertices → v < p.vertices → s.member g u ≡ true → s.member g v ≡ true → p.required u v ≡ true

-- ---- copies: x e of edge e

-- How many of them cross a cut.
unfoldable pub crossings : Problem → (x : ℕ → ℕ) → (ℕ → Bool) → ℕ
crossings p x S = sum_below p.edges (λ e. counted (crosses p.first p.second S e) (x e))

-- Their price, in full for each.
unfoldable pub copies_cost : Problem → (x : ℕ → ℕ) → ℕ
copies_cost p x = sum_below p.edges (λ e. x e * p.weight e)

-- Usable edges alone are copied.
abbrev pub CopiesUsable : Problem → (x : ℕ → ℕ) → Type 0
CopiesUsable p x = (e : ℕ) → e < p.edges → p.usable e ≡ false → x e ≡ 0

-- They meet the strengths: a division S of the vertices with members of a group on both sides is crossed by as many as the group's strength.
abbrev pub MeetsStrengths : Problem → Strengths → (x : ℕ → ℕ) → Type 0
MeetsStrengths p s x =
    (S : ℕ → Bool) (g u v : ℕ) → g < s.groups → u < p.vertices → v < p.vertices → s.member g u ≡ true → s.member g v ≡ true
    → S u ≡ true → S v ≡ false → s.strength g ≤ crossings p x S

-- The accuracy rule for copies that cost c, with k terminals: k times c is at most `bits` times 2k - 2 times the price of any copies that meet the
-- strengths; with no terminal, c is 0.
pub record CopiesAccurate (p : Problem) (s : Strengths) (bits k c : ℕ) : Type 0 where
  pub factor : (x : ℕ → ℕ) → CopiesUsable p x → MeetsStrengths p s x → k * c ≤ bits * (2 * k - 2) * copies_cost p x
  pub free : k ≡ 0 → c ≡ 0

-- ---- bit by bit

-- Strengths go from 1 to 15: four bits.
abbrev pub strength_bits : ℕ
strength_bits = 4

-- Bit b of a strength, the lowest being bit 0.
unfoldable pub has_bit : (strength b : ℕ) → Bool
has_bit strength b = eqb (strength / 2 ^ b % 2) 1

-- Some group whose strength has bit b holds both.
unfoldable pub required_at : Strengths → (b u v : ℕ) → Bool
required_at s b u v = any_below s.groups (λ g. has_bit (s.strength g) b && (s.member g u && s.member g v))

-- The problem of bit b: p for the groups with that bit.
abbrev pub bit_problem : Problem → Strengths → (b : ℕ) → Problem
bit_problem p s b = requiring p (required_at s b)

-- Each edge that is kept for bit b counts 2 ^ b times.
unfoldable pub copies : Problem → Strengths → (bits : ℕ) → ℕ → ℕ
copies p s bits e = sum_below bits (λ b. counted (kept (bit_problem p s b) e) (2 ^ b))
