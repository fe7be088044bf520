-- Whether refusal 4, 5 or 6 applies to a track, whichever it is (document 01, 'Refused surveys and plans'; law `no_fault`).
use Rattle.std.specs.Prelude.{ℕ, Bool, ◌||◌, eqb, ltb, leb}
use Rattle.base_limits.specs.Limits.{max_weight}

-- An end is none of n vertices, or both are one, or the weight is above the limit.
unfoldable pub faulty : (n first second weight : ℕ) → Bool
faulty n first second weight = ((leb n first || leb n second) || eqb first second) || ltb max_weight weight
