-- What the figures of a printed text show (document 02, No. 14): the line that `plan` and `verify` say on standard
-- error.
use Rattle.std.specs.Prelude.{ℕ, ◌*◌, cond, List, [], eqb, leb}
use Rattle.base_limits.specs.Limits.{figure_digits}
use Rattle.format_write.specs.Key.{ascii, terminals_key, cost_key, bound_key}
use Rattle.format_read.specs.Number.{number_line}
use Rattle.format_read.specs.Step.{Step, found, refused, ◌then◌}

-- The line, and its bytes.
unfoldable pub remark_line : List ℕ
remark_line = ascii "no cheaper plan exists\n"

abbrev pub remark_bytes : ℕ
remark_bytes = 23

-- 1 where twice the cost is at most the bound, else 0.
unfoldable pub shown : (cost bound : ℕ) → ℕ
shown c b = cond (leb (2 * c) b) 1 0

-- The lines of sites, cost and bound at an offset, and what they show.
unfoldable pub figures_at : List ℕ → (at : ℕ) → Step ℕ
figures_at t at =
    number_line terminals_key figure_digits t at then λ k a.
    number_line cost_key figure_digits t a then λ c b.
    number_line bound_key figure_digits t b then λ y d.
    found (shown c y) d

-- Said where the figures can be read and show it; else nothing is.
unfoldable pub remark_for : Step ℕ → List ℕ
remark_for (found x next) = cond (eqb x 0) [] remark_line
remark_for (refused number place) = []

-- What is said of a text whose figures stand from an offset on.
unfoldable pub remark_on : List ℕ → (at : ℕ) → List ℕ
remark_on t at = remark_for (figures_at t at)
