-- The report so far, and what adding a survey makes of it (document 02, No. 11). 3 leaves it unchanged: for a 1,001st
-- survey, and where a count or a total would pass 64 bits, which from an empty report never occurs (law
-- `season_goes_on`).
use Rattle.std.specs.Prelude.{ℕ, ◌+◌, ◌*◌, ◌^◌, Bool, ◌&&◌, ◌||◌, cond, List, [], ◌∷◌, get_or, set, replicate, ltb, leb}
use Rattle.base_limits.specs.Limits.{max_vertices, max_edges, max_weight, max_value}
use Rattle.base_limits.specs.Verdict.{refuse_if, Outcome, refusal, answer, written}
use Rattle.base_limits.specs.declared.Verdict.{Verdict}
use Rattle.survey_core.specs.Survey.{Survey}
use Rattle.season_rule.specs.declared.Farthest.{Farthest}
use Rattle.season_rule.specs.declared.Farthest.TheVariants.{Nothing, At}
use Rattle.season_rule.specs.declared.Report.{Report}
use Rattle.season_rule.specs.Figures.{Figures, figures}

-- surveys of one report, at most
abbrev pub max_surveys : ℕ
max_surveys = 1000

-- numbers of planning's refusals lie below this
abbrev pub refusal_numbers : ℕ
refusal_numbers = 19

-- a count or a total lies below this
abbrev pub word_limit : ℕ
word_limit = 2 ^ 64

-- no plan's cost is larger, and no bound (law `limited`): each track at the highest price; as many component numbers as
-- there can be, each with the largest wait in every round
abbrev pub most_cost : ℕ
most_cost = max_edges * max_weight

abbrev pub most_bound : ℕ
most_bound = 2 * max_vertices * (max_vertices * max_value)

unfoldable pub empty_report : Report
empty_report = record { surveys = 0; planned = 0; cost = 0; bound = 0; refused = replicate refusal_numbers 0; farthest = Nothing }

-- A plan takes the place where its ratio, twice the cost to the bound, is larger: the earliest stays among equals. The
-- ratios are compared by cross products, over numbers of any size. A plan with bound 0 takes no part.
unfoldable pub farther : Farthest → (position twice bound : ℕ) → Farthest
farther Nothing position twice bound = cond (ltb 0 bound) (At position twice bound) Nothing
farther (At p t b) position twice bound = cond (ltb 0 bound && ltb (t * bound) (twice * b)) (At position twice bound) (At p t b)

unfoldable pub add_plan : Report → Figures → Report
add_plan r f =
    record {
      surveys = r.surveys + 1;
      planned = r.planned + 1;
      cost = r.cost + f.cost;
      bound = r.bound + f.bound;
      refused = r.refused;
      farthest = farther r.farthest r.surveys (2 * f.cost) f.bound;
    }

unfoldable pub add_refusal : Report → (number : ℕ) → Report
add_refusal r number =
    record {
      surveys = r.surveys + 1;
      planned = r.planned;
      cost = r.cost;
      bound = r.bound;
      refused = set r.refused number (get_or r.refused number 0 + 1);
      farthest = r.farthest;
    }

unfoldable pub add_outcome : Report → Outcome Figures → Report
add_outcome r (refusal number place) = add_refusal r number
add_outcome r (answer f) = add_plan r f

-- A count or a total would pass 64 bits.
unfoldable pub passes_word : Report → Outcome Figures → Bool
passes_word r (refusal number place) = leb word_limit (get_or r.refused number 0 + 1)
passes_word r (answer f) = leb word_limit (r.planned + 1) || (leb word_limit (r.cost + f.cost) || leb word_limit (r.bound + f.bound))

-- What the call answers. A survey that planning refuses is counted, and no refusal of the call.
unfoldable pub season_refusal : Report → Outcome Figures → Verdict
season_refusal r o = refuse_if (leb max_surveys r.surveys || passes_word r o) 3 0

-- The report after the call.
unfoldable pub added : Report → Outcome Figures → Report
added r o = written (season_refusal r o) (add_outcome r o) r

unfoldable pub add_survey : Report → Survey → Report
add_survey r s = added r (figures s)

-- One call after another.
unfoldable pub add_surveys : Report → List Survey → Report
add_surveys r [] = r
add_surveys r (s ∷ ss) = add_surveys (add_survey r s) ss

unfoldable pub season_of : List Survey → Report
season_of ss = add_surveys empty_report ss
