-- What growing leaves: the growth, the picks as marks, the moats of its trace as records, and the counts.
use Rattle.std.specs.Prelude.{ℕ, ◌≡◌, List, length, get_or}
use Rattle.base_limits.specs.Verdict.{Outcome, answer}
use Rattle.base_buffer.specs.Store.{remade}
use Rattle.theory_steiner.specs.Problem.{terminals}
use Rattle.theory_steiner.specs.Dual.{Dual}
use Rattle.survey_core.specs.Survey.{Survey, groups_alone, problem_of}
use Rattle.plan_rounds.specs.Grown.{Growth, GrownAfter}
use Rattle.plan_draw.specs.Trace.{trace_from, drawn_duals}
use Rattle.plan_draw.specs.Drawing.{records_over}
use Rattle.plan_rule.specs.Plan.{PlanCounts}

-- The moats that are drawn of a growth, as far as a buffer of this length holds them.
abbrev pub moats_in : Survey → Growth → (records_length : ℕ) → List Dual
moats_in s g = drawn_duals (trace_from (length s.groups) s.firsts s.seconds g.values g.order g.rounds)

-- From buffers that held these marks and records to the answer and what they hold then.
pub record GrownInto (s : Survey) (marks records : List ℕ) (o : Outcome PlanCounts) (marked drawn : List ℕ) : Type 0 where
  pub growth : Growth
  pub grew : GrownAfter (problem_of s) (length s.groups) growth
  pub marks_are : marked ≡ remade (λ e mark. get_or growth.picked e 0) (length s.firsts) marks
  pub records_are : drawn ≡ records_over (moats_in s growth (length records)) records
  pub counts_are :
      o
      ≡ answer
      (record {
        terminals = terminals (problem_of (groups_alone s.groups));
        cost = 0;
        bound = growth.bound;
        rounds = growth.rounds;
        duals = length (moats_in s growth (length records));
      })
