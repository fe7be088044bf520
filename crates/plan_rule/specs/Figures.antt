-- Planning's figures without its moats: what calls that plan in buffers of their own take of a plan (document 02, No. 11 to 13). Their refusals are
-- planning's but 7, and the marks are planning's.
use Rattle.std.specs.Prelude.{ℕ, List, ◌++◌, drop}
use Rattle.base_limits.specs.Verdict.{◌before◌, Outcome, refusal, answer, outcome, written}
use Rattle.base_limits.specs.declared.Verdict.{Verdict}
use Rattle.theory_steiner.specs.Problem.{all_usable}
use Rattle.survey_core.specs.Survey.{Survey, edge_count, problem_of}
use Rattle.survey_core.specs.Refusal.{survey_refusal, group_refusal}
use Rattle.plan_rule.specs.declared.Figured.{Figured}
use Rattle.plan_rule.specs.declared.Figured.TheVariants.{Finished, Refused}
use Rattle.plan_rule.specs.Plan.{Plan, plan_of}

-- 1 to 6 and 18, then 8.
unfoldable pub figures_refusal : Survey → Verdict
figures_refusal s = survey_refusal s before group_refusal s 8 (all_usable (problem_of s))

-- k, cost, bound and rounds.
pub record FigureCounts : Type 0 where
  pub terminals : ℕ
  pub cost : ℕ
  pub bound : ℕ
  pub rounds : ℕ

unfoldable pub figure_counts_of : Plan → FigureCounts
figure_counts_of p = record { terminals = p.terminals; cost = p.cost; bound = p.bound; rounds = p.rounds }

unfoldable pub figuring : Survey → Outcome FigureCounts
figuring s = outcome (figures_refusal s) (figure_counts_of (plan_of (problem_of s)))

-- What a buffer of at least m marks holds at the end; bytes after the last mark keep their values.
unfoldable pub marks_figured : Survey → (marks : List ℕ) → List ℕ
marks_figured s marks = written (figures_refusal s) ((plan_of (problem_of s)).marks ++ drop (edge_count s) marks) marks

-- What an answer says in the papers' numbers.
unfoldable pub figured_outcome : Figured → Outcome FigureCounts
figured_outcome (Finished terminals cost bound rounds) = answer (record { terminals = terminals; cost = cost; bound = bound; rounds = rounds })
figured_outcome (Refused number place) = refusal number place
