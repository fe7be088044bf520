-- `edge_refusal` meets its contract: each return by the law of its case.
use native.Mathlib.Omega.{arith}
use mathlib.Core.Path.{sym}
use Rattle.survey_core.proofs.Laws.Refusal.{edge_first_out, edge_second_out, edge_loop, edge_heavy, edge_fine}
use Rattle.survey_refusal.proofs.track.edge_refusal.Goals as goal

-- 4: the first end
pub returns-then-groups-first : goal.returns-then-groups-first
returns-then-groups-first c = sym (edge_first_out _ _ (omega arith))

-- 4: the second end
pub returns-then-groups-second : goal.returns-then-groups-second
returns-then-groups-second c = sym (edge_second_out _ _ (omega arith) (omega arith))

-- 5
pub returns-then-first-second : goal.returns-then-first-second
returns-then-first-second c = sym (edge_loop _ _ (omega arith) (omega arith))

-- 6
pub returns-then-at-gt-MAX_WEIGHT : goal.returns-then-at-gt-MAX_WEIGHT
returns-then-at-gt-MAX_WEIGHT c = sym (edge_heavy _ _ (omega arith) (omega arith) (omega (arith, c.if-first-second.false)) (omega arith))

-- nothing wrong
pub returns : goal.returns
returns c = sym (edge_fine _ _ (omega (arith, c.if-first-second.false)))
