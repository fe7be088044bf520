-- `loads_refusal` meets its contract: a scan of the edges for 13.
use Prim.Native.Nat.{ℕ, ◌*◌}
use mathlib.Core.Path.{◌≡◌, sym}
use borrow.Author.Rules.{rules}
use mathlib.Core.List.{List, []}
use lib.Dec.{ltb}
use lib.ListN.{get_or}
use Rattle.base_limits.specs.Verdict.{refuse_if}
use Rattle.theory_steiner.specs.Dual.{dual_load}
use Rattle.survey_core.specs.Survey.{survey_from, problem_of}
use Rattle.check_rule.specs.Check.{duals_in}
use Rattle.check_core.specs.Moats.{load_between}
use Rattle.base_limits.specs.declared.Verdict.{Verdict}
use Rattle.check_core.specs.Laws.Duals.{load_item}
use Rattle.check_core.proofs.moats.loads_refusal.Goals as goal

-- The test of one edge, by what its call read.
load_at : (firsts seconds weights records : List ℕ) (e : ℕ) {found : Verdict} {first second weight : ℕ} → first ≡ get_or firsts e 0 → second ≡ get_or seconds e 0
    → weight ≡ get_or weights e 0 → found ≡ refuse_if (ltb (2 * weight) (load_between records first second)) 13 e
    → found ≡ refuse_if (ltb (2 * get_or weights e 0) (dual_load (problem_of (survey_from [] firsts seconds weights)) (duals_in records) e)) 13 e
load_at firsts seconds weights records e a b w h = sym (load_item (survey_from [] firsts seconds weights) records e a b w h)

pub returns : goal.returns
returns c =
    let args = c.args in
    c.lowest.ensures (λ e. refuse_if (ltb (2 * get_or args.weights.now e 0) (dual_load (problem_of (survey_from [] args.firsts.now args.seconds.now args.weights.now)) (duals_in args.records.now) e)) 13 e) (λ e v b p. search (rules, load_at))
