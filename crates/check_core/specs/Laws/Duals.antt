-- Sums over the duals of a buffer of records, as a loop over the records gathers them, and their limits: no sum wraps.
use Rattle.std.specs.Prelude.{ℕ, ◌+◌, ◌*◌, ◌/◌, ◌<◌, ◌≤◌, ◌≡◌, Bool, List, length, get_or, ltb}
use Rattle.std.proofs.Common.{arith, ap, ap₂, sym, ◌∙◌, le-leb}
use Rattle.std.proofs.lemmas.Bool.{lt-leb}
use Rattle.base_finite.specs.Below.{counted, sum_below}
use Rattle.base_finite.specs.Laws.Below.{counted_le, sum_limit}
use Rattle.base_limits.specs.Limits.{max_value, record_bytes, max_duals}
use Rattle.theory_graph.specs.Path.{crosses}
use Rattle.base_limits.specs.Verdict.{refuse_if, lowest_below}
use Rattle.base_limits.specs.declared.Verdict.{Verdict}
use Rattle.base_limits.specs.declared.Verdict.TheVariants.{Fine}
use Rattle.base_limits.specs.Laws.Verdict.{none_lowest}
use Rattle.format_record.specs.Record.{value_in, member_in, record_at}
use Rattle.theory_steiner.specs.Dual.{weigh, dual_load}
use Rattle.theory_steiner.proofs.Laws.Dual.{weigh_tabulate}
use Rattle.survey_core.specs.Survey.{Survey, problem_of}
use Rattle.base_finite.specs.Laws.Count.{sum_end}
use Rattle.check_rule.specs.Check.{dual_at, duals_in, dual_refusal}
use Rattle.check_core.specs.Moats.{load_between, DualsFit, duals_refusal, few_duals_refusal}
use Rattle.check_rule.proofs.Laws.Meaning.{fine_dual}

-- What record i adds to the duals that pass the test.
abbrev pub weighed_at : List ℕ → ((ℕ → Bool) → Bool) → ℕ → ℕ
weighed_at records t i = counted (t (member_in (record_at records i))) (value_in (record_at records i))

pub weigh_records : (records : List ℕ) (t : (ℕ → Bool) → Bool) → weigh (duals_in records) t ≡ sum_below (length records / record_bytes) (weighed_at records t)
unfolding duals_in dual_at
weigh_records records t = weigh_tabulate (length records / record_bytes) (dual_at records) t

-- The sum at the end of the loop.
pub weigh_end : (records : List ℕ) (t : (ℕ → Bool) → Bool) (i : ℕ) {so_far : ℕ} → i ≤ length records / record_bytes → length records / record_bytes ≤ i
    → so_far ≡ sum_below i (weighed_at records t) → so_far ≡ weigh (duals_in records) t
weigh_end records t i b c h = sum_end (length records / record_bytes) i (weighed_at records t) b c h ∙ sym (weigh_records records t)

module _ (records : List ℕ) (fit : DualsFit records) (t : (ℕ → Bool) → Bool) where
  weighed_le : (n : ℕ) → n ≤ length records / record_bytes → sum_below n (weighed_at records t) ≤ n * max_value
  weighed_le n b =
      sum_limit
      n
      max_value
      (weighed_at records t)
      (λ i c. omega (arith, counted_le (t (member_in (record_at records i))) (value_in (record_at records i)), fit.small i (omega arith)))

  -- One record more still fits.
  pub weighed_fits : (i : ℕ) {so_far next : ℕ} → i < length records / record_bytes → so_far ≡ sum_below i (weighed_at records t) → next ≡ weighed_at records t i
      → so_far + next ≤ max_duals * max_value
  weighed_fits i b h k =
      omega (
        arith,
        fit.few,
        weighed_le i (omega arith),
        counted_le (t (member_in (record_at records i))) (value_in (record_at records i)),
        fit.small i b,
      )

  pub weigh_limit : weigh (duals_in records) t ≤ max_duals * max_value
  weigh_limit = omega (arith, weigh_records records t, weighed_le (length records / record_bytes) (omega arith), fit.few)

-- What 13 says of edge e, from what its ends and its weight were read as.
pub load_item : (s : Survey) (records : List ℕ) (e : ℕ) {found : Verdict} {first second weight : ℕ} → first ≡ get_or s.firsts e 0
    → second ≡ get_or s.seconds e 0
    → weight ≡ get_or s.weights e 0
    → found ≡ refuse_if (ltb (2 * weight) (load_between records first second)) 13 e
    → refuse_if (ltb (2 * get_or s.weights e 0) (dual_load (problem_of s) (duals_in records) e)) 13 e ≡ found
unfolding dual_load crosses problem_of load_between
load_item s records e {found} {first} {second} {weight} a b c h =
    sym (h ∙ ap (λ x. refuse_if (ltb (2 * x) (load_between records first second)) 13 e) c
    ∙ ap₂ (λ x y. refuse_if (ltb (2 * get_or s.weights e 0) (load_between records x y)) 13 e) a b)

-- 9 and 11 leave few records of small values.
pub duals_fit : (s : Survey) (records : List ℕ) → length records / record_bytes ≤ max_duals
    → lowest_below (length records / record_bytes) (λ i. dual_refusal s (dual_at records i) i) ≡ Fine → DualsFit records
unfolding dual_at
duals_fit s records few h =
    record {
      few = few;
      small = λ i b. (fine_dual s (dual_at records i) i (none_lowest (length records / record_bytes) (λ i. dual_refusal s (dual_at records i) i) h i b)).small;
    }

-- With no more moats than a plan has, 11 to 13 are told; with more, nothing.
pub few_duals : (s : Survey) (records : List ℕ) → length records / record_bytes ≤ max_duals → few_duals_refusal s records ≡ duals_refusal s records
unfolding few_duals_refusal
few_duals s records h = rw (le-leb (length records / record_bytes) max_duals h)

pub many_duals : (s : Survey) (records : List ℕ) → max_duals < length records / record_bytes → few_duals_refusal s records ≡ Fine
unfolding few_duals_refusal
many_duals s records h = rw (lt-leb (length records / record_bytes) max_duals h)
