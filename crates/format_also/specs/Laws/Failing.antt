-- Also lines that are refused otherwise than with 16: pairs that pass, and behind them a whole line, whose pair fails its tests; and the other way round.
use Prim.Native.Nat.{ℕ, suc, ◌+◌, ◌≤◌, ◌<◌}
use native.Mathlib.Omega.{arith}
use Rattle.std.proofs.Math.Nat.{add-zero}
use Rattle.std.specs.Prelude.{◌≡◌, List, [], ◌∷◌, ◌++◌}
use Rattle.std.proofs.Math.Path.{refl, sym, subst}
use Rattle.std.proofs.Common.{ap, append_assoc}
use Rattle.std.proofs.Math.Bool.{not}
use Rattle.std.proofs.Math.ListN.{length}
use Rattle.base_limits.specs.Limits.{max_pairs, also_digits}
use Rattle.base_limits.specs.declared.Verdict.{Verdict}
use Rattle.base_limits.specs.declared.Verdict.TheVariants.{Fine, Refused}
use Rattle.format_write.specs.Key.{also_key, comma, newline}
use Rattle.format_read.specs.Step.{refused, ◌then◌, checked}
use Rattle.format_read.specs.Lines.{text_of, whole}
use Rattle.format_read.specs.Items.{Broken, here, later}
use Rattle.format_read.specs.Stands.{Stands}
use Rattle.format_read.proofs.Laws.Language.{bound, text_stands}
use Rattle.format_read.proofs.Laws.Stands.{stands_append, stands_first, stands_second}
use Rattle.format_read.proofs.Laws.Step.{Stops, early, late, then_stops}
use Rattle.format_read.proofs.Laws.OnlyMalformed.{OnlyMalformed, only_found, only_then, only_fixed, only_number_to}
use Rattle.format_also.specs.Pair.{Pair, pair_of, PairDigits, rank, pair_at, also_test, also_reader, also_at}
use Rattle.format_also.specs.Render.{pair_text, pairs_text}
use Rattle.format_also.specs.WellFormed.{PairsPass, no_pair, next_pair, last_rank}
use Rattle.format_also.specs.Laws.Tests.{line_fine, line_passed, line_refused, passed_fine}
use Rattle.format_also.specs.Laws.Word.{reads_pair, LineStops, past, other, line_stops}
use Rattle.format_also.specs.Laws.Reading.{begins_also, also_stops, broken_refused}

-- A line by itself is refused with 16 alone.
only_pair : (t : List ℕ) (at : ℕ) → OnlyMalformed (pair_at t at)
unfolding pair_at
only_pair t at =
    only_then _ _ (only_fixed also_key t at) (λ z a.
    only_then _ _ (only_number_to also_digits comma t a) (λ v b.
    only_then _ _ (only_number_to also_digits newline t b) (λ g c. only_found (pair_of v g) c)))

checked_refused : {A : Type 0} (w : Verdict) (a : A) (q : ℕ) {n p : ℕ} → checked w a q ≡ refused n p → w ≡ Refused n p
unfolding checked
checked_refused Fine a q e = let z : ◌≡◌ {A = ℕ} 0 1 = cc in absurd (omega arith)
checked_refused {A} (Refused i j) a q {n} {p} e = let x : i ≡ n = cc in let y : j ≡ p = cc in cc

-- Pairs from pair i on, behind one of rank low, and the line behind them.
pub record FailingPair (groups : List ℕ) (room : ℕ) (t : List ℕ) (low i at n p : ℕ) : Type 0 where
  pub before : List Pair
  pub pair : Pair
  pub passes : PairsPass groups room low i before
  pub few : i + length before < max_pairs
  pub digits : PairDigits pair
  pub fails : also_test groups room (last_rank low before) (i + length before) pair ≡ Refused n p
  pub stands : Stands t at (pairs_text before ++ pair_text pair)

module _ (groups : List ℕ) (room : ℕ) (t : List ℕ) where
  broken_fails : {n p low i at : ℕ} {l : List Pair} → at ≤ length t → (n ≡ 16 → ⊥) → Broken (also_reader t groups room) n p low i at l → FailingPair groups room t low i at n p
  unfolding also_reader pairs_text text_of last_rank
  broken_fails {n} {p} {low} {i} {at} h not_16 (here e f) = by_case (line_stops t groups room low i at f)
    where
      by_line : i < max_pairs → Stops (pair_at t at) (λ x q. checked (also_test groups room low i x) x q) n p → FailingPair groups room t low i at n p
      by_line m (early q) = absurd (not_16 ((only_pair t at).is n p q))
      by_line m (late x q a b) =
          let w = reads_pair.sound t at x q h a in
          let z : i ≡ i + 0 = sym (add-zero i) in
          record {
            before = [];
            pair = x;
            passes = no_pair;
            few = omega arith;
            digits = w.member.holds;
            fails = subst (λ (k : ℕ). also_test groups room low k x ≡ Refused n p) z (checked_refused _ x q b);
            stands = (text_stands w).0;
          }

      by_case : LineStops t groups room low i at n p → FailingPair groups room t low i at n p
      by_case (past m q r) = absurd (not_16 q)
      by_case (other m q) = by_line m (then_stops (pair_at t at) _ q)
  broken_fails {n} {p} {low} {i} {at} h not_16 (later {next = next} {a = x} e f b) =
      let c = line_passed t groups room low i at f in
      let w = reads_pair.sound t at x next h c.read in
      let s = text_stands w in
      let r = broken_fails (bound w).1 not_16 b in
      let few = r.few in
      let z : i + 1 + length r.before ≡ i + suc (length r.before) = omega arith in
      record {
        before = x ∷ r.before;
        pair = r.pair;
        passes = next_pair c.few c.digits c.passes r.passes;
        few = omega arith;
        digits = r.digits;
        fails = subst (λ (k : ℕ). also_test groups room (last_rank (rank x) r.before) k r.pair ≡ Refused n p) z r.fails;
        stands =
            subst (Stands t at) (sym (append_assoc (pair_text x) (pairs_text r.before) (pair_text r.pair)))
            (stands_append (pair_text x) _ s.0 (subst (λ (k : ℕ). Stands t k (pairs_text r.before ++ pair_text r.pair)) s.1 r.stands));
      }

  fails_broken : {low i : ℕ} {before : List Pair} → PairsPass groups room low i before → (at n p : ℕ) (x : Pair) → i + length before < max_pairs → PairDigits x
      → also_test groups room (last_rank low before) (i + length before) x ≡ Refused n p → Stands t at (pairs_text before ++ pair_text x) → Broken (also_reader t groups room) n p low i at before
  unfolding also_reader pairs_text text_of last_rank
  fails_broken {low} {i} no_pair at n p x few d f s =
      let z : i + 0 ≡ i = add-zero i in
      let read = reads_pair.complete t at x (pair_text x) (record { holds = d; word = refl }) s in
      here (ap not (begins_also t at x s)) (line_refused t groups room low i at (omega arith) read (subst (λ (k : ℕ). also_test groups room low k x ≡ Refused n p) z f))
  fails_broken {low} {i} (next_pair {x = y} {l = l} m e q r) at n p x few d f s =
      let st : Stands t at (pair_text y ++ (pairs_text l ++ pair_text x)) = subst (Stands t at) (append_assoc (pair_text y) (pairs_text l) (pair_text x)) s in
      let a = stands_first (pair_text y) _ st in
      let read = reads_pair.complete t at y (pair_text y) (record { holds = e; word = refl }) a in
      let z : i + suc (length l) ≡ i + 1 + length l = omega arith in
      later (ap not (begins_also t at y a)) (line_fine t groups room low i at m read (passed_fine groups room low i y q))
      (fails_broken r (at + length (pair_text y)) n p x (omega arith) d (subst (λ (k : ℕ). also_test groups room (last_rank (rank y) l) k x ≡ Refused n p) z f) (stands_second (pair_text y) _ st))

  -- A refusal but 16 comes of a pair that fails its tests.
  pub also_fails : (at n p : ℕ) → at ≤ length t → whole (also_at t groups room at) ≡ refused n p → (n ≡ 16 → ⊥) → FailingPair groups room t 0 0 at n p
  also_fails at n p h e not_16 = broken_fails h not_16 (also_stops t groups room at e)

  -- A pair that fails its tests behind pairs that pass is refused.
  pub fails_also : (at n p : ℕ) → FailingPair groups room t 0 0 at n p → whole (also_at t groups room at) ≡ refused n p
  fails_also at n p f =
      let few = f.few in
      broken_refused t groups room at (omega arith) (fails_broken f.passes at n p f.pair f.few f.digits f.fails f.stands)
