-- The trace of a growth has the growth's duals (`trace_duals_law`), and what drawing requires (`trace_drawable`): labels replay the states, and the members of a
-- component are those that it had when it arose. The planner uses them.
use Prim.Native.Nat.{ℕ, zero, suc, ◌+◌, ◌*◌, ◌-◌, ◌≤◌, ◌<◌}
use native.Mathlib.Omega.{arith}
use Rattle.std.proofs.Common.{add-suc, ap₂, ◌∙◌, eq-eqb, lt-ltb, le-ltb}
use Rattle.std.specs.Prelude.{◌≡◌, Bool, true, false, ◌&&◌, cond, length, get_or}
use Rattle.std.proofs.Math.Path.{refl, ap, sym, subst, fun_ext}
use Rattle.std.proofs.Math.Logic.{⊎_elim}
use mathlib.Core.List.{List, [], ◌∷◌, ◌++◌, map, map-append}
use Rattle.std.proofs.Math.Dec.{eqb, ltb}
use Rattle.base_finite.specs.Below.{those_below, tabulate}
use Rattle.base_finite.specs.Laws.Test.{not_true_false}
use Rattle.base_finite.specs.Laws.Below.{lt_or_ge, get_d_tabulate}
use Rattle.theory_graph.specs.Component.{merged}
use Rattle.base_limits.specs.Limits.{max_vertices, max_duals, record_bytes, duals_for as max_duals_of}
use Rattle.theory_steiner.specs.Problem.{Problem, Sound}
use Rattle.theory_steiner.specs.Growth.{State, start, numbers, Winner, nobody, edge, winner, pick, state_at, grown}
use Rattle.theory_steiner.specs.Dual.{Dual, duals_of, dual_of}
use Rattle.theory_steiner.proofs.Laws.Round.{state_at_reached, pick_numbers, pick_label, pick_holds_old}
use Rattle.theory_steiner.proofs.Laws.Partition.{winner_below_law, members, members_below}
use Rattle.theory_steiner.proofs.Laws.Rounds.{state_at_pick, state_at_still, state_at_last, steps_or_still, rounds_le, rounds_lt, grown_reached}
use Rattle.plan_draw.specs.Drawing.{dual_if, duals_below}
use Rattle.plan_draw.specs.Trace.{Trace, end_of, trace_from, label_after, member_of, trace_duals, Drawable, TraceOf}

-- ---- rounds

-- What round r of a growth does.
record Picks (p : Problem) (r : ℕ) : Type 0 where
  e : ℕ
  d : ℕ
  wins : winner p (state_at p r) ≡ edge e d
  rounds_are : (state_at p r).rounds ≡ r

picks : (p : Problem) (r : ℕ) → r < (grown p).rounds → Picks p r
unfolding grown
picks p r b = by (winner p (state_at p r)) refl
  where
    n : ℕ
    n = p.vertices

    by : (w : Winner) → winner p (state_at p r) ≡ w → Picks p r
    by nobody h = let few = rounds_le p n in absurd (omega (arith, ap (λ s. s.rounds) (state_at_last p r n h (omega arith)), rounds_le p r))
    by (edge f d) h =
        record {
          e = f;
          d = d;
          wins = h;
          rounds_are = ⊎_elim (λ k. k) (λ k. absurd (let z : ◌≡◌ {A = ℕ} 0 1 = cc in omega arith)) (steps_or_still p r);
        }

-- ---- labels

merged_same : (f g : ℕ → ℕ) (a a' b b' z z' v : ℕ) → f ≡ g → a ≡ a' → b ≡ b' → z ≡ z' → merged (f a) (f b) z f v ≡ merged (g a') (g b') z' g v
merged_same f g a a' b b' z z' v h i j k = cc

module _ (p : Problem) (t : Trace) (is : TraceOf p t) where
  trace_labels : (r : ℕ) → r ≤ t.rounds → (v : ℕ) → label_after t r v ≡ (state_at p r).label v
  unfolding label_after state_at start numbers
  trace_labels zero b v = refl
  trace_labels (suc r) b v = by (picks p r (omega (arith, is.rounds_are))) (fun_ext (trace_labels r (omega arith)))
    where
      by : Picks p r → label_after t r ≡ (state_at p r).label → label_after t (suc r) v ≡ (state_at p (suc r)).label v
      by k ih =
          merged_same (label_after t r) (state_at p r).label (t.first r) (p.first k.e) (t.second r) (p.second k.e) (t.vertices + r)
          (numbers p (state_at p r)) v ih (is.firsts_are r k.e k.d b k.wins) (is.seconds_are r k.e k.d b k.wins)
          (omega (arith, is.vertices_are, k.rounds_are))
          ∙ sym (pick_label p (state_at p r) k.e k.d v)
          ∙ sym (ap (λ s. s.label v) (state_at_pick p r k.e k.d k.wins))

-- ---- members

step_holds : (p : Problem) (r c v : ℕ) → c < numbers p (state_at p r) → (state_at p (suc r)).holds c v ≡ (state_at p r).holds c v
step_holds p r c v b = by (winner p (state_at p r)) refl
  where
    by : (w : Winner) → winner p (state_at p r) ≡ w → (state_at p (suc r)).holds c v ≡ (state_at p r).holds c v
    by nobody h = ap (λ s. s.holds c v) (state_at_still p r h)
    by (edge e d) h = ap (λ s. s.holds c v) (state_at_pick p r e d h) ∙ pick_holds_old p (state_at p r) e d c v (λ k. omega arith)

step_numbers : (p : Problem) (r : ℕ) → numbers p (state_at p r) ≤ numbers p (state_at p (suc r))
step_numbers p r = by (winner p (state_at p r)) refl
  where
    by : (w : Winner) → winner p (state_at p r) ≡ w → numbers p (state_at p r) ≤ numbers p (state_at p (suc r))
    by nobody h = omega (arith, ap (numbers p) (state_at_still p r h))
    by (edge e d) h = omega (arith, ap (numbers p) (state_at_pick p r e d h), pick_numbers p (state_at p r) e d)

numbers_later : (p : Problem) (r k : ℕ) → numbers p (state_at p r) ≤ numbers p (state_at p (r + k))
numbers_later p r zero = let e : r + 0 ≡ r = omega arith in rw e (omega arith)
numbers_later p r (suc k) = rw (add-suc r k) (omega (arith, numbers_later p r k, step_numbers p (r + k)))

-- The members of a component never change.
holds_later : (p : Problem) (r k c v : ℕ) → c < numbers p (state_at p r) → (state_at p (r + k)).holds c v ≡ (state_at p r).holds c v
holds_later p r zero c v b = let e : r + 0 ≡ r = omega arith in rw e
holds_later p r (suc k) c v b = rw (add-suc r k) (step_holds p (r + k) c v (omega (arith, numbers_later p r k)) ∙ holds_later p r k c v b)

-- A single vertex.
single_holds : (p : Problem) (c v : ℕ) → c < p.vertices → (grown p).holds c v ≡ eqb v c
unfolding grown state_at start numbers
single_holds p c v b =
    let e : 0 + p.vertices ≡ p.vertices = omega arith in
    ap (λ k. (state_at p k).holds c v) (sym e) ∙ holds_later p 0 p.vertices c v (omega arith)

-- The component that round r makes: the vertices with its number right after.
made_holds : (p : Problem) (ok : Sound p) (r v : ℕ) → r < (grown p).rounds → v < p.vertices →
    (grown p).holds (p.vertices + r) v ≡ eqb ((state_at p (suc r)).label v) (p.vertices + r)
unfolding grown numbers merged
made_holds p ok r v b bv = by (picks p r b)
  where
    n : ℕ
    n = p.vertices

    by : Picks p r → (grown p).holds (n + r) v ≡ eqb ((state_at p (suc r)).label v) (n + r)
    by k =
        let s : State = state_at p r in
        let made : state_at p (suc r) ≡ pick p s k.e k.d = state_at_pick p r k.e k.d k.wins in
        let number : numbers p s ≡ n + r = ap (λ i. n + i) k.rounds_are in
        let split : suc r + (n - suc r) ≡ n = omega (arith, rounds_le p n) in
        let below : n + r < numbers p (state_at p (suc r)) = omega (arith, ap (numbers p) made, pick_numbers p s k.e k.d) in
        let first : (state_at p (suc r)).label (p.first k.e) ≡ n + r =
        ap (λ q. q.label (p.first k.e)) made
        ∙ pick_label p s k.e k.d (p.first k.e)
        ∙ rw (eq-eqb (s.label (p.first k.e)) (s.label (p.first k.e)) refl) number in
        ap (λ i. (state_at p i).holds (n + r) v) (sym split)
        ∙ holds_later p (suc r) (n - suc r) (n + r) v below
        ∙ subst (λ x. (state_at p (suc r)).holds x v ≡ eqb ((state_at p (suc r)).label v) x) first
        (members p ok (state_at_reached p (suc r)) (p.first k.e) v (ok.first_below_law k.e (winner_below_law p s k.e k.d k.wins)) bv)

-- ---- the duals

duals_cong : (value value' : ℕ → ℕ) (holds holds' : ℕ → ℕ → Bool) (n : ℕ) → ((c : ℕ) → c < n → value c ≡ value' c) → ((c : ℕ) → c < n → holds c ≡ holds' c) →
    duals_below value holds n ≡ duals_below value' holds' n
unfolding duals_below
duals_cong value value' holds holds' zero f g = refl
duals_cong value value' holds holds' (suc n) f g =
    ap₂ (λ ds es. ds ++ es)
    (duals_cong value value' holds holds' n (λ c b. f c (omega arith)) (λ c b. g c (omega arith)))
    (ap₂ dual_if (f n (omega arith)) (g n (omega arith)))

-- The duals of component numbers as the definition lists them.
duals_map : (s : State) (n : ℕ) → duals_below s.value s.holds n ≡ map (dual_of s) (those_below n (λ c. ltb 0 (s.value c)))
unfolding duals_below dual_if those_below
duals_map s zero = refl
duals_map s (suc n) =
    ap (λ l. l ++ dual_if (s.value n) (s.holds n)) (duals_map s n)
    ∙ by (ltb 0 (s.value n))
    ∙ sym (map-append (dual_of s) (those_below n (λ c. ltb 0 (s.value c))) (cond (ltb 0 (s.value n)) (n ∷ []) []))
  where
    before : List Dual
    before = map (dual_of s) (those_below n (λ c. ltb 0 (s.value c)))

    by : (b : Bool) → before ++ cond b (dual_of s n ∷ []) [] ≡ before ++ map (dual_of s) (cond b (n ∷ []) [])
    by true = refl
    by false = refl

module _ (p : Problem) (ok : Sound p) (t : Trace) (is : TraceOf p t) where
  trace_members : (c : ℕ) → c < t.vertices + t.rounds → member_of t c ≡ (grown p).holds c
  unfolding member_of label_after numbers
  trace_members c b = fun_ext (λ v. ⊎_elim (inside v) (outside v) (lt_or_ge v t.vertices))
    where
      at : (v : ℕ) → v < t.vertices → eqb (label_after t (c + 1 - t.vertices) v) c ≡ (grown p).holds c v
      at v bv =
          ⊎_elim
          (λ (l : c < t.vertices).
          let none : c + 1 - t.vertices ≡ 0 = omega arith in
          ap (λ k. eqb (label_after t k v) c) none ∙ sym (single_holds p c v (omega (arith, is.vertices_are))))
          (λ (l : t.vertices ≤ c).
          let r : ℕ = c - t.vertices in
          let next : c + 1 - t.vertices ≡ suc r = omega arith in
          let number : p.vertices + r ≡ c = omega (arith, is.vertices_are) in
          ap (λ k. eqb (label_after t k v) c) next
          ∙ ap (λ k. eqb k c) (trace_labels p t is (suc r) (omega arith) v)
          ∙ subst (λ k. eqb ((state_at p (suc r)).label v) k ≡ (grown p).holds k v) number
          (sym (made_holds p ok r v (omega (arith, is.rounds_are)) (omega (arith, is.vertices_are)))))
          (lt_or_ge c t.vertices)

      inside : (v : ℕ) → v < t.vertices → (ltb v t.vertices && eqb (label_after t (c + 1 - t.vertices) v) c) ≡ (grown p).holds c v
      inside v bv = rw (lt-ltb v t.vertices bv) (at v bv)

      outside : (v : ℕ) → t.vertices ≤ v → (ltb v t.vertices && eqb (label_after t (c + 1 - t.vertices) v) c) ≡ (grown p).holds c v
      outside v bv =
          rw (le-ltb v t.vertices bv)
          (sym
          (not_true_false ((grown p).holds c v)
          (λ k.
          omega (arith, is.vertices_are, members_below p ok (grown_reached p) c v (omega (arith, is.vertices_are, is.rounds_are)) k))))

  -- The duals of the trace are the growth's.
  pub trace_duals_law : trace_duals t ≡ duals_of p (grown p)
  unfolding trace_duals duals_of numbers
  trace_duals_law =
      let n : ℕ = t.vertices + t.rounds in
      let all : n ≡ p.vertices + (grown p).rounds = omega (arith, is.vertices_are, is.rounds_are) in
      duals_cong t.value (grown p).value (member_of t) (grown p).holds n is.values_are trace_members
      ∙ duals_map (grown p) n
      ∙ ap (λ k. map (dual_of (grown p)) (those_below k (λ c. ltb 0 ((grown p).value c)))) all

  -- There is room for its records, and every end is a vertex.
  pub trace_drawable : (records : List ℕ) → 0 < p.vertices → p.vertices ≤ max_vertices → record_bytes * max_duals_of p.vertices ≤ length records → Drawable t records
  trace_drawable records some few room =
      let rounds : (grown p).rounds < p.vertices = rounds_lt p ok some (grown_reached p) in
      record {
        few = omega (arith, is.vertices_are);
        few_rounds = omega (arith, is.vertices_are, is.rounds_are);
        room = omega (arith, is.vertices_are, is.rounds_are);
        first_below_law = λ r b. first r b (picks p r (omega (arith, is.rounds_are)));
        second_below = λ r b. second r b (picks p r (omega (arith, is.rounds_are)));
      }
    where
      first : (r : ℕ) → r < t.rounds → Picks p r → t.first r < t.vertices
      first r b k =
          omega (arith, is.vertices_are, is.firsts_are r k.e k.d b k.wins, ok.first_below_law k.e (winner_below_law p (state_at p r) k.e k.d k.wins))

      second : (r : ℕ) → r < t.rounds → Picks p r → t.second r < t.vertices
      second r b k =
          omega (arith, is.vertices_are, is.seconds_are r k.e k.d b k.wins, ok.second_below k.e (winner_below_law p (state_at p r) k.e k.d k.wins))

-- The trace that a growth lends: the ends of all edges, the values in a table, and the winner of each round.
pub traces_from : (p : Problem) (ok : Sound p) (firsts seconds values order : List ℕ) (rounds : ℕ) → 0 < p.vertices → p.vertices ≤ max_vertices →
    ((e : ℕ) → e < p.edges → get_or firsts e 0 ≡ p.first e) → ((e : ℕ) → e < p.edges → get_or seconds e 0 ≡ p.second e) →
    values ≡ tabulate max_duals (grown p).value →
    ((r e d : ℕ) → r < rounds → winner p (state_at p r) ≡ edge e d → get_or order r 0 ≡ e) →
    rounds ≡ (grown p).rounds → TraceOf p (trace_from p.vertices firsts seconds values order rounds)
unfolding end_of
traces_from p ok firsts seconds values order rounds some few f s v o k =
    let below : (grown p).rounds < p.vertices = rounds_lt p ok some (grown_reached p) in
    record {
      vertices_are = refl;
      rounds_are = k;
      firsts_are = λ r e d b w. ap (λ i. get_or firsts i 0) (o r e d b w) ∙ f e (winner_below_law p (state_at p r) e d w);
      seconds_are = λ r e d b w. ap (λ i. get_or seconds i 0) (o r e d b w) ∙ s e (winner_below_law p (state_at p r) e d w);
      values_are = λ c b. ap (λ l. get_or l c 0) v ∙ get_d_tabulate max_duals (grown p).value c 0 (omega arith);
    }
