-- The copies of a survey without refusal meet every strength and are within the factor, and with every strength 1 they are planning's kept tracks
-- (document 02, No. 13). By the laws of theory_steiner, Laws/Strength, whose argument over the bits is given once.
use Rattle.std.specs.Prelude.{ℕ, zero, suc, ◌*◌, ◌^◌, ◌≤◌, ◌<◌, ◌≡◌, Bool, ◌||◌, not, List, eqb}
use native.Mathlib.Omega.{arith}
use Rattle.std.proofs.Math.Path.{refl, ap}
use Rattle.std.proofs.Common.{sym, ◌∙◌}
use Rattle.std.proofs.Math.Bool.{true, false}
use Rattle.std.proofs.Math.ListN.{get_or}
use Rattle.base_finite.specs.Below.{counted, sum_below, all_below}
use Rattle.base_finite.specs.Laws.Test.{and_right, true_not_false, not_true_false, same_test_law}
use Rattle.base_finite.specs.Laws.Below.{sum_cong, all_intro, counted_false}
use Rattle.base_limits.specs.Limits.{group_numbers}
use Rattle.theory_graph.specs.Path.{without}
use Rattle.theory_graph.specs.Component.{components}
use Rattle.theory_steiner.specs.Problem.{Problem, Sound, joined, cost, terminals}
use Rattle.theory_steiner.specs.Pruning.{needed, picked, kept}
use Rattle.theory_steiner.specs.Strength.{Strengths, RequiresGroups, copies_cost, MeetsStrengths, CopiesAccurate, strength_bits, has_bit, required_at, bit_problem, copies}
use Rattle.theory_steiner.proofs.Laws.Strength.{SharesBit, required_at_elim, required_at_intro, copies_below, copies_meet, copies_accurate}
use Rattle.survey_core.specs.Survey.{Survey, lists_of, vertex_count, edge_count, member, same_group, problem_of}
use Rattle.survey_core.specs.Sound.{ByteGroups}
use Rattle.survey_core.proofs.Laws.Lists.{in_list_some}
use Rattle.survey_core.proofs.Laws.Refusal.{survey_sound}
use Rattle.survey_core.proofs.Laws.Group.{Shared, same_group_shared, members_same_group, member_byte}
use Rattle.plan_rule.specs.Plan.{plan_of}
use Rattle.winter_rule.specs.Winter.{strength_count, max_strength, strength_of, strengths_of, copies_of, total_price}
use Rattle.winter_rule.specs.Promise.{MeetsAll, WinterAccurate, StrengthsSound, WinterReady, AllOne}

-- A group with a member has a number from 1 to 255.
pub member_some : (s : Survey) (g v : ℕ) → member s g v ≡ true → 1 ≤ g
unfolding member
member_some s g v h = let some = in_list_some (lists_of s) g v h in omega (arith, some)

pub member_most : (s : Survey) → ByteGroups s → (g v : ℕ) → member s g v ≡ true → g ≤ strength_count
member_most s numbered g v h = let b = member_byte s numbered g v h in omega arith

-- A survey requires the members of each group to be joined.
pub survey_asks : (s : Survey) (strengths : List ℕ) → RequiresGroups (problem_of s) (strengths_of s strengths)
unfolding problem_of
survey_asks s strengths g u v bg bu bv mu mv = members_same_group s g u v mu mv

-- Every strength has four bits.
strengths_below : (strengths : List ℕ) → StrengthsSound strengths → (g : ℕ) → g < group_numbers → strength_of strengths g < 2 ^ strength_bits
unfolding strength_of
strengths_below strengths sound zero b = let most = (sound.each 1 (omega arith) (omega arith)).most in omega arith
strengths_below strengths sound (suc g) b = let most = (sound.each (suc g) (omega arith) (omega arith)).most in omega arith

module _ (s : Survey) (numbered : ByteGroups s) (strengths : List ℕ) where
  -- Strengths of the groups below 256 are those of all groups.
  meets_all : (x : ℕ → ℕ) → MeetsStrengths (problem_of s) (strengths_of s strengths) x → MeetsAll s strengths x
  unfolding problem_of
  meets_all x h S g u v bu bv mu mv inside outside = h S g u v (member_byte s numbered g u mu) bu bv mu mv inside outside

  all_meets : (x : ℕ → ℕ) → MeetsAll s strengths x → MeetsStrengths (problem_of s) (strengths_of s strengths) x
  unfolding problem_of
  all_meets x h S g u v bg bu bv mu mv inside outside = h S g u v bu bv mu mv inside outside

  module _ {copies_length : ℕ} (ready : WinterReady s strengths copies_length) where
    ok : Sound (problem_of s)
    ok = survey_sound s ready.survey

    some : 0 < (problem_of s).vertices
    unfolding problem_of vertex_count
    some = ready.survey.some

    pub copies_of_meet : MeetsAll s strengths (copies_of s strengths)
    unfolding copies_of
    copies_of_meet =
        meets_all (copies (problem_of s) (strengths_of s strengths) strength_bits)
        (copies_meet (problem_of s) (strengths_of s strengths) ok some ready.joinable (survey_asks s strengths) strength_bits
        (strengths_below strengths ready.strengths_sound))

    pub total_accurate : WinterAccurate s strengths (terminals (problem_of s)) (total_price s strengths)
    unfolding total_price copies_of problem_of
    total_accurate =
        let a : CopiesAccurate (problem_of s) (strengths_of s strengths) strength_bits (terminals (problem_of s)) (total_price s strengths) =
        copies_accurate (problem_of s) (strengths_of s strengths) ok some ready.joinable (survey_asks s strengths) strength_bits in
        record { factor = λ x meets. a.factor x (λ e b u. unusable e u) (all_meets x meets); free = a.free }
      where
        -- every track of a survey may be used
        unusable : {x : ℕ} (e : ℕ) → (problem_of s).usable e ≡ false → x ≡ 0
        unusable e u = true_not_false true refl u

pub copies_few : (s : Survey) (strengths : List ℕ) (e : ℕ) → copies_of s strengths e ≤ max_strength
unfolding copies_of
copies_few s strengths e = let b = copies_below (problem_of s) (strengths_of s strengths) strength_bits e in omega arith

-- ---- every strength 1

-- Where nothing is required nothing is kept.
nothing_kept : (p : Problem) → ((u v : ℕ) → p.required u v ≡ false) → (e : ℕ) → kept p e ≡ false
unfolding kept needed joined
nothing_kept p free e =
    not_true_false (kept p e)
    (λ h. true_not_false (not (joined p (without (picked p) e))) (and_right (picked p e) (not (joined p (without (picked p) e))) h) (rw all))
  where
    label : ℕ → ℕ
    label = components p.vertices p.first p.second (without (picked p) e) p.edges

    all : joined p (without (picked p) e) ≡ true
    all =
        all_intro p.vertices (λ u. all_below p.vertices (λ v. not (p.required u v) || eqb (label u) (label v)))
        (λ u bu. all_intro p.vertices (λ v. not (p.required u v) || eqb (label u) (label v)) (λ v bv. rw (free u v)))

one_copy : (t : Bool) (w : ℕ) → counted t 1 * w ≡ counted t w
unfolding counted
one_copy true w = omega arith
one_copy false w = omega arith

module _ (s : Survey) (numbered : ByteGroups s) (strengths : List ℕ) (one : AllOne strengths) where
  abbrev P : Problem
  P = problem_of s

  abbrev given : Strengths
  given = strengths_of s strengths

  strength_one : (g v : ℕ) → member s g v ≡ true → strength_of strengths g ≡ 1
  strength_one g v h = one g (member_some s g v h) (member_most s numbered g v h)

  -- Bit 0 is everybody's.
  first_required : (u v : ℕ) → required_at given 0 u v ≡ same_group s u v
  unfolding has_bit
  first_required u v =
      same_test_law (required_at given 0 u v) (same_group s u v)
      (λ h. let w : SharesBit given 0 u v = required_at_elim given 0 u v h in members_same_group s w.group u v w.first_member w.second_member)
      (λ h.
      let w : Shared s u v = same_group_shared s u v h in
      required_at_intro given 0 u v
      (record {
        group = w.group;
        below = member_byte s numbered w.group u w.first;
        bit = ap (λ x. has_bit x 0) (strength_one w.group u w.first);
        first_member = w.first;
        second_member = w.second;
      }))

  first_problem : bit_problem P given 0 ≡ P
  unfolding problem_of
  first_problem i =
      record {
        vertices = vertex_count s;
        edges = edge_count s;
        first = λ e. get_or s.firsts e 0;
        second = λ e. get_or s.seconds e 0;
        weight = λ e. get_or s.weights e 0;
        usable = λ e. true;
        required = λ u v. first_required u v i;
      }

  -- The others are nobody's.
  later_kept : (b : ℕ) → has_bit 1 b ≡ false → (e : ℕ) → kept (bit_problem P given b) e ≡ false
  later_kept b none =
      nothing_kept (bit_problem P given b)
      (λ u v.
      not_true_false (required_at given b u v)
      (λ h.
      let w : SharesBit given b u v = required_at_elim given b u v h in
      true_not_false (has_bit 1 b) (sym (ap (λ x. has_bit x b) (strength_one w.group u w.first_member)) ∙ w.bit) none))

  pub plain_copies : (e : ℕ) → copies_of s strengths e ≡ counted (kept (problem_of s) e) 1
  unfolding copies_of copies sum_below has_bit
  plain_copies e =
      omega (
        arith,
        ap (λ (p : Problem). counted (kept p e) 1) first_problem,
        counted_false (later_kept 1 refl e) (2 ^ 1),
        counted_false (later_kept 2 refl e) (2 ^ 2),
        counted_false (later_kept 3 refl e) (2 ^ 3),
      )

  pub plain_cost : total_price s strengths ≡ (plan_of (problem_of s)).cost
  unfolding total_price copies_cost plan_of cost
  plain_cost =
      sum_cong P.edges (λ e. copies_of s strengths e * P.weight e) (λ e. counted (kept P e) (P.weight e))
      (λ e b. ap (λ x. x * P.weight e) (plain_copies e) ∙ one_copy (kept P e) (P.weight e))
