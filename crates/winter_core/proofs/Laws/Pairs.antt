-- The survey of a bit is sound if the survey is: pairs that are left stay rising, and none becomes a pair of its own group. So planning refuses none
-- of 1 to 6 and 18 of it, and 8 only where it refuses the survey.
use Rattle.std.specs.Prelude.{ℕ, zero, suc, ◌+◌, ◌*◌, ◌-◌, ◌<◌, ◌≤◌, ◌≡◌, ◌⊎◌, Bool, true, ◌&&◌, ◌||◌, List, length, get_or, eqb}
use native.Mathlib.Omega.{arith}
use Rattle.std.proofs.Math.Decide.{ℕ_discrete}
use Rattle.std.proofs.Common.{ap, sym, ◌∙◌, subst, inl, inr}
use Rattle.std.proofs.Math.Logic.{⊎_elim}
use Rattle.std.proofs.Math.ListN.{get_or-eq_default}
use Rattle.std.proofs.Math.Dec.{ltb}
use borrow.Author.Tests.{eqb-true, ltb-true}
use Rattle.base_finite.specs.Below.{count_below, tabulate}
use Rattle.base_finite.specs.Laws.Test.{either, and_left, and_right, or_cases}
use Rattle.base_finite.specs.Laws.Below.{lt_or_ge, below_suc, length_tabulate, count_le}
use Rattle.base_limits.specs.Limits.{max_vertices, max_pairs, group_numbers}
use Rattle.base_limits.specs.declared.Verdict.TheVariants.{Fine}
use Rattle.base_limits.specs.Laws.Verdict.{before_fine}
use Rattle.theory_steiner.specs.Problem.{Joins, all_usable}
use Rattle.survey_core.specs.Survey.{Survey, lists_of, problem_of}
use Rattle.survey_core.specs.Pairs.{is_rising, PairSound}
use Rattle.survey_core.specs.Sound.{ByteGroups, EdgeSound, SurveySound}
use Rattle.survey_core.proofs.Laws.Pairs.{rising_first, rising_vertex, rising_group}
use Rattle.survey_core.proofs.Laws.Refusal.{survey_fine}
use Rattle.survey_core.proofs.Laws.Group.{joins_fine}
use Rattle.plan_rule.specs.Figures.{figures_refusal}
use Rattle.plan_rule.proofs.Laws.Ready.{all_bounded}
use Rattle.winter_core.specs.Bit.{carries, bit_group, passing, pair_carries, bit_survey}
use Rattle.winter_core.proofs.Laws.Passing.{Source, length_passing, count_mono}
use Rattle.winter_core.proofs.Laws.Bit.{group_carried, group_lacking, own_at, pair_source, owner_from, other_from, bit_survey_joinable}

-- ---- rising order by one number

-- The number of pair i in the order of pairs.
abbrev key : (owners others : List ℕ) → ℕ → ℕ
key owners others i = group_numbers * get_or owners i 0 + get_or others i 0

module _ (owners others : List ℕ) (bytes : (i : ℕ) → get_or others i 0 < group_numbers) where
  rising_key : (i : ℕ) → (i ≡ 0 → ⊥) → is_rising owners others i ≡ true → key owners others (i - 1) < key owners others i
  unfolding is_rising
  rising_key i later h =
      ⊎_elim
      (λ z. absurd (later (eqb-true i 0 z)))
      (λ k.
      ⊎_elim
      (λ l. omega (arith, ltb-true (get_or owners (i - 1) 0) (get_or owners i 0) l, bytes (i - 1)))
      (λ k.
      omega (
        arith,
        eqb-true (get_or owners (i - 1) 0) (get_or owners i 0) (and_left (eqb (get_or owners (i - 1) 0) (get_or owners i 0)) (ltb (get_or others (i - 1) 0) (get_or others i 0)) k),
        ltb-true (get_or others (i - 1) 0) (get_or others i 0) (and_right (eqb (get_or owners (i - 1) 0) (get_or owners i 0)) (ltb (get_or others (i - 1) 0) (get_or others i 0)) k),
      ))
      (or_cases (ltb (get_or owners (i - 1) 0) (get_or owners i 0))
      (eqb (get_or owners (i - 1) 0) (get_or owners i 0) && ltb (get_or others (i - 1) 0) (get_or others i 0)) k))
      (or_cases (eqb i 0)
      (ltb (get_or owners (i - 1) 0) (get_or owners i 0) || (eqb (get_or owners (i - 1) 0) (get_or owners i 0) && ltb (get_or others (i - 1) 0) (get_or others i 0))) h)

  key_rising : (i : ℕ) → (i ≡ 0 → ⊥) → key owners others (i - 1) < key owners others i → is_rising owners others i ≡ true
  key_rising i later h =
      ⊎_elim
      (λ l. rising_vertex owners others i later l)
      (λ g. rising_group owners others i later g (omega (arith, bytes i)) (omega (arith, bytes i)))
      (lt_or_ge (get_or owners (i - 1) 0) (get_or owners i 0))

  -- Any two pairs, one after another.
  keys_rising : ((i : ℕ) → i < length owners → is_rising owners others i ≡ true) → (i j : ℕ) → i < j → j < length owners
      → key owners others i < key owners others j
  keys_rising rising i zero b c = absurd (omega arith)
  keys_rising rising i (suc j) b c =
      let back : suc j - 1 ≡ j = omega arith in
      let step : key owners others j < key owners others (suc j) =
      subst (λ k. key owners others k < key owners others (suc j)) back (rising_key (suc j) (λ z. omega arith) (rising (suc j) c)) in
      ⊎_elim
      (λ l. omega (arith, keys_rising rising i j l (omega arith)))
      (λ e. subst (λ k. key owners others k < key owners others (suc j)) (sym e) step)
      (below_suc i j b)

module _ (s : Survey) (numbered : ByteGroups s) (sound : SurveySound s) (strengths : List ℕ) (b : ℕ) where
  abbrev into : Survey
  into = bit_survey s strengths b

  abbrev test : ℕ → Bool
  test = pair_carries strengths s.others b

  abbrev n : ℕ
  n = length s.owners

  long : length (tabulate (length s.groups) (λ v. bit_group strengths b (get_or s.groups v 0))) ≡ length s.groups
  long = length_tabulate (length s.groups) (λ v. bit_group strengths b (get_or s.groups v 0))

  -- A place before another's has a lower rank.
  earlier : (i k : ℕ) → count_below i test < count_below k test → i < k
  earlier i k h = ⊎_elim (λ l. l) (λ g. absurd (omega (arith, count_mono test k i g))) (lt_or_ge i k)

  rank_few : {j : ℕ} (f : Source test n j) → j ≤ f.at
  rank_few f = let r = f.rank in omega (arith, count_le f.at test)

  other_byte : (j : ℕ) → get_or into.others j 0 < group_numbers
  other_byte j = by (lt_or_ge j (length into.owners))
    where
      by : (j < length into.owners) ⊎ (length into.owners ≤ j) → get_or into.others j 0 < group_numbers
      by (inl c) = let f : Source test n j = pair_source s strengths b j c in rw (other_from s strengths b f) (numbered.other_byte f.at)
      by (inr c) =
          let past : length (passing test s.others n) ≤ j = omega (arith, length_passing test s.owners n, length_passing test s.others n) in
          rw (get_or-eq_default (passing test s.others n) 0 past) (omega arith)

  bit_rising : (j : ℕ) → j < length into.owners → is_rising into.owners into.others j ≡ true
  bit_rising j c = by (ℕ_discrete j 0)
    where
      by : Dec (j ≡ 0) → is_rising into.owners into.others j ≡ true
      by (yes e) = rising_first into.owners into.others j e
      by (no later) =
          let f : Source test n j = pair_source s strengths b j c in
          let g : Source test n (j - 1) = pair_source s strengths b (j - 1) (omega arith) in
          let fr = f.rank in
          let gr = g.rank in
          let lower : count_below g.at test < count_below f.at test = omega arith in
          let h = keys_rising s.owners s.others numbered.other_byte (λ i bi. (sound.pairs i bi).rising) g.at f.at (earlier g.at f.at lower) f.below in
          key_rising into.owners into.others other_byte j later
          (omega (arith, h, owner_from s strengths b f, other_from s strengths b f, owner_from s strengths b g, other_from s strengths b g))

  bit_pair : (j : ℕ) → j < length into.owners → PairSound (lists_of into) j
  bit_pair j c =
      let f : Source test n j = pair_source s strengths b j c in
      let old : PairSound (lists_of s) f.at = sound.pairs f.at f.below in
      let owned = owner_from s strengths b f in
      let other_is = other_from s strengths b f in
      record {
        below = let x = old.below in omega (arith, long);
        some = λ h. old.some (sym other_is ∙ h);
        foreign = λ h.
            ⊎_elim
            (λ k.
            old.foreign
            (sym other_is ∙ h ∙ ap (λ v. get_or into.groups v 0) owned ∙ own_at strengths b s.groups (get_or s.owners f.at 0) ∙ group_carried strengths b (get_or s.groups (get_or s.owners f.at 0) 0) k))
            (λ k.
            old.some
            (sym other_is ∙ h ∙ ap (λ v. get_or into.groups v 0) owned ∙ own_at strengths b s.groups (get_or s.owners f.at 0) ∙ group_lacking strengths b (get_or s.groups (get_or s.owners f.at 0) 0) k))
            (either (carries strengths b (get_or s.groups (get_or s.owners f.at 0) 0)));
        rising = bit_rising j c;
        few = let x = old.few in let y = rank_few f in omega arith;
      }

  pub bit_survey_sound : SurveySound into
  bit_survey_sound =
      record {
        some = subst (λ k. 1 ≤ k) (sym long) sound.some;
        few = subst (λ k. k ≤ max_vertices) (sym long) sound.few;
        seconds_long = sound.seconds_long;
        weights_long = sound.weights_long;
        edges_few = sound.edges_few;
        edges = λ e be.
            let old : EdgeSound s e = sound.edges e be in
            record {
              first_below_law = subst (λ k. get_or s.firsts e 0 < k) (sym long) old.first_below_law;
              second_below = subst (λ k. get_or s.seconds e 0 < k) (sym long) old.second_below;
              ends_differ = old.ends_differ;
              weight_le = old.weight_le;
            };
        pairs_long = length_passing test s.owners n ∙ sym (length_passing test s.others n);
        pairs = bit_pair;
      }

  -- Nothing stops the plan of a bit, where nothing stops the survey's.
  pub bit_survey_fine : Joins (problem_of s) (all_usable (problem_of s)) → figures_refusal into ≡ Fine
  unfolding figures_refusal
  bit_survey_fine joinable =
      before_fine (survey_fine into bit_survey_sound) _
      ∙ joins_fine into 8 (all_usable (problem_of into)) (all_bounded into) (bit_survey_joinable s strengths b numbered joinable)

-- There are no more pairs than places for them.
pub pairs_few : (s : Survey) → SurveySound s → length s.owners ≤ max_pairs
pairs_few s sound = by (lt_or_ge max_pairs (length s.owners))
  where
    by : (max_pairs < length s.owners) ⊎ (length s.owners ≤ max_pairs) → length s.owners ≤ max_pairs
    by (inl c) = let x = (sound.pairs max_pairs c).few in absurd (omega arith)
    by (inr c) = c
