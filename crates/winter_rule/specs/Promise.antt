-- What the call promises beside its answer and its buffer (document 02, No. 13). Laws/Promise proves it of every call.
use Rattle.std.specs.Prelude.{ℕ, ◌*◌, ◌-◌, ◌≤◌, ◌<◌, ◌≡◌, ◌⊎◌, Bool, true, false, List, length, get_or, drop}
use Rattle.base_finite.specs.Below.{counted}
use Rattle.base_limits.specs.Verdict.{Outcome, refusal, answer}
use Rattle.theory_steiner.specs.Problem.{Joins, all_usable, terminals}
use Rattle.theory_steiner.specs.Pruning.{kept}
use Rattle.theory_steiner.specs.Strength.{crossings, copies_cost}
use Rattle.survey_core.specs.Survey.{Survey, vertex_count, edge_count, member, problem_of}
use Rattle.survey_core.specs.Sound.{SurveySound}
use Rattle.survey_core.specs.Refusal.{LowestUnjoined}
use Rattle.plan_rule.specs.Plan.{plan_of}
use Rattle.winter_rule.specs.Winter.{strength_count, max_strength, strength_of, total_price}

-- x e copies of track e meet the strengths: a division S of the junctions with members of a group on both sides is crossed by as many copies as the
-- group's strength, or more.
abbrev pub MeetsAll : Survey → (strengths : List ℕ) → (x : ℕ → ℕ) → Type 0
MeetsAll s strengths x =
    (S : ℕ → Bool) (g u v : ℕ) → u < vertex_count s → v < vertex_count s → member s g u ≡ true → member s g v ≡ true
    → S u ≡ true → S v ≡ false → strength_of strengths g ≤ crossings (problem_of s) x S

-- The accuracy rule for copies that cost c: no copies that meet the strengths, however many of a track, have a price which, times 4(2k - 2), is below k
-- times c; with no site, c is 0.
pub record WinterAccurate (s : Survey) (strengths : List ℕ) (k c : ℕ) : Type 0 where
  pub factor : (x : ℕ → ℕ) → MeetsAll s strengths x → k * c ≤ 4 * (2 * k - 2) * copies_cost (problem_of s) x
  pub free : k ≡ 0 → c ≡ 0

-- A strength from 1 to 15.
pub record StrengthSound (strength : ℕ) : Type 0 where
  pub some : 1 ≤ strength
  pub most : strength ≤ max_strength

-- What 24 leaves of a list of strengths.
pub record StrengthsSound (strengths : List ℕ) : Type 0 where
  pub long : length strengths ≡ strength_count
  pub each : (g : ℕ) → 1 ≤ g → g ≤ strength_count → StrengthSound (strength_of strengths g)

-- Of 255 strengths that of group g is the first that is 0 or over 15.
pub record LowestUnfit (strengths : List ℕ) (g : ℕ) : Type 0 where
  pub some : 1 ≤ g
  pub most : g ≤ strength_count
  pub unfit : (strength_of strengths g ≡ 0) ⊎ (max_strength < strength_of strengths g)
  pub lower : (i : ℕ) → 1 ≤ i → i < g → StrengthSound (strength_of strengths i)

-- None of 1 to 6, 18, 24, 7 and 8 applies.
pub record WinterReady (s : Survey) (strengths : List ℕ) (copies_length : ℕ) : Type 0 where
  pub survey : SurveySound s
  pub strengths_sound : StrengthsSound strengths
  pub copies_long : edge_count s ≤ copies_length
  pub joinable : Joins (problem_of s) (all_usable (problem_of s))

-- Every group has strength 1.
abbrev pub AllOne : (strengths : List ℕ) → Type 0
AllOne strengths = (g : ℕ) → 1 ≤ g → g ≤ strength_count → strength_of strengths g ≡ 1

-- What stands in the bytes of a call that answers this total.
pub record WinterCopies (s : Survey) (strengths after : List ℕ) (total : ℕ) : Type 0 where
  -- the copies of each track, whose price is the total
  pub price : copies_cost (problem_of s) (λ e. get_or after e 0) ≡ total
  pub few : (e : ℕ) → e < edge_count s → get_or after e 0 ≤ max_strength
  -- they meet every strength, and are near the cheapest that do, by the survey's own k
  pub meets : MeetsAll s strengths (λ e. get_or after e 0)
  pub accurate : WinterAccurate s strengths (terminals (problem_of s)) total
  -- with every strength 1 they are planning's kept tracks, at its cost
  pub plain_cost : AllOne strengths → total ≡ (plan_of (problem_of s)).cost
  pub plain_copies : AllOne strengths → (e : ℕ) → e < edge_count s → get_or after e 0 ≡ counted (kept (problem_of s) e) 1

-- What a call answers and leaves, for any survey, list and buffer.
pub record WinterPromises (s : Survey) (strengths before after : List ℕ) (o : Outcome ℕ) : Type 0 where
  -- answered exactly if no refusal applies
  pub ready : (total : ℕ) → o ≡ answer total → WinterReady s strengths (length before)
  pub goes : WinterReady s strengths (length before) → o ≡ answer (total_price s strengths)
  -- 24 after 1 to 6 and 18: at 0 for a list of another length, else at the lowest group, with members or without
  pub other_length : SurveySound s → (length strengths ≡ strength_count → ⊥) → o ≡ refusal 24 0
  pub unfit : SurveySound s → length strengths ≡ strength_count → (g : ℕ) → LowestUnfit strengths g → o ≡ refusal 24 g
  -- then 7, then 8: the lowest group of the whole survey that no set of tracks joins
  pub short : SurveySound s → StrengthsSound strengths → length before < edge_count s → o ≡ refusal 7 0
  pub unjoinable : SurveySound s → StrengthsSound strengths → edge_count s ≤ length before → (g : ℕ) → LowestUnjoined s (all_usable (problem_of s)) g
      → o ≡ refusal 8 g
  -- a refusal writes nothing; an answer writes the copies, and what stands behind them stays
  pub unwritten : (number place : ℕ) → o ≡ refusal number place → after ≡ before
  pub copied : (total : ℕ) → o ≡ answer total → WinterCopies s strengths after total
  pub rest : drop (edge_count s) after ≡ drop (edge_count s) before
