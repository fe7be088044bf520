-- What merging promises where it refuses nothing (document 02, No. 9; law `merge_promised`).
use Rattle.std.specs.Prelude.{ℕ, ◌<◌, ◌≡◌, ◌&&◌, ◌||◌, not, cond, length, get_or, eqb}
use Rattle.survey_core.specs.Survey.{Survey, lists_of, member}
use Rattle.survey_core.specs.Lists.{is_paired}
use Rattle.survey_core.specs.Sound.{ByteGroups, SurveySound}
use Rattle.base_limits.specs.Verdict.{answer}
use Rattle.merge_rule.specs.Ties.{Ties}
use Rattle.merge_rule.specs.Merged.{merged}
use Rattle.merge_rule.specs.declared.Merged.{Merged}
use Rattle.merge_rule.specs.Refusal.{SurveyCounts, counts_of, room_of, head_of, merged_after, merged_outcome}
use Rattle.merge_rule.specs.ReadOut.{read_out, IsParts}
use Rattle.merge_rule.specs.Shifted.{no_ties, beside}
use Rattle.merge_rule.specs.Sound.{Mergeable, RoomFor}

-- 'a tied junction has those of both': junctions u of the first and v of the second are one of the result r.
pub record HasBoth (a b r : Survey) (u v : ℕ) : Type 0 where
  pub members : (g : ℕ) → member r g u ≡ (member a g u || member b g v)
  pub own_is : get_or r.groups u 0 ≡ cond (eqb (get_or a.groups u 0) 0) (get_or b.groups v 0) (get_or a.groups u 0)
  pub pairs_are : (g : ℕ) → is_paired (lists_of r) g u ≡ ((member a g u || member b g v) && not (eqb g (get_or r.groups u 0)))

-- The result is a survey that planning takes; both surveys can be read out of it; a tied junction has the memberships of both; with no
-- ties the second is only moved up; and the result stands at the head of the buffers, by the counts that were answered.
pub record MergePromise (a b : Survey) (ties : Ties) (out : Survey) : Type 0 where
  pub sound : SurveySound (merged a b ties)
  pub bytes : ByteGroups (merged a b ties)
  pub readable : IsParts a b ties (read_out (merged a b ties) ties (counts_of a) (counts_of b))
  pub tied : (i : ℕ) → i < length ties.firsts → HasBoth a b (merged a b ties) (get_or ties.firsts i 0) (get_or ties.seconds i 0)
  pub alone : ties ≡ no_ties → merged a b ties ≡ beside a b
  pub stands : head_of (counts_of (merged a b ties)) (merged_after a b ties out) ≡ merged a b ties

-- What every call promises: it finishes exactly if nothing is wrong with the surveys and the ties, and the result is within the limits and has room.
pub record MergePromises (a b : Survey) (ties : Ties) (out : Survey) (r : Merged) : Type 0 where
  pub finished : (c : SurveyCounts) → merged_outcome r ≡ answer c → MergePromise a b ties out
  pub sound_inputs : (c : SurveyCounts) → merged_outcome r ≡ answer c → Mergeable a b ties × RoomFor (counts_of (merged a b ties)) (room_of out)
  pub finishes : Mergeable a b ties → RoomFor (counts_of (merged a b ties)) (room_of out) → merged_outcome r ≡ answer (counts_of (merged a b ties))
