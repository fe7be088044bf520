-- Merging keeps its promise (document 02, No. 9).
use Rattle.std.specs.Prelude.{ℕ, ◌<◌, ◌≡◌, refl, Bool, true, false, cond, length, get_or, drop, eqb}
use Rattle.std.proofs.Common.{arith, ap, sym, subst, ◌∙◌, ⊎_elim, take_at}
use Rattle.std.proofs.Math.ListN.{get_or-eq_default}
use Rattle.base_finite.specs.Laws.Below.{lt_or_ge}
use Rattle.base_limits.specs.Limits.{group_numbers}
use Rattle.base_limits.specs.declared.Verdict.TheVariants.{Fine}
use Rattle.base_limits.specs.Verdict.{outcome, answer}
use Rattle.base_limits.specs.Laws.Verdict.{written_fine, answer_fine}
use Rattle.survey_core.specs.Survey.{Survey, vertex_count, edge_count}
use Rattle.survey_core.specs.Sound.{ByteGroups, SurveySound}
use Rattle.merge_rule.specs.Ties.{Ties}
use Rattle.merge_rule.specs.Merged.{merged_vertices, second_at, own_at, merged}
use Rattle.merge_rule.specs.declared.Merged.{Merged}
use Rattle.merge_rule.specs.Refusal.{SurveyCounts, counts_of, room_of, merge_refusal, merging, merged_outcome, over, head_of, merged_after}
use Rattle.merge_rule.specs.Sound.{Mergeable}
use Rattle.merge_rule.specs.Promise.{MergePromise, MergePromises}
use Rattle.merge_rule.specs.Shifted.{beside}
use Rattle.merge_rule.proofs.Laws.Refusal.{fine_merge, fine_merge_room, merge_fine}
use Rattle.merge_rule.proofs.Laws.Member.{merged_vertices_law, merged_own, merged_other, tied_members, tied_own, tied_pairs}
use Rattle.merge_rule.proofs.Laws.Sound.{merged_sound}
use Rattle.merge_rule.proofs.Laws.ReadOut.{reads_back}
use Rattle.merge_rule.proofs.Laws.Shifted.{merged_beside}

-- ---- groups stay bytes

own_is_byte : (a b : Survey) (ties : Ties) → ByteGroups a → ByteGroups b → (w : ℕ) → own_at a b ties w < group_numbers
unfolding own_at
own_is_byte a b ties ga gb w = by (eqb (get_or a.groups w 0) 0)
  where
    by : (t : Bool) → cond t (get_or b.groups (second_at a b ties w) 0) (get_or a.groups w 0) < group_numbers
    by true = gb.own_byte (second_at a b ties w)
    by false = ga.own_byte w

pub merged_bytes : (a b : Survey) (ties : Ties) → ByteGroups a → ByteGroups b → ByteGroups (merged a b ties)
merged_bytes a b ties ga gb =
    record {
      own_byte = λ w.
          ⊎_elim
          (λ h. rw (merged_own a b ties w h) (own_is_byte a b ties ga gb w))
          (λ h. rw (get_or-eq_default (merged a b ties).groups 0 {n = w} (let e = merged_vertices_law a b ties in omega arith)) (omega arith))
          (lt_or_ge w (merged_vertices a b ties));
      other_byte = λ i. rw (merged_other a b ties i) (omega arith);
    }

-- ---- the buffers

-- The survey at the head of what was written over the buffers.
pub head_over : (s out : Survey) → length s.firsts ≡ length s.seconds → length s.firsts ≡ length s.weights
    → length s.owners ≡ length s.others → head_of (counts_of s) (over s out) ≡ s
unfolding head_of over counts_of vertex_count edge_count
head_over s out e f g i =
    record {
      groups = take_at s.groups (drop (length s.groups) out.groups) (length s.groups) refl i;
      firsts = take_at s.firsts (drop (length s.firsts) out.firsts) (length s.firsts) refl i;
      seconds = take_at s.seconds (drop (length s.seconds) out.seconds) (length s.firsts) (sym e) i;
      weights = take_at s.weights (drop (length s.weights) out.weights) (length s.firsts) (sym f) i;
      owners = take_at s.owners (drop (length s.owners) out.owners) (length s.owners) refl i;
      others = take_at s.others (drop (length s.others) out.others) (length s.owners) (sym g) i;
    }

pub result_stands : (a b : Survey) (ties : Ties) (out : Survey) → merge_refusal a b ties (room_of out) ≡ Fine
    → head_of (counts_of (merged a b ties)) (merged_after a b ties out) ≡ merged a b ties
unfolding merged_after
result_stands a b ties out h =
    let s : SurveySound (merged a b ties) = merged_sound a b ties (fine_merge a b ties (room_of out) h) in
    ap (head_of (counts_of (merged a b ties))) (sym (written_fine (over (merged a b ties) out) out refl h))
    ∙ head_over (merged a b ties) out s.seconds_long s.weights_long s.pairs_long

-- ---- the whole

pub merge_promised : (a b : Survey) (ties : Ties) (out : Survey) → ByteGroups a → ByteGroups b → merge_refusal a b ties (room_of out) ≡ Fine
    → MergePromise a b ties out
merge_promised a b ties out ga gb h =
    let k : Mergeable a b ties = fine_merge a b ties (room_of out) h in
    record {
      sound = merged_sound a b ties k;
      bytes = merged_bytes a b ties ga gb;
      readable = reads_back a b ties k.first_sound k.second_sound k.ties_sound ga gb;
      tied = λ i c.
          record {
            members = tied_members a b ties k.first_sound k.second_sound k.ties_sound ga gb i c;
            own_is = tied_own a b ties k.first_sound k.second_sound k.ties_sound ga gb i c;
            pairs_are = tied_pairs a b ties k.first_sound k.second_sound k.ties_sound ga gb i c;
          };
      alone = λ e. subst (λ t. merged a b t ≡ beside a b) (sym e) (merged_beside a b k.first_sound k.second_sound ga gb);
      stands = result_stands a b ties out h;
    }

-- Every call's answer by the definition has them.
pub merge_promises : (a b : Survey) (ties : Ties) (out : Survey) → ByteGroups a → ByteGroups b → {r : Merged}
    → merged_outcome r ≡ merging a b ties (room_of out) → MergePromises a b ties out r
unfolding merging outcome
merge_promises a b ties out ga gb {r} is =
    record {
      finished = λ c h. merge_promised a b ties out ga gb (fine c h);
      sound_inputs = λ c h. (fine_merge a b ties (room_of out) (fine c h), fine_merge_room a b ties (room_of out) (fine c h));
      finishes = λ h k. is ∙ ap (λ v. outcome v (counts_of (merged a b ties))) (merge_fine a b ties (room_of out) h k);
    }
  where
    fine : (c : SurveyCounts) → merged_outcome r ≡ answer c → merge_refusal a b ties (room_of out) ≡ Fine
    fine c h = (answer_fine (merge_refusal a b ties (room_of out)) (counts_of (merged a b ties)) c (sym is ∙ h)).0
