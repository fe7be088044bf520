-- Merging: counts that fit, and it is the library's own; too short, and a group buffer of no length is lent on, which is refused.
use Rattle.std.specs.Prelude.{ℕ, ◌+◌, ◌*◌, ◌-◌, ◌≡◌, Bool, true, false, take, ltb}
use Rattle.std.proofs.Common.{arith, subst, ◌∙◌}
use Rattle.std.proofs.Math.Nat.{sub-zero}
use Rattle.std.proofs.Math.Path.{refl, ap, sym}
use Rattle.std.proofs.Math.Bool.{cond}
use mathlib.Core.List.{List, [], ◌∷◌, ◌++◌, append-nil}
use Rattle.std.proofs.Math.ListN.{length, drop}
use Rattle.std.proofs.Math.Seq.{sets, length-take-le}
use Rattle.base_limits.specs.Verdict.{Outcome, outcome, written}
use Rattle.base_limits.specs.declared.Verdict.{Verdict}
use Rattle.base_limits.specs.declared.Verdict.TheVariants.{Fine, Refused}
use Rattle.survey_core.specs.Survey.{Survey, survey_with, vertex_count}
use Rattle.merge_rule.specs.Ties.{Ties}
use Rattle.merge_rule.specs.Merged.{merged}
use Rattle.merge_rule.specs.declared.Merged.{Merged}
use Rattle.merge_rule.specs.declared.Merged.TheVariants.{Finished as MergedFinished, Refused as MergedRefused}
use Rattle.merge_rule.specs.Refusal.{SurveyCounts, counts_of, room_from, room_of, merge_refusal, merging, merged_outcome, over, merged_after}
use Rattle.merge_rule.proofs.Laws.Refusal.{fine_merge, fine_merge_room}
use Rattle.merge_rule.proofs.Laws.Sound.{merged_sound}
use Rattle.api_code.specs.Code.{place_unit, code_of, capped, verdict_of, counts_for, counts_after, lent_on}
use Rattle.api_code.specs.Laws.Encodable.{Encodable, capped_code}
use Rattle.api_code.specs.Laws.Lending.{lent_le, lent_part, lent_rest}
use Rattle.api_merge.specs.Call.{merge_figures, merge_figures_of, lent_room, call_refusal, merge_out, merge_counts}
use Rattle.api_merge.specs.Laws.Encodable.{merge_encodable}

-- The arms of `merge_code`.
module _ {p : Merged} where
  pub code_refused : {number place code : ℕ} (counts : List ℕ) → p ≡ MergedRefused number place → code ≡ capped (number + place_unit * place)
      → (code ≡ capped (code_of (verdict_of (merged_outcome p)))) × (counts ≡ counts_for (merged_outcome p) merge_figures_of counts)
  unfolding code_of verdict_of merged_outcome counts_for
  code_refused counts e h =
      (h ∙ sym (ap (λ (q : Merged). capped (code_of (verdict_of (merged_outcome q)))) e), sym (ap (λ (q : Merged). counts_for (merged_outcome q) merge_figures_of counts) e))

  pub code_merged : {n m k x y z : ℕ} {counts' : List ℕ} (counts : List ℕ) → p ≡ MergedFinished n m k → x ≡ n → y ≡ m → z ≡ k → counts' ≡ sets counts 0 (x ∷ y ∷ z ∷ [])
      → (0 ≡ capped (code_of (verdict_of (merged_outcome p)))) × (counts' ≡ counts_for (merged_outcome p) merge_figures_of counts)
  unfolding capped code_of verdict_of merged_outcome counts_for merge_figures_of
  code_merged {n = n} {m = m} {y = y} {z = z} counts e f g h k = (
    sym (ap (λ (q : Merged). capped (code_of (verdict_of (merged_outcome q)))) e),
    k ∙ ap (λ (a : ℕ). sets counts 0 (a ∷ y ∷ z ∷ [])) f ∙ ap (λ (b : ℕ). sets counts 0 (n ∷ b ∷ z ∷ [])) g ∙ ap (λ (b : ℕ). sets counts 0 (n ∷ m ∷ b ∷ [])) h
        ∙ sym (ap (λ (q : Merged). counts_for (merged_outcome q) merge_figures_of counts) e),
  )

verdict_outcome : {A : Type 0} (v : Verdict) (x : A) → verdict_of (outcome v x) ≡ v
unfolding verdict_of outcome
verdict_outcome Fine x = refl
verdict_outcome (Refused number place) x = refl

counts_outcome_law : {A : Type 0} (v : Verdict) (x : A) (figures : A → List ℕ) (counts : List ℕ) → counts_for (outcome v x) figures counts ≡ counts_after v (figures x) counts
unfolding counts_for outcome counts_after written
counts_outcome_law Fine x figures counts = refl
counts_outcome_law (Refused number place) x figures counts = refl

-- A buffer that was written, or kept, with what is not lent on behind it.
rest_kept : (b : Bool) (v : Verdict) (new l : List ℕ) → (b ≡ true → v ≡ Fine → ⊥)
    → written v (new ++ drop (length new) (cond b [] l)) (cond b [] l) ++ cond b l [] ≡ written v (new ++ drop (length new) l) l
unfolding written
rest_kept true Fine new l h = absurd (h refl refl)
rest_kept true (Refused number place) new l h = refl
rest_kept false Fine new l h = append-nil (new ++ drop (length new) l)
rest_kept false (Refused number place) new l h = append-nil l

-- A field of what was written.
field : (v : Verdict) (values : Survey → List ℕ) (new old : Survey) → values (written v new old) ≡ written v (values new) (values old)
unfolding written
field Fine values new old = refl
field (Refused number place) values new old = refl

-- What merging answers and leaves where so much of the group buffer is lent on.
module _ (a b : Survey) (ties : Ties) (out : Survey) (counts : List ℕ) {room : ℕ} (lent : room ≡ lent_on (length counts) merge_figures (length out.groups)) where
  abbrev part : Survey
  part = survey_with (take (room - 0) out.groups) out.firsts out.seconds out.weights out.owners out.others

  room_is : room_of part ≡ lent_room (room_of out) (length counts)
  unfolding room_of lent_room
  room_is =
      let size : length (take (room - 0) out.groups) ≡ lent_on (length counts) merge_figures (length out.groups) =
      length-take-le (room - 0) out.groups (let l = lent_le _ _ _ lent in omega arith) ∙ sub-zero room ∙ lent in
      ap (λ (n : ℕ). room_from n (length out.firsts) (length out.seconds) (length out.weights) (length out.owners) (length out.others)) size

  same_refusal : merge_refusal a b ties (room_of part) ≡ call_refusal a b ties (room_of out) (length counts)
  unfolding call_refusal
  same_refusal = ap (merge_refusal a b ties) room_is

  -- Counts that do not fit are refused.
  pub short_counts : ltb (length counts) merge_figures ≡ true → call_refusal a b ties (room_of out) (length counts) ≡ Fine → ⊥
  unfolding call_refusal lent_room lent_on counts_of vertex_count
  short_counts short fine =
      let some = (merged_sound a b ties (fine_merge a b ties (lent_room (room_of out) (length counts)) fine)).some in
      let fits = (fine_merge_room a b ties (lent_room (room_of out) (length counts)) fine).groups in
      let none : lent_on (length counts) merge_figures (room_of out).groups ≡ 0 = ap (λ (t : Bool). cond t 0 (room_of out).groups) short in
      omega (arith, some, fits, none)

  abbrev found : Verdict
  found = call_refusal a b ties (room_of out) (length counts)

  module _ {held f d p o x : List ℕ} (stands : survey_with held f d p o x ≡ merged_after a b ties part) where
    left : survey_with held f d p o x ≡ written found (over (merged a b ties) part) part
    unfolding merged_after
    left = stands ∙ ap (λ (v : Verdict). written v (over (merged a b ties) part) part) same_refusal

    groups_left : held ++ drop (room - 0) out.groups ≡ (merge_out a b ties out (length counts)).groups
    unfolding merge_out over
    groups_left =
        ap (λ (s : Survey). s.groups ++ drop (room - 0) out.groups) left
        ∙ ap (λ (l : List ℕ). l ++ drop (room - 0) out.groups) (field found (λ s. s.groups) (over (merged a b ties) part) part)
        ∙ ap (λ (l : List ℕ). written found ((merged a b ties).groups ++ drop (length (merged a b ties).groups) l) l ++ drop (room - 0) out.groups)
        (lent_part (length counts) merge_figures out.groups lent)
        ∙ ap (λ (l : List ℕ). written found ((merged a b ties).groups ++ drop (length (merged a b ties).groups) (cond (ltb (length counts) merge_figures) [] out.groups)) (cond (ltb (length counts) merge_figures) [] out.groups) ++ l)
        (lent_rest (length counts) merge_figures out.groups lent)
        ∙ rest_kept (ltb (length counts) merge_figures) found (merged a b ties).groups out.groups short_counts
        ∙ sym (field found (λ s. s.groups) (over (merged a b ties) out) out)

    -- The five buffers that are lent on whole.
    whole_left : (values : Survey → List ℕ) → values (over (merged a b ties) part) ≡ values (over (merged a b ties) out) → values part ≡ values out
        → values (survey_with held f d p o x) ≡ values (merge_out a b ties out (length counts))
    unfolding merge_out
    whole_left values new_same old_same =
        ap values left
        ∙ field found values (over (merged a b ties) part) part
        ∙ ap (λ (l : List ℕ). written found l (values part)) new_same
        ∙ ap (written found (values (over (merged a b ties) out))) old_same
        ∙ sym (field found values (over (merged a b ties) out) out)

    buffers_left : survey_with (held ++ drop (room - 0) out.groups) f d p o x ≡ merge_out a b ties out (length counts)
    unfolding over
    buffers_left i =
        record {
          groups = groups_left i;
          firsts = whole_left (λ s. s.firsts) refl refl i;
          seconds = whole_left (λ s. s.seconds) refl refl i;
          weights = whole_left (λ s. s.weights) refl refl i;
          owners = whole_left (λ s. s.owners) refl refl i;
          others = whole_left (λ s. s.others) refl refl i;
        }

    pub merge_into : (r : Merged) → merged_outcome r ≡ merging a b ties (room_of part) → {code : ℕ} {counts' : List ℕ} → code ≡ capped (code_of (verdict_of (merged_outcome r))) → counts' ≡ counts_for (merged_outcome r) merge_figures_of counts
        → (code ≡ code_of found)
        × ((survey_with (held ++ drop (room - 0) out.groups) f d p o x ≡ merge_out a b ties out (length counts))
        × (counts' ≡ merge_counts a b ties (room_of out) counts))
    unfolding merging merge_counts
    merge_into r answered h k =
        let same : merged_outcome r ≡ outcome found (counts_of (merged a b ties)) =
        answered ∙ ap (λ (v : Verdict). outcome v (counts_of (merged a b ties))) same_refusal in
        let code =
        h
        ∙ ap (λ (o : Outcome SurveyCounts). capped (code_of (verdict_of o))) same
        ∙ ap (λ (v : Verdict). capped (code_of v)) (verdict_outcome found (counts_of (merged a b ties)))
        ∙ capped_code found (subst Encodable same_refusal (merge_encodable a b ties (room_of part))) in
        (code, (buffers_left, k ∙ ap (λ (o : Outcome SurveyCounts). counts_for o merge_figures_of counts) same ∙ counts_outcome_law found (counts_of (merged a b ties)) merge_figures_of counts))
