-- A crew's sheet has the kept tracks: what a kept track is needed for is the same whether the other picked tracks are judged or the other kept ones. The picked tracks are a forest, so
-- what two members of a list are linked by is one route, and the kept tracks have it.
use Rattle.std.specs.Prelude.{ℕ, ◌<◌, ◌≡◌, ◌↔◌, Bool, true}
use Rattle.std.proofs.Common.{arith}
use Rattle.theory_graph.specs.Path.{Linked, without, Forest}
use Rattle.theory_graph.proofs.Laws.Linked.{linked_trans, linked_sym, linked_mono, without_mono, Through, avoids, forwards, backwards, through_without}
use Rattle.theory_steiner.specs.Problem.{Sound, Joins, all_usable}
use Rattle.theory_steiner.specs.Pruning.{picked, kept}
use Rattle.theory_steiner.proofs.Laws.Finish.{kept_joins, kept_picked, picked_acyclic}
use Rattle.survey_core.specs.Survey.{Survey, vertex_count, member, problem_of, JoinsGroup}
use Rattle.survey_core.specs.Sound.{SurveySound}
use Rattle.survey_core.specs.Refusal.{LowestUnjoined}
use Rattle.survey_core.proofs.Laws.Refusal.{survey_sound}
use Rattle.survey_core.proofs.Laws.Group.{joins_groups}
use Rattle.why_rule.specs.Reason.{others}
use Rattle.why_rule.specs.True.{LinkedBy, other_kept, LowestPair}

-- In a forest F with edge e: what the other edges of F link, and edges K of F link, the other edges of K link.
part_links : {a b : ℕ → ℕ} {F K : ℕ → Bool} (e : ℕ) → Forest a b F → F e ≡ true → ((f : ℕ) → K f ≡ true → F f ≡ true) → {u w : ℕ}
    → Linked a b (without F e) u w → Linked a b K u w → Linked a b (without K e) u w
part_links {a} {b} {F} {K} e forest there sub {u} {w} other link = by (through_without e link)
  where
    wide : {x y : ℕ} → Linked a b (without K e) x y → Linked a b (without F e) x y
    wide l = linked_mono (without_mono e sub) l

    by : Through a b (without K e) e u w → Linked a b (without K e) u w
    by (avoids l) = l
    by (forwards l m) = absurd (forest e there (linked_trans (linked_sym (wide l)) (linked_trans other (linked_sym (wide m)))))
    by (backwards l m) = absurd (forest e there (linked_trans (wide m) (linked_trans (linked_sym other) (wide l))))

module _ (s : Survey) (sound : SurveySound s) (joinable : Joins (problem_of s) (all_usable (problem_of s))) (e : ℕ) (is_kept : kept (problem_of s) e ≡ true) where
  ok : Sound (problem_of s)
  ok = survey_sound s sound

  some : 0 < (problem_of s).vertices
  unfolding problem_of vertex_count
  some = sound.some

  within : (f : ℕ) → kept (problem_of s) f ≡ true → picked (problem_of s) f ≡ true
  within = kept_picked (problem_of s) ok some joinable

  -- The other kept tracks link two members of one list exactly if the other picked ones do.
  pub others_alike : (g x y : ℕ) → x < vertex_count s → y < vertex_count s → member s g x ≡ true → member s g y ≡ true
      → LinkedBy s (others s e) x y ↔ LinkedBy s (other_kept s e) x y
  others_alike g x y bx cy mx my = (
    λ l.
        part_links e (picked_acyclic (problem_of s) ok some joinable) (within e is_kept) within l
        (joins_groups s (kept (problem_of s)) (kept_joins (problem_of s) ok some joinable) g x y bx cy mx my),
    λ l. linked_mono (without_mono e within) l,
  )

  group_alike : (g : ℕ) → JoinsGroup s (others s e) g ↔ JoinsGroup s (other_kept s e) g
  group_alike g = (
    λ h u v bu bv mu mv. (others_alike g u v bu bv mu mv).0 (h u v bu bv mu mv),
    λ h u v bu bv mu mv. (others_alike g u v bu bv mu mv).1 (h u v bu bv mu mv),
  )

  -- So the lowest list is the same,
  pub kept_list : {g : ℕ} → LowestUnjoined s (others s e) g → LowestUnjoined s (other_kept s e) g
  kept_list {g} h =
      record {
        below = h.below;
        unjoined = λ j. h.unjoined ((group_alike g).1 j);
        lower = λ i b. (group_alike i).0 (h.lower i b);
      }

  -- and the lowest pair of its members.
  pub kept_pair : {g u w : ℕ} → LowestPair s (others s e) g u w → LowestPair s (other_kept s e) g u w
  kept_pair {g} {u} {w} h =
      record {
        rising = h.rising;
        below = h.below;
        low_member_law = h.low_member_law;
        high_member_law = h.high_member_law;
        parted = λ l. h.parted (linked_mono (without_mono e within) l);
        lowest = λ x y c b mx my d. h.lowest x y c b mx my (λ l. d ((others_alike g x y (lower x y c b) b mx my).0 l));
      }
    where
      lower : (x y : ℕ) → x < y → y < vertex_count s → x < vertex_count s
      lower x y c b = omega arith
