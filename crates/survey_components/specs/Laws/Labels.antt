-- The groups that a set of tracks leaves apart, by the labels of its components in a buffer. The code of refusals 8 and 14 uses it.
use Prim.Native.Nat.{ℕ, ◌-◌, ◌<◌, ◌≤◌}
use Rattle.std.proofs.Common.{arith, ◌∙◌}
use Rattle.std.specs.Prelude.{◌≡◌, refl, Bool, ◌&&◌, ◌||◌, not, List, [], ◌++◌, length, take, drop, replicate, eqb}
use Rattle.std.proofs.Math.Path.{ap, sym}
use Rattle.std.proofs.Math.ListN.{get_or}
use Rattle.std.proofs.lemmas.List.{length-replicate}
use Rattle.base_finite.specs.Below.{all_below, tabulate}
use Rattle.base_finite.specs.Laws.Below.{all_cong, length_tabulate, get_d_tabulate}
use Rattle.theory_graph.specs.Component.{components}
use Rattle.base_limits.specs.Limits.{max_vertices, group_numbers}
use Rattle.base_limits.specs.Verdict.{refuse_if, lowest_below, written}
use Rattle.base_limits.specs.declared.Verdict.{Verdict}
use Rattle.base_limits.specs.declared.Verdict.TheVariants.{Fine, Refused}
use Rattle.base_limits.specs.Laws.Verdict.{lowest_cong}
use Rattle.survey_core.specs.Survey.{Survey, survey_with, survey_from, vertex_count, edge_count, member, group_joined, lists_alone, components_of, problem_of}
use Rattle.survey_core.specs.Refusal.{group_refusal}
use Rattle.survey_core.specs.Sound.{SurveySound}
use Rattle.survey_components.specs.Buffer.{EndsWithin}
use Rattle.survey_components.specs.Laws.Front.{components_outside, table_front, table_front_changed}
use Rattle.survey_components.specs.Laws.Buffer.{components_stored}
use Rattle.survey_components.specs.Labels.{EndsFit, labels_of}
use Rattle.survey_components.specs.Forest.{EndsBelow}

-- A group is joined by labels that agree on the vertices.
joined_cong : (s : Survey) (f g : ℕ → ℕ) (k : ℕ) → ((v : ℕ) → v < vertex_count s → f v ≡ g v) → group_joined s f k ≡ group_joined s g k
unfolding group_joined
joined_cong s f g k h =
    all_cong
    (vertex_count s)
    (λ u. all_below (vertex_count s) (λ v. not (member s k u && member s k v) || eqb (f u) (f v)))
    (λ u. all_below (vertex_count s) (λ v. not (member s k u && member s k v) || eqb (g u) (g v)))
    (λ u ub.
    all_cong
    (vertex_count s)
    (λ v. not (member s k u && member s k v) || eqb (f u) (f v))
    (λ v. not (member s k u && member s k v) || eqb (g u) (g v))
    (λ v vb. rw (h u ub, h v vb)))

-- Only the lists of a survey say which group is joined.
joined_groups : (s : Survey) (label : ℕ → ℕ) (g : ℕ) → group_joined (lists_alone s.groups s.owners s.others) label g ≡ group_joined s label g
unfolding group_joined member vertex_count
joined_groups s label g = refl

-- The refusal by labels of the vertices in a buffer is the refusal by the components of F.
pub refusal_by_table : (s : Survey) (F : ℕ → Bool) (number : ℕ) (labels : List ℕ)
    → ((v : ℕ) → v < length s.groups
    → get_or labels v 0 ≡ components max_vertices (λ e. get_or s.firsts e 0) (λ e. get_or s.seconds e 0) F (length s.firsts) v)
    → lowest_below group_numbers (λ g. refuse_if (not (group_joined (lists_alone s.groups s.owners s.others) (λ v. get_or labels v 0) g)) number g)
    ≡ group_refusal s number F
unfolding group_refusal components_of problem_of vertex_count edge_count
refusal_by_table s F number labels h =
    lowest_cong
    group_numbers
    (λ g. refuse_if (not (group_joined (lists_alone s.groups s.owners s.others) (λ v. get_or labels v 0) g)) number g)
    (λ g. refuse_if (not (group_joined s label g)) number g)
    (λ g b. ap (λ x. refuse_if (not x) number g) (joined_groups s (λ v. get_or labels v 0) g ∙ joined_cong s (λ v. get_or labels v 0) label g at))
  where
    label : ℕ → ℕ
    label = components (length s.groups) (λ e. get_or s.firsts e 0) (λ e. get_or s.seconds e 0) F (length s.firsts)

    at : (v : ℕ) → v < length s.groups → get_or labels v 0 ≡ label v
    at v b = h v b ∙ components_stored max_vertices (length s.groups) (λ e. get_or s.firsts e 0) (λ e. get_or s.seconds e 0) F (length s.firsts) v

-- The labels of all that a buffer has room for.
pub refusal_by_labels : (s : Survey) (F : ℕ → Bool) (number : ℕ) {labels : List ℕ} → length s.groups ≤ max_vertices
    → labels ≡ labels_of s F
    → lowest_below group_numbers (λ g. refuse_if (not (group_joined (lists_alone s.groups s.owners s.others) (λ v. get_or labels v 0) g)) number g)
    ≡ group_refusal s number F
unfolding labels_of
refusal_by_labels s F number {labels} few h = refusal_by_table s F number labels (λ v b. ap (λ t. get_or t v 0) h ∙ get_d_tabulate max_vertices _ v 0 (omega arith))

-- Labels of a survey fill a buffer for every survey, also those of a refused one.
pub length_labels : (s : Survey) (F : ℕ → Bool) (v : Verdict) {labels : List ℕ} → labels ≡ written v (labels_of s F) (replicate max_vertices 0) → length labels ≡ max_vertices
unfolding written labels_of
length_labels s F Fine h = ap length h ∙ length_tabulate max_vertices _
length_labels s F (Refused number place) h = ap length h ∙ length-replicate {A = ℕ} max_vertices 0

-- The same where they are known to be labels.
pub long_labels : (s : Survey) (F : ℕ → Bool) {labels : List ℕ} → labels ≡ labels_of s F → length labels ≡ max_vertices
unfolding labels_of
long_labels s F h = ap length h ∙ length_tabulate max_vertices _

-- Labels go by the ends alone.
pub labels_plain : (groups firsts seconds weights : List ℕ) (F : ℕ → Bool) → labels_of (survey_from groups firsts seconds []) F ≡ labels_of (survey_from groups firsts seconds weights) F
unfolding labels_of
labels_plain groups firsts seconds weights F = refl

-- The lists of a survey, by the labels of its tracks.
pub lists_by_labels : (groups firsts seconds weights owners others : List ℕ) (F : ℕ → Bool) (number : ℕ) {labels : List ℕ} → length groups ≤ max_vertices
    → labels ≡ labels_of (survey_from groups firsts seconds []) F
    → lowest_below group_numbers (λ g. refuse_if (not (group_joined (lists_alone groups owners others) (λ v. get_or labels v 0) g)) number g)
    ≡ group_refusal (survey_with groups firsts seconds weights owners others) number F
unfolding labels_of
lists_by_labels groups firsts seconds weights owners others F number few h =
    refusal_by_labels (survey_with groups firsts seconds weights owners others) F number few h

-- ---- labels of the vertices of a survey whose ends are vertices, in a buffer for every survey

-- Every end of a sound survey is a vertex.
pub sound_ends : (s : Survey) → SurveySound s → EndsBelow s.groups s.firsts s.seconds
sound_ends s sound =
    record { few = sound.few; first_below_law = λ e b. (sound.edges e b).first_below_law; second_below = λ e b. (sound.edges e b).second_below }

module _ (s : Survey) (ok : EndsBelow s.groups s.firsts s.seconds) {labels : List ℕ} (numbered : labels ≡ tabulate max_vertices (λ v. v)) where
  ends_within : EndsWithin (length s.groups) (length s.firsts) (λ e. get_or s.firsts e 0) (λ e. get_or s.seconds e 0)
  ends_within = record { first_within = ok.first_below_law; second_within = ok.second_below }

  front_long : length (take (length s.groups - 0) labels) ≡ length s.groups
  front_long = ap length (table_front (length s.groups) max_vertices (λ v. v) ok.few numbered) ∙ length_tabulate (length s.groups) (λ v. v)

  pub front_fits : EndsFit s.firsts s.seconds (take (length s.groups - 0) labels)
  front_fits =
      record {
        own = rw front_long (table_front (length s.groups) max_vertices (λ v. v) ok.few numbered);
        ends = rw front_long ends_within;
      }

  -- The places behind the vertices keep their numbers.
  pub front_labelled : (F : ℕ → Bool) {front : List ℕ}
      → front ≡ tabulate (length (take (length s.groups - 0) labels)) (components max_vertices (λ e. get_or s.firsts e 0) (λ e. get_or s.seconds e 0) F (length s.firsts))
      → front ++ drop (length s.groups - 0) labels ≡ labels_of s F
  unfolding labels_of
  front_labelled F h =
      let label : ℕ → ℕ = components max_vertices (λ e. get_or s.firsts e 0) (λ e. get_or s.seconds e 0) F (length s.firsts) in
      table_front_changed (length s.groups) max_vertices (λ v. v) label ok.few numbered
      (λ v b. sym (components_outside max_vertices (length s.groups) _ _ F (length s.firsts) ends_within v b))
      (h ∙ ap (λ k. tabulate k label) front_long)
