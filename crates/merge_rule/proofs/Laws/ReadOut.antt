-- Both surveys are read out of the result again (document 02, No. 9).
use Rattle.std.specs.Prelude.{ℕ, suc, ◌<◌, ◌≡◌, List, [], ◌∷◌, map, ◌++◌, get_or, take, drop}
use Rattle.std.proofs.Common.{arith, ap, sym, ◌∙◌, drop_at, take_all}
use Rattle.std.proofs.Math.Path.{refl}
use Rattle.std.proofs.Math.ListN.{length}
use Rattle.std.proofs.lemmas.List.{length-map}
use Rattle.std.proofs.Math.Seq.{take_at}
use Rattle.survey_core.specs.Survey.{Survey, vertex_count, edge_count}
use Rattle.survey_core.specs.Sound.{ByteGroups, SurveySound}
use Rattle.merge_rule.specs.Ties.{Ties, placed, standing_at}
use Rattle.merge_rule.specs.Merged.{merged}
use Rattle.merge_rule.specs.Refusal.{counts_of}
use Rattle.merge_rule.specs.ReadOut.{read_out, IsParts}
use Rattle.merge_rule.specs.Sound.{TiesSound}
use Rattle.merge_rule.proofs.Laws.Placed.{standing_placed}
use Rattle.merge_rule.proofs.Laws.Member.{first_members, second_members}

-- A map that undoes another on every element of a list.
undone : (f g : ℕ → ℕ) (l : List ℕ) → ((i : ℕ) → i < length l → f (g (get_or l i 0)) ≡ get_or l i 0) → map f (map g l) ≡ l
undone f g [] h = refl
undone f g (x ∷ l) h =
    let head : f (g x) ≡ x = h 0 (omega arith) in
    let tail : map f (map g l) ≡ l = undone f g l (λ i b. h (suc i) (omega arith)) in
    rw (head, tail)

-- The part behind the first n elements.
behind_is : (xs ys : List ℕ) (n k : ℕ) → length xs ≡ n → length ys ≡ k → take k (drop n (xs ++ ys)) ≡ ys
behind_is xs ys n k e d = ap (take k) (drop_at xs ys n e) ∙ take_all k ys (omega arith)

module _ (a b : Survey) (ties : Ties) (first_sound : SurveySound a) (second_sound : SurveySound b)
    (ties_sound : TiesSound (length a.groups) (length b.groups) ties)
  where
    -- The ends of the second's tracks, from their places.
    ends_back : (front l : List ℕ) → length front ≡ length a.firsts → length l ≡ length b.firsts
        → ((i : ℕ) → i < length l → get_or l i 0 < length b.groups)
        → map (standing_at (length a.groups) (length b.groups) ties)
        (take (length b.firsts) (drop (length a.firsts) (front ++ map (placed (length a.groups) ties) l)))
        ≡ l
    ends_back front l e d inside =
        let n = length a.groups in
        let m = length b.groups in
        ap (map (standing_at n m ties))
        (behind_is front (map (placed n ties) l) (length a.firsts) (length b.firsts) e (length-map l (placed n ties) ∙ d))
        ∙ undone (standing_at n m ties) (placed n ties) l (λ i h. standing_placed n m ties ties_sound (get_or l i 0) (inside i h))

    pub reads_back : ByteGroups a → ByteGroups b → IsParts a b ties (read_out (merged a b ties) ties (counts_of a) (counts_of b))
    unfolding read_out merged counts_of vertex_count edge_count
    reads_back first_bytes second_bytes =
        let m = length a.firsts in
        let k = length b.firsts in
        record {
          first_is =
              record {
                firsts_are = take_at a.firsts _ m refl;
                seconds_are = take_at a.seconds _ m (sym first_sound.seconds_long);
                weights_are = take_at a.weights b.weights m (sym first_sound.weights_long);
                members_are = first_members a b ties first_sound second_sound ties_sound first_bytes second_bytes;
              };
          second_is =
              record {
                firsts_are = ends_back a.firsts b.firsts refl refl (λ i h. (second_sound.edges i h).first_below_law);
                seconds_are =
                    ends_back a.seconds b.seconds (sym first_sound.seconds_long) (sym second_sound.seconds_long)
                    (λ i h. (second_sound.edges i (let l = second_sound.seconds_long in omega arith)).second_below);
                weights_are = behind_is a.weights b.weights m k (sym first_sound.weights_long) (sym second_sound.weights_long);
                members_are = second_members a b ties first_sound second_sound ties_sound first_bytes second_bytes;
              };
        }
