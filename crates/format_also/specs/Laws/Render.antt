-- Laws of writing pairs upwards: no line yet, one line more, the parts of a line; and that the pairs of two buffers are what the buffers hold.
use Rattle.std.specs.Prelude.{ℕ, zero, suc, ◌+◌, ◌≡◌, List, [], ◌∷◌, ◌++◌, map, length, get_or}
use Rattle.std.proofs.Common.{add-one, ap, sym, ◌∙◌, append_assoc, append-nil, ext_get_or}
use Rattle.std.proofs.Math.Path.{refl}
use Rattle.std.proofs.lemmas.List.{map-append}
use Rattle.base_finite.specs.Below.{tabulate}
use Rattle.base_finite.specs.Laws.Below.{length_tabulate, get_d_tabulate}
use Rattle.format_write.specs.Key.{also_key, comma, newline}
use Rattle.format_write.specs.Decimal.{decimal}
use Rattle.format_read.specs.Number.{number_text}
use Rattle.format_read.specs.Lines.{text_of}
use Rattle.format_also.specs.Pair.{Pair, pair_of, owners_of, others_of}
use Rattle.format_also.specs.Render.{pair_text, pairs_text, pair_in, pairs_from}

pairs_one_more : (l : List Pair) (x : Pair) → pairs_text (l ++ (x ∷ [])) ≡ pairs_text l ++ pair_text x
unfolding pairs_text text_of
pairs_one_more [] x = append-nil (pair_text x)
pairs_one_more (y ∷ l) x = ap (λ (w : List ℕ). pair_text y ++ w) (pairs_one_more l x) ∙ sym (append_assoc (pair_text y) (pairs_text l) (pair_text x))

pub table_none : (g : ℕ → Pair) → [] ≡ pairs_text (tabulate 0 g)
unfolding pairs_text text_of tabulate
table_none g = refl

pub table_more : (g : ℕ → Pair) (i : ℕ) → pairs_text (tabulate i g) ++ pair_text (g i) ≡ pairs_text (tabulate (i + 1) g)
unfolding tabulate
table_more g i = sym (ap (λ (n : ℕ). pairs_text (tabulate n g)) (add-one i) ∙ pairs_one_more (tabulate i g) (g i))

-- A line as it is written, part by part.
pub pair_parts : (v g : ℕ) → also_key ++ decimal v ++ (comma ∷ []) ++ decimal g ++ (newline ∷ []) ≡ pair_text (pair_of v g)
unfolding pair_text number_text
pair_parts v g =
    append_assoc (also_key ++ decimal v ++ (comma ∷ [])) (decimal g) (newline ∷ [])
    ∙ ap (λ (w : List ℕ). w ++ (decimal g ++ (newline ∷ []))) (append_assoc also_key (decimal v) (comma ∷ []))

-- ---- the pairs of two buffers

pub map_tabulate : {A : Type 0} (f : A → ℕ) (n : ℕ) (g : ℕ → A) → map f (tabulate n g) ≡ tabulate n (λ i. f (g i))
unfolding tabulate
map_tabulate f zero g = refl
map_tabulate f (suc n) g = map-append f (tabulate n g) (g n ∷ []) ∙ ap (λ (l : List ℕ). l ++ (f (g n) ∷ [])) (map_tabulate f n g)

pub tabulate_get_d : (l : List ℕ) (n : ℕ) → n ≡ length l → tabulate n (λ i. get_or l i 0) ≡ l
tabulate_get_d l n e = ext_get_or 0 _ l (length_tabulate n _ ∙ e) (λ i h. get_d_tabulate n _ i 0 (rw (length_tabulate n (λ i. get_or l i 0)) at h))

module _ (owners others : List ℕ) where
  pub owners_from : owners_of (pairs_from owners others) ≡ owners
  unfolding owners_of pairs_from
  owners_from = map_tabulate (λ x. x.owner) (length owners) (pair_in owners others) ∙ tabulate_get_d owners (length owners) refl

  pub others_from : length owners ≡ length others → others_of (pairs_from owners others) ≡ others
  unfolding others_of pairs_from
  others_from same = map_tabulate (λ x. x.other) (length owners) (pair_in owners others) ∙ tabulate_get_d others (length owners) same

  pub pairs_many : length (pairs_from owners others) ≡ length owners
  unfolding pairs_from
  pairs_many = length_tabulate (length owners) (pair_in owners others)
