-- A row of flags: marked one by one, and cleared at a junction's own group and at 0. `mark_pairs`, `mark_groups` and `row_of` cite it.
use Rattle.std.specs.Prelude.{ℕ, ◌+◌, ◌<◌, ◌≡◌, Bool, ◌&&◌, ◌||◌, not, length, get_or, replicate}
use Rattle.std.proofs.Common.{add-one, sym, ◌∙◌, length-set, ext_get_or, eq-eqb, ne_eqb}
use Rattle.std.proofs.Math.Path.{refl, ap}
use Rattle.std.proofs.Math.Bool.{true, false, cond}
use mathlib.Core.List.{List}
use Rattle.std.proofs.Math.ListN.{set}
use Rattle.std.proofs.lemmas.List.{length-replicate, get_or-replicate}
use Rattle.std.proofs.Math.Dec.{eqb}
use Rattle.base_finite.specs.Below.{any_below, counted, tabulate}
use Rattle.base_finite.specs.Laws.Below.{length_tabulate, get_d_tabulate}
use Rattle.base_buffer.proofs.Laws.Store.{tabulate_cong, set_table}
use Rattle.base_limits.specs.Limits.{group_numbers}
use Rattle.survey_core.specs.Lists.{Lists, own, is_paired, in_list}
use Rattle.merge_core.specs.Row.{marked, paired_below, own_with, further_with}

-- ---- marking

pub marked_same : (s t : ℕ → Bool) (l : List ℕ) → ((g : ℕ) → s g ≡ t g) → marked s l ≡ marked t l
unfolding marked
marked_same s t l h = tabulate_cong (length l) _ _ (λ g b. ap (λ (x : Bool). cond x 1 (get_or l g 0)) (h g))

pub marked_none : (l : List ℕ) → l ≡ marked (λ g. false) l
unfolding marked
marked_none l =
    ext_get_or 0 l (tabulate (length l) (λ g. get_or l g 0)) (sym (length_tabulate (length l) (λ g. get_or l g 0)))
    (λ g b. sym (get_d_tabulate (length l) (λ g. get_or l g 0) g 0 b))

pub length_marked : (t : ℕ → Bool) (l : List ℕ) → length (marked t l) ≡ length l
unfolding marked
length_marked t l = length_tabulate (length l) _

pub get_d_marked : (t : ℕ → Bool) (l : List ℕ) (g : ℕ) → g < length l → get_or (marked t l) g 0 ≡ cond (t g) 1 (get_or l g 0)
unfolding marked
get_d_marked t l g b = get_d_tabulate (length l) _ g 0 b

-- One more flag.
pub marked_more : (t : ℕ → Bool) (l : List ℕ) (x : ℕ) → set (marked t l) x 1 ≡ marked (λ g. t g || eqb x g) l
unfolding marked
marked_more t l x =
    set_table (length l) _ (λ g. cond (t g || eqb x g) 1 (get_or l g 0)) x 1 (at_x (t x)) (λ k apart. off k (λ e. apart (sym e)) (t k))
  where
    at_x : (b : Bool) → 1 ≡ cond (b || eqb x x) 1 (get_or l x 0)
    at_x true = refl
    at_x false = rw (eq-eqb x x refl)

    off : (k : ℕ) → (x ≡ k → ⊥) → (b : Bool) → cond b 1 (get_or l k 0) ≡ cond (b || eqb x k) 1 (get_or l k 0)
    off k apart true = refl
    off k apart false = rw (ne_eqb x k apart)

-- Marked twice.
pub marked_both : (s t : ℕ → Bool) (l : List ℕ) → marked t (marked s l) ≡ marked (λ g. s g || t g) l
unfolding marked
marked_both s t l =
    ap (λ (n : ℕ). tabulate n (λ g. cond (t g) 1 (get_or (marked s l) g 0))) (length_marked s l)
    ∙ tabulate_cong (length l) _ _ (λ g b. ap (λ (x : ℕ). cond (t g) 1 x) (get_d_marked s l g b) ∙ by (s g) (t g) (get_or l g 0))
  where
    by : (x y : Bool) (z : ℕ) → cond y 1 (cond x 1 z) ≡ cond (x || y) 1 z
    by true true z = refl
    by true false z = refl
    by false true z = refl
    by false false z = refl

-- ---- pairs, one after the other

pub paired_none : (owners others flags : List ℕ) (v : ℕ) → flags ≡ marked (λ g. paired_below owners others 0 g v) flags
unfolding paired_below any_below
paired_none owners others flags v = marked_none flags

pub paired_more : (owners others flags : List ℕ) (v i : ℕ) {now after : List ℕ} {o g : ℕ} → now ≡ marked (λ g. paired_below owners others i g v) flags
    → o ≡ get_or owners i 0 → g ≡ get_or others i 0 → after ≡ cond (eqb o v) (set now g 1) now → after ≡ marked (λ g. paired_below owners others (i + 1) g v) flags
unfolding paired_below any_below
paired_more owners others flags v i {now} {after} {o} {g} now_is o_is g_is after_is =
    after_is ∙ by (eqb o v) refl
  where
    next : (x : ℕ) → paired_below owners others (i + 1) x v ≡ (paired_below owners others i x v || (eqb o v && eqb g x))
    next x = rw (add-one i, o_is, g_is)

    by : (b : Bool) → eqb o v ≡ b → cond b (set now g 1) now ≡ marked (λ g. paired_below owners others (i + 1) g v) flags
    by true h =
        ap (λ (l : List ℕ). set l g 1) now_is
        ∙ marked_more (λ g. paired_below owners others i g v) flags g
        ∙ marked_same _ _ flags (λ x. sym (next x ∙ ap (λ (b : Bool). paired_below owners others i x v || (b && eqb g x)) h))
    by false h =
        now_is ∙ marked_same _ _ flags (λ x. sym (next x ∙ ap (λ (b : Bool). paired_below owners others i x v || (b && eqb g x)) h ∙ or_none (paired_below owners others i x v)))
      where
        or_none : (b : Bool) → (b || false) ≡ b
        or_none true = refl
        or_none false = refl

pub paired_end : (owners others flags : List ℕ) (v i : ℕ) {now : List ℕ} → now ≡ marked (λ g. paired_below owners others i g v) flags → i ≡ length owners
    → now ≡ marked (λ g. paired_below owners others (length owners) g v) flags
paired_end owners others flags v i now_is e = now_is ∙ ap (λ (k : ℕ). marked (λ g. paired_below owners others k g v) flags) e

-- The own group behind the pairs.
pub groups_marked : (l : Lists) (v : ℕ) (flags : List ℕ) {now after : List ℕ} {x y : ℕ} → now ≡ marked (λ g. paired_below l.owners l.others (length l.owners) g v) flags
    → x ≡ own l v → y ≡ x → after ≡ set now y 1 → after ≡ marked (λ g. is_paired l g v || eqb (own l v) g) flags
unfolding paired_below is_paired
groups_marked l v flags {now} now_is x_is y_is after_is =
    after_is
    ∙ ap (λ (k : ℕ). set now k 1) (y_is ∙ x_is)
    ∙ ap (λ (m : List ℕ). set m (own l v) 1) now_is
    ∙ marked_more _ flags (own l v)

-- ---- the whole row

-- The flags keep their length.
pub one_long : (s : ℕ → Bool) {one : List ℕ} → one ≡ marked s (replicate group_numbers 0) → length one ≡ group_numbers
one_long s h = ap length h ∙ length_marked s (replicate group_numbers 0) ∙ length-replicate {A = ℕ} group_numbers 0

pub two_long : (s t : ℕ → Bool) {one two : List ℕ} → one ≡ marked s (replicate group_numbers 0) → two ≡ marked t one → length two ≡ group_numbers
two_long s t {one} h k = ap length k ∙ length_marked t one ∙ one_long s h

pub three_long : (s t : ℕ → Bool) (x : ℕ) {one two three : List ℕ} → one ≡ marked s (replicate group_numbers 0) → two ≡ marked t one → three ≡ set two x 0
    → length three ≡ group_numbers
three_long s t x {two = two} h k e = ap length e ∙ length-set two x 0 ∙ two_long s t h k

module _ (first second : Lists) (w v : ℕ) where
  held : ℕ → Bool
  held g = (is_paired first g w || eqb (own first w) g) || (is_paired second g v || eqb (own second v) g)

  flags_are : {one two : List ℕ} → one ≡ marked (λ g. is_paired first g w || eqb (own first w) g) (replicate group_numbers 0)
      → two ≡ marked (λ g. is_paired second g v || eqb (own second v) g) one → two ≡ tabulate group_numbers (λ g. counted (held g) 1)
  unfolding marked held counted
  flags_are {one} {two} one_is two_is =
      two_is
      ∙ ap (marked (λ g. is_paired second g v || eqb (own second v) g)) one_is
      ∙ marked_both (λ g. is_paired first g w || eqb (own first w) g) (λ g. is_paired second g v || eqb (own second v) g) (replicate group_numbers 0)
      ∙ ap (λ (n : ℕ). tabulate n (λ g. cond (held g) 1 (get_or (replicate group_numbers 0) g 0))) (length-replicate {A = ℕ} group_numbers 0)
      ∙ tabulate_cong group_numbers _ _ (λ g b. ap (λ (x : ℕ). cond (held g) 1 x) (get_or-replicate group_numbers g 0 0 b) ∙ by (held g))
    where
      by : (b : Bool) → cond b 1 0 ≡ counted b 1
      by true = refl
      by false = refl

  pub row_found : {one two three four : List ℕ} {o x : ℕ} → one ≡ marked (λ g. is_paired first g w || eqb (own first w) g) (replicate group_numbers 0)
      → two ≡ marked (λ g. is_paired second g v || eqb (own second v) g) one → o ≡ own_with first.groups second.groups w v → x ≡ o
      → three ≡ set two x 0 → four ≡ set three 0 0 → four ≡ tabulate group_numbers (λ g. counted (further_with first second w v g) 1)
  unfolding held further_with in_list counted
  row_found {one} {two} {three} {four} {o} {x} one_is two_is o_is x_is three_is four_is =
      four_is
      ∙ ap (λ (l : List ℕ). set l 0 0) (three_is ∙ ap (λ (l : List ℕ). set l x 0) (flags_are one_is two_is) ∙ own_off)
      ∙ none_off
    where
      x_own : x ≡ own_with first.groups second.groups w v
      x_own = x_is ∙ o_is

      own_off : set (tabulate group_numbers (λ g. counted (held g) 1)) x 0 ≡ tabulate group_numbers (λ g. counted (held g && not (eqb g x)) 1)
      own_off =
          set_table group_numbers _ _ x 0 (sym (rw (eq-eqb x x refl) (no_flag (held x))))
          (λ k apart. sym (rw (ne_eqb k x apart) (flag (held k))))
        where
          no_flag : (b : Bool) → counted (b && false) 1 ≡ 0
          no_flag true = refl
          no_flag false = refl

          flag : (b : Bool) → counted (b && true) 1 ≡ counted b 1
          flag true = refl
          flag false = refl

      none_off : set (tabulate group_numbers (λ g. counted (held g && not (eqb g x)) 1)) 0 0 ≡ tabulate group_numbers (λ g. counted (further_with first second w v g) 1)
      none_off = set_table group_numbers _ _ 0 0 refl (λ k apart. ap (λ (b : Bool). counted b 1) (some k apart))
        where
          some : (k : ℕ) → (k ≡ 0 → ⊥) → (held k && not (eqb k x)) ≡ further_with first second w v k
          some k apart = rw (ne_eqb k 0 apart, ← x_own)
