-- Laws of paths: they compose and reverse, they grow with the edge set, one more edge adds one passage, and a path that leaves a
-- set crosses its cut. Sources 001 (sections 22.1 and 22.3) and 003 use them unsaid; every graph fact above rests on them.
use Rattle.std.specs.Prelude.{ℕ, ◌≡◌, refl, ◌⊎◌, Bool, true, false, not, eqb}
use Rattle.std.proofs.Common.{sym, ◌∙◌, subst, inl, inr, ⊎_elim, ne_eqb}
use Rattle.std.proofs.Math.Bool.{xor}
use Rattle.std.proofs.lemmas.Bool.{false≢true, eqb-false, not-true}
use Rattle.std.proofs.Math.Decide.{ℕ_discrete}
use Rattle.base_finite.specs.Laws.Test.{either, and_left, and_right, and_both, not_of_false, true_not_false}
use Rattle.theory_graph.specs.Path.{Leads, forth, back, Linked, here, step, without, crosses}

pub leads_sym : {a b : ℕ → ℕ} {e u v : ℕ} → Leads a b e u v → Leads a b e v u
leads_sym (forth p q) = back q p
leads_sym (back p q) = forth q p

pub linked_trans : {a b : ℕ → ℕ} {F : ℕ → Bool} {u v w : ℕ} → Linked a b F u v → Linked a b F v w → Linked a b F u w
linked_trans here q = q
linked_trans (step e f l p) q = step e f l (linked_trans p q)

pub linked_edge : {a b : ℕ → ℕ} {F : ℕ → Bool} {u v : ℕ} (e : ℕ) → F e ≡ true → Leads a b e u v → Linked a b F u v
linked_edge e f l = step e f l here

pub linked_sym : {a b : ℕ → ℕ} {F : ℕ → Bool} {u v : ℕ} → Linked a b F u v → Linked a b F v u
linked_sym here = here
linked_sym (step e f l p) = linked_trans (linked_sym p) (linked_edge e f (leads_sym l))

pub linked_mono : {a b : ℕ → ℕ} {F G : ℕ → Bool} {u v : ℕ} → ((e : ℕ) → F e ≡ true → G e ≡ true) → Linked a b F u v → Linked a b G u v
linked_mono h here = here
linked_mono h (step e f l p) = step e (h e f) l (linked_mono h p)

-- An equal vertex at either end.
pub linked_from : {a b : ℕ → ℕ} {F : ℕ → Bool} {u v w : ℕ} → u ≡ v → Linked a b F v w → Linked a b F u w
linked_from {a} {b} {F} {w = w} e p = subst (λ x. Linked a b F x w) (sym e) p

pub linked_refl : {a b : ℕ → ℕ} {F : ℕ → Bool} {u v : ℕ} → u ≡ v → Linked a b F u v
linked_refl e = linked_from e here

-- The ends of an edge of F are linked.
pub linked_ends : {a b : ℕ → ℕ} {F : ℕ → Bool} (e : ℕ) → F e ≡ true → Linked a b F (a e) (b e)
linked_ends e f = linked_edge e f (forth refl refl)

-- Where G links the ends of each edge of F, it links whatever F links.
pub linked_over : {a b : ℕ → ℕ} {F G : ℕ → Bool} {u w : ℕ} → ((e : ℕ) → F e ≡ true → Linked a b G (a e) (b e)) → Linked a b F u w → Linked a b G u w
linked_over h here = here
linked_over {a} {b} {F} {G} h (step {u = u} {v = v} e f l p) = linked_trans (along l) (linked_over h p)
  where
    along : Leads a b e u v → Linked a b G u v
    along (forth x y) = subst (λ t. Linked a b G t v) x (subst (λ t. Linked a b G (a e) t) y (h e f))
    along (back x y) = subst (λ t. Linked a b G t v) x (subst (λ t. Linked a b G (b e) t) y (linked_sym (h e f)))

-- How u and w are linked by F and one edge e more: without it, or through it one way or the other.
pub data Through (a b : ℕ → ℕ) (F : ℕ → Bool) (e u w : ℕ) : Type 0 where
  avoids : Linked a b F u w → Through a b F e u w
  forwards : Linked a b F u (a e) → Linked a b F (b e) w → Through a b F e u w
  backwards : Linked a b F u (b e) → Linked a b F (a e) w → Through a b F e u w

through_step : {a b : ℕ → ℕ} {F : ℕ → Bool} {e u v w : ℕ} → Linked a b F u v → Through a b F e v w → Through a b F e u w
through_step p (avoids q) = avoids (linked_trans p q)
through_step p (forwards q r) = forwards (linked_trans p q) r
through_step p (backwards q r) = backwards (linked_trans p q) r

-- The edge itself first: what comes after it needs no second passage.
through_edge : {a b : ℕ → ℕ} {F : ℕ → Bool} {e u v w : ℕ} → Leads a b e u v → Through a b F e v w → Through a b F e u w
through_edge (forth p q) (avoids r) = forwards (linked_refl (sym p)) (linked_from q r)
through_edge (forth p q) (forwards r s) = forwards (linked_refl (sym p)) s
through_edge (forth p q) (backwards r s) = avoids (linked_from (sym p) s)
through_edge (back p q) (avoids r) = backwards (linked_refl (sym p)) (linked_from q r)
through_edge (back p q) (forwards r s) = avoids (linked_from (sym p) s)
through_edge (back p q) (backwards r s) = backwards (linked_refl (sym p)) s

-- One more edge: G has, beside edges of F, e alone.
pub one_more_law :
    {a b : ℕ → ℕ} {F G : ℕ → Bool} (e : ℕ) →
    ((f : ℕ) → G f ≡ true → (F f ≡ true) ⊎ (f ≡ e)) →
    {u w : ℕ} → Linked a b G u w → Through a b F e u w
one_more_law e h here = avoids here
one_more_law {a} {b} {F} {G} e h (step {u = u} {v = v} {w = w} f g l p) =
    let rest : Through a b F e v w = one_more_law e h p in
    ⊎_elim
    (λ old. through_step (linked_edge f old l) rest)
    (λ new. through_edge (subst (λ x. Leads a b x u v) new l) rest)
    (h f g)

-- ---- taking an edge away

pub without_elim : (F : ℕ → Bool) (e f : ℕ) → without F e f ≡ true → (F f ≡ true) × (f ≡ e → ⊥)
unfolding without
without_elim F e f h =
    (and_left (F f) (not (eqb f e)) h, eqb-false f e (not-true (eqb f e) (and_right (F f) (not (eqb f e)) h)))

pub without_intro : (F : ℕ → Bool) (e f : ℕ) → F f ≡ true → (f ≡ e → ⊥) → without F e f ≡ true
unfolding without
without_intro F e f h k = and_both (F f) (not (eqb f e)) h (not_of_false (eqb f e) (ne_eqb f e k))

-- Every edge of F is e, or is left without it.
pub with_or_without : (F : ℕ → Bool) (e f : ℕ) → F f ≡ true → (without F e f ≡ true) ⊎ (f ≡ e)
with_or_without F e f h = by (ℕ_discrete f e)
  where
    by : Dec (f ≡ e) → (without F e f ≡ true) ⊎ (f ≡ e)
    by (yes same) = inr same
    by (no other) = inl (without_intro F e f h other)

pub through_without : {a b : ℕ → ℕ} {F : ℕ → Bool} (e : ℕ) {u w : ℕ} → Linked a b F u w → Through a b (without F e) e u w
through_without {F = F} e p = one_more_law e (with_or_without F e) p

pub without_mono : {F G : ℕ → Bool} (e : ℕ) → ((f : ℕ) → F f ≡ true → G f ≡ true) → (f : ℕ) → without F e f ≡ true → without G e f ≡ true
without_mono {F} {G} e h f k = without_intro G e f (h f (without_elim F e f k).0) (without_elim F e f k).1

pub linked_without : {a b : ℕ → ℕ} {F : ℕ → Bool} (e : ℕ) {u w : ℕ} → Linked a b (without F e) u w → Linked a b F u w
linked_without {F = F} e p = linked_mono (λ f h. (without_elim F e f h).0) p

-- ---- cuts

crosses_leads : (a b : ℕ → ℕ) (S : ℕ → Bool) {e u v : ℕ} → Leads a b e u v → S u ≡ true → S v ≡ false → crosses a b S e ≡ true
unfolding crosses xor
crosses_leads a b S (forth p q) h k = rw (p, q, h, k)
crosses_leads a b S (back p q) h k = rw (p, q, h, k)

-- An edge of F that crosses the cut of S.
pub record Crossing (a b : ℕ → ℕ) (F S : ℕ → Bool) : Type 0 where
  pub edge : ℕ
  pub member : F edge ≡ true
  pub crossing : crosses a b S edge ≡ true

-- A path that leaves S crosses its cut.
pub cut_crossed :
    {a b : ℕ → ℕ} {F : ℕ → Bool} (S : ℕ → Bool) {u w : ℕ} → Linked a b F u w → S u ≡ true → S w ≡ false → Crossing a b F S
cut_crossed S (here {u = u}) h k = true_not_false (S u) h k
cut_crossed {a} {b} S (step {v = v} e f l p) h k =
    ⊎_elim
    (λ inside. cut_crossed S p inside k)
    (λ outside. record { edge = e; member = f; crossing = crosses_leads a b S l h outside })
    (either (S v))

-- Where no edge of F crosses, a path stays on its side.
pub side_kept :
    {a b : ℕ → ℕ} {F : ℕ → Bool} (S : ℕ → Bool) →
    ((e : ℕ) → F e ≡ true → crosses a b S e ≡ true → ⊥) →
    {u w : ℕ} → Linked a b F u w → S u ≡ S w
side_kept {a} {b} {F} S h {u} {w} p = by (S u) (S w) refl refl
  where
    by : (s t : Bool) → S u ≡ s → S w ≡ t → S u ≡ S w
    by true true x y = x ∙ sym y
    by false false x y = x ∙ sym y
    by true false x y = let c : Crossing a b F S = cut_crossed S p x y in absurd (h c.edge c.member c.crossing)
    by false true x y = let c : Crossing a b F S = cut_crossed S (linked_sym p) y x in absurd (h c.edge c.member c.crossing)

-- What a crossing edge looks like: one end inside, the other outside.
pub crosses_elim :
    (a b : ℕ → ℕ) (S : ℕ → Bool) (e : ℕ) → crosses a b S e ≡ true →
    ((S (a e) ≡ true) × (S (b e) ≡ false)) ⊎ ((S (a e) ≡ false) × (S (b e) ≡ true))
unfolding crosses xor
crosses_elim a b S e h = by (S (a e)) (S (b e)) refl refl
  where
    by : (s t : Bool) → S (a e) ≡ s → S (b e) ≡ t → ((S (a e) ≡ true) × (S (b e) ≡ false)) ⊎ ((S (a e) ≡ false) × (S (b e) ≡ true))
    by true false x y = inl (x, y)
    by false true x y = inr (x, y)
    by true true x y = absurd (false≢true (rw (x, y) at h))
    by false false x y = absurd (false≢true (rw (x, y) at h))

xor_self : (t : Bool) → xor t t ≡ false
unfolding xor
xor_self true = refl
xor_self false = refl

pub crosses_not : (a b : ℕ → ℕ) (S : ℕ → Bool) (e : ℕ) → S (a e) ≡ S (b e) → crosses a b S e ≡ false
unfolding crosses
crosses_not a b S e h = rw h (xor_self (S (b e)))

pub crosses_cong : (a b : ℕ → ℕ) (S R : ℕ → Bool) (e : ℕ) → S (a e) ≡ R (a e) → S (b e) ≡ R (b e) → crosses a b S e ≡ crosses a b R e
unfolding crosses
crosses_cong a b S R e h k = rw (h, k)
