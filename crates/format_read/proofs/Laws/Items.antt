-- Laws of items read one after another: one turn of a loop over them, what the turns store, that each goes on by a byte at least, and that items
-- which stand in a text are read.
use Rattle.std.specs.Prelude.{ℕ, suc, ◌+◌, ◌-◌, ◌≤◌, ◌<◌, zero, true, false, Bool, cond, ◌≡◌, length}
use Rattle.std.proofs.Math.Nat.{sub-zero}
use native.Mathlib.Omega.{arith}
use mathlib.Core.List.{List, [], ◌∷◌, ◌++◌}
use Rattle.std.proofs.Common.{ap, sym, ◌∙◌, subst}
use Rattle.std.proofs.Math.Path.{refl}
use Rattle.format_read.specs.Items.{ItemReader, items_from, puts, Ends, Goes, Standing, stop, item}
use Rattle.format_read.proofs.Laws.Lines.{one_less_law}
use Rattle.format_read.specs.Lines.{Lines, following}
use Rattle.format_read.specs.Step.{found, refused, Step}

-- At item i and offset at: where what is left ends, and what it stores, are where the whole ends and what that stores.
pub record ItemsLeft {S A : Type 0} (r : ItemReader S A) (put : List ℕ → ℕ → A → List ℕ) (whole : Lines S A) (old : List ℕ) (fuel : ℕ) (low : S) (i at : ℕ) (buffer : List ℕ) : Type 0 where
  pub upto : i ≤ fuel
  pub end : (items_from r (fuel - i) low i at).end ≡ whole.end
  pub stored : puts put buffer i (items_from r (fuel - i) low i at).values ≡ puts put old 0 whole.values

module _ {S A : Type 0} (r : ItemReader S A) (put : List ℕ → ℕ → A → List ℕ) where
  pub left_start : (fuel : ℕ) (low : S) (at : ℕ) (old : List ℕ) → ItemsLeft r put (items_from r fuel low 0 at) old fuel low 0 at old
  left_start fuel low at old =
      record {
        upto = omega arith;
        end = ap (λ (k : ℕ). (items_from r k low 0 at).end) (sub-zero fuel);
        stored = ap (λ (k : ℕ). puts put old 0 (items_from r k low 0 at).values) (sub-zero fuel);
      }

  module _ (whole : Lines S A) (old : List ℕ) (fuel : ℕ) (low : S) (i at : ℕ) (buffer : List ℕ) where
    seen : {l : Lines S A} → items_from r (fuel - i) low i at ≡ l → ItemsLeft r put whole old fuel low i at buffer → (l.end ≡ whole.end) × (puts put buffer i l.values ≡ puts put old 0 whole.values)
    seen e h = (sym (ap (λ (x : Lines S A). x.end) e) ∙ h.end, sym (ap (λ (x : Lines S A). puts put buffer i x.values) e) ∙ h.stored)

    pub left_more : {a : A} {next : ℕ} → i < fuel → r.stop at ≡ false → r.item low i at ≡ found a next → ItemsLeft r put whole old fuel low i at buffer
        → ItemsLeft r put whole old fuel (r.after low a) (i + 1) next (put buffer i a)
    unfolding items_from following puts
    left_more {a} {next} b s e h =
        let l = items_from r (fuel - (i + 1)) (r.after low a) (i + 1) next in
        let q : items_from r (fuel - i) low i at ≡ record { values = a ∷ l.values; end = l.end } = rw (one_less_law b, s, e) in
        let k = seen q h in
        record { upto = omega arith; end = k.0; stored = k.1 }

    pub left_stop : i < fuel → r.stop at ≡ true → ItemsLeft r put whole old fuel low i at buffer → Ends put whole old (found low at) buffer
    unfolding items_from puts
    left_stop b s h =
        let q : items_from r (fuel - i) low i at ≡ record { values = []; end = found low at } = rw (one_less_law b, s) in
        let k = seen q h in
        record { end = k.0; stored = k.1 }

    pub left_refused : {n p : ℕ} → i < fuel → r.stop at ≡ false → r.item low i at ≡ refused n p → ItemsLeft r put whole old fuel low i at buffer → Ends put whole old (refused n p) buffer
    unfolding items_from following puts
    left_refused {n} {p} b s e h =
        let q : items_from r (fuel - i) low i at ≡ record { values = []; end = refused n p } = rw (one_less_law b, s, e) in
        let k = seen q h in
        record { end = k.0; stored = k.1 }

    pub left_out_law : fuel ≤ i → ItemsLeft r put whole old fuel low i at buffer → Ends put whole old (refused 16 at) buffer
    unfolding items_from puts
    left_out_law b h =
        let z : fuel - i ≡ 0 = omega arith in
        let q : items_from r (fuel - i) low i at ≡ record { values = []; end = refused 16 at } = rw z in
        let k = seen q h in
        record { end = k.0; stored = k.1 }

module _ {A : Type 0} (put : List ℕ → ℕ → A → List ℕ) (same : (l : List ℕ) (i : ℕ) (a : A) → length (put l i a) ≡ length l) where
  pub puts_length : (buffer : List ℕ) (i : ℕ) (l : List A) → length (puts put buffer i l) ≡ length buffer
  unfolding puts
  puts_length buffer i [] = refl
  puts_length buffer i (a ∷ l) = puts_length (put buffer i a) (i + 1) l ∙ same buffer i a

  pub left_length : {S : Type 0} {r : ItemReader S A} {whole : Lines S A} {old : List ℕ} {fuel : ℕ} {low : S} {i at : ℕ} {buffer : List ℕ} → ItemsLeft r put whole old fuel low i at buffer → length buffer ≡ length old
  left_length {whole = whole} {old = old} {i = i} {buffer = buffer} h = sym (puts_length buffer i _) ∙ ap length h.stored ∙ puts_length old 0 whole.values

-- Items end where they stop.
pub items_stop : {S A : Type 0} (r : ItemReader S A) (fuel : ℕ) (low : S) (i at : ℕ) {n : S} {p : ℕ} → (items_from r fuel low i at).end ≡ found n p → r.stop p ≡ true
unfolding items_from following
items_stop r zero low i at e = let z : ◌≡◌ {A = ℕ} 0 1 = cc in absurd (omega arith)
items_stop {S} {A} r (suc fuel) low i at {n} {p} e = by_stop (r.stop at) (r.item low i at) refl (λ l k q. items_stop r fuel l (i + 1) k) e
  where
    by_stop : (b : Bool) (s : Step A) → r.stop at ≡ b → ((l : S) (k : ℕ) → A → (items_from r fuel l (i + 1) k).end ≡ found n p → r.stop p ≡ true)
        → (cond b (record { values = []; end = found low at }) (following s (λ a next. items_from r fuel (r.after low a) (i + 1) next))).end ≡ found n p → r.stop p ≡ true
    by_stop true s h ih e = let same : at ≡ p = cc in subst (λ x. r.stop x ≡ true) same h
    by_stop false (found a next) h ih e = ih (r.after low a) next a e
    by_stop false (refused x y) h ih e = let z : ◌≡◌ {A = ℕ} 0 1 = cc in absurd (omega arith)

-- A buffer of no length stays one.
pub none_stays : {A : Type 0} (put : List ℕ → ℕ → A → List ℕ) → ((l : List ℕ) (i : ℕ) (a : A) → length (put l i a) ≡ length l) → (new : List ℕ) (vs : List A) → new ≡ puts put [] 0 vs → new ≡ []
none_stays put same new vs e = by_length new (ap length e ∙ puts_length put same [] 0 vs)
  where
    by_length : (l : List ℕ) → length l ≡ 0 → l ≡ []
    by_length [] h = refl
    by_length (x ∷ l) h = absurd (omega arith)

-- A pass over a part of no length leaves the buffer as it was.
pub empty_pass : {A : Type 0} (put : List ℕ → ℕ → A → List ℕ) → ((l : List ℕ) (i : ℕ) (a : A) → length (put l i a) ≡ length l) → (old : List ℕ) {new : List ℕ} (vs : List A) → new ≡ puts put [] 0 vs → new ++ old ≡ old
empty_pass put same old {new} vs e = ap (λ (l : List ℕ). l ++ old) (none_stays put same new vs e)

pub items_fuel : {S A : Type 0} (r : ItemReader S A) (t : List ℕ) → ((low : S) (i at : ℕ) (a : A) (p : ℕ) → at ≤ length t → r.item low i at ≡ found a p → Goes t at p)
    → (fuel : ℕ) (low : S) (i at : ℕ) → at ≤ length t → length t - at < fuel → items_from r (suc fuel) low i at ≡ items_from r fuel low i at
unfolding items_from following
items_fuel r t goes zero low i at h k = absurd (omega arith)
items_fuel {S} {A} r t goes (suc fuel) low i at h k = by_item (r.item low i at) refl (λ a p g. items_fuel r t goes fuel (r.after low a) (i + 1) p g.inside (nearer p g))
  where
    nearer : (p : ℕ) → Goes t at p → length t - p < fuel
    nearer p g = let a = g.on in let b = g.inside in omega arith

    by_item : (s : Step A) → r.item low i at ≡ s → ((a : A) (p : ℕ) → Goes t at p → items_from r (suc fuel) (r.after low a) (i + 1) p ≡ items_from r fuel (r.after low a) (i + 1) p)
        → cond (r.stop at) (record { values = []; end = found low at }) (following s (λ a next. items_from r (suc fuel) (r.after low a) (i + 1) next))
        ≡ cond (r.stop at) (record { values = []; end = found low at }) (following s (λ a next. items_from r fuel (r.after low a) (i + 1) next))
    by_item (found a p) e ih = rw (ih a p (goes low i at a p h e)) refl
    by_item (refused n p) e ih = refl

pub items_forward : {S A : Type 0} (r : ItemReader S A) (t : List ℕ) → ((low : S) (i at : ℕ) (a : A) (p : ℕ) → at ≤ length t → r.item low i at ≡ found a p → Goes t at p)
    → (fuel : ℕ) (low : S) (i at : ℕ) {n : S} {p : ℕ} → at ≤ length t → (items_from r fuel low i at).end ≡ found n p → at ≤ p
unfolding items_from following
items_forward r t goes zero low i at h e = let z : ◌≡◌ {A = ℕ} 0 1 = cc in absurd (omega arith)
items_forward {S} {A} r t goes (suc fuel) low i at {n} {p} h e = by_stop (r.stop at) (r.item low i at) refl (λ a q g. items_forward r t goes fuel (r.after low a) (i + 1) q g.inside) e
  where
    by_stop : (b : Bool) (s : Step A) → r.item low i at ≡ s → ((a : A) (q : ℕ) → Goes t at q → (items_from r fuel (r.after low a) (i + 1) q).end ≡ found n p → q ≤ p)
        → (cond b (record { values = []; end = found low at }) (following s (λ a next. items_from r fuel (r.after low a) (i + 1) next))).end ≡ found n p → at ≤ p
    by_stop true s q ih e = let same : at ≡ p = cc in omega arith
    by_stop false (found a x) q ih e =
        let g = goes low i at a x h q in
        let k = g.on in
        let f = ih a x g e in
        omega arith
    by_stop false (refused x y) q ih e = let z : ◌≡◌ {A = ℕ} 0 1 = cc in absurd (omega arith)

pub items_reads_back : {S A : Type 0} (r : ItemReader S A) (fuel : ℕ) {low : S} {i at : ℕ} {last : S} {end : ℕ} {l : List A} → length l < fuel → Standing r low i at l last end
    → items_from r fuel low i at ≡ record { values = l; end = found last end }
unfolding items_from following
items_reads_back r zero h s = absurd (omega arith)
items_reads_back r (suc fuel) h (stop e) = rw e
items_reads_back {S} {A} r (suc fuel) {low} {i} {at} {last} {end} h (item {next = next} {a = a} {l = l} e f s) =
    let k = items_reads_back r fuel (omega arith) s in
    rw (e, f, k)
