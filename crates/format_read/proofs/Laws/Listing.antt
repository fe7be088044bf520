-- Items one after another as words: what is read is their texts, and where an item is refused with 16 depends on nothing behind that place.
use Rattle.std.specs.Prelude.{ℕ, zero, suc, ◌+◌, ◌-◌, ◌≤◌, ◌<◌, Bool, true, false, cond, ◌≡◌, length}
use Rattle.std.proofs.Common.{arith, ◌∙◌, subst}
use mathlib.Core.List.{List, [], ◌∷◌, ◌++◌, append_assoc, append-nil}
use Rattle.std.proofs.Math.Path.{refl, ap, sym}
use Rattle.std.proofs.Math.ListN.{take, length-append}
use Rattle.base_limits.specs.declared.Verdict.{Verdict}
use Rattle.base_limits.specs.declared.Verdict.TheVariants.{Fine, Refused}
use Rattle.format_read.specs.Items.{ItemReader, items_from, Goes, Standing, stop, item, Broken, here, later, text_from, ListsItems}
use Rattle.format_read.specs.Language.{Each, none, more, Word, Extends, Text}
use Rattle.format_read.specs.Lines.{following, Lines, text_of}
use Rattle.format_read.proofs.Laws.Items.{items_reads_back}
use Rattle.format_read.proofs.Laws.Language.{bound, text_stands}
use Rattle.format_read.proofs.Laws.Stands.{stands_none, stands_append, stands_first, stands_second, as_long}
use Rattle.format_read.specs.Stands.{Stands}
use Rattle.format_read.specs.Step.{Step, found, refused, checked}

-- ---- the turns of a loop, from its result

-- Items that were read to their end stand there.
pub items_standing : {S A : Type 0} (r : ItemReader S A) (fuel : ℕ) (low : S) (i at : ℕ) {last : S} {end : ℕ} → (items_from r fuel low i at).end ≡ found last end → Standing r low i at (items_from r fuel low i at).values last end
unfolding items_from following
items_standing r zero low i at e = let z : ◌≡◌ {A = ℕ} 0 1 = cc in absurd (omega arith)
items_standing {S} {A} r (suc fuel) low i at {last} {end} e = by_stop (r.stop at) (r.item low i at) refl refl (λ a p. items_standing r fuel (r.after low a) (i + 1) p) e
  where
    turn : Bool → Step A → Lines S A
    turn b s = cond b (record { values = []; end = found low at }) (following s (λ a next. items_from r fuel (r.after low a) (i + 1) next))

    by_stop : (b : Bool) (s : Step A) → r.stop at ≡ b → r.item low i at ≡ s
        → ((a : A) (p : ℕ) → (items_from r fuel (r.after low a) (i + 1) p).end ≡ found last end → Standing r (r.after low a) (i + 1) p (items_from r fuel (r.after low a) (i + 1) p).values last end)
        → (turn b s).end ≡ found last end → Standing r low i at (turn b s).values last end
    by_stop true s h k ih e =
        let x : low ≡ last = cc in
        let y : at ≡ end = cc in
        subst (λ (z : ℕ). Standing r low i at [] last z) y (subst (λ (z : S). Standing r low i at [] z at) x (stop h))
    by_stop false (found a p) h k ih e = item h k (ih a p e)
    by_stop false (refused n p) h k ih e = let z : ◌≡◌ {A = ℕ} 0 1 = cc in absurd (omega arith)

-- Items that were read up to a refusal stand before it, where there is fuel for every byte that is left.
pub items_broken : {S A : Type 0} (r : ItemReader S A) (t : List ℕ) → ((low : S) (i at : ℕ) (a : A) (p : ℕ) → at ≤ length t → r.item low i at ≡ found a p → Goes t at p)
    → (fuel : ℕ) (low : S) (i at : ℕ) {n q : ℕ} → at ≤ length t → length t - at < fuel → (items_from r fuel low i at).end ≡ refused n q → Broken r n q low i at (items_from r fuel low i at).values
unfolding items_from following
items_broken r t goes zero low i at h k e = absurd (omega arith)
items_broken {S} {A} r t goes (suc fuel) low i at {n} {q} h k e =
    by_stop (r.stop at) (r.item low i at) refl refl (λ a p g. items_broken r t goes fuel (r.after low a) (i + 1) p g.inside (nearer p g)) e
  where
    nearer : (p : ℕ) → Goes t at p → length t - p < fuel
    nearer p g = let a = g.on in let b = g.inside in omega arith

    turn : Bool → Step A → Lines S A
    turn b s = cond b (record { values = []; end = found low at }) (following s (λ a next. items_from r fuel (r.after low a) (i + 1) next))

    by_stop : (b : Bool) (s : Step A) → r.stop at ≡ b → r.item low i at ≡ s
        → ((a : A) (p : ℕ) → Goes t at p → (items_from r fuel (r.after low a) (i + 1) p).end ≡ refused n q → Broken r n q (r.after low a) (i + 1) p (items_from r fuel (r.after low a) (i + 1) p).values)
        → (turn b s).end ≡ refused n q → Broken r n q low i at (turn b s).values
    by_stop true s x y ih e = let z : ◌≡◌ {A = ℕ} 0 1 = cc in absurd (omega arith)
    by_stop false (found a p) x y ih e = later x y (ih a p (goes low i at a p h y) e)
    by_stop false (refused i j) x y ih e = here x (y ∙ same_refusal e)
      where
        same_refusal : ◌≡◌ {A = Step S} (refused i j) (refused n q) → ◌≡◌ {A = Step A} (refused i j) (refused n q)
        same_refusal e = let a : i ≡ n = cc in let b : j ≡ q = cc in cc

-- Items that stand before a refusal are read up to it.
pub broken_items : {S A : Type 0} (r : ItemReader S A) (fuel : ℕ) {n q : ℕ} {low : S} {i at : ℕ} {l : List A} → length l < fuel → Broken r n q low i at l → items_from r fuel low i at ≡ record { values = l; end = refused n q }
unfolding items_from following
broken_items r zero h b = absurd (omega arith)
broken_items r (suc fuel) h (here e f) = rw (e, f)
broken_items r (suc fuel) h (later e f b) = let k = broken_items r fuel (omega arith) b in rw (e, f, k)

-- ---- the words of items

-- Texts that do not depend on the place.
pub text_from_law : {A : Type 0} (f : A → List ℕ) (i : ℕ) (l : List A) → text_from (λ j. f) i l ≡ text_of f l
unfolding text_from text_of
text_from_law f i [] = refl
text_from_law f i (a ∷ l) = ap (λ (w : List ℕ). f a ++ w) (text_from_law f (i + 1) l)

module _ {S A : Type 0} {r : List ℕ → ItemReader S A} {P : A → Type 0} {text : ℕ → A → List ℕ} (x : ListsItems r P text) where
  -- An item goes on by a byte at least.
  pub item_goes : (t : List ℕ) (low : S) (i at : ℕ) (a : A) (p : ℕ) → at ≤ length t → (r t).item low i at ≡ found a p → Goes t at p
  item_goes t low i at a p h e =
      let w = x.sound t low i at a p h e in
      let s = text_stands w in
      let n = x.some i a in
      let b = (bound w).1 in
      let q = s.1 in
      record { on = omega arith; inside = b }

  -- Items that stand one after another are the texts of their values.
  pub standing_words : (t : List ℕ) {low : S} {i at : ℕ} {last : S} {end : ℕ} {l : List A} → at ≤ length t → Standing (r t) low i at l last end → Word (Text (Each P) (text_from text i)) t at l end
  unfolding text_from
  standing_words t {at = at} h (stop e) = record { word = []; member = record { holds = none; word = refl }; ends = omega arith; stands = stands_none t at h }
  standing_words t {low} {i} {at} {last} {end} h (item {next = next} {a = a} {l = l} e f s) =
      let v = x.sound t low i at a next h f in
      let w = standing_words t (bound v).1 s in
      let ve = v.ends in
      let we = w.ends in
      let n = length-append v.word w.word in
      record {
        word = v.word ++ w.word;
        member = record { holds = more v.member.holds w.member.holds; word = ap (λ (z : List ℕ). z ++ w.word) v.member.word ∙ ap (λ (z : List ℕ). text i a ++ z) w.member.word };
        ends = omega arith;
        stands = stands_append v.word w.word v.stands (subst (λ (k : ℕ). Stands t k w.word) ve w.stands);
      }

  -- Texts that agree up to the byte behind the items have the same items.
  pub standing_same : (t u : List ℕ) (q : ℕ) → take (q + 1) t ≡ take (q + 1) u → {low : S} {i at : ℕ} {last : S} {end : ℕ} {l : List A} → at ≤ length t → end ≤ q → Standing (r t) low i at l last end → (at ≤ q) × Standing (r u) low i at l last end
  standing_same t u q k {at = at} h m (stop e) = (m, stop (sym (x.stops t u at q m k) ∙ e))
  standing_same t u q k {low} {i} {at} {last} {end} h m (item {next = next} {a = a} {l = l} e f s) =
      let g = item_goes t low i at a next h f in
      let on = g.on in
      let w = standing_same t u q k g.inside m s in
      let n = w.0 in
      (omega arith, item (sym (x.stops t u at q (omega arith) k) ∙ e) (x.reads t u low i at a next q h n k f) (subst (λ (z : S). Standing (r u) z (i + 1) next l last end) (x.after t u low a) w.1))

  -- A refusal stands behind the items before it, inside the text.
  pub broken_place : (t : List ℕ) {p : ℕ} {low : S} {i at : ℕ} {l : List A} → at ≤ length t → Broken (r t) 16 p low i at l → (at + length l ≤ p) × (p ≤ length t)
  broken_place t {p} {low} {i} {at} h (here e f) = let w = x.place t low i at p h f in let a = w.0 in (omega arith, w.1)
  broken_place t {p} {low} {i} {at} h (later {next = next} {a = a} e f b) =
      let g = item_goes t low i at a next h f in
      let w = broken_place t g.inside b in
      let c = w.0 in
      let d = g.on in
      (omega arith, w.1)

  -- Texts that agree up to the byte of a refusal have the same refusal.
  pub broken_same : (t u : List ℕ) (p : ℕ) → take (p + 1) t ≡ take (p + 1) u → {low : S} {i at : ℕ} {l : List A} → at ≤ length t → Broken (r t) 16 p low i at l → Broken (r u) 16 p low i at l
  broken_same t u p k {low} {i} {at} h (here e f) =
      let m = x.place t low i at p h f in
      here (sym (x.stops t u at p m.0 k) ∙ e) (x.same t u low i at p h f k)
  broken_same t u p k {low} {i} {at} h (later {next = next} {a = a} {l = l} e f b) =
      let g = item_goes t low i at a next h f in
      let m = (broken_place t g.inside b).0 in
      let on = g.on in
      later (sym (x.stops t u at p (omega arith) k) ∙ e) (x.reads t u low i at a next p h (omega arith) k f)
      (subst (λ (z : S). Broken (r u) 16 p z (i + 1) next l) (x.after t u low a) (broken_same t u p k g.inside b))

  -- The bytes before a refusal go on to the texts of items.
  pub broken_extends : (t : List ℕ) {p : ℕ} {low : S} {i at : ℕ} {l : List A} → at ≤ length t → Broken (r t) 16 p low i at l → Extends (Text (Each P) (text_from text i)) t at p
  unfolding text_from
  broken_extends t {p} {low} {i} {at} h (here e f) =
      let w = x.extends t low i at p h f in
      record { value = w.value ∷ []; word = w.word; member = record { holds = more w.member.holds none; word = w.member.word ∙ sym (append-nil (text i w.value)) }; rest = w.rest; whole = w.whole }
  broken_extends t {p} {low} {i} {at} h (later {next = next} {a = a} e f b) =
      let v = x.sound t low i at a next h f in
      let z = broken_extends t (bound v).1 b in
      record {
        value = a ∷ z.value;
        word = v.word ++ z.word;
        member = record { holds = more v.member.holds z.member.holds; word = ap (λ (y : List ℕ). y ++ z.word) v.member.word ∙ ap (λ (y : List ℕ). text i a ++ y) z.member.word };
        rest = z.rest;
        whole = z.whole ∙ ap (λ (k : ℕ). take k t ++ z.word) v.ends ∙ ap (λ (y : List ℕ). y ++ z.word) v.stands.is ∙ append_assoc (take at t) v.word z.word;
      }

  -- Items end behind a byte for each, inside the text.
  pub standing_long : (t : List ℕ) {low : S} {i at : ℕ} {last : S} {end : ℕ} {l : List A} → at ≤ length t → Standing (r t) low i at l last end → (at + length l ≤ end) × (end ≤ length t)
  standing_long t h (stop e) = (omega arith, h)
  standing_long t {low} {i} {at} h (item {next = next} {a = a} e f s) =
      let g = item_goes t low i at a next h f in
      let w = standing_long t g.inside s in
      let c = w.0 in
      let d = g.on in
      (omega arith, w.1)

  -- The same of the loops, which have the length of their text for fuel.
  pub items_again : (t u : List ℕ) (low : S) (i at q : ℕ) {last : S} {end : ℕ} → 0 < at → at ≤ length t → end ≤ q → take (q + 1) t ≡ take (q + 1) u → (items_from (r t) (length t) low i at).end ≡ found last end
      → items_from (r u) (length u) low i at ≡ record { values = (items_from (r t) (length t) low i at).values; end = found last end }
  items_again t u low i at q pos h m k e =
      let s = standing_same t u q k h m (items_standing (r t) (length t) low i at e) in
      let n = s.0 in
      let l = standing_long u (as_long t u q k at h (omega arith)) s.1 in
      let a = l.0 in
      let b = l.1 in
      items_reads_back (r u) (length u) (omega arith) s.1

  -- A loop that ends with 16 ends so again.
  pub items_broken_again : (t u : List ℕ) (low : S) (i at p : ℕ) → 0 < at → at ≤ length t → take (p + 1) t ≡ take (p + 1) u → (items_from (r t) (length t) low i at).end ≡ refused 16 p
      → items_from (r u) (length u) low i at ≡ record { values = (items_from (r t) (length t) low i at).values; end = refused 16 p }
  items_broken_again t u low i at p pos h k e =
      let b = items_broken (r t) t (item_goes t) (length t) low i at h (omega arith) e in
      let n = (broken_place t h b).0 in
      let c = broken_same t u p k h b in
      let l = broken_place u (as_long t u p k at h (omega arith)) c in
      let x = l.0 in
      let y = l.1 in
      broken_items (r u) (length u) (omega arith) c

-- ---- well-formed items are not refused with 16

-- Items that are all read, or of which one is refused for another reason than its form.
pub data ItemsMet {A : Type 0} (r : ItemReader ℕ A) (low i at : ℕ) (l : List A) (end : ℕ) : Type 0 where
  all_read : (last : ℕ) → Standing r low i at l last end → ItemsMet r low i at l end
  one_refused : {n q : ℕ} {k : List A} → Broken r n q low i at k → length k ≤ length l → (n ≡ 16 → ⊥) → ItemsMet r low i at l end

-- A line where it stands: only a test of its value is left.
pub record Tested {A : Type 0} (r : ItemReader ℕ A) (low i at : ℕ) (a : A) (next : ℕ) : Type 0 where
  pub test : Verdict
  pub not_malformed : (n p : ℕ) → test ≡ Refused n p → n ≡ 16 → ⊥
  pub begins : r.stop at ≡ false
  pub line : r.item low i at ≡ checked test a next

-- So many lines of which only tests are left are all read, or one fails its test.
pub met_lines : {A : Type 0} (r : ItemReader ℕ A) (t : List ℕ) (P : A → Type 0) (f : A → List ℕ) (most : ℕ)
    → ((low i at : ℕ) (a : A) → i < most → P a → Stands t at (f a) → Tested r low i at a (at + length (f a)))
    → {l : List A} → Each P l → (low i at end : ℕ) → i + length l ≤ most → Stands t at (text_of f l) → end ≡ at + length (text_of f l) → r.stop end ≡ true → ItemsMet r low i at l end
unfolding text_of checked
met_lines r t P f most tested none low i at end few s q e =
    let same : end ≡ at = omega arith in
    all_read low (subst (λ (z : ℕ). Standing r low i at [] low z) (sym same) (stop (subst (λ (z : ℕ). r.stop z ≡ true) same e)))
met_lines {A} r t P f most tested (more {a = a} {l = l} p ps) low i at end few s q e =
    let n = length-append (f a) (text_of f l) in
    let next = at + length (f a) in
    let x = tested low i at a (omega arith) p (stands_first (f a) (text_of f l) s) in
    by_test x.test x.not_malformed x.begins x.line (met_lines r t P f most tested ps (r.after low a) (i + 1) next end (omega arith) (stands_second (f a) (text_of f l) s) (omega arith) e)
  where
    by_test : {next : ℕ} (v : Verdict) → ((n p : ℕ) → v ≡ Refused n p → n ≡ 16 → ⊥) → r.stop at ≡ false → r.item low i at ≡ checked v a next → ItemsMet r (r.after low a) (i + 1) next l end → ItemsMet r low i at (a ∷ l) end
    by_test Fine h b c (all_read last s) = all_read last (item b c s)
    by_test Fine h b c (one_refused k m n) = one_refused (later b c k) (omega arith) n
    by_test (Refused n p) h b c y = one_refused (here b c) (omega arith) (h n p refl)
