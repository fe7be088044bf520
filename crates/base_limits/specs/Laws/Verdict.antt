-- Laws of findings: what a scan that stops at its first finding answers. Every loop over items that may be refused uses them.
use Rattle.std.specs.Prelude.{ℕ, zero, suc, ◌+◌, ◌<◌, ◌≤◌, ◌≡◌, refl, Bool, true, false}
use Rattle.std.proofs.Common.{arith, add-one, ap, sym, ◌∙◌, ⊎_elim}
use Rattle.base_finite.specs.Laws.Below.{below_suc}
use Rattle.base_limits.specs.Verdict.{refuse_if, ◌before◌, lowest_below, refusal, answer, outcome, written}
use Rattle.base_limits.specs.declared.Verdict.{Verdict}
use Rattle.base_limits.specs.declared.Verdict.TheVariants.{Fine, Refused}

pub before_fine : {v : Verdict} → v ≡ Fine → (w : Verdict) → (v before w) ≡ w
unfolding ◌before◌
before_fine h w = rw h

pub before_none : (v : Verdict) → (v before Fine) ≡ v
unfolding ◌before◌
before_none Fine = refl
before_none (Refused number place) = refl

pub before_refused : {v : Verdict} {number place : ℕ} → v ≡ Refused number place → (w : Verdict) → (v before w) ≡ Refused number place
unfolding ◌before◌
before_refused h w = rw h

-- A finding is passed on.
pub passed_on : {found v : Verdict} {number place : ℕ} → found ≡ v → found ≡ Refused number place → (w : Verdict) → found ≡ (v before w)
passed_on is refused w = refused ∙ sym (before_refused (sym is ∙ refused) w)

-- Nothing is found, and what comes next decides.
pub goes_on_law : {found v w next : Verdict} → found ≡ v → found ≡ Fine → next ≡ w → next ≡ (v before w)
goes_on_law {w = w} is fine h = h ∙ sym (before_fine (sym is ∙ fine) w)

-- What a buffer holds after a verdict that was found.
pub written_refused : {A : Type 0} {found v : Verdict} {number place : ℕ} (new old : A) → found ≡ v → found ≡ Refused number place → old ≡ written v new old
unfolding written
written_refused new old is refused = rw (sym is ∙ refused)

pub written_fine : {A : Type 0} {found v : Verdict} (new old : A) → found ≡ v → found ≡ Fine → new ≡ written v new old
unfolding written
written_fine new old is fine = rw (sym is ∙ fine)

pub before_assoc : (u v w : Verdict) → ((u before v) before w) ≡ (u before v before w)
unfolding ◌before◌
before_assoc Fine v w = refl
before_assoc (Refused number place) v w = refl

pub fine_left : (v w : Verdict) → (v before w) ≡ Fine → v ≡ Fine
unfolding ◌before◌
fine_left Fine w h = refl
fine_left (Refused number place) w h = h

pub fine_right : (v w : Verdict) → (v before w) ≡ Fine → w ≡ Fine
fine_right v w h = sym (before_fine (fine_left v w h) w) ∙ h

pub no_refusal : {number place : ℕ} {v : Verdict} → v ≡ Refused number place → v ≡ Fine → ⊥
no_refusal h k = let z : ◌≡◌ {A = ℕ} 0 1 = cc in omega arith

pub refuse_true : {t : Bool} → t ≡ true → (number place : ℕ) → refuse_if t number place ≡ Refused number place
unfolding refuse_if
refuse_true h number place = rw h

pub refuse_false : {t : Bool} → t ≡ false → (number place : ℕ) → refuse_if t number place ≡ Fine
unfolding refuse_if
refuse_false h number place = rw h

pub fine_refuse : (t : Bool) (number place : ℕ) → refuse_if t number place ≡ Fine → t ≡ false
unfolding refuse_if
fine_refuse false number place h = refl
fine_refuse true number place h = let z : true ≡ false = cc in z

pub lowest_none : (n : ℕ) (f : ℕ → Verdict) → ((i : ℕ) → i < n → f i ≡ Fine) → lowest_below n f ≡ Fine
unfolding lowest_below
lowest_none zero f h = refl
lowest_none (suc n) f h = before_fine (lowest_none n f (λ i b. h i (omega arith))) (f n) ∙ h n (omega arith)

pub none_lowest : (n : ℕ) (f : ℕ → Verdict) → lowest_below n f ≡ Fine → (i : ℕ) → i < n → f i ≡ Fine
unfolding lowest_below
none_lowest zero f h i b = absurd (omega arith)
none_lowest (suc n) f h i b =
    ⊎_elim
    (λ c. none_lowest n f (fine_left (lowest_below n f) (f n) h) i c)
    (λ e. ap f e ∙ fine_right (lowest_below n f) (f n) h)
    (below_suc i n b)

-- Nothing below i, and a finding at i.
pub lowest_found : (n i : ℕ) (f : ℕ → Verdict) {number place : ℕ} → i < n → lowest_below i f ≡ Fine → f i ≡ Refused number place
    → lowest_below n f ≡ Refused number place
unfolding lowest_below
lowest_found zero i f b h k = absurd (omega arith)
lowest_found (suc n) i f b h k =
    ⊎_elim
    (λ c. before_refused (lowest_found n i f c h k) (f n))
    (λ e. before_fine (ap (λ j. lowest_below j f) (sym e) ∙ h) (f n) ∙ ap f (sym e) ∙ k)
    (below_suc i n b)

-- A loop that looks for the lowest finding below n: so far it has looked below i and found nothing.
pub record Scanned (n : ℕ) (f : ℕ → Verdict) (i : ℕ) : Type 0 where
  pub within : i ≤ n
  pub none : lowest_below i f ≡ Fine

pub scan_start : (n : ℕ) (f : ℕ → Verdict) → Scanned n f 0
unfolding lowest_below
scan_start n f = record { within = omega arith; none = refl }

-- Nothing found at i.
pub scan_turn : {n i : ℕ} {f : ℕ → Verdict} {found : Verdict} → Scanned n f i → i < n → found ≡ f i → found ≡ Fine → Scanned n f (i + 1)
unfolding lowest_below
scan_turn {i = i} {f = f} h b is fine =
    record { within = omega arith; none = rw (add-one i) (before_fine h.none (f i) ∙ sym is ∙ fine) }

-- The finding at i is the answer.
pub scan_found : {n i number place : ℕ} {f : ℕ → Verdict} {found : Verdict} → Scanned n f i → i < n → found ≡ f i → found ≡ Refused number place
    → found ≡ lowest_below n f
scan_found {n} {i} {f = f} h b is refused = refused ∙ sym (lowest_found n i f b h.none (sym is ∙ refused))

-- All looked at.
pub scan_end : {n i : ℕ} {f : ℕ → Verdict} → Scanned n f i → n ≤ i → Fine ≡ lowest_below n f
scan_end {n} {i} {f} h c = let w : i ≤ n = h.within in let e : n ≡ i = omega arith in rw e (sym h.none)

pub lowest_cong : (n : ℕ) (f g : ℕ → Verdict) → ((i : ℕ) → i < n → f i ≡ g i) → lowest_below n f ≡ lowest_below n g
unfolding lowest_below
lowest_cong zero f g h = refl
lowest_cong (suc n) f g h = rw (lowest_cong n f g (λ i b. h i (omega arith)), h n (omega arith))

-- Where a finding comes from: the lowest number that has one.
pub record Lowest (n : ℕ) (f : ℕ → Verdict) (number place : ℕ) : Type 0 where
  pub at : ℕ
  pub below : at < n
  pub found : f at ≡ Refused number place
  pub none_before : (i : ℕ) → i < at → f i ≡ Fine

pub lowest_elim : (n : ℕ) (f : ℕ → Verdict) (number place : ℕ) → lowest_below n f ≡ Refused number place → Lowest n f number place
unfolding lowest_below ◌before◌
lowest_elim zero f number place h = absurd (let z : ◌≡◌ {A = ℕ} 0 1 = cc in omega arith)
lowest_elim (suc n) f number place h = by (lowest_elim n f number place) (lowest_below n f) refl
  where
    by : (lowest_below n f ≡ Refused number place → Lowest n f number place) → (v : Verdict) → lowest_below n f ≡ v → Lowest (suc n) f number place
    by ih Fine k = record { at = n; below = omega arith; found = sym (before_fine k (f n)) ∙ h; none_before = none_lowest n f k }
    by ih (Refused a b) k =
        let same : lowest_below n f ≡ Refused number place = k ∙ sym (before_refused k (f n)) ∙ h in
        let l : Lowest n f number place = ih same in
        record { at = l.at; below = let b = l.below in omega arith; found = l.found; none_before = l.none_before }

pub refused_refuse : (t : Bool) (number place a b : ℕ) → refuse_if t number place ≡ Refused a b → (t ≡ true) × ((number ≡ a) × (place ≡ b))
unfolding refuse_if
refused_refuse true number place a b h = (refl, ((cc), (cc)))
refused_refuse false number place a b h = absurd (let z : ◌≡◌ {A = ℕ} 0 1 = cc in omega arith)

-- ---- outcomes

-- An answer comes of no refusal, and is what was to be answered.
pub answer_fine : {A : Type 0} (v : Verdict) (a b : A) → outcome v a ≡ answer b → (v ≡ Fine) × (a ≡ b)
unfolding outcome
answer_fine Fine a b h = (refl, (cc))
answer_fine (Refused number place) a b h = absurd (let z : ◌≡◌ {A = ℕ} 0 1 = cc in omega arith)

-- A refusal is the finding.
pub refusal_found : {A : Type 0} (v : Verdict) (a : A) {number place : ℕ} → outcome v a ≡ refusal number place → v ≡ Refused number place
unfolding outcome
refusal_found Fine a h = absurd (let z : ◌≡◌ {A = ℕ} 0 1 = cc in omega arith)
refusal_found (Refused x y) a h = cc
