-- One turn of the loop over tie lines: what is left to read, to store and to count is what the whole reads, stores and counts.
use Rattle.std.specs.Prelude.{ℕ, ◌+◌, ◌-◌, ◌≤◌, ◌<◌, ◌≡◌, refl, true, false, List, [], ◌∷◌, map, set}
use Rattle.std.proofs.Common.{zero-add, add-one, ap, ◌∙◌, length-set}
use native.Mathlib.Omega.{arith}
use Rattle.std.proofs.Math.Path.{sym}
use Rattle.std.proofs.Math.ListN.{length}
use Rattle.std.proofs.lemmas.List.Edits.{sets}
use Rattle.format_read.specs.Step.{Step, found, refused}
use Rattle.format_read.specs.Lines.{Lines, following}
use Rattle.format_read.specs.Items.{ItemReader, items_from, puts, Ends}
use Rattle.format_read.proofs.Laws.Step.{then_found, then_refused}
use Rattle.format_read.proofs.Laws.Lines.{one_less_law}
use Rattle.format_read.proofs.Laws.Items.{ItemsLeft, left_start, left_more, left_stop, left_refused, left_out_law, left_length}
use Rattle.format_also.specs.Pair.{Pair, pairs_counted, owners_of, others_of, put_owner, put_other}
use Rattle.text_merge.specs.Ties.{tie_reader, tie_turns, tie_lines}

-- Stores one after another are stores of a list.
puts_sets : (f : Pair → ℕ) (buffer : List ℕ) (i : ℕ) (l : List Pair) → puts (λ b k x. set b k (f x)) buffer i l ≡ sets buffer i (map f l)
unfolding puts
puts_sets f buffer i [] = refl
puts_sets f buffer i (x ∷ l) = puts_sets f (set buffer i (f x)) (i + 1) l ∙ ap (λ (k : ℕ). sets (set buffer i (f x)) k (map f l)) (add-one i)

first_length : (l : List ℕ) (i : ℕ) (x : Pair) → length (put_owner l i x) ≡ length l
first_length l i x = length-set l i x.owner

second_length : (l : List ℕ) (i : ℕ) (x : Pair) → length (put_other l i x) ≡ length l
second_length l i x = length-set l i x.other

module _ (r : ItemReader ℕ Pair) (whole : Lines ℕ Pair) (firsts₀ seconds₀ : List ℕ) where
  -- At line i.
  pub record TiesLeft (low i at : ℕ) (firsts seconds : List ℕ) : Type 0 where
    pub owned : ItemsLeft r put_owner whole firsts₀ tie_turns low i at firsts
    pub othered : ItemsLeft r put_other whole seconds₀ tie_turns low i at seconds
    pub count : i + length (items_from r (tie_turns - i) low i at).values ≡ length whole.values

  -- At the end.
  pub record TiesEnd (step : Step ℕ) (firsts seconds : List ℕ) : Type 0 where
    pub end : step ≡ pairs_counted whole
    pub owned : firsts ≡ sets firsts₀ 0 (owners_of whole.values)
    pub othered : seconds ≡ sets seconds₀ 0 (others_of whole.values)

  module _ (low i at : ℕ) (firsts seconds : List ℕ) (h : TiesLeft low i at firsts seconds) where
    pub firsts_length : length firsts ≡ length firsts₀
    firsts_length = left_length put_owner first_length h.owned

    pub seconds_length : length seconds ≡ length seconds₀
    seconds_length = left_length put_other second_length h.othered

    turn_count : {l : Lines ℕ Pair} → items_from r (tie_turns - i) low i at ≡ l → i + length l.values ≡ length whole.values
    turn_count e = ap (λ (l : Lines ℕ Pair). i + length l.values) (sym e) ∙ h.count

    ended : {step : Step ℕ} → step ≡ pairs_counted whole → Ends put_owner whole firsts₀ whole.end firsts → Ends put_other whole seconds₀ whole.end seconds → TiesEnd step firsts seconds
    unfolding owners_of others_of
    ended e a b = record { end = e; owned = a.stored ∙ puts_sets (λ x. x.owner) firsts₀ 0 whole.values; othered = b.stored ∙ puts_sets (λ x. x.other) seconds₀ 0 whole.values }

    at_end : {s : Step ℕ} {put : List ℕ → ℕ → Pair → List ℕ} {old buffer : List ℕ} → Ends put whole old s buffer → Ends put whole old whole.end buffer
    at_end e = record { end = refl; stored = e.stored }

    pub ties_more : {x : Pair} {next : ℕ} → i < tie_turns → r.stop at ≡ false → r.item low i at ≡ found x next → TiesLeft (r.after low x) (i + 1) next (set firsts i x.owner) (set seconds i x.other)
    unfolding items_from following
    ties_more {x} {next} b s e =
        let l = items_from r (tie_turns - (i + 1)) (r.after low x) (i + 1) next in
        let q : items_from r (tie_turns - i) low i at ≡ record { values = x ∷ l.values; end = l.end } = rw (one_less_law b, s, e) in
        let k = turn_count q in
        record { owned = left_more r put_owner whole firsts₀ tie_turns low i at firsts b s e h.owned; othered = left_more r put_other whole seconds₀ tie_turns low i at seconds b s e h.othered; count = omega arith }

    pub ties_stop : {k : ℕ} → k ≡ i → i < tie_turns → r.stop at ≡ true → TiesEnd (found k at) firsts seconds
    unfolding items_from pairs_counted
    ties_stop {k} same b s =
        let q : items_from r (tie_turns - i) low i at ≡ record { values = []; end = found low at } = rw (one_less_law b, s) in
        let all = turn_count q in
        let n : k ≡ length whole.values = omega arith in
        let o = left_stop r put_owner whole firsts₀ tie_turns low i at firsts b s h.owned in
        let p = left_stop r put_other whole seconds₀ tie_turns low i at seconds b s h.othered in
        ended (ap (λ (m : ℕ). found m at) n ∙ sym (then_found _ (sym o.end))) (at_end o) (at_end p)

    pub ties_refused : {n p : ℕ} → i < tie_turns → r.stop at ≡ false → r.item low i at ≡ refused n p → TiesEnd (refused n p) firsts seconds
    unfolding pairs_counted
    ties_refused b s e =
        let o = left_refused r put_owner whole firsts₀ tie_turns low i at firsts b s e h.owned in
        let p = left_refused r put_other whole seconds₀ tie_turns low i at seconds b s e h.othered in
        ended (sym (then_refused _ (sym o.end))) (at_end o) (at_end p)

    pub ties_out : tie_turns ≤ i → TiesEnd (refused 16 at) firsts seconds
    unfolding pairs_counted
    ties_out b =
        let o = left_out_law r put_owner whole firsts₀ tie_turns low i at firsts b h.owned in
        let p = left_out_law r put_other whole seconds₀ tie_turns low i at seconds b h.othered in
        ended (sym (then_refused _ (sym o.end))) (at_end o) (at_end p)

pub ties_start : (r : ItemReader ℕ Pair) (at : ℕ) (firsts seconds : List ℕ) → TiesLeft r (items_from r tie_turns 0 0 at) firsts seconds 0 0 at firsts seconds
ties_start r at firsts seconds = record { owned = left_start r put_owner tie_turns 0 at firsts; othered = left_start r put_other tie_turns 0 at seconds; count = zero-add _ }

pub ties_ended : (t firsts₀ seconds₀ : List ℕ) {step : Step ℕ} {firsts seconds : List ℕ} → TiesEnd (tie_reader t) (tie_lines t) firsts₀ seconds₀ step firsts seconds
    → (step ≡ pairs_counted (tie_lines t)) × (firsts ≡ sets firsts₀ 0 (owners_of (tie_lines t).values)) × (seconds ≡ sets seconds₀ 0 (others_of (tie_lines t).values))
ties_ended t firsts₀ seconds₀ e = (e.end, e.owned, e.othered)
