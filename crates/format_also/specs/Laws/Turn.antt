-- One turn of the loop over also lines: what is left to read, to store and to count is what the whole reads, stores and counts.
use Rattle.std.specs.Prelude.{ℕ, ◌+◌, ◌-◌, ◌≤◌, ◌<◌, ◌≡◌, refl, true, false, List, [], ◌∷◌, map, set}
use Rattle.std.proofs.Common.{zero-add, add-one, ap, ◌∙◌, length-set}
use native.Mathlib.Omega.{arith}
use Rattle.std.proofs.Math.Path.{sym}
use Rattle.std.proofs.Math.ListN.{length}
use Rattle.std.proofs.lemmas.List.Edits.{sets}
use Rattle.format_read.specs.Step.{Step, found, refused}
use Rattle.format_read.specs.Lines.{Lines, following}
use Rattle.format_read.specs.Items.{ItemReader, items_from, puts, Ends}
use Rattle.format_read.proofs.Laws.Step.{then_found, then_refused}
use Rattle.format_read.proofs.Laws.Lines.{one_less_law}
use Rattle.format_read.proofs.Laws.Items.{ItemsLeft, left_start, left_more, left_stop, left_refused, left_out_law, left_length}
use Rattle.format_also.specs.Pair.{Pair, also_reader, also_turns, also_at, pairs_counted, owners_of, others_of, put_owner, put_other}

-- Stores one after another are stores of a list.
puts_sets : (f : Pair → ℕ) (buffer : List ℕ) (i : ℕ) (l : List Pair) → puts (λ b k x. set b k (f x)) buffer i l ≡ sets buffer i (map f l)
unfolding puts
puts_sets f buffer i [] = refl
puts_sets f buffer i (x ∷ l) = puts_sets f (set buffer i (f x)) (i + 1) l ∙ ap (λ (k : ℕ). sets (set buffer i (f x)) k (map f l)) (add-one i)

owner_length : (l : List ℕ) (i : ℕ) (x : Pair) → length (put_owner l i x) ≡ length l
owner_length l i x = length-set l i x.owner

other_length : (l : List ℕ) (i : ℕ) (x : Pair) → length (put_other l i x) ≡ length l
other_length l i x = length-set l i x.other

module _ (r : ItemReader ℕ Pair) (whole : Lines ℕ Pair) (owners₀ others₀ : List ℕ) where
  -- At line i.
  pub record PairsLeft (low i at : ℕ) (owners others : List ℕ) : Type 0 where
    pub owned : ItemsLeft r put_owner whole owners₀ also_turns low i at owners
    pub othered : ItemsLeft r put_other whole others₀ also_turns low i at others
    pub count : i + length (items_from r (also_turns - i) low i at).values ≡ length whole.values

  -- At the end.
  pub record PairsEnd (step : Step ℕ) (owners others : List ℕ) : Type 0 where
    pub end : step ≡ pairs_counted whole
    pub owned : owners ≡ sets owners₀ 0 (owners_of whole.values)
    pub othered : others ≡ sets others₀ 0 (others_of whole.values)

  module _ (low i at : ℕ) (owners others : List ℕ) (h : PairsLeft low i at owners others) where
    pub owners_length : length owners ≡ length owners₀
    owners_length = left_length put_owner owner_length h.owned

    pub others_length : length others ≡ length others₀
    others_length = left_length put_other other_length h.othered

    turn_count : {l : Lines ℕ Pair} → items_from r (also_turns - i) low i at ≡ l → i + length l.values ≡ length whole.values
    turn_count e = ap (λ (l : Lines ℕ Pair). i + length l.values) (sym e) ∙ h.count

    ended : {step : Step ℕ} → step ≡ pairs_counted whole → Ends put_owner whole owners₀ whole.end owners → Ends put_other whole others₀ whole.end others → PairsEnd step owners others
    unfolding owners_of others_of
    ended e a b = record { end = e; owned = a.stored ∙ puts_sets (λ x. x.owner) owners₀ 0 whole.values; othered = b.stored ∙ puts_sets (λ x. x.other) others₀ 0 whole.values }

    at_end : {s : Step ℕ} {put : List ℕ → ℕ → Pair → List ℕ} {old buffer : List ℕ} → Ends put whole old s buffer → Ends put whole old whole.end buffer
    at_end e = record { end = refl; stored = e.stored }

    pub pairs_more : {x : Pair} {next : ℕ} → i < also_turns → r.stop at ≡ false → r.item low i at ≡ found x next → PairsLeft (r.after low x) (i + 1) next (set owners i x.owner) (set others i x.other)
    unfolding items_from following
    pairs_more {x} {next} b s e =
        let l = items_from r (also_turns - (i + 1)) (r.after low x) (i + 1) next in
        let q : items_from r (also_turns - i) low i at ≡ record { values = x ∷ l.values; end = l.end } = rw (one_less_law b, s, e) in
        let k = turn_count q in
        record { owned = left_more r put_owner whole owners₀ also_turns low i at owners b s e h.owned; othered = left_more r put_other whole others₀ also_turns low i at others b s e h.othered; count = omega arith }

    pub pairs_stop : {k : ℕ} → k ≡ i → i < also_turns → r.stop at ≡ true → PairsEnd (found k at) owners others
    unfolding items_from pairs_counted
    pairs_stop {k} same b s =
        let q : items_from r (also_turns - i) low i at ≡ record { values = []; end = found low at } = rw (one_less_law b, s) in
        let all = turn_count q in
        let n : k ≡ length whole.values = omega arith in
        let o = left_stop r put_owner whole owners₀ also_turns low i at owners b s h.owned in
        let p = left_stop r put_other whole others₀ also_turns low i at others b s h.othered in
        ended (ap (λ (m : ℕ). found m at) n ∙ sym (then_found _ (sym o.end))) (at_end o) (at_end p)

    pub pairs_refused : {n p : ℕ} → i < also_turns → r.stop at ≡ false → r.item low i at ≡ refused n p → PairsEnd (refused n p) owners others
    unfolding pairs_counted
    pairs_refused b s e =
        let o = left_refused r put_owner whole owners₀ also_turns low i at owners b s e h.owned in
        let p = left_refused r put_other whole others₀ also_turns low i at others b s e h.othered in
        ended (sym (then_refused _ (sym o.end))) (at_end o) (at_end p)

    pub pairs_out : also_turns ≤ i → PairsEnd (refused 16 at) owners others
    unfolding pairs_counted
    pairs_out b =
        let o = left_out_law r put_owner whole owners₀ also_turns low i at owners b h.owned in
        let p = left_out_law r put_other whole others₀ also_turns low i at others b h.othered in
        ended (sym (then_refused _ (sym o.end))) (at_end o) (at_end p)

pub pairs_start : (r : ItemReader ℕ Pair) (at : ℕ) (owners others : List ℕ) → PairsLeft r (items_from r also_turns 0 0 at) owners others 0 0 at owners others
pairs_start r at owners others = record { owned = left_start r put_owner also_turns 0 at owners; othered = left_start r put_other also_turns 0 at others; count = zero-add _ }

-- What the lines answer and leave in the buffers.
abbrev pub AlsoEnds : (t groups owners₀ others₀ : List ℕ) (at : ℕ) (step : Step ℕ) (owners others : List ℕ) (room : ℕ) → Type 0
AlsoEnds t groups owners₀ others₀ at step owners others room =
    (step ≡ pairs_counted (also_at t groups room at))
    × (owners ≡ sets owners₀ 0 (owners_of (also_at t groups room at).values))
    × (others ≡ sets others₀ 0 (others_of (also_at t groups room at).values))

module _ (t groups owners₀ others₀ : List ℕ) (at : ℕ) where
  pub pairs_ended : (room : ℕ) {step : Step ℕ} {owners others : List ℕ} → PairsEnd (also_reader t groups room) (also_at t groups room at) owners₀ others₀ step owners others
      → AlsoEnds t groups owners₀ others₀ at step owners others room
  pairs_ended room e = (e.end, e.owned, e.othered)
