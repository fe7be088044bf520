-- More pairs than may be: with the first one past the limit all that matters has been seen.
use Prim.Native.Nat.{ℕ, ◌+◌, ◌-◌, ◌/◌, ◌≤◌, ◌<◌, min}
use native.Mathlib.Omega.{arith}
use Rattle.std.proofs.Math.Nat.{sub-zero}
use Rattle.std.specs.Prelude.{◌≡◌, refl, List}
use Rattle.std.proofs.Math.Path.{ap}
use Rattle.std.proofs.Common.{ap₂, sym, ◌∙◌, length-take-le}
use Rattle.std.proofs.Math.Logic.{⊎_elim}
use Rattle.std.proofs.Math.ListN.{length, take}
use Rattle.std.proofs.Math.Seq.{take_all, get_or-take}
use Rattle.base_finite.specs.Laws.Below.{lt_or_ge}
use Rattle.base_limits.specs.Limits.{max_edges, max_pairs}
use Rattle.base_limits.specs.Verdict.{◌before◌, lowest_below, written}
use Rattle.base_limits.specs.declared.Verdict.{Verdict}
use Rattle.base_limits.specs.declared.Verdict.TheVariants.{Fine, Refused}
use Rattle.base_limits.specs.Laws.Verdict.{before_refused, before_fine, lowest_cong, lowest_elim, lowest_found, lowest_none, none_lowest}
use Rattle.survey_core.specs.Survey.{Survey, survey_with, survey_from}
use Rattle.survey_core.specs.Lists.{Lists, lists_from}
use Rattle.survey_core.specs.Pairs.{is_rising, pair_refusal, pairs_refusal}
use Rattle.survey_core.proofs.Laws.Pairs.{fine_pair}
use Rattle.survey_core.specs.Refusal.{survey_refusal}
use Rattle.survey_core.proofs.Laws.Refusal.{pairs_decide}
use Rattle.base_finite.specs.Below.{tabulate}
use Rattle.api_handset.specs.Words.{word_bytes, word_at, words_in}
use Rattle.api_handset.specs.Slices.{Slices, survey_spelled, pairs_seen}
use Rattle.api_handset.proofs.Laws.Words.{length_words, words_part}
use Rattle.api_handset.proofs.Laws.Lengths.{Even}

-- A survey and what is seen of it: all of it, or both are refused alike.
pub data Seen (s t : Survey) : Type 0 where
  whole : t ≡ s → Seen s t
  refused : (number place : ℕ) → survey_refusal s ≡ Refused number place → survey_refusal t ≡ Refused number place → Seen s t

-- So every call on the one is a call on the other.
pub seen_call : {s t : Survey} (rest : Survey → Verdict) → Seen s t → (survey_refusal t before rest t) ≡ (survey_refusal s before rest s)
seen_call rest (whole e) = ap (λ x. survey_refusal x before rest x) e
seen_call rest (refused number place h k) = before_refused k _ ∙ sym (before_refused h _)

pub seen_written : {A : Type 0} {s t : Survey} (rest : Survey → Verdict) (new : Survey → A) (old : A) → Seen s t
    → written (survey_refusal t before rest t) (new t) old ≡ written (survey_refusal s before rest s) (new s) old
unfolding written
seen_written rest new old (whole e) = ap (λ x. written (survey_refusal x before rest x) (new x) old) e
seen_written {s = s} {t = t} rest new old (refused number place h k) =
    ap (λ v. written v (new t) old) (before_refused k _) ∙ sym (ap (λ v. written v (new s) old) (before_refused h _))

-- ---- pairs

module _ (groups owners others : List ℕ) where
  abbrev all : Lists
  all = lists_from groups owners others

  abbrev first : Lists
  first = lists_from groups (take (max_pairs + 1) owners) (take (max_pairs + 1) others)

  same_pair : (i : ℕ) → i < max_pairs + 1 → pair_refusal first i ≡ pair_refusal all i
  unfolding pair_refusal is_rising
  same_pair i b =
      let c : i - 1 < max_pairs + 1 = omega arith in
      rw (
        get_or-take (max_pairs + 1) owners i 0 b,
        get_or-take (max_pairs + 1) others i 0 b,
        get_or-take (max_pairs + 1) owners (i - 1) 0 c,
        get_or-take (max_pairs + 1) others (i - 1) 0 c,
      )

-- The first pair past the limit is refused at the latest.
pub past_refused : (l : Lists) → lowest_below (max_pairs + 1) (pair_refusal l) ≡ Fine → ⊥
past_refused l h =
    let s = (fine_pair l max_pairs (none_lowest (max_pairs + 1) (pair_refusal l) h max_pairs (omega arith))).few in
    omega arith

lowest_longer : (n N : ℕ) (f : ℕ → Verdict) {number place : ℕ} → n ≤ N → lowest_below n f ≡ Refused number place → lowest_below N f ≡ Refused number place
lowest_longer n N f {number} {place} fits h =
    let l = lowest_elim n f number place h in
    let below : l.at < n = l.below in
    lowest_found N l.at f (omega arith) (lowest_none l.at f l.none_before) l.found

module _ (groups firsts seconds weights owners others : List ℕ) (even : length owners ≡ length others) where
  few_seen : length others < max_pairs + 1
      → Seen (survey_with groups firsts seconds weights owners others)
      (survey_with groups firsts seconds weights (take (pairs_seen (length others)) owners) (take (pairs_seen (length others)) others))
  unfolding pairs_seen
  few_seen few =
      let e : min (max_pairs + 1) (length others) ≡ length others = omega arith in
      let a : take (length others) owners ≡ owners = take_all (length others) owners (omega arith) in
      let b : take (length others) others ≡ others = take_all (length others) others (omega arith) in
      whole
      (ap₂ (λ o g. survey_with groups firsts seconds weights o g) (ap (λ k. take k owners) e ∙ a) (ap (λ k. take k others) e ∙ b))

  many_refused : {number place : ℕ} → max_pairs + 1 ≤ length others → lowest_below (max_pairs + 1) (pair_refusal (lists_from groups owners others)) ≡ Refused number place
      → pairs_refusal (lists_from groups owners others) ≡ Refused number place
  unfolding pairs_refusal
  many_refused many h = lowest_longer (max_pairs + 1) (length owners) _ (omega arith) h

  first_refused : {number place : ℕ} → max_pairs + 1 ≤ length others → lowest_below (max_pairs + 1) (pair_refusal (lists_from groups owners others)) ≡ Refused number place
      → pairs_refusal (lists_from groups (take (max_pairs + 1) owners) (take (max_pairs + 1) others)) ≡ Refused number place
  unfolding pairs_refusal
  first_refused many h =
      ap (λ n. lowest_below n (pair_refusal (lists_from groups (take (max_pairs + 1) owners) (take (max_pairs + 1) others))))
      (length-take-le (max_pairs + 1) owners (omega arith))
      ∙ lowest_cong (max_pairs + 1) _ _ (same_pair groups owners others)
      ∙ h

  many_seen : max_pairs + 1 ≤ length others
      → Seen (survey_with groups firsts seconds weights owners others)
      (survey_with groups firsts seconds weights (take (max_pairs + 1) owners) (take (max_pairs + 1) others))
  many_seen many = by (lowest_below (max_pairs + 1) (pair_refusal (lists_from groups owners others))) refl (survey_refusal (survey_from groups firsts seconds weights)) refl
    where
      long : length (take (max_pairs + 1) owners) ≡ length (take (max_pairs + 1) others)
      long = length-take-le (max_pairs + 1) owners (omega arith) ∙ sym (length-take-le (max_pairs + 1) others many)

      by : (v : Verdict) → lowest_below (max_pairs + 1) (pair_refusal (lists_from groups owners others)) ≡ v
          → (w : Verdict) → survey_refusal (survey_from groups firsts seconds weights) ≡ w
          → Seen (survey_with groups firsts seconds weights owners others)
          (survey_with groups firsts seconds weights (take (max_pairs + 1) owners) (take (max_pairs + 1) others))
      by Fine h w k = absurd (past_refused (lists_from groups owners others) h)
      by (Refused number place) h Fine k =
          refused number place
          (pairs_decide groups firsts seconds weights owners others even ∙ before_fine k _ ∙ many_refused many h)
          (pairs_decide groups firsts seconds weights (take (max_pairs + 1) owners) (take (max_pairs + 1) others) long ∙ before_fine k _ ∙ first_refused many h)
      by (Refused number place) h (Refused a b) k =
          refused a b
          (pairs_decide groups firsts seconds weights owners others even ∙ before_refused k _)
          (pairs_decide groups firsts seconds weights (take (max_pairs + 1) owners) (take (max_pairs + 1) others) long ∙ before_refused k _)

  pub pairs_seen_law : Seen (survey_with groups firsts seconds weights owners others)
      (survey_with groups firsts seconds weights (take (pairs_seen (length others)) owners) (take (pairs_seen (length others)) others))
  unfolding pairs_seen
  pairs_seen_law = ⊎_elim few_seen (λ many. seen_many many) (lt_or_ge (length others) (max_pairs + 1))
    where
      seen_many : max_pairs + 1 ≤ length others
          → Seen (survey_with groups firsts seconds weights owners others)
          (survey_with groups firsts seconds weights (take (pairs_seen (length others)) owners) (take (pairs_seen (length others)) others))
      seen_many many =
          let e : min (max_pairs + 1) (length others) ≡ max_pairs + 1 = omega arith in
          rw e (many_seen many)

-- ---- from bytes

pub seen_few : (n : ℕ) {p : ℕ} → p ≡ pairs_seen n → p ≤ max_pairs + 1
unfolding pairs_seen
seen_few n h = omega arith

pub seen_fits : (n : ℕ) {p : ℕ} → p ≡ pairs_seen n → p ≤ n
unfolding pairs_seen
seen_fits n h = omega arith

-- What the tables of numbers show of the survey that the slices spell.
pub seen_words : (b : Slices) → Even b → {F S W O : List ℕ} {p : ℕ}
    → F ≡ tabulate max_edges (word_at b.firsts) → S ≡ tabulate max_edges (word_at b.seconds) → W ≡ tabulate max_edges (word_at b.weights)
    → O ≡ tabulate (max_pairs + 1) (word_at b.owners) → p ≡ pairs_seen (length b.others)
    → Seen (survey_spelled b)
    (survey_with b.groups (take (length b.firsts / word_bytes - 0) F) (take (length b.firsts / word_bytes - 0) S)
    (take (length b.firsts / word_bytes - 0) W) (take (p - 0) O) (take (p - 0) b.others))
unfolding survey_spelled words_in
seen_words b even {F} {S} {W} {O} {p} h_f h_s h_w h_o e =
    let m = length b.firsts / word_bytes in
    let q = pairs_seen (length b.others) in
    let few : m ≤ max_edges = even.edges_few in
    let pairs : length b.owners / word_bytes ≡ length b.others = even.pairs_even in
    let fits : p ≤ length b.others = seen_fits (length b.others) e in
    let f : take (m - 0) F ≡ words_in b.firsts = words_part b.firsts m max_edges few h_f in
    let s : take (m - 0) S ≡ words_in b.seconds =
    words_part b.seconds m max_edges few h_s ∙ ap (λ n. tabulate n (word_at b.seconds)) even.seconds_even in
    let w : take (m - 0) W ≡ words_in b.weights =
    words_part b.weights m max_edges few h_w ∙ ap (λ n. tabulate n (word_at b.weights)) even.weights_even in
    let o : take (p - 0) O ≡ take q (words_in b.owners) =
    words_part b.owners p (max_pairs + 1) (seen_few (length b.others) e) h_o
    ∙ sym (words_part b.owners p (length b.owners / word_bytes) (omega arith) refl)
    ∙ ap (λ k. take k (words_in b.owners)) (sub-zero p ∙ e) in
    let g : take (p - 0) b.others ≡ take q b.others = ap (λ k. take k b.others) (sub-zero p ∙ e) in
    rw (f, s, w, o, g)
    (pairs_seen_law b.groups (words_in b.firsts) (words_in b.seconds) (words_in b.weights) (words_in b.owners) b.others
    (length_words b.owners ∙ pairs))
