-- A report is read back as it was written, and all bytes 0 are the empty report.
use Rattle.std.specs.Prelude.{ℕ, zero, suc, ◌+◌, ◌*◌, ◌<◌, ◌≤◌, ◌≡◌, get_or, take, replicate}
use native.Mathlib.Omega.{arith}
use Rattle.std.proofs.Math.Path.{refl, ap}
use Rattle.std.proofs.Common.{sym, ◌∙◌, ⊎_elim, take-append-drop, take_at, ext_get_or, lt-ltb}
use mathlib.Core.List.{List, [], ◌∷◌, ◌++◌, append_assoc}
use Rattle.std.proofs.Math.ListN.{length, drop, length-append, get_or-eq_default}
use Rattle.std.proofs.Math.Seq.{drop-append-add, get_or-append-add}
use Rattle.base_finite.specs.Below.{tabulate}
use Rattle.base_finite.specs.Laws.Below.{lt_or_ge, length_tabulate, get_d_tabulate}
use Rattle.format_record.specs.Bits.{number_of, low_bytes}
use Rattle.format_record.proofs.Laws.Bytes.{length_low, number_of_low}
use Rattle.season_rule.specs.declared.Farthest.{Farthest}
use Rattle.season_rule.specs.declared.Farthest.TheVariants.{Nothing, At}
use Rattle.season_rule.specs.declared.Report.{Report}
use Rattle.season_rule.specs.Report.{refusal_numbers, word_limit, empty_report}
use Rattle.season_rule.specs.Text.{Words, FarWords, nothing, numbers}
use Rattle.api_handset.specs.Words.{figure_bytes, spelled_counts}
use Rattle.api_handset.proofs.Laws.Words.{length_spelled}
use Rattle.api_season.specs.Bytes.{head_figures, report_figures, report_bytes, figure_at, far_in, report_in, far_numbers, report_numbers, with_report, FarSome, nothing as none_some, some, Storable}

-- ---- numbers that are read back

figure_first : (x : ℕ) (rest : List ℕ) → x < word_limit → figure_at (low_bytes figure_bytes x ++ rest) 0 ≡ x
unfolding figure_at
figure_first x rest h =
    ap number_of (take_at (low_bytes figure_bytes x) rest figure_bytes (length_low figure_bytes x)) ∙ number_of_low figure_bytes x (omega arith)

figure_later : (x : ℕ) (rest : List ℕ) (i : ℕ) → figure_at (low_bytes figure_bytes x ++ rest) (suc i) ≡ figure_at rest i
unfolding figure_at
figure_later x rest i =
    let low = low_bytes figure_bytes x in
    let b : length low ≡ figure_bytes = length_low figure_bytes x in
    let e : figure_bytes * suc i ≡ length low + figure_bytes * i = omega arith in
    ap (λ k. number_of (take figure_bytes (drop k (low ++ rest)))) e
    ∙ ap (λ l. number_of (take figure_bytes l)) (drop-append-add low rest (figure_bytes * i))

-- Every number of a list has 64 bits.
abbrev AllWords : List ℕ → Type 0
AllWords xs = (i : ℕ) → get_or xs i 0 < word_limit

figures_back : (xs rest : List ℕ) → AllWords xs → (i : ℕ) → i < length xs → figure_at (spelled_counts xs ++ rest) i ≡ get_or xs i 0
unfolding spelled_counts
figures_back [] rest h i b = absurd (omega arith)
figures_back (x ∷ xs) rest h zero b =
    ap (λ l. figure_at l 0) (append_assoc (low_bytes figure_bytes x) (spelled_counts xs) rest) ∙ figure_first x (spelled_counts xs ++ rest) (h 0)
figures_back (x ∷ xs) rest h (suc i) b =
    ap (λ l. figure_at l (suc i)) (append_assoc (low_bytes figure_bytes x) (spelled_counts xs) rest)
    ∙ figure_later x (spelled_counts xs ++ rest) i
    ∙ figures_back xs rest (λ j. h (suc j)) i (omega arith)

-- ---- the numbers of a report

words_append : (xs ys : List ℕ) → AllWords xs → AllWords ys → AllWords (xs ++ ys)
words_append [] ys h k i = k i
words_append (x ∷ xs) ys h k zero = h 0
words_append (x ∷ xs) ys h k (suc i) = words_append xs ys (λ j. h (suc j)) k i

words_cons : (x : ℕ) (xs : List ℕ) → x < word_limit → AllWords xs → AllWords (x ∷ xs)
words_cons x xs h k zero = h
words_cons x xs h k (suc i) = k i

words_none : AllWords []
words_none i = omega arith

get_d_left : (xs ys : List ℕ) (i : ℕ) → i < length xs → get_or (xs ++ ys) i 0 ≡ get_or xs i 0
get_d_left [] ys i b = absurd (omega arith)
get_d_left (x ∷ xs) ys zero b = refl
get_d_left (x ∷ xs) ys (suc i) b = get_d_left xs ys i (omega arith)

module _ (r : Report) (k : Storable r) where
  counts_words : AllWords r.refused
  counts_words i =
      let long = k.words.refused_long in
      ⊎_elim (λ b. k.words.refused_words_law i b)
      (λ b. let e = get_or-eq_default r.refused 0 {n = i} (omega arith) in omega arith)
      (lt_or_ge i refusal_numbers)

  far_numbers_words : {far : Farthest} → FarWords far → AllWords (far_numbers far)
  unfolding far_numbers
  far_numbers_words nothing = words_cons 0 (0 ∷ 0 ∷ []) (omega arith) (words_cons 0 (0 ∷ []) (omega arith) (words_cons 0 [] (omega arith) words_none))
  far_numbers_words (numbers {position = p} {twice = t} {bound = b} hp ht hb) = words_cons p (t ∷ b ∷ []) hp (words_cons t (b ∷ []) ht (words_cons b [] hb words_none))

  report_words : AllWords (report_numbers r)
  unfolding report_numbers
  report_words =
      let w : Words r = k.words in
      words_append (r.surveys ∷ r.planned ∷ r.cost ∷ r.bound ∷ []) (r.refused ++ far_numbers r.farthest)
      (words_cons r.surveys (r.planned ∷ r.cost ∷ r.bound ∷ []) k.surveys_word
      (words_cons r.planned (r.cost ∷ r.bound ∷ []) w.planned_word
      (words_cons r.cost (r.bound ∷ []) w.cost_word (words_cons r.bound [] w.bound_word words_none))))
      (words_append r.refused (far_numbers r.farthest) counts_words (far_numbers_words w.farthest_words))

far_long : (f : Farthest) → length (far_numbers f) ≡ 3
unfolding far_numbers
far_long Nothing = refl
far_long (At position twice bound) = refl

pub numbers_long : (r : Report) → length r.refused ≡ refusal_numbers → length (report_numbers r) ≡ report_figures
unfolding report_numbers
numbers_long r long =
    let f = far_long r.farthest in
    let a = length-append r.refused (far_numbers r.farthest) in
    let b = length-append (r.surveys ∷ r.planned ∷ r.cost ∷ r.bound ∷ []) (r.refused ++ far_numbers r.farthest) in
    omega arith

pub bytes_long : (r : Report) → length r.refused ≡ refusal_numbers → length (spelled_counts (report_numbers r)) ≡ report_bytes
bytes_long r long = let a = length_spelled (report_numbers r) in let b = numbers_long r long in omega arith

far_back : (far : Farthest) → FarSome far → far_in (get_or (far_numbers far) 0 0) (get_or (far_numbers far) 1 0) (get_or (far_numbers far) 2 0) ≡ far
unfolding far_in far_numbers
far_back far none_some = refl
far_back far (some {position = p} {twice = t} {bound = b} h) = rw (lt-ltb 0 b h)

-- ---- a report that is read back

module _ (bytes : List ℕ) (r : Report) (k : Storable r) where
  long : length r.refused ≡ refusal_numbers
  long = k.words.refused_long

  -- What is read at i is number i.
  at : (i : ℕ) → i < report_figures → figure_at (with_report bytes r) i ≡ get_or (report_numbers r) i 0
  unfolding with_report
  at i b = let n = numbers_long r long in figures_back (report_numbers r) (drop report_bytes bytes) (report_words r k) i (omega arith)

  behind : (j : ℕ) → get_or (report_numbers r) (head_figures + j) 0 ≡ get_or (r.refused ++ far_numbers r.farthest) j 0
  unfolding report_numbers
  behind j = get_or-append-add (r.surveys ∷ r.planned ∷ r.cost ∷ r.bound ∷ []) (r.refused ++ far_numbers r.farthest) j 0

  far_at : (j : ℕ) → get_or (report_numbers r) (head_figures + (refusal_numbers + j)) 0 ≡ get_or (far_numbers r.farthest) j 0
  far_at j =
      behind (refusal_numbers + j)
      ∙ ap (λ n. get_or (r.refused ++ far_numbers r.farthest) (n + j) 0) (sym long)
      ∙ get_or-append-add r.refused (far_numbers r.farthest) j 0

  refused_back : tabulate refusal_numbers (λ j. figure_at (with_report bytes r) (head_figures + j)) ≡ r.refused
  refused_back =
      let f : ℕ → ℕ = λ j. figure_at (with_report bytes r) (head_figures + j) in
      let size : length (tabulate refusal_numbers f) ≡ refusal_numbers = length_tabulate refusal_numbers f in
      ext_get_or 0 (tabulate refusal_numbers f) r.refused (size ∙ sym long)
      (λ j b.
      let c : j < refusal_numbers = rw size at b in
      get_d_tabulate refusal_numbers f j 0 c
      ∙ at (head_figures + j) (omega arith)
      ∙ behind j
      ∙ get_d_left r.refused (far_numbers r.farthest) j (rw long c))

  far_is : far_in (figure_at (with_report bytes r) 23) (figure_at (with_report bytes r) 24) (figure_at (with_report bytes r) 25) ≡ r.farthest
  far_is =
      rw (at 23 (omega arith) ∙ far_at 0, at 24 (omega arith) ∙ far_at 1, at 25 (omega arith) ∙ far_at 2) (far_back r.farthest k.far_some)

  pub report_back : report_in (with_report bytes r) ≡ r
  unfolding report_in report_numbers
  report_back =
      rw (at 0 (omega arith), at 1 (omega arith), at 2 (omega arith), at 3 (omega arith), refused_back, far_is) refl

  -- Written over a report, another one is written over the slice.
  pub written_over : (next : Report) → with_report (with_report bytes r) next ≡ with_report bytes next
  unfolding with_report
  written_over next =
      let old_run = spelled_counts (report_numbers r) in
      let e : report_bytes ≡ length old_run + 0 = omega (arith, bytes_long r long) in
      ap (λ (l : List ℕ). spelled_counts (report_numbers next) ++ l)
      (ap (λ n. drop n (old_run ++ drop report_bytes bytes)) e ∙ drop-append-add old_run (drop report_bytes bytes) 0)

  pub written_long : report_bytes ≤ length (with_report bytes r)
  unfolding with_report
  written_long = let a = length-append (spelled_counts (report_numbers r)) (drop report_bytes bytes) in let b = bytes_long r long in omega arith

-- ---- the first report

pub zero_report : (bytes : List ℕ) → take report_bytes bytes ≡ replicate report_bytes 0 → bytes ≡ with_report bytes empty_report
unfolding with_report report_numbers far_numbers empty_report spelled_counts low_bytes
zero_report bytes h = sym (take-append-drop report_bytes bytes) ∙ ap (λ (l : List ℕ). l ++ drop report_bytes bytes) h
