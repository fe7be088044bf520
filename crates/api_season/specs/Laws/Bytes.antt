-- A report as bytes: single numbers read, and three runs of numbers written one behind the other. Used by the proofs of
-- module bytes.
use Rattle.std.specs.Prelude.{ℕ, ◌+◌, ◌*◌, ◌-◌, ◌/◌, ◌≤◌, ◌<◌, ◌≡◌, List, [], ◌∷◌, ◌++◌, length, take, drop, set}
use Rattle.std.proofs.Common.{arith, ap, sym, ◌∙◌, append_assoc, length-drop, length-set, length-append, drop_of_length-le, length-take-le, take_all, drop-drop, lt-ltb, le-ltb}
use Rattle.std.proofs.Math.Path.{refl}
use Rattle.std.proofs.lemmas.List.Edits.{sets, sets-eq}
use Rattle.std.proofs.Math.Seq.{length-sets}
use Rattle.base_finite.specs.Below.{tabulate}
use Rattle.base_buffer.specs.Store.{remade}
use Rattle.base_buffer.proofs.Laws.Store.{remade_more, stored_table}
use Rattle.format_record.specs.Bits.{number_of}
use Rattle.format_record.specs.Record.{value_in, overwritten}
use Rattle.format_record.proofs.Laws.Record.{overwritten_whole}
use Rattle.season_rule.specs.declared.Farthest.{Farthest}
use Rattle.season_rule.specs.declared.Farthest.TheVariants.{Nothing, At}
use Rattle.season_rule.specs.declared.Report.{Report}
use Rattle.season_rule.specs.Report.{refusal_numbers}
use Rattle.api_handset.specs.Words.{figure_bytes, spelled_counts, with_spelled}
use Rattle.api_handset.proofs.Laws.Words.{length_spelled, spelled_append, sets_append}
use Rattle.api_season.specs.Bytes.{head_figures, report_bytes, figure_at, far_in, far_numbers, report_in, report_numbers, with_report}

-- ---- reading

pub figure_past : (bytes : List ℕ) (i : ℕ) → length bytes / figure_bytes < i → 0 ≡ figure_at bytes i
unfolding figure_at number_of
figure_past bytes i h =
    let far : length bytes ≤ figure_bytes * i = omega arith in
    rw (drop_of_length-le bytes far)

pub figure_read : (bytes : List ℕ) (i : ℕ) {x : ℕ} → x ≡ value_in (take (length bytes - figure_bytes * i) (drop (figure_bytes * i) bytes)) → x ≡ figure_at bytes i
unfolding figure_at value_in
figure_read bytes i h =
    let long : length (drop (figure_bytes * i) bytes) ≡ length bytes - figure_bytes * i = length-drop (figure_bytes * i) bytes in
    h ∙ ap (λ l. number_of (take figure_bytes l)) (take_all (length bytes - figure_bytes * i) (drop (figure_bytes * i) bytes) (omega arith))

-- A loop has stored the first k numbers of f.
pub record Storing (f : ℕ → ℕ) (before : List ℕ) (k : ℕ) (after : List ℕ) : Type 0 where
  pub within : k ≤ length before
  pub long : length after ≡ length before
  pub made : after ≡ remade (λ i x. f i) k before

module _ (f : ℕ → ℕ) (before : List ℕ) where
  pub storing_start : Storing f before 0 before
  unfolding remade
  storing_start = record { within = omega arith; long = refl; made = refl }

  pub storing_turn : {k x : ℕ} {now after : List ℕ} → Storing f before k now → k < length before → x ≡ f k → after ≡ set now k x → Storing f before (k + 1) after
  storing_turn {k} {x} {now} h b is made =
      record {
        within = omega arith;
        long = ap length made ∙ length-set now k x ∙ h.long;
        made = made ∙ remade_more (λ i y. f i) k before now x h.made is;
      }

  pub storing_end : {k : ℕ} {after : List ℕ} → Storing f before k after → length before ≤ k → after ≡ tabulate (length before) f
  storing_end {k} {after} h b = stored_table (λ i y. f i) (length before) k before f h.within b refl (λ i c. refl) h.made

-- ---- the farthest plan

pub far_some : (position twice bound : ℕ) → 0 < bound → At position twice bound ≡ far_in position twice bound
unfolding far_in
far_some position twice bound h = rw (lt-ltb 0 bound h)

pub far_none : (position twice bound : ℕ) → bound ≤ 0 → Nothing ≡ far_in position twice bound
unfolding far_in
far_none position twice bound h = rw (le-ltb 0 bound h)

pub numbers_none : {far : Farthest} → far ≡ Nothing → (0 ∷ 0 ∷ 0 ∷ []) ≡ far_numbers far
unfolding far_numbers
numbers_none h = rw h

pub numbers_some : {far : Farthest} {position twice bound : ℕ} → far ≡ At position twice bound → (position ∷ twice ∷ bound ∷ []) ≡ far_numbers far
unfolding far_numbers
numbers_some h = rw h

-- ---- all numbers of a report

pub report_read : (bytes : List ℕ) {s p c b x y z : ℕ} {refused : List ℕ} {far : Farthest} → s ≡ figure_at bytes 0 → p ≡ figure_at bytes 1 → c ≡ figure_at bytes 2
    → b ≡ figure_at bytes 3 → refused ≡ tabulate refusal_numbers (λ k. figure_at bytes (head_figures + k)) → x ≡ figure_at bytes 23 → y ≡ figure_at bytes 24
    → z ≡ figure_at bytes 25 → far ≡ far_in x y z
    → ◌≡◌ {A = Report} (record { surveys = s; planned = p; cost = c; bound = b; refused = refused; farthest = far }) (report_in bytes)
unfolding report_in
report_read bytes hs hp hc hb hr hx hy hz hf = rw (hf, hs, hp, hc, hb, hr, hx, hy, hz)

-- ---- writing

-- Numbers that fill their part.
spelled_whole : (part xs : List ℕ) → length part ≡ figure_bytes * length xs → with_spelled part xs ≡ spelled_counts xs
unfolding with_spelled overwritten
spelled_whole part xs h =
    let few : length xs ≤ length part / figure_bytes = omega arith in
    rw (le-ltb (length part / figure_bytes) (length xs) few) (overwritten_whole part (spelled_counts xs) (h ∙ sym (length_spelled xs)))

-- A buffer with another part from a to e.
abbrev pub stored : List ℕ → (a e : ℕ) → List ℕ → List ℕ
stored l a e part = take a l ++ (part ++ drop (e - a) (drop a l))

part_stored : (l : List ℕ) (a e : ℕ) (xs : List ℕ) {part : List ℕ} → a ≤ e → e ≤ length l → e - a ≡ figure_bytes * length xs
    → part ≡ with_spelled (take (e - a) (drop a l)) xs → stored l a e part ≡ sets l a (spelled_counts xs)
part_stored l a e xs {part} b fits is h =
    let run = spelled_counts xs in
    let long : length run ≡ e - a = length_spelled xs ∙ sym is in
    let rest : length (drop a l) ≡ length l - a = length-drop a l in
    let room : length (take (e - a) (drop a l)) ≡ e - a = length-take-le (e - a) (drop a l) (omega arith) in
    let whole : part ≡ run = h ∙ spelled_whole (take (e - a) (drop a l)) xs (room ∙ is) in
    let inside : a + length run ≤ length l = omega arith in
    rw (whole, drop-drop (e - a) a l)
    (sym (append_assoc (take a l) run (drop (a + (e - a)) l))
    ∙ sym (sets-eq run l a inside ∙ ap (λ k. take a l ++ run ++ drop (a + k) l) long))

-- A run at the beginning, and what stands behind it.
sets_front : (l run : List ℕ) → length run ≤ length l → sets l 0 run ≡ run ++ drop (length run) l
sets_front l run h =
    let e : 0 + length run ≡ length run = omega arith in
    let inside : 0 + length run ≤ length l = omega arith in
    sets-eq run l 0 inside ∙ ap (λ k. run ++ drop k l) e

-- The three runs of a report.
pub report_stored : (l : List ℕ) (r : Report) {head far first second third : List ℕ} → report_bytes ≤ length l
    → head ≡ (r.surveys ∷ r.planned ∷ r.cost ∷ r.bound ∷ []) → length r.refused ≡ refusal_numbers → far ≡ far_numbers r.farthest
    → first ≡ with_spelled (take (32 - 0) (drop 0 l)) head
    → second ≡ with_spelled (take (184 - 32) (drop 32 (stored l 0 32 first))) r.refused
    → third ≡ with_spelled (take (208 - 184) (drop 184 (stored (stored l 0 32 first) 32 184 second))) far
    → stored (stored (stored l 0 32 first) 32 184 second) 184 208 third ≡ with_report l r
unfolding with_report report_numbers far_numbers
report_stored l r {head} {far} {first} {second} {third} fits heads long fars h k m =
    let refused = r.refused in
    let l1 = sets l 0 (spelled_counts head) in
    let l2 = sets l1 32 (spelled_counts refused) in
    let four : length head ≡ 4 = ap length heads in
    let three : length far ≡ 3 = ap length fars ∙ far_long r.farthest in
    let one : stored l 0 32 first ≡ l1 = part_stored l 0 32 head (omega arith) (omega arith) (omega arith) h in
    let long1 : length l1 ≡ length l = length-sets l 0 (spelled_counts head) in
    let second_is : second ≡ with_spelled (take (184 - 32) (drop 32 l1)) refused = k ∙ ap (λ x. with_spelled (take (184 - 32) (drop 32 x)) refused) one in
    let two : stored l1 32 184 second ≡ l2 = part_stored l1 32 184 refused (omega arith) (omega arith) (omega arith) second_is in
    let long2 : length l2 ≡ length l1 = length-sets l1 32 (spelled_counts refused) in
    let before : stored (stored l 0 32 first) 32 184 second ≡ l2 = ap (λ x. stored x 32 184 second) one ∙ two in
    let third_is : third ≡ with_spelled (take (208 - 184) (drop 184 l2)) far = m ∙ ap (λ x. with_spelled (take (208 - 184) (drop 184 x)) far) before in
    let last : stored l2 184 208 third ≡ sets l2 184 (spelled_counts far) = part_stored l2 184 208 far (omega arith) (omega arith) (omega arith) third_is in
    let size1 : length (spelled_counts head) ≡ figure_bytes * length head = length_spelled head in
    let size2 : length (spelled_counts refused) ≡ figure_bytes * length refused = length_spelled refused in
    let size3 : length (spelled_counts far) ≡ figure_bytes * length far = length_spelled far in
    let at1 : 32 ≡ 0 + length (spelled_counts head) = omega arith in
    let at2 : 184 ≡ 32 + length (spelled_counts refused) = omega arith in
    let both : sets l2 184 (spelled_counts far) ≡ sets l1 32 (spelled_counts (refused ++ far)) =
    ap (λ x. sets l2 x (spelled_counts far)) at2
    ∙ sym (sets_append l1 32 (spelled_counts refused) (spelled_counts far))
    ∙ ap (λ x. sets l1 32 x) (sym (spelled_append refused far)) in
    let all : sets l1 32 (spelled_counts (refused ++ far)) ≡ sets l 0 (spelled_counts (head ++ (refused ++ far))) =
    ap (λ x. sets l1 x (spelled_counts (refused ++ far))) at1
    ∙ sym (sets_append l 0 (spelled_counts head) (spelled_counts (refused ++ far)))
    ∙ ap (λ x. sets l 0 x) (sym (spelled_append head (refused ++ far))) in
    let run = spelled_counts (head ++ (refused ++ far)) in
    let size : length run ≡ report_bytes = run_long head refused far four long three in
    ap (λ x. stored x 184 208 third) before
    ∙ last ∙ both ∙ all
    ∙ sets_front l run (rw size fits)
    ∙ ap (λ x. run ++ drop x l) size
    ∙ ap (λ x. spelled_counts (x ++ (refused ++ far)) ++ drop report_bytes l) heads
    ∙ ap (λ x. spelled_counts ((r.surveys ∷ r.planned ∷ r.cost ∷ r.bound ∷ []) ++ (refused ++ x)) ++ drop report_bytes l) fars
  where
    far_long : (f : Farthest) → length (far_numbers f) ≡ 3
    far_long Nothing = refl
    far_long (At position twice bound) = refl

    run_long : (head refused far : List ℕ) → length head ≡ 4 → length refused ≡ refusal_numbers → length far ≡ 3
        → length (spelled_counts (head ++ (refused ++ far))) ≡ report_bytes
    run_long head refused far a b c =
        let d = length_spelled (head ++ (refused ++ far)) in
        let e = length-append head (refused ++ far) in
        let f = length-append refused far in
        omega arith
