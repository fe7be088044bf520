-- The bytes that the code stores are the table turned (document 02, No. 10). `turn_column`, `turn`, `pack_table` and
-- `unpack_table` use it.
use Prim.Native.Nat.{ℕ, zero, suc, ◌+◌, ◌*◌, ◌/◌, ◌%◌, ◌<◌, ◌≤◌}
use native.Mathlib.Omega.{arith}
use Rattle.std.proofs.Common.{add-one, ◌∙◌, drop-cons, ltb-false}
use Rattle.std.specs.Prelude.{◌≡◌, List, ◌∷◌, ◌++◌, ltb}
use Rattle.std.proofs.Math.Path.{refl, ap, ap₂, sym}
use Rattle.std.proofs.Math.ListN.{length, get_or, set, drop, length-set}
use Rattle.std.proofs.lemmas.List.{set_at}
use Rattle.std.proofs.Math.Seq.{append_snoc}
use Rattle.base_finite.specs.Below.{tabulate}
use Rattle.base_finite.specs.Laws.Below.{length_tabulate}
use Rattle.base_limits.specs.Verdict.{written}
use Rattle.base_limits.specs.declared.Verdict.TheVariants.{Fine}
use Rattle.base_limits.specs.Laws.Verdict.{fine_left, fine_right, fine_refuse}
use Rattle.format_table.specs.Table.{track_bytes, turned, tracks_in, packed, unpacked, table_refusal, packed_out, unpacked_out}
use Rattle.format_table.specs.Turning.{column_stored, columns_stored, Holds, HoldsColumn}
use Rattle.format_table.proofs.Laws.Table.{place_row, place_column, place_below}

-- ---- stores at rising places

-- The first k bytes are stored: one more.
pub stored_more : (f : ℕ → ℕ) (k : ℕ) (held : List ℕ) {x : ℕ} → k < length held → x ≡ f k
    → set (tabulate k f ++ drop k held) k x ≡ tabulate (suc k) f ++ drop (suc k) held
unfolding tabulate
stored_more f k held {x} b is =
    let rest : drop k held ≡ get_or held k 0 ∷ drop (suc k) held = drop-cons held k 0 b in
    ap (λ l. set (tabulate k f ++ l) k x) rest
    ∙ set_at (tabulate k f) (get_or held k 0) (drop (suc k) held) x k (length_tabulate k f)
    ∙ ap (λ y. tabulate k f ++ y ∷ drop (suc k) held) is
    ∙ sym (append_snoc (tabulate k f) (f k) (drop (suc k) held))

-- ---- what the loops leave

module _ (rows columns : ℕ) (t : List ℕ) where
  -- the byte that goes to k
  abbrev byte_at : ℕ → ℕ
  byte_at k = get_or t (k % rows * columns + k / rows) 0

  pub length_column : (j i : ℕ) (out : List ℕ) → length (column_stored rows columns t j i out) ≡ length out
  unfolding column_stored
  length_column j zero out = refl
  length_column j (suc i) out = length-set (column_stored rows columns t j i out) (j * rows + i) (get_or t (i * columns + j) 0) ∙ length_column j i out

  pub length_columns : (j : ℕ) (out : List ℕ) → length (columns_stored rows columns t j out) ≡ length out
  unfolding columns_stored
  length_columns zero out = refl
  length_columns (suc j) out = length_column j rows (columns_stored rows columns t j out) ∙ length_columns j out

  column_is : (held : List ℕ) → rows * columns ≤ length held → (j : ℕ) → j < columns → (i : ℕ) → i ≤ rows → {out : List ℕ}
      → out ≡ tabulate (j * rows) byte_at ++ drop (j * rows) held
      → column_stored rows columns t j i out ≡ tabulate (j * rows + i) byte_at ++ drop (j * rows + i) held
  unfolding column_stored
  column_is held fits j c zero b {out} is =
      let e : j * rows ≡ j * rows + 0 = omega arith in
      is ∙ ap (λ k. tabulate k byte_at ++ drop k held) e
  column_is held fits j c (suc i) b {out} is =
      let below : j * rows + i < rows * columns = place_below rows i j (omega arith) columns c in
      let x : get_or t (i * columns + j) 0 ≡ byte_at (j * rows + i) =
      sym (ap₂ (λ x y. get_or t (x * columns + y) 0) (place_row rows i j (omega arith)) (place_column rows i j (omega arith))) in
      let e : suc (j * rows + i) ≡ j * rows + suc i = omega arith in
      ap (λ l. set l (j * rows + i) (get_or t (i * columns + j) 0)) (column_is held fits j c i (omega arith) is)
      ∙ stored_more byte_at (j * rows + i) held (omega arith) x
      ∙ ap (λ k. tabulate k byte_at ++ drop k held) e

  columns_are : (held : List ℕ) → rows * columns ≤ length held → (j : ℕ) → j ≤ columns
      → columns_stored rows columns t j held ≡ tabulate (j * rows) byte_at ++ drop (j * rows) held
  unfolding columns_stored tabulate
  columns_are held fits zero b = let e : 0 ≡ 0 * rows = omega arith in ap (λ k. tabulate k byte_at ++ drop k held) e
  columns_are held fits (suc j) b =
      let e : j * rows + rows ≡ suc j * rows = omega arith in
      column_is held fits j (omega arith) rows (omega arith) (columns_are held fits j (omega arith))
      ∙ ap (λ k. tabulate k byte_at ++ drop k held) e

  -- All columns stored: the table turned, and what stood behind it.
  pub columns_turned : (held : List ℕ) → rows * columns ≤ length held
      → columns_stored rows columns t columns held ≡ turned rows columns t ++ drop (rows * columns) held
  unfolding turned
  columns_turned held fits =
      let e : columns * rows ≡ rows * columns = omega arith in
      columns_are held fits columns (omega arith) ∙ ap (λ k. tabulate k byte_at ++ drop k held) e

-- ---- the loops

-- Before each byte of a column: i are stored.
pub record StoringColumn (rows columns j : ℕ) (t held : List ℕ) (i : ℕ) (out : List ℕ) : Type 0 where
  pub within : i ≤ rows
  pub long : length out ≡ length held
  pub made : out ≡ column_stored rows columns t j i held

module _ (rows columns j : ℕ) (t held : List ℕ) where
  pub column_start : StoringColumn rows columns j t held 0 held
  unfolding column_stored
  column_start = record { within = omega arith; long = refl; made = refl }

  pub column_more : {i x : ℕ} {out after : List ℕ} → StoringColumn rows columns j t held i out → i < rows → x ≡ get_or t (i * columns + j) 0
      → after ≡ set out (j * rows + i) x → StoringColumn rows columns j t held (i + 1) after
  unfolding column_stored
  column_more {i} {x} {out} {after} h b is stored =
      record {
        within = omega arith;
        long = ap length stored ∙ length-set out (j * rows + i) x ∙ h.long;
        made =
            stored
            ∙ ap₂ (λ l y. set l (j * rows + i) y) h.made is
            ∙ sym (ap (λ k. column_stored rows columns t j k held) (add-one i));
      }

  pub column_end : {i : ℕ} {out : List ℕ} → StoringColumn rows columns j t held i out → rows ≤ i → out ≡ column_stored rows columns t j rows held
  column_end {i} h c =
      let w = h.within in
      let e : i ≡ rows = omega arith in
      h.made ∙ ap (λ k. column_stored rows columns t j k held) e

-- Where a byte of a column comes from and where it goes: within the table and the buffer.
pub record Places (rows columns j i : ℕ) (t out : List ℕ) : Type 0 where
  pub first : j * rows < length out + 1
  pub to : j * rows + i < length out
  pub row : i * columns < length t
  pub from : i * columns + j < length t

pub places : (rows columns j : ℕ) (t held : List ℕ) → HoldsColumn rows columns j t held → {i : ℕ} {out : List ℕ} → StoringColumn rows columns j t held i out → i < rows
    → Places rows columns j i t out
places rows columns j t held h {i} s b =
    let c = h.column in
    let in_table = h.table in
    let in_buffer = h.buffer in
    let long = s.long in
    let to : j * rows + i < rows * columns = place_below rows i j b columns c in
    let from : i * columns + j < columns * rows = place_below columns j i c rows b in
    record { first = omega arith; to = omega arith; row = omega arith; from = omega arith }

-- Before each column: j are stored.
pub record Storing (rows columns : ℕ) (t held : List ℕ) (j : ℕ) (out : List ℕ) : Type 0 where
  pub within : j ≤ columns
  pub long : length out ≡ length held
  pub made : out ≡ columns_stored rows columns t j held

module _ (rows columns : ℕ) (t held : List ℕ) where
  pub storing_start : Storing rows columns t held 0 held
  unfolding columns_stored
  storing_start = record { within = omega arith; long = refl; made = refl }

  pub storing_holds : {j : ℕ} {out : List ℕ} → Holds rows columns t held → Storing rows columns t held j out → j < columns → HoldsColumn rows columns j t out
  storing_holds h s b =
      let in_buffer = h.buffer in
      let long = s.long in
      record { table = h.table; buffer = omega arith; column = b }

  pub storing_more : {j : ℕ} {out after : List ℕ} → Storing rows columns t held j out → j < columns
      → after ≡ column_stored rows columns t j rows out → Storing rows columns t held (j + 1) after
  unfolding columns_stored
  storing_more {j} {out} {after} h b stored =
      record {
        within = omega arith;
        long = ap length stored ∙ length_column rows columns t j rows out ∙ h.long;
        made =
            stored
            ∙ ap (λ l. column_stored rows columns t j rows l) h.made
            ∙ sym (ap (λ k. columns_stored rows columns t k held) (add-one j));
      }

  pub storing_end : {j : ℕ} {out : List ℕ} → Holds rows columns t held → Storing rows columns t held j out → columns ≤ j
      → out ≡ turned rows columns t ++ drop (rows * columns) held
  storing_end {j} h s c =
      let w = s.within in
      let e : j ≡ columns = omega arith in
      s.made ∙ ap (λ k. columns_stored rows columns t k held) e ∙ columns_turned rows columns t held h.buffer

-- ---- the calls

-- Nothing refused: whole tracks, and room for them.
pub record Takes (long room : ℕ) : Type 0 where
  pub whole : long % track_bytes ≡ 0
  pub holds : long ≤ room

pub takes : (long room : ℕ) → table_refusal long room ≡ Fine → Takes long room
unfolding table_refusal
takes long room h =
    let ragged = ltb-false 0 (long % track_bytes) (fine_refuse (ltb 0 (long % track_bytes)) 23 0 (fine_left _ _ h)) in
    record { whole = omega arith; holds = ltb-false room long (fine_refuse (ltb room long) 7 0 (fine_right _ _ h)) }

module _ (t out : List ℕ) (fine : table_refusal (length t) (length out) ≡ Fine) where
  pub turning_holds : (rows columns : ℕ) → rows * columns ≡ length t → Holds rows columns t out
  turning_holds rows columns all = let b = (takes (length t) (length out) fine).holds in record { table = omega arith; buffer = omega arith }

  pub packed_after : {after : List ℕ} → after ≡ turned (tracks_in t) track_bytes t ++ drop (tracks_in t * track_bytes) out → after ≡ packed_out t out
  unfolding packed packed_out written
  packed_after made =
      let w = (takes (length t) (length out) fine).whole in
      let e : tracks_in t * track_bytes ≡ length t = omega arith in
      rw fine (made ∙ ap (λ n. turned (tracks_in t) track_bytes t ++ drop n out) e)

  pub unpacked_after : {after : List ℕ} → after ≡ turned track_bytes (tracks_in t) t ++ drop (track_bytes * tracks_in t) out → after ≡ unpacked_out t out
  unfolding unpacked unpacked_out written
  unpacked_after made =
      let w = (takes (length t) (length out) fine).whole in
      let e : track_bytes * tracks_in t ≡ length t = omega arith in
      rw fine (made ∙ ap (λ n. turned track_bytes (tracks_in t) t ++ drop n out) e)
