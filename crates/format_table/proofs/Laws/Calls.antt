-- A table that is packed into a buffer, and unpacked from it, is there again; and the other way round.
use Rattle.std.specs.Prelude.{◌≡◌, ℕ, ◌%◌, List, length, take, drop}
use Rattle.std.proofs.Common.{ap, sym, ◌∙◌, take_at}
use Rattle.base_limits.specs.Verdict.{written}
use Rattle.base_limits.specs.declared.Verdict.TheVariants.{Fine}
use Rattle.format_table.specs.Table.{track_bytes, packed, unpacked, table_refusal, packed_out, unpacked_out}
use Rattle.format_table.proofs.Laws.Table.{length_packed, length_unpacked, packed_unpacked, unpacked_packed}
use Rattle.format_table.proofs.Laws.Turning.{takes}

-- What stands in the buffer's first bytes.
pub packed_in : (t out : List ℕ) → table_refusal (length t) (length out) ≡ Fine → take (length t) (packed_out t out) ≡ packed t
unfolding packed_out written
packed_in t out fine =
    rw fine (take_at (packed t) (drop (length t) out) (length t) (length_packed t (takes (length t) (length out) fine).whole))

pub unpacked_in : (t out : List ℕ) → table_refusal (length t) (length out) ≡ Fine → take (length t) (unpacked_out t out) ≡ unpacked t
unfolding unpacked_out written
unpacked_in t out fine =
    rw fine (take_at (unpacked t) (drop (length t) out) (length t) (length_unpacked t (takes (length t) (length out) fine).whole))

module _ (t out back : List ℕ) (there : table_refusal (length t) (length out) ≡ Fine) (again : table_refusal (length t) (length back) ≡ Fine) where
  pub packed_back : take (length t) (unpacked_out (take (length t) (packed_out t out)) back) ≡ t
  packed_back =
      let whole : length t % track_bytes ≡ 0 = (takes (length t) (length out) there).whole in
      let long : length (packed t) ≡ length t = length_packed t whole in
      let fine : table_refusal (length (packed t)) (length back) ≡ Fine = ap (λ n. table_refusal n (length back)) long ∙ again in
      ap (λ l. take (length t) (unpacked_out l back)) (packed_in t out there)
      ∙ ap (λ n. take n (unpacked_out (packed t) back)) (sym long)
      ∙ unpacked_in (packed t) back fine
      ∙ packed_unpacked t whole

  pub unpacked_back : take (length t) (packed_out (take (length t) (unpacked_out t out)) back) ≡ t
  unpacked_back =
      let whole : length t % track_bytes ≡ 0 = (takes (length t) (length out) there).whole in
      let long : length (unpacked t) ≡ length t = length_unpacked t whole in
      let fine : table_refusal (length (unpacked t)) (length back) ≡ Fine = ap (λ n. table_refusal n (length back)) long ∙ again in
      ap (λ l. take (length t) (packed_out l back)) (unpacked_in t out there)
      ∙ ap (λ n. take n (packed_out (unpacked t) back)) (sym long)
      ∙ packed_in (unpacked t) back fine
      ∙ unpacked_packed t whole
