-- `check_words` meets its contract: what `check_call` answers where so many entries are lent on, and its counts as bytes.
use mathlib.Core.Path.{refl, sym}
use mathlib.Core.List.{List, [], ◌∷◌}
use lib.Seq.{length_front}
use Prim.Native.Nat.{ℕ, ◌-◌, ◌<◌, ◌≤◌}
use native.Mathlib.Omega.{arith}
use Rattle.api_code.specs.Laws.Lending.{lent_le}
use Rattle.api_handset.proofs.Laws.Call.{check_words_code, check_words_kept, check_words_stored}
use Rattle.api_handset.proofs.result_check.check_words.Goals as goal

abbrev zeros : List ℕ
zeros = 0 ∷ 0 ∷ 0 ∷ []

pub slice_bounds-counts-end : goal.slice_bounds-counts-end
slice_bounds-counts-end c = lent_le _ _ _ c.lent_on-room.ensures

-- refused
pub returns-then-found-gt0 : goal.returns-then-found-gt0
returns-then-found-gt0 c =
    let some : 0 < c.check_call-found.result = omega (arith, c.if-found-gt0.true) in record { result_value = check_words_code _ _ _ _ zeros refl c.lent_on-room.ensures c.check_call-found.ensures.code; res_value = check_words_kept _ _ _ _ zeros refl c.lent_on-room.ensures c.check_call-found.ensures.code some _ }

pub slice_bounds-write_counts-end : goal.slice_bounds-write_counts-end
slice_bounds-write_counts-end c =
    sym (length_front zeros c.check_call-found.new.counts (c.lent_on-room.result - 0) c.counts-2-1.given)

-- passed
pub returns : goal.returns
returns c =
    let none : c.check_call-found.result ≤ 0 = omega (arith, c.if-found-gt0.false) in record { result_value = check_words_code _ _ _ _ zeros refl c.lent_on-room.ensures c.check_call-found.ensures.code; res_value = check_words_stored _ _ _ _ zeros refl c.lent_on-room.ensures c.check_call-found.ensures.code none c.check_call-found.ensures.counts c.write_counts.ensures }
