-- `plan_drop::words` meets its contract: what `plan_call` answers where so many entries are lent on, and its counts as bytes.
use mathlib.Core.Path.{refl, sym}
use mathlib.Core.List.{List, [], ◌∷◌}
use lib.Seq.{length_front}
use Prim.Native.Nat.{ℕ, ◌-◌, ◌<◌, ◌≤◌}
use native.Mathlib.Omega.{arith}
use Rattle.api_code.specs.Laws.Lending.{lent_le}
use Rattle.api_handset.proofs.Laws.Call.{plan_words_code, plan_words_marks, plan_words_records, plan_words_kept, plan_words_stored}
use Rattle.api_handset.proofs.result.plan_words.Goals as goal

abbrev zeros : List ℕ
zeros = 0 ∷ 0 ∷ 0 ∷ 0 ∷ 0 ∷ []

pub slice_bounds-counts-end : goal.slice_bounds-counts-end
slice_bounds-counts-end c = lent_le _ _ _ c.lent_on-room.ensures

pub slice_bounds-write_counts-end : goal.slice_bounds-write_counts-end
slice_bounds-write_counts-end c =
    sym (length_front zeros c.plan_call-answer.new.counts (c.lent_on-room.result - 0) c.counts-2-1.given)

-- refused
pub returns-then-answer-gt0 : goal.returns-then-answer-gt0
returns-then-answer-gt0 c =
    let some : 0 < c.plan_call-answer.result = omega (arith, c.if-answer-gt0.true) in record { result_value = plan_words_code _ _ _ _ zeros refl c.lent_on-room.ensures c.plan_call-answer.ensures.code; marks_value = plan_words_marks _ _ _ _ zeros refl c.lent_on-room.ensures c.plan_call-answer.ensures.marks; records_value = plan_words_records _ _ _ _ zeros refl c.lent_on-room.ensures c.plan_call-answer.ensures.records; res_value = plan_words_kept _ _ _ _ zeros refl c.lent_on-room.ensures c.plan_call-answer.ensures.code some _ }

-- finished
pub returns : goal.returns
returns c =
    let none : c.plan_call-answer.result ≤ 0 = omega (arith, c.if-answer-gt0.false) in record { result_value = plan_words_code _ _ _ _ zeros refl c.lent_on-room.ensures c.plan_call-answer.ensures.code; marks_value = plan_words_marks _ _ _ _ zeros refl c.lent_on-room.ensures c.plan_call-answer.ensures.marks; records_value = plan_words_records _ _ _ _ zeros refl c.lent_on-room.ensures c.plan_call-answer.ensures.records; res_value = plan_words_stored _ _ _ _ zeros refl c.lent_on-room.ensures c.plan_call-answer.ensures.code none c.plan_call-answer.ensures.counts c.write_counts.ensures }
