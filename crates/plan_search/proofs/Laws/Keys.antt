-- What the code reads of an edge, read by read, makes its key.
use Rattle.std.specs.Prelude.{ℕ, ◌≡◌, List, get_or}
use Rattle.std.proofs.Common.{sym}
use Rattle.plan_search.specs.Keys.{start_key, start_key_of}

pub key_read : (firsts seconds weights flags : List ℕ) (e : ℕ) {u i x v j y w k : ℕ} → u ≡ get_or firsts e 0 → i ≡ u → x ≡ get_or flags i 0 → v ≡ get_or seconds e 0 → j ≡ v
    → y ≡ get_or flags j 0 → w ≡ get_or weights e 0 → k ≡ start_key x y w → k ≡ start_key_of firsts seconds weights flags e
unfolding start_key_of
key_read firsts seconds weights flags e u_is i_is x_is v_is j_is y_is w_is k_is =
    rw (sym u_is, sym i_is, sym x_is, sym v_is, sym j_is, sym y_is, sym w_is) k_is
