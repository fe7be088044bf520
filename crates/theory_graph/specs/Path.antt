-- Paths and cuts. An edge is a number; a e and b e are its endpoints. A set of edges, or of vertices, is a test on numbers.
use Rattle.std.specs.Prelude.{ℕ, ◌≡◌, Bool, true, ◌&&◌, not, eqb}
use Rattle.std.proofs.Math.Bool.{xor}

-- Edge e leads from u to v, walked one way or the other (document 01: 'each walked either way').
pub data Leads (a b : ℕ → ℕ) (e u v : ℕ) : Type 0 where
  forth : a e ≡ u → b e ≡ v → Leads a b e u v
  back : b e ≡ u → a e ≡ v → Leads a b e u v

-- u and w are linked by a path of edges of F (document 01, 'The survey and the plan').
pub data Linked (a b : ℕ → ℕ) (F : ℕ → Bool) : ℕ → ℕ → Type 0 where
  here : {u : ℕ} → Linked a b F u u
  step : {u v w : ℕ} (e : ℕ) → F e ≡ true → Leads a b e u v → Linked a b F v w → Linked a b F u w

-- F - {e} (source 001, Algorithm 22.3, step 3).
unfoldable pub without : (ℕ → Bool) → ℕ → ℕ → Bool
without F e f = F f && not (eqb f e)

-- Exactly one end of e lies in S: e is in δ(S) (source 001, section 22.1).
unfoldable pub crosses : (a b : ℕ → ℕ) → (ℕ → Bool) → ℕ → Bool
unfolding xor
crosses a b S e = xor (S (a e)) (S (b e))

-- No edge of F has its ends linked by the others (source 001, proof of Lemma 22.6: F is acyclic).
abbrev pub Forest : (a b : ℕ → ℕ) → (ℕ → Bool) → Type 0
Forest a b F = (e : ℕ) → F e ≡ true → Linked a b (without F e) (a e) (b e) → ⊥
