-- What the code reads of an edge, read by read, is what the tables say of it.
use Rattle.std.specs.Prelude.{ℕ, ◌+◌, ◌*◌, ◌≤◌, ◌≡◌, Bool, ◌&&◌, ◌||◌, not, List, get_or, set, eqb}
use native.Mathlib.Omega.{arith}
use Rattle.std.proofs.Math.Path.{refl, ap, sym}
use Rattle.std.proofs.Common.{◌∙◌}
use Rattle.std.proofs.Math.Bool.{true, false, cond}
use borrow.Author.Tests.{eq-eqb, ne_eqb, not-true}
use Rattle.base_finite.specs.Laws.Test.{and_left, and_right, or_right}
use Rattle.theory_steiner.specs.Growth.{never, active_ends, delay_for, delay_of, Winner, better}
use Rattle.plan_search.specs.declared.delay.End.{End}
use Rattle.plan_search.specs.Between.{vertex_end, slack_between, delay_between}
use Rattle.plan_search.specs.Scan.{no_key, capped_time}
use Rattle.plan_search.specs.Tables.{Tables, first_by, second_by, delay_by, alone_at, rests_between, reach_between, key_between, key_by}

-- One end.
module _ (v : ℕ) (x : End) where
  pub alone_active : x.flag ≡ 1 → false ≡ alone_at v x
  unfolding alone_at
  alone_active h = rw (eq-eqb x.flag 1 h)

  pub alone_idle : {c : ℕ} → (x.flag ≡ 1 → ⊥) → c ≡ x.label → eqb c v ≡ alone_at v x
  unfolding alone_at
  alone_idle h c_is = rw (ne_eqb x.flag 1 h, c_is)

  alone_flag : alone_at v x ≡ true → eqb x.flag 1 ≡ false
  unfolding alone_at
  alone_flag h = not-true (eqb x.flag 1) (and_left (not (eqb x.flag 1)) (eqb x.label v) h)

-- Between two ends.
module _ (u v : ℕ) (a b : End) where
  pub rests_second : {s t : Bool} → s ≡ alone_at u a → s ≡ true → t ≡ alone_at v b → t ≡ rests_between u v a b
  unfolding rests_between
  rests_second s_is h t_is = rw (sym s_is ∙ h) t_is

  pub rests_not : {s : Bool} → s ≡ alone_at u a → s ≡ false → false ≡ rests_between u v a b
  unfolding rests_between
  rests_not s_is h = rw (sym s_is ∙ h)

  -- An edge at rest leaves the best.
  pub better_resting : (w : ℕ) (best : Winner) (e : ℕ) {t : Bool} → t ≡ rests_between u v a b → t ≡ true → best ≡ better best e (delay_between a b w)
  unfolding delay_between delay_of active_ends delay_for better rests_between
  better_resting w best e t_is h =
      let r : (alone_at u a && alone_at v b) ≡ true = sym t_is ∙ h in
      rw (alone_flag u a (and_left (alone_at u a) (alone_at v b) r), alone_flag v b (and_right (alone_at u a) (alone_at v b) r)) (by (eqb a.label b.label))
    where
      by : (t : Bool) → best ≡ better best e (cond t never never)
      by true = refl
      by false = refl

  module _ (time w : ℕ) where
    pub key_inside : a.label ≡ b.label → no_key ≡ key_between time u v a b w
    unfolding key_between
    key_inside h = rw (eq-eqb a.label b.label h)

    pub key_resting : {t : Bool} → t ≡ rests_between u v a b → t ≡ true → no_key ≡ key_between time u v a b w
    unfolding key_between
    key_resting t_is h = rw (or_right (eqb a.label b.label) (rests_between u v a b) (sym t_is ∙ h))

    pub key_apart : {s x : ℕ} {t : Bool} → (a.label ≡ b.label → ⊥) → t ≡ rests_between u v a b → t ≡ false → s ≡ slack_between a b w → x ≡ reach_between u v a b s
        → 2 * time + x ≡ key_between time u v a b w
    unfolding key_between
    key_apart apart t_is h s_is x_is =
        rw (ne_eqb a.label b.label apart, sym t_is ∙ h) (ap (λ z. 2 * time + z) (x_is ∙ ap (reach_between u v a b) s_is))

  -- The reach, by which end is alone.
  module _ (slack : ℕ) where
    -- Twice the rest at most.
    pub reach_le : {x : ℕ} → x ≡ reach_between u v a b slack → x ≤ 2 * slack
    unfolding reach_between
    reach_le {x} = by (alone_at u a || alone_at v b)
      where
        by : (t : Bool) → x ≡ cond t (2 * slack) slack → x ≤ 2 * slack
        by true h = omega arith
        by false h = omega arith

    pub reach_first : {t : Bool} → t ≡ alone_at u a → t ≡ true → 2 * slack ≡ reach_between u v a b slack
    unfolding reach_between
    reach_first t_is h = rw (sym t_is ∙ h) refl

    pub reach_second : {t : Bool} → t ≡ alone_at v b → t ≡ true → 2 * slack ≡ reach_between u v a b slack
    unfolding reach_between
    reach_second t_is h = rw (or_right (alone_at u a) (alone_at v b) (sym t_is ∙ h)) refl

    pub reach_neither : {s t : Bool} → s ≡ alone_at u a → s ≡ false → t ≡ alone_at v b → t ≡ false → slack ≡ reach_between u v a b slack
    unfolding reach_between
    reach_neither s_is h t_is k = rw (sym s_is ∙ h, sym t_is ∙ k) refl

-- Edge e of the tables at a time that is capped: what is noted of its ends and its weight is noted of it.
module _ (t : Tables) (time e : ℕ) {capped u v w : ℕ} {a b : End} (capped_is : capped ≡ capped_time time) (u_is : u ≡ get_or t.firsts e 0) (v_is : v ≡ get_or t.seconds e 0)
    (a_is : a ≡ vertex_end t.labels t.loads t.flags capped u) (b_is : b ≡ vertex_end t.labels t.loads t.flags capped v) (w_is : w ≡ get_or t.weights e 0)
  where
    pub best_read : (best : Winner) {next : Winner} → next ≡ better best e (delay_between a b w) → next ≡ better best e (delay_by t (capped_time time) e)
    unfolding delay_by first_by second_by
    best_read best h = rw (sym capped_is, sym u_is, sym v_is, sym a_is, sym b_is, sym w_is) h

    pub keys_read : (keys : List ℕ) {after : List ℕ} → after ≡ set keys e (key_between capped u v a b w) → after ≡ set keys e (key_by t (capped_time time) e)
    unfolding key_by first_by second_by
    keys_read keys h = rw (sym capped_is, sym u_is, sym v_is, sym a_is, sym b_is, sym w_is) h
