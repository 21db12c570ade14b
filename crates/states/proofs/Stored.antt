-- A table of rows before and after a store: the place holds what was stored, and every other place what it held. What this says of every
-- place, of numbers read off the places, and of any two of a row. Assumes nothing.
use Prim.Native.Nat.{ℕ, ◌+◌, ◌*◌, ◌<◌}
use native.Mathlib.Decide.{ℕ_discrete}
use native.Mathlib.Omega.{arith}
use mathlib.Core.Path.{◌≡◌, refl, sym, ap, subst, ◌∙◌}
use mathlib.Core.Bool.{Bool, true, false, ◌&&◌, cond}
use mathlib.Core.List.{List}
use mathlib.Core.Logic.{◌⊎◌, inl, inr, ◌≢◌}
use lib.Arith.{digits_lt}
use lib.Dec.{eqb, ltb}
use lib.ListN.{length, get_or, set}
use lib.Seq.{get_or-set_same, get_or-set_other}
use borrow.Author.Tests.{eqb-true, eqb-false, lt-ltb, ltb-true}
use Rattle.numbers.specs.Below.{sum_below}
use Rattle.numbers.specs.Tests.{and_r, not_yes}
use Rattle.numbers.specs.BelowLaws.{sum_cong, sum_point}
use Rattle.numbers.specs.Grid.{grid_row, grid_column}
use Rattle.states.proofs.Named.{both_eq, eq_both}

-- the place c of row w held a and then holds b
pub record Stored {A : Type 0} (old new : ℕ → ℕ → A) (w c : ℕ) (a b : A) : Type 0 where
  pub was : old w c ≡ a
  pub here : new w c ≡ b
  pub there : (v d : ℕ) → (w ≡ v → c ≡ d → ⊥) → new v d ≡ old v d

-- two places are one, or not
pub spot : (w c v d : ℕ) → ((w ≡ v) × (c ≡ d)) ⊎ (w ≡ v → c ≡ d → ⊥)
spot w c v d = go (ℕ_discrete w v) (ℕ_discrete c d)
  where
    go : Dec (w ≡ v) → Dec (c ≡ d) → ((w ≡ v) × (c ≡ d)) ⊎ (w ≡ v → c ≡ d → ⊥)
    go (yes a) (yes b) = inl (a, b)
    go (yes a) (no b) = inr (λ x y. b y)
    go (no a) b = inr (λ x y. a x)

module _ {A : Type 0} {old new : ℕ → ℕ → A} {w c : ℕ} {a b : A} (S : Stored old new w c a b) where
  -- what holds of the place stored at, and of each place that stays, holds of every place
  pub stored_each : (R : ℕ → ℕ → A → A → Type 0) → R w c a b → ((v d : ℕ) → (w ≡ v → c ≡ d → ⊥) → R v d (old v d) (old v d)) → (v d : ℕ)
      → R v d (old v d) (new v d)
  stored_each R changed stays v d = go (spot w c v d)
    where
      go : ((w ≡ v) × (c ≡ d)) ⊎ (w ≡ v → c ≡ d → ⊥) → R v d (old v d) (new v d)
      go (inl q) = rw (← q.0, ← q.1, S.was, S.here) changed
      go (inr f) = rw (S.there v d f) (stays v d f)

  -- a fact of each place of the table before, where the stored one has it too
  pub stored_all : (T : ℕ → A → Type 0) → ((v d : ℕ) → T v (old v d)) → (b ≡ a) ⊎ T w b → (v d : ℕ) → T v (new v d)
  stored_all T before fresh = stored_each (λ v d x y. T v y) (go fresh) (λ v d f. before v d)
    where
      go : (b ≡ a) ⊎ T w b → T w b
      go (inl e) = subst (T w) (S.was ∙ sym e) (before w c)
      go (inr f) = f

  -- a number read off each place
  pub stored_number : (g : A → ℕ) (v d : ℕ) → g (new v d) + cond (eqb w v && eqb c d) (g a) 0 ≡ g (old v d) + cond (eqb w v && eqb c d) (g b) 0
  stored_number g =
      stored_each (λ v d x y. g y + cond (eqb w v && eqb c d) (g a) 0 ≡ g x + cond (eqb w v && eqb c d) (g b) 0)
      (rw (eq_both w c) (omega arith))
      (λ v d f. rw (not_yes (λ t. let q = both_eq w v c d t in f q.0 q.1)))

  -- and added up over a row
  pub stored_row : (n : ℕ) → c < n → (g : A → ℕ) (v : ℕ)
      → sum_below n (λ d. g (new v d)) + cond (eqb w v) (g a) 0 ≡ sum_below n (λ d. g (old v d)) + cond (eqb w v) (g b) 0
  stored_row n cn g v = go (eqb w v) refl
    where
      go : (t : Bool) → eqb w v ≡ t → sum_below n (λ d. g (new v d)) + cond t (g a) 0 ≡ sum_below n (λ d. g (old v d)) + cond t (g b) 0
      go true t =
          let rest = sum_point n c (λ d. g (new w d)) (λ d. g (old w d)) cn (λ d l ne. ap g (S.there w d (λ i j. ne (sym j)))) in
          rw (← eqb-true w v t) (omega (arith, ap g S.here, ap g S.was))
      go false t =
          omega (arith, sum_cong n (λ d. g (new v d)) (λ d. g (old v d)) (λ d l. ap g (S.there v d (λ i j. eqb-false w v t i))))

  -- at most one place of a row has p
  pub stored_once : (p : A → Bool) → ((v x y : ℕ) → p (old v x) ≡ true → p (old v y) ≡ true → x ≡ y)
      → ((y : ℕ) → p b ≡ true → p (old w y) ≡ true → y ≡ c) → (v x y : ℕ) → p (new v x) ≡ true → p (new v y) ≡ true → x ≡ y
  stored_once p once fresh v x y t u =
      stored_each (λ r z k j. p j ≡ true → (y : ℕ) → p (new r y) ≡ true → z ≡ y)
      (λ t y. stored_each (λ r z k j. w ≡ r → p j ≡ true → c ≡ z) (λ i u. refl) (λ r z f i u. sym (fresh z t (rw i u))) w y refl)
      (λ v x f t y. stored_each (λ r z k j. v ≡ r → p j ≡ true → x ≡ z) (λ i u. fresh x u (rw (← i) t)) (λ r z g i u. once v x z t (rw i u)) v y refl)
      v x t y u

-- a list read row by row, as kinds are read off cells, and free beyond the table
module _ {X A : Type 0} (read : X → A) (free : A) (blank : X) (m n : ℕ) where
  abbrev pub rows : List X → ℕ → ℕ → A
  rows l v d = cond (ltb v m && ltb d n) (read (get_or l (v * n + d) blank)) free

  pub rows_stored : (l : List X) (w c : ℕ) (a : A) (x : X) → length l ≡ m * n → w < m → c < n → rows l w c ≡ a
      → Stored (rows l) (rows (set l (w * n + c) x)) w c a (read x)
  rows_stored l w c a x long wm cn was =
      record {
        was = was;
        here = rw (lt-ltb w m wm, lt-ltb c n cn) (ap read (get_or-set_same l (w * n + c) x blank (let lt : w * n + c < m * n = digits_lt wm cn in omega arith)));
        there = λ v d f. inside v d (ltb v m && ltb d n) (apart v d f);
      }
    where
      apart : (v d : ℕ) → (w ≡ v → c ≡ d → ⊥) → (ltb v m && ltb d n) ≡ true → v * n + d ≢ w * n + c
      apart v d f t e =
          let dn = ltb-true d n (and_r (ltb v m) (ltb d n) t) in
          f (grid_row n w c v d cn dn (sym e)) (grid_column n w c v d cn dn (sym e))

      inside : (v d : ℕ) (b : Bool) → (b ≡ true → v * n + d ≢ w * n + c)
          → cond b (read (get_or (set l (w * n + c) x) (v * n + d) blank)) free ≡ cond b (read (get_or l (v * n + d) blank)) free
      inside v d true ne = ap read (get_or-set_other l (w * n + c) (v * n + d) x blank (ne refl))
      inside v d false ne = refl
