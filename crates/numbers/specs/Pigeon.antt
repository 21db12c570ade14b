-- Of more numbers than there are values, two have one value. Assumes nothing.
use Rattle.std.specs.Prelude.{ℕ, zero, suc, ◌-◌, ◌≤◌, ◌<◌, ◌≡◌, refl, Bool, true, false, cond, eqb, ltb}
use Rattle.std.proofs.Common.{arith, eqb-true, ltb-true, ltb-false}
use Rattle.std.proofs.lemmas.Bool.{eqb-false}
use Rattle.numbers.specs.Below.{lowest, some_below}
use Rattle.numbers.specs.BelowLaws.{lowest_at, some_none}

pub record Twice (n : ℕ) (f : ℕ → ℕ) : Type 0 where
  pub first : ℕ
  pub second : ℕ
  pub before : first < second
  pub within : second ≤ n
  pub same : f first ≡ f second

-- a number with the value v taken out
without : ℕ → ℕ → ℕ
without v x = cond (ltb v x) (x - 1) x

without_less : (n v x : ℕ) → x < suc n → v < suc n → (x ≡ v → ⊥) → without v x < n
unfolding without
without_less n v x a b ne = go (ltb v x) refl
  where
    go : (t : Bool) → ltb v x ≡ t → cond t (x - 1) x < n
    go true t = omega (arith, ltb-true v x t)
    go false t =
        let h = ltb-false v x t in
        let d : x < v = lt_of x v h ne in
        omega arith
      where
        lt_of : (x v : ℕ) → x ≤ v → (x ≡ v → ⊥) → x < v
        lt_of x v h ne = omega arith

without_same : (v x y : ℕ) → (x ≡ v → ⊥) → (y ≡ v → ⊥) → without v x ≡ without v y → x ≡ y
unfolding without
without_same v x y a b = go (ltb v x) refl (ltb v y) refl
  where
    go : (s : Bool) → ltb v x ≡ s → (t : Bool) → ltb v y ≡ t → cond s (x - 1) x ≡ cond t (y - 1) y → x ≡ y
    go true p true q e = omega (arith, ltb-true v x p, ltb-true v y q)
    go true p false q e = absurd (b (omega (arith, ltb-true v x p, ltb-false v y q)))
    go false p true q e = absurd (a (omega (arith, ltb-false v x p, ltb-true v y q)))
    go false p false q e = e

pub pigeon : (n : ℕ) (f : ℕ → ℕ) → ((i : ℕ) → i ≤ n → f i < n) → Twice n f
pigeon zero f h = absurd (omega (arith, h 0 (omega arith)))
pigeon (suc n) f h = go (some_below (suc n) same) refl (pigeon n (λ i. without (f (suc n)) (f i)))
  where
    same : ℕ → Bool
    same i = eqb (f i) (f (suc n))

    go : (b : Bool) → some_below (suc n) same ≡ b → (((i : ℕ) → i ≤ n → without (f (suc n)) (f i) < n) → Twice n (λ i. without (f (suc n)) (f i)))
        → Twice (suc n) f
    go true t rec =
        let i = lowest (suc n) same in
        let l = ltb-true i (suc n) t in
        record { first = i; second = suc n; before = l; within = omega arith; same = eqb-true (f i) (f (suc n)) (lowest_at (suc n) same l) }
    go false t rec =
        let other : (i : ℕ) → i ≤ n → f i ≡ f (suc n) → ⊥ = λ i l. eqb-false (f i) (f (suc n)) (some_none (suc n) same t i (omega arith)) in
        let r = rec (λ i l. without_less n (f (suc n)) (f i) (h i (omega arith)) (h (suc n) (omega arith)) (other i l)) in
        let early : r.first ≤ n = omega (arith, r.before, r.within) in
        let same_too = without_same (f (suc n)) (f r.first) (f r.second) (other r.first early) (other r.second r.within) r.same in
        record { first = r.first; second = r.second; before = r.before; within = omega (arith, r.within); same = same_too }
