-- A loop that walks from place to place until it meets what it looks for, and a walk by two steps that agree. Assumes nothing.
use Prim.Native.Nat.{ℕ, zero, suc, ◌+◌, ◌-◌, ◌≤◌, ◌<◌}
use Rattle.std.proofs.Common.{arith, sym, ◌∙◌}
use Rattle.std.proofs.Math.Nat.{sub-zero}
use Rattle.std.specs.Prelude.{◌≡◌, Bool, true, false}
use Rattle.std.proofs.Math.Path.{refl}
use Rattle.numbers.specs.Below.{walk_meets}

module _ {A : Type 0} where
  -- A walk of at most n places that has passed i of them and stands at a, and is to return r.
  pub record Walking (p : A → Bool) (next : A → A) (n i : ℕ) (a : A) (r : Bool) : Type 0 where
    pub within : i ≤ n
    pub rest : r ≡ walk_meets p next (n - i) a

  met : (p : A → Bool) (next : A → A) (m : ℕ) (a : A) → p a ≡ true → walk_meets p next (suc m) a ≡ true
  unfolding walk_meets
  met p next m a e = rw e

  passed : (p : A → Bool) (next : A → A) (m : ℕ) (a : A) → p a ≡ false → walk_meets p next (suc m) a ≡ walk_meets p next m (next a)
  unfolding walk_meets
  passed p next m a e = rw e

  none : (p : A → Bool) (next : A → A) (a : A) → walk_meets p next 0 a ≡ false
  unfolding walk_meets
  none p next a = refl

  pub walk_start : (p : A → Bool) (next : A → A) (n : ℕ) (a : A) → Walking p next n 0 a (walk_meets p next n a)
  walk_start p next n a = record { within = omega arith; rest = rw sub-zero refl }

  -- b is the answer of the code's test of the place a
  pub walk_met : {p : A → Bool} {next : A → A} {n i : ℕ} {a : A} {r b : Bool} → Walking p next n i a r → i < n → b ≡ p a → b ≡ true → true ≡ r
  walk_met {p} {next} {n} {i} {a} s h e t =
      let q : n - i ≡ suc (n - (i + 1)) = omega arith in
      sym (rw q at s.rest ∙ met p next (n - (i + 1)) a (sym e ∙ t))

  pub walk_on : {p : A → Bool} {next : A → A} {n i : ℕ} {a c : A} {r b : Bool} → Walking p next n i a r → i < n → b ≡ p a → b ≡ false → c ≡ next a
      → Walking p next n (i + 1) c r
  walk_on {p} {next} {n} {i} {a} s h e t g =
      let q : n - i ≡ suc (n - (i + 1)) = omega arith in
      record { within = omega arith; rest = rw g (rw q at s.rest ∙ passed p next (n - (i + 1)) a (sym e ∙ t)) }

  pub walk_end : {p : A → Bool} {next : A → A} {n i : ℕ} {a : A} {r : Bool} → Walking p next n i a r → n ≤ i → false ≡ r
  walk_end {p} {next} {n} {i} {a} s h =
      let q : n - i ≡ 0 = omega arith in
      sym (rw q at s.rest ∙ none p next a)

  pub walk_cong : (p : A → Bool) (f g : A → A) → ((a : A) → f a ≡ g a) → (n : ℕ) (a : A) → walk_meets p f n a ≡ walk_meets p g n a
  unfolding walk_meets
  walk_cong p f g h zero a = refl
  walk_cong p f g h (suc n) a =
      let later : walk_meets p f n (f a) ≡ walk_meets p g n (g a) = rw (h a) (walk_cong p f g h n (g a)) in
      rw later
