-- A loop that holds each number below a bound, or each element of a list, to a test, and carries along whether all have passed.
-- Assumes nothing.
use Rattle.std.specs.Prelude.{ℕ, ◌+◌, ◌≤◌, ◌<◌, ◌≡◌, refl, Bool, true, false, ◌&&◌, List, length, get_or}
use Rattle.std.proofs.Common.{arith, sym, ap₂, ◌∙◌}
use Rattle.numbers.specs.Below.{all_below}
use Rattle.numbers.specs.BelowLaws.{all_zero, all_next, all_at, all_of}
use Rattle.numbers.specs.Lists.{each}
use Rattle.numbers.specs.ListLaws.{each_at, each_of}
use Rattle.numbers.specs.Tests.{bool_eq}

-- Of the numbers below n those below i have been held to p, and b says whether all of them passed.
pub record Passing (p : ℕ → Bool) (n i : ℕ) (b : Bool) : Type 0 where
  pub within : i ≤ n
  pub sofar : b ≡ all_below i p

pub pass_start : (p : ℕ → Bool) (n : ℕ) → Passing p n 0 true
pass_start p n = record { within = omega arith; sofar = sym (all_zero p) }

-- r is the answer of the code's test of the number i, c whether all passed with it
pub pass_step : {p : ℕ → Bool} {n i : ℕ} {b r c : Bool} → Passing p n i b → i < n → r ≡ p i → c ≡ (b && r) → Passing p n (i + 1) c
pass_step {p} {n} {i} s h e t =
    record { within = omega arith; sofar = t ∙ ap₂ ◌&&◌ s.sofar e ∙ sym (all_next i p) }

and_true : (b : Bool) → (b && true) ≡ b
and_true true = refl
and_true false = refl

-- the code leaves out a number that passes
pub pass_over : {p : ℕ → Bool} {n i : ℕ} {b : Bool} → Passing p n i b → i < n → p i ≡ true → Passing p n (i + 1) b
pass_over {p} {n} {i} {b} s h e = pass_step s h (sym e) (sym (and_true b))

pub pass_end : {p : ℕ → Bool} {n i : ℕ} {b : Bool} → Passing p n i b → n ≤ i → b ≡ all_below n p
pass_end {p} {n} {i} s h =
    let w = s.within in
    let e : i ≡ n = omega arith in
    rw e at s.sofar

module _ {A : Type 0} where
  each_below : (p : ℕ → A → Bool) (l : List A) (d : A) → all_below (length l) (λ k. p k (get_or l k d)) ≡ each p l
  each_below p l d =
      bool_eq (λ h. each_of p l d (all_at (length l) (λ k. p k (get_or l k d)) h)) (λ h. all_of (length l) _ (each_at p l d h))

  -- the numbers are the places of a list
  pub pass_each : (p : ℕ → A → Bool) (l : List A) (d : A) {n i : ℕ} {b : Bool} → Passing (λ k. p k (get_or l k d)) n i b → length l ≡ n → n ≤ i → b ≡ each p l
  pass_each p l d s m h = rw (sym m) at (pass_end s h) ∙ each_below p l d
