-- A loop that adds up 32-bit numbers. Assumes nothing.
use Rattle.std.specs.Prelude.{ℕ, ◌+◌, ◌*◌, ◌≤◌, ◌<◌, ◌≡◌}
use Rattle.std.proofs.Common.{arith, sym}
use Rattle.numbers.specs.Below.{sum_below}
use Rattle.numbers.specs.BelowLaws.{sum_zero, sum_next}

-- A sum of f below n that has passed the numbers below i, and stands at k.
pub record Summing (f : ℕ → ℕ) (n i k : ℕ) : Type 0 where
  pub within : i ≤ n
  pub sofar : k ≡ sum_below i f
  pub small : k ≤ i * 4294967296

pub add_start : (f : ℕ → ℕ) (n : ℕ) → Summing f n 0 0
add_start f n = record { within = omega arith; sofar = sym (sum_zero f); small = omega arith }

pub add_step : {f : ℕ → ℕ} {n i k r : ℕ} → Summing f n i k → i < n → r ≡ f i → r ≤ 4294967296 → Summing f n (i + 1) (k + r)
add_step {f} {n} {i} s h e l =
    let small = s.small in
    let so = s.sofar in
    let next = sum_next i f in
    record { within = omega arith; sofar = omega arith; small = omega arith }

-- the code leaves out a number that adds nothing
pub add_over : {f : ℕ → ℕ} {n i k : ℕ} → Summing f n i k → i < n → f i ≡ 0 → Summing f n (i + 1) k
add_over {f} {n} {i} s h e =
    let small = s.small in
    let so = s.sofar in
    let next = sum_next i f in
    record { within = omega arith; sofar = omega arith; small = omega arith }

pub add_end : {f : ℕ → ℕ} {n i k : ℕ} → Summing f n i k → n ≤ i → k ≡ sum_below n f
add_end {f} {n} {i} s j =
    let h = s.within in
    let e : i ≡ n = omega arith in
    rw e at s.sofar
