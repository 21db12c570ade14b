-- A loop that searches, and one that counts: their invariants as records, so that a law finds its test, bound and place by itself, and the
-- set of laws that closes such a loop's needs. Assumes nothing.
use Rattle.std.specs.Prelude.{ℕ, ◌+◌, ◌-◌, ◌≤◌, ◌<◌, ◌≡◌, refl, Bool, true, false}
use mir.Val.{bool_byte}
use Rattle.std.proofs.Common.{arith, sym, ap, ◌∙◌, rules}
use Rattle.numbers.specs.Below.{bit, count_below, lowest_from, lowest}
use Rattle.numbers.specs.BelowLaws.{lowest_next, lowest_hit, lowest_end, lowest_start, sum_zero, sum_next}

-- A search below n that has passed the numbers below i, and is to return r.
pub record Seeking (p : ℕ → Bool) (n i r : ℕ) : Type 0 where
  pub within : i ≤ n
  pub rest : r ≡ lowest_from p (n - i) i

pub seek_start : (p : ℕ → Bool) (n : ℕ) → Seeking p n 0 (lowest n p)
seek_start p n = record { within = omega arith; rest = lowest_start p n }

-- b is the answer of the code's test of the number i
pub seek_hit : {p : ℕ → Bool} {n i r : ℕ} {b : Bool} → Seeking p n i r → i < n → b ≡ p i → b ≡ true → i ≡ r
seek_hit {p} {n} {i} s h e t = sym (s.rest ∙ lowest_hit p n i h (sym e ∙ t))

pub seek_pass : {p : ℕ → Bool} {n i r : ℕ} {b : Bool} → Seeking p n i r → i < n → b ≡ p i → b ≡ false → Seeking p n (i + 1) r
seek_pass {p} {n} {i} s h e t = record { within = omega arith; rest = s.rest ∙ lowest_next p n i h (sym e ∙ t) }

pub seek_end : {p : ℕ → Bool} {n i r : ℕ} → Seeking p n i r → n ≤ i → n ≡ r
seek_end {p} {n} {i} s k =
    let h = s.within in
    let e : i ≡ n = omega arith in
    sym (rw e at s.rest ∙ lowest_end p n)

-- A count below n that has passed the numbers below i, and stands at k.
pub record Counting (p : ℕ → Bool) (n i k : ℕ) : Type 0 where
  pub within : i ≤ n
  pub sofar : k ≡ count_below i p
  pub small : k ≤ i

pub count_start : (p : ℕ → Bool) (n : ℕ) → Counting p n 0 0
count_start p n = record { within = omega arith; sofar = sym (sum_zero (λ i. bit (p i))); small = omega arith }

-- b is the answer of the code's test of the number i, r its bit
pub count_step : {p : ℕ → Bool} {n i k r : ℕ} {b : Bool} → Counting p n i k → i < n → b ≡ p i → r ≡ bit b → Counting p n (i + 1) (k + r)
count_step {p} {n} {i} {k} {r} {b} s h e t =
    let small = s.small in
    let one : (c : Bool) → bit c ≤ 1 = λ c. elim c as (λ k. bit k ≤ 1) [ true ↦ omega arith | false ↦ omega arith ] in
    let le = one b in
    let here : r ≡ bit (p i) = t ∙ ap bit e in
    let so = s.sofar in
    let next = sum_next i (λ j. bit (p j)) in
    record { within = omega arith; sofar = omega arith; small = omega arith }

-- a test as a byte is its bit, and at most 1
pub byte_is_bit : (b : Bool) → bool_byte b ≡ bit b
byte_is_bit true = refl
byte_is_bit false = refl

pub byte_small : (b : Bool) → bool_byte b ≤ 1
byte_small true = omega arith
byte_small false = omega arith

pub count_end : {p : ℕ → Bool} {n i k : ℕ} → Counting p n i k → n ≤ i → k ≡ count_below n p
count_end {p} {n} {i} {k} s j =
    let h = s.within in
    let e : i ≡ n = omega arith in
    rw e at s.sofar

pub ruleset loops = (rules, seek_start, seek_hit, seek_pass, seek_end, count_start, count_step, count_end)
