-- What digit_in says of each range of bytes, and the loop of parse. Assumes nothing.
use Prim.Native.Nat.{ℕ, ◌+◌, ◌-◌, ◌*◌, ◌^◌, ◌≤◌, ◌<◌}
use mathlib.Core.Path.{◌≡◌, refl, sym, ◌∙◌}
use mathlib.Core.List.{List}
use native.Mathlib.Omega.{arith}
use native.Mathlib.Numerals.{add-one}
use native.Mathlib.Nat.{pow-suc, pow-le-pow_right, lt_of_lt_of_le}
use borrow.Author.Rules.{rules}
use borrow.Author.Tests.{le-leb, lt-leb}
use lib.ListN.{length, get_or, drop, drop_of_length-le}
use lib.Seq.{drop-cons}
use Rattle.frames.specs.Hex.{digit_in, number_after, number_in}
use Rattle.std.specs.Prelude.{Some, None}

module _ (b : ℕ) where
  pub digit_below : b < 48 → None ≡ digit_in b
  unfolding digit_in
  digit_below h = let k : b < 97 = omega arith in simp (lt-leb 48 b h, lt-leb 97 b k)

  pub digit_number : 48 ≤ b → b < 58 → Some (b - 48) ≡ digit_in b
  unfolding digit_in
  digit_number h k = let l : b ≤ 57 = omega arith in simp (le-leb 48 b h, le-leb b 57 l)

  pub digit_between : 58 ≤ b → b < 97 → None ≡ digit_in b
  unfolding digit_in
  digit_between h k = let l : 48 ≤ b = omega arith in simp (le-leb 48 b l, lt-leb b 57 h, lt-leb 97 b k)

  pub digit_letter : 97 ≤ b → b < 103 → Some (b - 97 + 10) ≡ digit_in b
  unfolding digit_in
  digit_letter h k =
      let l : 48 ≤ b = omega arith in
      let m : 57 < b = omega arith in
      let n : b ≤ 102 = omega arith in
      simp (le-leb 48 b l, lt-leb b 57 m, le-leb 97 b h, le-leb b 102 n)

  pub digit_above : 103 ≤ b → None ≡ digit_in b
  unfolding digit_in
  digit_above h =
      let l : 48 ≤ b = omega arith in
      let m : 57 < b = omega arith in
      let n : 97 ≤ b = omega arith in
      simp (le-leb 48 b l, lt-leb b 57 m, le-leb 97 b n, lt-leb b 102 h)

-- the value of a digit is below 16
digit_small : (b : ℕ) {d : ℕ} → Some d ≡ digit_in b → d < 16
unfolding digit_in
digit_small b e = grind arith

pub ruleset digits = (rules, digit_below, digit_number, digit_between, digit_letter, digit_above)

-- Digits of s were read up to i, and said v.
pub record Parsing (s : List ℕ) (v i : ℕ) : Type 0 where
  pub small : v < 16 ^ i
  pub rest : number_in s ≡ number_after v (drop i s)

pub parse_start : (s : List ℕ) → Parsing s 0 0
parse_start s = record { small = omega arith; rest = refl }

-- sixteen digits fit 64 bits
digits_fit : (i x : ℕ) → i < 16 → x < 16 ^ (i + 1) → x < 2 ^ 64
digits_fit i x h k =
    let e : i + 1 ≤ 16 = omega arith in
    let p : 16 ^ (i + 1) ≤ 16 ^ 16 = pow-le-pow_right (omega arith) e in
    lt_of_lt_of_le k p

-- d is the value of the byte at i
module _ {s : List ℕ} {v i : ℕ} (p : Parsing s v i) (h : i < length s) where
  next_small : {d : ℕ} → d < 16 → v * 16 + d < 16 ^ (i + 1)
  next_small k = let l = p.small in rw (add-one, pow-suc) (omega arith)

  pub parse_shifts : length s ≤ 16 → v * 16 < 2 ^ 64
  parse_shifts k = let l = next_small {d = 0} (omega arith) in digits_fit i (v * 16) (omega arith) (omega arith)

  pub parse_adds : {d : ℕ} → length s ≤ 16 → Some d ≡ digit_in (get_or s i 0) → v * 16 + d < 2 ^ 64
  parse_adds {d} k e = digits_fit i (v * 16 + d) (omega arith) (next_small (digit_small _ e))

  pub parse_none : None ≡ digit_in (get_or s i 0) → None ≡ number_in s
  unfolding number_after
  parse_none e = sym (p.rest ∙ rw (drop-cons s i 0 h, ← e))

  pub parse_more : {d : ℕ} → Some d ≡ digit_in (get_or s i 0) → Parsing s (v * 16 + d) (i + 1)
  unfolding number_after
  parse_more e = record { small = next_small (digit_small _ e); rest = p.rest ∙ rw (add-one, drop-cons s i 0 h, ← e) }

pub parse_end : {s : List ℕ} {v i : ℕ} → Parsing s v i → length s ≤ i → Some v ≡ number_in s
unfolding number_after
parse_end {s} p h = sym (p.rest ∙ rw (drop_of_length-le s h))

pub ruleset parses = (rules, parse_start, parse_shifts, parse_adds, parse_none, parse_more, parse_end)
