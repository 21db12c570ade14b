-- The size of a sum of signed amounts: a total of n amounts of 32 bits is at most n times 2 ^ 31 from 0, so that it fits 64 bits. Assumes nothing.
use Prim.Native.Nat.{ℕ, suc, ◌+◌, ◌*◌, ◌<◌, ◌≤◌}
use native.Mathlib.Omega.{arith}
use mathlib.Core.Path.{◌≡◌, refl, ap, ◌∙◌}
use mathlib.Core.Bool.{Bool, true, false}
use borrow.Author.Tests.{ltb-true, ltb-false}
use lib.Dec.{ltb}
use lib.IntN.{ℤ, pos, negsuc, nat_abs, sub_ℕ, ◌+ℤ◌}
use lib.Signed.{mag, nat_abs-le}
use mir.Syntax.{w32, w64}
use mir.Val.{SFits, to_z, of_z}
use mir.Facts.{to_z-of_z}

nat_abs_sub : (a b : ℕ) → nat_abs (sub_ℕ a b) ≤ a + b
nat_abs_sub a b = go (ltb a b) refl
  where
    go : (t : Bool) → ltb a b ≡ t → nat_abs (sub_ℕ a b) ≤ a + b
    go true e = let h : a < b = ltb-true _ _ e in rw e (omega arith)
    go false e = let h : b ≤ a = ltb-false _ _ e in rw e (omega arith)

nat_abs_add : (a b : ℤ) → nat_abs (a +ℤ b) ≤ nat_abs a + nat_abs b
nat_abs_add (pos a) (pos b) = omega arith
nat_abs_add (pos a) (negsuc b) = nat_abs_sub a (suc b)
nat_abs_add (negsuc a) (pos b) = let h = nat_abs_sub b (suc a) in omega (arith, h)
nat_abs_add (negsuc a) (negsuc b) = omega arith

mag_nat_abs : (z : ℤ) → mag z ≤ nat_abs z
mag_nat_abs (pos n) = omega arith
mag_nat_abs (negsuc n) = omega arith

-- a total z of n amounts gains an amount a
module _ (z a : ℤ) (n : ℕ) (few : n ≤ 65535) (near : nat_abs z ≤ n * 2147483648) (f : SFits w32 a) where
  pub gains_near : nat_abs (z +ℤ a) ≤ (n + 1) * 2147483648
  gains_near = let s = nat_abs_add z a in let k = nat_abs-le a f.sfits in omega (arith, s, k)

  gains_fit : SFits w64 (z +ℤ a)
  gains_fit = record { sfits = let m = mag_nat_abs (z +ℤ a) in let s = gains_near in omega (arith, m, s) }

  total_fits : SFits w64 z
  total_fits = record { sfits = let m = mag_nat_abs z in omega (arith, m) }

  -- the same of what a machine reads from the bits of the two
  read : to_z w64 (of_z w64 z) +ℤ to_z w32 (of_z w32 a) ≡ z +ℤ a
  read i = to_z-of_z {w = w64} total_fits i +ℤ to_z-of_z {w = w32} f i

  pub gains_bits : (r : ℤ) → r ≡ to_z w64 (of_z w64 z) +ℤ to_z w32 (of_z w32 a) → to_z w64 (of_z w64 r) ≡ z +ℤ a
  gains_bits r e = ap (λ (y : ℤ). to_z w64 (of_z w64 y)) (e ∙ read) ∙ to_z-of_z {w = w64} gains_fit
