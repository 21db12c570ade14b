-- The line at a place of a text and the lines after it, and where a line ends. Assumes nothing.
use Prim.Native.Nat.{ℕ, suc, ◌+◌, ◌≤◌, ◌<◌}
use mathlib.Core.Path.{◌≡◌, refl, ap, ◌∙◌}
use mathlib.Core.Bool.{Bool, true, false}
use mathlib.Core.List.{List, [], ◌∷◌}
use native.Mathlib.Omega.{arith}
use borrow.Author.Rules.{rules}
use borrow.Author.Tests.{lt-ltb, le-ltb}
use lib.Dec.{eqb, ltb}
use lib.ListN.{length, take, drop, length-drop, drop_of_length-le}
use lib.Seq.{take_all, drop-drop, length-take-le}
use Rattle.std.specs.Prelude.{Some, None, cond, unwrap_or}
use Rattle.std.specs.List.{slice_range, position, position_or_len}
use Rattle.std.proofs.Common.{inl, inr}
use Rattle.std.proofs.lemmas.Bool.{cases_lt}
use Rattle.std.proofs.lemmas.List.Recursion.{is_position_or_len}
use Rattle.std.proofs.lemmas.List.Sums.{prefix_len-le-length}
use Rattle.frames.specs.Lines.{to_newline, lines_of, in_front, line_end}

-- the first line of a text that is not empty stands before its newline, and the others after it
first_line : (l : List ℕ) → 0 < length l → lines_of l ≡ take (to_newline l) l ∷ lines_of (drop (suc (to_newline l)) l)
unfolding lines_of to_newline
first_line [] h = absurd (omega arith)
first_line (x ∷ []) h = go (eqb x 10) refl
  where
    go : (b : Bool) → eqb x 10 ≡ b → lines_of (x ∷ []) ≡ take (to_newline (x ∷ [])) (x ∷ []) ∷ lines_of (drop (suc (to_newline (x ∷ []))) (x ∷ []))
    go true e = simp e
    go false e = simp e
first_line (x ∷ y ∷ ys) h = go (eqb x 10) refl (first_line (y ∷ ys) (omega arith))
  where
    go : (b : Bool) → eqb x 10 ≡ b → lines_of (y ∷ ys) ≡ take (to_newline (y ∷ ys)) (y ∷ ys) ∷ lines_of (drop (suc (to_newline (y ∷ ys))) (y ∷ ys))
        → lines_of (x ∷ y ∷ ys) ≡ take (to_newline (x ∷ y ∷ ys)) (x ∷ y ∷ ys) ∷ lines_of (drop (suc (to_newline (x ∷ y ∷ ys))) (x ∷ y ∷ ys))
    go true e ih = simp e
    go false e ih = rw e (ap (in_front x) ih)

-- the same at a place
pub line_at : (s : List ℕ) (at : ℕ) → at < length s
    → lines_of (drop at s) ≡ take (to_newline (drop at s)) (drop at s) ∷ lines_of (drop (line_end s at + 1) s)
line_at s at h =
    let n = to_newline (drop at s) in
    let e : at + suc n ≡ at + n + 1 = omega arith in
    first_line (drop at s) (simp length-drop (omega arith))
    ∙ ap (λ (r : List ℕ). take n (drop at s) ∷ lines_of r) (drop-drop (suc n) at s ∙ ap (λ (k : ℕ). drop k s) e)

-- no line stands at the end
pub no_line_at : (s : List ℕ) (at : ℕ) → length s ≤ at → lines_of (drop at s) ≡ []
unfolding lines_of
no_line_at s at h = rw (drop_of_length-le s h)

-- a line ends within the text
to_newline_le : (l : List ℕ) → to_newline l ≤ length l
unfolding to_newline
to_newline_le [] = omega arith
to_newline_le (x ∷ xs) = go (eqb x 10) refl (to_newline_le xs)
  where
    go : (b : Bool) → eqb x 10 ≡ b → to_newline xs ≤ length xs → to_newline (x ∷ xs) ≤ length (x ∷ xs)
    go true e h = simp e (omega arith)
    go false e h = simp e (omega arith)

pub line_within : (s : List ℕ) (at : ℕ) → at ≤ length s → line_end s at ≤ length s
line_within s at h = omega (arith, to_newline_le (drop at s), length-drop at s)

pub first_length : (l : List ℕ) → length (take (to_newline l) l) ≡ to_newline l
first_length l = length-take-le (to_newline l) l (to_newline_le l)

-- what the library's search for a newline finds
place_or_length : (k n : ℕ) → k ≤ n → unwrap_or (cond (ltb k n) (Some k) None) n ≡ k
place_or_length k n h = elim (cases_lt k n) [ inl l ↦ rw (lt-ltb k n l) | inr g ↦ rw (le-ltb k n g) (omega arith) ]

pub as_position : (l : List ℕ) → unwrap_or (position (λ x. eqb x 10) l) (length l) ≡ to_newline l
unfolding to_newline
as_position l =
    let e : to_newline l ≡ position_or_len (λ x. eqb x 10) l = is_position_or_len to_newline (λ x. eqb x 10) refl (λ x xs. ap (λ n. cond (eqb x 10) 0 n) (omega arith)) l in
    rw e (place_or_length _ _ (prefix_len-le-length _ l))

-- where a line ends: past the end of the text, and from what stands at a place
pub ends_past : (s : List ℕ) (at : ℕ) → length s < at → at ≡ line_end s at
unfolding to_newline
ends_past s at h = let e : drop at s ≡ [] = drop_of_length-le s (omega arith) in rw e (omega arith)

pub ends_within : (s rest : List ℕ) (at n : ℕ) → rest ≡ slice_range s at (length s) → n ≡ unwrap_or (position (λ x. eqb x 10) rest) (length rest) → at + n ≡ line_end s at
ends_within s rest at n e f =
    let g : rest ≡ drop at s = e ∙ take_all _ (drop at s) (omega (arith, length-drop at s)) in
    rw (f, g) (ap (λ n. at + n) (as_position (drop at s)))

pub ruleset ends = (rules, ends_past, ends_within)
