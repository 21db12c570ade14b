-- "lower-case hexadecimal digits": a digit read, a digit written, and the number that digits say. Assumes nothing.
use Rattle.std.specs.Prelude.{ℕ, ◌+◌, ◌-◌, ◌*◌, cond, ◌&&◌, List, [], ◌∷◌, ltb, leb, Option, Some, None, option_and_then}

-- the value of a byte that is a digit, '0' to '9' (48 to 57) or 'a' to 'f' (97 to 102); none of any other
unfoldable pub digit_in : ℕ → Option ℕ
digit_in b = cond (leb 48 b && leb b 57) (Some (b - 48)) (cond (leb 97 b && leb b 102) (Some (b - 97 + 10)) None)

-- the digit of a value below 16
abbrev pub digit_out : ℕ → ℕ
digit_out v = cond (ltb v 10) (48 + v) (97 + (v - 10))

-- the number that digits say, high digit first, where those before them say v; none where a byte is no digit
unfoldable pub number_after : ℕ → List ℕ → Option ℕ
number_after v [] = Some v
number_after v (x ∷ xs) = option_and_then (λ d. number_after (v * 16 + d) xs) (digit_in x)

-- the number that a whole line of digits says
abbrev pub number_in : List ℕ → Option ℕ
number_in l = number_after 0 l
