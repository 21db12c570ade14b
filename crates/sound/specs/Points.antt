-- The points by their places, and a chain of tests in code, `if !first(..) { return Some(..); } ..`, and what it says of six points: of points what
-- `InTurn` says of places. Assumes nothing.
use Rattle.std.specs.Prelude.{ℕ, ◌≡◌, refl, Bool, true, false, ◌&&◌, not, cond, Option, Some, None, is_none, [], ◌∷◌, get_or}
use Rattle.std.proofs.Common.{ap, ◌∙◌}
use Rattle.tables.specs.Machine.{Machine, Tables}
use Rattle.states.specs.Sound.{sound, first_broken, point1, point2, point3, point4, point5, point6}
use Rattle.sound.specs.InTurn as in_turn
use Rattle.sound.specs.declared.Point.{Point}
use Rattle.sound.specs.declared.Point.TheVariants.{Ranges, CellsName, EntriesName, Messages, Weights, Room}

-- the point at the place 1 to 6; none at 0
abbrev pub point_of : ℕ → Option Point
point_of n = get_or (None ∷ Some Ranges ∷ Some CellsName ∷ Some EntriesName ∷ Some Messages ∷ Some Weights ∷ Some Room ∷ []) n None

-- and the place of a point
abbrev pub place_of : Point → ℕ
place_of Ranges = 1
place_of CellsName = 2
place_of EntriesName = 3
place_of Messages = 4
place_of Weights = 5
place_of Room = 6

-- of the first broken one, 0 where none is
abbrev pub place_in : Option Point → ℕ
place_in None = 0
place_in (Some point) = place_of point

-- r is what the test returned: it failed, or it held and the rest decides
pub broken : {r a : Bool} (x y : ℕ) → r ≡ a → not r ≡ true → point_of y ≡ point_of (cond a x y)
broken x y e t = ap point_of (in_turn.broken x y e t)

pub kept : {r a : Bool} {z : Option Point} (x y : ℕ) → r ≡ a → not r ≡ false → z ≡ point_of x → z ≡ point_of (cond a x y)
kept x y e t h = h ∙ ap point_of (in_turn.kept x y e t refl)

-- the place that the tests give is that of the point at it
placed : (a b c d e f : Bool)
    → let n : ℕ = cond a (cond b (cond c (cond d (cond e (cond f 0 6) 5) 4) 3) 2) 1 in place_in (point_of n) ≡ n
placed false b c d e f = refl
placed true false c d e f = refl
placed true true false d e f = refl
placed true true true false e f = refl
placed true true true true false f = refl
placed true true true true true false = refl
placed true true true true true true = refl

pub broken_placed : (𝓜 : Machine) (s : Tables) → place_in (point_of (first_broken 𝓜 s)) ≡ first_broken 𝓜 s
unfolding first_broken
broken_placed 𝓜 s = placed (point1 𝓜 s) (point2 𝓜 s) (point3 𝓜 s) (point4 𝓜 s) (point5 𝓜 s) (point6 𝓜 s)

-- is_none of the point at the place that the tests give
none : (a b c d e f : Bool) → is_none (point_of (cond a (cond b (cond c (cond d (cond e (cond f 0 6) 5) 4) 3) 2) 1)) ≡ (a && (b && (c && (d && (e && f)))))
none false b c d e f = refl
none true false c d e f = refl
none true true false d e f = refl
none true true true false e f = refl
none true true true true false f = refl
none true true true true true false = refl
none true true true true true true = refl

-- a state is sound where no point is broken
pub none_broken : (𝓜 : Machine) (s : Tables) → is_none (point_of (first_broken 𝓜 s)) ≡ sound 𝓜 s
unfolding first_broken sound
none_broken 𝓜 s = none (point1 𝓜 s) (point2 𝓜 s) (point3 𝓜 s) (point4 𝓜 s) (point5 𝓜 s) (point6 𝓜 s)
