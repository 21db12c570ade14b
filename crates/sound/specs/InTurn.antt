-- A chain of tests in code, `if !first(..) { return 1; } ..`, and what it says of six points. Assumes nothing.
use Rattle.std.specs.Prelude.{ℕ, ◌≡◌, refl, Bool, true, false, ◌&&◌, not, cond, eqb}
use Rattle.std.proofs.Common.{sym, ◌∙◌}
use Rattle.std.proofs.lemmas.Bool.{not-true, not-false}
use Rattle.tables.specs.Machine.{Machine, Tables}
use Rattle.states.specs.Sound.{sound, first_broken, point1, point2, point3, point4, point5, point6}

-- r is what the test returned: it failed, or it held and the rest decides
pub broken : {r a : Bool} (x y : ℕ) → r ≡ a → not r ≡ true → y ≡ cond a x y
broken {r} {a} x y e t =
    let f : a ≡ false = sym e ∙ not-true r t in
    rw f

pub kept : {r a : Bool} {z : ℕ} (x y : ℕ) → r ≡ a → not r ≡ false → z ≡ x → z ≡ cond a x y
kept {r} {a} x y e t h =
    let f : a ≡ true = sym e ∙ not-false r t in
    rw f h

none : (a b c d e f : Bool) → eqb (cond a (cond b (cond c (cond d (cond e (cond f 0 6) 5) 4) 3) 2) 1) 0 ≡ (a && (b && (c && (d && (e && f)))))
none false b c d e f = refl
none true false c d e f = refl
none true true false d e f = refl
none true true true false e f = refl
none true true true true false f = refl
none true true true true true false = refl
none true true true true true true = refl

-- a state is sound where no point is broken
pub none_broken : (𝓜 : Machine) (s : Tables) → eqb (first_broken 𝓜 s) 0 ≡ sound 𝓜 s
unfolding first_broken sound
none_broken 𝓜 s = none (point1 𝓜 s) (point2 𝓜 s) (point3 𝓜 s) (point4 𝓜 s) (point5 𝓜 s) (point6 𝓜 s)
