-- From a Bool to what it says, and back. Assumes nothing.
use Rattle.std.specs.Prelude.{ℕ, ◌≡◌, refl, Bool, true, false, ◌&&◌, ◌||◌, cond, ◌⊎◌}
use Rattle.std.proofs.Common.{arith, sym, inl, inr, ⊎_elim}

-- true is not false
pub absurd_bool : {X : Type 0} {b : Bool} → b ≡ true → b ≡ false → X
absurd_bool h k = let z : ◌≡◌ {A = ℕ} 0 1 = cc in absurd (omega arith)

pub or_else : (b : Bool) → (b ≡ true) ⊎ (b ≡ false)
or_else true = inl refl
or_else false = inr refl

-- ---- and
pub and_l : (a b : Bool) → (a && b) ≡ true → a ≡ true
and_l true b h = refl
and_l false b h = h

pub and_r : (a b : Bool) → (a && b) ≡ true → b ≡ true
and_r true b h = h
and_r false b h = absurd_bool h refl

pub and_i : {a b : Bool} → a ≡ true → b ≡ true → (a && b) ≡ true
and_i h k = cc

pub bool_eq : {a b : Bool} → (a ≡ true → b ≡ true) → (b ≡ true → a ≡ true) → a ≡ b
bool_eq {a = true} f g = sym (f refl)
bool_eq {a = false} {b} f g = ⊎_elim (λ t. absurd_bool (g t) refl) (λ h. sym h) (or_else b)

-- the parts of a conjunction of three, of four, as `◌&&◌` groups them
pub and_3 : (a b c : Bool) → (a && b && c) ≡ true → (a ≡ true) × (b ≡ true) × (c ≡ true)
and_3 a b c h =
    let ab = and_l (a && b) c h in
    (and_l a b ab, and_r a b ab, and_r (a && b) c h)

pub and_4 : (a b c d : Bool) → (a && b && c && d) ≡ true → (a ≡ true) × (b ≡ true) × (c ≡ true) × (d ≡ true)
and_4 a b c d h =
    let abc = and_3 a b c (and_l (a && b && c) d h) in
    (abc.0, abc.1, abc.2, and_r (a && b && c) d h)

-- ---- or
pub or_true : (b : Bool) → (b || true) ≡ true
or_true true = refl
or_true false = refl

pub or_l : {a : Bool} (b : Bool) → a ≡ true → (a || b) ≡ true
or_l b h = rw h

pub or_r : (a : Bool) {b : Bool} → b ≡ true → (a || b) ≡ true
or_r true h = refl
or_r false h = h

-- what is left of a disjunction whose first part fails
pub or_right : (a b : Bool) → (a || b) ≡ true → a ≡ false → b ≡ true
or_right true b h k = absurd_bool refl k
or_right false b h k = h

-- the parts of a disjunction that fails
pub or_no : (a b : Bool) → (a || b) ≡ false → (a ≡ false) × (b ≡ false)
or_no true b h = absurd_bool refl h
or_no false b h = (refl, h)

-- ---- choices
pub cond_zero : (b : Bool) (n : ℕ) → (b ≡ true → ⊥) → cond b n 0 ≡ 0
cond_zero true n h = absurd (h refl)
cond_zero false n h = refl

pub not_yes : {b : Bool} → (b ≡ true → ⊥) → b ≡ false
not_yes {b = true} h = absurd (h refl)
not_yes {b = false} h = refl
