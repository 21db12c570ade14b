-- From a test of one part to the part itself: an EX that names an entry, an entry that names a cell. Assumes nothing.
use Rattle.std.specs.Prelude.{Some, None}
use Prim.Native.Nat.{ℕ}
use native.Mathlib.Omega.{arith}
use mathlib.Core.Path.{◌≡◌, refl, ap, sym, ◌∙◌}
use mathlib.Core.Bool.{Bool, true, false, ◌&&◌}
use lib.Dec.{eqb}
use borrow.Author.Tests.{eqb-true, eq-eqb}
use Rattle.numbers.specs.Tests.{absurd_bool, and_l, and_r, and_i}
use Rattle.tables.specs.declared.Status.{Status}
use Rattle.tables.specs.declared.Kind.{Kind}
use Rattle.tables.specs.declared.Kind.TheVariants.{Free, Var, Val, Ref, Ex}
use Rattle.tables.specs.declared.EntryName.{EntryName}
use Rattle.tables.specs.Parts.{Holding, live, Place, place, on_ex, is_free, is_var, is_ex, ex_names, named_by, is_live, entry_names}

-- two numbers tested at once
pub both_eq : (a b c d : ℕ) → (eqb a b && eqb c d) ≡ true → (a ≡ b) × (c ≡ d)
both_eq a b c d h = (eqb-true a b (and_l (eqb a b) (eqb c d) h), eqb-true c d (and_r (eqb a b) (eqb c d) h))

pub eq_both : (a c : ℕ) → (eqb a a && eqb c c) ≡ true
eq_both a c = and_i (eq-eqb a a refl) (eq-eqb c c refl)

-- an EX, with its fields
pub record IsEx (k : Kind) : Type 0 where
  pub owner : ℕ
  pub entry : ℕ
  pub weight : ℕ
  pub status : Status
  pub asking : Bool
  pub is : k ≡ Ex owner entry weight status asking

-- a test that only an EX can meet
pub on_ex_lem : (f : ℕ → ℕ → ℕ → Status → Bool → Bool) (k : Kind) → on_ex false f k ≡ true → IsEx k
on_ex_lem f Free h = absurd_bool h refl
on_ex_lem f (Var caller) h = absurd_bool h refl
on_ex_lem f (Val n caller) h = absurd_bool h refl
on_ex_lem f (Ref c) h = absurd_bool h refl
on_ex_lem f (Ex o e n st a) h = record { owner = o; entry = e; weight = n; status = st; asking = a; is = refl }

pub the_ex : (k : Kind) → is_ex k ≡ true → IsEx k
the_ex k h = on_ex_lem (λ o e n st a. true) k h

pub not_on_ex : {X : Type 0} (d : X) (f : ℕ → ℕ → ℕ → Status → Bool → X) (k : Kind) → is_ex k ≡ false → on_ex d f k ≡ d
not_on_ex d f Free h = refl
not_on_ex d f (Var caller) h = refl
not_on_ex d f (Val n caller) h = refl
not_on_ex d f (Ref c) h = refl
not_on_ex d f (Ex o e n st a) h = absurd_bool refl h

-- such a cell is neither free nor a VAR
pub ex_not_free : (f : ℕ → ℕ → ℕ → Status → Bool → Bool) (k : Kind) → on_ex false f k ≡ true → is_free k ≡ false
ex_not_free f k h = ap is_free (on_ex_lem f k h).is

pub ex_not_var : (f : ℕ → ℕ → ℕ → Status → Bool → Bool) (k : Kind) → on_ex false f k ≡ true → is_var k ≡ false
ex_not_var f k h = ap is_var (on_ex_lem f k h).is

-- an EX that names the entry e of worker o
pub record ExOf (o e : ℕ) (k : Kind) : Type 0 where
  pub weight : ℕ
  pub status : Status
  pub asking : Bool
  pub is : k ≡ Ex o e weight status asking

pub the_ex_of : (o e : ℕ) (k : Kind) → ex_names o e k ≡ true → ExOf o e k
the_ex_of o e k h =
    let x = on_ex_lem (λ owner entr n st a. eqb owner o && eqb entr e) k h in
    let q = both_eq x.owner o x.entry e (sym (ap (ex_names o e) x.is) ∙ h) in
    record { weight = x.weight; status = x.status; asking = x.asking; is = x.is ∙ rw (q.0, q.1) }

-- nowhere is no entry's place, so what names an entry is an EX
pub nowhere_at : {X : Type 0} {o e : ℕ} → ◌≡◌ {A = Place} None (place o e) → X
nowhere_at q = let z : ◌≡◌ {A = ℕ} 0 1 = cc in absurd (omega arith)

-- and an entry's place tells the entry
pub same_place : {a b o e : ℕ} → place a b ≡ place o e → (a ≡ o) × (b ≡ e)
same_place {a} {b} {o} {e} q =
    let name : ◌≡◌ {A = EntryName} (record { owner = a; entry = b }) (record { owner = o; entry = e }) = cc in
    (ap (λ (n : EntryName). n.owner) name, ap (λ (n : EntryName). n.entry) name)

pub named_ex : (o e : ℕ) (k : Kind) → named_by k ≡ place o e → ExOf o e k
named_ex o e Free q = nowhere_at q
named_ex o e (Var caller) q = nowhere_at q
named_ex o e (Val n caller) q = nowhere_at q
named_ex o e (Ref c) q = nowhere_at q
named_ex o e (Ex o' e' n st a) q =
    let same = same_place q in
    record { weight = n; status = st; asking = a; is = rw (same.0, same.1) }

-- a live entry that names the cell c
pub record EntryOf (c : ℕ) (x : Holding) : Type 0 where
  pub weight : ℕ
  pub tainted : Bool
  pub is : x ≡ live c weight tainted

pub the_entry_of : (c : ℕ) (x : Holding) → entry_names c x ≡ true → EntryOf c x
the_entry_of c None h = absurd_bool h refl
the_entry_of c (Some l) h = record { weight = l.weight; tainted = l.tainted; is = rw (eqb-true l.cell c h) }

pub names_live_entry : (c : ℕ) (x : Holding) → entry_names c x ≡ true → is_live x ≡ true
names_live_entry c x h = ap is_live (the_entry_of c x h).is

pub record IsLive (x : Holding) : Type 0 where
  pub cell : ℕ
  pub weight : ℕ
  pub tainted : Bool
  pub is : x ≡ live cell weight tainted

pub the_live : (x : Holding) → is_live x ≡ true → IsLive x
the_live None h = absurd_bool h refl
the_live (Some l) h = record { cell = l.cell; weight = l.weight; tainted = l.tainted; is = refl }
