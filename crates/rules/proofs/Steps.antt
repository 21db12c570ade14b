-- What the proofs of single calls share: the refusals that a call has passed, what a bind makes of its cell, what a search found, room for what is
-- sent, and a store that a call makes. Assumes nothing.
use Prim.Native.Nat.{ℕ, ◌+◌, ◌<◌, ◌≤◌}
use native.Mathlib.Omega.{arith}
use mathlib.Core.Path.{◌≡◌, refl, ap, subst}
use mathlib.Core.Bool.{Bool, true, false, ◌&&◌, not, cond}
use mathlib.Core.List.{List, [], ◌∷◌}
use lib.Dec.{eqb, leb}
use borrow.Author.Tests.{ltb-true, leb-false, eqb-true}
use Rattle.numbers.specs.Below.{bit, lowest}
use Rattle.numbers.specs.Tests.{absurd_bool}
use Rattle.numbers.specs.BelowLaws.{sum_some, some_of, lowest_at}
use Rattle.tables.specs.declared.Status.{Status}
use Rattle.tables.specs.declared.Status.TheVariants.{Idle, Reading, Known}
use Rattle.tables.specs.declared.Kind.{Kind}
use Rattle.tables.specs.declared.Kind.TheVariants.{Free, Var, Val, Ref, Ex}
use Rattle.tables.specs.declared.Message.{Message}
use Rattle.tables.specs.declared.Message.TheVariants.{Empty, Reference, Release, Read, Answer, Ask, Supply}
use Rattle.tables.specs.declared.Refusal.{Refusal}
use Rattle.tables.specs.declared.Outcome.TheVariants.{Refused}
use Rattle.tables.specs.declared.Effect.{Effect}
use Rattle.tables.specs.Machine.{Machine, Tables}
use Rattle.tables.specs.Parts.{Holding, is_free, is_var, is_ex, is_reading, is_known, is_asking, is_unused, is_empty, goes_to}
use Rattle.tables.specs.Look.{cell, entry, end, end_kind, safe, entry_of, exported, referred, busy, lowest_free_cell, lowest_free_entry, lowest_empty_slot, booked, free_cells, message, changed}
use Rattle.rules.specs.Answers.{Check, ◌when◌, answered, refuse, checked}
use Rattle.rules.specs.Refusals.{bind_refusals}
use Rattle.rules.specs.Calls.{valued, bound_cell}
use Rattle.rules.specs.Order.{Passed}
use Rattle.states.specs.Machines.{Laws}
use Rattle.states.specs.Facts.{Facts}
use Rattle.states.proofs.Named.{the_ex, the_entry_of}
use Rattle.states.proofs.Busy.{own_entry, naming_ref, not_busy}
use Rattle.states.proofs.Derived.{bit_one, live_fact, cell_fact}
use Rattle.states.specs.Move.{ReadsOn, TrueValues, Carries, Makes, nothing, moved}
use Rattle.states.proofs.Moves.{Stores}
use Rattle.std.specs.Prelude.{None, Some}

-- ---- what holds of every refusal, and of what is done once all are passed, holds of what a call gives
pub checked_is : (P : Effect → Type 0) (l : List Check) (d : Effect) → ((why : Refusal) → P (answered (Refused why))) → (Passed l → P d) → P (checked l d)
unfolding checked
checked_is P [] d none new = new tt
checked_is P ((why when hit) ∷ l) d none new = go hit refl (checked_is P l d none)
  where
    go : (b : Bool) → hit ≡ b → ((Passed l → P d) → P (checked l d)) → P (refuse b why (checked l d))
    go true e rest = none why
    go false e rest = rest (λ p. new (e, p))

-- a refused call leaves the state as it came
pub makes_checked : (𝓜 : Machine) (s : Tables) (l : List Check) (d : Effect) → (Passed l → Makes 𝓜 s (changed 𝓜 s d.change))
    → Makes 𝓜 s (changed 𝓜 s (checked l d).change)
makes_checked 𝓜 s l d new = checked_is (λ x. Makes 𝓜 s (changed 𝓜 s x.change)) l d (λ why. nothing) new

pub not-false : {b : Bool} → not b ≡ false → b ≡ true
not-false {b = true} e = refl
not-false {b = false} e = absurd_bool refl e

-- ---- parts by their tests
pub free_is : (k : Kind) → is_free k ≡ true → k ≡ Free
free_is Free t = refl
free_is (Var caller) t = absurd_bool t refl
free_is (Val n caller) t = absurd_bool t refl
free_is (Ref d) t = absurd_bool t refl
free_is (Ex o e n st a) t = absurd_bool t refl

pub var_is : (k : Kind) → is_var k ≡ true → (caller : ℕ) × (k ≡ Var caller)
var_is Free t = absurd_bool t refl
var_is (Var caller) t = (caller, refl)
var_is (Val n caller) t = absurd_bool t refl
var_is (Ref d) t = absurd_bool t refl
var_is (Ex o e n st a) t = absurd_bool t refl

pub unused_is : (x : Holding) → is_unused x ≡ true → x ≡ None
unused_is None t = refl
unused_is (Some l) t = absurd_bool t refl

pub empty_is : (m : Message) → is_empty m ≡ true → m ≡ Empty
empty_is Empty t = refl
empty_is (Reference to o e n) t = absurd_bool t refl
empty_is (Release o e n) t = absurd_bool t refl
empty_is (Read r c o e) t = absurd_bool t refl
empty_is (Answer r c n) t = absurd_bool t refl
empty_is (Ask a c o e) t = absurd_bool t refl
empty_is (Supply a c n) t = absurd_bool t refl

-- ---- what a bind that is not refused makes of its VAR: where the EX is known, a VAL of the VAR's own caller, and else a REF to the EX, which is safe
-- where the VAR is exported
pub data BindGives (𝓜 : Machine) (s : Tables) (w c x : ℕ) : Type 0 where
  a_value : (v caller : ℕ) → is_known (end_kind 𝓜 s w x) ≡ true → cell 𝓜 s w c ≡ Var caller → bound_cell 𝓜 s w c x ≡ Val v caller → BindGives 𝓜 s w c x
  a_ref : (caller : ℕ) → is_known (end_kind 𝓜 s w x) ≡ false → cell 𝓜 s w c ≡ Var caller → is_ex (end_kind 𝓜 s w x) ≡ true
      → (exported 𝓜 s w c ≡ true → safe 𝓜 s w (end_kind 𝓜 s w x) ≡ true) → bound_cell 𝓜 s w c x ≡ Ref (end 𝓜 s w x) → BindGives 𝓜 s w c x

pub bind_gives : (𝓜 : Machine) (s : Tables) (w c x : ℕ) → Passed (bind_refusals 𝓜 s w c x) → BindGives 𝓜 s w c x
bind_gives 𝓜 s w c x p =
    let var = var_is (cell 𝓜 s w c) (not-false (search)) in
    let y = the_ex (end_kind 𝓜 s w x) (not-false (search)) in
    go y.owner y.entry y.weight y.status y.asking y.is var.0 var.1 (search)
  where
    go : (o e n : ℕ) (st : Status) (a : Bool) → end_kind 𝓜 s w x ≡ Ex o e n st a → (caller : ℕ) → cell 𝓜 s w c ≡ Var caller
        → (not (is_known (end_kind 𝓜 s w x)) && (exported 𝓜 s w c && not (safe 𝓜 s w (end_kind 𝓜 s w x)))) ≡ false → BindGives 𝓜 s w c x
    go o e n Idle a i caller q guarded =
        a_ref caller (ap is_known i) q (ap is_ex i) (λ exp. not-false (rw (ap is_known i, exp) at guarded)) (rw i refl)
    go o e n Reading a i caller q guarded =
        a_ref caller (ap is_known i) q (ap is_ex i) (λ exp. not-false (rw (ap is_known i, exp) at guarded)) (rw i refl)
    go o e n (Known v) a i caller q guarded = a_value v caller (ap is_known i) q (rw i (ap (valued v) q))

-- ---- choices by a test of place
pub cond_add : (t : Bool) (a b n : ℕ) → a + b ≡ n → cond t a 0 + cond t b 0 ≡ cond t n 0
cond_add true a b n h = h
cond_add false a b n h = refl

-- a mark that comes or goes with its message
pub mark_cond : (t : Bool) → 0 + cond t 1 0 ≡ bit t + cond t 0 0
mark_cond true = refl
mark_cond false = refl

pub zero_cond : (t : Bool) → ◌≡◌ {A = ℕ} (cond t 0 0) 0
zero_cond true = refl
zero_cond false = refl

module _ (𝓜 : Machine) (L : Laws 𝓜) (s : Tables) (F : Facts 𝓜 s) where
  -- ---- what a search found
  -- more free cells than booked: the lowest is a free cell
  pub free_cell : (w : ℕ) → 1 ≤ free_cells 𝓜 s w → (lowest_free_cell 𝓜 s w < 𝓜.cells) × (cell 𝓜 s w (lowest_free_cell 𝓜 s w) ≡ Free)
  unfolding free_cells lowest_free_cell
  free_cell w h =
      let free : ℕ → Bool = λ c. is_free (cell 𝓜 s w c) in
      let r = sum_some 𝓜.cells (λ c. bit (free c)) h in
      let less = ltb-true (lowest 𝓜.cells free) 𝓜.cells (some_of 𝓜.cells free r.0 r.1 (bit_one (free r.0) r.2)) in
      (less, free_is (cell 𝓜 s w (lowest_free_cell 𝓜 s w)) (lowest_at 𝓜.cells free less))

  pub free_entry : (w : ℕ) → leb 𝓜.entries (lowest_free_entry 𝓜 s w) ≡ false
      → (lowest_free_entry 𝓜 s w < 𝓜.entries) × (entry 𝓜 s w (lowest_free_entry 𝓜 s w) ≡ None)
  unfolding lowest_free_entry
  free_entry w h =
      let less = leb-false 𝓜.entries (lowest_free_entry 𝓜 s w) h in
      (less, unused_is (entry 𝓜 s w (lowest_free_entry 𝓜 s w)) (lowest_at 𝓜.entries (λ e. is_unused (entry 𝓜 s w e)) less))

  pub empty_slot : leb 𝓜.slots (lowest_empty_slot 𝓜 s) ≡ false → (lowest_empty_slot 𝓜 s < 𝓜.slots) × (message s (lowest_empty_slot 𝓜 s) ≡ Empty)
  unfolding lowest_empty_slot
  empty_slot h =
      let less = leb-false 𝓜.slots (lowest_empty_slot 𝓜 s) h in
      (less, empty_is (message s (lowest_empty_slot 𝓜 s)) (lowest_at 𝓜.slots (λ k. is_empty (message s k)) less))

  -- ---- room
  pub has_room_lem : (to : ℕ) → leb (free_cells 𝓜 s to) (booked s to) ≡ false → booked s to < free_cells 𝓜 s to
  has_room_lem to h = leb-false (free_cells 𝓜 s to) (booked s to) h

  -- a Reference sent to a worker that has room
  pub room_sent : (to o e n : ℕ) → booked s to < free_cells 𝓜 s to → (v : ℕ)
      → booked s v + bit (goes_to v (Reference to o e n)) ≤ free_cells 𝓜 s v + bit (goes_to v Empty)
  room_sent to o e n h v = go (eqb to v) refl
    where
      go : (b : Bool) → eqb to v ≡ b → booked s v + bit b ≤ free_cells 𝓜 s v + 0
      go true t = let q = eqb-true to v t in subst (λ (u : ℕ). booked s u + 1 ≤ free_cells 𝓜 s u + 0) q (omega arith)
      go false t = omega (arith, F.room v)

  pub room_same : (v : ℕ) → booked s v + 0 ≤ free_cells 𝓜 s v + 0
  room_same v = omega (arith, F.room v)

  -- ---- a free cell is not busy
  pub free_not_busy : (w c : ℕ) → cell 𝓜 s w c ≡ Free → busy 𝓜 s w c ≡ true → ⊥
  free_not_busy w c q t = go (exported 𝓜 s w c) refl (referred 𝓜 s w c) refl
    where
      go : (a : Bool) → exported 𝓜 s w c ≡ a → (b : Bool) → referred 𝓜 s w c ≡ b → ⊥
      go true x b y =
          let e = entry_of 𝓜 s w c in
          let l = the_entry_of c (entry 𝓜 s w e) (own_entry 𝓜 s w c x) in
          let f = live_fact 𝓜 s F w e (record { cell = c; weight = l.weight; tainted = l.tainted; is = l.is }) in
          absurd_bool (ap is_free q) f.2
      go false x true y =
          let r = naming_ref 𝓜 s w c y in
          absurd_bool (cell_fact 𝓜 s F w r.0 r.1).1 (ap is_ex q)
      go false x false y =
          absurd_bool t (not_busy 𝓜 s w c x y (ap is_reading q) (ap is_asking q))

-- a store of the rules, made by a call
pub makes_by : (𝓜 : Machine) (s : Tables) {s' : Tables} (S : Stores 𝓜 s s') → ReadsOn 𝓜 s S.move → (TrueValues 𝓜 s → Carries 𝓜 s S.move) → Makes 𝓜 s s'
makes_by 𝓜 s S on C = subst (Makes 𝓜 s) S.is (moved S.move S.keeps on C)
