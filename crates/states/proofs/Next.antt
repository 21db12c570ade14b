-- What stands in the tables after a move, and the sums over them. Assumes nothing.
use Prim.Native.Nat.{ℕ, ◌+◌, ◌*◌, ◌<◌}
use native.Mathlib.Decide.{ℕ_discrete}
use native.Mathlib.Omega.{arith}
use mathlib.Core.Path.{◌≡◌, sym, ap, subst, ◌∙◌}
use mathlib.Core.Bool.{cond}
use mathlib.Core.Logic.{◌⊎◌, inl, inr}
use lib.Arith.{digits_lt}
use lib.Dec.{eqb}
use lib.ListN.{length, length-set}
use lib.Seq.{get_or-set_same, get_or-set_other}
use Rattle.numbers.specs.Below.{bit}
use Rattle.numbers.specs.Lists.{total}
use Rattle.numbers.specs.ListLaws.{total-set}
use Rattle.tables.specs.declared.Cell.{Cell}
use Rattle.tables.specs.declared.Entry.{Entry}
use Rattle.tables.specs.declared.Slot.{Slot}
use Rattle.tables.specs.declared.Kind.{Kind}
use Rattle.tables.specs.declared.Kind.TheVariants.{Free}
use Rattle.tables.specs.declared.Message.{Message}
use Rattle.tables.specs.declared.Message.TheVariants.{Empty}
use Rattle.tables.specs.Machine.{Machine, Tables}
use Rattle.tables.specs.Parts.{is_free}
use Rattle.tables.specs.Look.{kind_at, cell, entry, message, free_cells}
use Rattle.tables.specs.Laws.{cell_in_lem}
use Rattle.states.specs.Machines.{Sized}
use Rattle.states.specs.Move.{Move, next, Placed}
use Rattle.states.proofs.Stored.{Stored, stored_row, rows_stored}
use Rattle.std.specs.Prelude.{None}

module _ (𝓜 : Machine) (s : Tables) (h : Move) (z : Sized 𝓜 s) (P : Placed 𝓜 s h) where
  -- ---- each table before and after
  pub cell_stored : Stored (cell 𝓜 s) (cell 𝓜 (next 𝓜 s h)) h.w h.c h.k₀ h.k
  unfolding cell
  cell_stored =
      rows_stored (λ (y : Cell). y.kind) Free (record { kind = Free }) 𝓜.workers 𝓜.cells s.cells h.w h.c h.k₀ (record { kind = h.k })
      z.cells_long P.w_in P.c_in P.old_cell

  pub entry_stored : Stored (entry 𝓜 s) (entry 𝓜 (next 𝓜 s h)) h.o h.e h.x₀ h.x
  unfolding entry
  entry_stored =
      rows_stored (λ (y : Entry). y.holding) None (record { holding = None }) 𝓜.workers 𝓜.entries s.entries
      h.o h.e h.x₀ (record { holding = h.x }) z.entries_long P.o_in P.e_in P.old_entry

  slot_place : h.i < length s.slots
  slot_place = omega (arith, z.slots_long, P.i_in)

  pub slot_here : message (next 𝓜 s h) h.i ≡ h.m
  slot_here = ap (λ (y : Slot). y.message) (get_or-set_same s.slots h.i (record { message = h.m }) (record { message = Empty }) slot_place)

  pub slot_other : (j : ℕ) → (j ≡ h.i → ⊥) → message (next 𝓜 s h) j ≡ message s j
  slot_other j q = ap (λ (y : Slot). y.message) (get_or-set_other s.slots h.i j (record { message = h.m }) (record { message = Empty }) q)

  -- a fact of each message before, where the new one has it too
  pub messages_all : (T : Message → Type 0) → ((j : ℕ) → T (message s j)) → (h.m ≡ h.m₀) ⊎ T h.m → (j : ℕ) → T (message (next 𝓜 s h) j)
  messages_all T before fresh j = go (ℕ_discrete j h.i) fresh
    where
      here : j ≡ h.i → message (next 𝓜 s h) j ≡ h.m
      here q = ap (message (next 𝓜 s h)) q ∙ slot_here

      go : Dec (j ≡ h.i) → (h.m ≡ h.m₀) ⊎ T h.m → T (message (next 𝓜 s h) j)
      go (yes q) (inl e) = subst T (P.old_message ∙ sym e ∙ sym (here q)) (before h.i)
      go (yes q) (inr t) = subst T (sym (here q)) t
      go (no q) f = subst T (sym (slot_other j q)) (before j)

  pub next_sized : Sized 𝓜 (next 𝓜 s h)
  next_sized =
      record {
        cells_long = length-set s.cells (h.w * 𝓜.cells + h.c) (record { kind = h.k }) ∙ z.cells_long;
        entries_long = length-set s.entries (h.o * 𝓜.entries + h.e) (record { holding = h.x }) ∙ z.entries_long;
        slots_long = length-set s.slots h.i (record { message = h.m }) ∙ z.slots_long;
      }

  -- ---- sums over a table
  pub cells-total : (f : Kind → ℕ) → total (λ y. f y.kind) (next 𝓜 s h).cells + f h.k₀ ≡ total (λ y. f y.kind) s.cells + f h.k
  cells-total f =
      let place : h.w * 𝓜.cells + h.c < 𝓜.workers * 𝓜.cells = digits_lt P.w_in P.c_in in
      let old : kind_at s.cells (h.w * 𝓜.cells + h.c) ≡ h.k₀ = sym (cell_in_lem 𝓜 s h.w h.c P.w_in P.c_in) ∙ P.old_cell in
      let long = z.cells_long in
      let stored = total-set (λ (y : Cell). f y.kind) s.cells (h.w * 𝓜.cells + h.c) (record { kind = h.k }) (record { kind = Free }) (omega arith) in
      omega (arith, ap f old)

  pub slots-total : (f : Message → ℕ) → total (λ y. f y.message) (next 𝓜 s h).slots + f h.m₀ ≡ total (λ y. f y.message) s.slots + f h.m
  slots-total f =
      let stored = total-set (λ (y : Slot). f y.message) s.slots h.i (record { message = h.m }) (record { message = Empty }) slot_place in
      omega (arith, ap f P.old_message)

  -- a worker's free cells
  pub free_count : (v : ℕ)
      → free_cells 𝓜 (next 𝓜 s h) v + cond (eqb h.w v) (bit (is_free h.k₀)) 0 ≡ free_cells 𝓜 s v + cond (eqb h.w v) (bit (is_free h.k)) 0
  unfolding free_cells
  free_count v = stored_row cell_stored 𝓜.cells P.c_in (λ (y : Kind). bit (is_free y)) v
