-- A table of rows that is as long as its rows are together: what is read in it and stored, as document 01's tables say it, of cells, entries and slots.
-- Assumes nothing.
use Rattle.std.specs.Prelude.{None, ℕ, ◌+◌, ◌*◌, ◌≤◌, ◌≡◌, refl, Bool, true, false, ◌&&◌, cond, List, length, get_or, set, ltb}
use Rattle.std.proofs.Common.{arith, sym, ap}
use Rattle.std.proofs.Math.ListN.{get_or-eq_default}
use Rattle.std.proofs.Math.Nat.{mul-le-mul_right, zero-mul, zero-add}
use Rattle.std.proofs.Math.Seq.{set_out}
use borrow.Author.Tests.{ltb-false}
use Rattle.tables.specs.declared.Cell.{Cell}
use Rattle.tables.specs.declared.Kind.{Kind}
use Rattle.tables.specs.declared.Kind.TheVariants.{Free}
use Rattle.tables.specs.declared.Entry.{Entry}
use Rattle.tables.specs.declared.Slot.{Slot}
use Rattle.tables.specs.declared.Message.{Message}
use Rattle.tables.specs.declared.Message.TheVariants.{Empty}
use Rattle.tables.specs.Machine.{Machine, Tables, with_cells, with_entries, with_slots}
use Rattle.tables.specs.Look.{cell, entry, message, put_cell, put_entry, put_message}
use Rattle.rows.specs.Rows.{row_at, row_put}
use Rattle.tables.specs.Parts.{Holding}

-- past the last row there is no place
past : (l rows width w i : ℕ) → l ≡ rows * width → rows ≤ w → l ≤ w * width + i
past l rows width w i long h = let m = mul-le-mul_right {m = rows} {n = w} width h in omega arith

module _ {A : Type 0} (l : List A) (rows width w i : ℕ) (long : length l ≡ rows * width) where
  -- a part of what is read there, and the same by document 01's range of workers
  pub row_is : {B : Type 0} (f : A → B) (d : A)
      → f (row_at width d l w i) ≡ cond (ltb w rows && ltb i width) (f (get_or l (w * width + i) d)) (f d)
  row_is {B} f d = go (ltb w rows) (ltb i width) refl
    where
      go : (a b : Bool) → ltb w rows ≡ a → f (cond b (get_or l (w * width + i) d) d) ≡ cond (a && b) (f (get_or l (w * width + i) d)) (f d)
      go true true h = refl
      go true false h = refl
      go false true h = ap f (get_or-eq_default l d {n = w * width + i} (past (length l) rows width w i long (ltb-false w rows h)))
      go false false h = refl

  -- the table with x there
  pub put_is : (x : A) → row_put width l w i x ≡ cond (ltb w rows && ltb i width) (set l (w * width + i) x) l
  put_is x = go (ltb w rows) (ltb i width) refl
    where
      go : (a b : Bool) → ltb w rows ≡ a → cond b (set l (w * width + i) x) l ≡ cond (a && b) (set l (w * width + i) x) l
      go true true h = refl
      go true false h = refl
      go false true h = set_out l (w * width + i) x (past (length l) rows width w i long (ltb-false w rows h))
      go false false h = refl

module _ (𝓜 : Machine) where
  -- what is read in the cells of the tables s, and stored there; and in their entries
  pub cell_read : (s : Tables) (w c : ℕ) {l : List Cell} {x : Cell} → s.cells ≡ l → length l ≡ 𝓜.workers * 𝓜.cells
      → x ≡ row_at 𝓜.cells (record { kind = Free }) l w c → x.kind ≡ cell 𝓜 s w c
  unfolding cell
  cell_read s w c {l} e long r =
      rw (r, e) (row_is l 𝓜.workers 𝓜.cells w c long (λ (y : Cell). y.kind) (record { kind = Free }))

  pub entry_read : (s : Tables) (w e : ℕ) {l : List Entry} {x : Entry} → s.entries ≡ l → length l ≡ 𝓜.workers * 𝓜.entries
      → x ≡ row_at 𝓜.entries (record { holding = None }) l w e → x.holding ≡ entry 𝓜 s w e
  unfolding entry
  entry_read s w e {l} h long r =
      rw (r, h) (row_is l 𝓜.workers 𝓜.entries w e long (λ (y : Entry). y.holding) (record { holding = None }))

  pub cell_stored : (s : Tables) (w c : ℕ) (k : Kind) {l : List Cell} → length s.cells ≡ 𝓜.workers * 𝓜.cells
      → l ≡ row_put 𝓜.cells s.cells w c (record { kind = k }) → with_cells s l ≡ put_cell 𝓜 s w c k
  unfolding put_cell
  cell_stored s w c k long r =
      rw (r, put_is s.cells 𝓜.workers 𝓜.cells w c long (record { kind = k })) (go (ltb w 𝓜.workers && ltb c 𝓜.cells))
    where
      go : (b : Bool) → with_cells s (cond b (set s.cells (w * 𝓜.cells + c) (record { kind = k })) s.cells)
          ≡ cond b (with_cells s (set s.cells (w * 𝓜.cells + c) (record { kind = k }))) s
      go true = refl
      go false = refl

  pub entry_stored : (s : Tables) (w e : ℕ) (x : Holding) {l : List Entry} → length s.entries ≡ 𝓜.workers * 𝓜.entries
      → l ≡ row_put 𝓜.entries s.entries w e (record { holding = x }) → with_entries s l ≡ put_entry 𝓜 s w e x
  unfolding put_entry
  entry_stored s w e x long r =
      rw (r, put_is s.entries 𝓜.workers 𝓜.entries w e long (record { holding = x })) (go (ltb w 𝓜.workers && ltb e 𝓜.entries))
    where
      go : (b : Bool) → with_entries s (cond b (set s.entries (w * 𝓜.entries + e) (record { holding = x })) s.entries)
          ≡ cond b (with_entries s (set s.entries (w * 𝓜.entries + e) (record { holding = x }))) s
      go true = refl
      go false = refl

  -- the slots are one row
  pub slot_read : (s : Tables) (k : ℕ) {l : List Slot} {x : Slot} → s.slots ≡ l → length l ≡ 𝓜.slots
      → x ≡ row_at 𝓜.slots (record { message = Empty }) l 0 k → x.message ≡ message s k
  slot_read s k {l} e long r =
      let whole : length l ≡ 1 * 𝓜.slots = omega arith in
      rw (r, e, row_is l 1 𝓜.slots 0 k whole (λ (y : Slot). y.message) (record { message = Empty }), zero-mul, zero-add) (go (ltb k 𝓜.slots) refl)
    where
      go : (b : Bool) → ltb k 𝓜.slots ≡ b → cond b (get_or l k (record { message = Empty })).message Empty ≡ (get_or l k (record { message = Empty })).message
      go true h = refl
      go false h = ap (λ (y : Slot). y.message) (sym (get_or-eq_default l (record { message = Empty }) {n = k} (rw long (ltb-false k 𝓜.slots h))))

  pub slot_stored : (s : Tables) (k : ℕ) (m : Message) {l : List Slot} → length s.slots ≡ 𝓜.slots
      → l ≡ row_put 𝓜.slots s.slots 0 k (record { message = m }) → with_slots s l ≡ put_message s k m
  unfolding put_message
  slot_stored s k m long r = rw (r, zero-mul, zero-add) (ap (with_slots s) (go (ltb k 𝓜.slots) refl))
    where
      go : (b : Bool) → ltb k 𝓜.slots ≡ b → cond b (set s.slots k (record { message = m })) s.slots ≡ set s.slots k (record { message = m })
      go true h = refl
      go false h = sym (set_out s.slots k (record { message = m }) (rw long (ltb-false k 𝓜.slots h)))
