-- The total look-ups: what is not free is inside its table; what holds of every place of the lists, and of a free part, holds at every
-- number; one part's count is at most the whole table's. Assumes nothing.
use Prim.Native.Nat.{ℕ, ◌+◌, ◌*◌, ◌/◌, ◌%◌, ◌<◌, ◌≤◌}
use native.Mathlib.Nat.{mod-lt, div-lt_iff_lt-mul, div-add-mod'}
use native.Mathlib.Omega.{arith}
use mathlib.Core.Path.{◌≡◌, refl, ap, ◌∙◌}
use mathlib.Core.Bool.{Bool, true, false, ◌&&◌, cond}
use lib.Dec.{ltb}
use lib.ListN.{length, get_or-eq_default}
use borrow.Author.Tests.{ltb-true, ltb-false}
use Rattle.numbers.specs.Lists.{total}
use Rattle.numbers.specs.Tests.{absurd_bool}
use Rattle.numbers.specs.ListLaws.{each_at, each_of, total_at, total_none}
use Rattle.numbers.specs.Grid.{grid_at, grid_of}
use Rattle.tables.specs.declared.Cell.{Cell}
use Rattle.tables.specs.declared.Slot.{Slot}
use Rattle.tables.specs.declared.Kind.{Kind}
use Rattle.tables.specs.declared.Kind.TheVariants.{Free}
use Rattle.tables.specs.declared.Message.{Message}
use Rattle.tables.specs.declared.Message.TheVariants.{Empty}
use Rattle.tables.specs.Machine.{Machine, Tables}
use Rattle.tables.specs.Parts.{Holding, is_free, is_live}
use Rattle.tables.specs.Look.{kind_at, holding_at, cell, entry, message}
use Rattle.tables.specs.Laws.{cell_in_lem, entry_in_lem}
use Rattle.states.specs.Sound.{each_cell, each_entry, each_message}
use Rattle.states.specs.Machines.{Laws, Sized}
use Rattle.std.specs.Prelude.{None}

-- a choice that is inside only where both tests hold
chosen : {X : Type 0} (P : X → Type 0) (W C w c : ℕ) (x d : X) → P d → (w < W → c < C → P x) → P (cond (ltb w W && ltb c C) x d)
chosen P W C w c x d out inn = go (ltb w W) (ltb c C) refl refl
  where
    go : (a b : Bool) → ltb w W ≡ a → ltb c C ≡ b → P (cond (a && b) x d)
    go true true e f = inn (ltb-true w W e) (ltb-true c C f)
    go true false e f = out
    go false b e f = out

module _ (𝓜 : Machine) (s : Tables) where
  -- what holds of a free cell, and of each cell of the list, holds of every cell
  pub cells_all : (P : ℕ → ℕ → Kind → Type 0) → ((w c : ℕ) → P w c Free)
      → ((w c : ℕ) → w < 𝓜.workers → c < 𝓜.cells → P w c (kind_at s.cells (w * 𝓜.cells + c))) → (w c : ℕ) → P w c (cell 𝓜 s w c)
  unfolding cell
  cells_all P out inn w c = chosen (P w c) 𝓜.workers 𝓜.cells w c (kind_at s.cells (w * 𝓜.cells + c)) Free (out w c) (inn w c)

  pub entries_all : (P : ℕ → ℕ → Holding → Type 0) → ((w e : ℕ) → P w e None)
      → ((w e : ℕ) → w < 𝓜.workers → e < 𝓜.entries → P w e (holding_at s.entries (w * 𝓜.entries + e))) → (w e : ℕ) → P w e (entry 𝓜 s w e)
  unfolding entry
  entries_all P out inn w e =
      chosen (P w e) 𝓜.workers 𝓜.entries w e (holding_at s.entries (w * 𝓜.entries + e)) None (out w e) (inn w e)

  -- a cell that is not free, and a live entry, is inside its table
  pub cell_inside : (w c : ℕ) → is_free (cell 𝓜 s w c) ≡ false → (w < 𝓜.workers) × (c < 𝓜.cells)
  cell_inside =
      cells_all (λ w c k. is_free k ≡ false → (w < 𝓜.workers) × (c < 𝓜.cells)) (λ w c h. absurd_bool refl h) (λ w c a b h. (a, b))

  pub entry_inside : (w e : ℕ) → is_live (entry 𝓜 s w e) ≡ true → (w < 𝓜.workers) × (e < 𝓜.entries)
  entry_inside =
      entries_all (λ w e x. is_live x ≡ true → (w < 𝓜.workers) × (e < 𝓜.entries)) (λ w e h. absurd_bool h refl) (λ w e a b h. (a, b))

  -- a cell's, an entry's, a message's count is at most the table's
  pub cell-total : (f : Kind → ℕ) → f Free ≡ 0 → (w c : ℕ) → f (cell 𝓜 s w c) ≤ total (λ x. f x.kind) s.cells
  cell-total f z =
      cells_all (λ w c k. f k ≤ total (λ x. f x.kind) s.cells) (λ w c. omega arith)
      (λ w c a b. total_at (λ (x : Cell). f x.kind) s.cells (w * 𝓜.cells + c) (record { kind = Free }) z)

  pub message-total : (f : Message → ℕ) → f Empty ≡ 0 → (k : ℕ) → f (message s k) ≤ total (λ x. f x.message) s.slots
  message-total f z k = total_at (λ (x : Slot). f x.message) s.slots k (record { message = Empty }) z

  -- ---- a test of each part, and what it says of every number
  module _ (L : Laws 𝓜) (z : Sized 𝓜 s) where
    pub each_cell_at : (q : ℕ → ℕ → Kind → Bool) → ((w c : ℕ) → q w c Free ≡ true) → each_cell 𝓜 s q ≡ true → (w c : ℕ) → q w c (cell 𝓜 s w c) ≡ true
    each_cell_at q out h =
        cells_all (λ w c k. q w c k ≡ true) out
        (grid_at 𝓜.workers 𝓜.cells s.cells (record { kind = Free }) L.cells_some z.cells_long (λ w c x. q w c x.kind) h)

    pub each_cell_of : (q : ℕ → ℕ → Kind → Bool) → ((w c : ℕ) → q w c (cell 𝓜 s w c) ≡ true) → each_cell 𝓜 s q ≡ true
    each_cell_of q h =
        grid_of 𝓜.workers 𝓜.cells s.cells (record { kind = Free }) L.cells_some z.cells_long (λ w c x. q w c x.kind)
        (λ w c a b. rw (cell_in_lem 𝓜 s w c a b) at (h w c))

    -- a sum over the cells is 0 where every cell's count is
    pub flat_none : (f : Kind → ℕ) → ((w c : ℕ) → f (cell 𝓜 s w c) ≡ 0) → total (λ x. f x.kind) s.cells ≡ 0
    flat_none f h =
        total_none (λ (x : Cell). f x.kind) s.cells (record { kind = Free })
        (λ k l.
        let long = z.cells_long in
        let row : k / 𝓜.cells < 𝓜.workers = (div-lt_iff_lt-mul L.cells_some).1 (omega arith) in
        rw (cell_in_lem 𝓜 s (k / 𝓜.cells) (k % 𝓜.cells) row (mod-lt k L.cells_some), div-add-mod' k 𝓜.cells) at (h (k / 𝓜.cells) (k % 𝓜.cells)))

    pub each_entry_at : (q : ℕ → ℕ → Holding → Bool) → ((w e : ℕ) → q w e None ≡ true) → each_entry 𝓜 s q ≡ true → (w e : ℕ) → q w e (entry 𝓜 s w e) ≡ true
    each_entry_at q out h =
        entries_all (λ w e x. q w e x ≡ true) out
        (grid_at 𝓜.workers 𝓜.entries s.entries (record { holding = None }) L.entries_some z.entries_long (λ w e x. q w e x.holding) h)

    pub each_entry_of : (q : ℕ → ℕ → Holding → Bool) → ((w e : ℕ) → q w e (entry 𝓜 s w e) ≡ true) → each_entry 𝓜 s q ≡ true
    each_entry_of q h =
        grid_of 𝓜.workers 𝓜.entries s.entries (record { holding = None }) L.entries_some z.entries_long (λ w e x. q w e x.holding)
        (λ w e a b. rw (entry_in_lem 𝓜 s w e a b) at (h w e))

  -- past the last slot a message is empty
  pub message_beyond : (k : ℕ) → ltb k (length s.slots) ≡ false → message s k ≡ Empty
  message_beyond k e =
      ap (λ (x : Slot). x.message) (get_or-eq_default s.slots (record { message = Empty }) {n = k} (ltb-false k (length s.slots) e))

  pub each_message_at : (q : Message → Bool) → q Empty ≡ true → each_message 𝓜 s q ≡ true → (k : ℕ) → q (message s k) ≡ true
  each_message_at q out h k = go (ltb k (length s.slots)) refl
    where
      go : (b : Bool) → ltb k (length s.slots) ≡ b → q (message s k) ≡ true
      go true e = each_at (λ i (x : Slot). q x.message) s.slots (record { message = Empty }) h k (ltb-true k (length s.slots) e)
      go false e = ap q (message_beyond k e) ∙ out

  pub each_message_of : (q : Message → Bool) → ((k : ℕ) → q (message s k) ≡ true) → each_message 𝓜 s q ≡ true
  each_message_of q h = each_of (λ i (x : Slot). q x.message) s.slots (record { message = Empty }) (λ k l. h k)
