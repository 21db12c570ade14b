-- What a search and a count over a row find of a worker's cells and entries, as document 01's tables say them. Assumes nothing.
use Rattle.std.specs.Prelude.{None, ℕ, zero, suc, ◌+◌, ◌*◌, ◌<◌, Bool, List, ◌≡◌, refl, length}
use Rattle.std.proofs.Common.{arith, ap, ◌∙◌}
use Rattle.numbers.specs.Below.{bit, count_below, lowest_from, lowest}
use Rattle.numbers.specs.BelowLaws.{sum_cong}
use Rattle.tables.specs.declared.Cell.{Cell}
use Rattle.tables.specs.declared.Kind.{Kind}
use Rattle.tables.specs.declared.Kind.TheVariants.{Free}
use Rattle.tables.specs.declared.Entry.{Entry}
use Rattle.tables.specs.declared.Slot.{Slot}
use Rattle.tables.specs.declared.Message.{Message}
use Rattle.tables.specs.declared.Message.TheVariants.{Empty}
use Rattle.tables.specs.Machine.{Machine, Tables}
use Rattle.tables.specs.Look.{cell, entry, message}
use Rattle.rows.specs.Rows.{row_at}
use Rattle.rows.specs.Laws.{cell_read, entry_read, slot_read}
use Rattle.tables.specs.Parts.{Holding}

-- searches by two tests that agree
from_cong : (p q : ℕ → Bool) (n i : ℕ) → ((j : ℕ) → j < i + n → p j ≡ q j) → lowest_from p n i ≡ lowest_from q n i
unfolding lowest_from
from_cong p q zero i h = refl
from_cong p q (suc n) i h =
    let later = from_cong p q n (suc i) (λ j l. h j (omega arith)) in
    rw (h i (omega arith), later)

pub lowest_cong : (n : ℕ) (p q : ℕ → Bool) → ((j : ℕ) → j < n → p j ≡ q j) → lowest n p ≡ lowest n q
lowest_cong n p q h = from_cong p q n 0 (λ j l. h j (omega arith))

pub slots_lowest : (𝓜 : Machine) (s : Tables) (q : Message → Bool) {l : List Slot} {r : ℕ} → s.slots ≡ l → length l ≡ 𝓜.slots
    → r ≡ lowest 𝓜.slots (λ k. q (row_at 𝓜.slots (record { message = Empty }) l 0 k).message) → r ≡ lowest 𝓜.slots (λ k. q (message s k))
slots_lowest 𝓜 s q e long r = r ∙ lowest_cong 𝓜.slots _ _ (λ k _. ap q (slot_read 𝓜 s k e long refl))

module _ (𝓜 : Machine) (s : Tables) (w : ℕ) where
  pub cells_lowest : (q : Kind → Bool) {l : List Cell} {r : ℕ} → s.cells ≡ l → length l ≡ 𝓜.workers * 𝓜.cells
      → r ≡ lowest 𝓜.cells (λ c. q (row_at 𝓜.cells (record { kind = Free }) l w c).kind) → r ≡ lowest 𝓜.cells (λ c. q (cell 𝓜 s w c))
  cells_lowest q e long r = r ∙ lowest_cong 𝓜.cells _ _ (λ c _. ap q (cell_read 𝓜 s w c e long refl))

  pub entries_lowest : (q : Holding → Bool) {l : List Entry} {r : ℕ} → s.entries ≡ l → length l ≡ 𝓜.workers * 𝓜.entries
      → r ≡ lowest 𝓜.entries (λ e. q (row_at 𝓜.entries (record { holding = None }) l w e).holding) → r ≡ lowest 𝓜.entries (λ e. q (entry 𝓜 s w e))
  entries_lowest q h long r = r ∙ lowest_cong 𝓜.entries _ _ (λ e _. ap q (entry_read 𝓜 s w e h long refl))

  pub cells_counted : (q : Kind → Bool) {l : List Cell} {r : ℕ} → s.cells ≡ l → length l ≡ 𝓜.workers * 𝓜.cells
      → r ≡ count_below 𝓜.cells (λ c. q (row_at 𝓜.cells (record { kind = Free }) l w c).kind) → r ≡ count_below 𝓜.cells (λ c. q (cell 𝓜 s w c))
  cells_counted q e long r = r ∙ sum_cong 𝓜.cells _ _ (λ c _. ap (λ (k : Kind). bit (q k)) (cell_read 𝓜 s w c e long refl))

  pub entries_counted : (q : Holding → Bool) {l : List Entry} {r : ℕ} → s.entries ≡ l → length l ≡ 𝓜.workers * 𝓜.entries
      → r ≡ count_below 𝓜.entries (λ e. q (row_at 𝓜.entries (record { holding = None }) l w e).holding)
      → r ≡ count_below 𝓜.entries (λ e. q (entry 𝓜 s w e))
  entries_counted q h long r = r ∙ sum_cong 𝓜.entries _ _ (λ e _. ap (λ (x : Holding). bit (q x)) (entry_read 𝓜 s w e h long refl))
