-- Searches and counts: by one answer for all, over a list's places. Then a worker's cells and entries: what is found in the flat lists is what the
-- definitions find, and past the last worker all is free. Assumes nothing.
use Rattle.std.specs.Prelude.{None, ℕ, zero, suc, ◌+◌, ◌*◌, ◌≤◌, ◌<◌, Bool, true, false, cond, List, ◌≡◌, refl, length, get_or}
use Rattle.std.proofs.Common.{arith, sym, ap}
use Rattle.numbers.specs.Below.{sum_below, bit, count_below, lowest_from, lowest}
use Rattle.numbers.specs.BelowLaws.{sum_cong, lowest_none}
use Rattle.numbers.specs.Lists.{total}
use Rattle.numbers.specs.ListLaws.{total_below}
use Rattle.tables.specs.declared.Kind.{Kind}
use Rattle.tables.specs.declared.Kind.TheVariants.{Free}
use Rattle.tables.specs.Machine.{Machine, Tables}
use Rattle.tables.specs.Parts.{Holding}
use Rattle.tables.specs.Look.{kind_at, holding_at, cell, entry}
use Rattle.tables.specs.Laws.{cell_in_lem, cell_past, entry_in_lem, entry_past}
use Rattle.rows.specs.Found.{lowest_cong}

-- ---- searches
-- where one answer is every number's, the search ends at once or at the bound
pub lowest_same : (n : ℕ) (p : ℕ → Bool) (b : Bool) → ((j : ℕ) → p j ≡ b) → cond b 0 n ≡ lowest n p
unfolding lowest_from
lowest_same zero p true h = refl
lowest_same (suc n) p true h = rw (h 0)
lowest_same n p false h = lowest_none n p h

-- ---- counts
-- where one answer is every number's, a sum is a product
pub sum_same : (n : ℕ) (f : ℕ → ℕ) (m : ℕ) → ((j : ℕ) → f j ≡ m) → n * m ≡ sum_below n f
unfolding sum_below
sum_same zero f m h = omega arith
sum_same (suc n) f m h =
    let before = sum_same n f m h in
    let here = h n in
    omega arith

-- a count over a list's places is the total over its elements
pub count_total : {A : Type 0} (q : A → Bool) (l : List A) (d : A) {k n : ℕ} → length l ≡ n → k ≡ count_below n (λ i. q (get_or l i d))
    → k ≡ total (λ x. bit (q x)) l
count_total q l d e h = rw (total_below (λ x. bit (q x)) l d, e) h

-- a bit is at most 1
pub bit_small : (b : Bool) {r : ℕ} → r ≡ bit b → r ≤ 1
bit_small true h = omega arith
bit_small false h = omega arith

-- ---- a worker's cells and entries, and the lists that hold them
module _ (𝓜 : Machine) (s : Tables) (w : ℕ) where
  -- inside the machine the code searches and counts in the lists
  pub cells_found : (q : Kind → Bool) → w < 𝓜.workers
      → lowest 𝓜.cells (λ c. q (kind_at s.cells (w * 𝓜.cells + c))) ≡ lowest 𝓜.cells (λ c. q (cell 𝓜 s w c))
  cells_found q h = lowest_cong 𝓜.cells _ _ (λ c l. ap q (sym (cell_in_lem 𝓜 s w c h l)))

  pub entries_found : (q : Holding → Bool) → w < 𝓜.workers
      → lowest 𝓜.entries (λ e. q (holding_at s.entries (w * 𝓜.entries + e))) ≡ lowest 𝓜.entries (λ e. q (entry 𝓜 s w e))
  entries_found q h = lowest_cong 𝓜.entries _ _ (λ e l. ap q (sym (entry_in_lem 𝓜 s w e h l)))

  pub cells_count : (q : Kind → Bool) → w < 𝓜.workers
      → count_below 𝓜.cells (λ c. q (kind_at s.cells (w * 𝓜.cells + c))) ≡ count_below 𝓜.cells (λ c. q (cell 𝓜 s w c))
  cells_count q h = sum_cong 𝓜.cells _ _ (λ c l. ap (λ (k : Kind). bit (q k)) (sym (cell_in_lem 𝓜 s w c h l)))

  -- past the last worker: every cell is free, every entry unused
  pub cells_past : (q : Kind → Bool) → 𝓜.workers ≤ w → cond (q Free) 0 𝓜.cells ≡ lowest 𝓜.cells (λ c. q (cell 𝓜 s w c))
  cells_past q h = lowest_same 𝓜.cells _ (q Free) (λ c. ap q (cell_past 𝓜 s w c h))

  pub entries_past : (q : Holding → Bool) → 𝓜.workers ≤ w → cond (q None) 0 𝓜.entries ≡ lowest 𝓜.entries (λ e. q (entry 𝓜 s w e))
  entries_past q h = lowest_same 𝓜.entries _ (q None) (λ e. ap q (entry_past 𝓜 s w e h))

  pub cells_count_past : (q : Kind → Bool) → 𝓜.workers ≤ w → 𝓜.cells * bit (q Free) ≡ count_below 𝓜.cells (λ c. q (cell 𝓜 s w c))
  cells_count_past q h = sum_same 𝓜.cells _ (bit (q Free)) (λ c. ap (λ (k : Kind). bit (q k)) (cell_past 𝓜 s w c h))
