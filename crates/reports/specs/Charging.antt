-- The books that the code keeps while it walks the charges, and how one charge changes them. Assumes nothing.
use Rattle.std.specs.Prelude.{ℕ, ◌+◌, ◌*◌, ◌≤◌, ◌&&◌, cond, Option, Some, None, List, [], ◌∷◌, ltb, ℤ, pos, nat_abs, ◌+ℤ◌, get_or, set, replicate}
use Rattle.tables.specs.Machine.{Machine, Tables}
use Rattle.payers.specs.Ways.{payers_of}
use Rattle.reports.specs.declared.Charge.{Charge}
use Rattle.reports.specs.declared.Books.{Books}
use Rattle.reports.specs.declared.CostReport.{CostReport}
use Rattle.reports.specs.Report.{reported}

-- of n charges, before the first
abbrev pub opened_of : Machine → Tables → ℕ → Books
opened_of 𝓜 s n =
    record { outcome = reported 𝓜 s n; payers = payers_of 𝓜 s; totals = replicate 256 (pos 0); unplaced = pos 0; placed = 0; missed = 0 }

-- one of the totals gains the amount, or, where nobody pays, the unplaced one
abbrev pub gained : Option ℕ → ℤ → Books → Books
gained (Some who) a b =
    let more = set b.totals who (get_or b.totals who (pos 0) +ℤ a) in
    record { outcome = b.outcome; payers = b.payers; totals = more; unplaced = b.unplaced; placed = b.placed + 1; missed = b.missed }
gained None a b =
    record { outcome = b.outcome; payers = b.payers; totals = b.totals; unplaced = b.unplaced +ℤ a; placed = b.placed; missed = b.missed + 1 }

module _ (𝓜 : Machine) where
  -- who pays for a charge's cell, by the table
  unfoldable pub payer_in : List (Option ℕ) → Charge → Option ℕ
  payer_in payers c = cond (ltb c.worker 𝓜.workers && ltb c.cell 𝓜.cells) (get_or payers (c.worker * 𝓜.cells + c.cell) None) None

  -- one charge more, and all of a list, one after the other
  unfoldable pub charged_one : Books → Charge → Books
  charged_one b c = gained (payer_in b.payers c) c.amount b

  unfoldable pub charged_all : Books → List Charge → Books
  charged_all b [] = b
  charged_all b (c ∷ cs) = charged_all (charged_one b c) cs

-- what the books have come to
abbrev pub finished_of : Books → CostReport
finished_of b = record { outcome = b.outcome; totals = b.totals; unplaced = b.unplaced; placed = b.placed; missed = b.missed }

-- how many charges are in the books
abbrev pub count : Books → ℕ
count b = b.placed + b.missed

-- at most n charges are in the books, and no total is further from 0 than 2 ^ 31 for each
abbrev pub Within : Books → ℕ → Type 0
Within b n =
    (count b ≤ n) × ((i : ℕ) → nat_abs (get_or b.totals i (pos 0)) ≤ count b * 2147483648) × (nat_abs b.unplaced ≤ count b * 2147483648)
