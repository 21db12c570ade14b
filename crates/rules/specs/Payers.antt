-- W-202, who pays for a cell's time: "the caller found by following ends and references from its cell to a VAR or VAL". Assumes nothing.
use Rattle.std.specs.Prelude.{ℕ, zero, suc, ◌≡◌, Bool, true, ◌||◌, ltb}
use Rattle.tables.specs.declared.Kind.{Kind}
use Rattle.tables.specs.Machine.{Machine, Tables}
use Rattle.tables.specs.Parts.{place, on_ex, is_var, is_val, caller_of, named_by}
use Rattle.tables.specs.Look.{cell, entry, end_kind, live_entries}
use Rattle.states.specs.Chains.{entry_end, LeadsTo}

-- a caller is found: who pays is a number up to 255
abbrev pub is_caller : ℕ → Bool
is_caller who = ltb who 256

module _ (𝓜 : Machine) (s : Tables) where
  -- who pays, from what the end of a cell holds on, where at most n references are followed: a VAR's or a VAL's caller, and from an EX on who
  -- pays from the end of the entry's cell that it names; past the last caller where none is found
  unfoldable pub pays_from : ℕ → Kind → ℕ
  pays_from zero k = caller_of k
  pays_from (suc n) k = on_ex (caller_of k) (λ o e w st a. pays_from n (entry_end 𝓜 s o (entry 𝓜 s o e))) k

  -- Who pays for the cell c of worker w. "A charge whose worker or cell number is out of range, or whose cell is free, is unplaced", since what is
  -- out of range reads free, and of workers P and up everything is free in a sound state; "so is one whose chain has not reached a VAR or VAL after as
  -- many references as there are live entries".
  unfoldable pub payer : ℕ → ℕ → ℕ
  payer w c = pays_from (live_entries s) (end_kind 𝓜 s w c)

  -- a cell leads to the context at the cell d of worker v: it is that cell, or its end names an entry that leads there
  pub data CellLeadsTo (w c v d : ℕ) : Type 0 where
    itself : w ≡ v → c ≡ d → (is_var (cell 𝓜 s v d) || is_val (cell 𝓜 s v d)) ≡ true → CellLeadsTo w c v d
    along : (o e : ℕ) → named_by (end_kind 𝓜 s w c) ≡ place o e → LeadsTo 𝓜 s (place o e) v d → CellLeadsTo w c v d
