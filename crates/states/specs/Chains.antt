-- Chains: the end of an entry's cell, one step along ends and references, what a chain ends in, and the context that it leads to.
-- Assumes nothing.
use Rattle.std.specs.Prelude.{ℕ, zero, suc, ◌≡◌, true, ◌||◌, None, Some}
use Rattle.tables.specs.declared.Kind.{Kind}
use Rattle.tables.specs.declared.Kind.TheVariants.{Free, Val}
use Rattle.tables.specs.Machine.{Machine, Tables}
use Rattle.tables.specs.Parts.{Holding, Place, place, is_var, is_val, named_by, entry_names}
use Rattle.tables.specs.Look.{cell, entry, end_kind}

module _ (𝓜 : Machine) (s : Tables) where
  -- the end of the cell that a live entry of worker o names; nothing for a free entry
  abbrev pub entry_end : ℕ → Holding → Kind
  entry_end o None = Free
  entry_end o (Some l) = end_kind 𝓜 s o l.cell

  -- the reference that this end is
  abbrev pub through : ℕ → Holding → Place
  through o x = named_by (entry_end o x)

  -- one step along ends and references
  unfoldable pub follow : Place → Place
  follow None = None
  follow (Some p) = through p.owner (entry 𝓜 s p.owner p.entry)

  -- the place that n steps lead to
  unfoldable pub ahead : ℕ → Place → Place
  ahead zero p = p
  ahead (suc n) p = ahead n (follow p)

  -- the chain from a place ends in VAL(v), of some caller: so many steps lead to an entry whose cell has that end
  pub record EndsIn (from : Place) (v : ℕ) : Type 0 where
    pub steps : ℕ
    pub owner : ℕ
    pub number : ℕ
    pub there : ahead steps from ≡ place owner number
    pub caller : ℕ
    pub value : entry_end owner (entry 𝓜 s owner number) ≡ Val v caller

  -- a place leads to the context at the cell c of worker w: so many steps lead to an entry of that cell, and the cell is a VAR or a VAL
  pub record LeadsTo (from : Place) (w c : ℕ) : Type 0 where
    pub steps : ℕ
    pub number : ℕ
    pub there : ahead steps from ≡ place w number
    pub names : entry_names c (entry 𝓜 s w number) ≡ true
    pub var_or_val : (is_var (cell 𝓜 s w c) || is_val (cell 𝓜 s w c)) ≡ true
