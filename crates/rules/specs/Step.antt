-- One call of the twelve, sequences of calls, and deliveries in a given order. Assumes nothing.
use Rattle.std.specs.Prelude.{ℕ, ◌+◌, Bool, true, false, ◌&&◌, not, List, [], ◌∷◌, ◌≡◌}
use Rattle.numbers.specs.Below.{bit}
use Rattle.tables.specs.declared.Call.{Call}
use Rattle.tables.specs.declared.Call.TheVariants.{Start, New, Set, Bind, Export, Indirect, Transfer, Drop, ReadCell, AskWeight, Deliver, Bound}
use Rattle.tables.specs.Machine.{Machine, Tables}
use Rattle.tables.specs.Parts.{is_known}
use Rattle.tables.specs.Look.{end_kind}
use Rattle.rules.specs.Answers.{Result, made, succeeds}
use Rattle.rules.specs.Calls.{start, new, set, bind, export, indirect, transfer, drop, read, ask, bound}
use Rattle.rules.specs.Deliver.{deliver}

module _ (𝓜 : Machine) where
  unfoldable pub step : Tables → Call → Result
  step s (Start p) = start 𝓜 p
  step s (New w caller) = made 𝓜 s (new 𝓜 s w caller)
  step s (Set w c n) = made 𝓜 s (set 𝓜 s w c n)
  step s (Bind w c x) = made 𝓜 s (bind 𝓜 s w c x)
  step s (Export w c to) = made 𝓜 s (export 𝓜 s w c to)
  step s (Indirect w c to) = made 𝓜 s (indirect 𝓜 s w c to)
  step s (Transfer w c to) = made 𝓜 s (transfer 𝓜 s w c to)
  step s (Drop w c) = made 𝓜 s (drop 𝓜 s w c)
  step s (ReadCell w c) = made 𝓜 s (read 𝓜 s w c)
  step s (AskWeight w c) = made 𝓜 s (ask 𝓜 s w c)
  step s (Deliver k) = made 𝓜 s (deliver 𝓜 s k)
  step s Bound = made 𝓜 s (bound 𝓜 s)

  -- the state after a list of calls
  unfoldable pub run : Tables → List Call → Tables
  run s [] = s
  run s (q ∷ qs) = run (step s q).after qs

  -- a delivery succeeds
  abbrev pub delivers : Tables → ℕ → Bool
  delivers s k = succeeds (deliver 𝓜 s k).outcome

  -- slots delivered in this order, refused ones skipped: the state reached, and how many succeed
  unfoldable pub drained : Tables → List ℕ → Tables
  drained s [] = s
  drained s (k ∷ ks) = drained (made 𝓜 s (deliver 𝓜 s k)).after ks

  unfoldable pub successes : Tables → List ℕ → ℕ
  successes s [] = 0
  successes s (k ∷ ks) = bit (delivers s k) + successes (made 𝓜 s (deliver 𝓜 s k)).after ks

abbrev pub is_start : Call → Bool
is_start (Start p) = true
is_start (New w caller) = false
is_start (Set w c n) = false
is_start (Bind w c x) = false
is_start (Export w c to) = false
is_start (Indirect w c to) = false
is_start (Transfer w c to) = false
is_start (Drop w c) = false
is_start (ReadCell w c) = false
is_start (AskWeight w c) = false
is_start (Deliver k) = false
is_start Bound = false

-- a bind to what is not known
abbrev pub binds_unknown : Machine → Tables → Call → Bool
binds_unknown 𝓜 s (Start p) = false
binds_unknown 𝓜 s (New w caller) = false
binds_unknown 𝓜 s (Set w c n) = false
binds_unknown 𝓜 s (Bind w c x) = not (is_known (end_kind 𝓜 s w x))
binds_unknown 𝓜 s (Export w c to) = false
binds_unknown 𝓜 s (Indirect w c to) = false
binds_unknown 𝓜 s (Transfer w c to) = false
binds_unknown 𝓜 s (Drop w c) = false
binds_unknown 𝓜 s (ReadCell w c) = false
binds_unknown 𝓜 s (AskWeight w c) = false
binds_unknown 𝓜 s (Deliver k) = false
binds_unknown 𝓜 s Bound = false

-- and it is not refused: a REF is made, which no other call does
abbrev pub makes_ref : Machine → Tables → Call → Bool
makes_ref 𝓜 s q = binds_unknown 𝓜 s q && succeeds (step 𝓜 s q).outcome

-- the states reached from an accepted start by calls with no start among them, refused ones included
pub data Reached (𝓜 : Machine) : Tables → Type 0 where
  begun : (p : ℕ) → succeeds (start 𝓜 p).outcome ≡ true → Reached 𝓜 (start 𝓜 p).after
  after : {s : Tables} → Reached 𝓜 s → (q : Call) → is_start q ≡ false → Reached 𝓜 (step 𝓜 s q).after
