-- A bind to a known EX is done, and the VAR has the value; and a chain that leads to a value ends in it. Assumes nothing.
use Prim.Native.Nat.{ℕ}
use mathlib.Core.Path.{◌≡◌, refl, ap, ◌∙◌}
use mathlib.Core.Bool.{true, false}
use mathlib.Core.Logic.{⊎_elim}
use borrow.Author.Tests.{lt-leb}
use Rattle.numbers.specs.Tests.{absurd_bool, or_else}
use Rattle.tables.specs.declared.Kind.TheVariants.{Free, Val}
use Rattle.tables.specs.Machine.{Machine, Tables}
use Rattle.tables.specs.Parts.{Place, place, is_free, is_ex, entry_names}
use Rattle.tables.specs.Look.{cell, entry, end_kind}
use Rattle.states.specs.Chains.{entry_end, ahead, EndsIn}
use Rattle.states.proofs.Named.{the_entry_of}
use Rattle.states.proofs.Kept.{end_self}
use Rattle.rules.specs.Answers.{checked}
use Rattle.rules.specs.Calls.{bind}
use Rattle.rules.specs.Step.{step}
use Rattle.rules.specs.Statements.{KnownBindIsDone}
use Rattle.rules.proofs.Steps.{free_is}

module _ (𝓜 : Machine) where
  -- a cell that ends in an EX is not free
  not_free : (s : Tables) (w x : ℕ) → is_ex (end_kind 𝓜 s w x) ≡ true → is_free (cell 𝓜 s w x) ≡ false
  not_free s w x ex =
      ⊎_elim (λ free. absurd_bool ex (ap is_ex (end_self 𝓜 s w x Free (free_is (cell 𝓜 s w x) free) refl))) (λ used. used) (or_else (is_free (cell 𝓜 s w x)))

  pub known_bind_is_done : KnownBindIsDone 𝓜
  unfolding step bind checked
  known_bind_is_done s is_sound w c x o e n v caller a there var known =
      rw (is_sound, lt-leb s.p w there, not_free s w x (ap is_ex known), var, known) refl

  -- a chain that leads to a value
  pub value_ends : (t : Tables) (w c v caller steps number : ℕ) (from : Place) → cell 𝓜 t w c ≡ Val v caller
      → (ahead 𝓜 t steps from ≡ place w number) × (entry_names c (entry 𝓜 t w number) ≡ true) → EndsIn 𝓜 t from v
  value_ends t w c v caller steps number from is there =
      let x = the_entry_of c (entry 𝓜 t w number) there.1 in
      record {
        steps = steps;
        owner = w;
        number = number;
        there = there.0;
        caller = caller;
        value = ap (entry_end 𝓜 t w) x.is ∙ end_self 𝓜 t w c (Val v caller) is refl;
      }
