-- A table of the hops along ends and references, one for each entry: a walk by it is the walk of document 01. Assumes nothing.
use Rattle.std.specs.Prelude.{ℕ, ◌+◌, ◌*◌, ◌/◌, ◌%◌, ◌<◌, ◌≡◌, Bool, false, ◌&&◌, List, ltb, length, get_or, None, Some}
use Rattle.std.proofs.Common.{ap, sym, ◌∙◌}
use Rattle.std.proofs.Math.Path.{refl, ap₂}
use Rattle.std.proofs.Math.Bool.{true, cond}
use Rattle.std.proofs.Math.Logic.{⊎_elim}
use Rattle.std.proofs.Math.Arith.{digits_lt, digits_div, digits_mod}
use borrow.Author.Tests.{ltb-true}
use Rattle.numbers.specs.Below.{walk_meets}
use Rattle.numbers.specs.Tests.{or_else, and_l, and_r}
use Rattle.tables.specs.Machine.{Machine, Tables}
use Rattle.tables.specs.Parts.{Place, place, is_at}
use Rattle.tables.specs.Look.{holding_at, entry}
use Rattle.tables.specs.Laws.{entry_in_lem}
use Rattle.states.specs.Chains.{through, follow}
use Rattle.states.specs.Sound.{reached}
use Rattle.loops.specs.Walking.{walk_cong}

abbrev pub next_at : List Place → ℕ → Place
next_at l i = get_or l i None

module _ (𝓜 : Machine) where
  -- one step by the table; from an entry that there is none of it leads nowhere
  unfoldable pub step_by : List Place → Place → Place
  step_by l None = None
  step_by l (Some p) = cond (ltb p.owner 𝓜.workers && ltb p.entry 𝓜.entries) (next_at l (p.owner * 𝓜.entries + p.entry)) None

module _ (𝓜 : Machine) (s : Tables) where
  -- The table has the step of each of the first n entries.
  pub record Followed (l : List Place) (n : ℕ) : Type 0 where
    pub size : length l ≡ 𝓜.workers * 𝓜.entries
    pub at : (j : ℕ) → j < n → next_at l j ≡ follow 𝓜 s (place (j / 𝓜.entries) (j % 𝓜.entries))

  -- the step from the entry at the place i of the list
  pub hop : (i : ℕ) → i / 𝓜.entries < 𝓜.workers → i % 𝓜.entries < 𝓜.entries → i ≡ i / 𝓜.entries * 𝓜.entries + i % 𝓜.entries
      → {p : Place} → p ≡ through 𝓜 s (i / 𝓜.entries) (holding_at s.entries i) → p ≡ follow 𝓜 s (place (i / 𝓜.entries) (i % 𝓜.entries))
  unfolding follow
  hop i w e here h =
      let same = ap (holding_at s.entries) here ∙ sym (entry_in_lem 𝓜 s (i / 𝓜.entries) (i % 𝓜.entries) w e) in
      h ∙ ap (through 𝓜 s (i / 𝓜.entries)) same

  -- a place in the table
  abbrev there : ℕ → ℕ → Bool
  there o e = ltb o 𝓜.workers && ltb e 𝓜.entries

  entry_out : (o e : ℕ) → there o e ≡ false → entry 𝓜 s o e ≡ None
  unfolding entry
  entry_out o e h = rw h

  -- a step by the whole table is document 01's
  step_by_lem : (l : List Place) → Followed l (𝓜.workers * 𝓜.entries) → (p : Place) → step_by 𝓜 l p ≡ follow 𝓜 s p
  unfolding step_by follow
  step_by_lem l f None = refl
  step_by_lem l f (Some p) = ⊎_elim within outside (or_else (there p.owner p.entry))
    where
      within : there p.owner p.entry ≡ true
          → cond (there p.owner p.entry) (next_at l (p.owner * 𝓜.entries + p.entry)) None ≡ through 𝓜 s p.owner (entry 𝓜 s p.owner p.entry)
      within h =
          let ow : p.owner < 𝓜.workers = ltb-true p.owner 𝓜.workers (and_l (ltb p.owner 𝓜.workers) (ltb p.entry 𝓜.entries) h) in
          let el : p.entry < 𝓜.entries = ltb-true p.entry 𝓜.entries (and_r (ltb p.owner 𝓜.workers) (ltb p.entry 𝓜.entries) h) in
          rw h (f.at (p.owner * 𝓜.entries + p.entry) (digits_lt ow el) ∙ ap₂ (λ (a b : ℕ). follow 𝓜 s (place a b)) (digits_div p.owner el) (digits_mod p.owner el))

      outside : there p.owner p.entry ≡ false
          → cond (there p.owner p.entry) (next_at l (p.owner * 𝓜.entries + p.entry)) None ≡ through 𝓜 s p.owner (entry 𝓜 s p.owner p.entry)
      outside h = rw (h, entry_out p.owner p.entry h)

  -- and so is the walk
  pub reached_by : (l : List Place) → Followed l (𝓜.workers * 𝓜.entries) → (from : Place) (o e : ℕ)
      → walk_meets (is_at o e) (step_by 𝓜 l) (𝓜.workers * 𝓜.entries) from ≡ reached 𝓜 s from o e
  unfolding reached
  reached_by l f from o e = walk_cong (is_at o e) (step_by 𝓜 l) (follow 𝓜 s) (step_by_lem l f) (𝓜.workers * 𝓜.entries) from
