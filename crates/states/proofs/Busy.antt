-- What makes a cell busy, and what names a cell that is not. Assumes nothing.
use Prim.Native.Nat.{ℕ}
use mathlib.Core.Path.{◌≡◌, refl, ap, ◌∙◌}
use mathlib.Core.Bool.{Bool, true, false, ◌||◌}
use borrow.Author.Tests.{eq-eqb, eqb-true, ltb-true}
use Rattle.numbers.specs.Tests.{absurd_bool, or_l, or_r, or_no}
use Rattle.numbers.specs.Below.{lowest}
use Rattle.numbers.specs.BelowLaws.{some_of, lowest_at}
use Rattle.tables.specs.declared.Kind.{Kind}
use Rattle.tables.specs.declared.Kind.TheVariants.{Free, Var, Val, Ref, Ex}
use Rattle.tables.specs.Machine.{Machine, Tables}
use Rattle.tables.specs.Parts.{is_free, is_reading, is_asking, ref_names, entry_names}
use Rattle.tables.specs.Look.{cell, entry, entry_of, exported, referred, busy}
use Rattle.states.proofs.Inside.{cell_inside, entry_inside}
use Rattle.states.proofs.Named.{names_live_entry}

module _ (𝓜 : Machine) (s : Tables) (w c : ℕ) where
  pub exported_by : (e : ℕ) → entry_names c (entry 𝓜 s w e) ≡ true → exported 𝓜 s w c ≡ true
  unfolding exported entry_of
  exported_by e h =
      some_of 𝓜.entries (λ f. entry_names c (entry 𝓜 s w f)) e
      (entry_inside 𝓜 s w e (names_live_entry c (entry 𝓜 s w e) h)).1
      h

  pub referred_by : (d : ℕ) → cell 𝓜 s w d ≡ Ref c → referred 𝓜 s w c ≡ true
  unfolding referred
  referred_by d h =
      some_of 𝓜.cells (λ b. ref_names c (cell 𝓜 s w b)) d (cell_inside 𝓜 s w d (ap is_free h)).1 (ap (ref_names c) h ∙ eq-eqb c c refl)

  -- a cell that is not exported is named by no entry
  pub not_exported : exported 𝓜 s w c ≡ false → (e : ℕ) → entry_names c (entry 𝓜 s w e) ≡ false
  not_exported h e = go (entry_names c (entry 𝓜 s w e)) refl
    where
      go : (b : Bool) → entry_names c (entry 𝓜 s w e) ≡ b → entry_names c (entry 𝓜 s w e) ≡ false
      go true t = absurd_bool (exported_by e t) h
      go false t = t

  pub busy-exported : exported 𝓜 s w c ≡ true → busy 𝓜 s w c ≡ true
  unfolding busy
  busy-exported h =
      or_l (is_asking (cell 𝓜 s w c)) (or_l (is_reading (cell 𝓜 s w c)) (or_l (referred 𝓜 s w c) h))

  pub busy-referred : referred 𝓜 s w c ≡ true → busy 𝓜 s w c ≡ true
  unfolding busy
  busy-referred h =
      or_l (is_asking (cell 𝓜 s w c)) (or_l (is_reading (cell 𝓜 s w c)) (or_r (exported 𝓜 s w c) h))

  pub busy_reading : is_reading (cell 𝓜 s w c) ≡ true → busy 𝓜 s w c ≡ true
  unfolding busy
  busy_reading h = or_l (is_asking (cell 𝓜 s w c)) (or_r (exported 𝓜 s w c || referred 𝓜 s w c) h)

  pub busy_asking : is_asking (cell 𝓜 s w c) ≡ true → busy 𝓜 s w c ≡ true
  unfolding busy
  busy_asking h = or_r (exported 𝓜 s w c || referred 𝓜 s w c || is_reading (cell 𝓜 s w c)) h

  -- a cell that is not busy
  pub idle_parts : busy 𝓜 s w c ≡ false
      → (exported 𝓜 s w c ≡ false) × (referred 𝓜 s w c ≡ false) × (is_reading (cell 𝓜 s w c) ≡ false) × (is_asking (cell 𝓜 s w c) ≡ false)
  unfolding busy
  idle_parts h =
      let a = or_no (exported 𝓜 s w c || referred 𝓜 s w c || is_reading (cell 𝓜 s w c)) (is_asking (cell 𝓜 s w c)) h in
      let b = or_no (exported 𝓜 s w c || referred 𝓜 s w c) (is_reading (cell 𝓜 s w c)) a.0 in
      let d = or_no (exported 𝓜 s w c) (referred 𝓜 s w c) b.0 in
      (d.0, d.1, b.1, a.1)

  -- what names a cell that is exported, or that a REF names
  pub own_entry : exported 𝓜 s w c ≡ true → entry_names c (entry 𝓜 s w (entry_of 𝓜 s w c)) ≡ true
  unfolding exported entry_of
  own_entry h =
      lowest_at 𝓜.entries (λ e. entry_names c (entry 𝓜 s w e)) (ltb-true (entry_of 𝓜 s w c) 𝓜.entries h)

  pub naming_ref : referred 𝓜 s w c ≡ true → (d : ℕ) × (cell 𝓜 s w d ≡ Ref c)
  unfolding referred
  naming_ref h =
      let d = lowest 𝓜.cells (λ b. ref_names c (cell 𝓜 s w b)) in
      (d, the_ref (cell 𝓜 s w d) (lowest_at 𝓜.cells (λ b. ref_names c (cell 𝓜 s w b)) (ltb-true d 𝓜.cells h)))
    where
      the_ref : (k : Kind) → ref_names c k ≡ true → k ≡ Ref c
      the_ref Free t = absurd_bool t refl
      the_ref (Var caller) t = absurd_bool t refl
      the_ref (Val n caller) t = absurd_bool t refl
      the_ref (Ref d) t = ap Ref (eqb-true d c t)
      the_ref (Ex o e n st a) t = absurd_bool t refl

  pub not_busy : exported 𝓜 s w c ≡ false → referred 𝓜 s w c ≡ false → is_reading (cell 𝓜 s w c) ≡ false → is_asking (cell 𝓜 s w c) ≡ false → busy 𝓜 s w c ≡ false
  unfolding busy
  not_busy a b r k = rw (a, b, r, k)
