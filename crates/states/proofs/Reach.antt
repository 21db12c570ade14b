-- "A Read's entry is the one its EX names, or one reached from there by following ends and references": the soundness test looks at as many
-- places as the machine has entries, and that misses none, in any state, loops included. Assumes nothing.
use Rattle.std.specs.Prelude.{None, Some}
use Prim.Native.Nat.{ℕ, zero, suc, ◌+◌, ◌*◌, ◌-◌, ◌<◌, ◌≤◌}
use native.Mathlib.Decide.{dec_lt}
use native.Mathlib.Omega.{arith}
use mathlib.Core.Path.{◌≡◌, refl, sym, ap, ap₂, ◌∙◌}
use mathlib.Core.Bool.{true}
use lib.Arith.{digits_lt}
use Rattle.numbers.specs.Grid.{grid_row, grid_column}
use Rattle.numbers.specs.Pigeon.{pigeon}
use Rattle.tables.specs.Machine.{Machine, Tables}
use Rattle.tables.specs.Parts.{Place, place, is_live}
use Rattle.tables.specs.Look.{entry}
use Rattle.states.specs.Chains.{follow, ahead}
use Rattle.states.specs.Sound.{reached}
use Rattle.states.proofs.Inside.{entry_inside}
use Rattle.states.proofs.Named.{nowhere_at}
use Rattle.states.proofs.Walks.{ahead_nowhere, follow_from, ahead_add, walk_ahead, ahead_walk}

-- a place that is a live entry
record LiveAt (𝓜 : Machine) (s : Tables) (p : Place) : Type 0 where
  owner : ℕ
  number : ℕ
  is : p ≡ place owner number
  live : is_live (entry 𝓜 s owner number) ≡ true

-- its number among all entries
index : Machine → Place → ℕ
index 𝓜 None = 0
index 𝓜 (Some p) = p.owner * 𝓜.entries + p.entry

module _ (𝓜 : Machine) (s : Tables) where
  index_less : (p : Place) → LiveAt 𝓜 s p → index 𝓜 p < 𝓜.workers * 𝓜.entries
  unfolding index
  index_less p l =
      let inside = entry_inside 𝓜 s l.owner l.number l.live in
      let less : l.owner * 𝓜.entries + l.number < 𝓜.workers * 𝓜.entries = digits_lt inside.0 inside.1 in
      omega (arith, ap (index 𝓜) l.is)

  index_same : (p q : Place) → LiveAt 𝓜 s p → LiveAt 𝓜 s q → index 𝓜 p ≡ index 𝓜 q → p ≡ q
  unfolding index
  index_same p q l k e =
      let a = (entry_inside 𝓜 s l.owner l.number l.live).1 in
      let b = (entry_inside 𝓜 s k.owner k.number k.live).1 in
      let same : l.owner * 𝓜.entries + l.number ≡ k.owner * 𝓜.entries + k.number = sym (ap (index 𝓜) l.is) ∙ e ∙ ap (index 𝓜) k.is in
      let row = grid_row 𝓜.entries l.owner l.number k.owner k.number a b same in
      let column = grid_column 𝓜.entries l.owner l.number k.owner k.number a b same in
      l.is ∙ ap₂ place row column ∙ sym k.is

  -- a place from which a walk comes to an entry is a live one
  on_the_way : (m : ℕ) (p : Place) (o e : ℕ) → ahead 𝓜 s (suc m) p ≡ place o e → LiveAt 𝓜 s p
  unfolding ahead follow
  on_the_way m None o e q = nowhere_at (sym (ahead_nowhere 𝓜 s m) ∙ q)
  on_the_way m (Some p) o e q = go (follow 𝓜 s (Some p)) refl
    where
      go : (r : Place) → follow 𝓜 s (Some p) ≡ r → LiveAt 𝓜 s (Some p)
      go None i = nowhere_at (sym (ahead_nowhere 𝓜 s m) ∙ sym (ap (ahead 𝓜 s m) i) ∙ q)
      go (Some r) i = record { owner = p.owner; number = p.entry; is = refl; live = ap is_live (follow_from 𝓜 s p.owner p.entry r.owner r.entry i).is }

  module _ (from : Place) (o e : ℕ) (live : is_live (entry 𝓜 s o e) ≡ true) where
    split : (i n : ℕ) → i ≤ n → ahead 𝓜 s n from ≡ ahead 𝓜 s (n - i) (ahead 𝓜 s i from)
    split i n l = ap (λ (k : ℕ). ahead 𝓜 s k from) (omega arith) ∙ ahead_add 𝓜 s i (n - i) from

    visited : (n : ℕ) → ahead 𝓜 s n from ≡ place o e → (i : ℕ) → i ≤ n → LiveAt 𝓜 s (ahead 𝓜 s i from)
    visited n q i l = go (dec_lt i n)
      where
        go : Dec (i < n) → LiveAt 𝓜 s (ahead 𝓜 s i from)
        go (yes less) =
            let more : suc (n - suc i) ≡ n - i = omega arith in
            on_the_way (n - suc i) (ahead 𝓜 s i from) o e (ap (λ (k : ℕ). ahead 𝓜 s k (ahead 𝓜 s i from)) more ∙ sym (split i n l) ∙ q)
        go (no less) =
            let last : i ≡ n = omega arith in
            record { owner = o; number = e; is = ap (λ (k : ℕ). ahead 𝓜 s k from) last ∙ q; live = live }

    -- a walk that is too long visits a place twice, and can be cut short
    cut : (n : ℕ) → 𝓜.workers * 𝓜.entries ≤ n → ahead 𝓜 s n from ≡ place o e → (m : ℕ) × (m < n) × (ahead 𝓜 s m from ≡ place o e)
    cut n long q =
        let met = visited n q in
        let t = pigeon (𝓜.workers * 𝓜.entries) (λ i. index 𝓜 (ahead 𝓜 s i from)) (λ i l. index_less (ahead 𝓜 s i from) (met i (omega arith))) in
        let i = t.first in
        let j = t.second in
        let j_in : j ≤ n = omega (arith, t.within) in
        let same = index_same (ahead 𝓜 s i from) (ahead 𝓜 s j from) (met i (omega (arith, t.before))) (met j j_in) t.same in (
          i + (n - j),
          omega (arith, t.before),
          ahead_add 𝓜 s i (n - j) from ∙ ap (ahead 𝓜 s (n - j)) same ∙ sym (split j n j_in) ∙ q,
        )

    shorten : (fuel n : ℕ) → n < fuel → ahead 𝓜 s n from ≡ place o e → (m : ℕ) × (m < 𝓜.workers * 𝓜.entries) × (ahead 𝓜 s m from ≡ place o e)
    shorten zero n l q = absurd (omega arith)
    shorten (suc fuel) n l q = go (dec_lt n (𝓜.workers * 𝓜.entries)) (shorten fuel)
      where
        go : Dec (n < 𝓜.workers * 𝓜.entries)
            → ((k : ℕ) → k < fuel → ahead 𝓜 s k from ≡ place o e → (m : ℕ) × (m < 𝓜.workers * 𝓜.entries) × (ahead 𝓜 s m from ≡ place o e))
            → (m : ℕ) × (m < 𝓜.workers * 𝓜.entries) × (ahead 𝓜 s m from ≡ place o e)
        go (yes less) rec = (n, less, q)
        go (no more) rec =
            let c = cut n (omega arith) q in
            rec c.0 (omega (arith, c.1)) c.2

    -- reached in any number of steps: the test says yes; and the other way round
    pub reached_of : (n : ℕ) → ahead 𝓜 s n from ≡ place o e → reached 𝓜 s from o e ≡ true
    unfolding reached
    reached_of n q =
        let r = shorten (suc n) n (omega arith) q in
        ahead_walk 𝓜 s o e r.0 (𝓜.workers * 𝓜.entries) from r.1 r.2

  pub reached-ahead : (from : Place) (o e : ℕ) → reached 𝓜 s from o e ≡ true → (n : ℕ) × (ahead 𝓜 s n from ≡ place o e)
  unfolding reached
  reached-ahead from o e t =
      let r = walk_ahead 𝓜 s o e (𝓜.workers * 𝓜.entries) from t in
      (r.0, r.2)
