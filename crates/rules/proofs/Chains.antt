-- A chain has one end: two values at its end are one, and a Read on a chain that ends in a value is ready. Assumes nothing.
use Rattle.std.specs.Prelude.{None}
use Prim.Native.Nat.{ℕ, suc, ◌+◌, ◌-◌, ◌<◌}
use native.Mathlib.Decide.{dec_lt}
use native.Mathlib.Omega.{arith}
use mathlib.Core.Path.{◌≡◌, refl, sym, ap, ◌∙◌}
use mathlib.Core.Bool.{true}
use Rattle.numbers.specs.Tests.{absurd_bool}
use Rattle.tables.specs.declared.Kind.TheVariants.{Val}
use Rattle.tables.specs.Machine.{Machine, Tables}
use Rattle.tables.specs.Parts.{Place, place, is_var, named_by}
use Rattle.tables.specs.Look.{entry}
use Rattle.states.specs.Chains.{entry_end, follow, ahead, EndsIn}
use Rattle.states.proofs.Named.{nowhere_at, same_place}
use Rattle.states.proofs.Walks.{ahead_nowhere, ahead_add}
use Rattle.rules.proofs.Steps.{var_is}

module _ (𝓜 : Machine) (s : Tables) where
  -- a step goes to what the end of the entry's cell names
  follow_end : (o e : ℕ) → follow 𝓜 s (place o e) ≡ named_by (entry_end 𝓜 s o (entry 𝓜 s o e))
  unfolding follow
  follow_end o e = refl

  -- past an end that is a VAR or a VAL there is nothing
  past_end : (p : Place) (m n o e : ℕ) → ahead 𝓜 s m p ≡ place o e → named_by (entry_end 𝓜 s o (entry 𝓜 s o e)) ≡ None → m < n → ahead 𝓜 s n p ≡ None
  unfolding ahead
  past_end p m n o e q plain less =
      let more = n - suc m in
      let split : m + suc more ≡ n = omega arith in
      ap (λ (i : ℕ). ahead 𝓜 s i p) (sym split)
      ∙ ahead_add 𝓜 s m (suc more) p
      ∙ ap (λ (x : Place). ahead 𝓜 s more (follow 𝓜 s x)) q
      ∙ ap (ahead 𝓜 s more) (follow_end o e ∙ plain)
      ∙ ahead_nowhere 𝓜 s more

  -- one place has one end
  one_end : (m : ℕ) (p : Place) (o e o' e' : ℕ) → ahead 𝓜 s m p ≡ place o e → ahead 𝓜 s m p ≡ place o' e'
      → entry_end 𝓜 s o (entry 𝓜 s o e) ≡ entry_end 𝓜 s o' (entry 𝓜 s o' e')
  one_end m p o e o' e' q r =
      let same = same_place (sym q ∙ r) in
      rw (same.0, same.1)

  -- a chain that ends in u and in v: they are one
  pub ends_one : (p : Place) (u v : ℕ) → EndsIn 𝓜 s p u → EndsIn 𝓜 s p v → u ≡ v
  ends_one p u v x y = go (dec_lt x.steps y.steps) (dec_lt y.steps x.steps)
    where
      go : Dec (x.steps < y.steps) → Dec (y.steps < x.steps) → u ≡ v
      go (yes l) r = nowhere_at (sym (past_end p x.steps y.steps x.owner x.number x.there (ap named_by x.value) l) ∙ y.there)
      go (no l) (yes r) = nowhere_at (sym (past_end p y.steps x.steps y.owner y.number y.there (ap named_by y.value) r) ∙ x.there)
      go (no l) (no r) =
          let same : x.steps ≡ y.steps = omega arith in
          let here : ahead 𝓜 s y.steps p ≡ place x.owner x.number = ap (λ (n : ℕ). ahead 𝓜 s n p) (sym same) ∙ x.there in
          let ends = one_end y.steps p x.owner x.number y.owner y.number here y.there in
          let both : Val u x.caller ≡ Val v y.caller = sym x.value ∙ ends ∙ y.value in
          cc

  -- a place on a chain that ends in a value has no VAR for its end
  pub on_chain : (p : Place) (n v o e : ℕ) → EndsIn 𝓜 s p v → ahead 𝓜 s n p ≡ place o e → is_var (entry_end 𝓜 s o (entry 𝓜 s o e)) ≡ true → ⊥
  on_chain p n v o e x q var = go (dec_lt n x.steps) (dec_lt x.steps n)
    where
      go : Dec (n < x.steps) → Dec (x.steps < n) → ⊥
      go (yes l) r = nowhere_at (sym (past_end p n x.steps o e q (ap named_by (var_is (entry_end 𝓜 s o (entry 𝓜 s o e)) var).1) l) ∙ x.there)
      go (no l) (yes r) = nowhere_at (sym (past_end p x.steps n x.owner x.number x.there (ap named_by x.value) r) ∙ q)
      go (no l) (no r) =
          let same : n ≡ x.steps = omega arith in
          let here : ahead 𝓜 s x.steps p ≡ place o e = ap (λ (i : ℕ). ahead 𝓜 s i p) (sym same) ∙ q in
          absurd_bool var (ap is_var (one_end x.steps p o e x.owner x.number here x.there ∙ x.value))
