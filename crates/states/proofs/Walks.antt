-- Walks along ends and references: from nowhere, from a live entry, one after the other, and as the soundness test makes them. Assumes nothing.
use Rattle.std.specs.Prelude.{None, Some}
use Prim.Native.Nat.{ℕ, zero, suc, ◌+◌, ◌<◌}
use native.Mathlib.Nat.{zero-add, suc-add}
use native.Mathlib.Omega.{arith}
use mathlib.Core.Path.{◌≡◌, refl, ap, ◌∙◌}
use mathlib.Core.Bool.{Bool, true, false, cond}
use Rattle.numbers.specs.Below.{walk_meets}
use Rattle.numbers.specs.Tests.{absurd_bool}
use Rattle.tables.specs.Machine.{Machine, Tables}
use Rattle.tables.specs.Parts.{Holding, live, Place, place, named_by, is_at}
use Rattle.tables.specs.Look.{entry, end_kind}
use Rattle.states.specs.Chains.{through, follow, ahead, EndsIn}
use Rattle.states.proofs.Named.{eq_both, both_eq, nowhere_at, IsLive}

-- from nowhere no step leads on
pub ahead_nowhere : (𝓜 : Machine) (s : Tables) (n : ℕ) → ahead 𝓜 s n None ≡ None
unfolding ahead follow
ahead_nowhere 𝓜 s zero = refl
ahead_nowhere 𝓜 s (suc n) = ahead_nowhere 𝓜 s n

-- a live entry, taken apart, with what a step from it says
pub follow_live : (𝓜 : Machine) (s : Tables) (a b : ℕ) {d n : ℕ} {t : Bool} → entry 𝓜 s a b ≡ live d n t → follow 𝓜 s (place a b) ≡ named_by (end_kind 𝓜 s a d)
unfolding follow
follow_live 𝓜 s a b q = ap (through 𝓜 s a) q

-- where a step leads somewhere, it is from a live entry
pub follow_from : (𝓜 : Machine) (s : Tables) (a b o e : ℕ) → follow 𝓜 s (place a b) ≡ place o e → IsLive (entry 𝓜 s a b)
unfolding follow
follow_from 𝓜 s a b o e q = go (entry 𝓜 s a b) refl q
  where
    go : (x : Holding) → entry 𝓜 s a b ≡ x → through 𝓜 s a x ≡ place o e → IsLive (entry 𝓜 s a b)
    go None i p = nowhere_at p
    go (Some l) i p = record { cell = l.cell; weight = l.weight; tainted = l.tainted; is = i }

-- one walk after the other
pub ahead_add : (𝓜 : Machine) (s : Tables) (n k : ℕ) (p : Place) → ahead 𝓜 s (n + k) p ≡ ahead 𝓜 s k (ahead 𝓜 s n p)
unfolding ahead
ahead_add 𝓜 s zero k p = ap (λ (i : ℕ). ahead 𝓜 s i p) (zero-add k)
ahead_add 𝓜 s (suc n) k p = ap (λ (i : ℕ). ahead 𝓜 s i p) (suc-add n k) ∙ ahead_add 𝓜 s n k (follow 𝓜 s p)

pub ends_before : (𝓜 : Machine) (s : Tables) (n : ℕ) (p q : Place) (v : ℕ) → ahead 𝓜 s n p ≡ q → EndsIn 𝓜 s q v → EndsIn 𝓜 s p v
ends_before 𝓜 s n p q v h x =
    let there = ahead_add 𝓜 s n x.steps p ∙ ap (ahead 𝓜 s x.steps) h ∙ x.there in
    record { steps = n + x.steps; owner = x.owner; number = x.number; there = there; caller = x.caller; value = x.value }

-- a walk that meets a place is ahead of where it starts
pub walk_ahead : (𝓜 : Machine) (s : Tables) (o e n : ℕ) (p : Place) → walk_meets (is_at o e) (follow 𝓜 s) n p ≡ true
    → (k : ℕ) × (k < n) × (ahead 𝓜 s k p ≡ place o e)
unfolding walk_meets ahead
walk_ahead 𝓜 s o e zero p h = absurd_bool h refl
walk_ahead 𝓜 s o e (suc n) p h = go (is_at o e p) refl h (walk_ahead 𝓜 s o e n (follow 𝓜 s p))
  where
    at : (q : Place) → is_at o e q ≡ true → q ≡ place o e
    at None t = absurd_bool t refl
    at (Some p) t =
        let q = both_eq p.owner o p.entry e t in
        rw (q.0, q.1)

    go : (b : Bool) → is_at o e p ≡ b → cond b true (walk_meets (is_at o e) (follow 𝓜 s) n (follow 𝓜 s p)) ≡ true
        → (walk_meets (is_at o e) (follow 𝓜 s) n (follow 𝓜 s p) ≡ true → (k : ℕ) × (k < n) × (ahead 𝓜 s k (follow 𝓜 s p) ≡ place o e))
        → (k : ℕ) × (k < suc n) × (ahead 𝓜 s k p ≡ place o e)
    go true t m later = (0, omega arith, at p t)
    go false t m later =
        let r = later m in
        (suc r.0, omega (arith, r.1), r.2)

-- a place that is ahead is met by the walk
pub ahead_walk : (𝓜 : Machine) (s : Tables) (o e k n : ℕ) (p : Place) → k < n → ahead 𝓜 s k p ≡ place o e → walk_meets (is_at o e) (follow 𝓜 s) n p ≡ true
unfolding walk_meets ahead
ahead_walk 𝓜 s o e k zero p l h = absurd (omega arith)
ahead_walk 𝓜 s o e zero (suc n) p l h = rw (h, eq_both o e)
ahead_walk 𝓜 s o e (suc k) (suc n) p l h = go (is_at o e p) (ahead_walk 𝓜 s o e k n (follow 𝓜 s p) (omega arith) h)
  where
    go : (b : Bool) → walk_meets (is_at o e) (follow 𝓜 s) n (follow 𝓜 s p) ≡ true → cond b true (walk_meets (is_at o e) (follow 𝓜 s) n (follow 𝓜 s p)) ≡ true
    go true t = refl
    go false t = t
