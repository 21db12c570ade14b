-- No loops: the rank falls with each step before a move, and after it, a new entry getting a rank of its own. Assumes nothing.
use Prim.Native.Nat.{ℕ, ◌<◌, ◌≤◌}
use native.Mathlib.Omega.{arith}
use mathlib.Core.Path.{◌≡◌, refl, sym, ap, ◌∙◌}
use mathlib.Core.Bool.{true, false, ◌&&◌, not}
use mathlib.Core.Logic.{◌⊎◌, inl, inr, ⊎_elim}
use lib.Dec.{ltb}
use borrow.Author.Tests.{ltb-true, not-true}
use Rattle.numbers.specs.Tests.{or_else, and_l, and_r}
use Rattle.tables.specs.declared.Kind.{Kind}
use Rattle.tables.specs.Machine.{Machine, Tables}
use Rattle.tables.specs.Parts.{place, is_ex, named_by, is_live, is_tainted}
use Rattle.tables.specs.Look.{cell, entry, end, end_kind, safe}
use Rattle.states.specs.Chains.{follow}
use Rattle.states.specs.Sound.{var_val_or_safe}
use Rattle.states.specs.Facts.{Facts}
use Rattle.states.proofs.Named.{named_ex, the_live, IsLive}
use Rattle.states.proofs.Derived.{named_place, follow_place, cell_fact}
use Rattle.states.specs.Move.{Move, next, Keeps, Ranked}
use Rattle.states.proofs.Stored.{stored_each}
use Rattle.states.proofs.Next.{entry_stored}
use Rattle.states.proofs.Kept.{good_ex, live_kept, facts_kept}
use Rattle.states.proofs.Walks.{follow_live, follow_from}
use Rattle.states.proofs.Onward.{live_exported, after_live, end_kept, EndKept, as_before, newly_bound}

-- a safe EX names an untainted entry of a lower worker
pub safe_ex : (𝓜 : Machine) (s : Tables) (v o e : ℕ) (k : Kind) → safe 𝓜 s v k ≡ true → named_by k ≡ place o e → (o < v) × (is_tainted (entry 𝓜 s o e) ≡ false)
unfolding safe
safe_ex 𝓜 s v o e k t q =
    let x = named_ex o e k q in
    let both : (ltb o v && not (is_tainted (entry 𝓜 s o e))) ≡ true = sym (ap (safe 𝓜 s v) x.is) ∙ t in
    let below = ltb-true o v (and_l (ltb o v) (not (is_tainted (entry 𝓜 s o e))) both) in
    (below, not-true (is_tainted (entry 𝓜 s o e)) (and_r (ltb o v) (not (is_tainted (entry 𝓜 s o e))) both))

-- an end that names an entry, and is a VAR, a VAL or safe, is safe
pub good_named : (𝓜 : Machine) (s : Tables) (v o e : ℕ) (k : Kind) → var_val_or_safe 𝓜 s v k ≡ true → named_by k ≡ place o e → safe 𝓜 s v k ≡ true
good_named 𝓜 s v o e k t q = good_ex 𝓜 s v k (ap is_ex (named_ex o e k q).is) t

-- an EX of a worker names an entry of another
named_other : (𝓜 : Machine) (s : Tables) (F : Facts 𝓜 s) (v d o e : ℕ) → named_by (cell 𝓜 s v d) ≡ place o e → o ≡ v → ⊥
named_other 𝓜 s F v d o e q w =
    let x = named_ex o e (cell 𝓜 s v d) q in
    (cell_fact 𝓜 s F v d x.is).1 w

module _ (𝓜 : Machine) (s : Tables) (h : Move) (F : Facts 𝓜 s) (K : Keeps 𝓜 s h) (r : ℕ → ℕ → ℕ) (R : Ranked 𝓜 s r) where
  abbrev s' : Tables
  s' = next 𝓜 s h

  F' : Facts 𝓜 s'
  F' = facts_kept 𝓜 s h F K

  -- a step after the move from an entry that was there before
  old_step : (a b o e : ℕ) → is_live (entry 𝓜 s a b) ≡ true → follow 𝓜 s' (place a b) ≡ place o e → (is_live (entry 𝓜 s o e) ≡ true) × (r o e < r a b)
  old_step a b o e t q =
      let l = the_live (entry 𝓜 s a b) t in
      let now = follow_from 𝓜 s' a b o e q in
      let l' = after_live 𝓜 s h F K a b l (ap is_live now.is) in
      let x = live_exported 𝓜 s h F K a b l in
      let names : named_by (end_kind 𝓜 s' a l.cell) ≡ place o e = sym (follow_live 𝓜 s' a b l'.2) ∙ q in
      go l.cell (follow_live 𝓜 s a b l.is) names (end_kept 𝓜 s h F K a l.cell x.0 x.1)
    where
      go : (d : ℕ) → follow 𝓜 s (place a b) ≡ named_by (end_kind 𝓜 s a d) → named_by (end_kind 𝓜 s' a d) ≡ place o e → EndKept 𝓜 s h F K a d
          → (is_live (entry 𝓜 s o e) ≡ true) × (r o e < r a b)
      go d was names (as_before p v) =
          let step : follow 𝓜 s (place a b) ≡ place o e = was ∙ sym p ∙ names in
          (follow_place 𝓜 s F (place a b) o e step, R.falls a b o e step)
      go d was names (newly_bound y caller i p safe_y) =
          let named : named_by (cell 𝓜 s a y) ≡ place o e = sym (ap named_by p) ∙ names in
          let z = safe_ex 𝓜 s a o e (cell 𝓜 s a y) safe_y named in
          let alive = named_place 𝓜 s F a y o e named in
          (alive, omega (arith, R.own o e alive z.1, R.low a b t, z.0))

  -- the rank r' is right for the entry b of worker a after the move, by what r says of the entries that were there
  pub record Fits (r' : ℕ → ℕ → ℕ) (a b : ℕ) : Type 0 where
    pub low : a ≤ r' a b
    pub own : is_tainted (entry 𝓜 s' a b) ≡ false → r' a b ≡ a
    pub above : (o e : ℕ) → is_live (entry 𝓜 s o e) ≡ true → follow 𝓜 s' (place a b) ≡ place o e → r o e < r' a b

  -- an entry that is live after the move was live before, or is the one that the move made
  abbrev OldOrNew : (ℕ → ℕ → ℕ) → ℕ → ℕ → Type 0
  OldOrNew r' a b = (is_live (entry 𝓜 s a b) ≡ true) ⊎ ((h.o ≡ a) × Fits r' a b)

  -- a rank that agrees on the entries that were there, and is right for the one that the move made
  pub ranked_by : (r' : ℕ → ℕ → ℕ) → ((a b : ℕ) → is_live (entry 𝓜 s a b) ≡ true → r' a b ≡ r a b)
      → (is_live h.x₀ ≡ false → is_live h.x ≡ true → Fits r' h.o h.e) → Ranked 𝓜 s' r'
  unfolding end_kind
  ranked_by r' agree made =
      record {
        low = λ a b t. low a b (old_or_new a b t);
        own = λ a b t u. own a b t u (old_or_new a b t);
        falls = λ a b o e q. falls a b o e q (old_or_new a b (ap is_live (follow_from 𝓜 s' a b o e q).is));
      }
    where
      old_or_new : (a b : ℕ) → is_live (entry 𝓜 s' a b) ≡ true → OldOrNew r' a b
      old_or_new =
          stored_each (entry_stored 𝓜 s h F.sized K.placed) (λ a b x y. is_live y ≡ true → (is_live x ≡ true) ⊎ ((h.o ≡ a) × Fits r' a b))
          (λ t. ⊎_elim inl (λ dead. inr (refl, made dead t)) (or_else (is_live h.x₀)))
          (λ a b f t. inl t)

      low : (a b : ℕ) → OldOrNew r' a b → a ≤ r' a b
      low a b (inl l) = omega (arith, R.low a b l, agree a b l)
      low a b (inr n) = n.1.low

      own : (a b : ℕ) → is_live (entry 𝓜 s' a b) ≡ true → is_tainted (entry 𝓜 s' a b) ≡ false → OldOrNew r' a b → r' a b ≡ a
      own a b t u (inl l) = agree a b l ∙ R.own a b l (sym (live_kept 𝓜 s h F K a b l t).1 ∙ u)
      own a b t u (inr n) = n.1.own u

      falls : (a b o e : ℕ) → follow 𝓜 s' (place a b) ≡ place o e → OldOrNew r' a b → r' o e < r' a b
      falls a b o e q (inl l) =
          let z = old_step a b o e l q in
          omega (arith, agree a b l, agree o e z.0, z.1)
      falls a b o e q (inr n) =
          let alive = other (old_or_new o e (follow_place 𝓜 s' F' (place a b) o e q)) (follow_from 𝓜 s' a b o e q) in
          omega (arith, agree o e alive, n.1.above o e alive q)
        where
          -- it leads to an entry of another worker
          other : OldOrNew r' o e → IsLive (entry 𝓜 s' a b) → is_live (entry 𝓜 s o e) ≡ true
          other (inl l) from = l
          other (inr y) from =
              let named = sym (follow_live 𝓜 s' a b from.is) ∙ q in
              absurd (named_other 𝓜 s' F' a (end 𝓜 s' a from.cell) o e named (sym y.0 ∙ n.0))
