-- All that holds of a reached state stays under a move that keeps and brings what it must. Assumes nothing.
use Rattle.std.specs.Prelude.{None, Some}
use Prim.Native.Nat.{ℕ, suc, ◌+◌, ◌<◌, ◌≤◌}
use native.Mathlib.Omega.{arith}
use mathlib.Core.Path.{◌≡◌, refl, sym, ap, ap₂, ◌∙◌}
use mathlib.Core.Bool.{Bool, true, false, ◌&&◌, not, cond}
use lib.Dec.{eqb}
use borrow.Author.Tests.{not-true}
use Rattle.numbers.specs.Tests.{absurd_bool, and_l, and_r, not_yes}
use Rattle.tables.specs.Machine.{Machine, Tables}
use Rattle.tables.specs.Parts.{Place, place, named_by, is_live, is_tainted}
use Rattle.tables.specs.Look.{entry, end_kind}
use Rattle.states.specs.Chains.{follow}
use Rattle.states.specs.Facts.{Facts, Reads}
use Rattle.states.proofs.Named.{the_live, both_eq, eq_both}
use Rattle.states.proofs.Derived.{live_fact, follow_place}
use Rattle.states.specs.Move.{Move, next, Keeps, ReadsOn, Carries, Makes, nothing, moved, Ranked, Invariant}
use Rattle.states.proofs.Next.{entry_stored}
use Rattle.states.proofs.Kept.{live_kept, facts_kept}
use Rattle.states.proofs.Walks.{follow_live}
use Rattle.states.proofs.Carried.{reads_kept, known_kept_all}
use Rattle.states.proofs.Rank.{safe_ex, good_named, ranked_by, Fits}

rank_at : (ℕ → ℕ → ℕ) → Place → ℕ
rank_at r None = 0
rank_at r (Some p) = r p.owner p.entry

module _ (𝓜 : Machine) (s : Tables) (h : Move) (F : Facts 𝓜 s) (K : Keeps 𝓜 s h) where
  abbrev s' : Tables
  s' = next 𝓜 s h

  -- a new entry that is tainted stands above what it leads to, an untainted one at its worker
  new_rank : (ℕ → ℕ → ℕ) → Bool → ℕ
  new_rank r tainted = cond tainted (suc (h.o + rank_at r (follow 𝓜 s' (place h.o h.e)))) h.o

  is_new : ℕ → ℕ → Bool
  is_new a b = not (is_live h.x₀) && (eqb h.o a && eqb h.e b)

  next_rank : (ℕ → ℕ → ℕ) → ℕ → ℕ → ℕ
  next_rank r a b = cond (is_new a b) (new_rank r (is_tainted h.x)) (r a b)

  agrees : (r : ℕ → ℕ → ℕ) (a b : ℕ) → is_live (entry 𝓜 s a b) ≡ true → next_rank r a b ≡ r a b
  unfolding next_rank is_new
  agrees r a b l = ap (λ (t : Bool). cond t (new_rank r (is_tainted h.x)) (r a b)) (not_yes old)
    where
      old : is_new a b ≡ true → ⊥
      old t =
          let dead = not-true (is_live h.x₀) (and_l (not (is_live h.x₀)) (eqb h.o a && eqb h.e b) t) in
          let q = both_eq h.o a h.e b (and_r (not (is_live h.x₀)) (eqb h.o a && eqb h.e b) t) in
          let here = ap₂ (entry 𝓜 s) (sym q.0) (sym q.1) ∙ K.placed.old_entry in
          absurd_bool l (ap is_live here ∙ dead)

  made : (r : ℕ → ℕ → ℕ) (R : Ranked 𝓜 s r) → is_live h.x₀ ≡ false → is_live h.x ≡ true → Fits 𝓜 s h F K r R (next_rank r) h.o h.e
  unfolding next_rank new_rank is_new rank_at
  made r R dead live =
      let new : is_new h.o h.e ≡ true = rw (dead, eq_both h.o h.e) in
      let is : next_rank r h.o h.e ≡ new_rank r (is_tainted h.x) = rw new in
      record {
        low = omega (arith, is, at_least (is_tainted h.x));
        own = λ u. is ∙ ap (new_rank r) (sym (ap is_tainted here) ∙ u);
        above = λ o e l q. omega (arith, is, above (is_tainted h.x) refl o e l q);
      }
    where
      here : entry 𝓜 s' h.o h.e ≡ h.x
      here = (entry_stored 𝓜 s h F.sized K.placed).here

      at_least : (t : Bool) → h.o ≤ new_rank r t
      at_least true = omega arith
      at_least false = omega arith

      above : (t : Bool) → is_tainted h.x ≡ t → (o e : ℕ) → is_live (entry 𝓜 s o e) ≡ true → follow 𝓜 s' (place h.o h.e) ≡ place o e → r o e < new_rank r t
      above true u o e l q = omega (arith, ap (rank_at r) q)
      above false u o e l q =
          let F' = facts_kept 𝓜 s h F K in
          let lv = the_live (entry 𝓜 s' h.o h.e) (ap is_live here ∙ live) in
          let end = end_kind 𝓜 s' h.o lv.cell in
          let names : named_by end ≡ place o e = sym (follow_live 𝓜 s' h.o h.e lv.is) ∙ q in
          let clean : lv.tainted ≡ false = sym (ap is_tainted lv.is) ∙ ap is_tainted here ∙ u in
          let good = (live_fact 𝓜 s' F' h.o h.e lv).3 clean in
          let z = safe_ex 𝓜 s' h.o o e end (good_named 𝓜 s' h.o o e end good names) names in
          let alive' = follow_place 𝓜 s' F' (place h.o h.e) o e q in
          omega (arith, z.0, R.own o e l (sym (live_kept 𝓜 s h F K o e l alive').1 ∙ z.1))

-- what a call makes of a sound state is sound, loops included,
pub facts_made : (𝓜 : Machine) (s t : Tables) → Facts 𝓜 s → Reads 𝓜 s → Makes 𝓜 s t → Facts 𝓜 t × Reads 𝓜 t
facts_made 𝓜 s t F reads (nothing) = (F, reads)
facts_made 𝓜 s t F reads (moved h K on C) = (facts_kept 𝓜 s h F K, reads_kept 𝓜 s h F K on reads)

-- and what it makes of a reached one keeps all that is true of those
pub invariant_kept : (𝓜 : Machine) (s : Tables) (h : Move) (I : Invariant 𝓜 s) → Keeps 𝓜 s h → ReadsOn 𝓜 s h → Carries 𝓜 s h → Invariant 𝓜 (next 𝓜 s h)
invariant_kept 𝓜 s h I K on C =
    let F = I.facts in
    record {
      facts = facts_kept 𝓜 s h F K;
      reads = reads_kept 𝓜 s h F K on I.reads;
      known = known_kept_all 𝓜 s h F K C I.known;
      rank = next_rank 𝓜 s h F K I.rank;
      ranked = ranked_by 𝓜 s h F K I.rank I.ranked (next_rank 𝓜 s h F K I.rank) (agrees 𝓜 s h F K I.rank) (made 𝓜 s h F K I.rank I.ranked);
    }

pub invariant_made : (𝓜 : Machine) (s t : Tables) → Invariant 𝓜 s → Makes 𝓜 s t → Invariant 𝓜 t
invariant_made 𝓜 s t I (nothing) = I
invariant_made 𝓜 s t I (moved h K on C) = invariant_kept 𝓜 s h I K on (C I.known)

-- where the move makes no entry, the rank itself stays
pub rank_kept : (𝓜 : Machine) (s : Tables) (h : Move) (F : Facts 𝓜 s) (K : Keeps 𝓜 s h) (r : ℕ → ℕ → ℕ) → Ranked 𝓜 s r
    → (is_live h.x ≡ true → is_live h.x₀ ≡ true) → Ranked 𝓜 (next 𝓜 s h) r
rank_kept 𝓜 s h F K r R old = ranked_by 𝓜 s h F K r R r (λ a b l. refl) (λ dead live. absurd_bool (old live) dead)
