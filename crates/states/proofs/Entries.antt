-- A move of an entry and a slot leaves every cell and every end as it was. Assumes nothing.
use Prim.Native.Nat.{ℕ, ◌≤◌}
use mathlib.Core.Path.{◌≡◌, refl, sym, ap, ◌∙◌}
use mathlib.Core.Bool.{Bool, true, false, ◌&&◌, not}
use lib.Dec.{ltb}
use Rattle.tables.specs.declared.Kind.{Kind}
use Rattle.tables.specs.declared.Kind.TheVariants.{Free, Var, Val, Ref, Ex}
use Rattle.tables.specs.declared.Message.{Message}
use Rattle.tables.specs.Machine.{Machine, Tables}
use Rattle.tables.specs.Parts.{Holding, live, is_free, is_tainted, end_from}
use Rattle.tables.specs.Look.{cell, entry, end, end_kind, safe}
use Rattle.states.specs.Sound.{var_val_or_safe}
use Rattle.states.specs.Facts.{CellFact, EntryFact, Facts}
use Rattle.states.specs.Move.{Move, next, Placed}
use Rattle.states.proofs.Stored.{stored_each}
use Rattle.states.proofs.Next.{cell_stored, entry_stored}
use Rattle.states.proofs.Moves.{entry_move}

module _ (𝓜 : Machine) (s : Tables) (F : Facts 𝓜 s) {o e : ℕ} {x₀ x : Holding} {i : ℕ} {m₀ m : Message} (P : Placed 𝓜 s (entry_move 𝓜 s o e x₀ x i m₀ m)) where
  -- the move, and the tables after it
  abbrev h : Move
  h = entry_move 𝓜 s o e x₀ x i m₀ m

  abbrev s' : Tables
  s' = next 𝓜 s h

  pub cells_same : (v d : ℕ) → cell 𝓜 s' v d ≡ cell 𝓜 s v d
  cells_same = stored_each (cell_stored 𝓜 s h F.sized P) (λ v d y z. z ≡ y) refl (λ v d f. refl)

  end_same : (v d : ℕ) → end_kind 𝓜 s' v d ≡ end_kind 𝓜 s v d
  unfolding end_kind end
  end_same v d =
      cells_same v (end_from (cell 𝓜 s' v d) d)
      ∙ ap (λ (k : Kind). cell 𝓜 s v (end_from k d)) (cells_same v d)

  good_same : (k : Kind) → CellFact 𝓜 s o k → var_val_or_safe 𝓜 s o k ≡ true → var_val_or_safe 𝓜 s' o k ≡ true
  unfolding safe
  good_same Free f t = t
  good_same (Var caller) f t = refl
  good_same (Val n caller) f t = refl
  good_same (Ref d) f t = t
  good_same (Ex o' e' n st a) f t =
      ap (λ (y : Holding). ltb o' o && not (is_tainted y)) ((entry_stored 𝓜 s h F.sized P).there o' e' (λ p q. f.1 (sym p))) ∙ t

  -- what an entry must have, from what holds before
  pub entry_next : (d n : ℕ) (t : Bool) → n ≤ 𝓜.ceiling → 1 ≤ n → is_free (cell 𝓜 s o d) ≡ false
      → (t ≡ false → var_val_or_safe 𝓜 s o (end_kind 𝓜 s o d) ≡ true) → EntryFact 𝓜 s' o (live d n t)
  unfolding end_kind
  entry_next d n t a b nf good = (
    a,
    b,
    ap is_free (cells_same o d) ∙ nf,
    (λ u. ap (var_val_or_safe 𝓜 s' o) (end_same o d) ∙ good_same (end_kind 𝓜 s o d) (F.cells o (end 𝓜 s o d)) (good u)),
  )

  -- where the entry stays as it is, every entry does
  pub entries_same : x ≡ x₀ → (v f : ℕ) → entry 𝓜 s' v f ≡ entry 𝓜 s v f
  entries_same q = stored_each (entry_stored 𝓜 s h F.sized P) (λ v f y z. z ≡ y) q (λ v f t. refl)
