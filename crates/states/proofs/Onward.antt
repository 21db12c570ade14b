-- What a move keeps of chains: a step from an entry that is live before and after stays, an end that is a value stays, and a new step leads
-- from a VAR that was bound to a safe EX, or from a new entry. Assumes nothing.
use Rattle.std.specs.Prelude.{None, Some}
use Prim.Native.Nat.{ℕ, zero, suc}
use native.Mathlib.Omega.{arith}
use mathlib.Core.Path.{◌≡◌, refl, sym, ap, subst, ◌∙◌}
use mathlib.Core.Bool.{Bool, true, false}
use borrow.Author.Tests.{eq-eqb}
use Rattle.numbers.specs.Tests.{absurd_bool}
use Rattle.tables.specs.declared.Kind.{Kind}
use Rattle.tables.specs.declared.Kind.TheVariants.{Free, Var, Val, Ref, Ex}
use Rattle.tables.specs.Machine.{Machine, Tables}
use Rattle.tables.specs.Parts.{Holding, live, Place, place, is_free, is_var, is_ex, named_by, is_live, entry_names, cell_of}
use Rattle.tables.specs.Look.{cell, entry, end_kind, safe, exported}
use Rattle.states.specs.Chains.{entry_end, follow, ahead, EndsIn}
use Rattle.states.specs.Facts.{Facts}
use Rattle.states.proofs.Named.{nowhere_at, the_live, IsLive}
use Rattle.states.proofs.Walks.{ahead_nowhere, follow_live, follow_from}
use Rattle.states.proofs.Busy.{exported_by}
use Rattle.states.proofs.Derived.{live_fact, LivePlace, follow_place, ahead_place, cell_fact}
use Rattle.states.specs.Move.{Move, next, Keeps}
use Rattle.states.proofs.Kept.{shown_name, var_val_end, exported-shown, referred_shown, ex_after, VarAfter, var_or_val, ref_to_safe, var_after, live_kept, end_ref, end_self, facts_kept, exported_same}

module _ (𝓜 : Machine) (s : Tables) (h : Move) (F : Facts 𝓜 s) (K : Keeps 𝓜 s h) where
  abbrev s' : Tables
  s' = next 𝓜 s h

  F' : Facts 𝓜 s'
  F' = facts_kept 𝓜 s h F K

  -- ---- the end of an exported cell, before and after
  pub data EndKept (v d : ℕ) : Type 0 where
    -- the same value, the same reference, or a VAR that is still one, or has its value
    as_before : named_by (end_kind 𝓜 s' v d) ≡ named_by (end_kind 𝓜 s v d)
        → ((n caller : ℕ) → end_kind 𝓜 s v d ≡ Val n caller → end_kind 𝓜 s' v d ≡ Val n caller) → EndKept v d
    -- a VAR that is bound to a safe EX
    newly_bound : (y caller : ℕ) → cell 𝓜 s v d ≡ Var caller → end_kind 𝓜 s' v d ≡ cell 𝓜 s v y → safe 𝓜 s v (cell 𝓜 s v y) ≡ true → EndKept v d

  var_end : (v d : ℕ) → exported 𝓜 s v d ≡ true → (caller : ℕ) → cell 𝓜 s v d ≡ Var caller → EndKept v d
  var_end v d x caller q = go (cell 𝓜 s' v d) refl (var_after 𝓜 s h F K v d x caller q)
    where
      was : end_kind 𝓜 s v d ≡ Var caller
      was = end_self 𝓜 s v d (Var caller) q refl

      go : (k : Kind) → cell 𝓜 s' v d ≡ k → VarAfter 𝓜 s h F K v k → EndKept v d
      go k i (var_or_val t) =
          let r = var_val_end k d t in
          as_before (ap named_by (end_self 𝓜 s' v d k i r.1) ∙ r.2 ∙ sym (ap named_by was))
          (λ n a p. let z : ◌≡◌ {A = ℕ} 0 1 = cc was in absurd (omega arith))
      go k i (ref_to_safe y e same t) = newly_bound y caller q (end_ref 𝓜 s' v d y (i ∙ e) ∙ same) t

  pub end_kept : (v d : ℕ) → exported 𝓜 s v d ≡ true → is_free (cell 𝓜 s v d) ≡ false → EndKept v d
  end_kept v d x nf = go (cell 𝓜 s v d) refl nf
    where
      go : (k : Kind) → cell 𝓜 s v d ≡ k → is_free k ≡ false → EndKept v d
      go Free q t = absurd_bool refl t
      go (Var caller) q t = var_end v d x caller q
      go (Val n caller) q t =
          let here = exported_same 𝓜 s h F K v d (Val n caller) x q refl refl in
          let now = end_self 𝓜 s' v d (Val n caller) here refl in
          let was = end_self 𝓜 s v d (Val n caller) q refl in
          as_before (ap named_by (now ∙ sym was)) (λ m a p. now ∙ sym was ∙ p)
      go (Ref y) q t =
          let here = exported_same 𝓜 s h F K v d (Ref y) x q refl refl in
          let f = cell_fact 𝓜 s F v d q in
          let now = end_ref 𝓜 s' v d y here in
          let was = end_ref 𝓜 s v d y q in
          let same = shown_name None (λ owner entr. place owner entr) (cell 𝓜 s' v y) (cell 𝓜 s v y) (referred_shown 𝓜 s h F K v d y q f.1) in
          as_before (ap named_by now ∙ same ∙ sym (ap named_by was)) (λ n a p. absurd_bool f.1 (ap is_ex (sym was ∙ p)))
      go (Ex o e n st a) q t =
          let x' = ex_after 𝓜 s h F K v d q (exported-shown 𝓜 s h F K v d x (ap is_var q)) in
          let was = end_self 𝓜 s v d (Ex o e n st a) q refl in
          let now = end_self 𝓜 s' v d (Ex o e x'.weight x'.status x'.asking) x'.is refl in
          as_before (ap named_by now ∙ sym (ap named_by was)) (λ m b p. let z : ◌≡◌ {A = ℕ} 0 1 = cc in absurd (omega arith))

  -- ---- steps
  -- a live entry's exported cell is not free
  pub live_exported : (a b : ℕ) (l : IsLive (entry 𝓜 s a b)) → (exported 𝓜 s a l.cell ≡ true) × (is_free (cell 𝓜 s a l.cell) ≡ false)
  live_exported a b l =
      (exported_by 𝓜 s a l.cell b (ap (entry_names l.cell) l.is ∙ eq-eqb l.cell l.cell refl), (live_fact 𝓜 s F a b l).2)

  -- an entry that is live before and after, taken apart: the same cell
  pub after_live : (a b : ℕ) (l : IsLive (entry 𝓜 s a b)) → is_live (entry 𝓜 s' a b) ≡ true
      → (n : ℕ) × (t : Bool) × (entry 𝓜 s' a b ≡ live l.cell n t)
  after_live a b l t =
      let l' = the_live (entry 𝓜 s' a b) t in
      let r = live_kept 𝓜 s h F K a b (ap is_live l.is) t in
      let same : l'.cell ≡ l.cell = sym (ap cell_of l'.is) ∙ r.0 ∙ ap cell_of l.is in
      (l'.weight, l'.tainted, l'.is ∙ ap (λ (y : ℕ). live y l'.weight l'.tainted) same)

  -- a step stays
  pub follow_kept : (a b o e : ℕ) → follow 𝓜 s (place a b) ≡ place o e → is_live (entry 𝓜 s' a b) ≡ true → follow 𝓜 s' (place a b) ≡ place o e
  follow_kept a b o e q t =
      let l = follow_from 𝓜 s a b o e q in
      let l' = after_live a b l t in
      let x = live_exported a b l in
      let was : named_by (end_kind 𝓜 s a l.cell) ≡ place o e = sym (follow_live 𝓜 s a b l.is) ∙ q in
      let now = follow_live 𝓜 s' a b l'.2 in
      now ∙ go l.cell was (end_kept a l.cell x.0 x.1)
    where
      go : (d : ℕ) → named_by (end_kind 𝓜 s a d) ≡ place o e → EndKept a d → named_by (end_kind 𝓜 s' a d) ≡ place o e
      go d was (as_before p v) = p ∙ was
      go d was (newly_bound y caller i p v) = nowhere_at (sym (ap named_by (end_self 𝓜 s a d (Var caller) i refl)) ∙ was)

  -- and so does a walk from a place that is live after the move
  pub ahead_kept : (n : ℕ) (p : Place) (o e : ℕ) → LivePlace 𝓜 s' p → ahead 𝓜 s n p ≡ place o e → ahead 𝓜 s' n p ≡ place o e
  unfolding ahead follow
  ahead_kept zero p o e l q = q
  ahead_kept (suc n) None o e l q = nowhere_at (sym (ahead_nowhere 𝓜 s n) ∙ q)
  ahead_kept (suc n) (Some p) o e l q = go (follow 𝓜 s (Some p)) refl (ahead_kept n (follow 𝓜 s (Some p)) o e)
    where
      go : (r : Place) → follow 𝓜 s (Some p) ≡ r
          → (LivePlace 𝓜 s' (follow 𝓜 s (Some p)) → ahead 𝓜 s n (follow 𝓜 s (Some p)) ≡ place o e → ahead 𝓜 s' n (follow 𝓜 s (Some p)) ≡ place o e)
          → ahead 𝓜 s' n (follow 𝓜 s' (Some p)) ≡ place o e
      go None i rec = nowhere_at (sym (ahead_nowhere 𝓜 s n) ∙ sym (ap (ahead 𝓜 s n) i) ∙ q)
      go (Some r) i rec =
          let kept = follow_kept p.owner p.entry r.owner r.entry i (l p.owner p.entry refl) in
          let same : follow 𝓜 s' (Some p) ≡ follow 𝓜 s (Some p) = kept ∙ sym i in
          ap (ahead 𝓜 s' n) same
          ∙ rec (subst (LivePlace 𝓜 s') same (follow_place 𝓜 s' F' (Some p))) q

  -- a chain that ends in a value goes on to
  pub ends_kept : (p : Place) (v : ℕ) → LivePlace 𝓜 s' p → EndsIn 𝓜 s p v → EndsIn 𝓜 s' p v
  ends_kept p v l x =
      let there = ahead_kept x.steps p x.owner x.number l x.there in
      let alive = ahead_place 𝓜 s' F' x.steps p l x.owner x.number there in
      let value = go (entry 𝓜 s x.owner x.number) refl x.value alive in
      record { steps = x.steps; owner = x.owner; number = x.number; there = there; caller = x.caller; value = value }
    where
      go : (y : Holding) → entry 𝓜 s x.owner x.number ≡ y → entry_end 𝓜 s x.owner y ≡ Val v x.caller
          → is_live (entry 𝓜 s' x.owner x.number) ≡ true
          → entry_end 𝓜 s' x.owner (entry 𝓜 s' x.owner x.number) ≡ Val v x.caller
      go None i q t = let z : ◌≡◌ {A = ℕ} 0 1 = cc in absurd (omega arith)
      go (Some l) i q t =
          let lv : IsLive (entry 𝓜 s x.owner x.number) = record { cell = l.cell; weight = l.weight; tainted = l.tainted; is = i } in
          let l' = after_live x.owner x.number lv t in
          let r = live_exported x.owner x.number lv in
          ap (entry_end 𝓜 s' x.owner) l'.2 ∙ value (end_kept x.owner l.cell r.0 r.1)
        where
          value : EndKept x.owner l.cell → end_kind 𝓜 s' x.owner l.cell ≡ Val v x.caller
          value (as_before p w) = w v x.caller q
          value (newly_bound y caller j p w) =
              let was = end_self 𝓜 s x.owner l.cell (Var caller) j refl in
              let z : ◌≡◌ {A = ℕ} 0 1 = cc was in
              absurd (omega arith)
