-- The end of a live entry's cell: a VAR or a VAL, or an EX that leads on. Assumes nothing.
use Prim.Native.Nat.{ℕ}
use mathlib.Core.Path.{◌≡◌, refl, sym, ap, subst, ◌∙◌}
use mathlib.Core.Bool.{true, false, ◌||◌}
use borrow.Author.Tests.{eq-eqb}
use Rattle.numbers.specs.Tests.{absurd_bool}
use Rattle.tables.specs.declared.Kind.{Kind}
use Rattle.tables.specs.declared.Kind.TheVariants.{Free, Var, Val, Ref, Ex}
use Rattle.tables.specs.Machine.{Machine, Tables}
use Rattle.tables.specs.Parts.{Holding, place, is_free, is_var, is_val, is_ex, named_by, end_from, is_live, entry_names, cell_of}
use Rattle.tables.specs.Look.{cell, entry, end, end_kind}
use Rattle.states.specs.Chains.{entry_end, follow}
use Rattle.states.specs.Facts.{Facts}
use Rattle.states.proofs.Named.{the_ex, the_live}
use Rattle.states.proofs.Walks.{follow_live}
use Rattle.states.proofs.Derived.{live_fact, cell_fact}
use Rattle.states.proofs.Kept.{end_self, end_ref}
use Rattle.std.specs.Prelude.{None, Some}

abbrev pub VarOrVal : Kind → Type 0
VarOrVal k = (is_var k || is_val k) ≡ true

pub data EndIs (k : Kind) : Type 0 where
  plain : VarOrVal k → EndIs k
  leads : (a b : ℕ) → named_by k ≡ place a b → EndIs k

module _ (𝓜 : Machine) (s : Tables) (F : Facts 𝓜 s) where
  pub end_is : (o d : ℕ) → is_free (cell 𝓜 s o d) ≡ false → EndIs (end_kind 𝓜 s o d)
  end_is o d nf = go (cell 𝓜 s o d) refl nf
    where
      ex_end : (k : Kind) → is_ex k ≡ true → EndIs k
      ex_end k t =
          let x = the_ex k t in
          leads x.owner x.entry (ap named_by x.is)

      go : (k : Kind) → cell 𝓜 s o d ≡ k → is_free k ≡ false → EndIs (end_kind 𝓜 s o d)
      go Free q t = absurd_bool refl t
      go (Var caller) q t = plain (ap (λ (k : Kind). is_var k || is_val k) (end_self 𝓜 s o d (Var caller) q refl))
      go (Val n caller) q t = plain (ap (λ (k : Kind). is_var k || is_val k) (end_self 𝓜 s o d (Val n caller) q refl))
      go (Ref y) q t = ex_end (end_kind 𝓜 s o d) (ap is_ex (end_ref 𝓜 s o d y q) ∙ (cell_fact 𝓜 s F o d q).1)
      go (Ex a b n st w) q t = ex_end (end_kind 𝓜 s o d) (ap is_ex (end_self 𝓜 s o d (Ex a b n st w) q refl))

  pub entry_end_is : (o e : ℕ) → is_live (entry 𝓜 s o e) ≡ true → EndIs (entry_end 𝓜 s o (entry 𝓜 s o e))
  entry_end_is o e t =
      let l = the_live (entry 𝓜 s o e) t in
      subst EndIs (sym (ap (entry_end 𝓜 s o) l.is)) (end_is o l.cell (live_fact 𝓜 s F o e l).2)

  -- a step from a live entry whose end names another
  pub entry_leads : (o e a b : ℕ) → is_live (entry 𝓜 s o e) ≡ true → named_by (entry_end 𝓜 s o (entry 𝓜 s o e)) ≡ place a b → follow 𝓜 s (place o e) ≡ place a b
  entry_leads o e a b t q =
      let l = the_live (entry 𝓜 s o e) t in
      follow_live 𝓜 s o e l.is
      ∙ sym (ap (λ x. named_by (entry_end 𝓜 s o x)) l.is)
      ∙ q

  -- ---- a cell that has a VAR or a VAL as its end is that VAR or VAL itself
  pub own_end : (o d : ℕ) → VarOrVal (end_kind 𝓜 s o d) → end 𝓜 s o d ≡ d
  unfolding end
  own_end o d t = go (cell 𝓜 s o d) refl
    where
      go : (k : Kind) → cell 𝓜 s o d ≡ k → end_from k d ≡ d
      go Free q = refl
      go (Var caller) q = refl
      go (Val n caller) q = refl
      go (Ref y) q =
          let x = the_ex (end_kind 𝓜 s o d) (ap is_ex (end_ref 𝓜 s o d y q) ∙ (cell_fact 𝓜 s F o d q).1) in
          absurd_bool t (ap (λ (k : Kind). is_var k || is_val k) x.is)
      go (Ex a b n st w) q = refl

  pub own_context : (a b : ℕ) → is_live (entry 𝓜 s a b) ≡ true → VarOrVal (entry_end 𝓜 s a (entry 𝓜 s a b))
      → (entry_names (cell_of (entry 𝓜 s a b)) (entry 𝓜 s a b) ≡ true) × VarOrVal (cell 𝓜 s a (cell_of (entry 𝓜 s a b)))
  unfolding end_kind
  own_context a b live = go (entry 𝓜 s a b) live
    where
      go : (x : Holding) → is_live x ≡ true → VarOrVal (entry_end 𝓜 s a x) → (entry_names (cell_of x) x ≡ true) × VarOrVal (cell 𝓜 s a (cell_of x))
      go None l t = absurd_bool l refl
      go (Some x) l t = (eq-eqb x.cell x.cell refl, subst (λ (y : ℕ). VarOrVal (cell 𝓜 s a y)) (own_end a x.cell t) t)
