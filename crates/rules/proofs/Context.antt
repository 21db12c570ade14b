-- A reference keeps its context: what refers to an entry refers to a live one, and a move that keeps callers leaves what a live entry leads to.
-- Assumes nothing.
use Prim.Native.Nat.{ℕ, ◌≤◌}
use native.Mathlib.Omega.{arith}
use mathlib.Core.Path.{◌≡◌, refl, sym, ap, ap₂, subst, ◌∙◌}
use mathlib.Core.Bool.{Bool, true, ◌&&◌, ◌||◌, cond}
use mathlib.Core.Logic.{◌⊎◌, inl, inr, ⊎_elim}
use native.Mathlib.Decide.{ℕ_discrete}
use lib.Dec.{eqb}
use borrow.Author.Tests.{eq-eqb, eqb-true}
use Rattle.numbers.specs.Tests.{absurd_bool}
use Rattle.tables.specs.declared.Kind.{Kind}
use Rattle.tables.specs.declared.Kind.TheVariants.{Free, Var, Val, Ref, Ex}
use Rattle.tables.specs.declared.Message.{Message}
use Rattle.tables.specs.declared.Message.TheVariants.{Empty, Reference, Release, Read, Answer, Ask, Supply}
use Rattle.tables.specs.Machine.{Machine, Tables}
use Rattle.tables.specs.Parts.{Holding, place, is_free, is_var, is_val, has_caller, ex_names, is_live, entry_names, cell_of}
use Rattle.tables.specs.Look.{cell, entry, exported, message}
use Rattle.states.specs.Chains.{ahead, LeadsTo}
use Rattle.states.specs.Sound.{message_holds}
use Rattle.states.specs.Facts.{MessageFact, Facts, Reads}
use Rattle.states.specs.Move.{Move, next, ReferenceGoes, Keeps, Makes, nothing, moved}
use Rattle.rules.specs.Statements.{message_names, Gone, home, away, KeepsCallers, Continues, as_it_was, given_a_value, bound_to_ref, KeepsContext}
use Rattle.states.proofs.Named.{the_live, the_entry_of, names_live_entry, both_eq, eq_both}
use Rattle.states.proofs.Busy.{exported_by}
use Rattle.states.proofs.Derived.{live_fact, held_live, sent_held, names_live, LivePlace, live_place, ahead_place, read_live}
use Rattle.states.proofs.Kept.{VarAfter, var_or_val, ref_to_safe, var_after, live_kept, facts_kept, exported_same}
use Rattle.states.proofs.Next.{cell_stored, slot_here, slot_other}
use Rattle.states.proofs.Onward.{ahead_kept}

module _ (𝓜 : Machine) (s : Tables) (F : Facts 𝓜 s) where
  -- ---- the entry that a message names is live
  -- a weight under way is held on its entry
  sent_live : (k o e n : ℕ) (m : Message) → message s k ≡ m → 1 ≤ n → message_holds 𝓜 s o e m ≡ cond (eqb o o && eqb e e) n 0 → is_live (entry 𝓜 s o e) ≡ true
  sent_live k o e n m q some holds =
      held_live 𝓜 s F.weighed o e
      (omega (arith, sent_held 𝓜 s k o e n m q (holds ∙ ap (λ (t : Bool). cond t n 0) (eq_both o e))))

  pub message_live : Reads 𝓜 s → (k o e : ℕ) → message_names o e (message s k) ≡ true → is_live (entry 𝓜 s o e) ≡ true
  message_live reads k o e h = go (message s k) refl h (F.messages k)
    where
      -- the worker and the number that it names are o and e
      here : (a b : ℕ) → (eqb a o && eqb b e) ≡ true → is_live (entry 𝓜 s a b) ≡ true → is_live (entry 𝓜 s o e) ≡ true
      here a b t l = let q = both_eq a o b e t in sym (ap is_live (ap₂ (entry 𝓜 s) q.0 q.1)) ∙ l

      go : (m : Message) → message s k ≡ m → message_names o e m ≡ true → MessageFact 𝓜 s m → is_live (entry 𝓜 s o e) ≡ true
      go Empty q t f = absurd_bool t refl
      go (Reference to a b n) q t f = here a b t (sent_live k a b n (Reference to a b n) q f.1 refl)
      go (Release a b n) q t f = here a b t (sent_live k a b n (Release a b n) q f refl)
      go (Read r c a b) q t f = here a b t (read_live 𝓜 s F reads k r c a b q)
      go (Answer r c v) q t f = absurd_bool t refl
      go (Ask x c a b) q t f = here a b t (names_live 𝓜 s F x c a b f)
      go (Supply x c n) q t f = absurd_bool t refl

-- ---- from one state to the next
module _ (𝓜 : Machine) (s : Tables) (h : Move) (F : Facts 𝓜 s) (K : Keeps 𝓜 s h) (callers : KeepsCallers 𝓜 s (next 𝓜 s h)) where
  -- an exported VAR or VAL
  continues : (w c : ℕ) → exported 𝓜 s w c ≡ true → (is_var (cell 𝓜 s w c) || is_val (cell 𝓜 s w c)) ≡ true → Continues 𝓜 s (next 𝓜 s h) w c
  continues w c x t = go (cell 𝓜 s w c) refl t
    where
      -- the caller of what it then holds, where that is a VAR or a VAL
      caller_is_lem : (caller : ℕ) (k : Kind) → cell 𝓜 s w c ≡ Var caller → cell 𝓜 (next 𝓜 s h) w c ≡ k → (is_var k || is_val k) ≡ true → has_caller caller k ≡ true
      caller_is_lem caller k was now u =
          let has = ap (has_caller caller) was ∙ eq-eqb caller caller refl in
          sym (ap (has_caller caller) now)
          ∙ callers w c caller has (ap (λ (x : Kind). is_var x || is_val x) now ∙ u)

      after : (caller : ℕ) (k : Kind) → cell 𝓜 s w c ≡ Var caller → cell 𝓜 (next 𝓜 s h) w c ≡ k → VarAfter 𝓜 s h F K w k → Continues 𝓜 s (next 𝓜 s h) w c
      after caller k was now (ref_to_safe y e same safe) = bound_to_ref y caller was (now ∙ e)
      after caller Free was now (var_or_val u) = absurd_bool u refl
      after caller (Var a) was now (var_or_val u) =
          as_it_was (now ∙ ap Var (eqb-true a caller (caller_is_lem caller (Var a) was now u)) ∙ sym was)
      after caller (Val v a) was now (var_or_val u) =
          given_a_value v caller was (now ∙ ap (Val v) (eqb-true a caller (caller_is_lem caller (Val v a) was now u)))
      after caller (Ref d) was now (var_or_val u) = absurd_bool u refl
      after caller (Ex o e n st a) was now (var_or_val u) = absurd_bool u refl

      go : (k : Kind) → cell 𝓜 s w c ≡ k → (is_var k || is_val k) ≡ true → Continues 𝓜 s (next 𝓜 s h) w c
      go Free q u = absurd_bool u refl
      go (Var caller) q u = after caller (cell 𝓜 (next 𝓜 s h) w c) q refl (var_after 𝓜 s h F K w c x caller q)
      go (Val n caller) q u =
          as_it_was (exported_same 𝓜 s h F K w c (Val n caller) x q refl refl ∙ sym q)
      go (Ref d) q u = absurd_bool u refl
      go (Ex o e n st a) q u = absurd_bool u refl

  context_kept : (o e : ℕ) → is_live (entry 𝓜 s o e) ≡ true → is_live (entry 𝓜 (next 𝓜 s h) o e) ≡ true → KeepsContext 𝓜 s (next 𝓜 s h) o e
  context_kept o e live live' =
      let F' = facts_kept 𝓜 s h F K in
      let kept = live_kept 𝓜 s h F K o e live live' in
      let l' = the_live (entry 𝓜 (next 𝓜 s h) o e) live' in
      let cell_is : l'.cell ≡ cell_of (entry 𝓜 s o e) = sym (ap cell_of l'.is) ∙ kept.0 in
      record {
        same_cell = kept.0;
        same_taint = kept.1;
        not_freed = sym (ap (λ (c : ℕ). is_free (cell 𝓜 (next 𝓜 s h) o c)) cell_is) ∙ (live_fact 𝓜 (next 𝓜 s h) F' o e l').2;
        same_steps = steps;
        same_context = λ w c l. continues w c (exported_by 𝓜 s w c l.number l.names) l.var_or_val;
      }
    where
      live_there : LivePlace 𝓜 (next 𝓜 s h) (place o e)
      live_there = live_place 𝓜 (next 𝓜 s h) o e live'

      steps : (w c : ℕ) (l : LeadsTo 𝓜 s (place o e) w c)
          → (ahead 𝓜 (next 𝓜 s h) l.steps (place o e) ≡ place w l.number) × (entry_names c (entry 𝓜 (next 𝓜 s h) w l.number) ≡ true)
      steps w c l =
          let there = ahead_kept 𝓜 s h F K l.steps (place o e) w l.number live_there l.there in
          let alive = ahead_place 𝓜 (next 𝓜 s h) (facts_kept 𝓜 s h F K) l.steps (place o e) live_there w l.number there in
          let y = the_entry_of c (entry 𝓜 s w l.number) l.names in
          let kept = live_kept 𝓜 s h F K w l.number (names_live_entry c (entry 𝓜 s w l.number) l.names) alive in
          let z = the_live (entry 𝓜 (next 𝓜 s h) w l.number) alive in
          let same : z.cell ≡ c = sym (ap cell_of z.is) ∙ kept.0 ∙ ap cell_of y.is in
          (there, ap (entry_names c) z.is ∙ eq-eqb z.cell c same)

-- whatever a call makes
pub context_made : (𝓜 : Machine) (s t : Tables) → Facts 𝓜 s → Makes 𝓜 s t → KeepsCallers 𝓜 s t → (o e : ℕ)
    → is_live (entry 𝓜 s o e) ≡ true → is_live (entry 𝓜 t o e) ≡ true → KeepsContext 𝓜 s t o e
context_made 𝓜 s t F (nothing) callers o e live live' =
    let l = the_live (entry 𝓜 s o e) live in
    record {
      same_cell = refl;
      same_taint = refl;
      not_freed = ap (λ (x : Holding). is_free (cell 𝓜 s o (cell_of x))) l.is ∙ (live_fact 𝓜 s F o e l).2;
      same_steps = λ w c x. (x.there, x.names);
      same_context = λ w c x. as_it_was refl;
    }
context_made 𝓜 s t F (moved h K on C) callers o e live live' = context_kept 𝓜 s h F K callers o e live live'

-- ---- where a Reference goes
reference_kept : (𝓜 : Machine) (s : Tables) (h : Move) → Facts 𝓜 s → Keeps 𝓜 s h → (k to o e n : ℕ) → message s k ≡ Reference to o e n
    → (message (next 𝓜 s h) k ≡ message s k) ⊎ Gone 𝓜 (next 𝓜 s h) to o e
reference_kept 𝓜 s h F K k to o e n q = reference (ℕ_discrete k h.i)
  where
    here : cell 𝓜 (next 𝓜 s h) h.w h.c ≡ h.k
    here = (cell_stored 𝓜 s h F.sized K.placed).here

    gone : h.m₀ ≡ Reference to o e n → (h.m ≡ h.m₀) ⊎ ReferenceGoes h.w h.k h.m₀ → (h.m ≡ h.m₀) ⊎ Gone 𝓜 (next 𝓜 s h) to o e
    gone i (inl same) = inl same
    gone i (inr g) = inr (by (subst (ReferenceGoes h.w h.k) i g))
      where
        by : (to ≡ o) ⊎ ((h.w ≡ to) × (ex_names o e h.k ≡ true)) → Gone 𝓜 (next 𝓜 s h) to o e
        by (inl at_home) = home at_home
        by (inr x) =
            away h.c (sym (ap (λ (v : ℕ). ex_names o e (cell 𝓜 (next 𝓜 s h) v h.c)) x.0) ∙ ap (ex_names o e) here ∙ x.1)

    reference : Dec (k ≡ h.i) → (message (next 𝓜 s h) k ≡ message s k) ⊎ Gone 𝓜 (next 𝓜 s h) to o e
    reference (yes same) =
        let was : message s k ≡ h.m₀ = ap (message s) same ∙ K.placed.old_message in
        let now : message (next 𝓜 s h) k ≡ h.m = ap (message (next 𝓜 s h)) same ∙ slot_here 𝓜 s h F.sized K.placed in
        ⊎_elim (λ r. inl (now ∙ r ∙ sym was)) inr (gone (sym was ∙ q) K.reference_kept)
    reference (no other) = inl (slot_other 𝓜 s h F.sized K.placed k other)

pub reference_made : (𝓜 : Machine) (s t : Tables) → Facts 𝓜 s → Makes 𝓜 s t → (k to o e n : ℕ) → message s k ≡ Reference to o e n
    → (message t k ≡ message s k) ⊎ Gone 𝓜 t to o e
reference_made 𝓜 s t F (nothing) k to o e n q = inl refl
reference_made 𝓜 s t F (moved h K on C) k to o e n q = reference_kept 𝓜 s h F K k to o e n q
