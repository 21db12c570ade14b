-- Who pays: every cell that is not free leads to a context, whose caller pays; no call but a bind to an EX that is not known changes who pays for what
-- stays; and it changes it for what leads to its cell alone. Assumes nothing.
use Rattle.std.specs.Prelude.{None, Some}
use Prim.Native.Nat.{ℕ, zero, suc, ◌+◌, ◌-◌, ◌≤◌, ◌<◌}
use native.Mathlib.Omega.{arith}
use native.Mathlib.Numerals.{add-one}
use native.Mathlib.Nat.{add-suc}
use mathlib.Core.Path.{◌≡◌, refl, sym, ap, ap₂, subst, ◌∙◌}
use mathlib.Core.Bool.{true, false, ◌||◌, not}
use mathlib.Core.Logic.{⊎_elim}
use borrow.Author.Tests.{eq-eqb}
use Rattle.numbers.specs.Tests.{absurd_bool, or_else}
use Rattle.tables.specs.declared.Kind.{Kind}
use Rattle.tables.specs.declared.Kind.TheVariants.{Free, Var, Val, Ref, Ex}
use Rattle.tables.specs.declared.Change.TheVariants.{OfCell}
use Rattle.tables.specs.declared.Call.TheVariants.{Bind}
use Rattle.tables.specs.Machine.{Machine, Tables}
use Rattle.tables.specs.Parts.{Holding, Place, place, is_free, is_var, is_val, caller_of, is_ex, is_known, ex_names, named_by, end_from, is_live, entry_names, cell_of}
use Rattle.tables.specs.Look.{cell, entry, end, end_kind, safe, exported, live_entries, put_cell, changed}
use Rattle.states.specs.Machines.{Laws}
use Rattle.states.specs.Chains.{entry_end, follow, ahead, LeadsTo}
use Rattle.states.specs.Facts.{Facts}
use Rattle.states.specs.Move.{Ranked, Invariant}
use Rattle.states.proofs.Inside.{cell_inside}
use Rattle.states.proofs.Named.{nowhere_at, same_place, named_ex, the_ex_of, the_entry_of, names_live_entry, the_live}
use Rattle.states.proofs.Walks.{ahead_nowhere, follow_live, follow_from}
use Rattle.states.proofs.Busy.{exported_by}
use Rattle.states.proofs.Derived.{live_fact, LivePlace, live_place, named_place, ahead_place, follow_place, names_live}
use Rattle.states.proofs.Kept.{shown_says, var_val_end, end_ref, end_self}
use Rattle.states.proofs.Stored.{Stored, spot}
use Rattle.states.proofs.Ends.{VarOrVal, EndIs, plain, leads, end_is, own_end, own_context}
use Rattle.states.proofs.Rank.{safe_ex}
use Rattle.states.proofs.Count.{standing_live, comes_to_end}
use Rattle.rules.specs.Answers.{done, succeeds}
use Rattle.rules.specs.Refusals.{bind_refusals}
use Rattle.rules.specs.Calls.{bound_cell, bind}
use Rattle.rules.specs.Step.{step}
use Rattle.rules.specs.Payers.{is_caller, pays_from, payer, CellLeadsTo, itself, along}
use Rattle.rules.specs.Statements.{ComesToAnEnd, KeepsPayers, MovesPayers}
use Rattle.rules.proofs.Steps.{checked_is, free_is, BindGives, a_value, a_ref, bind_gives}
use Rattle.rules.proofs.Cells.{Becomes, looks_same, freed, new_var, new_ex, has_value, is_bound, CallerFact, put_stored, put_entries, Leaves}

-- ---- one reference after the other
module _ (𝓜 : Machine) (s : Tables) where
  -- where nothing is named, the cell's own caller pays, however many references may be followed
  pays_own : (n : ℕ) (k : Kind) → named_by k ≡ None → pays_from 𝓜 s n k ≡ caller_of k
  unfolding pays_from
  pays_own zero k q = refl
  pays_own (suc n) Free q = refl
  pays_own (suc n) (Var caller) q = refl
  pays_own (suc n) (Val v caller) q = refl
  pays_own (suc n) (Ref d) q = refl
  pays_own (suc n) (Ex o e w st a) q = nowhere_at (sym q)

  -- and else who pays from the end of the entry's cell that is named
  pays_next : (n o e : ℕ) (k : Kind) → named_by k ≡ place o e → pays_from 𝓜 s (suc n) k ≡ pays_from 𝓜 s n (entry_end 𝓜 s o (entry 𝓜 s o e))
  unfolding pays_from
  pays_next n o e k q = rw (named_ex o e k q).is refl

  -- a context is its own end, and names nothing
  context_end : (v d : ℕ) → VarOrVal (cell 𝓜 s v d) → (end_kind 𝓜 s v d ≡ cell 𝓜 s v d) × (named_by (end_kind 𝓜 s v d) ≡ None)
  context_end v d t =
      let r = var_val_end (cell 𝓜 s v d) d t in
      let own = end_self 𝓜 s v d (cell 𝓜 s v d) refl r.1 in
      (own, ap named_by own ∙ r.2)

  -- a chain from one step further on
  leads_before : (o e a b v d : ℕ) → follow 𝓜 s (place o e) ≡ place a b → LeadsTo 𝓜 s (place a b) v d → LeadsTo 𝓜 s (place o e) v d
  unfolding ahead
  leads_before o e a b v d q l =
      record { steps = suc l.steps; number = l.number; there = ap (ahead 𝓜 s l.steps) q ∙ l.there; names = l.names; var_or_val = l.var_or_val }

  -- in a sound state the end of a cell that is not free is not free either
  end_not_free : Facts 𝓜 s → (w c : ℕ) → is_free (cell 𝓜 s w c) ≡ false → is_free (end_kind 𝓜 s w c) ≡ false
  end_not_free F w c nf = go (end_is 𝓜 s F w c nf)
    where
      go : EndIs (end_kind 𝓜 s w c) → is_free (end_kind 𝓜 s w c) ≡ false
      go (plain t) = (var_val_end (end_kind 𝓜 s w c) c t).0
      go (leads o e q) = ap is_free (named_ex o e (end_kind 𝓜 s w c) q).is

  -- nor is the cell of a live entry
  live_end : Facts 𝓜 s → (o e : ℕ) → is_live (entry 𝓜 s o e) ≡ true
      → (entry_end 𝓜 s o (entry 𝓜 s o e) ≡ end_kind 𝓜 s o (cell_of (entry 𝓜 s o e))) × (is_free (cell 𝓜 s o (cell_of (entry 𝓜 s o e))) ≡ false)
  live_end F o e live =
      let l = the_live (entry 𝓜 s o e) live in
      rw l.is (refl, (live_fact 𝓜 s F o e l).2)

-- ---- tables t that differ from s in nothing but the cell d of worker v, a context of s
module _ (𝓜 : Machine) (s t : Tables) (v d : ℕ) (context : VarOrVal (cell 𝓜 s v d)) (entries : (a b : ℕ) → entry 𝓜 t a b ≡ entry 𝓜 s a b)
    (elsewhere : (a b : ℕ) → (v ≡ a → d ≡ b → ⊥) → end_kind 𝓜 t a b ≡ end_kind 𝓜 s a b) where
  -- a cell whose end names an entry is another cell
  names_same : (a b o e : ℕ) → named_by (end_kind 𝓜 s a b) ≡ place o e → end_kind 𝓜 t a b ≡ end_kind 𝓜 s a b
  names_same a b o e q =
      elsewhere a b (λ i j. nowhere_at (sym (context_end 𝓜 s v d context).1 ∙ ap₂ (λ (x y : ℕ). named_by (end_kind 𝓜 s x y)) i j ∙ q))

  -- from what leads to the context in s, one pays in t as from the end of its cell
  leads_pays : (m n number o e : ℕ) (k : Kind) → named_by k ≡ place o e → ahead 𝓜 s m (place o e) ≡ place v number → entry_names d (entry 𝓜 s v number) ≡ true
      → pays_from 𝓜 t (n + suc m) k ≡ pays_from 𝓜 t n (end_kind 𝓜 t v d)
  unfolding ahead
  leads_pays zero n number o e k q there names =
      let here = same_place there in
      let x = the_entry_of d (entry 𝓜 s v number) names in
      ap (λ (i : ℕ). pays_from 𝓜 t i k) (add-one n)
      ∙ pays_next 𝓜 t n o e k q
      ∙ ap (pays_from 𝓜 t n) (rw (here.0, here.1, entries v number, x.is) refl)
  leads_pays (suc m) n number o e k q there names = go (follow 𝓜 s (place o e)) refl (leads_pays m n number)
    where
      go : (p : Place) → follow 𝓜 s (place o e) ≡ p
          → ((a b : ℕ) (j : Kind) → named_by j ≡ place a b → ahead 𝓜 s m (place a b) ≡ place v number → entry_names d (entry 𝓜 s v number) ≡ true
          → pays_from 𝓜 t (n + suc m) j ≡ pays_from 𝓜 t n (end_kind 𝓜 t v d))
          → pays_from 𝓜 t (n + suc (suc m)) k ≡ pays_from 𝓜 t n (end_kind 𝓜 t v d)
      go None i rec = nowhere_at (sym (ahead_nowhere 𝓜 s m) ∙ sym (ap (ahead 𝓜 s m) i) ∙ there)
      go (Some p) i rec =
          let l = follow_from 𝓜 s o e p.owner p.entry i in
          let names_next : named_by (end_kind 𝓜 s o l.cell) ≡ place p.owner p.entry = sym (follow_live 𝓜 s o e l.is) ∙ i in
          let now = ap (entry_end 𝓜 t o) (entries o e ∙ l.is) ∙ names_same o l.cell p.owner p.entry names_next in
          ap (λ (i : ℕ). pays_from 𝓜 t i k) (add-suc n (suc m))
          ∙ pays_next 𝓜 t (n + suc m) o e k q
          ∙ rec p.owner p.entry (entry_end 𝓜 t o (entry 𝓜 t o e)) (ap named_by now ∙ names_next) (sym (ap (ahead 𝓜 s m) i) ∙ there) names

  -- from what does not lead there, as in s
  apart_pays : (n : ℕ) (k : Kind) → ((o e : ℕ) → named_by k ≡ place o e → LeadsTo 𝓜 s (place o e) v d → ⊥) → pays_from 𝓜 t n k ≡ pays_from 𝓜 s n k
  unfolding pays_from ahead
  apart_pays zero k apart = refl
  apart_pays (suc n) k apart = go (named_by k) refl (apart_pays n)
    where
      go : (p : Place) → named_by k ≡ p
          → ((j : Kind) → ((o e : ℕ) → named_by j ≡ place o e → LeadsTo 𝓜 s (place o e) v d → ⊥) → pays_from 𝓜 t n j ≡ pays_from 𝓜 s n j)
          → pays_from 𝓜 t (suc n) k ≡ pays_from 𝓜 s (suc n) k
      go None q rec = pays_own 𝓜 t (suc n) k q ∙ sym (pays_own 𝓜 s (suc n) k q)
      go (Some p) q rec = pays_next 𝓜 t n p.owner p.entry k q ∙ by (entry 𝓜 s p.owner p.entry) refl ∙ sym (pays_next 𝓜 s n p.owner p.entry k q)
        where
          by : (x : Holding) → entry 𝓜 s p.owner p.entry ≡ x → pays_from 𝓜 t n (entry_end 𝓜 t p.owner (entry 𝓜 t p.owner p.entry)) ≡ pays_from 𝓜 s n (entry_end 𝓜 s p.owner (entry 𝓜 s p.owner p.entry))
          by None i = rw (entries p.owner p.entry, i) (rec Free (λ a b j. nowhere_at j))
          by (Some x) i = rw (entries p.owner p.entry, i) (⊎_elim here there (spot v d p.owner x.cell))
            where
              here : (v ≡ p.owner) × (d ≡ x.cell) → pays_from 𝓜 t n (end_kind 𝓜 t p.owner x.cell) ≡ pays_from 𝓜 s n (end_kind 𝓜 s p.owner x.cell)
              here j =
                  let names : entry_names d (entry 𝓜 s v p.entry) ≡ true = rw (j.0, i) (eq-eqb x.cell d (sym j.1)) in
                  absurd (apart p.owner p.entry q (record { steps = 0; number = p.entry; there = ap (λ (y : ℕ). place y p.entry) (sym j.0); names = names; var_or_val = context }))

              there : (v ≡ p.owner → d ≡ x.cell → ⊥) → pays_from 𝓜 t n (end_kind 𝓜 t p.owner x.cell) ≡ pays_from 𝓜 s n (end_kind 𝓜 s p.owner x.cell)
              there f =
                  ap (pays_from 𝓜 t n) (elsewhere p.owner x.cell f)
                  ∙ rec (end_kind 𝓜 s p.owner x.cell) (λ a b j l. apart p.owner p.entry q (leads_before 𝓜 s p.owner p.entry a b v d (follow_live 𝓜 s p.owner p.entry i ∙ j) l))

-- ---- in a reached state
module _ (𝓜 : Machine) (L : Laws 𝓜) (s : Tables) (I : Invariant 𝓜 s) where
  -- a live entry leads to a context, in fewer steps than there are live entries
  pub comes_to_context : (o e : ℕ) → is_live (entry 𝓜 s o e) ≡ true → ComesToAnEnd 𝓜 s o e
  comes_to_context o e live =
      let x = comes_to_end 𝓜 L s I.facts I.rank I.ranked o e live in
      let last = ahead_place 𝓜 s I.facts x.steps (place o e) (live_place 𝓜 s o e live) x.owner x.number x.there in
      let own = own_context 𝓜 s I.facts x.owner x.number last x.end_plain in
      record {
        worker = x.owner;
        number = cell_of (entry 𝓜 s x.owner x.number);
        leads = record { steps = x.steps; number = x.number; there = x.there; names = own.0; var_or_val = own.1 };
        few = omega (arith, x.few, standing_live 𝓜 L s I.facts.sized I.rank (I.rank o e));
      }

  -- a context pays for all that leads to it, where references enough may be followed
  leads_caller : (o e v d n : ℕ) (k : Kind) → named_by k ≡ place o e → (l : LeadsTo 𝓜 s (place o e) v d) → l.steps < n → pays_from 𝓜 s n k ≡ caller_of (cell 𝓜 s v d)
  leads_caller o e v d n k q l more =
      let rest = n - suc l.steps in
      let own = context_end 𝓜 s v d l.var_or_val in
      ap (λ (i : ℕ). pays_from 𝓜 s i k) (let split : n ≡ rest + suc l.steps = omega arith in split)
      ∙ leads_pays 𝓜 s s v d l.var_or_val (λ a b. refl) (λ a b f. refl) l.steps rest l.number o e k q l.there l.names
      ∙ pays_own 𝓜 s rest (end_kind 𝓜 s v d) own.1
      ∙ ap caller_of own.0

  -- what an end names is live
  end_place : (w c : ℕ) → LivePlace 𝓜 s (named_by (end_kind 𝓜 s w c))
  unfolding end_kind
  end_place w c = named_place 𝓜 s I.facts w (end 𝓜 s w c)

  -- as many references as there are live entries are enough
  settled : (w c n : ℕ) → live_entries s ≤ n → pays_from 𝓜 s n (end_kind 𝓜 s w c) ≡ payer 𝓜 s w c
  unfolding payer
  settled w c n enough = go (named_by (end_kind 𝓜 s w c)) refl
    where
      k : Kind
      k = end_kind 𝓜 s w c

      go : (p : Place) → named_by k ≡ p → pays_from 𝓜 s n k ≡ payer 𝓜 s w c
      go None q = pays_own 𝓜 s n k q ∙ sym (pays_own 𝓜 s _ k q)
      go (Some p) q =
          let x = comes_to_context p.owner p.entry (end_place w c p.owner p.entry q) in
          leads_caller p.owner p.entry x.worker x.number n k q x.leads (omega (arith, x.few))
          ∙ sym (leads_caller p.owner p.entry x.worker x.number _ k q x.leads (omega (arith, x.few)))

  -- the context that a cell leads to pays
  pub context_pays : (w c v d : ℕ) → CellLeadsTo 𝓜 s w c v d → payer 𝓜 s w c ≡ caller_of (cell 𝓜 s v d)
  unfolding payer
  context_pays w c v d (itself i j t) =
      let own = context_end 𝓜 s v d t in
      rw (i, j) (pays_own 𝓜 s (live_entries s) (end_kind 𝓜 s v d) own.1 ∙ ap caller_of own.0)
  context_pays w c v d (along o e q l) =
      let n = suc l.steps + live_entries s in
      sym (settled w c n (omega arith)) ∙ leads_caller o e v d n (end_kind 𝓜 s w c) q l (omega arith)

  -- an EX is paid for by whoever pays for its entry's cell
  ex_pays : (o e w c : ℕ) → ex_names o e (cell 𝓜 s w c) ≡ true → payer 𝓜 s w c ≡ payer 𝓜 s o (cell_of (entry 𝓜 s o e))
  unfolding payer
  ex_pays o e w c t =
      let x = the_ex_of o e (cell 𝓜 s w c) t in
      let own = end_self 𝓜 s w c (Ex o e x.weight x.status x.asking) x.is refl in
      sym (settled w c (suc (live_entries s)) (omega arith))
      ∙ pays_next 𝓜 s (live_entries s) o e (end_kind 𝓜 s w c) (ap named_by own)
      ∙ ap (pays_from 𝓜 s (live_entries s)) (live_end 𝓜 s I.facts o e (names_live 𝓜 s I.facts w c o e t)).0

  -- who pays is a caller exactly where the cell is not free
  pub cell_is_paid : ((w c : ℕ) → CallerFact (cell 𝓜 s w c)) → (w c : ℕ) → is_caller (payer 𝓜 s w c) ≡ not (is_free (cell 𝓜 s w c))
  unfolding payer end_kind
  cell_is_paid callers w c = ⊎_elim none some (or_else (is_free (cell 𝓜 s w c)))
    where
      k : Kind
      k = end_kind 𝓜 s w c

      none : is_free (cell 𝓜 s w c) ≡ true → is_caller (payer 𝓜 s w c) ≡ not (is_free (cell 𝓜 s w c))
      none t =
          let own = end_self 𝓜 s w c Free (free_is (cell 𝓜 s w c) t) refl in
          ap is_caller (pays_own 𝓜 s (live_entries s) k (ap named_by own) ∙ ap caller_of own) ∙ sym (ap not t)

      some : is_free (cell 𝓜 s w c) ≡ false → is_caller (payer 𝓜 s w c) ≡ not (is_free (cell 𝓜 s w c))
      some t = go (end_is 𝓜 s I.facts w c t) ∙ sym (ap not t)
        where
          go : EndIs k → is_caller (payer 𝓜 s w c) ≡ true
          go (plain u) =
              ap is_caller (pays_own 𝓜 s (live_entries s) k (var_val_end k c u).2) ∙ callers w (end 𝓜 s w c) ∙ u
          go (leads o e q) =
              let x = comes_to_context o e (end_place w c o e q) in
              ap is_caller (context_pays w c x.worker x.number (along o e q x.leads)) ∙ callers x.worker x.number ∙ x.leads.var_or_val

-- ---- two reached states
-- what a cell says to who pays
pub record Alike (k k' : Kind) : Type 0 where
  pub names : named_by k' ≡ named_by k
  pub caller : caller_of k' ≡ caller_of k
  pub same_end : (d : ℕ) → end_from k' d ≡ end_from k d

-- a cell that stays, but for one that becomes a REF, says the same
stays_alike : {k k' : Kind} → Becomes false k k' → is_free k ≡ false → is_free k' ≡ false → Alike k k'
stays_alike {k} {k'} (looks_same q) nf nf' =
    record {
      names = shown_says named_by (λ o e n st a. refl) k' k q;
      caller = shown_says caller_of (λ o e n st a. refl) k' k q;
      same_end = λ d. shown_says (λ x. end_from x d) (λ o e n st a. refl) k' k q;
    }
stays_alike (freed q) nf nf' = absurd_bool (ap is_free q) nf'
stays_alike (new_var caller q low p) nf nf' = absurd_bool (ap is_free q) nf
stays_alike (new_ex q p) nf nf' = absurd_bool (ap is_free q) nf
stays_alike (has_value v caller q p) nf nf' = rw (q, p) (record { names = refl; caller = refl; same_end = λ d. refl })
stays_alike (is_bound y caller b q p) nf nf' = absurd_bool b refl

module _ (𝓜 : Machine) (L : Laws 𝓜) (s t : Tables) (I : Invariant 𝓜 s) (J : Invariant 𝓜 t) where
  -- references enough for both, so that who pays may be compared there
  enough : ℕ
  enough = live_entries s + live_entries t

  payer_by : (w c v d : ℕ) → pays_from 𝓜 t enough (end_kind 𝓜 t w c) ≡ pays_from 𝓜 s enough (end_kind 𝓜 s v d) → payer 𝓜 t w c ≡ payer 𝓜 s v d
  unfolding enough
  payer_by w c v d q = sym (settled 𝓜 L t J w c enough (omega arith)) ∙ q ∙ settled 𝓜 L s I v d enough (omega arith)

  -- cells that become what they may but are not bound, live entries that keep their cells, and cells or entries that are left as they were
  module _ (becomes : (w c : ℕ) → Becomes false (cell 𝓜 s w c) (cell 𝓜 t w c)) (leaves : Leaves 𝓜 s t)
      (same_cell : (o e : ℕ) → is_live (entry 𝓜 s o e) ≡ true → is_live (entry 𝓜 t o e) ≡ true → cell_of (entry 𝓜 t o e) ≡ cell_of (entry 𝓜 s o e)) where
    -- what the end of a cell that stays, and of an entry's cell that stays, says
    ends_alike : (w c : ℕ) → is_free (cell 𝓜 s w c) ≡ false → is_free (cell 𝓜 t w c) ≡ false → Alike (end_kind 𝓜 s w c) (end_kind 𝓜 t w c)
    unfolding end_kind end
    ends_alike w c nf nf' =
        let same : end 𝓜 t w c ≡ end 𝓜 s w c = (stays_alike (becomes w c) nf nf').same_end c in
        let alike = stays_alike (becomes w (end 𝓜 s w c)) (end_not_free 𝓜 s I.facts w c nf)
        (subst (λ (y : ℕ). is_free (cell 𝓜 t w y) ≡ false) same (end_not_free 𝓜 t J.facts w c nf')) in
        subst (λ (y : ℕ). Alike (cell 𝓜 s w (end 𝓜 s w c)) (cell 𝓜 t w y)) (sym same) alike

    entries_alike : (o e : ℕ) → is_live (entry 𝓜 s o e) ≡ true → is_live (entry 𝓜 t o e) ≡ true
        → Alike (entry_end 𝓜 s o (entry 𝓜 s o e)) (entry_end 𝓜 t o (entry 𝓜 t o e))
    entries_alike o e live live' =
        let was = live_end 𝓜 s I.facts o e live in
        let now = live_end 𝓜 t J.facts o e live' in
        let same = same_cell o e live live' in
        rw (was.0, now.0, same) (ends_alike o (cell_of (entry 𝓜 s o e)) was.1 (rw same at now.1))

    -- what is alike, and names what is live in both, is paid for alike
    pays_same : (n : ℕ) (k k' : Kind) → Alike k k' → LivePlace 𝓜 s (named_by k) → LivePlace 𝓜 t (named_by k') → pays_from 𝓜 t n k' ≡ pays_from 𝓜 s n k
    unfolding pays_from follow
    pays_same zero k k' alike l l' = alike.caller
    pays_same (suc n) k k' alike l l' = go (named_by k) refl (pays_same n)
      where
        go : (p : Place) → named_by k ≡ p
            → ((j j' : Kind) → Alike j j' → LivePlace 𝓜 s (named_by j) → LivePlace 𝓜 t (named_by j') → pays_from 𝓜 t n j' ≡ pays_from 𝓜 s n j)
            → pays_from 𝓜 t (suc n) k' ≡ pays_from 𝓜 s (suc n) k
        go None q rec = pays_own 𝓜 t (suc n) k' (alike.names ∙ q) ∙ alike.caller ∙ sym (pays_own 𝓜 s (suc n) k q)
        go (Some p) q rec =
            pays_next 𝓜 t n p.owner p.entry k' (alike.names ∙ q)
            ∙ rec (entry_end 𝓜 s p.owner (entry 𝓜 s p.owner p.entry)) (entry_end 𝓜 t p.owner (entry 𝓜 t p.owner p.entry)) (entries_alike p.owner p.entry (l p.owner p.entry q) (l' p.owner p.entry (alike.names ∙ q)))
            (follow_place 𝓜 s I.facts (place p.owner p.entry)) (follow_place 𝓜 t J.facts (place p.owner p.entry))
            ∙ sym (pays_next 𝓜 s n p.owner p.entry k q)

    pub keeps_payers : KeepsPayers 𝓜 s t
    keeps_payers = record { of_cell = of_cell; of_entry = of_entry; of_reference = of_reference }
      where
        of_cell : (w c : ℕ) → is_free (cell 𝓜 s w c) ≡ false → is_free (cell 𝓜 t w c) ≡ false → payer 𝓜 t w c ≡ payer 𝓜 s w c
        of_cell w c nf nf' =
            payer_by w c w c
            (pays_same enough (end_kind 𝓜 s w c) (end_kind 𝓜 t w c) (ends_alike w c nf nf') (end_place 𝓜 L s I w c) (end_place 𝓜 L t J w c))

        of_entry : (o e : ℕ) → is_live (entry 𝓜 s o e) ≡ true → is_live (entry 𝓜 t o e) ≡ true
            → payer 𝓜 t o (cell_of (entry 𝓜 t o e)) ≡ payer 𝓜 s o (cell_of (entry 𝓜 s o e))
        of_entry o e live live' =
            let same = same_cell o e live live' in
            let nf = (live_end 𝓜 s I.facts o e live).1 in
            rw same (of_cell o (cell_of (entry 𝓜 s o e)) nf (rw same at (live_end 𝓜 t J.facts o e live').1))

        of_reference : (o e w c : ℕ) → ex_names o e (cell 𝓜 t w c) ≡ true
            → (is_live (entry 𝓜 s o e) ≡ true) × (payer 𝓜 t w c ≡ payer 𝓜 s o (cell_of (entry 𝓜 s o e)))
        of_reference o e w c names =
            let live' = names_live 𝓜 t J.facts w c o e names in
            let live =
            ⊎_elim (λ same. names_live 𝓜 s I.facts w c o e (sym (ap (ex_names o e) (same w c)) ∙ names))
            (λ same. sym (ap is_live (same o e)) ∙ live') leaves in
            (live, ex_pays 𝓜 L t J o e w c names ∙ of_entry o e live live')

-- ---- a bind that makes a REF
-- the rank does not rise along a chain
ahead_falls : (𝓜 : Machine) (s : Tables) (r : ℕ → ℕ → ℕ) → Ranked 𝓜 s r → (n o e a b : ℕ) → ahead 𝓜 s n (place o e) ≡ place a b → r a b ≤ r o e
unfolding ahead
ahead_falls 𝓜 s r R zero o e a b q =
    let same = same_place q in
    rw (same.0, same.1) (omega arith)
ahead_falls 𝓜 s r R (suc n) o e a b q = go (follow 𝓜 s (place o e)) refl (ahead_falls 𝓜 s r R n)
  where
    go : (p : Place) → follow 𝓜 s (place o e) ≡ p → ((x y a b : ℕ) → ahead 𝓜 s n (place x y) ≡ place a b → r a b ≤ r x y) → r a b ≤ r o e
    go None i rec = nowhere_at (sym (ahead_nowhere 𝓜 s n) ∙ sym (ap (ahead 𝓜 s n) i) ∙ q)
    go (Some p) i rec = omega (arith, rec p.owner p.entry a b (sym (ap (ahead 𝓜 s n) i) ∙ q), R.falls o e p.owner p.entry i)

-- the VAR c of worker w becomes a REF to the end of x, an EX, and a safe one where c is exported
module _ (𝓜 : Machine) (L : Laws 𝓜) (s : Tables) (I : Invariant 𝓜 s) (w c x caller : ℕ) (var : cell 𝓜 s w c ≡ Var caller) (ex : is_ex (end_kind 𝓜 s w x) ≡ true)
    (guarded : exported 𝓜 s w c ≡ true → safe 𝓜 s w (end_kind 𝓜 s w x) ≡ true) where
  bound_tables : Tables
  bound_tables = put_cell 𝓜 s w c (Ref (end 𝓜 s w x))

  stored : Stored (cell 𝓜 s) (cell 𝓜 bound_tables) w c (cell 𝓜 s w c) (Ref (end 𝓜 s w x))
  unfolding bound_tables
  stored =
      let inside = cell_inside 𝓜 s w c (ap is_free var) in
      put_stored 𝓜 L s I.facts.sized w c (Ref (end 𝓜 s w x)) inside.0 inside.1

  -- the cell was a context, and no entry changes
  context : VarOrVal (cell 𝓜 s w c)
  context = ap (λ (k : Kind). is_var k || is_val k) var

  entries : (a b : ℕ) → entry 𝓜 bound_tables a b ≡ entry 𝓜 s a b
  unfolding bound_tables
  entries = put_entries 𝓜 s w c (Ref (end 𝓜 s w x))

  -- every other cell keeps its end
  elsewhere : (a b : ℕ) → (w ≡ a → c ≡ b → ⊥) → end_kind 𝓜 bound_tables a b ≡ end_kind 𝓜 s a b
  unfolding end_kind end
  elsewhere a b apart =
      let same : end 𝓜 bound_tables a b ≡ end 𝓜 s a b = ap (λ (k : Kind). end_from k b) (stored.there a b apart) in
      ap (cell 𝓜 bound_tables a) same
      ∙ stored.there a (end 𝓜 s a b)
      (λ i j. apart i (j ∙ own_end 𝓜 s I.facts a b (subst (λ (y : ℕ). VarOrVal (cell 𝓜 s a y)) j (subst (λ (v : ℕ). VarOrVal (cell 𝓜 s v c)) i context))))

  -- the bound cell has the end of the other
  bound_end : end_kind 𝓜 bound_tables w c ≡ end_kind 𝓜 s w x
  unfolding end_kind
  bound_end =
      end_ref 𝓜 bound_tables w c (end 𝓜 s w x) stored.here
      ∙ stored.there w (end 𝓜 s w x) (λ i j. absurd_bool ex (ap is_ex (ap (cell 𝓜 s w) (sym j) ∙ var)))

  -- which does not lead back to it, since an exported VAR is bound to a safe EX alone
  not_back : (o e : ℕ) → named_by (end_kind 𝓜 s w x) ≡ place o e → LeadsTo 𝓜 s (place o e) w c → ⊥
  not_back o e q l =
      let z = safe_ex 𝓜 s w o e (end_kind 𝓜 s w x) (guarded (exported_by 𝓜 s w c l.number l.names)) q in
      let own = I.ranked.own o e (end_place 𝓜 L s I w x o e q) z.1 in
      let low = I.ranked.low w l.number (names_live_entry c (entry 𝓜 s w l.number) l.names) in
      omega (arith, z.0, own, low, ahead_falls 𝓜 s I.rank I.ranked l.steps o e w l.number l.there)

  bind_moves : Invariant 𝓜 bound_tables → MovesPayers 𝓜 s bound_tables w c x
  unfolding enough payer
  bind_moves J = record { of_those = those; of_no_other = no_other }
    where
      n : ℕ
      n = enough 𝓜 L s bound_tables I J

      -- the bound cell
      of_itself : payer 𝓜 bound_tables w c ≡ payer 𝓜 s w x
      of_itself =
          payer_by 𝓜 L s bound_tables I J w c w x
          (ap (pays_from 𝓜 bound_tables n) bound_end ∙ apart_pays 𝓜 s bound_tables w c context entries elsewhere n (end_kind 𝓜 s w x) not_back)

      those : (v d : ℕ) → CellLeadsTo 𝓜 s v d w c → payer 𝓜 bound_tables v d ≡ payer 𝓜 s w x
      those v d (itself i j t) = rw (i, j) of_itself
      those v d (along o e q l) =
          let E = live_entries bound_tables in
          let same = names_same 𝓜 s bound_tables w c context entries elsewhere v d o e q in
          sym (settled 𝓜 L bound_tables J v d (E + suc l.steps) (omega arith))
          ∙ ap (pays_from 𝓜 bound_tables (E + suc l.steps)) same
          ∙ leads_pays 𝓜 s bound_tables w c context entries elsewhere l.steps E l.number o e (end_kind 𝓜 s v d) q l.there l.names
          ∙ of_itself

      no_other : (v d : ℕ) → (CellLeadsTo 𝓜 s v d w c → ⊥) → payer 𝓜 bound_tables v d ≡ payer 𝓜 s v d
      no_other v d apart =
          let same = elsewhere v d (λ i j. apart (itself (sym i) (sym j) context)) in
          payer_by 𝓜 L s bound_tables I J v d v d
          (ap (pays_from 𝓜 bound_tables n) same
          ∙ apart_pays 𝓜 s bound_tables w c context entries elsewhere n (end_kind 𝓜 s v d) (λ o e q l. apart (along o e q l)))

-- a bind that is not refused, to an EX that is not known
pub bind_moves_payers : (𝓜 : Machine) (L : Laws 𝓜) (s : Tables) → Invariant 𝓜 s → (w c x : ℕ) → is_known (end_kind 𝓜 s w x) ≡ false
    → Invariant 𝓜 (step 𝓜 s (Bind w c x)).after → succeeds (step 𝓜 s (Bind w c x)).outcome ≡ true → MovesPayers 𝓜 s (step 𝓜 s (Bind w c x)).after w c x
unfolding step bind bound_tables
bind_moves_payers 𝓜 L s I w c x unknown =
    checked_is (λ d. Invariant 𝓜 (changed 𝓜 s d.change) → succeeds d.outcome ≡ true → MovesPayers 𝓜 s (changed 𝓜 s d.change) w c x)
    (bind_refusals 𝓜 s w c x) (done 0 (OfCell w c (bound_cell 𝓜 s w c x)))
    (λ why J ok. absurd_bool ok refl) (λ p J ok. go (bind_gives 𝓜 s w c x p) J)
  where
    go : BindGives 𝓜 s w c x → Invariant 𝓜 (put_cell 𝓜 s w c (bound_cell 𝓜 s w c x)) → MovesPayers 𝓜 s (put_cell 𝓜 s w c (bound_cell 𝓜 s w c x)) w c x
    go (a_value v caller known q t) = absurd_bool known unknown
    go (a_ref caller u q ex guarded t) = rw t (bind_moves 𝓜 L s I w c x caller q ex guarded)
