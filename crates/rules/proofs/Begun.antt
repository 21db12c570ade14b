-- An accepted start: everything is free, and the invariant holds. Assumes nothing.
use Prim.Native.Nat.{ℕ, ◌+◌, ◌*◌, ◌≤◌}
use native.Mathlib.Omega.{arith}
use mathlib.Core.Path.{◌≡◌, refl, sym, ap, subst, ◌∙◌}
use mathlib.Core.Bool.{Bool, true, false, ◌||◌, cond}
use lib.Dec.{eqb, ltb}
use lib.ListN.{length-replicate}
use borrow.Author.Tests.{ltb-false}
use Rattle.numbers.specs.Below.{bit}
use Rattle.numbers.specs.Lists.{total}
use Rattle.numbers.specs.Tests.{absurd_bool, or_no}
use Rattle.numbers.specs.ListLaws.{total_none, blank}
use Rattle.tables.specs.declared.Cell.{Cell}
use Rattle.tables.specs.declared.Entry.{Entry}
use Rattle.tables.specs.declared.Slot.{Slot}
use Rattle.tables.specs.declared.Kind.{Kind}
use Rattle.tables.specs.declared.Kind.TheVariants.{Free}
use Rattle.tables.specs.declared.Message.{Message}
use Rattle.tables.specs.declared.Message.TheVariants.{Empty}
use Rattle.tables.specs.declared.Outcome.TheVariants.{Done, Refused}
use Rattle.tables.specs.declared.Refusal.TheVariants.{WorkerCount}
use Rattle.tables.specs.Machine.{Machine, Tables}
use Rattle.tables.specs.Parts.{place, is_reading, is_asking, ex_names, is_live, entry_names, entry_weight, goes_to}
use Rattle.tables.specs.Look.{cell, entry, booked, message}
use Rattle.rules.specs.Answers.{Result}
use Rattle.states.specs.Chains.{through, follow}
use Rattle.states.specs.Sound.{reads_for, asks_for, reads_of, asks_of, cell_holds, message_holds, held}
use Rattle.rules.specs.Refusals.{bad_count}
use Rattle.rules.specs.Calls.{all_free, closed, start}
use Rattle.states.specs.Facts.{CellFact, EntryFact, MessageFact, ReadAhead}
use Rattle.states.proofs.Inside.{cells_all, entries_all}
use Rattle.states.proofs.Named.{nowhere_at}
use Rattle.states.specs.Move.{Invariant}
use Rattle.std.specs.Prelude.{None}

module _ (𝓜 : Machine) (p : ℕ) where
  s : Tables
  s = all_free 𝓜 p

  cell_free : (w c : ℕ) → cell 𝓜 s w c ≡ Free
  unfolding s all_free
  cell_free =
      cells_all 𝓜 s (λ w c k. k ≡ Free) (λ w c. refl)
      (λ w c a b. ap (λ (x : Cell). x.kind) (blank (𝓜.workers * 𝓜.cells) (w * 𝓜.cells + c) (record { kind = Free })))

  entry_free_lem : (w e : ℕ) → entry 𝓜 s w e ≡ None
  unfolding s all_free
  entry_free_lem =
      entries_all 𝓜 s (λ w e x. x ≡ None) (λ w e. refl)
      (λ w e a b. ap (λ (x : Entry). x.holding) (blank (𝓜.workers * 𝓜.entries) (w * 𝓜.entries + e) (record { holding = None })))

  message_free : (k : ℕ) → message s k ≡ Empty
  unfolding s all_free
  message_free k = ap (λ (x : Slot). x.message) (blank 𝓜.slots k (record { message = Empty }))

  -- a sum over the tables of what a free part counts nothing in
  cells_nothing : (f : Kind → ℕ) → f Free ≡ 0 → total (λ x. f x.kind) s.cells ≡ 0
  unfolding s all_free
  cells_nothing f z =
      total_none (λ (x : Cell). f x.kind) s.cells (record { kind = Free })
      (λ i l. ap (λ (x : Cell). f x.kind) (blank (𝓜.workers * 𝓜.cells) i (record { kind = Free })) ∙ z)

  slots_nothing : (f : Message → ℕ) → f Empty ≡ 0 → total (λ x. f x.message) s.slots ≡ 0
  slots_nothing f z =
      total_none (λ (x : Slot). f x.message) s.slots (record { message = Empty }) (λ i l. ap f (message_free i) ∙ z)

  nothing_held_lem : (o e : ℕ) → held 𝓜 s o e ≡ 0
  unfolding held
  nothing_held_lem o e =
      omega (arith, cells_nothing (cell_holds 𝓜 s o e) refl, slots_nothing (message_holds 𝓜 s o e) refl)

  no_step : (a b o e : ℕ) → follow 𝓜 s (place a b) ≡ place o e → ⊥
  unfolding follow
  no_step a b o e q = nowhere_at (sym (ap (through 𝓜 s a) (entry_free_lem a b)) ∙ q)

  pub free_invariant : p ≤ 𝓜.workers → Invariant 𝓜 (all_free 𝓜 p)
  unfolding s all_free reads_of asks_of booked
  free_invariant le =
      record {
        facts =
            record {
              sized =
                  record {
                    cells_long = length-replicate (𝓜.workers * 𝓜.cells) (record { kind = Free });
                    entries_long = length-replicate (𝓜.workers * 𝓜.entries) (record { holding = None });
                    slots_long = length-replicate 𝓜.slots (record { message = Empty });
                  };
              p_le = le;
              cells = λ w c. subst (CellFact 𝓜 s w) (sym (cell_free w c)) tt;
              entries = λ w e. subst (EntryFact 𝓜 s w) (sym (entry_free_lem w e)) tt;
              messages = λ k. subst (MessageFact 𝓜 s) (sym (message_free k)) tt;
              ex_once = λ w c d o e t u. absurd_bool t (ap (ex_names o e) (cell_free w c));
              entry_once = λ w e f c t u. absurd_bool t (ap (entry_names c) (entry_free_lem w e));
              reads_one = λ w c. slots_nothing (λ m. bit (reads_for w c m)) refl ∙ sym (ap (λ (k : Kind). bit (is_reading k)) (cell_free w c));
              asks_one = λ w c. slots_nothing (λ m. bit (asks_for w c m)) refl ∙ sym (ap (λ (k : Kind). bit (is_asking k)) (cell_free w c));
              weighed = λ o e. ap entry_weight (entry_free_lem o e) ∙ sym (nothing_held_lem o e);
              room = λ w. omega (arith, slots_nothing (λ m. bit (goes_to w m)) refl);
            };
        reads = λ k. (0, subst (ReadAhead 𝓜 s 0) (sym (message_free k)) tt);
        known = record { exes = λ w c. rw (cell_free w c) tt; answers = λ k. rw (message_free k) tt };
        rank = λ a b. 0;
        ranked =
            record {
              low = λ a b t. absurd_bool t (ap is_live (entry_free_lem a b));
              own = λ a b t u. absurd_bool t (ap is_live (entry_free_lem a b));
              falls = λ a b o e q. absurd (no_step a b o e q);
            };
      }

-- of a refused start too, which gives the closed state
pub start_invariant : (𝓜 : Machine) (p : ℕ) → Invariant 𝓜 (start 𝓜 p).after
unfolding start
start_invariant 𝓜 p = go (eqb p 0 || ltb 𝓜.workers p) refl
  where
    given : Bool → Result
    given b = cond b (record { outcome = Refused WorkerCount; after = closed 𝓜 }) (record { outcome = Done 0; after = all_free 𝓜 p })

    go : (b : Bool) → (eqb p 0 || ltb 𝓜.workers p) ≡ b → Invariant 𝓜 (given b).after
    go true t = free_invariant 𝓜 0 (omega arith)
    go false t =
        let n = or_no (eqb p 0) (ltb 𝓜.workers p) t in
        free_invariant 𝓜 p (ltb-false 𝓜.workers p n.1)

-- and leaves every cell free
pub start_free : (𝓜 : Machine) (p w c : ℕ) → cell 𝓜 (start 𝓜 p).after w c ≡ Free
unfolding start s
start_free 𝓜 p w c = go (bad_count 𝓜 p) refl
  where
    go : (b : Bool) → bad_count 𝓜 p ≡ b → cell 𝓜 (start 𝓜 p).after w c ≡ Free
    go true t = rw t (cell_free 𝓜 _ w c)
    go false t = rw t (cell_free 𝓜 _ w c)
