-- The calls that send: export by location and by reference, indirect, read and ask. Assumes nothing.
use Prim.Native.Nat.{ℕ, ◌+◌, ◌-◌, ◌<◌, ◌≤◌}
use native.Mathlib.Omega.{arith}
use mathlib.Core.Path.{◌≡◌, refl, sym, ap, subst, ◌∙◌}
use mathlib.Core.Bool.{Bool, true, false, ◌&&◌, ◌||◌, not, cond}
use mathlib.Core.List.{List, ◌++◌}
use mathlib.Core.Logic.{inl, inr}
use lib.Dec.{eqb, leb, ltb}
use borrow.Author.Tests.{leb-false, ltb-false, eqb-true}
use Rattle.numbers.specs.Below.{bit}
use Rattle.numbers.specs.Tests.{absurd_bool, or_r, or_l}
use Rattle.tables.specs.declared.Status.{Status}
use Rattle.tables.specs.declared.Status.TheVariants.{Idle, Reading, Known}
use Rattle.tables.specs.declared.Kind.{Kind}
use Rattle.tables.specs.declared.Kind.TheVariants.{Free, Var, Val, Ref, Ex}
use Rattle.tables.specs.declared.Message.{Message}
use Rattle.tables.specs.declared.Message.TheVariants.{Empty, Reference, Read, Ask}
use Rattle.tables.specs.declared.Effect.{Effect}
use Rattle.tables.specs.Machine.{Machine, Tables}
use Rattle.tables.specs.Parts.{Holding, live, is_free, is_var, is_val, is_ex, is_asking, ex_names, named_by, ex_weight, end_from, is_live, is_tainted, entry_names, entry_weight, cell_of, reading_of, goes_to}
use Rattle.tables.specs.Look.{cell, entry, end, end_kind, safe, entry_of, exported, lowest_free_entry, lowest_empty_slot, booked, free_cells, room, put_cell, put_entry, put_message, changed}
use Rattle.rules.specs.Answers.{Check, checked, made}
use Rattle.states.specs.Sound.{var_val_or_safe, sound, reads_for, asks_for, message_holds}
use Rattle.rules.specs.Refusals.{send_lines, by_reference_lines, by_location_lines, entry_to_use, used, indirect_refusals, read_sends, read_refusals, ask_refusals}
use Rattle.rules.specs.Calls.{gains, by_location, by_reference, read_at, ask_at, export, indirect, read, ask}
use Rattle.states.specs.Machines.{Laws}
use Rattle.states.specs.Chains.{ahead}
use Rattle.states.specs.Facts.{Facts, MessageFact, ReadAhead, AnswerFact, KnownFact}
use Rattle.states.proofs.Inside.{cell_inside}
use Rattle.states.proofs.Named.{the_ex, the_entry_of, eq_both, named_ex}
use Rattle.states.proofs.Busy.{own_entry, not_exported}
use Rattle.states.proofs.Derived.{live_fact}
use Rattle.states.proofs.Kept.{var_val_end, end_self}
use Rattle.states.proofs.Ends.{EndIs, plain, leads, end_is}
use Rattle.states.specs.Move.{next, Makes, nothing}
use Rattle.states.proofs.Next.{cell_stored}
use Rattle.states.proofs.Moves.{cell_move, cell_placed, entry_placed, stores_ex, stores_entry}
use Rattle.rules.proofs.Steps.{makes_checked, not-false, cond_add, free_entry, empty_slot, has_room_lem, room_sent, makes_by, mark_cond}
use Rattle.rules.proofs.Local.{worker_used, weight_some}
use Rattle.states.proofs.Entries.{entry_next}
use Rattle.std.specs.Prelude.{None}

module _ (𝓜 : Machine) (L : Laws 𝓜) (s : Tables) (F : Facts 𝓜 s) where
  -- ---- by location: the cell x of worker w, whose end is itself; no refusal applies
  pub record Locates (w x to : ℕ) (taint : Bool) : Type 0 where
    pub w_used : leb s.p w ≡ false
    pub to_used : leb s.p to ≡ false
    pub own_end : (is_free (cell 𝓜 s w x) ≡ false) × (end_kind 𝓜 s w x ≡ cell 𝓜 s w x)
    pub good : taint ≡ false → var_val_or_safe 𝓜 s w (cell 𝓜 s w x) ≡ true
    pub below : ltb 𝓜.ceiling (entry_weight (entry 𝓜 s w (entry_to_use 𝓜 s w x)) + 𝓜.first_weight) ≡ false
    pub has_entry : leb 𝓜.entries (entry_to_use 𝓜 s w x) ≡ false
    pub room : leb (free_cells 𝓜 s to) (booked s to) ≡ false
    pub slot : leb 𝓜.slots (lowest_empty_slot 𝓜 s) ≡ false

  module _ (w x to : ℕ) (taint : Bool) (l : Locates w x to taint) where
    -- what is sent of the entry e
    abbrev sent : ℕ → Message
    sent e = Reference to w e 𝓜.first_weight

    -- the entry e gains the first weight
    located : (e : ℕ) (x₀ : Holding) (n : ℕ) (t : Bool) → e < 𝓜.entries → entry 𝓜 s w e ≡ x₀ → entry_weight x₀ + 𝓜.first_weight ≡ n → n ≤ 𝓜.ceiling
        → (t ≡ false → var_val_or_safe 𝓜 s w (end_kind 𝓜 s w x) ≡ true) → (is_live x₀ ≡ true → (x ≡ cell_of x₀) × (t ≡ is_tainted x₀))
        → ((f d : ℕ) → eqb x d ≡ true → entry_names d (entry 𝓜 s w f) ≡ true → f ≡ e)
        → Makes 𝓜 s (put_message (put_entry 𝓜 s w e (live x n t)) (lowest_empty_slot 𝓜 s) (sent e))
    located e x₀ n t e_in q more small good kept new =
        let w_in = (worker_used 𝓜 L s F w l.w_used).1 in
        let free = empty_slot 𝓜 L s F l.slot in
        let some : 1 ≤ n = omega (arith, L.first_some) in
        makes_by 𝓜 s (stores_entry 𝓜 L s F w e x₀ (live x n t) (lowest_empty_slot 𝓜 s) Empty (sent e)
        (record {
          o_in = w_in;
          e_in = e_in;
          i_in = free.0;
          old_entry = q;
          old_message = free.1;
          entry_ok = inr (entry_next 𝓜 s F (entry_placed 𝓜 L s w_in e_in free.0 q free.1) x n t small some l.own_end.0 good);
          message_ok = ((worker_used 𝓜 L s F to l.to_used).0, L.first_some);
          entry_kept = λ a b. kept a;
          entry_new = new;
          reference_kept = λ v y. tt;
          reads = λ v d. refl;
          asks = λ v d. refl;
          weights = λ a b. omega (arith, cond_add (eqb w a && eqb e b) (entry_weight x₀) 𝓜.first_weight n more);
          holds_ok = λ a b. refl;
          room = room_sent 𝓜 L s F to w e 𝓜.first_weight (has_room_lem 𝓜 L s F to l.room);
        }))
        (inr (0, tt)) (λ t. record { answer_ok = inr tt; known_ok = inl (λ k. k) })

    by_location_makes : Makes 𝓜 s (changed 𝓜 s (by_location 𝓜 w x to taint (used 𝓜 s w x) (lowest_empty_slot 𝓜 s)).change)
    unfolding entry_to_use
    by_location_makes =
        go (exported 𝓜 s w x) refl l.has_entry
        (ltb-false 𝓜.ceiling (entry_weight (entry 𝓜 s w (entry_to_use 𝓜 s w x)) + 𝓜.first_weight) l.below)
      where
        -- the entry that is used, by whether the cell has one, and what is made of it
        uses : Bool → ℕ
        uses b = cond b (entry_of 𝓜 s w x) (lowest_free_entry 𝓜 s w)

        gives : ℕ → Tables
        gives e = put_message (put_entry 𝓜 s w e (gains 𝓜.first_weight x taint (entry 𝓜 s w e))) (lowest_empty_slot 𝓜 s) (sent e)

        go : (b : Bool) → exported 𝓜 s w x ≡ b → leb 𝓜.entries (uses b) ≡ false → entry_weight (entry 𝓜 s w (uses b)) + 𝓜.first_weight ≤ 𝓜.ceiling
            → Makes 𝓜 s (gives (uses b))
        go true ex more below =
            let e = entry_of 𝓜 s w x in
            let y = the_entry_of x (entry 𝓜 s w e) (own_entry 𝓜 s w x ex) in
            let n = y.weight in
            let fact = live_fact 𝓜 s F w e (record { cell = x; weight = n; tainted = y.tainted; is = y.is }) in
            rw y.is
            (located e (live x n y.tainted) (n + 𝓜.first_weight) y.tainted (leb-false 𝓜.entries e more) y.is refl
            (omega (arith, ap entry_weight y.is)) fact.3 (λ a. (refl, refl)) (λ f d t u. F.entry_once w f e d u (ap (entry_names d) y.is ∙ t)))
        go false ex more below =
            let e = lowest_free_entry 𝓜 s w in
            let free = free_entry 𝓜 L s F w more in
            rw free.1
            (located e None 𝓜.first_weight taint free.0 free.1 (omega arith) (omega (arith, ap entry_weight free.1))
            (λ u. ap (var_val_or_safe 𝓜 s w) l.own_end.1 ∙ l.good u) (λ a. absurd_bool a refl)
            (λ f d t u. absurd_bool (rw (eqb-true x d t) u) (not_exported 𝓜 s w x ex f)))

  -- ---- by reference
  by_reference_makes : (w x to : ℕ) → to < s.p → is_ex (cell 𝓜 s w x) ≡ true → leb (ex_weight (cell 𝓜 s w x)) 1 ≡ false
      → booked s to < free_cells 𝓜 s to → leb 𝓜.slots (lowest_empty_slot 𝓜 s) ≡ false
      → Makes 𝓜 s (changed 𝓜 s (by_reference 𝓜 w x to (cell 𝓜 s w x) (lowest_empty_slot 𝓜 s)).change)
  by_reference_makes w x to u ex heavy room full =
      let y = the_ex (cell 𝓜 s w x) ex in
      let o = y.owner in
      let e = y.entry in
      let n = y.weight in
      let slot = empty_slot 𝓜 L s F full in
      let more : 1 < n = leb-false n 1 (sym (ap (λ (k : Kind). leb (ex_weight k) 1) y.is) ∙ heavy) in
      let part = 𝓜.split n in
      let less = L.split_less n more in
      rw y.is
      (makes_by 𝓜 s (stores_ex 𝓜 L s F w x o e n (n - part) y.status y.status y.asking y.asking (lowest_empty_slot 𝓜 s) Empty (Reference to o e part)
      (record {
        i_in = slot.0;
        old_cell = y.is;
        old_message = slot.1;
        some = omega arith;
        reference_kept = tt;
        message_ok = (u, L.split_some n more);
        reads = λ v d. refl;
        asks = λ v d. refl;
        weights = λ a b. omega (arith, cond_add (eqb o a && eqb e b) (n - part) part n (omega arith));
        holds_ok = λ a b. refl;
        room = room_sent 𝓜 L s F to o e part room;
      }))
      (inr (0, tt)) (λ t. record { answer_ok = inr tt; known_ok = inl (λ k. k) }))

  -- ---- the end of a cell that is no REF's is its own
  end_not_ref : (w c : ℕ) → is_free (cell 𝓜 s w c) ≡ false → (is_free (end_kind 𝓜 s w c) ≡ false) × (end_kind 𝓜 s w (end 𝓜 s w c) ≡ cell 𝓜 s w (end 𝓜 s w c))
  unfolding end_kind
  end_not_ref w c nf = go (end_is 𝓜 s F w c nf)
    where
      x : ℕ
      x = end 𝓜 s w c

      go : EndIs (cell 𝓜 s w x) → (is_free (cell 𝓜 s w x) ≡ false) × (end_kind 𝓜 s w x ≡ cell 𝓜 s w x)
      go (plain t) =
          let r = var_val_end (cell 𝓜 s w x) x t in
          (r.0, end_self 𝓜 s w x (cell 𝓜 s w x) refl r.1)
      go (leads a b p) =
          let y = named_ex a b (cell 𝓜 s w x) p in
          (ap is_free y.is, end_self 𝓜 s w x (cell 𝓜 s w x) refl (ap (λ (k : Kind). end_from k x) y.is))

  -- a cell that is neither free nor an EX, and its own end, is a VAR or a VAL
  plain_end : (w x : ℕ) → is_free (cell 𝓜 s w x) ≡ false → is_ex (cell 𝓜 s w x) ≡ false → end_kind 𝓜 s w x ≡ cell 𝓜 s w x
      → var_val_or_safe 𝓜 s w (cell 𝓜 s w x) ≡ true
  plain_end w x nf ne own = go (subst EndIs own (end_is 𝓜 s F w x nf))
    where
      go : EndIs (cell 𝓜 s w x) → var_val_or_safe 𝓜 s w (cell 𝓜 s w x) ≡ true
      go (plain t) = or_l (safe 𝓜 s w (cell 𝓜 s w x)) t
      go (leads a b p) = absurd_bool (ap is_ex (named_ex a b (cell 𝓜 s w x) p).is) ne

  pub export_makes : (w c to : ℕ) → Makes 𝓜 s (made 𝓜 s (export 𝓜 s w c to)).after
  unfolding export end_kind
  export_makes w c to = go (is_ex (cell 𝓜 s w (end 𝓜 s w c))) refl
    where
      x : ℕ
      x = end 𝓜 s w c

      -- the lines and what is done, by whether the end is an EX
      lines : Bool → List Check
      lines b =
          send_lines (sound 𝓜 s) s.p w to (cell 𝓜 s w c)
          ++ cond b (by_reference_lines 𝓜 (cell 𝓜 s w x) (room 𝓜 s to)) (by_location_lines 𝓜 (used 𝓜 s w x) (room 𝓜 s to))

      does : Bool → Effect
      does b =
          cond b (by_reference 𝓜 w x to (cell 𝓜 s w x) (lowest_empty_slot 𝓜 s)) (by_location 𝓜 w x to false (used 𝓜 s w x) (lowest_empty_slot 𝓜 s))

      go : (b : Bool) → is_ex (cell 𝓜 s w x) ≡ b → Makes 𝓜 s (changed 𝓜 s (checked (lines b) (does b)).change)
      go true ex =
          makes_checked 𝓜 s (lines true) (does true)
          (λ p. by_reference_makes w x to (worker_used 𝓜 L s F to (search)).0 ex (search) (has_room_lem 𝓜 L s F to (search)) (search))
      go false ne =
          makes_checked 𝓜 s (lines false) (does false)
          (λ p.
          let own = end_not_ref w c (search) in
          let good = plain_end w x own.0 ne own.1 in
          by_location_makes w x to false
          (record { w_used = search; to_used = search; own_end = own; good = λ u. good; below = search; has_entry = search; room = search; slot = search }))

  pub indirect_makes : (w c to : ℕ) → Makes 𝓜 s (made 𝓜 s (indirect 𝓜 s w c to)).after
  unfolding indirect end_kind
  indirect_makes w c to =
      let x = end 𝓜 s w c in
      let taint = not (safe 𝓜 s w (cell 𝓜 s w x)) in
      makes_checked 𝓜 s (indirect_refusals 𝓜 s w c to) (by_location 𝓜 w x to taint (used 𝓜 s w x) (lowest_empty_slot 𝓜 s))
      (λ p.
      let good : taint ≡ false → var_val_or_safe 𝓜 s w (cell 𝓜 s w x) ≡ true = λ u. or_r (is_var (cell 𝓜 s w x) || is_val (cell 𝓜 s w x)) (not-false u) in
      let own = end_not_ref w c (search) in
      by_location_makes w x to taint
      (record { w_used = search; to_used = search; own_end = own; good = good; below = search; has_entry = search; room = search; slot = search }))

  -- ---- read and ask: an EX is marked, and the message m that it then waits for goes into the empty slot
  mark_sent : (w x : ℕ) {o e n : ℕ} {st : Status} {a : Bool} (st' : Status) (a' : Bool) (m : Message) → cell 𝓜 s w x ≡ Ex o e n st a
      → leb 𝓜.slots (lowest_empty_slot 𝓜 s) ≡ false
      → ((v d : ℕ) → bit (reads_for v d m) + cond (eqb w v && eqb x d) (bit (reading_of st)) 0 ≡ 0 + cond (eqb w v && eqb x d) (bit (reading_of st')) 0)
      → ((v d : ℕ) → bit (asks_for v d m) + cond (eqb w v && eqb x d) (bit a) 0 ≡ 0 + cond (eqb w v && eqb x d) (bit a') 0)
      → ((t : Tables) (y z : ℕ) → message_holds 𝓜 t y z m ≡ 0) → ((v : ℕ) → goes_to v m ≡ false)
      → ((t : Tables) → cell 𝓜 t w x ≡ Ex o e n st' a' → MessageFact 𝓜 t m × ReadAhead 𝓜 t 0 m × AnswerFact 𝓜 t m)
      → (KnownFact 𝓜 s (Ex o e n st a) → KnownFact 𝓜 s (Ex o e n st' a'))
      → Makes 𝓜 s (put_message (put_cell 𝓜 s w x (Ex o e n st' a')) (lowest_empty_slot 𝓜 s) m)
  mark_sent w x {o} {e} {n} {st} {a} st' a' m q full reads asks holds goes facts known =
      let slot = empty_slot 𝓜 L s F full in
      let inside = cell_inside 𝓜 s w x (ap is_free q) in
      let h = cell_move 𝓜 s w x (Ex o e n st a) (Ex o e n st' a') (lowest_empty_slot 𝓜 s) Empty m in
      let here = (cell_stored 𝓜 s h F.sized (cell_placed 𝓜 L s inside.0 inside.1 slot.0 q slot.1)).here in
      let f = facts (next 𝓜 s h) here in
      makes_by 𝓜 s (stores_ex 𝓜 L s F w x o e n n st st' a a' (lowest_empty_slot 𝓜 s) Empty m
      (record {
        i_in = slot.0;
        old_cell = q;
        old_message = slot.1;
        some = weight_some 𝓜 L s F w x q;
        reference_kept = tt;
        message_ok = f.0;
        reads = reads;
        asks = asks;
        weights = λ y z. omega (arith, holds s y z);
        holds_ok = λ y z. holds (next 𝓜 s h) y z ∙ sym (holds s y z);
        room = λ v. omega (arith, F.room v, ap bit (goes v));
      }))
      (inr (0, f.1)) (λ t. record { answer_ok = inr f.2; known_ok = inl known })

  pub read_makes : (w c : ℕ) → Makes 𝓜 s (made 𝓜 s (read 𝓜 s w c)).after
  unfolding read end_kind ahead
  read_makes w c =
      makes_checked 𝓜 s (read_refusals 𝓜 s w c) (read_at w x (cell 𝓜 s w x) (lowest_empty_slot 𝓜 s))
      (λ p. go (cell 𝓜 s w x) refl (search))
    where
      x : ℕ
      x = end 𝓜 s w c

      go : (k : Kind) → cell 𝓜 s w x ≡ k → (read_sends k && leb 𝓜.slots (lowest_empty_slot 𝓜 s)) ≡ false
          → Makes 𝓜 s (changed 𝓜 s (read_at w x k (lowest_empty_slot 𝓜 s)).change)
      go Free q t = nothing
      go (Var caller) q t = nothing
      go (Val n caller) q t = nothing
      go (Ref d) q t = nothing
      go (Ex o e n Idle a) q t =
          mark_sent w x Reading a (Read w x o e) q t (λ v d. sym (mark_cond (eqb w v && eqb x d))) (λ v d. refl) (λ y v d. refl) (λ v. refl)
          (λ y here. (tt, ap named_by here, tt)) (λ k. tt)
      go (Ex o e n Reading a) q t = nothing
      go (Ex o e n (Known v) a) q t = nothing

  pub ask_makes : (w c : ℕ) → Makes 𝓜 s (made 𝓜 s (ask 𝓜 s w c)).after
  unfolding ask end_kind
  ask_makes w c =
      makes_checked 𝓜 s (ask_refusals 𝓜 s w c) (ask_at w x (cell 𝓜 s w x) (lowest_empty_slot 𝓜 s))
      (λ p. go (cell 𝓜 s w x) refl (search))
    where
      x : ℕ
      x = end 𝓜 s w c

      go : (k : Kind) → cell 𝓜 s w x ≡ k → (not (is_asking k) && leb 𝓜.slots (lowest_empty_slot 𝓜 s)) ≡ false
          → Makes 𝓜 s (changed 𝓜 s (ask_at w x k (lowest_empty_slot 𝓜 s)).change)
      go Free q t = nothing
      go (Var caller) q t = nothing
      go (Val n caller) q t = nothing
      go (Ref d) q t = nothing
      go (Ex o e n st true) q t = nothing
      go (Ex o e n st false) q t =
          mark_sent w x st true (Ask w x o e) q t (λ v d. refl) (λ v d. sym (mark_cond (eqb w v && eqb x d))) (λ y v d. refl) (λ v. refl)
          (λ y here. (ap (ex_names o e) here ∙ eq_both o e, tt, tt)) (λ k. k)
