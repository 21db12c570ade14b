-- Deliveries: what becomes of each message keeps the invariant. Assumes nothing.
use Rattle.std.specs.Prelude.{None}
use Prim.Native.Nat.{ℕ, ◌+◌, ◌-◌, ◌<◌, ◌≤◌, min}
use native.Mathlib.Nat.{min-le_right}
use native.Mathlib.Omega.{arith}
use mathlib.Core.Path.{◌≡◌, refl, sym, ap, subst, ◌∙◌}
use mathlib.Core.Bool.{Bool, true, false, ◌&&◌, ◌||◌, not, cond}
use mathlib.Core.Logic.{inl, inr}
use lib.Dec.{eqb, ltb, leb}
use lib.ListN.{length}
use borrow.Author.Tests.{ltb-true, ltb-false, leb-true, leb-false, eqb-true, eqb-false, eq-eqb}
use Rattle.numbers.specs.Below.{bit}
use Rattle.numbers.specs.Tests.{absurd_bool}
use Rattle.numbers.specs.BelowLaws.{lowest_at, lowest_past}
use Rattle.tables.specs.declared.Status.{Status}
use Rattle.tables.specs.declared.Status.TheVariants.{Idle, Reading, Known}
use Rattle.tables.specs.declared.Kind.{Kind}
use Rattle.tables.specs.declared.Kind.TheVariants.{Free, Var, Val, Ref, Ex}
use Rattle.tables.specs.declared.Message.{Message}
use Rattle.tables.specs.declared.Message.TheVariants.{Empty, Reference, Release, Read, Answer, Ask, Supply}
use Rattle.tables.specs.Machine.{Machine, Tables}
use Rattle.tables.specs.Parts.{Holding, live, Place, place, is_free, is_var, is_val, ex_names, named_by, is_live, is_tainted, entry_names, entry_weight, is_empty, goes_to, cell_of, reading_of}
use Rattle.tables.specs.Look.{cell, entry, end, end_kind, ex_naming, lowest_free_cell, booked, message, put_cell, put_entry, put_message, changed}
use Rattle.rules.specs.Answers.{made}
use Rattle.states.specs.Chains.{entry_end, follow, ahead, EndsIn}
use Rattle.states.specs.Sound.{reads_for, asks_for, message_holds, held}
use Rattle.rules.specs.Refusals.{ready, deliver_refusals}
use Rattle.rules.specs.Deliver.{taken_off, joined, known, supplied, read_on, arrival_cell, deliver_home, deliver_away, deliver_release, deliver_read, deliver_answer, deliver_supply, deliver_ask, deliver_message, deliver}
use Rattle.states.specs.Machines.{Laws}
use Rattle.states.specs.Facts.{EntryFact, MessageFact, Facts, ReadAhead, Reads, KnownFact, AnswerFact}
use Rattle.states.proofs.Inside.{cell_inside, entry_inside, message-total, message_beyond}
use Rattle.states.proofs.Named.{nowhere_at, the_live, ExOf, the_ex_of, eq_both, both_eq, on_ex_lem}
use Rattle.states.proofs.Derived.{live_fact, held_live, message-held, names_live, reading_cell, asking_cell, LivePlace, named_place, read_live, message_fact}
use Rattle.states.specs.Move.{next, ReferenceGoes, Keeps, TrueValues, Makes, Placed, Move}
use Rattle.states.proofs.Next.{cell_stored}
use Rattle.states.proofs.Kept.{facts_kept}
use Rattle.states.proofs.Walks.{follow_live, ahead_add, ends_before}
use Rattle.states.proofs.Onward.{ahead_kept, ends_kept}
use Rattle.states.proofs.Count.{standing_some, standing_falls}
use Rattle.states.proofs.Ends.{EndIs, plain, leads, end_is}
use Rattle.rules.proofs.Measure.{spends, status_same, kind_same, ex_on, Delivers, delivers_makes, delivers_by}
use Rattle.states.proofs.Moves.{cell_move, entry_move, slot_move, entry_keeps, stores_cell_message, stores_ex, stores_entry, stores_slot, entry_placed}
use Rattle.rules.proofs.Steps.{makes_checked, not-false, cond_add, free_cell, free_not_busy, mark_cond}
use Rattle.rules.proofs.Local.{weight_some}
use Rattle.states.proofs.Entries.{cells_same, entries_same, entry_next}

module _ (𝓜 : Machine) (L : Laws 𝓜) (s : Tables) (F : Facts 𝓜 s) (reads : Reads 𝓜 s) where
  -- a slot that is not empty is one of the machine's
  message_inside : (k : ℕ) → is_empty (message s k) ≡ false → k < 𝓜.slots
  message_inside k h = go (ltb k (length s.slots)) refl
    where
      go : (b : Bool) → ltb k (length s.slots) ≡ b → k < 𝓜.slots
      go true e = omega (arith, ltb-true k (length s.slots) e, F.sized.slots_long)
      go false e = absurd_bool (ap is_empty (message_beyond 𝓜 s k e)) h

  -- ---- the weight w of a message is taken off the entry e of worker o
  pub record Brings (k o e w : ℕ) (m₀ : Message) : Type 0 where
    pub slot : message s k ≡ m₀
    pub full : is_empty m₀ ≡ false
    pub holds : (a b : ℕ) → message_holds 𝓜 s a b m₀ ≡ cond (eqb o a && eqb e b) w 0
    pub some : 1 ≤ w
    pub no_mark : (v d : ℕ) → (reads_for v d m₀ ≡ false) × (asks_for v d m₀ ≡ false)
    pub cost : (t : Tables) (ρ : ℕ → ℕ → ℕ) → 1 ≤ spends 𝓜 t ρ m₀
    pub goes : (v : ℕ) (y : Kind) → ReferenceGoes v y m₀

  -- what it brings is held there
  brought_held : (k o e w : ℕ) (m₀ : Message) → Brings k o e w m₀ → w ≤ held 𝓜 s o e
  brought_held k o e w m₀ B =
      let here : cond (eqb o o && eqb e e) w 0 ≡ w = ap (λ (t : Bool). cond t w 0) (eq_both o e) in
      omega (arith, message-held 𝓜 s k o e, ap (message_holds 𝓜 s o e) B.slot, B.holds o e)

  taken_arrives : (k o e w : ℕ) (m₀ : Message) → Brings k o e w m₀ → Delivers 𝓜 s (put_message (put_entry 𝓜 s o e (taken_off w (entry 𝓜 s o e))) k Empty)
  taken_arrives k o e w m₀ B =
      let bring = brought_held k o e w m₀ B in
      let live = held_live 𝓜 s F.weighed o e (omega (arith, B.some)) in
      let l = the_live (entry 𝓜 s o e) live in
      let f = live_fact 𝓜 s F o e l in
      let inside = entry_inside 𝓜 s o e live in
      let within = message_inside k (ap is_empty B.slot ∙ B.full) in
      let enough : w ≤ l.weight = omega (arith, F.weighed o e, ap entry_weight l.is) in
      subst (λ (x : Holding). Delivers 𝓜 s (put_message (put_entry 𝓜 s o e (taken_off w x)) k Empty)) (sym l.is)
      (go l.cell l.weight l.tainted l.is f inside.0 inside.1 within enough (leb l.weight w) refl)
    where
      -- the entry, which held x₀, then holds x
      taken : (x₀ x : Holding) → entry 𝓜 s o e ≡ x₀ → o < 𝓜.workers → e < 𝓜.entries → k < 𝓜.slots
          → EntryFact 𝓜 (next 𝓜 s (entry_move 𝓜 s o e x₀ x k m₀ Empty)) o x
          → (is_live x₀ ≡ true → is_live x ≡ true → (cell_of x ≡ cell_of x₀) × (is_tainted x ≡ is_tainted x₀))
          → ((f d : ℕ) → entry_names d x ≡ true → entry_names d (entry 𝓜 s o f) ≡ true → f ≡ e) → (is_live x ≡ true → is_live x₀ ≡ true)
          → entry_weight x + w ≡ entry_weight x₀ → Delivers 𝓜 s (put_message (put_entry 𝓜 s o e x) k Empty)
      taken x₀ x q oi ei ki fact kept new live less =
          delivers_by 𝓜 s (stores_entry 𝓜 L s F o e x₀ x k m₀ Empty
          (record {
            o_in = oi;
            e_in = ei;
            i_in = ki;
            old_entry = q;
            old_message = B.slot;
            entry_ok = inr fact;
            message_ok = tt;
            entry_kept = kept;
            entry_new = new;
            reference_kept = B.goes;
            reads = λ v d. sym (ap bit (B.no_mark v d).0);
            asks = λ v d. sym (ap bit (B.no_mark v d).1);
            weights = λ a b. omega (arith, B.holds a b, cond_add (eqb o a && eqb e b) (entry_weight x) w (entry_weight x₀) less);
            holds_ok = λ a b. refl;
            room = λ v. omega (arith, F.room v);
          }))
          (inr (0, tt)) (λ t. record { answer_ok = inr tt; known_ok = inl (λ y. y) })
          live (kind_same (cell 𝓜 s 0 0))
          (λ ρ R. B.cost (next 𝓜 s (entry_move 𝓜 s o e x₀ x k m₀ Empty)) ρ)

      go : (c n : ℕ) (t : Bool) → entry 𝓜 s o e ≡ live c n t → EntryFact 𝓜 s o (live c n t) → o < 𝓜.workers → e < 𝓜.entries → k < 𝓜.slots → w ≤ n
          → (b : Bool) → leb n w ≡ b → Delivers 𝓜 s (put_message (put_entry 𝓜 s o e (cond b None (live c (n - w) t))) k Empty)
      go c n t q f oi ei ki enough true all =
          taken (live c n t) None q oi ei ki tt (λ a b. absurd_bool b refl) (λ f d a b. absurd_bool a refl) (λ y. refl)
          (omega (arith, leb-true n w all))
      go c n t q f oi ei ki enough false some =
          let more = leb-false n w some in
          taken (live c n t) (live c (n - w) t) q oi ei ki
          (entry_next 𝓜 s F (entry_placed 𝓜 L s oi ei ki q B.slot) c (n - w) t (omega (arith, f.0)) (omega arith) f.2 f.3)
          (λ a b. (refl, refl))
          (λ y d a b. F.entry_once o y e d b (ap (entry_names d) q ∙ a))
          (λ y. refl)
          (omega arith)

  -- ---- a Reference away from its owner
  arrives_booked : (k to o e w : ℕ) → message s k ≡ Reference to o e w → 1 ≤ booked s to
  unfolding booked
  arrives_booked k to o e w q =
      omega (arith, message-total 𝓜 s (λ m. bit (goes_to to m)) refl k, ap (λ (m : Message). bit (goes_to to m)) q, ap bit (eq-eqb to to refl))

  away_arrives : (k to o e w : ℕ) → message s k ≡ Reference to o e w → eqb to o ≡ false → Delivers 𝓜 s (made 𝓜 s (deliver_away 𝓜 s k to o e w)).after
  unfolding deliver_away arrival_cell ex_naming
  away_arrives k to o e w q other = go (ltb (ex_naming 𝓜 s to o e) 𝓜.cells) refl
    where
      f : MessageFact 𝓜 s (Reference to o e w)
      f = message_fact 𝓜 s F k q

      within : k < 𝓜.slots
      within = message_inside k (ap is_empty q)

      -- it joins the cell c, and leaves its slot
      joins : ℕ → Tables
      joins c = put_message (put_cell 𝓜 s to c (joined o e w (cell 𝓜 s to c))) k Empty

      go : (b : Bool) → ltb (ex_naming 𝓜 s to o e) 𝓜.cells ≡ b → Delivers 𝓜 s (joins (cond b (ex_naming 𝓜 s to o e) (lowest_free_cell 𝓜 s to)))
      go true found =
          let c = ex_naming 𝓜 s to o e in
          let x = the_ex_of o e (cell 𝓜 s to c) (lowest_at 𝓜.cells (λ d. ex_names o e (cell 𝓜 s to d)) (ltb-true c 𝓜.cells found)) in
          let n = x.weight in
          rw x.is
          (delivers_by 𝓜 s (stores_ex 𝓜 L s F to c o e n (n + w) x.status x.status x.asking x.asking k (Reference to o e w) Empty
          (record {
            i_in = within;
            old_cell = x.is;
            old_message = q;
            some = omega (arith, f.1);
            reference_kept = inr (refl, eq_both o e);
            message_ok = tt;
            reads = λ v d. refl;
            asks = λ v d. refl;
            weights = λ a b. omega (arith, cond_add (eqb o a && eqb e b) n w (n + w) refl);
            holds_ok = λ a b. refl;
            room = λ v. omega (arith, F.room v);
          }))
          (inr (0, tt)) (λ t. record { answer_ok = inr tt; known_ok = inl (λ y. y) })
          (λ y. y) (ex_on o e (n + w) x.status x.status x.asking (status_same x.status)) (λ ρ R. omega arith))
      go false none =
          let c = lowest_free_cell 𝓜 s to in
          let one = arrives_booked k to o e w q in
          let free = free_cell 𝓜 L s F to (omega (arith, F.room to)) in
          rw free.1
          (delivers_by 𝓜 s (stores_cell_message 𝓜 L s F to c Free (Ex o e w Idle false) k (Reference to o e w) Empty
          (record {
            w_in = omega (arith, f.0, F.p_le);
            c_in = free.0;
            i_in = within;
            old_cell = free.1;
            old_message = q;
            cell_ok = (f.0, (λ (y : o ≡ to). eqb-false to o other (sym y)), f.1);
            message_ok = inr tt;
            busy_kept = λ b v. absurd (free_not_busy 𝓜 L s F to c free.1 b);
            var_kept = λ y v. absurd_bool v refl;
            reference_kept = inr (inr (refl, eq_both o e));
            ex_new = λ d a b t u. absurd (unnamed d a b t u);
            reads = λ v d. refl;
            asks = λ v d. refl;
            weights = λ a b. omega arith;
            holds_ok = inr (λ a b. refl);
            room = λ v. omega (arith, F.room v, mark_cond (eqb to v));
          }))
          (inr (0, tt)) (λ t. record { answer_ok = inr tt; known_ok = inr tt })
          (λ y. y) tt (λ ρ R. omega arith))
        where
          -- no EX of the worker names the entry
          unnamed : (d a b : ℕ) → ex_names a b (Ex o e w Idle false) ≡ true → ex_names a b (cell 𝓜 s to d) ≡ true → ⊥
          unnamed d a b t u =
              let z = both_eq o a e b t in
              let named : ex_names o e (cell 𝓜 s to d) ≡ true = rw (z.0, z.1) u in
              let inside = (cell_inside 𝓜 s to d (ap is_free (the_ex_of o e (cell 𝓜 s to d) named).is)).1 in
              let past = ltb-false (ex_naming 𝓜 s to o e) 𝓜.cells none in
              absurd_bool named (lowest_past 𝓜.cells (λ y. ex_names o e (cell 𝓜 s to y)) past d inside)

  -- ---- a Read goes on, or turns into an Answer
  module _ (k r c o e : ℕ) (q : message s k ≡ Read r c o e) where
    -- the Read turns into the message m
    abbrev turned : Message → Move
    turned m = slot_move 𝓜 s k (Read r c o e) m

    -- what the EX of the Read names
    abbrev reader : Place
    reader = named_by (cell 𝓜 s r c)

    passes : (m : Message) → ((t : Tables) → MessageFact 𝓜 t m) → ((v d : ℕ) → reads_for v d m ≡ (eqb r v && eqb c d))
        → ((v d : ℕ) → asks_for v d m ≡ false) → ((t : Tables) (a b : ℕ) → message_holds 𝓜 t a b m ≡ 0) → ((v : ℕ) → goes_to v m ≡ false)
        → Keeps 𝓜 s (turned m)
    passes m ok reads asks holds goes =
        entry_keeps 𝓜 L s F 0 0 (entry 𝓜 s 0 0) (entry 𝓜 s 0 0) k (Read r c o e) m
        (record {
          o_in = L.workers_some;
          e_in = L.entries_some;
          i_in = message_inside k (ap is_empty q);
          old_entry = refl;
          old_message = q;
          entry_ok = inl refl;
          message_ok = ok (next 𝓜 s (turned m));
          entry_kept = λ a b. (refl, refl);
          entry_new = λ f d a b. F.entry_once 0 f 0 d b a;
          reference_kept = λ v y. tt;
          reads = λ v d. ap bit (reads v d);
          asks = λ v d. ap bit (asks v d);
          weights = λ a b. omega (arith, holds s a b);
          holds_ok = λ a b. holds (next 𝓜 s (turned m)) a b ∙ sym (holds s a b);
          room = λ v. omega (arith, F.room v, ap bit (goes v));
        })

    -- the EX names what it named, and that is live
    reader_place : (m : Message) → Keeps 𝓜 s (turned m) → (named_by (cell 𝓜 (next 𝓜 s (turned m)) r c) ≡ reader) × LivePlace 𝓜 (next 𝓜 s (turned m)) reader
    reader_place m K =
        let same = ap named_by (cells_same 𝓜 s F K.placed r c) in
        let h = turned m in
        (same, subst (LivePlace 𝓜 (next 𝓜 s h)) same (named_place 𝓜 (next 𝓜 s h) (facts_kept 𝓜 s h F K) r c))

    read_of : (n : ℕ) × (ahead 𝓜 s n reader ≡ place o e)
    read_of = subst (λ (m : Message). (n : ℕ) × ReadAhead 𝓜 s n m) q (reads k)

    -- its entry is live after it goes on
    live_read : (m : Message) → Keeps 𝓜 s (turned m) → is_live (entry 𝓜 (next 𝓜 s (turned m)) o e) ≡ true
    live_read m K = ap is_live (entries_same 𝓜 s F K.placed refl o e) ∙ read_live 𝓜 s F reads k r c o e q

    goes_on : (o' e' : ℕ) → follow 𝓜 s (place o e) ≡ place o' e' → Delivers 𝓜 s (put_message s k (Read r c o' e'))
    unfolding ahead
    goes_on o' e' step =
        let m = Read r c o' e' in
        let h = turned m in
        let K = passes m (λ t. tt) (λ v d. refl) (λ v d. refl) (λ t a b. refl) (λ v. refl) in
        let n = read_of.0 in
        let stays = reader_place m K in
        let further : ahead 𝓜 s (n + 1) reader ≡ place o' e' = ahead_add 𝓜 s n 1 reader ∙ ap (follow 𝓜 s) read_of.1 ∙ step in
        let now = ap (ahead 𝓜 (next 𝓜 s h) (n + 1)) stays.0 ∙ ahead_kept 𝓜 s h F K (n + 1) reader o' e' stays.1 further in
        let z = (facts_kept 𝓜 s h F K).sized in
        delivers_by 𝓜 s (stores_slot 𝓜 L s k (Read r c o e) m K)
        (inr (n + 1, now)) (λ t. record { answer_ok = inr tt; known_ok = inl (λ y. y) })
        (λ y. y) (kind_same (cell 𝓜 s 0 0))
        (λ ρ R. omega (arith, standing_falls 𝓜 L (next 𝓜 s h) z ρ o e (ρ o' e') (live_read m K) (R.falls o e o' e' step)))

    is_answered : (v : ℕ) → (TrueValues 𝓜 s → EndsIn 𝓜 s (place o e) v) → Delivers 𝓜 s (put_message s k (Answer r c v))
    is_answered v ends =
        let m = Answer r c v in
        let h = turned m in
        let K = passes m (λ t. tt) (λ v d. refl) (λ v d. refl) (λ t a b. refl) (λ v. refl) in
        let stays = reader_place m K in
        let from_reader : TrueValues 𝓜 s → EndsIn 𝓜 s reader v = λ t. ends_before 𝓜 s read_of.0 reader (place o e) v read_of.1 (ends t) in
        let now : TrueValues 𝓜 s → EndsIn 𝓜 (next 𝓜 s h) reader v = λ t. ends_kept 𝓜 s h F K reader v stays.1 (from_reader t) in
        delivers_by 𝓜 s (stores_slot 𝓜 L s k (Read r c o e) m K)
        (inr (0, tt)) (λ t. record { answer_ok = inr (rw stays.0 (now t)); known_ok = inl (λ y. y) })
        (λ y. y) (kind_same (cell 𝓜 s 0 0))
        (λ ρ R. omega (arith, standing_some 𝓜 L (next 𝓜 s h) (facts_kept 𝓜 s h F K).sized ρ o e (live_read m K)))

    -- "Read"
    read_arrives : ready 𝓜 s (Read r c o e) ≡ true → Delivers 𝓜 s (made 𝓜 s (deliver_read 𝓜 s k r c o e)).after
    unfolding deliver_read end_kind ahead ready
    read_arrives is_ready =
        let l = the_live (entry 𝓜 s o e) (read_live 𝓜 s F reads k r c o e q) in
        let is = end_is 𝓜 s F o l.cell (live_fact 𝓜 s F o e l).2 in
        let not_var_lem = sym (ap (λ (x : Holding). not (is_var (entry_end 𝓜 s o x))) l.is) ∙ is_ready in
        rw l.is (at_end l.is (cell 𝓜 s o (end 𝓜 s o l.cell)) refl is not_var_lem)
      where
        no_end : {X : Type 0} (y : Kind) → (is_var y || is_val y) ≡ false → named_by y ≡ None → EndIs y → X
        no_end y v n (plain t) = absurd_bool t v
        no_end y v n (leads a b t) = nowhere_at (sym n ∙ t)

        at_end : {d n : ℕ} {t : Bool} → entry 𝓜 s o e ≡ live d n t → (y : Kind) → cell 𝓜 s o (end 𝓜 s o d) ≡ y → EndIs y → not (is_var y) ≡ true
            → Delivers 𝓜 s (put_message s k (read_on r c (Read r c o e) y))
        at_end i Free j is w = no_end Free refl refl is
        at_end i (Var caller) j is w = absurd_bool w refl
        at_end i (Val v caller) j is w =
            is_answered v (λ t. record { steps = 0; owner = o; number = e; there = refl; caller = caller; value = ap (entry_end 𝓜 s o) i ∙ j })
        at_end i (Ref y) j is w = no_end (Ref y) refl refl is
        at_end i (Ex o' e' m Idle a) j is w = goes_on o' e' (follow_live 𝓜 s o e i ∙ ap named_by j)
        at_end i (Ex o' e' m Reading a) j is w = goes_on o' e' (follow_live 𝓜 s o e i ∙ ap named_by j)
        at_end {d} i (Ex o' e' m (Known v) a) j is w =
            is_answered v
            (λ t. ends_before 𝓜 s 1 (place o e) (place o' e') v (follow_live 𝓜 s o e i ∙ ap named_by j) (subst (KnownFact 𝓜 s) j (t.exes o (end 𝓜 s o d))))

  -- "Answer"
  answer_arrives : (k r c v : ℕ) → message s k ≡ Answer r c v → Delivers 𝓜 s (made 𝓜 s (deliver_answer 𝓜 s k r c v)).after
  unfolding deliver_answer
  answer_arrives k r c v q =
      let t = reading_cell 𝓜 s F k r c (ap (reads_for r c) q ∙ eq_both r c) in
      let x = on_ex_lem (λ o e n st a. reading_of st) (cell 𝓜 s r c) t in
      rw x.is (go x.status x.is (rw x.is at t))
    where
      within : k < 𝓜.slots
      within = message_inside k (ap is_empty q)

      ends : TrueValues 𝓜 s → EndsIn 𝓜 s (named_by (cell 𝓜 s r c)) v
      ends t = subst (AnswerFact 𝓜 s) q (t.answers k)

      go : {o e n : ℕ} {a : Bool} (st : Status) → cell 𝓜 s r c ≡ Ex o e n st a → reading_of st ≡ true
          → Delivers 𝓜 s (put_message (put_cell 𝓜 s r c (known v (Ex o e n st a))) k Empty)
      go Idle i t = absurd_bool t refl
      go (Known u) i t = absurd_bool t refl
      go {o} {e} {n} {a} Reading i t =
          let h = cell_move 𝓜 s r c (Ex o e n Reading a) (Ex o e n (Known v) a) k (Answer r c v) Empty in
          let S = stores_ex 𝓜 L s F r c o e n n Reading (Known v) a a k (Answer r c v) Empty
          (record {
            i_in = within;
            old_cell = i;
            old_message = q;
            some = weight_some 𝓜 L s F r c i;
            reference_kept = tt;
            message_ok = tt;
            reads = λ x d. mark_cond (eqb r x && eqb c d);
            asks = λ x d. refl;
            weights = λ x y. refl;
            holds_ok = λ x y. refl;
            room = λ x. omega (arith, F.room x);
          }) in
          let K = S.keeps in
          let here = (cell_stored 𝓜 s h F.sized K.placed).here in
          let live = subst (LivePlace 𝓜 (next 𝓜 s h)) (ap named_by here) (named_place 𝓜 (next 𝓜 s h) (facts_kept 𝓜 s h F K) r c) in
          let now : TrueValues 𝓜 s → EndsIn 𝓜 (next 𝓜 s h) (place o e) v = λ t. ends_kept 𝓜 s h F K (place o e) v live (rw i at (ends t)) in
          delivers_by 𝓜 s S
          (inr (0, tt)) (λ t. record { answer_ok = inr tt; known_ok = inr (now t) })
          (λ y. y) (ex_on o e n Reading (Known v) a tt) (λ ρ R. omega arith)

  -- "Supply"
  supply_arrives : (k a c w : ℕ) → message s k ≡ Supply a c w → Delivers 𝓜 s (made 𝓜 s (deliver_supply 𝓜 s k a c w)).after
  unfolding deliver_supply
  supply_arrives k a c w q =
      let t = asking_cell 𝓜 s F k a c (ap (asks_for a c) q ∙ eq_both a c) in
      let x = on_ex_lem (λ o e n st b. b) (cell 𝓜 s a c) t in
      rw x.is (go x.asking x.is (rw x.is at t))
    where
      go : {o e n : ℕ} {st : Status} (b : Bool) → cell 𝓜 s a c ≡ Ex o e n st b → b ≡ true
          → Delivers 𝓜 s (put_message (put_cell 𝓜 s a c (supplied w (Ex o e n st b))) k Empty)
      go false i t = absurd_bool t refl
      go {o} {e} {n} {st} true i t =
          delivers_by 𝓜 s (stores_ex 𝓜 L s F a c o e n (n + w) st st true false k (Supply a c w) Empty
          (record {
            i_in = message_inside k (ap is_empty q);
            old_cell = i;
            old_message = q;
            some = omega (arith, weight_some 𝓜 L s F a c i);
            reference_kept = tt;
            message_ok = tt;
            reads = λ v d. refl;
            asks = λ v d. mark_cond (eqb a v && eqb c d);
            weights = λ x y. omega (arith, cond_add (eqb o x && eqb e y) n w (n + w) refl, ap (λ (j : Kind). cond (ex_names x y j) w 0) i);
            holds_ok = λ x y. refl;
            room = λ v. omega (arith, F.room v);
          }))
          (inr (0, tt)) (λ t. record { answer_ok = inr tt; known_ok = inl (λ y. y) })
          (λ y. y) (ex_on o e (n + w) st st false (status_same st)) (λ ρ R. omega arith)

  -- "Ask"
  ask_arrives : (k a c o e : ℕ) → message s k ≡ Ask a c o e → Delivers 𝓜 s (made 𝓜 s (deliver_ask 𝓜 s k a c o e)).after
  unfolding deliver_ask
  ask_arrives k a c o e q =
      let names = message_fact 𝓜 s F k q in
      let live = names_live 𝓜 s F a c o e names in
      let l = the_live (entry 𝓜 s o e) live in
      let inside = entry_inside 𝓜 s o e live in
      let given = min 𝓜.first_weight (𝓜.ceiling - l.weight) in
      let small = min-le_right 𝓜.first_weight (𝓜.ceiling - l.weight) in
      rw l.is (go given l.is (live_fact 𝓜 s F o e l) inside.0 inside.1 small (the_ex_of o e (cell 𝓜 s a c) names))
    where
      go : {d n : ℕ} {t : Bool} (w : ℕ) → entry 𝓜 s o e ≡ live d n t → EntryFact 𝓜 s o (live d n t) → o < 𝓜.workers → e < 𝓜.entries
          → w ≤ 𝓜.ceiling - n → ExOf o e (cell 𝓜 s a c) → Delivers 𝓜 s (put_message (put_entry 𝓜 s o e (live d (n + w) t)) k (Supply a c w))
      go {d} {n} {t} w i f oi ei small x =
          let within = message_inside k (ap is_empty q) in
          let placed : Placed 𝓜 s (entry_move 𝓜 s o e (live d n t) (live d (n + w) t) k (Ask a c o e) (Supply a c w)) = entry_placed 𝓜 L s oi ei within i q in
          let at_place : (y z : ℕ) → ex_names y z (cell 𝓜 s a c) ≡ (eqb o y && eqb e z) = λ y z. ap (ex_names y z) x.is in
          delivers_by 𝓜 s (stores_entry 𝓜 L s F o e (live d n t) (live d (n + w) t) k (Ask a c o e) (Supply a c w)
          (record {
            o_in = oi;
            e_in = ei;
            i_in = within;
            old_entry = i;
            old_message = q;
            entry_ok = inr (entry_next 𝓜 s F placed d (n + w) t (omega (arith, f.0)) (omega (arith, f.1)) f.2 f.3);
            message_ok = tt;
            entry_kept = λ y z. (refl, refl);
            entry_new = λ y z u v. F.entry_once o y e z v (ap (entry_names z) i ∙ u);
            reference_kept = λ v y. tt;
            reads = λ v y. refl;
            asks = λ v y. refl;
            weights = λ y z. omega (arith, cond_add (eqb o y && eqb e z) n w (n + w) refl, ap (λ (b : Bool). cond b w 0) (at_place y z));
            holds_ok = λ y z. ap (λ (j : Kind). cond (ex_names y z j) w 0) (cells_same 𝓜 s F placed a c);
            room = λ v. omega (arith, F.room v);
          }))
          (inr (0, tt)) (λ t. record { answer_ok = inr tt; known_ok = inl (λ y. y) })
          (λ y. refl {a = true}) (kind_same (cell 𝓜 s 0 0)) (λ ρ R. omega arith)

  -- ---- every message
  reference_brings : (k to o e w : ℕ) → message s k ≡ Reference to o e w → to ≡ o → Brings k o e w (Reference to o e w)
  reference_brings k to o e w q is_home =
      let some = (message_fact 𝓜 s F k q).1 in
      record { slot = q; full = refl; holds = λ a b. refl; some = some; no_mark = λ v d. (refl, refl); cost = λ t ρ. omega arith; goes = λ v y. inl is_home }

  release_brings : (k o e w : ℕ) → message s k ≡ Release o e w → Brings k o e w (Release o e w)
  release_brings k o e w q =
      let some = message_fact 𝓜 s F k q in
      record { slot = q; full = refl; holds = λ a b. refl; some = some; no_mark = λ v d. (refl, refl); cost = λ t ρ. omega arith; goes = λ v y. tt }

  -- a message that is there, and ready, arrives
  pub message_arrives : (k : ℕ) (m : Message) → message s k ≡ m → is_empty m ≡ false → ready 𝓜 s m ≡ true
      → Delivers 𝓜 s (made 𝓜 s (deliver_message 𝓜 s k m)).after
  unfolding deliver_message deliver_home deliver_release
  message_arrives k Empty q full is_ready = absurd_bool refl full
  message_arrives k (Reference to o e w) q full is_ready = go (eqb to o) refl
    where
      go : (b : Bool) → eqb to o ≡ b → Delivers 𝓜 s (changed 𝓜 s (cond b (deliver_home 𝓜 s k o e w) (deliver_away 𝓜 s k to o e w)).change)
      go true t = taken_arrives k o e w (Reference to o e w) (reference_brings k to o e w q (eqb-true to o t))
      go false t = away_arrives k to o e w q t
  message_arrives k (Release o e w) q full is_ready = taken_arrives k o e w (Release o e w) (release_brings k o e w q)
  message_arrives k (Read r c o e) q full is_ready = read_arrives k r c o e q is_ready
  message_arrives k (Answer r c v) q full is_ready = answer_arrives k r c v q
  message_arrives k (Ask a c o e) q full is_ready = ask_arrives k a c o e q
  message_arrives k (Supply a c w) q full is_ready = supply_arrives k a c w q

pub deliver_makes : (𝓜 : Machine) (L : Laws 𝓜) (s : Tables) (F : Facts 𝓜 s) (reads : Reads 𝓜 s) (k : ℕ) → Makes 𝓜 s (made 𝓜 s (deliver 𝓜 s k)).after
unfolding deliver
deliver_makes 𝓜 L s F reads k =
    makes_checked 𝓜 s (deliver_refusals 𝓜 s k) (deliver_message 𝓜 s k (message s k))
    (λ p.
    delivers_makes 𝓜 s (made 𝓜 s (deliver_message 𝓜 s k (message s k))).after
    (message_arrives 𝓜 L s F reads k (message s k) refl (search) (not-false (search))))
