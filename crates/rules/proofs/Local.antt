-- The calls that change one cell: new, set, bind, and the freeing of a cell by drop or transfer. Assumes nothing.
use Prim.Native.Nat.{ℕ, ◌+◌, ◌<◌, ◌≤◌}
use native.Mathlib.Omega.{arith}
use mathlib.Core.Path.{◌≡◌, refl, sym, ap, subst, ◌∙◌}
use mathlib.Core.Bool.{Bool, true, false, ◌&&◌, cond}
use mathlib.Core.Logic.{◌⊎◌, inl, inr}
use lib.Dec.{eqb, leb}
use borrow.Author.Tests.{leb-false}
use Rattle.numbers.specs.Below.{bit}
use Rattle.numbers.specs.Tests.{absurd_bool}
use Rattle.tables.specs.declared.Status.{Status}
use Rattle.tables.specs.declared.Kind.{Kind}
use Rattle.tables.specs.declared.Kind.TheVariants.{Free, Var, Val, Ref, Ex}
use Rattle.tables.specs.declared.Message.{Message}
use Rattle.tables.specs.declared.Message.TheVariants.{Empty, Reference, Release}
use Rattle.tables.specs.declared.Change.TheVariants.{OfCell}
use Rattle.tables.specs.Machine.{Machine, Tables}
use Rattle.tables.specs.Parts.{reading_of, is_free, is_ex, is_reading, is_asking, goes_to}
use Rattle.tables.specs.Look.{cell, end, end_kind, safe, exported, busy, lowest_free_cell, lowest_empty_slot, booked, free_cells, message, put_cell, put_message, changed}
use Rattle.rules.specs.Answers.{done, made}
use Rattle.states.specs.Sound.{reads_for, asks_for, cell_holds, message_holds}
use Rattle.rules.specs.Refusals.{new_refusals, set_refusals, bind_refusals, transfer_refusals, drop_refusals}
use Rattle.rules.specs.Calls.{valued, bound_cell, transferred, dropped, new, set, bind, transfer, drop}
use Rattle.states.specs.Machines.{Laws}
use Rattle.states.specs.Facts.{CellFact, MessageFact, ReadAhead, AnswerFact, Facts, KnownFact}
use Rattle.states.proofs.Inside.{cell_inside}
use Rattle.states.proofs.Named.{the_ex, not_on_ex}
use Rattle.states.proofs.Busy.{idle_parts}
use Rattle.states.proofs.Derived.{cell_fact}
use Rattle.states.specs.Move.{next, VarBecomes, stays, bound, ReferenceGoes, Makes}
use Rattle.states.proofs.Next.{cell_stored}
use Rattle.states.proofs.Moves.{cell_move, CellMoves, cell_placed, stores_cell, stores_cell_message}
use Rattle.rules.proofs.Steps.{makes_checked, not-false, var_is, BindGives, a_value, a_ref, bind_gives, zero_cond, free_cell, empty_slot, has_room_lem, room_sent, room_same, free_not_busy, makes_by, mark_cond}

-- a message that carries the weight n of the entry e of worker o, and is no Read, Answer, Ask or Supply
pub record Sends (𝓜 : Machine) (s : Tables) (o e n : ℕ) (m : Message) : Type 0 where
  pub ok : (t : Tables) → t.p ≡ s.p → MessageFact 𝓜 t m
  pub no_read : (v d : ℕ) → reads_for v d m ≡ false
  pub no_ask : (v d : ℕ) → asks_for v d m ≡ false
  pub holds : (t : Tables) (a b : ℕ) → message_holds 𝓜 t a b m ≡ cond (eqb o a && eqb e b) n 0
  pub no_ahead : (t : Tables) → ReadAhead 𝓜 t 0 m
  pub no_answer : (t : Tables) → AnswerFact 𝓜 t m

module _ (𝓜 : Machine) (L : Laws 𝓜) (s : Tables) (F : Facts 𝓜 s) where
  pub reference_sends : (to o e n : ℕ) → to < s.p → 1 ≤ n → Sends 𝓜 s o e n (Reference to o e n)
  reference_sends to o e n u i =
      record { ok = λ t q. (omega arith, i); no_read = λ v d. refl; no_ask = λ v d. refl; holds = λ t a b. refl; no_ahead = λ t. tt; no_answer = λ t. tt }

  pub release_sends : (o e n : ℕ) → 1 ≤ n → Sends 𝓜 s o e n (Release o e n)
  release_sends o e n i =
      record { ok = λ t q. i; no_read = λ v d. refl; no_ask = λ v d. refl; holds = λ t a b. refl; no_ahead = λ t. tt; no_answer = λ t. tt }

  pub weight_some : (w c : ℕ) {o e n : ℕ} {st : Status} {a : Bool} → cell 𝓜 s w c ≡ Ex o e n st a → 1 ≤ n
  weight_some w c q = (cell_fact 𝓜 s F w c q).2

  -- a worker that is no refusal's
  pub worker_used : (w : ℕ) → leb s.p w ≡ false → (w < s.p) × (w < 𝓜.workers)
  worker_used w h = (leb-false s.p w h, omega (arith, leb-false s.p w h, F.p_le))

  -- a cell that is stored, and is no EX that is known
  cell_makes : (w c : ℕ) (k₀ k : Kind) → CellMoves 𝓜 L s w c k₀ k 0 (message s 0) (message s 0) → ((t : Tables) → KnownFact 𝓜 t k)
      → Makes 𝓜 s (put_cell 𝓜 s w c k)
  cell_makes w c k₀ k M known =
      let after = next 𝓜 s (cell_move 𝓜 s w c k₀ k 0 (message s 0) (message s 0)) in
      makes_by 𝓜 s (stores_cell 𝓜 L s F w c k₀ k M) (inl refl) (λ t. record { answer_ok = inl refl; known_ok = inr (known after) })

  -- ---- new
  new_moves : (w c caller : ℕ) → w < s.p → booked s w < free_cells 𝓜 s w → c < 𝓜.cells → cell 𝓜 s w c ≡ Free
      → CellMoves 𝓜 L s w c Free (Var caller) 0 (message s 0) (message s 0)
  new_moves w c caller u r l q =
      record {
        w_in = omega (arith, F.p_le);
        c_in = l;
        i_in = L.slots_some;
        old_cell = q;
        old_message = refl;
        cell_ok = u;
        message_ok = inl refl;
        busy_kept = λ b v. absurd (free_not_busy 𝓜 L s F w c q b);
        var_kept = λ x v. absurd_bool v refl;
        reference_kept = inl refl;
        ex_new = λ d a b t y. absurd_bool t refl;
        reads = λ v d. refl;
        asks = λ v d. refl;
        weights = λ a b. refl;
        holds_ok = inl refl;
        room = λ v. omega (arith, room_sent 𝓜 L s F w 0 0 0 r v, mark_cond (eqb w v));
      }

  pub new_makes : (w caller : ℕ) → Makes 𝓜 s (made 𝓜 s (new 𝓜 s w caller)).after
  unfolding new
  new_makes w caller =
      let c = lowest_free_cell 𝓜 s w in
      makes_checked 𝓜 s (new_refusals 𝓜 s w caller) _
      (λ p.
      let u = worker_used w (search) in
      let r = has_room_lem 𝓜 L s F w (search) in
      let f = free_cell 𝓜 L s F w (omega arith) in
      cell_makes w c Free _ (new_moves w c _ u.0 r f.0 f.1) (λ t. tt))

  -- ---- set and bind: a VAR gets its value, or becomes a REF
  var_moves : (w c caller : ℕ) (k : Kind) → cell 𝓜 s w c ≡ Var caller
      → CellFact 𝓜 (next 𝓜 s (cell_move 𝓜 s w c (Var caller) k 0 (message s 0) (message s 0))) w k → (exported 𝓜 s w c ≡ true → VarBecomes 𝓜 s w k)
      → is_ex k ≡ false → is_free k ≡ false
      → CellMoves 𝓜 L s w c (Var caller) k 0 (message s 0) (message s 0)
  var_moves w c caller k q ok becomes ne nf =
      let inside = cell_inside 𝓜 s w c (ap is_free q) in
      record {
        w_in = inside.0;
        c_in = inside.1;
        i_in = L.slots_some;
        old_cell = q;
        old_message = refl;
        cell_ok = ok;
        message_ok = inl refl;
        busy_kept = λ b v. absurd_bool refl v;
        var_kept = λ x v. becomes x;
        reference_kept = inl refl;
        ex_new = λ d a b t y. absurd_bool t (not_on_ex false (λ owner entr n st z. eqb owner a && eqb entr b) k ne);
        reads = λ v d. rw (not_on_ex false (λ o e n st z. reading_of st) k ne);
        asks = λ v d. rw (not_on_ex false (λ o e n st z. z) k ne);
        weights = λ a b. omega (arith, not_on_ex 0 (λ owner entr n st z. cond (eqb owner a && eqb entr b) n 0) k ne);
        holds_ok = inl refl;
        room = λ v. rw nf (omega (arith, F.room v));
      }

  -- a value, with the caller that it has
  value_makes : (w c n caller : ℕ) → w < s.p → cell 𝓜 s w c ≡ Var caller → Makes 𝓜 s (put_cell 𝓜 s w c (Val n caller))
  value_makes w c n caller u q =
      cell_makes w c (Var caller) (Val n caller) (var_moves w c caller (Val n caller) q u (λ x. stays refl) refl refl) (λ t. tt)

  pub set_makes : (w c n : ℕ) → Makes 𝓜 s (made 𝓜 s (set 𝓜 s w c n)).after
  unfolding set
  set_makes w c n =
      makes_checked 𝓜 s (set_refusals 𝓜 s w c) (done 0 (OfCell w c (valued n (cell 𝓜 s w c))))
      (λ p.
      let u = worker_used w (search) in
      let q = var_is (cell 𝓜 s w c) (not-false (search)) in
      rw q.1 (value_makes w c n q.0 u.0 q.1))

  -- a REF to an EX, a safe one where the VAR is exported
  ref_makes : (w c y caller : ℕ) → w < s.p → cell 𝓜 s w c ≡ Var caller → is_ex (cell 𝓜 s w y) ≡ true
      → (exported 𝓜 s w c ≡ true → safe 𝓜 s w (cell 𝓜 s w y) ≡ true) → Makes 𝓜 s (put_cell 𝓜 s w c (Ref y))
  ref_makes w c y caller u q ex guarded =
      let inside = cell_inside 𝓜 s w c (ap is_free q) in
      let h = cell_move 𝓜 s w c (Var caller) (Ref y) 0 (message s 0) (message s 0) in
      let stored = cell_stored 𝓜 s h F.sized (cell_placed 𝓜 L s inside.0 inside.1 L.slots_some q refl) in
      let still_ex = ap is_ex (stored.there w y (λ a b. absurd_bool ex (ap is_ex (ap (cell 𝓜 s w) (sym b) ∙ q)))) ∙ ex in
      cell_makes w c (Var caller) (Ref y) (var_moves w c caller (Ref y) q (u, still_ex) (λ e. bound y refl (guarded e)) refl refl) (λ t. tt)

  pub bind_makes : (w c x : ℕ) → Makes 𝓜 s (made 𝓜 s (bind 𝓜 s w c x)).after
  unfolding bind end_kind
  bind_makes w c x =
      makes_checked 𝓜 s (bind_refusals 𝓜 s w c x) (done 0 (OfCell w c (bound_cell 𝓜 s w c x)))
      (λ p. let u = worker_used w (search) in go u.0 (bind_gives 𝓜 s w c x p))
    where
      go : w < s.p → BindGives 𝓜 s w c x → Makes 𝓜 s (put_cell 𝓜 s w c (bound_cell 𝓜 s w c x))
      go u (a_value v caller known q t) = rw t (value_makes w c v caller u q)
      go u (a_ref caller unknown q ex guarded t) = rw t (ref_makes w c (end 𝓜 s w x) caller u q ex guarded)

  -- ---- a cell that is not busy is freed, its weight, if it has one, going into the slot i
  pub record Frees (w c : ℕ) (k₀ : Kind) (i : ℕ) (m₀ m : Message) : Type 0 where
    pub i_in : i < 𝓜.slots
    pub old_cell : cell 𝓜 s w c ≡ k₀
    pub not_free : is_free k₀ ≡ false
    pub idle : busy 𝓜 s w c ≡ false
    pub old_message : message s i ≡ m₀
    pub message_ok : (m ≡ m₀) ⊎ MessageFact 𝓜 (next 𝓜 s (cell_move 𝓜 s w c k₀ Free i m₀ m)) m
    pub reference_kept : (m ≡ m₀) ⊎ ReferenceGoes w Free m₀
    pub reads : (v d : ℕ) → bit (reads_for v d m) ≡ bit (reads_for v d m₀)
    pub asks : (v d : ℕ) → bit (asks_for v d m) ≡ bit (asks_for v d m₀)
    pub weights : (a b : ℕ) → cell_holds 𝓜 s a b k₀ + message_holds 𝓜 s a b m₀ ≡ message_holds 𝓜 s a b m
    pub holds_ok : (m ≡ m₀) ⊎ ((a b : ℕ) → message_holds 𝓜 (next 𝓜 s (cell_move 𝓜 s w c k₀ Free i m₀ m)) a b m ≡ message_holds 𝓜 s a b m)
    pub room : (v : ℕ) → booked s v + bit (goes_to v m) ≤ free_cells 𝓜 s v + bit (goes_to v m₀)

  frees : (w c : ℕ) (k₀ : Kind) (i : ℕ) (m₀ m : Message) → Frees w c k₀ i m₀ m → CellMoves 𝓜 L s w c k₀ Free i m₀ m
  frees w c k₀ i m₀ m f =
      let inside = cell_inside 𝓜 s w c (ap is_free f.old_cell ∙ f.not_free) in
      let quiet = idle_parts 𝓜 s w c f.idle in
      let no_read : is_reading k₀ ≡ false = sym (ap is_reading f.old_cell) ∙ quiet.2 in
      let no_ask : is_asking k₀ ≡ false = sym (ap is_asking f.old_cell) ∙ quiet.3 in
      record {
        w_in = inside.0;
        c_in = inside.1;
        i_in = f.i_in;
        old_cell = f.old_cell;
        old_message = f.old_message;
        cell_ok = tt;
        message_ok = f.message_ok;
        busy_kept = λ b v. absurd_bool b f.idle;
        var_kept = λ x v. absurd_bool x quiet.0;
        reference_kept = f.reference_kept;
        ex_new = λ d a b t y. absurd_bool t refl;
        reads = λ v d. omega (arith, f.reads v d, ap (λ (z : Bool). cond (eqb w v && eqb c d) (bit z) 0) no_read);
        asks = λ v d. omega (arith, f.asks v d, ap (λ (z : Bool). cond (eqb w v && eqb c d) (bit z) 0) no_ask);
        weights = λ a b. omega (arith, f.weights a b);
        holds_ok = f.holds_ok;
        room = λ v. omega (arith, f.room v, ap (λ (z : Bool). cond (eqb w v) (bit z) 0) f.not_free, zero_cond (eqb w v));
      }

  -- nothing is sent
  frees_only : (w c : ℕ) (k₀ : Kind) → cell 𝓜 s w c ≡ k₀ → is_free k₀ ≡ false → busy 𝓜 s w c ≡ false → ((a b : ℕ) → cell_holds 𝓜 s a b k₀ ≡ 0)
      → Makes 𝓜 s (put_cell 𝓜 s w c Free)
  frees_only w c k₀ q nf idle light =
      cell_makes w c k₀ Free
      (frees w c k₀ 0 (message s 0) (message s 0)
      (record {
        i_in = L.slots_some;
        old_cell = q;
        not_free = nf;
        idle = idle;
        old_message = refl;
        message_ok = inl refl;
        reference_kept = inl refl;
        reads = λ v d. refl;
        asks = λ v d. refl;
        weights = λ a b. omega (arith, light a b);
        holds_ok = inl refl;
        room = λ v. omega (arith, F.room v);
      }))
      (λ t. tt)

  -- an EX's whole weight goes into an empty slot, as a Reference or as a Release
  frees_sent : (w c : ℕ) {o e n : ℕ} {st : Status} {a : Bool} (m : Message) → cell 𝓜 s w c ≡ Ex o e n st a → busy 𝓜 s w c ≡ false
      → leb 𝓜.slots (lowest_empty_slot 𝓜 s) ≡ false → Sends 𝓜 s o e n m → ((v : ℕ) → booked s v + bit (goes_to v m) ≤ free_cells 𝓜 s v + 0)
      → Makes 𝓜 s (put_message (put_cell 𝓜 s w c Free) (lowest_empty_slot 𝓜 s) m)
  frees_sent w c {o} {e} {n} {st} {a} m q idle full z room =
      let slot = empty_slot 𝓜 L s F full in
      let after = next 𝓜 s (cell_move 𝓜 s w c (Ex o e n st a) Free (lowest_empty_slot 𝓜 s) Empty m) in
      makes_by 𝓜 s (stores_cell_message 𝓜 L s F w c (Ex o e n st a) Free (lowest_empty_slot 𝓜 s) Empty m
      (frees w c (Ex o e n st a) (lowest_empty_slot 𝓜 s) Empty m
      (record {
        i_in = slot.0;
        old_cell = q;
        not_free = refl;
        idle = idle;
        old_message = slot.1;
        reference_kept = inr tt;
        message_ok = inr (z.ok after refl);
        reads = λ v d. ap bit (z.no_read v d);
        asks = λ v d. ap bit (z.no_ask v d);
        weights = λ x y. omega (arith, z.holds s x y);
        holds_ok = inr (λ x y. z.holds after x y ∙ sym (z.holds s x y));
        room = room;
      })))
      (inr (0, z.no_ahead after)) (λ t. record { answer_ok = inr (z.no_answer after); known_ok = inr tt })

  -- "transfer"
  pub transfer_makes : (w c to : ℕ) → Makes 𝓜 s (made 𝓜 s (transfer 𝓜 s w c to)).after
  unfolding transfer
  transfer_makes w c to =
      makes_checked 𝓜 s (transfer_refusals 𝓜 s w c to) (transferred w c to (cell 𝓜 s w c) (lowest_empty_slot 𝓜 s))
      (λ p.
      let u = worker_used to (search) in
      let x = the_ex (cell 𝓜 s w c) (not-false (search)) in
      let r = has_room_lem 𝓜 L s F to (search) in
      let o = x.owner in
      let e = x.entry in
      let n = x.weight in
      let sends = reference_sends to o e n u.0 (weight_some w c x.is) in
      rw x.is (frees_sent w c (Reference to o e n) x.is (search) (search) sends (room_sent 𝓜 L s F to o e n r)))

  -- "drop"
  pub drop_makes : (w c : ℕ) → Makes 𝓜 s (made 𝓜 s (drop 𝓜 s w c)).after
  unfolding drop
  drop_makes w c =
      makes_checked 𝓜 s (drop_refusals 𝓜 s w c) (dropped w c (cell 𝓜 s w c) (lowest_empty_slot 𝓜 s))
      (λ p. go (cell 𝓜 s w c) refl (search) (search) (search))
    where
      go : (k : Kind) → cell 𝓜 s w c ≡ k → is_free (cell 𝓜 s w c) ≡ false → busy 𝓜 s w c ≡ false
          → (is_ex (cell 𝓜 s w c) && leb 𝓜.slots (lowest_empty_slot 𝓜 s)) ≡ false → Makes 𝓜 s (changed 𝓜 s (dropped w c k (lowest_empty_slot 𝓜 s)).change)
      go Free q nf idle full = absurd_bool (ap is_free q) nf
      go (Var caller) q nf idle full = frees_only w c (Var caller) q refl idle (λ a b. refl)
      go (Val n caller) q nf idle full = frees_only w c (Val n caller) q refl idle (λ a b. refl)
      go (Ref d) q nf idle full = frees_only w c (Ref d) q refl idle (λ a b. refl)
      go (Ex o e n st a) q nf idle full =
          frees_sent w c (Release o e n) q idle
          (subst (λ (k : Kind). (is_ex k && leb 𝓜.slots (lowest_empty_slot 𝓜 s)) ≡ false) q full)
          (release_sends o e n (weight_some w c q))
          (room_same 𝓜 L s F)
