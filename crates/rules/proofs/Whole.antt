-- Demand 3, for every machine whose sizes and weights meet a few laws. Assumes nothing.
use Prim.Native.Nat.{ℕ, zero, suc, ◌+◌, ◌≤◌, ◌<◌}
use native.Mathlib.Omega.{arith}
use mathlib.Core.Path.{◌≡◌, refl, sym, ap, subst, ◌∙◌}
use mathlib.Core.Bool.{Bool, true, false, ◌&&◌, ◌||◌, not, cond}
use mathlib.Core.List.{List, [], ◌∷◌}
use mathlib.Core.Logic.{◌⊎◌, inl, inr, ⊎_elim}
use lib.Dec.{eqb}
use borrow.Author.Tests.{eq-eqb, ne_eqb, not-true}
use Rattle.numbers.specs.Below.{bit}
use Rattle.numbers.specs.Tests.{absurd_bool, and_l, and_r}
use Rattle.numbers.specs.ListLaws.{total_some}
use Rattle.tables.specs.declared.Slot.{Slot}
use Rattle.tables.specs.declared.Status.{Status}
use Rattle.tables.specs.declared.Status.TheVariants.{Idle, Reading, Known}
use Rattle.tables.specs.declared.Kind.{Kind}
use Rattle.tables.specs.declared.Kind.TheVariants.{Val, Ex}
use Rattle.tables.specs.declared.Message.{Message}
use Rattle.tables.specs.declared.Message.TheVariants.{Empty, Reference, Release, Read, Answer, Ask, Supply}
use Rattle.tables.specs.declared.Outcome.TheVariants.{Done}
use Rattle.tables.specs.declared.Call.{Call}
use Rattle.tables.specs.declared.Call.TheVariants.{Start, New, Set, Bind, Export, Indirect, Transfer, Drop, ReadCell, AskWeight, Deliver, Bound}
use Rattle.tables.specs.declared.Effect.{Effect}
use Rattle.tables.specs.Machine.{Machine, Tables}
use Rattle.tables.specs.Parts.{Holding, place, is_free, is_var, is_val, caller_of, is_reading, named_by, is_live, entry_weight, is_empty}
use Rattle.tables.specs.Look.{cell, entry, message, put_cell, changed}
use Rattle.rules.specs.Answers.{Result, answered, made, succeeds, checked}
use Rattle.states.specs.Sound.{reads_for, reads_of, held, sound}
use Rattle.states.specs.Chains.{ahead, EndsIn}
use Rattle.rules.specs.Refusals.{ready, bound_refusals}
use Rattle.rules.specs.Calls.{start, bound, B}
use Rattle.rules.specs.Deliver.{deliver_home, deliver_away, deliver_release, deliver_read, deliver_answer, deliver_supply, deliver_ask, deliver_message, deliver}
use Rattle.rules.specs.Step.{is_start, makes_ref, step, run, delivers, drained, successes, Reached, begun, after}
use Rattle.rules.specs.Payers.{itself}
use Rattle.states.specs.Machines.{Laws}
use Rattle.states.specs.Facts.{EntryFact, Facts, ReadAhead, Reads, KnownFact}
use Rattle.states.proofs.Inside.{cell_inside}
use Rattle.states.proofs.Derived.{LivePlace, names_live, named_place}
use Rattle.states.proofs.Named.{both_eq}
use Rattle.states.proofs.FromTest.{sound_facts, sound_reads}
use Rattle.states.proofs.ToTest.{facts_sound}
use Rattle.states.specs.Move.{Makes, nothing, Ranked, Invariant}
use Rattle.rules.specs.Statements.{no_start, CallsKeepSound, FreedAtNothing, AtMostB, holds_ready, AtRest, slots_taken, TakesReady, RestIsReached, read_of_unbound, KnownWith, Brought, CallersKept, ReferenceKeepsContext, OnlyBindMovesPayers, KnownBindTakesValue, Demand3}
use Rattle.rules.proofs.Measure.{measure, measure_bound, StatusOn, KindOn, ExOn, Arrived, arrived}
use Rattle.states.proofs.Stays.{facts_made, invariant_made}
use Rattle.rules.proofs.Context.{message_live, context_made, reference_made}
use Rattle.rules.proofs.Cells.{put_stored, put_entries, Becomes, step_becomes, step_leaves, keeps_entry, keeps_caller, CallerFact, keeps_caller_fact}
use Rattle.rules.proofs.Steps.{makes_checked, not-false}
use Rattle.rules.proofs.Local.{new_makes, set_makes, bind_makes, transfer_makes, drop_makes}
use Rattle.rules.proofs.Send.{export_makes, indirect_makes, read_makes, ask_makes}
use Rattle.rules.proofs.Arrive.{message_arrives, deliver_makes}
use Rattle.rules.proofs.Begun.{start_free, start_invariant}
use Rattle.rules.proofs.Chains.{ends_one, on_chain}
use Rattle.rules.proofs.Payers.{comes_to_context, context_pays, cell_is_paid, keeps_payers, bind_moves_payers}
use Rattle.rules.proofs.KnownBind.{known_bind_is_done, value_ends}
use Rattle.std.specs.Prelude.{None, Some}

-- ---- every sequence
module _ (𝓜 : Machine) where
  reached_run : (s : Tables) (qs : List Call) → Reached 𝓜 s → no_start qs ≡ true → Reached 𝓜 (run 𝓜 s qs)
  unfolding run
  reached_run s [] r none = r
  reached_run s (q ∷ qs) r none =
      reached_run (step 𝓜 s q).after qs (after r q (not-true (is_start q) (and_l (not (is_start q)) (no_start qs) none)))
      (and_r (not (is_start q)) (no_start qs) none)

  reached_drained : (s : Tables) (ks : List ℕ) → Reached 𝓜 s → Reached 𝓜 (drained 𝓜 s ks)
  unfolding drained step
  reached_drained s [] r = r
  reached_drained s (k ∷ ks) r = reached_drained (made 𝓜 s (deliver 𝓜 s k)).after ks (after r (Deliver k) refl)

module _ (𝓜 : Machine) (L : Laws 𝓜) where
  -- ---- every call makes nothing, or a move; so the invariant holds of every reached state
  bound_makes : (s : Tables) → Makes 𝓜 s (made 𝓜 s (bound 𝓜 s)).after
  unfolding bound
  bound_makes s =
      makes_checked 𝓜 s (bound_refusals 𝓜 s) (answered (Done (B 𝓜 s))) (λ p. nothing)

  -- a call is a start, or makes of a sound state what it must
  call_makes : (s : Tables) → Facts 𝓜 s → Reads 𝓜 s → (q : Call) → ((p : ℕ) × (q ≡ Start p)) ⊎ Makes 𝓜 s (step 𝓜 s q).after
  unfolding step
  call_makes s F reads (Start p) = inl (p, refl)
  call_makes s F reads (New w caller) = inr (new_makes 𝓜 L s F w caller)
  call_makes s F reads (Set w c v) = inr (set_makes 𝓜 L s F w c v)
  call_makes s F reads (Bind w c x) = inr (bind_makes 𝓜 L s F w c x)
  call_makes s F reads (Export w c to) = inr (export_makes 𝓜 L s F w c to)
  call_makes s F reads (Indirect w c to) = inr (indirect_makes 𝓜 L s F w c to)
  call_makes s F reads (Transfer w c to) = inr (transfer_makes 𝓜 L s F w c to)
  call_makes s F reads (Drop w c) = inr (drop_makes 𝓜 L s F w c)
  call_makes s F reads (ReadCell w c) = inr (read_makes 𝓜 L s F w c)
  call_makes s F reads (AskWeight w c) = inr (ask_makes 𝓜 L s F w c)
  call_makes s F reads (Deliver k) = inr (deliver_makes 𝓜 L s F reads k)
  call_makes s F reads Bound = inr (bound_makes s)

  step_makes : (s : Tables) → Facts 𝓜 s → Reads 𝓜 s → (q : Call) → is_start q ≡ false → Makes 𝓜 s (step 𝓜 s q).after
  step_makes s F reads q n = ⊎_elim (λ x. absurd_bool (ap is_start x.1) n) (λ m. m) (call_makes s F reads q)

  pub reached_invariant : (s : Tables) → Reached 𝓜 s → Invariant 𝓜 s
  reached_invariant s (begun p ok) = start_invariant 𝓜 p
  reached_invariant s (after {s = t} r q n) =
      let I = reached_invariant t r in
      invariant_made 𝓜 t (step 𝓜 t q).after I (step_makes t I.facts I.reads q n)

  -- and every cell becomes what it may
  reached_becomes : (s : Tables) → Reached 𝓜 s → (q : Call) → is_start q ≡ false → (w c : ℕ)
      → Becomes (makes_ref 𝓜 s q) (cell 𝓜 s w c) (cell 𝓜 (step 𝓜 s q).after w c)
  reached_becomes s r q n = step_becomes 𝓜 L s (reached_invariant s r).facts.sized q n

  callers_kept : CallersKept 𝓜
  callers_kept s r q n w c who = keeps_caller who (reached_becomes s r q n w c)

  keeps_context : ReferenceKeepsContext 𝓜
  keeps_context s r q n =
      let I = reached_invariant s r in
      context_made 𝓜 s (step 𝓜 s q).after I.facts (step_makes s I.facts I.reads q n) (callers_kept s r q n)

  -- ---- sound: every reached state, and what a call makes of any sound one
  is_sound : (s : Tables) → Invariant 𝓜 s → sound 𝓜 s ≡ true
  is_sound s I = facts_sound 𝓜 L s I.facts I.reads

  pub calls_keep_sound : CallsKeepSound 𝓜
  unfolding step
  calls_keep_sound s z h q = go (call_makes s F reads q)
    where
      F : Facts 𝓜 s
      F = sound_facts 𝓜 L s z h

      reads : Reads 𝓜 s
      reads = sound_reads 𝓜 L s z h

      go : ((p : ℕ) × (q ≡ Start p)) ⊎ Makes 𝓜 s (step 𝓜 s q).after → sound 𝓜 (step 𝓜 s q).after ≡ true
      go (inl x) = rw x.1 (is_sound (start 𝓜 x.0).after (start_invariant 𝓜 x.0))
      go (inr m) =
          let t = facts_made 𝓜 s (step 𝓜 s q).after F reads m in
          facts_sound 𝓜 L (step 𝓜 s q).after t.0 t.1

  -- ---- weights
  freed : FreedAtNothing 𝓜
  freed s r w e = go (entry 𝓜 s w e) (I.facts.entries w e) (I.facts.weighed w e)
    where
      I : Invariant 𝓜 s
      I = reached_invariant s r

      go : (x : Holding) → EntryFact 𝓜 s w x → entry_weight x ≡ held 𝓜 s w e → is_live x ≡ not (eqb (held 𝓜 s w e) 0)
      go None f q = sym (ap not (eq-eqb (held 𝓜 s w e) 0 (sym q)))
      go (Some l) f q = sym (ap not (ne_eqb (held 𝓜 s w e) 0 (λ z. omega (arith, f.1))))

  -- ---- one delivery: refused where the slot holds no ready message, and else the message arrives
  message_done : (s : Tables) (k : ℕ) (m : Message) → succeeds (deliver_message 𝓜 s k m).outcome ≡ true
  unfolding deliver_message deliver_home deliver_away deliver_release deliver_read deliver_answer deliver_supply deliver_ask
  message_done s k Empty = refl
  message_done s k (Reference to o e w) = go (eqb to o)
    where
      go : (b : Bool) → succeeds (cond b (deliver_home 𝓜 s k o e w) (deliver_away 𝓜 s k to o e w)).outcome ≡ true
      go true = refl
      go false = refl
  message_done s k (Release o e w) = refl
  message_done s k (Read r c o e) = refl
  message_done s k (Answer r c v) = refl
  message_done s k (Ask a c o e) = refl
  message_done s k (Supply a c w) = refl

  pub data Delivery (s : Tables) (k : ℕ) : Type 0 where
    refused : holds_ready 𝓜 s k ≡ false → delivers 𝓜 s k ≡ false → (made 𝓜 s (deliver 𝓜 s k)).after ≡ s → Delivery s k
    arrives : holds_ready 𝓜 s k ≡ true → delivers 𝓜 s k ≡ true
        → ((r : ℕ → ℕ → ℕ) → Ranked 𝓜 s r → Arrived 𝓜 s r (made 𝓜 s (deliver 𝓜 s k)).after) → Delivery s k

  delivery : (s : Tables) → Invariant 𝓜 s → (k : ℕ) → Delivery s k
  unfolding deliver checked
  delivery s I k = go (sound 𝓜 s) (is_sound s I) (is_empty (message s k)) refl (ready 𝓜 s (message s k)) refl
    where
      -- what is given to a ready message
      given : Effect
      given = deliver_message 𝓜 s k (message s k)

      go : (a : Bool) → sound 𝓜 s ≡ true → (b : Bool) → is_empty (message s k) ≡ b → (c : Bool) → ready 𝓜 s (message s k) ≡ c → Delivery s k
      go a t true e c f = refused (ap (λ (x : Bool). not x && ready 𝓜 s (message s k)) e) (rw (t, e)) (rw (t, e))
      go a t false e true f =
          let arrival = message_arrives 𝓜 L s I.facts I.reads k (message s k) refl e f in
          arrives (rw (e, f)) (rw (t, e, f) (message_done s k (message s k)))
          (λ r R. rw (t, e, f) (arrived 𝓜 L s I r R (changed 𝓜 s given.change) arrival))
      go a t false e false f = refused (rw (e, f)) (rw (t, e, f)) (rw (t, e, f))

  delivers_ready : (s : Tables) → Invariant 𝓜 s → (k : ℕ) → delivers 𝓜 s k ≡ holds_ready 𝓜 s k
  delivers_ready s I k = go (delivery s I k)
    where
      go : Delivery s k → delivers 𝓜 s k ≡ holds_ready 𝓜 s k
      go (refused a b c) = b ∙ sym a
      go (arrives a b x) = b ∙ sym a

  -- ---- deliveries in any order: each that succeeds lowers the measure
  few_succeed : (s : Tables) (I : Invariant 𝓜 s) (r : ℕ → ℕ → ℕ) → Ranked 𝓜 s r → (ks : List ℕ) → successes 𝓜 s ks ≤ measure 𝓜 s r
  unfolding successes
  few_succeed s I r R [] = omega arith
  few_succeed s I r R (k ∷ ks) = go (delivery s I k) (λ t J Q. few_succeed t J r Q ks)
    where
      go : Delivery s k → ((t : Tables) → Invariant 𝓜 t → Ranked 𝓜 t r → successes 𝓜 t ks ≤ measure 𝓜 t r)
          → bit (delivers 𝓜 s k) + successes 𝓜 (made 𝓜 s (deliver 𝓜 s k)).after ks ≤ measure 𝓜 s r
      go (refused a b same) rec = rw (b, same) (omega (arith, rec s I R))
      go (arrives a b x) rec =
          let y = x r R in
          omega (arith, ap bit b, rec (made 𝓜 s (deliver 𝓜 s k)).after y.invariant y.ranked, y.lower)

  at_most_b : AtMostB 𝓜
  at_most_b s r ks =
      let I = reached_invariant s r in
      omega (arith, few_succeed s I I.rank I.ranked ks, measure_bound 𝓜 L s I.facts I.rank)

  -- ---- rest is reached: each ready message that is taken lowers the measure
  -- the slots taken lead to rest, in fewer than n deliveries
  abbrev RestsWithin : ℕ → Tables → (ℕ → ℕ) → Type 0
  RestsWithin n s slot = (i : ℕ) × (i < n) × AtRest 𝓜 (drained 𝓜 s (slots_taken 𝓜 slot i))

  rest_within : (n : ℕ) (s : Tables) → Invariant 𝓜 s → (r : ℕ → ℕ → ℕ) → Ranked 𝓜 s r → measure 𝓜 s r < n → (slot : ℕ → ℕ) → TakesReady 𝓜 s slot
      → RestsWithin n s slot
  unfolding drained slots_taken
  rest_within zero s I r R few slot takes = absurd (omega arith)
  rest_within (suc n) s I r R few slot takes =
      go (takes 0) (delivery s I (slot 0)) (λ t J Q less. rest_within n t J r Q less (λ i. slot (suc i)))
    where
      t : Tables
      t = (made 𝓜 s (deliver 𝓜 s (slot 0))).after

      go : AtRest 𝓜 s ⊎ (holds_ready 𝓜 s (slot 0) ≡ true) → Delivery s (slot 0)
          → ((t : Tables) → Invariant 𝓜 t → Ranked 𝓜 t r → measure 𝓜 t r < n → TakesReady 𝓜 t (λ i. slot (suc i)) → RestsWithin n t (λ i. slot (suc i)))
          → RestsWithin (suc n) s slot
      go (inl rest) d rec = (0, omega arith, rest)
      go (inr is_ready) (refused a b c) rec = absurd_bool is_ready a
      go (inr is_ready) (arrives a b x) rec =
          let y = x r R in
          let later = rec t y.invariant y.ranked (omega (arith, y.lower)) (λ i. takes (suc i)) in
          (suc later.0, omega (arith, later.1), later.2)

  rest_is_reached : RestIsReached 𝓜
  rest_is_reached s r slot takes =
      let I = reached_invariant s r in
      let x = rest_within (suc (B 𝓜 s)) s I I.rank I.ranked (omega (arith, measure_bound 𝓜 L s I.facts I.rank)) slot takes in
      (x.0, omega (arith, x.1), x.2)

  -- ---- at rest
  unbound_left : (s : Tables) (m : Message) → (not (is_empty m) && ready 𝓜 s m) ≡ false → read_of_unbound 𝓜 s m ≡ true
  unfolding ready
  unbound_left s Empty t = refl
  unbound_left s (Reference to o e w) t = absurd_bool refl t
  unbound_left s (Release o e w) t = absurd_bool refl t
  unbound_left s (Read r c o e) t = not-false t
  unbound_left s (Answer r c v) t = absurd_bool refl t
  unbound_left s (Ask a c o e) t = absurd_bool refl t
  unbound_left s (Supply a c w) t = absurd_bool refl t

  -- ---- a read on a chain that ends in a value brings it
  -- an EX that is reading, on a chain that ends in v, or is known with v
  pub data Told (s : Tables) (w c o e v : ℕ) : Type 0 where
    reads_on : (n : ℕ) (a : Bool) → cell 𝓜 s w c ≡ Ex o e n Reading a → EndsIn 𝓜 s (place o e) v → Told s w c o e v
    already_known : (n : ℕ) (a : Bool) → cell 𝓜 s w c ≡ Ex o e n (Known v) a → Told s w c o e v

  told_next : (s t : Tables) (r : ℕ → ℕ → ℕ) (w c o e v : ℕ) → Arrived 𝓜 s r t → Told s w c o e v → Told t w c o e v
  told_next s t r w c o e v x (reads_on n a q ends) = by y.status y.is y.on
    where
      y : ExOn o e Reading (cell 𝓜 t w c)
      y = subst (λ (k : Kind). KindOn k (cell 𝓜 t w c)) q (x.on w c)

      there : EndsIn 𝓜 t (place o e) v
      there =
          x.ends (place o e) v
          (subst (LivePlace 𝓜 t) (ap named_by y.is) (named_place 𝓜 t x.invariant.facts w c))
          ends

      by : (st : Status) → cell 𝓜 t w c ≡ Ex o e y.weight st y.asking → StatusOn Reading st → Told t w c o e v
      by Idle i on = absurd on
      by Reading i on = reads_on y.weight y.asking i there
      by (Known u) i on =
          let true_end : EndsIn 𝓜 t (place o e) u = subst (KnownFact 𝓜 t) i (x.invariant.known.exes w c) in
          let same = ends_one 𝓜 t (place o e) u v true_end there in
          already_known y.weight y.asking (i ∙ ap (λ (z : ℕ). Ex o e y.weight (Known z) y.asking) same)
  told_next s t r w c o e v x (already_known n a q) = by y.status y.is y.on
    where
      y : ExOn o e (Known v) (cell 𝓜 t w c)
      y = subst (λ (k : Kind). KindOn k (cell 𝓜 t w c)) q (x.on w c)

      by : (st : Status) → cell 𝓜 t w c ≡ Ex o e y.weight st y.asking → StatusOn (Known v) st → Told t w c o e v
      by Idle i on = absurd on
      by Reading i on = absurd on
      by (Known u) i on =
          already_known y.weight y.asking (i ∙ ap (λ (z : ℕ). Ex o e y.weight (Known z) y.asking) (sym on))

  told_drained : (s : Tables) (ks : List ℕ) (w c o e v : ℕ) → Invariant 𝓜 s → Told s w c o e v → Told (drained 𝓜 s ks) w c o e v
  unfolding drained
  told_drained s [] w c o e v I t = t
  told_drained s (k ∷ ks) w c o e v I t = go (delivery s I k) (λ y J u. told_drained y ks w c o e v J u)
    where
      go : Delivery s k → ((y : Tables) → Invariant 𝓜 y → Told y w c o e v → Told (drained 𝓜 y ks) w c o e v)
          → Told (drained 𝓜 (made 𝓜 s (deliver 𝓜 s k)).after ks) w c o e v
      go (refused a b same) rec = rw same (rec s I t)
      go (arrives a b x) rec =
          let y = x I.rank I.ranked in
          let after = (made 𝓜 s (deliver 𝓜 s k)).after in
          rec after y.invariant (told_next s after I.rank w c o e v y t)

  -- at rest nobody on such a chain is still reading
  told_rest : (s : Tables) (w c o e v : ℕ) → Invariant 𝓜 s → AtRest 𝓜 s → Told s w c o e v → KnownWith 𝓜 s w c o e v
  unfolding reads_of ready
  told_rest s w c o e v I rest (already_known n a q) = record { weight = n; asking = a; is = q }
  told_rest s w c o e v I rest (reads_on n a q ends) =
      let one : 1 ≤ reads_of 𝓜 s w c = omega (arith, I.facts.reads_one w c, ap (λ (k : Kind). bit (is_reading k)) q) in
      let slot = total_some (λ (y : Slot). bit (reads_for w c y.message)) s.slots (record { message = Empty }) one in
      absurd (pending slot.0 (message s slot.0) refl slot.2)
    where
      pending : (k : ℕ) (m : Message) → message s k ≡ m → 1 ≤ bit (reads_for w c m) → ⊥
      pending k Empty i t = omega arith
      pending k (Reference to o' e' u) i t = omega arith
      pending k (Release o' e' u) i t = omega arith
      pending k (Read r d o' e') i t = go (reads_for w c (Read r d o' e')) refl t
        where
          go : (b : Bool) → reads_for w c (Read r d o' e') ≡ b → 1 ≤ bit b → ⊥
          go false f u = omega arith
          go true f u =
              let same = both_eq r w d c f in
              let at : (m : ℕ) × ReadAhead 𝓜 s m (Read r d o' e') = rw i at (I.reads k) in
              let from : named_by (cell 𝓜 s r d) ≡ place o e = rw (same.0, same.1, q) in
              let there : ahead 𝓜 s at.0 (place o e) ≡ place o' e' = sym (ap (ahead 𝓜 s at.0) from) ∙ at.1 in
              on_chain 𝓜 s (place o e) at.0 v o' e' ends there (unbound_left s (Read r d o' e') (rw i at (rest k)))
      pending k (Answer r d u) i t = absurd_bool refl (rw i at (rest k))
      pending k (Ask x d o' e') i t = omega arith
      pending k (Supply x d u) i t = omega arith

  brought : Brought 𝓜
  brought s r w c o e n v a q ends ks rest =
      told_rest (drained 𝓜 s ks) w c o e v (reached_invariant (drained 𝓜 s ks) (reached_drained 𝓜 s ks r)) rest
      (told_drained s ks w c o e v (reached_invariant s r) (reads_on n a q ends))

  -- ---- who pays
  reached_callers : (s : Tables) → Reached 𝓜 s → (w c : ℕ) → CallerFact (cell 𝓜 s w c)
  reached_callers s (begun p ok) w c = rw (start_free 𝓜 p w c) refl
  reached_callers s (after {s = t} r q n) w c = keeps_caller_fact (reached_becomes t r q n w c) (reached_callers t r w c)

  only_bind_moves_payers : OnlyBindMovesPayers 𝓜
  only_bind_moves_payers s r q n no_ref =
      let t = (step 𝓜 s q).after in
      keeps_payers 𝓜 L s t (reached_invariant s r) (reached_invariant t (after r q n))
      (λ w c. subst (λ (b : Bool). Becomes b (cell 𝓜 s w c) (cell 𝓜 t w c)) no_ref (reached_becomes s r q n w c)) (step_leaves 𝓜 s q n)
      (λ o e live live'. (keeps_context s r q n o e live live').same_cell)

  -- ---- a bind to a known EX
  known_bind_takes_value : KnownBindTakesValue 𝓜
  known_bind_takes_value s r w c x o e n v caller a there var known =
      let I = reached_invariant s r in
      let q = Bind w c x in
      let t = (step 𝓜 s q).after in
      let done = known_bind_is_done 𝓜 s (is_sound s I) w c x o e n v caller a there var known in
      let next : t ≡ put_cell 𝓜 s w c (Val v caller) = ap (λ (y : Result). y.after) done in
      let inside = cell_inside 𝓜 s w c (ap is_free var) in
      let stored = put_stored 𝓜 L s I.facts.sized w c (Val v caller) inside.0 inside.1 in
      let is : cell 𝓜 t w c ≡ Val v caller = ap (λ (u : Tables). cell 𝓜 u w c) next ∙ stored.here in
      record {
        ends_there =
            λ i j live l.
            let live' = ap (λ (u : Tables). is_live (entry 𝓜 u i j)) next ∙ ap is_live (put_entries 𝓜 s w c (Val v caller) i j) ∙ live in
            value_ends 𝓜 t w c v caller l.steps l.number (place i j) is ((keeps_context s r q refl i j live live').same_steps w c l);
        own_caller_pays =
            context_pays 𝓜 L t (reached_invariant t (after r q refl)) w c w c (itself refl refl (ap (λ (k : Kind). is_var k || is_val k) is)) ∙ ap caller_of is;
      }

  -- ---- the whole
  pub demand_3 : Demand3 𝓜
  demand_3 =
      record {
        every_sequence = λ p qs ok none. reached_run 𝓜 (start 𝓜 p).after qs (begun p ok) none;
        stays_sound = λ s r. is_sound s (reached_invariant s r);
        weights = λ s r. (reached_invariant s r).facts.weighed;
        freed_at_nothing = freed;
        no_loops = λ s r. comes_to_context 𝓜 L s (reached_invariant s r);
        at_most_b = at_most_b;
        ready_succeeds = λ s r ks. delivers_ready (drained 𝓜 s ks) (reached_invariant (drained 𝓜 s ks) (reached_drained 𝓜 s ks r));
        only_unbound_reads = λ s r ks rest k. unbound_left (drained 𝓜 s ks) (message (drained 𝓜 s ks) k) (rest k);
        rest_is_reached = rest_is_reached;
        brought = brought;
        known_is_true = λ s r w c o e n v a q. subst (KnownFact 𝓜 s) q ((reached_invariant s r).known.exes w c);
        refers_to_live =
            λ s r o e. let I = reached_invariant s r in (λ w c. names_live 𝓜 s I.facts w c o e, λ k. message_live 𝓜 s I.facts I.reads k o e);
        reference_keeps_naming =
            λ s r q n.
            record {
              same_entry = λ w c o e. keeps_entry o e (reached_becomes s r q n w c);
              same_reference = let I = reached_invariant s r in reference_made 𝓜 s (step 𝓜 s q).after I.facts (step_makes s I.facts I.reads q n);
            };
        reference_keeps_context = keeps_context;
        callers_kept = callers_kept;
        every_cell_is_paid = λ s r. cell_is_paid 𝓜 L s (reached_invariant s r) (reached_callers s r);
        context_pays = λ s r. context_pays 𝓜 L s (reached_invariant s r);
        only_bind_moves_payers = only_bind_moves_payers;
        bind_moves_payers =
            λ s r w c x unknown.
            bind_moves_payers 𝓜 L s (reached_invariant s r) w c x unknown (reached_invariant (step 𝓜 s (Bind w c x)).after (after r (Bind w c x) refl));
        known_bind_takes_value = known_bind_takes_value;
      }
