-- Demand 3, sentence by sentence, that every sound state stays sound, what the whole is for, that a context keeps its caller and a cell its payer, and
-- what a bind to a known EX does, as statements about the rules of a machine.
-- Nothing else is on this page; the proofs are in proofs/. The order's own words stand in quotation marks.
--
-- "Take any sequence of calls, refused ones included, from an accepted start and with no second start in it" is `Reached` of the rules: every
-- accepted start, every call that is no start, with any numbers. "Then let only deliveries follow, in any order" is a list of slot numbers,
-- refused ones skipped (`drained`, `successes`).
use Rattle.std.specs.Prelude.{ℕ, zero, suc, ◌≤◌, ◌<◌, ◌≡◌, Bool, true, false, ◌&&◌, ◌||◌, not, List, [], ◌∷◌, ◌⊎◌, eqb}
use Rattle.tables.specs.declared.Status.TheVariants.{Reading, Known}
use Rattle.tables.specs.declared.Kind.TheVariants.{Var, Val, Ref, Ex}
use Rattle.tables.specs.declared.Message.{Message}
use Rattle.tables.specs.declared.Message.TheVariants.{Empty, Reference, Release, Read, Answer, Ask, Supply}
use Rattle.tables.specs.declared.Call.{Call}
use Rattle.tables.specs.declared.Call.TheVariants.{Bind}
use Rattle.tables.specs.declared.Outcome.TheVariants.{Done}
use Rattle.tables.specs.Machine.{Machine, Tables}
use Rattle.tables.specs.Parts.{place, is_free, is_var, is_val, has_caller, caller_of, is_ex, is_known, ex_names, is_live, is_tainted, entry_names, cell_of, entry_weight, is_empty}
use Rattle.tables.specs.Look.{cell, entry, end_kind, live_entries, message, put_cell}
use Rattle.rules.specs.Answers.{succeeds}
use Rattle.states.specs.Sound.{held, sound}
use Rattle.states.specs.Chains.{entry_end, ahead, EndsIn, LeadsTo}
use Rattle.rules.specs.Refusals.{ready}
use Rattle.rules.specs.Calls.{start, B}
use Rattle.states.specs.Machines.{Sized}
use Rattle.rules.specs.Step.{is_start, makes_ref, step, run, delivers, drained, successes, Reached}
use Rattle.rules.specs.Payers.{is_caller, payer, CellLeadsTo}

-- a list of calls with no start in it
abbrev pub no_start : List Call → Bool
no_start [] = true
no_start (q ∷ qs) = not (is_start q) && no_start qs

-- a message names the entry e of worker o; an Answer and a Supply name an EX
abbrev pub message_names : ℕ → ℕ → Message → Bool
message_names o e Empty = false
message_names o e (Reference to owner number n) = eqb owner o && eqb number e
message_names o e (Release owner number n) = eqb owner o && eqb number e
message_names o e (Read r c owner number) = eqb owner o && eqb number e
message_names o e (Answer r c v) = false
message_names o e (Ask a c owner number) = eqb owner o && eqb number e
message_names o e (Supply a c n) = false

module _ (𝓜 : Machine) where
  -- "Take any sequence of calls, refused ones included, from an accepted start and with no second start in it": it leads to a reached state.
  abbrev pub EverySequence : Type 0
  EverySequence =
      (p : ℕ) (qs : List Call) → succeeds (start 𝓜 p).outcome ≡ true → no_start qs ≡ true → Reached 𝓜 (run 𝓜 (start 𝓜 p).after qs)

  -- The soundness test says yes, so that no reached state is refused 2.
  abbrev pub StaysSound : Type 0
  StaysSound = (s : Tables) → Reached 𝓜 s → sound 𝓜 s ≡ true

  -- "Each live entry's weight equals the weights held on it by references and messages": every entry's, 0 where it is free
  abbrev pub WeightIsHeld : Type 0
  WeightIsHeld = (s : Tables) → Reached 𝓜 s → (w e : ℕ) → entry_weight (entry 𝓜 s w e) ≡ held 𝓜 s w e

  -- ", and it is freed exactly when that reaches nothing.": it is live exactly while what is held on it is not 0
  abbrev pub FreedAtNothing : Type 0
  FreedAtNothing = (s : Tables) → Reached 𝓜 s → (w e : ℕ) → is_live (entry 𝓜 s w e) ≡ not (eqb (held 𝓜 s w e) 0)

  -- No loops: from a live entry, following ends and references comes to a context, a VAR or a VAL, in fewer steps than there are live entries.
  pub record ComesToAnEnd (s : Tables) (o e : ℕ) : Type 0 where
    pub worker : ℕ
    pub number : ℕ
    pub leads : LeadsTo 𝓜 s (place o e) worker number
    pub few : leads.steps < live_entries s

  abbrev pub NoLoops : Type 0
  NoLoops = (s : Tables) → Reached 𝓜 s → (o e : ℕ) → is_live (entry 𝓜 s o e) ≡ true → ComesToAnEnd s o e

  -- "Then let only deliveries follow, in any order. At most B of them succeed, B being document 01's sum over the messages"
  abbrev pub AtMostB : Type 0
  AtMostB = (s : Tables) → Reached 𝓜 s → (ks : List ℕ) → successes 𝓜 s ks ≤ B 𝓜 s

  -- "while a message is ready its delivery succeeds": in every state on the way, and exactly where the slot holds a ready message
  abbrev pub holds_ready : Tables → ℕ → Bool
  holds_ready s k = not (is_empty (message s k)) && ready 𝓜 s (message s k)

  abbrev pub ReadySucceeds : Type 0
  ReadySucceeds =
      (s : Tables) → Reached 𝓜 s → (ks : List ℕ) (k : ℕ) → delivers 𝓜 (drained 𝓜 s ks) k ≡ holds_ready (drained 𝓜 s ks) k

  -- at rest no message is ready
  abbrev pub AtRest : Tables → Type 0
  AtRest s = (k : ℕ) → holds_ready s k ≡ false

  -- "when none is ready, only reads of unbound variables remain": every message is then a Read, and the end of its entry's cell a VAR
  abbrev pub read_of_unbound : Tables → Message → Bool
  read_of_unbound s Empty = true
  read_of_unbound s (Reference to o e n) = false
  read_of_unbound s (Release o e n) = false
  read_of_unbound s (Read r c o e) = is_var (entry_end 𝓜 s o (entry 𝓜 s o e))
  read_of_unbound s (Answer r c v) = false
  read_of_unbound s (Ask a c o e) = false
  read_of_unbound s (Supply a c n) = false

  abbrev pub OnlyUnboundReads : Type 0
  OnlyUnboundReads =
      (s : Tables) → Reached 𝓜 s → (ks : List ℕ) → AtRest (drained 𝓜 s ks) → (k : ℕ) → read_of_unbound (drained 𝓜 s ks) (message (drained 𝓜 s ks) k) ≡ true

  -- And rest comes, whichever ready message is taken each time: where the slots of a sequence are delivered one after the other, and each
  -- holds a ready message so long as any is ready, none is ready after at most B of them.
  unfoldable pub slots_taken : (ℕ → ℕ) → ℕ → List ℕ
  slots_taken slot zero = []
  slots_taken slot (suc n) = slot 0 ∷ slots_taken (λ i. slot (suc i)) n

  abbrev pub TakesReady : Tables → (ℕ → ℕ) → Type 0
  TakesReady s slot =
      (n : ℕ) → AtRest (drained 𝓜 s (slots_taken slot n)) ⊎ (holds_ready (drained 𝓜 s (slots_taken slot n)) (slot n) ≡ true)

  abbrev pub RestIsReached : Type 0
  RestIsReached =
      (s : Tables) → Reached 𝓜 s → (slot : ℕ → ℕ) → TakesReady s slot → (n : ℕ) × (n ≤ B 𝓜 s) × AtRest (drained 𝓜 s (slots_taken slot n))

  -- "and every read that was pending on a chain ending in a value has brought that value": an EX that is reading in s, whose chain ends in
  -- VAL(v), is known with v in every state at rest that deliveries alone lead to, whether its message was a Read anywhere on the chain or
  -- already an Answer
  pub record KnownWith (s : Tables) (w c o e v : ℕ) : Type 0 where
    pub weight : ℕ
    pub asking : Bool
    pub is : cell 𝓜 s w c ≡ Ex o e weight (Known v) asking

  abbrev pub Brought : Type 0
  Brought =
      (s : Tables) → Reached 𝓜 s → (w c o e n v : ℕ) (a : Bool) → cell 𝓜 s w c ≡ Ex o e n Reading a → EndsIn 𝓜 s (place o e) v → (ks : List ℕ)
      → AtRest (drained 𝓜 s ks) → KnownWith (drained 𝓜 s ks) w c o e v

  -- What is known is true: an EX that is known with v has a chain that ends in VAL(v).
  abbrev pub KnownIsTrue : Type 0
  KnownIsTrue =
      (s : Tables) → Reached 𝓜 s → (w c o e n v : ℕ) (a : Bool) → cell 𝓜 s w c ≡ Ex o e n (Known v) a → EndsIn 𝓜 s (place o e) v

  -- ---- Every sound state, reached or made by hand, loops included: whatever the call and its numbers, the next state is sound.
  abbrev pub CallsKeepSound : Type 0
  CallsKeepSound = (s : Tables) → Sized 𝓜 s → sound 𝓜 s ≡ true → (q : Call) → sound 𝓜 (step 𝓜 s q).after ≡ true

  -- ---- A reference keeps its context

  -- Whatever refers to an entry, an EX or a message, refers to a live one,
  abbrev pub RefersToLive : Type 0
  RefersToLive =
      (s : Tables) → Reached 𝓜 s → (o e : ℕ)
      → ((w c : ℕ) → ex_names o e (cell 𝓜 s w c) ≡ true → is_live (entry 𝓜 s o e) ≡ true)
      × ((k : ℕ) → message_names o e (message s k) ≡ true → is_live (entry 𝓜 s o e) ≡ true)

  -- and goes on to: an EX that stays one names the entry that it named, and a Reference that leaves its slot has gone home to its owner, or
  -- is in an EX of that entry at the worker that it went to.
  pub data Gone (s : Tables) (to o e : ℕ) : Type 0 where
    home : to ≡ o → Gone s to o e
    away : (c : ℕ) → ex_names o e (cell 𝓜 s to c) ≡ true → Gone s to o e

  pub record KeepsNaming (s s' : Tables) : Type 0 where
    pub same_entry : (w c o e : ℕ) → ex_names o e (cell 𝓜 s w c) ≡ true → is_ex (cell 𝓜 s' w c) ≡ true → ex_names o e (cell 𝓜 s' w c) ≡ true
    pub same_reference : (k to o e n : ℕ) → message s k ≡ Reference to o e n → (message s' k ≡ message s k) ⊎ Gone s' to o e

  abbrev pub ReferenceKeepsNaming : Type 0
  ReferenceKeepsNaming = (s : Tables) → Reached 𝓜 s → (q : Call) → is_start q ≡ false → KeepsNaming s (step 𝓜 s q).after

  -- By `NoLoops` that entry leads to a context. From one state to the next the context is what it was, or a variable that has been given a
  -- value and keeps its caller, or bound; by which call, and to what, the rules say.
  pub data Continues (s s' : Tables) (w c : ℕ) : Type 0 where
    as_it_was : cell 𝓜 s' w c ≡ cell 𝓜 s w c → Continues s s' w c
    given_a_value : (v caller : ℕ) → cell 𝓜 s w c ≡ Var caller → cell 𝓜 s' w c ≡ Val v caller → Continues s s' w c
    bound_to_ref : (d caller : ℕ) → cell 𝓜 s w c ≡ Var caller → cell 𝓜 s' w c ≡ Ref d → Continues s s' w c

  -- While an entry is live from one state to the next it keeps its cell and its taint, that cell is not freed, and the entry leads by the same
  -- steps to the same context.
  pub record KeepsContext (s s' : Tables) (o e : ℕ) : Type 0 where
    pub same_cell : cell_of (entry 𝓜 s' o e) ≡ cell_of (entry 𝓜 s o e)
    pub same_taint : is_tainted (entry 𝓜 s' o e) ≡ is_tainted (entry 𝓜 s o e)
    pub not_freed : is_free (cell 𝓜 s' o (cell_of (entry 𝓜 s o e))) ≡ false
    pub same_steps : (w c : ℕ) (l : LeadsTo 𝓜 s (place o e) w c)
        → (ahead 𝓜 s' l.steps (place o e) ≡ place w l.number) × (entry_names c (entry 𝓜 s' w l.number) ≡ true)
    pub same_context : (w c : ℕ) → LeadsTo 𝓜 s (place o e) w c → Continues s s' w c

  -- So no number that something still refers to is ever given out again: between two uses of it lies a state in which it is free, and to a
  -- free one nothing refers.
  abbrev pub ReferenceKeepsContext : Type 0
  ReferenceKeepsContext =
      (s : Tables) → Reached 𝓜 s → (q : Call) → is_start q ≡ false → (o e : ℕ) → is_live (entry 𝓜 s o e) ≡ true
      → is_live (entry 𝓜 (step 𝓜 s q).after o e) ≡ true → KeepsContext s (step 𝓜 s q).after o e

  -- ---- W-201: "VAR and VAL cells carry it, `set` keeps it": whatever the call, a VAR or a VAL that stays one keeps its caller.
  abbrev pub KeepsCallers : Tables → Tables → Type 0
  KeepsCallers s s' =
      (w c who : ℕ) → has_caller who (cell 𝓜 s w c) ≡ true → (is_var (cell 𝓜 s' w c) || is_val (cell 𝓜 s' w c)) ≡ true → has_caller who (cell 𝓜 s' w c) ≡ true

  abbrev pub CallersKept : Type 0
  CallersKept = (s : Tables) → Reached 𝓜 s → (q : Call) → is_start q ≡ false → KeepsCallers s (step 𝓜 s q).after

  -- ---- W-202: who pays

  -- A cell has a payer exactly where it is not free, so that nothing is unplaced but charges with bad numbers or free cells.
  abbrev pub EveryCellIsPaid : Type 0
  EveryCellIsPaid = (s : Tables) → Reached 𝓜 s → (w c : ℕ) → is_caller (payer 𝓜 s w c) ≡ not (is_free (cell 𝓜 s w c))

  -- It is the caller of the context that the cell leads to.
  abbrev pub ContextPays : Type 0
  ContextPays = (s : Tables) → Reached 𝓜 s → (w c v d : ℕ) → CellLeadsTo 𝓜 s w c v d → payer 𝓜 s w c ≡ caller_of (cell 𝓜 s v d)

  -- No call but bind changes who pays for a cell that stays, nor for an entry that stays, which a message may name; and whatever entry an EX names
  -- after the call was live before it, and whoever paid for that entry's cell then pays for the EX. So time is never booked to a caller through a number
  -- that was given out again. A bind that is refused changes none of this either, nor, by W-203, does a bind to a known EX.
  pub record KeepsPayers (s s' : Tables) : Type 0 where
    pub of_cell : (w c : ℕ) → is_free (cell 𝓜 s w c) ≡ false → is_free (cell 𝓜 s' w c) ≡ false → payer 𝓜 s' w c ≡ payer 𝓜 s w c
    pub of_entry : (o e : ℕ) → is_live (entry 𝓜 s o e) ≡ true → is_live (entry 𝓜 s' o e) ≡ true
        → payer 𝓜 s' o (cell_of (entry 𝓜 s' o e)) ≡ payer 𝓜 s o (cell_of (entry 𝓜 s o e))
    pub of_reference : (o e w c : ℕ) → ex_names o e (cell 𝓜 s' w c) ≡ true
        → (is_live (entry 𝓜 s o e) ≡ true) × (payer 𝓜 s' w c ≡ payer 𝓜 s o (cell_of (entry 𝓜 s o e)))

  abbrev pub OnlyBindMovesPayers : Type 0
  OnlyBindMovesPayers =
      (s : Tables) → Reached 𝓜 s → (q : Call) → is_start q ≡ false → makes_ref 𝓜 s q ≡ false → KeepsPayers s (step 𝓜 s q).after

  -- A bind to an EX that is not known, where it is done, moves the payer of its cell, and of all that lead to it, to the payer of the other; of no other
  -- cell.
  pub record MovesPayers (s s' : Tables) (w c x : ℕ) : Type 0 where
    pub of_those : (v d : ℕ) → CellLeadsTo 𝓜 s v d w c → payer 𝓜 s' v d ≡ payer 𝓜 s w x
    pub of_no_other : (v d : ℕ) → (CellLeadsTo 𝓜 s v d w c → ⊥) → payer 𝓜 s' v d ≡ payer 𝓜 s v d

  abbrev pub BindMovesPayers : Type 0
  BindMovesPayers =
      (s : Tables) → Reached 𝓜 s → (w c x : ℕ) → is_known (end_kind 𝓜 s w x) ≡ false → succeeds (step 𝓜 s (Bind w c x)).outcome ≡ true
      → MovesPayers s (step 𝓜 s (Bind w c x)).after w c x

  -- ---- W-203: bind to a known EX

  -- "binding to a known EX makes the cell VAL with that value, exported or not, and names no EX; the cell keeps its own caller .. Refusal 8 is given only
  -- for an EX that is not known": in every sound state, reached or made by hand, a VAR of a worker that is there is bound, and nothing else changes.
  abbrev pub KnownBindIsDone : Type 0
  KnownBindIsDone =
      (s : Tables) → sound 𝓜 s ≡ true → (w c x o e n v caller : ℕ) (a : Bool) → w < s.p → cell 𝓜 s w c ≡ Var caller
      → end_kind 𝓜 s w x ≡ Ex o e n (Known v) a → step 𝓜 s (Bind w c x) ≡ record { outcome = Done 0; after = put_cell 𝓜 s w c (Val v caller) }

  -- In a reached state that value is the one in which the chain of the EX ends (`KnownIsTrue`). Whatever led to the cell ends in it after the call, so that
  -- by `Brought` the reads waiting there bring it; and the cell's own caller pays for it.
  pub record TakesKnownValue (s s' : Tables) (w c v caller : ℕ) : Type 0 where
    pub ends_there : (o e : ℕ) → is_live (entry 𝓜 s o e) ≡ true → LeadsTo 𝓜 s (place o e) w c → EndsIn 𝓜 s' (place o e) v
    pub own_caller_pays : payer 𝓜 s' w c ≡ caller

  abbrev pub KnownBindTakesValue : Type 0
  KnownBindTakesValue =
      (s : Tables) → Reached 𝓜 s → (w c x o e n v caller : ℕ) (a : Bool) → w < s.p → cell 𝓜 s w c ≡ Var caller
      → end_kind 𝓜 s w x ≡ Ex o e n (Known v) a → TakesKnownValue s (step 𝓜 s (Bind w c x)).after w c v caller

  -- Demand 3, whole, that a reference keeps its context, a context its caller, and a cell its payer, and what a bind to a known EX does.
  pub record Demand3 : Type 0 where
    pub every_sequence : EverySequence
    pub stays_sound : StaysSound
    pub weights : WeightIsHeld
    pub freed_at_nothing : FreedAtNothing
    pub no_loops : NoLoops
    pub at_most_b : AtMostB
    pub ready_succeeds : ReadySucceeds
    pub only_unbound_reads : OnlyUnboundReads
    pub rest_is_reached : RestIsReached
    pub brought : Brought
    pub known_is_true : KnownIsTrue
    pub refers_to_live : RefersToLive
    pub reference_keeps_naming : ReferenceKeepsNaming
    pub reference_keeps_context : ReferenceKeepsContext
    pub callers_kept : CallersKept
    pub every_cell_is_paid : EveryCellIsPaid
    pub context_pays : ContextPays
    pub only_bind_moves_payers : OnlyBindMovesPayers
    pub bind_moves_payers : BindMovesPayers
    pub known_bind_takes_value : KnownBindTakesValue
