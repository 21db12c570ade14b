-- What a call may make of a cell: it looks the same to others, is freed, is a new VAR of a caller up to 255 or a new EX, has its value, or is bound,
-- which a bind to an EX that is not known alone does. So what a cell names, and its caller, is kept. Assumes nothing.
use Prim.Native.Nat.{ℕ, ◌-◌, ◌+◌, ◌<◌}
use native.Mathlib.Omega.{arith}
use mathlib.Core.Path.{◌≡◌, refl, sym, ap, subst, ◌∙◌}
use mathlib.Core.Bool.{Bool, true, false, ◌&&◌, ◌||◌, not, cond}
use mathlib.Core.List.{List}
use mathlib.Core.Logic.{◌⊎◌, inl, inr}
use lib.Dec.{eqb, ltb}
use borrow.Author.Tests.{ltb-true, ltb-false, lt-ltb}
use Rattle.numbers.specs.Tests.{absurd_bool, and_l, and_r}
use Rattle.numbers.specs.BelowLaws.{lowest_at}
use Rattle.tables.specs.declared.Status.{Status}
use Rattle.tables.specs.declared.Status.TheVariants.{Idle, Reading, Known}
use Rattle.tables.specs.declared.Kind.{Kind}
use Rattle.tables.specs.declared.Kind.TheVariants.{Free, Var, Val, Ref, Ex}
use Rattle.tables.specs.declared.Message.{Message}
use Rattle.tables.specs.declared.Message.TheVariants.{Empty, Reference, Release, Read, Answer, Ask, Supply}
use Rattle.tables.specs.declared.Change.{Change}
use Rattle.tables.specs.declared.Change.TheVariants.{Nothing, OfCell, OfSlot, OfCellAndSlot, OfEntryAndSlot}
use Rattle.tables.specs.declared.Effect.{Effect}
use Rattle.tables.specs.declared.Call.{Call}
use Rattle.tables.specs.declared.Call.TheVariants.{Start, New, Set, Bind, Export, Indirect, Transfer, Drop, ReadCell, AskWeight, Deliver, Bound}
use Rattle.tables.specs.Machine.{Machine, Tables}
use Rattle.tables.specs.Parts.{Holding, on_ex, is_free, is_var, is_val, has_caller, caller_of, is_ex, is_known, ex_names}
use Rattle.tables.specs.Look.{cell, entry, end, end_kind, ex_naming, lowest_free_cell, lowest_empty_slot, message, put_cell, put_entry, put_message, changed}
use Rattle.states.specs.Machines.{Laws, Sized}
use Rattle.states.specs.Move.{shown}
use Rattle.states.proofs.Named.{the_ex, the_ex_of}
use Rattle.states.proofs.Kept.{shown_says, shown_name}
use Rattle.states.proofs.Ends.{VarOrVal}
use Rattle.states.proofs.Stored.{Stored, stored_each}
use Rattle.states.proofs.Next.{cell_stored}
use Rattle.states.proofs.Moves.{cell_move, cell_placed, put_cell_lem}
use Rattle.rules.specs.Answers.{Check, done, succeeds, checked}
use Rattle.rules.specs.Calls.{valued, bound_cell, by_location, by_reference, dropped, read_at, ask_at, new, set, bind, export, indirect, transfer, drop, read, ask, bound}
use Rattle.rules.specs.Deliver.{joined, arrival_cell, deliver_home, deliver_away, deliver_release, deliver_read, deliver_answer, deliver_supply, deliver_ask, deliver_message, deliver}
use Rattle.rules.specs.Refusals.{used, new_refusals, set_refusals, bind_refusals, export_refusals, indirect_refusals, transfer_refusals, drop_refusals, read_refusals, ask_refusals, deliver_refusals, bound_refusals}
use Rattle.rules.specs.Order.{Passed}
use Rattle.rules.specs.Payers.{is_caller}
use Rattle.rules.specs.Step.{is_start, makes_ref, step}
use Rattle.rules.proofs.Steps.{checked_is, free_is, BindGives, a_value, a_ref, bind_gives}

-- what a cell that held k₀ may hold then; refs: the call makes a REF
pub data Becomes (refs : Bool) (k₀ k : Kind) : Type 0 where
  looks_same : shown k ≡ shown k₀ → Becomes refs k₀ k
  freed : k ≡ Free → Becomes refs k₀ k
  new_var : (caller : ℕ) → k₀ ≡ Free → is_caller caller ≡ true → k ≡ Var caller → Becomes refs k₀ k
  new_ex : k₀ ≡ Free → is_ex k ≡ true → Becomes refs k₀ k
  has_value : (v caller : ℕ) → k₀ ≡ Var caller → k ≡ Val v caller → Becomes refs k₀ k
  is_bound : (y caller : ℕ) → refs ≡ true → k₀ ≡ Var caller → k ≡ Ref y → Becomes refs k₀ k

-- an EX whose weight and marks alone change looks the same, and so does any other cell, which stays
looks_on : (g : ℕ → ℕ → ℕ → Status → Bool → Kind) → ((o e n : ℕ) (st : Status) (a : Bool) → shown (g o e n st a) ≡ Ex o e 0 Idle false)
    → (k : Kind) → shown (on_ex k g k) ≡ shown k
looks_on g same Free = refl
looks_on g same (Var caller) = refl
looks_on g same (Val n caller) = refl
looks_on g same (Ref c) = refl
looks_on g same (Ex o e n st a) = same o e n st a

-- ---- what a change puts into a cell
module _ (𝓜 : Machine) (L : Laws 𝓜) (s : Tables) (z : Sized 𝓜 s) where
  -- a cell store in range
  pub put_stored : (w c : ℕ) (k : Kind) → w < 𝓜.workers → c < 𝓜.cells → Stored (cell 𝓜 s) (cell 𝓜 (put_cell 𝓜 s w c k)) w c (cell 𝓜 s w c) k
  put_stored w c k w_in c_in =
      let h = cell_move 𝓜 s w c (cell 𝓜 s w c) k 0 (message s 0) (message s 0) in
      subst (λ (t : Tables). Stored (cell 𝓜 s) (cell 𝓜 t) w c (cell 𝓜 s w c) k) (put_cell_lem 𝓜 L s w c (cell 𝓜 s w c) k w_in c_in)
      (cell_stored 𝓜 s h z (cell_placed 𝓜 L s w_in c_in L.slots_some refl refl))

  module _ (R : Kind → Kind → Type 0) where
    -- what it puts there may follow what the cell held
    abbrev Puts : Change → Type 0
    Puts Nothing = Unit {0}
    Puts (OfCell w c k) = c < 𝓜.cells → R (cell 𝓜 s w c) k
    Puts (OfSlot i m) = Unit {0}
    Puts (OfCellAndSlot w c k i m) = c < 𝓜.cells → R (cell 𝓜 s w c) k
    Puts (OfEntryAndSlot w e x i m) = Unit {0}

    -- a refusal puts nothing
    puts_checked : (l : List Check) (d : Effect) → (Passed l → Puts d.change) → Puts (checked l d).change
    puts_checked l d p = checked_is (λ x. Puts x.change) l d (λ why. tt) p

    -- so it is of every cell, where what stays may
    module _ (same : (k : Kind) → R k k) where
      put_each : (w c : ℕ) (k : Kind) → (c < 𝓜.cells → R (cell 𝓜 s w c) k) → (v d : ℕ) → R (cell 𝓜 s v d) (cell 𝓜 (put_cell 𝓜 s w c k) v d)
      unfolding put_cell
      put_each w c k ok v d = go (ltb w 𝓜.workers && ltb c 𝓜.cells) refl
        where
          go : (b : Bool) → (ltb w 𝓜.workers && ltb c 𝓜.cells) ≡ b → R (cell 𝓜 s v d) (cell 𝓜 (put_cell 𝓜 s w c k) v d)
          go true t =
              let w_in = ltb-true w 𝓜.workers (and_l (ltb w 𝓜.workers) (ltb c 𝓜.cells) t) in
              let c_in = ltb-true c 𝓜.cells (and_r (ltb w 𝓜.workers) (ltb c 𝓜.cells) t) in
              stored_each (put_stored w c k w_in c_in) (λ a b x y. R x y) (ok c_in) (λ a b f. same (cell 𝓜 s a b)) v d
          go false t = rw t (same (cell 𝓜 s v d))

      changed_each : (d : Change) → Puts d → (v c : ℕ) → R (cell 𝓜 s v c) (cell 𝓜 (changed 𝓜 s d) v c)
      unfolding cell put_entry put_message
      changed_each Nothing p v c = same (cell 𝓜 s v c)
      changed_each (OfCell w x k) p v c = put_each w x k p v c
      changed_each (OfSlot i m) p v c = same (cell 𝓜 s v c)
      changed_each (OfCellAndSlot w x k i m) p v c = put_each w x k p v c
      changed_each (OfEntryAndSlot w e x i m) p v c = go (ltb w 𝓜.workers && ltb e 𝓜.entries) refl
        where
          go : (b : Bool) → (ltb w 𝓜.workers && ltb e 𝓜.entries) ≡ b → R (cell 𝓜 s v c) (cell 𝓜 (put_message (put_entry 𝓜 s w e x) i m) v c)
          go true t = rw t (same (cell 𝓜 s v c))
          go false t = rw t (same (cell 𝓜 s v c))

-- a cell store leaves the entries
pub put_entries : (𝓜 : Machine) (s : Tables) (w c : ℕ) (k : Kind) (a b : ℕ) → entry 𝓜 (put_cell 𝓜 s w c k) a b ≡ entry 𝓜 s a b
unfolding entry put_cell
put_entries 𝓜 s w c k a b = go (ltb w 𝓜.workers && ltb c 𝓜.cells) refl
  where
    go : (in_range : Bool) → (ltb w 𝓜.workers && ltb c 𝓜.cells) ≡ in_range → entry 𝓜 (put_cell 𝓜 s w c k) a b ≡ entry 𝓜 s a b
    go true t = rw t refl
    go false t = rw t refl

-- and an entry store the cells
put_cells : (𝓜 : Machine) (s : Tables) (w e : ℕ) (x : Holding) (v c : ℕ) → cell 𝓜 (put_entry 𝓜 s w e x) v c ≡ cell 𝓜 s v c
unfolding cell put_entry
put_cells 𝓜 s w e x v c = go (ltb w 𝓜.workers && ltb e 𝓜.entries) refl
  where
    go : (in_range : Bool) → (ltb w 𝓜.workers && ltb e 𝓜.entries) ≡ in_range → cell 𝓜 (put_entry 𝓜 s w e x) v c ≡ cell 𝓜 s v c
    go true t = rw t refl
    go false t = rw t refl

-- so no change is of both: it leaves all cells as they were, or all entries
abbrev pub Leaves : Machine → Tables → Tables → Type 0
Leaves 𝓜 s t = ((w c : ℕ) → cell 𝓜 t w c ≡ cell 𝓜 s w c) ⊎ ((a b : ℕ) → entry 𝓜 t a b ≡ entry 𝓜 s a b)

changed_leaves : (𝓜 : Machine) (s : Tables) (d : Change) → Leaves 𝓜 s (changed 𝓜 s d)
unfolding cell entry put_message
changed_leaves 𝓜 s Nothing = inl (λ w c. refl)
changed_leaves 𝓜 s (OfCell w c k) = inr (put_entries 𝓜 s w c k)
changed_leaves 𝓜 s (OfSlot i m) = inl (λ w c. refl)
changed_leaves 𝓜 s (OfCellAndSlot w c k i m) = inr (put_entries 𝓜 s w c k)
changed_leaves 𝓜 s (OfEntryAndSlot w e x i m) = inl (put_cells 𝓜 s w e x)

-- ---- call by call
module _ (𝓜 : Machine) (L : Laws 𝓜) (s : Tables) (z : Sized 𝓜 s) where
  -- a call puts into a cell what it may
  abbrev CallPuts : Bool → Effect → Type 0
  CallPuts refs d = Puts 𝓜 L s z (Becomes refs) d.change

  -- the lowest free cell is free, where it is one
  lowest_free : (w : ℕ) → lowest_free_cell 𝓜 s w < 𝓜.cells → cell 𝓜 s w (lowest_free_cell 𝓜 s w) ≡ Free
  unfolding lowest_free_cell
  lowest_free w less = free_is (cell 𝓜 s w (lowest_free_cell 𝓜 s w)) (lowest_at 𝓜.cells (λ c. is_free (cell 𝓜 s w c)) less)

  new_puts : (w caller : ℕ) → CallPuts false (new 𝓜 s w caller)
  unfolding new
  new_puts w caller =
      puts_checked 𝓜 L s z (Becomes false) (new_refusals 𝓜 s w caller) _
      (λ p less. new_var caller (lowest_free w less) (lt-ltb caller 256 (omega (arith, ltb-false 255 caller (search)))) refl)

  set_puts : (w c n : ℕ) → CallPuts false (set 𝓜 s w c n)
  unfolding set
  set_puts w c n = puts_checked 𝓜 L s z (Becomes false) (set_refusals 𝓜 s w c) _ (λ p less. go (cell 𝓜 s w c))
    where
      go : (k : Kind) → Becomes false k (valued n k)
      go Free = looks_same refl
      go (Var caller) = has_value n caller refl refl
      go (Val m caller) = looks_same refl
      go (Ref d) = looks_same refl
      go (Ex o e m st a) = looks_same refl

  -- a bind that is not refused makes a REF where the EX is not known, and else a value
  bind_puts : (w c x : ℕ) → CallPuts (not (is_known (end_kind 𝓜 s w x)) && succeeds (bind 𝓜 s w c x).outcome) (bind 𝓜 s w c x)
  unfolding bind
  bind_puts w c x =
      checked_is (λ d. CallPuts (not (is_known (end_kind 𝓜 s w x)) && succeeds d.outcome) d) (bind_refusals 𝓜 s w c x)
      (done 0 (OfCell w c (bound_cell 𝓜 s w c x))) (λ why. tt) (λ p less. go (bind_gives 𝓜 s w c x p))
    where
      go : BindGives 𝓜 s w c x → Becomes (not (is_known (end_kind 𝓜 s w x)) && true) (cell 𝓜 s w c) (bound_cell 𝓜 s w c x)
      go (a_value v caller known q t) = has_value v caller q t
      go (a_ref caller unknown q ex guarded t) = is_bound (end 𝓜 s w x) caller (ap (λ (b : Bool). not b && true) unknown) q t

  export_puts : (w c to : ℕ) → CallPuts false (export 𝓜 s w c to)
  unfolding export end_kind
  export_puts w c to =
      puts_checked 𝓜 L s z (Becomes false) (export_refusals 𝓜 s w c to) _ (λ p. go (is_ex (cell 𝓜 s w (end 𝓜 s w c))))
    where
      x : ℕ
      x = end 𝓜 s w c

      slot : ℕ
      slot = lowest_empty_slot 𝓜 s

      go : (b : Bool) → CallPuts false (cond b (by_reference 𝓜 w x to (cell 𝓜 s w x) slot) (by_location 𝓜 w x to false (used 𝓜 s w x) slot))
      go true = λ less. looks_same (looks_on (λ o e n st a. Ex o e (n - 𝓜.split n) st a) (λ o e n st a. refl) (cell 𝓜 s w x))
      go false = tt

  drop_puts : (w c : ℕ) → CallPuts false (drop 𝓜 s w c)
  unfolding drop
  drop_puts w c = puts_checked 𝓜 L s z (Becomes false) (drop_refusals 𝓜 s w c) _ (λ p. go (cell 𝓜 s w c))
    where
      go : (k : Kind) → CallPuts false (dropped w c k (lowest_empty_slot 𝓜 s))
      go Free = λ less. freed refl
      go (Var caller) = λ less. freed refl
      go (Val n caller) = λ less. freed refl
      go (Ref d) = λ less. freed refl
      go (Ex o e n st a) = λ less. freed refl

  -- at an end: an EX gets a mark
  read_puts : (w c : ℕ) → CallPuts false (read 𝓜 s w c)
  unfolding read end_kind
  read_puts w c = puts_checked 𝓜 L s z (Becomes false) (read_refusals 𝓜 s w c) _ (λ p. go (cell 𝓜 s w (end 𝓜 s w c)) refl)
    where
      go : (k : Kind) → cell 𝓜 s w (end 𝓜 s w c) ≡ k → CallPuts false (read_at w (end 𝓜 s w c) k (lowest_empty_slot 𝓜 s))
      go Free q = tt
      go (Var caller) q = tt
      go (Val n caller) q = tt
      go (Ref d) q = tt
      go (Ex o e n Idle a) q = λ less. looks_same (sym (ap shown q))
      go (Ex o e n Reading a) q = tt
      go (Ex o e n (Known v) a) q = tt

  ask_puts : (w c : ℕ) → CallPuts false (ask 𝓜 s w c)
  unfolding ask end_kind
  ask_puts w c = puts_checked 𝓜 L s z (Becomes false) (ask_refusals 𝓜 s w c) _ (λ p. go (cell 𝓜 s w (end 𝓜 s w c)) refl)
    where
      go : (k : Kind) → cell 𝓜 s w (end 𝓜 s w c) ≡ k → CallPuts false (ask_at w (end 𝓜 s w c) k (lowest_empty_slot 𝓜 s))
      go Free q = tt
      go (Var caller) q = tt
      go (Val n caller) q = tt
      go (Ref d) q = tt
      go (Ex o e n st true) q = tt
      go (Ex o e n st false) q = λ less. looks_same (sym (ap shown q))

  -- a Reference joins an EX, or the lowest free cell becomes one
  away_puts : (k to o e n : ℕ) → CallPuts false (deliver_away 𝓜 s k to o e n)
  unfolding deliver_away arrival_cell ex_naming
  away_puts k to o e n = go (ltb (ex_naming 𝓜 s to o e) 𝓜.cells) refl
    where
      go : (b : Bool) → ltb (ex_naming 𝓜 s to o e) 𝓜.cells ≡ b
          → let c = cond b (ex_naming 𝓜 s to o e) (lowest_free_cell 𝓜 s to) in c < 𝓜.cells → Becomes false (cell 𝓜 s to c) (joined o e n (cell 𝓜 s to c))
      go true found less =
          let x = the_ex_of o e (cell 𝓜 s to (ex_naming 𝓜 s to o e)) (lowest_at 𝓜.cells (λ d. ex_names o e (cell 𝓜 s to d)) less) in
          rw x.is (looks_same refl)
      go false none less = rw (lowest_free to less) (new_ex refl refl)

  message_puts : (k : ℕ) (m : Message) → CallPuts false (deliver_message 𝓜 s k m)
  unfolding deliver_message deliver_home deliver_release deliver_read deliver_answer deliver_supply deliver_ask
  message_puts k Empty = tt
  message_puts k (Reference to o e n) = go (eqb to o)
    where
      go : (b : Bool) → CallPuts false (cond b (deliver_home 𝓜 s k o e n) (deliver_away 𝓜 s k to o e n))
      go true = tt
      go false = away_puts k to o e n
  message_puts k (Release o e n) = tt
  message_puts k (Read r c o e) = tt
  message_puts k (Answer r c v) = λ less. looks_same (looks_on (λ o e n st a. Ex o e n (Known v) a) (λ o e n st a. refl) (cell 𝓜 s r c))
  message_puts k (Ask a c o e) = tt
  message_puts k (Supply a c w) = λ less. looks_same (looks_on (λ o e n st b. Ex o e (n + w) st false) (λ o e n st b. refl) (cell 𝓜 s a c))

  -- every cell
  each : (refs : Bool) (d : Effect) → CallPuts refs d → (w c : ℕ) → Becomes refs (cell 𝓜 s w c) (cell 𝓜 (changed 𝓜 s d.change) w c)
  each refs d p = changed_each 𝓜 L s z (Becomes refs) (λ k. looks_same refl) d.change p

  pub step_becomes : (q : Call) → is_start q ≡ false → (w c : ℕ) → Becomes (makes_ref 𝓜 s q) (cell 𝓜 s w c) (cell 𝓜 (step 𝓜 s q).after w c)
  unfolding step indirect transfer deliver bound
  step_becomes (Start p) n = absurd_bool refl n
  step_becomes (New w caller) n = each false (new 𝓜 s w caller) (new_puts w caller)
  step_becomes (Set w c v) n = each false (set 𝓜 s w c v) (set_puts w c v)
  step_becomes (Bind w c x) n =
      each (not (is_known (end_kind 𝓜 s w x)) && succeeds (bind 𝓜 s w c x).outcome) (bind 𝓜 s w c x) (bind_puts w c x)
  step_becomes (Export w c to) n = each false (export 𝓜 s w c to) (export_puts w c to)
  step_becomes (Indirect w c to) n = each false (indirect 𝓜 s w c to) (puts_checked 𝓜 L s z (Becomes false) (indirect_refusals 𝓜 s w c to) _ (λ p. tt))
  step_becomes (Transfer w c to) n =
      each false (transfer 𝓜 s w c to) (puts_checked 𝓜 L s z (Becomes false) (transfer_refusals 𝓜 s w c to) _ (λ p less. freed refl))
  step_becomes (Drop w c) n = each false (drop 𝓜 s w c) (drop_puts w c)
  step_becomes (ReadCell w c) n = each false (read 𝓜 s w c) (read_puts w c)
  step_becomes (AskWeight w c) n = each false (ask 𝓜 s w c) (ask_puts w c)
  step_becomes (Deliver k) n = each false (deliver 𝓜 s k) (puts_checked 𝓜 L s z (Becomes false) (deliver_refusals 𝓜 s k) _ (λ p. message_puts k (message s k)))
  step_becomes Bound n = each false (bound 𝓜 s) (puts_checked 𝓜 L s z (Becomes false) (bound_refusals 𝓜 s) _ (λ p. tt))

-- and no call changes a cell and an entry
pub step_leaves : (𝓜 : Machine) (s : Tables) (q : Call) → is_start q ≡ false → Leaves 𝓜 s (step 𝓜 s q).after
unfolding step
step_leaves 𝓜 s (Start p) n = absurd_bool refl n
step_leaves 𝓜 s (New w caller) n = changed_leaves 𝓜 s (new 𝓜 s w caller).change
step_leaves 𝓜 s (Set w c v) n = changed_leaves 𝓜 s (set 𝓜 s w c v).change
step_leaves 𝓜 s (Bind w c x) n = changed_leaves 𝓜 s (bind 𝓜 s w c x).change
step_leaves 𝓜 s (Export w c to) n = changed_leaves 𝓜 s (export 𝓜 s w c to).change
step_leaves 𝓜 s (Indirect w c to) n = changed_leaves 𝓜 s (indirect 𝓜 s w c to).change
step_leaves 𝓜 s (Transfer w c to) n = changed_leaves 𝓜 s (transfer 𝓜 s w c to).change
step_leaves 𝓜 s (Drop w c) n = changed_leaves 𝓜 s (drop 𝓜 s w c).change
step_leaves 𝓜 s (ReadCell w c) n = changed_leaves 𝓜 s (read 𝓜 s w c).change
step_leaves 𝓜 s (AskWeight w c) n = changed_leaves 𝓜 s (ask 𝓜 s w c).change
step_leaves 𝓜 s (Deliver k) n = changed_leaves 𝓜 s (deliver 𝓜 s k).change
step_leaves 𝓜 s Bound n = changed_leaves 𝓜 s (bound 𝓜 s).change

-- ---- what every call keeps of a cell
-- an EX that stays one names the entry that it named
pub keeps_entry : {b : Bool} {k₀ k : Kind} (o e : ℕ) → Becomes b k₀ k → ex_names o e k₀ ≡ true → is_ex k ≡ true → ex_names o e k ≡ true
keeps_entry {k₀ = k₀} {k} o e (looks_same q) t u = shown_name false (λ owner entr. eqb owner o && eqb entr e) k k₀ q ∙ t
keeps_entry o e (freed q) t u = absurd_bool u (ap is_ex q)
keeps_entry o e (new_var caller q low p) t u = absurd_bool u (ap is_ex p)
keeps_entry o e (new_ex q p) t u = absurd_bool t (ap (ex_names o e) q)
keeps_entry o e (has_value v caller q p) t u = absurd_bool u (ap is_ex p)
keeps_entry o e (is_bound y caller b q p) t u = absurd_bool u (ap is_ex p)

-- a VAR or a VAL that stays one keeps its caller
pub keeps_caller : {b : Bool} {k₀ k : Kind} (who : ℕ) → Becomes b k₀ k → has_caller who k₀ ≡ true → VarOrVal k → has_caller who k ≡ true
keeps_caller {k₀ = k₀} {k} who (looks_same q) t u = shown_says (has_caller who) (λ o e n st a. refl) k k₀ q ∙ t
keeps_caller who (freed q) t u = absurd_bool u (ap (λ (x : Kind). is_var x || is_val x) q)
keeps_caller who (new_var caller q low p) t u = absurd_bool t (ap (has_caller who) q)
keeps_caller who (new_ex q p) t u = absurd_bool t (ap (has_caller who) q)
keeps_caller who (has_value v caller q p) t u = ap (has_caller who) p ∙ sym (ap (has_caller who) q) ∙ t
keeps_caller who (is_bound y caller b q p) t u = absurd_bool u (ap (λ (x : Kind). is_var x || is_val x) p)

-- a VAR and a VAL has a caller up to 255, and no other cell has one
abbrev pub CallerFact : Kind → Type 0
CallerFact k = is_caller (caller_of k) ≡ (is_var k || is_val k)

pub keeps_caller_fact : {b : Bool} {k₀ k : Kind} → Becomes b k₀ k → CallerFact k₀ → CallerFact k
keeps_caller_fact {k₀ = k₀} {k} (looks_same q) f =
    shown_says (λ x. is_caller (caller_of x)) (λ o e n st a. refl) k k₀ q ∙ f ∙ sym (shown_says (λ x. is_var x || is_val x) (λ o e n st a. refl) k k₀ q)
keeps_caller_fact (freed q) f = rw q refl
keeps_caller_fact (new_var caller q low p) f = rw p low
keeps_caller_fact {k = k} (new_ex q p) f = rw (the_ex k p).is refl
keeps_caller_fact (has_value v caller q p) f = rw p (rw q at f)
keeps_caller_fact (is_bound y caller b q p) f = rw p refl
