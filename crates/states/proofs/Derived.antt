-- What follows from the facts: ranges, live entries, weights below the ceiling, a waiting cell for each message that needs one, and
-- the live entry of a Read. Assumes nothing.
use Rattle.std.specs.Prelude.{None, Some}
use Prim.Native.Nat.{ℕ, zero, suc, ◌<◌, ◌≤◌}
use native.Mathlib.Omega.{arith}
use mathlib.Core.Path.{◌≡◌, refl, sym, ap, ap₂, subst, ◌∙◌}
use mathlib.Core.Bool.{Bool, true, false}
use Rattle.numbers.specs.Below.{bit}
use Rattle.numbers.specs.Lists.{total}
use Rattle.numbers.specs.Tests.{absurd_bool}
use Rattle.tables.specs.declared.Status.{Status}
use Rattle.tables.specs.declared.Kind.{Kind}
use Rattle.tables.specs.declared.Kind.TheVariants.{Free, Var, Val, Ref, Ex}
use Rattle.tables.specs.declared.Message.{Message}
use Rattle.tables.specs.declared.Message.TheVariants.{Empty, Read}
use Rattle.tables.specs.Machine.{Machine, Tables}
use Rattle.tables.specs.Parts.{Holding, live, Place, place, is_free, is_reading, is_asking, ex_names, named_by, is_live, entry_weight}
use Rattle.tables.specs.Look.{cell, entry, end, end_kind, message}
use Rattle.states.specs.Chains.{through, follow, ahead}
use Rattle.states.specs.Sound.{reads_for, asks_for, reads_of, asks_of, cell_holds, message_holds, held}
use Rattle.states.specs.Facts.{CellFact, EntryFact, Facts, ReadAhead, Reads, MessageFact}
use Rattle.states.proofs.Inside.{entry_inside, cell-total, message-total}
use Rattle.states.proofs.Named.{eq_both, nowhere_at, same_place, named_ex, IsLive, the_live, the_ex_of}

-- a weight that is not 0 is a live entry's
pub weight_live : (x : Holding) → 1 ≤ entry_weight x → is_live x ≡ true
weight_live None h = absurd (omega arith)
weight_live (Some l) h = refl

pub bit_one : (b : Bool) → 1 ≤ bit b → b ≡ true
bit_one true h = refl
bit_one false h = absurd (omega arith)

-- a cell and a message hold at most what is held
module _ (𝓜 : Machine) (s : Tables) where
  pub cell-held : (w c o e : ℕ) → cell_holds 𝓜 s o e (cell 𝓜 s w c) ≤ held 𝓜 s o e
  unfolding held
  cell-held w c o e = omega (arith, cell-total 𝓜 s (cell_holds 𝓜 s o e) refl w c)

  pub message-held : (k o e : ℕ) → message_holds 𝓜 s o e (message s k) ≤ held 𝓜 s o e
  unfolding held
  message-held k o e = omega (arith, message-total 𝓜 s (message_holds 𝓜 s o e) refl k)

  -- an EX's weight, and a message's, is held on its entry
  pub ex_held : (w c : ℕ) {o e n : ℕ} {st : Status} {a : Bool} → cell 𝓜 s w c ≡ Ex o e n st a → n ≤ held 𝓜 s o e
  ex_held w c {o} {e} {n} x =
      let h : cell_holds 𝓜 s o e (cell 𝓜 s w c) ≡ n = rw (x, eq_both o e) in
      omega (arith, cell-held w c o e)

  pub sent_held : (k o e n : ℕ) (m : Message) → message s k ≡ m → message_holds 𝓜 s o e m ≡ n → n ≤ held 𝓜 s o e
  sent_held k o e n m x h = omega (arith, message-held k o e, ap (message_holds 𝓜 s o e) x, h)

  -- where every entry's weight is what is held on it, one on which something is held is live
  module _ (weighed : (o e : ℕ) → entry_weight (entry 𝓜 s o e) ≡ held 𝓜 s o e) where
    pub held_live : (o e : ℕ) → 1 ≤ held 𝓜 s o e → is_live (entry 𝓜 s o e) ≡ true
    held_live o e h = weight_live (entry 𝓜 s o e) (omega (arith, weighed o e))

    pub ex_live : ((w c : ℕ) → CellFact 𝓜 s w (cell 𝓜 s w c)) → (w c : ℕ) {o e n : ℕ} {st : Status} {a : Bool} → cell 𝓜 s w c ≡ Ex o e n st a
        → is_live (entry 𝓜 s o e) ≡ true
    ex_live cells w c {o} {e} {n} {st} {a} x =
        let f : CellFact 𝓜 s w (Ex o e n st a) = rw x at (cells w c) in
        held_live o e (omega (arith, ex_held w c x, f.2))

-- a place that, where it is an entry, is a live one
abbrev pub LivePlace : Machine → Tables → Place → Type 0
LivePlace 𝓜 s p = (o e : ℕ) → p ≡ place o e → is_live (entry 𝓜 s o e) ≡ true

pub live_place : (𝓜 : Machine) (s : Tables) (a b : ℕ) → is_live (entry 𝓜 s a b) ≡ true → LivePlace 𝓜 s (place a b)
live_place 𝓜 s a b l o e q =
    let same = same_place q in
    sym (ap is_live (ap₂ (entry 𝓜 s) same.0 same.1)) ∙ l

module _ (𝓜 : Machine) (s : Tables) (F : Facts 𝓜 s) where
  -- a cell that is not free belongs to a worker in use
  pub cell_used : (w c : ℕ) → is_free (cell 𝓜 s w c) ≡ false → w < s.p
  cell_used w c h = go (cell 𝓜 s w c) h (F.cells w c)
    where
      go : (k : Kind) → is_free k ≡ false → CellFact 𝓜 s w k → w < s.p
      go Free t f = absurd_bool refl t
      go (Var caller) t f = f
      go (Val n caller) t f = f
      go (Ref d) t f = f.0
      go (Ex o e n st a) t f = f.0

  pub live_fact : (o e : ℕ) (l : IsLive (entry 𝓜 s o e)) → EntryFact 𝓜 s o (live l.cell l.weight l.tainted)
  live_fact o e l = rw l.is at (F.entries o e)

  -- what is true of a cell, and of a message, that is this
  pub cell_fact : (w c : ℕ) {k : Kind} → cell 𝓜 s w c ≡ k → CellFact 𝓜 s w k
  cell_fact w c q = subst (CellFact 𝓜 s w) q (F.cells w c)

  pub message_fact : (k : ℕ) {m : Message} → message s k ≡ m → MessageFact 𝓜 s m
  message_fact k q = subst (MessageFact 𝓜 s) q (F.messages k)

  -- a live entry belongs to a worker in use, and its number is an entry's
  pub live_used : (o e : ℕ) → is_live (entry 𝓜 s o e) ≡ true → (o < s.p) × (e < 𝓜.entries)
  live_used o e h =
      let l = the_live (entry 𝓜 s o e) h in
      (cell_used o l.cell (live_fact o e l).2, (entry_inside 𝓜 s o e h).1)

  pub weight_le : (o e : ℕ) → entry_weight (entry 𝓜 s o e) ≤ 𝓜.ceiling
  weight_le o e = go (entry 𝓜 s o e) (F.entries o e)
    where
      go : (x : Holding) → EntryFact 𝓜 s o x → entry_weight x ≤ 𝓜.ceiling
      go None f = omega arith
      go (Some l) f = f.0

  -- what is held on an entry is at most the ceiling
  pub held_le : (o e : ℕ) → held 𝓜 s o e ≤ 𝓜.ceiling
  held_le o e = omega (arith, weight_le o e, F.weighed o e)

  -- what an EX names is live
  pub names_live : (w c o e : ℕ) → ex_names o e (cell 𝓜 s w c) ≡ true → is_live (entry 𝓜 s o e) ≡ true
  names_live w c o e h =
      let x = the_ex_of o e (cell 𝓜 s w c) h in
      ex_live 𝓜 s F.weighed F.cells w c x.is

  -- ---- the cell of a message that has one
  -- where as many messages have the test as a mark says, 1 or none, the mark is set if one has it
  marked : (q : Message → Bool) (b : Bool) → q Empty ≡ false → total (λ x. bit (q x.message)) s.slots ≡ bit b → (k : ℕ) → q (message s k) ≡ true
      → b ≡ true
  marked q b none one k h =
      bit_one b (omega (arith, message-total 𝓜 s (λ m. bit (q m)) (ap bit none) k, ap bit h, one))

  pub reading_cell : (k w c : ℕ) → reads_for w c (message s k) ≡ true → is_reading (cell 𝓜 s w c) ≡ true
  unfolding reads_of
  reading_cell k w c = marked (reads_for w c) (is_reading (cell 𝓜 s w c)) refl (F.reads_one w c) k

  pub asking_cell : (k w c : ℕ) → asks_for w c (message s k) ≡ true → is_asking (cell 𝓜 s w c) ≡ true
  unfolding asks_of
  asking_cell k w c = marked (asks_for w c) (is_asking (cell 𝓜 s w c)) refl (F.asks_one w c) k

  -- ---- places: what an EX names, and all that is ahead of it, is live
  pub named_place : (w c : ℕ) → LivePlace 𝓜 s (named_by (cell 𝓜 s w c))
  named_place w c o e h =
      let x = named_ex o e (cell 𝓜 s w c) h in
      ex_live 𝓜 s F.weighed F.cells w c x.is

  pub follow_place : (p : Place) → LivePlace 𝓜 s (follow 𝓜 s p)
  unfolding follow end_kind
  follow_place None o e h = nowhere_at h
  follow_place (Some p) o e h = go (entry 𝓜 s p.owner p.entry) h
    where
      go : (x : Holding) → through 𝓜 s p.owner x ≡ place o e → is_live (entry 𝓜 s o e) ≡ true
      go None q = nowhere_at q
      go (Some l) q = named_place p.owner (end 𝓜 s p.owner l.cell) o e q

  pub ahead_place : (n : ℕ) (p : Place) → LivePlace 𝓜 s p → LivePlace 𝓜 s (ahead 𝓜 s n p)
  unfolding ahead
  ahead_place zero p l = l
  ahead_place (suc n) p l = ahead_place n (follow 𝓜 s p) (follow_place p)

  -- the entry of a Read is live
  pub read_live : Reads 𝓜 s → (k r c o e : ℕ) → message s k ≡ Read r c o e → is_live (entry 𝓜 s o e) ≡ true
  read_live reads k r c o e q =
      let at : (n : ℕ) × ReadAhead 𝓜 s n (Read r c o e) = subst (λ (m : Message). (n : ℕ) × ReadAhead 𝓜 s n m) q (reads k) in
      ahead_place at.0 (named_by (cell 𝓜 s r c)) (named_place r c) o e at.1
