-- In a sound state no weight passes the ceiling, so that none is lost where the code adds two. Assumes nothing.
use Rattle.std.specs.Prelude.{None, Some, ℕ, ◌+◌, ◌*◌, ◌/◌, ◌%◌, ◌≤◌, ◌≡◌, Bool, ◌&&◌, ◌||◌, cond, List, length, get_or}
use native.Mathlib.Omega.{arith}
use Rattle.std.proofs.Math.Bool.{true, false}
use Rattle.std.proofs.Common.{⊎_elim}
use Rattle.std.proofs.Math.Dec.{ltb, leb}
use Rattle.std.proofs.Math.ListN.{get_or-eq_default}
use borrow.Author.Tests.{ltb-true, ltb-false, le-ltb, le-leb, leb-true}
use Rattle.numbers.specs.Lists.{each}
use Rattle.numbers.specs.ListLaws.{each_at}
use Rattle.numbers.specs.Tests.{and_l, and_r, or_else}
use Rattle.tables.specs.declared.Kind.{Kind}
use Rattle.tables.specs.declared.Kind.TheVariants.{Free, Var, Val, Ref, Ex}
use Rattle.tables.specs.declared.Message.{Message}
use Rattle.tables.specs.declared.Message.TheVariants.{Empty, Reference, Release, Read, Answer, Ask, Supply}
use Rattle.tables.specs.Machine.{Machine, Tables}
use Rattle.tables.specs.Parts.{Holding, is_free, is_unused, ex_weight, entry_weight}
use Rattle.tables.specs.Look.{kind_at, holding_at, cell, entry, message}
use Rattle.states.specs.Sound.{each_cell, each_entry, each_message, worker_in, cell_in, entry_in, weight_in, kind_in_range, holding_in_range, message_in_range, cell_in_range, entry_in_range, point1, sound}
use Rattle.tables.specs.Parts.{message_weight}

-- two weights added, where neither passes the ceiling; and else the first
unfoldable pub added : ℕ → ℕ → ℕ
added a b = cond (ltb 1048576 a || ltb 1048576 b) a (a + b)

pub added_is : (a b : ℕ) → a ≤ 1048576 → b ≤ 1048576 → added a b ≡ a + b
unfolding added
added_is a b p q = rw (le-ltb 1048576 a p, le-ltb 1048576 b q)

-- what each element has, and the default too, every place has
anywhere : {A : Type 0} (p : ℕ → A → Bool) (q : A → Bool) (l : List A) (d : A) → ((i : ℕ) (x : A) → p i x ≡ true → q x ≡ true) → q d ≡ true
    → each p l ≡ true → (i : ℕ) → q (get_or l i d) ≡ true
anywhere p q l d f z h i =
    ⊎_elim
    (λ a. f i (get_or l i d) (each_at p l d h i (omega (arith, ltb-true))))
    (λ a. rw (get_or-eq_default l d {n = i} (omega (arith, ltb-false))) z)
    (or_else (ltb i (length l)))

-- 0 is no weight to pass the ceiling
no_weight : (𝓜 : Machine) → leb 0 𝓜.ceiling ≡ true
no_weight 𝓜 = le-leb 0 𝓜.ceiling (omega arith)

-- what is in range has no more weight than the ceiling
module _ (𝓜 : Machine) (s : Tables) where
  kind_weight : (k : Kind) → kind_in_range 𝓜 s k ≡ true → leb (ex_weight k) 𝓜.ceiling ≡ true
  kind_weight Free h = no_weight 𝓜
  kind_weight (Var caller) h = no_weight 𝓜
  kind_weight (Val n caller) h = no_weight 𝓜
  kind_weight (Ref c) h = no_weight 𝓜
  kind_weight (Ex o e n st a) h = and_r (worker_in 𝓜 s o && entry_in 𝓜 s e) (weight_in 𝓜 s n) h

  holding_weight : (x : Holding) → holding_in_range 𝓜 s x ≡ true → leb (entry_weight x) 𝓜.ceiling ≡ true
  holding_weight None h = no_weight 𝓜
  holding_weight (Some l) h =
      and_r (cell_in 𝓜 s l.cell) (weight_in 𝓜 s l.weight) (and_l (cell_in 𝓜 s l.cell && weight_in 𝓜 s l.weight) (leb 1 l.weight) h)

  carried_weight : (m : Message) → message_in_range 𝓜 s m ≡ true → leb (message_weight m) 𝓜.ceiling ≡ true
  carried_weight Empty h = no_weight 𝓜
  carried_weight (Reference to o e n) h = and_r (worker_in 𝓜 s to && worker_in 𝓜 s o && entry_in 𝓜 s e) (weight_in 𝓜 s n) h
  carried_weight (Release o e n) h = and_r (worker_in 𝓜 s o && entry_in 𝓜 s e) (weight_in 𝓜 s n) h
  carried_weight (Read r c o e) h = no_weight 𝓜
  carried_weight (Answer r c n) h = no_weight 𝓜
  carried_weight (Ask a c o e) h = no_weight 𝓜
  carried_weight (Supply a c n) h = and_r (worker_in 𝓜 s a && cell_in 𝓜 s c) (weight_in 𝓜 s n) h

-- in a sound state, at any number
module _ (𝓜 : Machine) (s : Tables) (h : sound 𝓜 s ≡ true) where
  in_range : point1 𝓜 s ≡ true
  unfolding sound
  in_range = and_l (point1 𝓜 s) _ h

  abbrev cells_in : Bool
  cells_in = leb s.p 𝓜.workers && each_cell 𝓜 s (cell_in_range 𝓜 s)

  abbrev entries_in : Bool
  entries_in = each_entry 𝓜 s (entry_in_range 𝓜 s)

  abbrev messages_in : Bool
  messages_in = each_message 𝓜 s (message_in_range 𝓜 s)

  pub message_weight_lem : (k : ℕ) → message_weight (message s k) ≤ 𝓜.ceiling
  unfolding point1
  message_weight_lem k =
      leb-true _ _
      (anywhere (λ i x. message_in_range 𝓜 s x.message) (λ x. leb (message_weight x.message) 𝓜.ceiling) s.slots _
      (λ i x j. carried_weight 𝓜 s x.message j)
      (no_weight 𝓜)
      (and_r (cells_in && entries_in) messages_in in_range)
      k)

  pub entry_weight_lem : (w e : ℕ) → entry_weight (entry 𝓜 s w e) ≤ 𝓜.ceiling
  unfolding entry point1
  entry_weight_lem w e = go (ltb w 𝓜.workers && ltb e 𝓜.entries)
    where
      go : (b : Bool) → entry_weight (cond b (holding_at s.entries (w * 𝓜.entries + e)) None) ≤ 𝓜.ceiling
      go true =
          leb-true _ _
          (anywhere (λ i x. entry_in_range 𝓜 s (i / 𝓜.entries) (i % 𝓜.entries) x.holding) (λ x. leb (entry_weight x.holding) 𝓜.ceiling) s.entries _
          (λ i x j. holding_weight 𝓜 s x.holding (and_r (worker_in 𝓜 s (i / 𝓜.entries) || is_unused x.holding) (holding_in_range 𝓜 s x.holding) j))
          (no_weight 𝓜)
          (and_r cells_in entries_in (and_l (cells_in && entries_in) messages_in in_range))
          (w * 𝓜.entries + e))
      go false = omega arith

  pub cell_weight : (w c : ℕ) → ex_weight (cell 𝓜 s w c) ≤ 𝓜.ceiling
  unfolding cell point1
  cell_weight w c = go (ltb w 𝓜.workers && ltb c 𝓜.cells)
    where
      go : (b : Bool) → ex_weight (cond b (kind_at s.cells (w * 𝓜.cells + c)) Free) ≤ 𝓜.ceiling
      go true =
          leb-true _ _
          (anywhere (λ i x. cell_in_range 𝓜 s (i / 𝓜.cells) (i % 𝓜.cells) x.kind) (λ x. leb (ex_weight x.kind) 𝓜.ceiling) s.cells _
          (λ i x j. kind_weight 𝓜 s x.kind (and_r (worker_in 𝓜 s (i / 𝓜.cells) || is_free x.kind) (kind_in_range 𝓜 s x.kind) j))
          (no_weight 𝓜)
          (and_r (leb s.p 𝓜.workers) (each_cell 𝓜 s (cell_in_range 𝓜 s)) (and_l cells_in entries_in (and_l (cells_in && entries_in) messages_in in_range)))
          (w * 𝓜.cells + c))
      go false = omega arith
