-- Where the soundness test says yes, the facts hold. Assumes nothing.
use Prim.Native.Nat.{ℕ, ◌+◌, ◌<◌, ◌≤◌}
use native.Mathlib.Omega.{arith}
use mathlib.Core.Path.{◌≡◌, refl, sym, ap, ap₂, ◌∙◌}
use mathlib.Core.Bool.{Bool, true, false, ◌&&◌, ◌||◌, not, cond}
use lib.Dec.{ltb, leb, eqb}
use borrow.Author.Tests.{ltb-true, ltb-false, leb-true, eqb-true, eq-eqb, not-true}
use Rattle.numbers.specs.Below.{bit}
use Rattle.numbers.specs.Lists.{total}
use Rattle.numbers.specs.Tests.{absurd_bool, and_l, and_r, and_i, and_3, and_4, or_true, or_right, cond_zero, not_yes}
use Rattle.numbers.specs.BelowLaws.{all_at, count_unique}
use Rattle.numbers.specs.ListLaws.{total_none}
use Rattle.tables.specs.declared.Slot.{Slot}
use Rattle.tables.specs.declared.Status.{Status}
use Rattle.tables.specs.declared.Kind.{Kind}
use Rattle.tables.specs.declared.Kind.TheVariants.{Free, Var, Val, Ref, Ex}
use Rattle.tables.specs.declared.Message.{Message}
use Rattle.tables.specs.declared.Message.TheVariants.{Empty, Reference, Release, Read, Answer, Ask, Supply}
use Rattle.tables.specs.Machine.{Machine, Tables}
use Rattle.tables.specs.Parts.{Holding, is_free, reading_of, is_reading, is_asking, ex_names, named_by, is_live, entry_names, entry_weight, goes_to}
use Rattle.tables.specs.Look.{cell, entry, end_kind, booked, free_cells, message}
use Rattle.states.specs.Sound.{reads_for, asks_for, each_cell, kind_in_range, message_in_range, cell_in_range, entry_in_range, exes_naming, cell_names, entries_naming, var_val_or_safe, entry_names_cell, reads_of, asks_of, cell_awaited, reached, message_has_its, cell_holds, message_holds, held, entry_weighs, room_for_booked, point1, point2, point3, point4, point5, point6, sound, each_entry, each_message}
use Rattle.states.specs.Machines.{Laws, Sized}
use Rattle.states.specs.Facts.{CellFact, EntryFact, MessageFact, Facts, ReadAhead, Reads}
use Rattle.states.proofs.Inside.{cell_inside, entry_inside, each_cell_at, each_entry_at, each_message_at, flat_none}
use Rattle.states.proofs.Named.{both_eq, ex_not_free, ExOf, the_ex_of, the_entry_of, names_live_entry}
use Rattle.states.proofs.Reach.{reached-ahead}
use Rattle.std.specs.Prelude.{None, Some}

-- a worker in use, where its cell is not free
in_use : (b r : Bool) → ((b || false) && r) ≡ true → b ≡ true
in_use true r h = refl
in_use false r h = h

module _ (𝓜 : Machine) (L : Laws 𝓜) (s : Tables) (z : Sized 𝓜 s) (h : sound 𝓜 s ≡ true) where
  -- ---- the six points
  points : (point1 𝓜 s ≡ true) × (point2 𝓜 s ≡ true) × (point3 𝓜 s ≡ true) × (point4 𝓜 s ≡ true) × (point5 𝓜 s ≡ true) × (point6 𝓜 s ≡ true)
  unfolding sound
  points =
      let p2_6 = and_r (point1 𝓜 s) _ h in
      let p3_6 = and_r (point2 𝓜 s) _ p2_6 in
      let p4_6 = and_r (point3 𝓜 s) _ p3_6 in
      let p5_6 = and_r (point4 𝓜 s) _ p4_6 in
      (and_l _ _ h, and_l _ _ p2_6, and_l _ _ p3_6, and_l _ _ p4_6, and_l _ _ p5_6, and_r (point5 𝓜 s) _ p5_6)

  p1 : (leb s.p 𝓜.workers ≡ true) × (each_cell 𝓜 s (cell_in_range 𝓜 s) ≡ true) × (each_entry 𝓜 s (entry_in_range 𝓜 s) ≡ true)
      × (each_message 𝓜 s (message_in_range 𝓜 s) ≡ true)
  unfolding point1
  p1 = and_4 _ _ _ _ points.0

  -- ---- each test at every number
  in_range : (w c : ℕ) → cell_in_range 𝓜 s w c (cell 𝓜 s w c) ≡ true
  in_range = each_cell_at 𝓜 s L z (cell_in_range 𝓜 s) (λ w c. and_i (or_true (ltb w s.p)) refl) p1.1

  entry_in_range_lem : (w e : ℕ) → entry_in_range 𝓜 s w e (entry 𝓜 s w e) ≡ true
  entry_in_range_lem = each_entry_at 𝓜 s L z (entry_in_range 𝓜 s) (λ w e. and_i (or_true (ltb w s.p)) refl) p1.2

  message_in_range_lem : (k : ℕ) → message_in_range 𝓜 s (message s k) ≡ true
  message_in_range_lem = each_message_at 𝓜 s (message_in_range 𝓜 s) refl p1.3

  names : (w c : ℕ) → cell_names 𝓜 s w c (cell 𝓜 s w c) ≡ true
  unfolding point2
  names = each_cell_at 𝓜 s L z (cell_names 𝓜 s) (λ w c. refl) points.1

  names_cell : (w e : ℕ) → entry_names_cell 𝓜 s w e (entry 𝓜 s w e) ≡ true
  unfolding point3
  names_cell = each_entry_at 𝓜 s L z (entry_names_cell 𝓜 s) (λ w e. refl) points.2

  awaited : (w c : ℕ) → cell_awaited 𝓜 s w c (cell 𝓜 s w c) ≡ true
  unfolding point4
  awaited = each_cell_at 𝓜 s L z (cell_awaited 𝓜 s) (λ w c. refl) (and_l _ _ points.3)

  has_its : (k : ℕ) → message_has_its 𝓜 s (message s k) ≡ true
  unfolding point4
  has_its = each_message_at 𝓜 s (message_has_its 𝓜 s) refl (and_r (each_cell 𝓜 s (cell_awaited 𝓜 s)) _ points.3)

  weighs : (o e : ℕ) → entry_weighs 𝓜 s o e (entry 𝓜 s o e) ≡ true
  unfolding point5
  weighs = each_entry_at 𝓜 s L z (entry_weighs 𝓜 s) (λ o e. refl) points.4

  -- ---- cells
  ex_parts : (w c o e n : ℕ) (st : Status) (a : Bool) → cell_names 𝓜 s w c (Ex o e n st a) ≡ true
      → (not (eqb o w) ≡ true) × (is_live (entry 𝓜 s o e) ≡ true) × (leb 1 n ≡ true) × (leb (exes_naming 𝓜 s w o e) 1 ≡ true)
  ex_parts w c o e n st a = and_4 (not (eqb o w)) (is_live (entry 𝓜 s o e)) (leb 1 n) (leb (exes_naming 𝓜 s w o e) 1)

  cell_fact : (w c : ℕ) (k : Kind) → cell_in_range 𝓜 s w c k ≡ true → cell_names 𝓜 s w c k ≡ true → CellFact 𝓜 s w k
  cell_fact w c Free i m = tt
  cell_fact w c (Var caller) i m = ltb-true w s.p (in_use (ltb w s.p) true i)
  cell_fact w c (Val n caller) i m = ltb-true w s.p (in_use (ltb w s.p) true i)
  cell_fact w c (Ref d) i m = (ltb-true w s.p (in_use (ltb w s.p) (kind_in_range 𝓜 s (Ref d)) i), m)
  cell_fact w c (Ex o e n st a) i m =
      let q = ex_parts w c o e n st a m in (
        ltb-true w s.p (in_use (ltb w s.p) (kind_in_range 𝓜 s (Ex o e n st a)) i),
        (λ (x : o ≡ w). absurd_bool (eq-eqb o w x) (not-true (eqb o w) q.0)),
        leb-true 1 n q.2,
      )

  -- an EX names a live entry, and is the only one of its worker that does
  ex_live : (w c o e : ℕ) → ex_names o e (cell 𝓜 s w c) ≡ true → (is_live (entry 𝓜 s o e) ≡ true) × (exes_naming 𝓜 s w o e ≤ 1)
  ex_live w c o e t =
      let x : ExOf o e (cell 𝓜 s w c) = the_ex_of o e (cell 𝓜 s w c) t in
      let q = ex_parts w c o e x.weight x.status x.asking (ap (cell_names 𝓜 s w c) (sym x.is) ∙ names w c) in
      (q.1, leb-true (exes_naming 𝓜 s w o e) 1 q.3)

  once : (w c d o e : ℕ) → ex_names o e (cell 𝓜 s w c) ≡ true → ex_names o e (cell 𝓜 s w d) ≡ true → c ≡ d
  unfolding exes_naming
  once w c d o e t u =
      count_unique 𝓜.cells c d (λ b. ex_names o e (cell 𝓜 s w b)) (ex_live w c o e t).1
      (cell_inside 𝓜 s w c (ex_not_free (λ owner entr n st a. eqb owner o && eqb entr e) (cell 𝓜 s w c) t)).1
      (cell_inside 𝓜 s w d (ex_not_free (λ owner entr n st a. eqb owner o && eqb entr e) (cell 𝓜 s w d) u)).1
      t
      u

  -- ---- entries
  entry_fact : (w e : ℕ) (x : Holding) → entry_in_range 𝓜 s w e x ≡ true → entry_names_cell 𝓜 s w e x ≡ true → EntryFact 𝓜 s w x
  entry_fact w e None i m = tt
  entry_fact w e (Some l) i m =
      let r = and_3 (ltb l.cell 𝓜.cells) (leb l.weight 𝓜.ceiling) (leb 1 l.weight) (and_r (ltb w s.p || false) (ltb l.cell 𝓜.cells && leb l.weight 𝓜.ceiling && leb 1 l.weight) i) in
      let q = and_3 (not (is_free (cell 𝓜 s w l.cell))) (leb (entries_naming 𝓜 s w l.cell) 1) (l.tainted || var_val_or_safe 𝓜 s w (end_kind 𝓜 s w l.cell)) m in (
        leb-true l.weight 𝓜.ceiling r.1,
        leb-true 1 l.weight r.2,
        not-true (is_free (cell 𝓜 s w l.cell)) q.0,
        (λ (u : l.tainted ≡ false). or_right l.tainted (var_val_or_safe 𝓜 s w (end_kind 𝓜 s w l.cell)) q.2 u),
      )

  entry_single : (w e f c : ℕ) → entry_names c (entry 𝓜 s w e) ≡ true → entry_names c (entry 𝓜 s w f) ≡ true → e ≡ f
  unfolding entries_naming
  entry_single w e f c t u =
      let x = the_entry_of c (entry 𝓜 s w e) t in
      let own = ap (entry_names_cell 𝓜 s w e) (sym x.is) ∙ names_cell w e in
      let q = and_3 (not (is_free (cell 𝓜 s w c))) (leb (entries_naming 𝓜 s w c) 1) (x.tainted || var_val_or_safe 𝓜 s w (end_kind 𝓜 s w c)) own in
      count_unique 𝓜.entries e f (λ b. entry_names c (entry 𝓜 s w b)) (leb-true (entries_naming 𝓜 s w c) 1 q.1)
      (entry_inside 𝓜 s w e (names_live_entry c (entry 𝓜 s w e) t)).1
      (entry_inside 𝓜 s w f (names_live_entry c (entry 𝓜 s w f) u)).1
      t
      u

  -- ---- messages
  message_fact : (m : Message) → message_in_range 𝓜 s m ≡ true → message_has_its 𝓜 s m ≡ true → MessageFact 𝓜 s m
  message_fact Empty i t = tt
  message_fact (Reference to o e n) i t =
      let q = and_4 (ltb to s.p) (ltb o s.p) (ltb e 𝓜.entries) (leb n 𝓜.ceiling) i in
      (ltb-true to s.p q.0, leb-true 1 n (and_r (is_live (entry 𝓜 s o e)) (leb 1 n) t))
  message_fact (Release o e n) i t = leb-true 1 n (and_r (is_live (entry 𝓜 s o e)) (leb 1 n) t)
  message_fact (Read r c o e) i t = tt
  message_fact (Answer r c n) i t = tt
  message_fact (Ask a c o e) i t = (and_3 (is_asking (cell 𝓜 s a c)) (is_live (entry 𝓜 s o e)) (ex_names o e (cell 𝓜 s a c)) t).2
  message_fact (Supply a c n) i t = tt

  read_ahead : (m : Message) → message_has_its 𝓜 s m ≡ true → (n : ℕ) × ReadAhead 𝓜 s n m
  read_ahead Empty t = (0, tt)
  read_ahead (Reference to o e n) t = (0, tt)
  read_ahead (Release o e n) t = (0, tt)
  read_ahead (Read r c o e) t =
      reached-ahead 𝓜 s (named_by (cell 𝓜 s r c)) o e
      (and_3 (is_reading (cell 𝓜 s r c)) (is_live (entry 𝓜 s o e)) (reached 𝓜 s (named_by (cell 𝓜 s r c)) o e) t).2
  read_ahead (Answer r c n) t = (0, tt)
  read_ahead (Ask a c o e) t = (0, tt)
  read_ahead (Supply a c n) t = (0, tt)

  -- ---- one message for a cell that waits, none for any other
  its_cell : (f : Kind → Bool) (r d w c : ℕ) → (eqb r w && eqb d c) ≡ true → f (cell 𝓜 s r d) ≡ true → f (cell 𝓜 s w c) ≡ true
  its_cell f r d w c u t =
      let q = both_eq r w d c u in
      rw (← q.0, ← q.1) t

  -- by what a message is of this cell
  its : (w c : ℕ) (m : Message) → message_has_its 𝓜 s m ≡ true
      → (reads_for w c m ≡ true → is_reading (cell 𝓜 s w c) ≡ true) × (asks_for w c m ≡ true → is_asking (cell 𝓜 s w c) ≡ true)
  its w c Empty t = ((λ u. absurd_bool u refl), (λ u. absurd_bool u refl))
  its w c (Reference to o e n) t = ((λ u. absurd_bool u refl), (λ u. absurd_bool u refl))
  its w c (Release o e n) t = ((λ u. absurd_bool u refl), (λ u. absurd_bool u refl))
  its w c (Read r d o e) t = ((λ u. its_cell is_reading r d w c u (and_3 _ _ _ t).0), (λ u. absurd_bool u refl))
  its w c (Answer r d n) t = ((λ u. its_cell is_reading r d w c u t), (λ u. absurd_bool u refl))
  its w c (Ask a d o e) t = ((λ u. absurd_bool u refl), (λ u. its_cell is_asking a d w c u (and_3 _ _ _ t).0))
  its w c (Supply a d n) t = ((λ u. absurd_bool u refl), (λ u. its_cell is_asking a d w c u t))

  -- a count over the messages is 0 where no message has the test
  none_of : (q : Message → Bool) → ((k : ℕ) → q (message s k) ≡ false) → total (λ x. bit (q x.message)) s.slots ≡ 0
  none_of q f = total_none (λ (x : Slot). bit (q x.message)) s.slots (record { message = Empty }) (λ k l. ap bit (f k))

  -- what the cell's own test says of the two counts
  waits_one : (w c : ℕ) (k : Kind) → cell_awaited 𝓜 s w c k ≡ true → (is_reading k ≡ true → reads_of 𝓜 s w c ≡ 1) × (is_asking k ≡ true → asks_of 𝓜 s w c ≡ 1)
  waits_one w c Free t = ((λ u. absurd_bool u refl), (λ u. absurd_bool u refl))
  waits_one w c (Var caller) t = ((λ u. absurd_bool u refl), (λ u. absurd_bool u refl))
  waits_one w c (Val n caller) t = ((λ u. absurd_bool u refl), (λ u. absurd_bool u refl))
  waits_one w c (Ref d) t = ((λ u. absurd_bool u refl), (λ u. absurd_bool u refl))
  waits_one w c (Ex o e n st a) t =
      let reads = not (reading_of st) || eqb (reads_of 𝓜 s w c) 1 in
      let asks = not a || eqb (asks_of 𝓜 s w c) 1 in (
        (λ u. eqb-true (reads_of 𝓜 s w c) 1 (or_right (not (reading_of st)) (eqb (reads_of 𝓜 s w c) 1) (and_l reads asks t) (ap not u))),
        (λ u. eqb-true (asks_of 𝓜 s w c) 1 (or_right (not a) (eqb (asks_of 𝓜 s w c) 1) (and_r reads asks t) (ap not u))),
      )

  -- as many messages have the test as the mark says, 1 or none
  one_or_none : (q : Message → Bool) (b : Bool) → (b ≡ true → total (λ x. bit (q x.message)) s.slots ≡ 1)
      → ((k : ℕ) → q (message s k) ≡ true → b ≡ true) → total (λ x. bit (q x.message)) s.slots ≡ bit b
  one_or_none q true one its = one refl
  one_or_none q false one its = none_of q (λ k. not_yes (λ u. absurd_bool (its k u) refl))

  one_read : (w c : ℕ) → reads_of 𝓜 s w c ≡ bit (is_reading (cell 𝓜 s w c))
  unfolding reads_of
  one_read w c =
      one_or_none (reads_for w c) (is_reading (cell 𝓜 s w c)) (waits_one w c (cell 𝓜 s w c) (awaited w c)).0
      (λ k. (its w c (message s k) (has_its k)).0)

  one_ask : (w c : ℕ) → asks_of 𝓜 s w c ≡ bit (is_asking (cell 𝓜 s w c))
  unfolding asks_of
  one_ask w c =
      one_or_none (asks_for w c) (is_asking (cell 𝓜 s w c)) (waits_one w c (cell 𝓜 s w c) (awaited w c)).1
      (λ k. (its w c (message s k) (has_its k)).1)

  -- ---- weights: nothing is held on a free entry
  module _ (o e : ℕ) (unused : is_live (entry 𝓜 s o e) ≡ false) where
    holds_none : (owner entr n : ℕ) → is_live (entry 𝓜 s owner entr) ≡ true → cond (eqb owner o && eqb entr e) n 0 ≡ 0
    holds_none owner entr n live =
        cond_zero (eqb owner o && eqb entr e) n
        (λ t. let q = both_eq owner o entr e t in absurd_bool (rw (q.0, q.1) at live) unused)

    cell_none : (w c : ℕ) (k : Kind) → cell 𝓜 s w c ≡ k → cell_holds 𝓜 s o e k ≡ 0
    cell_none w c Free x = refl
    cell_none w c (Var caller) x = refl
    cell_none w c (Val n caller) x = refl
    cell_none w c (Ref d) x = refl
    cell_none w c (Ex o' e' n st a) x =
        holds_none o' e' n (ex_parts w c o' e' n st a (ap (cell_names 𝓜 s w c) (sym x) ∙ names w c)).1

    message_none : (m : Message) → message_has_its 𝓜 s m ≡ true → message_holds 𝓜 s o e m ≡ 0
    message_none Empty t = refl
    message_none (Reference to o' e' n) t = holds_none o' e' n (and_l (is_live (entry 𝓜 s o' e')) (leb 1 n) t)
    message_none (Release o' e' n) t = holds_none o' e' n (and_l (is_live (entry 𝓜 s o' e')) (leb 1 n) t)
    message_none (Read r c o' e') t = refl
    message_none (Answer r c n) t = refl
    message_none (Ask a c o' e') t = refl
    message_none (Supply a c n) t =
        cond_zero (ex_names o e (cell 𝓜 s a c)) n (λ u. absurd_bool (ex_live a c o e u).0 unused)

    nothing_held_lem : held 𝓜 s o e ≡ 0
    unfolding held
    nothing_held_lem =
        ap₂ ◌+◌
        (flat_none 𝓜 s L z (cell_holds 𝓜 s o e) (λ w c. cell_none w c (cell 𝓜 s w c) refl))
        (total_none (λ (x : Slot). message_holds 𝓜 s o e x.message) s.slots (record { message = Empty }) (λ k l. message_none (message s k) (has_its k)))

  all_weighed : (o e : ℕ) → entry_weight (entry 𝓜 s o e) ≡ held 𝓜 s o e
  all_weighed o e = go (entry 𝓜 s o e) refl
    where
      go : (x : Holding) → entry 𝓜 s o e ≡ x → entry_weight x ≡ held 𝓜 s o e
      go None q = sym (nothing_held_lem o e (ap is_live q))
      go (Some l) q = eqb-true l.weight (held 𝓜 s o e) (ap (entry_weighs 𝓜 s o e) (sym q) ∙ weighs o e)

  -- ---- room
  goes_in : (w : ℕ) (m : Message) → message_in_range 𝓜 s m ≡ true → goes_to w m ≡ true → w < s.p
  goes_in w Empty i t = absurd_bool t refl
  goes_in w (Reference to o e n) i t =
      let q = and_4 (ltb to s.p) (ltb o s.p) (ltb e 𝓜.entries) (leb n 𝓜.ceiling) i in
      rw (← eqb-true to w t) (ltb-true to s.p q.0)
  goes_in w (Release o e n) i t = absurd_bool t refl
  goes_in w (Read r c o e) i t = absurd_bool t refl
  goes_in w (Answer r c n) i t = absurd_bool t refl
  goes_in w (Ask a c o e) i t = absurd_bool t refl
  goes_in w (Supply a c n) i t = absurd_bool t refl

  all_room : (w : ℕ) → booked s w ≤ free_cells 𝓜 s w
  unfolding point6 booked
  all_room w = go (ltb w s.p) refl
    where
      -- nothing goes to a worker that is not in use
      outside : s.p ≤ w → (k : ℕ) → goes_to w (message s k) ≡ true → ⊥
      outside le k u = omega (arith, goes_in w (message s k) (message_in_range_lem k) u)

      go : (b : Bool) → ltb w s.p ≡ b → booked s w ≤ free_cells 𝓜 s w
      go true t =
          leb-true (booked s w) (free_cells 𝓜 s w)
          (all_at s.p (room_for_booked 𝓜 s) points.5 w (ltb-true w s.p t))
      go false t =
          omega (arith, none_of (goes_to w) (λ k. not_yes (outside (ltb-false w s.p t) k)))

  pub sound_facts : Facts 𝓜 s
  sound_facts =
      record {
        sized = z;
        p_le = leb-true s.p 𝓜.workers p1.0;
        cells = λ w c. cell_fact w c (cell 𝓜 s w c) (in_range w c) (names w c);
        entries = λ w e. entry_fact w e (entry 𝓜 s w e) (entry_in_range_lem w e) (names_cell w e);
        messages = λ k. message_fact (message s k) (message_in_range_lem k) (has_its k);
        ex_once = once;
        entry_once = entry_single;
        reads_one = one_read;
        asks_one = one_ask;
        weighed = all_weighed;
        room = all_room;
      }

  pub sound_reads : Reads 𝓜 s
  sound_reads k = read_ahead (message s k) (has_its k)
