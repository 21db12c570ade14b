-- Where the facts hold, the soundness test says yes. Assumes nothing.
use Prim.Native.Nat.{ℕ, ◌<◌, ◌≤◌}
use native.Mathlib.Omega.{arith}
use mathlib.Core.Path.{◌≡◌, refl, sym, ap, ◌∙◌}
use mathlib.Core.Bool.{Bool, true, false, ◌&&◌, ◌||◌, not}
use lib.Dec.{ltb, leb, eqb}
use borrow.Author.Tests.{lt-ltb, le-leb, eq-eqb, ne_eqb}
use Rattle.numbers.specs.Below.{bit}
use Rattle.numbers.specs.Tests.{and_i, or_l, or_true}
use Rattle.numbers.specs.BelowLaws.{all_of, count_once}
use Rattle.tables.specs.declared.Kind.{Kind}
use Rattle.tables.specs.declared.Kind.TheVariants.{Free, Var, Val, Ref, Ex}
use Rattle.tables.specs.declared.Message.{Message}
use Rattle.tables.specs.declared.Message.TheVariants.{Empty, Reference, Release, Read, Answer, Ask, Supply}
use Rattle.tables.specs.Machine.{Machine, Tables}
use Rattle.tables.specs.Parts.{Holding, live, is_free, reading_of, is_reading, is_asking, ex_names, named_by, entry_names, entry_weight}
use Rattle.tables.specs.Look.{cell, entry, end_kind, booked, free_cells, message}
use Rattle.states.specs.Sound.{reads_for, asks_for, kind_in_range, message_in_range, cell_in_range, entry_in_range, exes_naming, cell_names, entries_naming, var_val_or_safe, entry_names_cell, reads_of, asks_of, cell_awaited, message_has_its, message_holds, held, entry_weighs, room_for_booked, point1, point2, point3, point4, point5, point6, sound}
use Rattle.states.specs.Machines.{Laws}
use Rattle.states.specs.Facts.{EntryFact, Facts, Reads}
use Rattle.states.proofs.Inside.{cell_inside, each_cell_of, each_entry_of, each_message_of}
use Rattle.states.proofs.Named.{eq_both, on_ex_lem, ex_not_free}
use Rattle.states.proofs.Reach.{reached_of}
use Rattle.states.proofs.Derived.{cell_used, live_used, held_le, held_live, ex_held, ex_live, names_live, sent_held, reading_cell, asking_cell, read_live, cell_fact, message_fact}
use Rattle.std.specs.Prelude.{None, Some}

-- a test that a count demands only where a mark is set
awaits : (b : Bool) (n : ℕ) → n ≡ bit b → (not b || eqb n 1) ≡ true
awaits true n h = eq-eqb n 1 h
awaits false n h = refl

module _ (𝓜 : Machine) (L : Laws 𝓜) (s : Tables) (F : Facts 𝓜 s) (R : Reads 𝓜 s) where
  worker_in_lem : (w : ℕ) → w < s.p → ltb w s.p ≡ true
  worker_in_lem w h = lt-ltb w s.p h

  -- ---- point 1
  -- a weight that is held on the entry e of worker o: the entry's numbers are in range, and the weight
  held_in_range : (o e n : ℕ) → n ≤ held 𝓜 s o e → 1 ≤ n → (ltb o s.p && ltb e 𝓜.entries && leb n 𝓜.ceiling) ≡ true
  held_in_range o e n h i =
      let u = live_used 𝓜 s F o e (held_live 𝓜 s F.weighed o e (omega arith)) in
      and_i (and_i (worker_in_lem o u.0) (lt-ltb e 𝓜.entries u.1))
      (le-leb n 𝓜.ceiling (omega (arith, held_le 𝓜 s F o e)))

  kind_in_range_lem : (w c : ℕ) (k : Kind) → cell 𝓜 s w c ≡ k → kind_in_range 𝓜 s k ≡ true
  kind_in_range_lem w c Free x = refl
  kind_in_range_lem w c (Var caller) x = refl
  kind_in_range_lem w c (Val n caller) x = refl
  kind_in_range_lem w c (Ref d) x =
      lt-ltb d 𝓜.cells (cell_inside 𝓜 s w d (ex_not_free (λ o e n st a. true) (cell 𝓜 s w d) (cell_fact 𝓜 s F w c x).1)).1
  kind_in_range_lem w c (Ex o e n st a) x = held_in_range o e n (ex_held 𝓜 s w c x) (cell_fact 𝓜 s F w c x).2

  in_use : (w : ℕ) (b : Bool) → (b ≡ false → w < s.p) → (ltb w s.p || b) ≡ true
  in_use w true h = or_true (ltb w s.p)
  in_use w false h = or_l false (worker_in_lem w (h refl))

  cell_in_range_lem : (w c : ℕ) → cell_in_range 𝓜 s w c (cell 𝓜 s w c) ≡ true
  cell_in_range_lem w c =
      and_i (in_use w (is_free (cell 𝓜 s w c)) (cell_used 𝓜 s F w c)) (kind_in_range_lem w c (cell 𝓜 s w c) refl)

  entry_in_range_lem : (w e : ℕ) (x : Holding) → entry 𝓜 s w e ≡ x → entry_in_range 𝓜 s w e x ≡ true
  entry_in_range_lem w e None q = and_i (or_true (ltb w s.p)) refl
  entry_in_range_lem w e (Some l) q =
      let f : EntryFact 𝓜 s w (live l.cell l.weight l.tainted) = rw q at (F.entries w e) in
      and_i (or_l false (worker_in_lem w (cell_used 𝓜 s F w l.cell f.2)))
      (and_i (and_i (lt-ltb l.cell 𝓜.cells (cell_inside 𝓜 s w l.cell f.2).1) (le-leb l.weight 𝓜.ceiling f.0)) (le-leb 1 l.weight f.1))

  place_in_range : (w c : ℕ) → is_free (cell 𝓜 s w c) ≡ false → (ltb w s.p && ltb c 𝓜.cells) ≡ true
  place_in_range w c h =
      and_i (worker_in_lem w (cell_used 𝓜 s F w c h)) (lt-ltb c 𝓜.cells (cell_inside 𝓜 s w c h).1)

  -- what a Reference or a Release carries is held
  reference_held : (k to o e n : ℕ) → message s k ≡ Reference to o e n → n ≤ held 𝓜 s o e
  reference_held k to o e n x = sent_held 𝓜 s k o e n (Reference to o e n) x (rw (eq_both o e))

  release_held : (k o e n : ℕ) → message s k ≡ Release o e n → n ≤ held 𝓜 s o e
  release_held k o e n x = sent_held 𝓜 s k o e n (Release o e n) x (rw (eq_both o e))

  -- the cell that a message waits at
  read_cell : (k r c : ℕ) (m : Message) → message s k ≡ m → reads_for r c m ≡ true → is_reading (cell 𝓜 s r c) ≡ true
  read_cell k r c m x h = reading_cell 𝓜 s F k r c (ap (reads_for r c) x ∙ h)

  ask_cell : (k a c : ℕ) (m : Message) → message s k ≡ m → asks_for a c m ≡ true → is_asking (cell 𝓜 s a c) ≡ true
  ask_cell k a c m x h = asking_cell 𝓜 s F k a c (ap (asks_for a c) x ∙ h)

  -- the entry of a Read, and of an Ask, is live
  ask_names : (k a c o e : ℕ) → message s k ≡ Ask a c o e → ex_names o e (cell 𝓜 s a c) ≡ true
  ask_names k a c o e x = message_fact 𝓜 s F k x

  message_in_range_lem : (k : ℕ) (m : Message) → message s k ≡ m → message_in_range 𝓜 s m ≡ true
  message_in_range_lem k Empty x = refl
  message_in_range_lem k (Reference to o e n) x =
      let f = message_fact 𝓜 s F k x in
      let u = live_used 𝓜 s F o e (held_live 𝓜 s F.weighed o e (omega (arith, reference_held k to o e n x, f.1))) in
      and_i (and_i (and_i (worker_in_lem to f.0) (worker_in_lem o u.0)) (lt-ltb e 𝓜.entries u.1))
      (le-leb n 𝓜.ceiling (omega (arith, reference_held k to o e n x, held_le 𝓜 s F o e)))
  message_in_range_lem k (Release o e n) x = held_in_range o e n (release_held k o e n x) (message_fact 𝓜 s F k x)
  message_in_range_lem k (Read r c o e) x =
      let u = live_used 𝓜 s F o e (read_live 𝓜 s F R k r c o e x) in
      let p = place_in_range r c (ex_not_free (λ o e n st a. reading_of st) (cell 𝓜 s r c) (read_cell k r c (Read r c o e) x (eq_both r c))) in
      and_i (and_i p (worker_in_lem o u.0)) (lt-ltb e 𝓜.entries u.1)
  message_in_range_lem k (Answer r c n) x =
      place_in_range r c (ex_not_free (λ o e n st a. reading_of st) (cell 𝓜 s r c) (read_cell k r c (Answer r c n) x (eq_both r c)))
  message_in_range_lem k (Ask a c o e) x =
      let u = live_used 𝓜 s F o e (names_live 𝓜 s F a c o e (ask_names k a c o e x)) in
      let p = place_in_range a c (ex_not_free (λ o e n st a. a) (cell 𝓜 s a c) (ask_cell k a c (Ask a c o e) x (eq_both a c))) in
      and_i (and_i p (worker_in_lem o u.0)) (lt-ltb e 𝓜.entries u.1)
  message_in_range_lem k (Supply a c n) x =
      let h = ask_cell k a c (Supply a c n) x (eq_both a c) in
      let j = on_ex_lem (λ o e n st a. a) (cell 𝓜 s a c) h in
      let own : ex_names j.owner j.entry (cell 𝓜 s a c) ≡ true = ap (ex_names j.owner j.entry) j.is ∙ eq_both j.owner j.entry in
      let whole : message_holds 𝓜 s j.owner j.entry (Supply a c n) ≡ n = rw own in
      and_i (place_in_range a c (ap is_free j.is))
      (le-leb n 𝓜.ceiling (omega (arith, sent_held 𝓜 s k j.owner j.entry n (Supply a c n) x whole, held_le 𝓜 s F j.owner j.entry)))

  -- ---- points 2 and 3
  names : (w c : ℕ) (k : Kind) → cell 𝓜 s w c ≡ k → cell_names 𝓜 s w c k ≡ true
  unfolding exes_naming
  names w c Free x = refl
  names w c (Var caller) x = refl
  names w c (Val n caller) x = refl
  names w c (Ref d) x = (cell_fact 𝓜 s F w c x).1
  names w c (Ex o e n st a) x =
      let f = cell_fact 𝓜 s F w c x in
      and_i (and_i (and_i (ap not (ne_eqb o w f.1)) (ex_live 𝓜 s F.weighed F.cells w c x)) (le-leb 1 n f.2))
      (le-leb (exes_naming 𝓜 s w o e) 1 (count_once 𝓜.cells (λ b. ex_names o e (cell 𝓜 s w b)) (λ i j a b t u. F.ex_once w i j o e t u)))

  names_cell : (w e : ℕ) (x : Holding) → entry 𝓜 s w e ≡ x → entry_names_cell 𝓜 s w e x ≡ true
  unfolding entries_naming
  names_cell w e None q = refl
  names_cell w e (Some l) q =
      let f : EntryFact 𝓜 s w (live l.cell l.weight l.tainted) = rw q at (F.entries w e) in
      and_i (and_i (ap not f.2)
      (le-leb (entries_naming 𝓜 s w l.cell) 1 (count_once 𝓜.entries (λ b. entry_names l.cell (entry 𝓜 s w b)) (λ i j a b u v. F.entry_once w i j l.cell u v))))
      (end_good l.tainted f.3)
    where
      end_good : (b : Bool) → (b ≡ false → var_val_or_safe 𝓜 s w (end_kind 𝓜 s w l.cell) ≡ true) → (b || var_val_or_safe 𝓜 s w (end_kind 𝓜 s w l.cell)) ≡ true
      end_good true h = refl
      end_good false h = h refl

  -- ---- point 4
  awaited : (w c : ℕ) (k : Kind) → cell 𝓜 s w c ≡ k → cell_awaited 𝓜 s w c k ≡ true
  awaited w c Free x = refl
  awaited w c (Var caller) x = refl
  awaited w c (Val n caller) x = refl
  awaited w c (Ref d) x = refl
  awaited w c (Ex o e n st a) x =
      and_i (awaits (reading_of st) (reads_of 𝓜 s w c) (F.reads_one w c ∙ ap (λ (k : Kind). bit (is_reading k)) x))
      (awaits a (asks_of 𝓜 s w c) (F.asks_one w c ∙ ap (λ (k : Kind). bit (is_asking k)) x))

  has_its : (k : ℕ) (m : Message) → message s k ≡ m → message_has_its 𝓜 s m ≡ true
  has_its k Empty x = refl
  has_its k (Reference to o e n) x =
      let f = message_fact 𝓜 s F k x in
      and_i (held_live 𝓜 s F.weighed o e (omega (arith, reference_held k to o e n x, f.1))) (le-leb 1 n f.1)
  has_its k (Release o e n) x =
      let f = message_fact 𝓜 s F k x in
      and_i (held_live 𝓜 s F.weighed o e (omega (arith, release_held k o e n x, f))) (le-leb 1 n f)
  has_its k (Read r c o e) x =
      let q = R k in
      let live = read_live 𝓜 s F R k r c o e x in
      and_i (and_i (read_cell k r c (Read r c o e) x (eq_both r c)) live)
      (reached_of 𝓜 s (named_by (cell 𝓜 s r c)) o e live q.0 (rw x at q.1))
  has_its k (Answer r c n) x = read_cell k r c (Answer r c n) x (eq_both r c)
  has_its k (Ask a c o e) x =
      let t = ask_names k a c o e x in
      and_i (and_i (ask_cell k a c (Ask a c o e) x (eq_both a c)) (names_live 𝓜 s F a c o e t)) t
  has_its k (Supply a c n) x = ask_cell k a c (Supply a c n) x (eq_both a c)

  -- ---- point 5
  weighs : (o e : ℕ) (x : Holding) → entry 𝓜 s o e ≡ x → entry_weighs 𝓜 s o e x ≡ true
  weighs o e None q = refl
  weighs o e (Some l) q = eq-eqb l.weight (held 𝓜 s o e) (sym (ap entry_weight q) ∙ F.weighed o e)

  pub facts_sound : sound 𝓜 s ≡ true
  unfolding sound point1 point2 point3 point4 point5 point6
  facts_sound =
      let z = F.sized in
      and_i
      (and_i (and_i (and_i (le-leb s.p 𝓜.workers F.p_le) (each_cell_of 𝓜 s L z (cell_in_range 𝓜 s) cell_in_range_lem))
      (each_entry_of 𝓜 s L z (entry_in_range 𝓜 s) (λ w e. entry_in_range_lem w e (entry 𝓜 s w e) refl)))
      (each_message_of 𝓜 s (message_in_range 𝓜 s) (λ k. message_in_range_lem k (message s k) refl)))
      (and_i (each_cell_of 𝓜 s L z (cell_names 𝓜 s) (λ w c. names w c (cell 𝓜 s w c) refl))
      (and_i (each_entry_of 𝓜 s L z (entry_names_cell 𝓜 s) (λ w e. names_cell w e (entry 𝓜 s w e) refl))
      (and_i
      (and_i (each_cell_of 𝓜 s L z (cell_awaited 𝓜 s) (λ w c. awaited w c (cell 𝓜 s w c) refl))
      (each_message_of 𝓜 s (message_has_its 𝓜 s) (λ k. has_its k (message s k) refl)))
      (and_i (each_entry_of 𝓜 s L z (entry_weighs 𝓜 s) (λ o e. weighs o e (entry 𝓜 s o e) refl))
      (all_of s.p (room_for_booked 𝓜 s) (λ w l. le-leb (booked s w) (free_cells 𝓜 s w) (F.room w)))))))
