-- The facts of a sound state stay under a move that keeps what it must. Assumes nothing.
use Rattle.std.specs.Prelude.{Some, None}
use Prim.Native.Nat.{ℕ}
use native.Mathlib.Omega.{arith}
use mathlib.Core.Path.{◌≡◌, refl, sym, ap, ◌∙◌}
use mathlib.Core.Bool.{Bool, true, false, ◌&&◌, ◌||◌, not, cond}
use mathlib.Core.Logic.{⊎_elim}
use lib.Dec.{eqb, ltb}
use borrow.Author.Tests.{eq-eqb}
use Rattle.numbers.specs.Below.{bit}
use Rattle.numbers.specs.Tests.{absurd_bool, or_l, or_r}
use Rattle.numbers.specs.ListLaws.{total_cong}
use Rattle.tables.specs.declared.Slot.{Slot}
use Rattle.tables.specs.declared.Status.{Status}
use Rattle.tables.specs.declared.Status.TheVariants.{Idle}
use Rattle.tables.specs.declared.Kind.{Kind}
use Rattle.tables.specs.declared.Kind.TheVariants.{Free, Var, Val, Ref, Ex}
use Rattle.tables.specs.declared.Message.{Message}
use Rattle.tables.specs.declared.Message.TheVariants.{Empty, Reference, Release, Read, Answer, Ask, Supply}
use Rattle.tables.specs.Machine.{Machine, Tables}
use Rattle.tables.specs.Parts.{Holding, on_ex, reading_of, is_free, is_var, is_val, is_ex, is_reading, is_asking, ex_names, named_by, end_from, is_live, is_tainted, entry_names, entry_weight, goes_to, cell_of}
use Rattle.tables.specs.Look.{cell, entry, end, end_kind, safe, exported, busy, booked, message}
use Rattle.states.specs.Sound.{reads_for, asks_for, var_val_or_safe, reads_of, asks_of, cell_holds, message_holds, held}
use Rattle.states.specs.Facts.{CellFact, EntryFact, MessageFact, Facts}
use Rattle.states.proofs.Named.{eq_both, ex_not_var, the_ex, the_ex_of, ExOf, on_ex_lem, not_on_ex}
use Rattle.states.proofs.Busy.{exported_by, referred_by, busy-exported, busy-referred, busy_reading, busy_asking}
use Rattle.states.proofs.Derived.{ex_live, asking_cell, cell_fact}
use Rattle.states.specs.Move.{Move, next, shown, VarBecomes, stays, bound, Keeps}
use Rattle.states.proofs.Stored.{Stored, stored_each, stored_all, stored_number, stored_once}
use Rattle.states.proofs.Next.{cell_stored, entry_stored, messages_all, next_sized, cells-total, slots-total, free_count}

-- ---- cells that look the same to others
-- what does not look at an EX's weight and marks says the same of cells that look the same
pub shown_says : {X : Type 0} (f : Kind → X) → ((o e n : ℕ) (st : Status) (a : Bool) → f (Ex o e 0 Idle false) ≡ f (Ex o e n st a))
    → (j k : Kind) → shown j ≡ shown k → f j ≡ f k
shown_says f blind j k q = sym (unshown j) ∙ ap f q ∙ unshown k
  where
    unshown : (y : Kind) → f (shown y) ≡ f y
    unshown Free = refl
    unshown (Var caller) = refl
    unshown (Val n caller) = refl
    unshown (Ref c) = refl
    unshown (Ex o e n st a) = blind o e n st a

-- as what an EX's name says
pub shown_name : {X : Type 0} (d : X) (f : ℕ → ℕ → X) (j k : Kind) → shown j ≡ shown k → on_ex d (λ o e n st a. f o e) j ≡ on_ex d (λ o e n st a. f o e) k
shown_name d f j k q = shown_says (on_ex d (λ o e n st a. f o e)) (λ o e n st a. refl) j k q

-- a cell that looks like something other than an EX is it
pub shown_plain : (j k : Kind) → is_ex k ≡ false → shown j ≡ k → j ≡ k
shown_plain Free k t q = q
shown_plain (Var caller) k t q = q
shown_plain (Val n caller) k t q = q
shown_plain (Ref d) k t q = q
shown_plain (Ex o e n st a) k t q = absurd_bool (sym (ap is_ex q)) t

-- a VAR or a VAL is its own end, and names no entry
pub var_val_end : (k : Kind) (d : ℕ) → (is_var k || is_val k) ≡ true → (is_free k ≡ false) × (end_from k d ≡ d) × (named_by k ≡ None)
var_val_end Free d t = absurd_bool t refl
var_val_end (Var caller) d t = (refl, refl, refl)
var_val_end (Val n caller) d t = (refl, refl, refl)
var_val_end (Ref y) d t = absurd_bool t refl
var_val_end (Ex o e n st a) d t = absurd_bool t refl

-- ---- the end of a cell that holds a REF, and of one that holds something else
module _ (𝓜 : Machine) (t : Tables) where
  pub end_ref : (v d y : ℕ) → cell 𝓜 t v d ≡ Ref y → end_kind 𝓜 t v d ≡ cell 𝓜 t v y
  unfolding end_kind end
  end_ref v d y q = rw q

  pub end_self : (v d : ℕ) (k : Kind) → cell 𝓜 t v d ≡ k → end_from k d ≡ d → end_kind 𝓜 t v d ≡ k
  unfolding end_kind end
  end_self v d k q e = rw (q, e) q

  -- an EX that is a VAR, a VAL or safe is safe
  pub good_ex : (v : ℕ) (k : Kind) → is_ex k ≡ true → var_val_or_safe 𝓜 t v k ≡ true → safe 𝓜 t v k ≡ true
  good_ex v k e h =
      let x = the_ex k e in
      ap (safe 𝓜 t v) x.is ∙ sym (ap (var_val_or_safe 𝓜 t v) x.is) ∙ h

-- the facts of s, and a move that keeps them
module _ (𝓜 : Machine) (s : Tables) (h : Move) (F : Facts 𝓜 s) (K : Keeps 𝓜 s h) where
  abbrev s' : Tables
  s' = next 𝓜 s h

  -- the cells, and the entries, before and after
  cells_changed : Stored (cell 𝓜 s) (cell 𝓜 s') h.w h.c h.k₀ h.k
  cells_changed = cell_stored 𝓜 s h F.sized K.placed

  entries_changed : Stored (entry 𝓜 s) (entry 𝓜 s') h.o h.e h.x₀ h.x
  entries_changed = entry_stored 𝓜 s h F.sized K.placed

  -- ---- a busy cell that is no VAR looks the same
  pub shown_kept : (v d : ℕ) → busy 𝓜 s v d ≡ true → is_var (cell 𝓜 s v d) ≡ false → shown (cell 𝓜 s' v d) ≡ shown (cell 𝓜 s v d)
  shown_kept =
      stored_each cells_changed (λ v d x y. busy 𝓜 s v d ≡ true → is_var x ≡ false → shown y ≡ shown x) K.busy_kept (λ v d f b nv. refl)

  asking_shown : (v d : ℕ) → is_asking (cell 𝓜 s v d) ≡ true → shown (cell 𝓜 s' v d) ≡ shown (cell 𝓜 s v d)
  asking_shown v d t = shown_kept v d (busy_asking 𝓜 s v d t) (ex_not_var (λ o e n st a. a) (cell 𝓜 s v d) t)

  pub reading_shown : (v d : ℕ) → is_reading (cell 𝓜 s v d) ≡ true → shown (cell 𝓜 s' v d) ≡ shown (cell 𝓜 s v d)
  reading_shown v d t = shown_kept v d (busy_reading 𝓜 s v d t) (ex_not_var (λ o e n st a. reading_of st) (cell 𝓜 s v d) t)

  pub exported-shown : (v d : ℕ) → exported 𝓜 s v d ≡ true → is_var (cell 𝓜 s v d) ≡ false → shown (cell 𝓜 s' v d) ≡ shown (cell 𝓜 s v d)
  exported-shown v d x nv = shown_kept v d (busy-exported 𝓜 s v d x) nv

  -- and stays what it is, where it is neither a VAR nor an EX
  pub exported_same : (v d : ℕ) (k : Kind) → exported 𝓜 s v d ≡ true → cell 𝓜 s v d ≡ k → is_var k ≡ false → is_ex k ≡ false → cell 𝓜 s' v d ≡ k
  exported_same v d k x q nv ne =
      shown_plain (cell 𝓜 s' v d) k ne
      (exported-shown v d x (ap is_var q ∙ nv) ∙ ap shown q ∙ not_on_ex k (λ o e n st a. Ex o e 0 Idle false) k ne)

  -- an EX that a REF names looks the same
  pub referred_shown : (v d y : ℕ) → cell 𝓜 s v d ≡ Ref y → is_ex (cell 𝓜 s v y) ≡ true → shown (cell 𝓜 s' v y) ≡ shown (cell 𝓜 s v y)
  referred_shown v d y q t = shown_kept v y (busy-referred 𝓜 s v y (referred_by 𝓜 s v y d q)) (ex_not_var (λ o e n st a. true) (cell 𝓜 s v y) t)

  -- an EX that looks the same names the same entry
  pub ex_after : (v d : ℕ) {o e n : ℕ} {st : Status} {a : Bool} → cell 𝓜 s v d ≡ Ex o e n st a → shown (cell 𝓜 s' v d) ≡ shown (cell 𝓜 s v d)
      → ExOf o e (cell 𝓜 s' v d)
  ex_after v d {o} {e} q same =
      the_ex_of o e (cell 𝓜 s' v d)
      (shown_name false (λ owner entr. eqb owner o && eqb entr e) (cell 𝓜 s' v d) (cell 𝓜 s v d) same ∙ ap (ex_names o e) q ∙ eq_both o e)

  -- a cell that is asked for names what it named
  asked_name : (a b j r d : ℕ) (m : Message) → message s j ≡ m → asks_for r d m ≡ true → ex_names a b (cell 𝓜 s' r d) ≡ ex_names a b (cell 𝓜 s r d)
  asked_name a b j r d m q t =
      shown_name false (λ owner entr. eqb owner a && eqb entr b) (cell 𝓜 s' r d) (cell 𝓜 s r d)
      (asking_shown r d (asking_cell 𝓜 s F j r d (ap (asks_for r d) q ∙ t)))

  -- ---- weights
  -- a message that stays holds what it held, and what was true of it still is
  message_kept : (j : ℕ) (m : Message) → message s j ≡ m
      → ((a b : ℕ) → message_holds 𝓜 s' a b m ≡ message_holds 𝓜 s a b m) × (MessageFact 𝓜 s m → MessageFact 𝓜 s' m)
  message_kept j Empty q = ((λ a b. refl), (λ f. tt))
  message_kept j (Reference to o e n) q = ((λ a b. refl), (λ f. f))
  message_kept j (Release o e n) q = ((λ a b. refl), (λ f. f))
  message_kept j (Read r d o e) q = ((λ a b. refl), (λ f. tt))
  message_kept j (Answer r d n) q = ((λ a b. refl), (λ f. tt))
  message_kept j (Ask r d o e) q = ((λ a b. refl), (λ f. asked_name o e j r d (Ask r d o e) q (eq_both r d) ∙ f))
  message_kept j (Supply r d n) q =
      ((λ a b. ap (λ (z : Bool). cond z n 0) (asked_name a b j r d (Supply r d n) q (eq_both r d))), (λ f. tt))

  holds_new : (a b : ℕ) → message_holds 𝓜 s' a b h.m ≡ message_holds 𝓜 s a b h.m
  holds_new a b = ⊎_elim (λ e. (message_kept h.i h.m (K.placed.old_message ∙ sym e)).0 a b) (λ f. f a b) K.holds_ok

  weighed' : (a b : ℕ) → entry_weight (entry 𝓜 s' a b) ≡ held 𝓜 s' a b
  unfolding held
  weighed' a b =
      let z = F.sized in
      let P = K.placed in
      let before : Slot → ℕ = λ y. message_holds 𝓜 s a b y.message in
      let after : Slot → ℕ = λ y. message_holds 𝓜 s' a b y.message in
      omega (
        arith,
        stored_number entries_changed entry_weight a b,
        F.weighed a b,
        cells-total 𝓜 s h z P (cell_holds 𝓜 s a b),
        slots-total 𝓜 s h z P (message_holds 𝓜 s' a b),
        total_cong after before s.slots (record { message = Empty }) (λ j l. (message_kept j (message s j) refl).0 a b),
        (message_kept h.i h.m₀ P.old_message).0 a b,
        holds_new a b,
        K.weights a b,
      )

  -- ---- cells
  -- what held of a cell still does, and its REF still names an EX
  cell_kept : (v d : ℕ) (k : Kind) → cell 𝓜 s v d ≡ k → CellFact 𝓜 s v k → CellFact 𝓜 s' v k
  cell_kept v d Free q f = tt
  cell_kept v d (Var caller) q f = f
  cell_kept v d (Val n caller) q f = f
  cell_kept v d (Ref y) q f =
      (f.0, shown_name false (λ owner entr. true) (cell 𝓜 s' v y) (cell 𝓜 s v y) (referred_shown v d y q f.1) ∙ f.1)
  cell_kept v d (Ex o e n st a) q f = f

  cells' : (v d : ℕ) → CellFact 𝓜 s' v (cell 𝓜 s' v d)
  cells' = stored_all cells_changed (CellFact 𝓜 s') (λ v d. cell_kept v d (cell 𝓜 s v d) refl (F.cells v d)) K.cell_ok

  -- ---- entries
  -- an entry that is live before and after keeps its cell and its taint
  pub live_kept : (a b : ℕ) → is_live (entry 𝓜 s a b) ≡ true → is_live (entry 𝓜 s' a b) ≡ true
      → (cell_of (entry 𝓜 s' a b) ≡ cell_of (entry 𝓜 s a b)) × (is_tainted (entry 𝓜 s' a b) ≡ is_tainted (entry 𝓜 s a b))
  live_kept =
      stored_each entries_changed (λ a b x y. is_live x ≡ true → is_live y ≡ true → (cell_of y ≡ cell_of x) × (is_tainted y ≡ is_tainted x)) K.entry_kept
      (λ a b f l l'. (refl, refl))

  safe_is_ex : (t : Tables) (v : ℕ) (k : Kind) → safe 𝓜 t v k ≡ true → is_ex k ≡ true
  unfolding safe
  safe_is_ex t v k q = ap is_ex (on_ex_lem (λ o e n st a. ltb o v && not (is_tainted (entry 𝓜 t o e))) k q).is

  -- an EX that stays what others see of it stays safe
  safe_kept : (v y : ℕ) → shown (cell 𝓜 s' v y) ≡ shown (cell 𝓜 s v y) → safe 𝓜 s v (cell 𝓜 s v y) ≡ true → safe 𝓜 s' v (cell 𝓜 s' v y) ≡ true
  unfolding safe
  safe_kept v y q t =
      let x = the_ex (cell 𝓜 s v y) (safe_is_ex s v (cell 𝓜 s v y) t) in
      let o = x.owner in
      let e = x.entry in
      let x' = ex_after v y x.is q in
      let l = ex_live 𝓜 s F.weighed F.cells v y x.is in
      let l' = ex_live 𝓜 s' weighed' cells' v y x'.is in
      let t' : (ltb o v && not (is_tainted (entry 𝓜 s o e))) ≡ true = sym (ap (safe 𝓜 s v) x.is) ∙ t in
      ap (safe 𝓜 s' v) x'.is ∙ ap (λ (z : Bool). ltb o v && not z) (live_kept o e l l').1 ∙ t'

  -- an exported VAR, after the move: itself, its value, or a REF to a safe EX that stays
  pub data VarAfter (v : ℕ) (k : Kind) : Type 0 where
    var_or_val : (is_var k || is_val k) ≡ true → VarAfter v k
    ref_to_safe : (y : ℕ) → k ≡ Ref y → cell 𝓜 s' v y ≡ cell 𝓜 s v y → safe 𝓜 s v (cell 𝓜 s v y) ≡ true → VarAfter v k

  pub var_after : (v d : ℕ) → exported 𝓜 s v d ≡ true → (caller : ℕ) → cell 𝓜 s v d ≡ Var caller → VarAfter v (cell 𝓜 s' v d)
  var_after =
      stored_each cells_changed (λ v d x y. exported 𝓜 s v d ≡ true → (caller : ℕ) → x ≡ Var caller → VarAfter v y)
      (λ x caller q. becomes caller q (K.var_kept x (ap is_var q)))
      (λ v d f x caller q. var_or_val (ap (λ (k : Kind). is_var k || is_val k) q))
    where
      becomes : (caller : ℕ) → h.k₀ ≡ Var caller → VarBecomes 𝓜 s h.w h.k → VarAfter h.w h.k
      becomes caller q (stays t) = var_or_val t
      becomes caller q (bound y e t) =
          let var : h.c ≡ y → is_ex (cell 𝓜 s h.w y) ≡ false = λ b. ap is_ex (ap (cell 𝓜 s h.w) (sym b) ∙ cells_changed.was ∙ q) in
          let is_ex_lem = safe_is_ex s h.w (cell 𝓜 s h.w y) t in
          ref_to_safe y e (cells_changed.there h.w y (λ a b. absurd_bool is_ex_lem (var b))) t

  -- an end that is a VAR, a VAL or a safe EX
  abbrev GoodEnd : Tables → ℕ → ℕ → Type 0
  GoodEnd t v d = var_val_or_safe 𝓜 t v (end_kind 𝓜 t v d) ≡ true

  var_good : (v d : ℕ) → exported 𝓜 s v d ≡ true → (caller : ℕ) → cell 𝓜 s v d ≡ Var caller → (is_free (cell 𝓜 s' v d) ≡ false) × GoodEnd s' v d
  var_good v d x caller q = go (cell 𝓜 s' v d) refl (var_after v d x caller q)
    where
      go : (k : Kind) → cell 𝓜 s' v d ≡ k → VarAfter v k → (is_free (cell 𝓜 s' v d) ≡ false) × GoodEnd s' v d
      go k i (var_or_val t) =
          let r = var_val_end k d t in
          (ap is_free i ∙ r.0, ap (var_val_or_safe 𝓜 s' v) (end_self 𝓜 s' v d k i r.1) ∙ or_l (safe 𝓜 s' v k) t)
      go k i (ref_to_safe y e same t) =
          let is_safe = or_r (is_var (cell 𝓜 s' v y) || is_val (cell 𝓜 s' v y)) (safe_kept v y (ap shown same) t) in
          (ap is_free (i ∙ e), ap (var_val_or_safe 𝓜 s' v) (end_ref 𝓜 s' v d y (i ∙ e)) ∙ is_safe)

  -- an exported cell is not freed, and an end that was a VAR, a VAL or a safe EX is one
  good_kept : (v d : ℕ) → exported 𝓜 s v d ≡ true → is_free (cell 𝓜 s v d) ≡ false → (is_free (cell 𝓜 s' v d) ≡ false) × (GoodEnd s v d → GoodEnd s' v d)
  good_kept v d x nf = go (cell 𝓜 s v d) refl nf
    where
      -- its end is safe, where one that looks the same was
      safe_end : (y : ℕ) → end_kind 𝓜 s' v d ≡ cell 𝓜 s' v y → end_kind 𝓜 s v d ≡ cell 𝓜 s v y → is_ex (cell 𝓜 s v y) ≡ true
          → shown (cell 𝓜 s' v y) ≡ shown (cell 𝓜 s v y) → GoodEnd s v d → GoodEnd s' v d
      safe_end y now was ex same g =
          let was_safe = good_ex 𝓜 s v (cell 𝓜 s v y) ex (sym (ap (var_val_or_safe 𝓜 s v) was) ∙ g) in
          ap (var_val_or_safe 𝓜 s' v) now ∙ or_r (is_var (cell 𝓜 s' v y) || is_val (cell 𝓜 s' v y)) (safe_kept v y same was_safe)

      go : (k : Kind) → cell 𝓜 s v d ≡ k → is_free k ≡ false → (is_free (cell 𝓜 s' v d) ≡ false) × (GoodEnd s v d → GoodEnd s' v d)
      go Free q t = absurd_bool refl t
      go (Var caller) q t =
          let r = var_good v d x caller q in
          (r.0, λ g. r.1)
      go (Val n caller) q t =
          let here = exported_same v d (Val n caller) x q refl refl in
          (ap is_free here, λ g. ap (var_val_or_safe 𝓜 s' v) (end_self 𝓜 s' v d (Val n caller) here refl))
      go (Ref y) q t =
          let here = exported_same v d (Ref y) x q refl refl in
          let f = cell_fact 𝓜 s F v d q in
          (ap is_free here, safe_end y (end_ref 𝓜 s' v d y here) (end_ref 𝓜 s v d y q) f.1 (referred_shown v d y q f.1))
      go (Ex o e n st a) q t =
          let same = exported-shown v d x (ap is_var q) in
          let r = ex_after v d q same in
          let now = end_self 𝓜 s' v d (Ex o e r.weight r.status r.asking) r.is refl ∙ sym r.is in
          let was = end_self 𝓜 s v d (Ex o e n st a) q refl ∙ sym q in
          (ap is_free r.is, safe_end d now was (ap is_ex q) same)

  entry_kept' : (v f : ℕ) (y : Holding) → entry 𝓜 s v f ≡ y → EntryFact 𝓜 s v y → EntryFact 𝓜 s' v y
  entry_kept' v f None q g = tt
  entry_kept' v f (Some l) q g =
      let x = exported_by 𝓜 s v l.cell f (ap (entry_names l.cell) q ∙ eq-eqb l.cell l.cell refl) in
      let r = good_kept v l.cell x g.2 in
      (g.0, g.1, r.0, λ u. r.1 (g.3 u))

  entries' : (v f : ℕ) → EntryFact 𝓜 s' v (entry 𝓜 s' v f)
  entries' = stored_all entries_changed (EntryFact 𝓜 s') (λ v f. entry_kept' v f (entry 𝓜 s v f) refl (F.entries v f)) K.entry_ok

  -- ---- messages
  messages' : (j : ℕ) → MessageFact 𝓜 s' (message s' j)
  messages' =
      messages_all 𝓜 s h F.sized K.placed (MessageFact 𝓜 s') (λ j. (message_kept j (message s j) refl).1 (F.messages j)) K.message_ok

  pub facts_kept : Facts 𝓜 s'
  unfolding reads_of asks_of booked
  facts_kept =
      let z = F.sized in
      let P = K.placed in
      let slots = slots-total 𝓜 s h z P in
      let marks = stored_number cells_changed in
      record {
        sized = next_sized 𝓜 s h z P;
        p_le = F.p_le;
        cells = cells';
        entries = entries';
        messages = messages';
        ex_once = λ v c d a b. stored_once cells_changed (ex_names a b) (λ v c d. F.ex_once v c d a b) (λ d. K.ex_new d a b) v c d;
        entry_once = λ v e f d. stored_once entries_changed (entry_names d) (λ v e f. F.entry_once v e f d) (λ f. K.entry_new f d) v e f;
        reads_one = λ v d. omega (arith, slots (λ y. bit (reads_for v d y)), marks (λ y. bit (is_reading y)) v d, F.reads_one v d, K.reads v d);
        asks_one = λ v d. omega (arith, slots (λ y. bit (asks_for v d y)), marks (λ y. bit (is_asking y)) v d, F.asks_one v d, K.asks v d);
        weighed = weighed';
        room = λ v. omega (arith, slots (λ y. bit (goes_to v y)), free_count 𝓜 s h z P v, F.room v, K.room v);
      }
