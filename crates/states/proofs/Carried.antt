-- Reads stay on their chains, and what is known stays true, under a move that brings what it must. Assumes nothing.
use Rattle.std.specs.Prelude.{None}
use Prim.Native.Nat.{ℕ}
use mathlib.Core.Path.{◌≡◌, refl, ap, subst, ◌∙◌}
use mathlib.Core.Bool.{true}
use mathlib.Core.Logic.{⊎_elim}
use Rattle.tables.specs.declared.Status.{Status}
use Rattle.tables.specs.declared.Status.TheVariants.{Idle, Reading, Known}
use Rattle.tables.specs.declared.Kind.{Kind}
use Rattle.tables.specs.declared.Kind.TheVariants.{Free, Var, Val, Ref, Ex}
use Rattle.tables.specs.declared.Message.{Message}
use Rattle.tables.specs.declared.Message.TheVariants.{Empty, Reference, Release, Read, Answer, Ask, Supply}
use Rattle.tables.specs.Machine.{Machine, Tables}
use Rattle.tables.specs.Parts.{Place, place, named_by}
use Rattle.tables.specs.Look.{cell, message}
use Rattle.states.specs.Sound.{reads_for}
use Rattle.states.specs.Chains.{ahead}
use Rattle.states.specs.Facts.{Facts, ReadAhead, Reads, StatusFact, KnownFact, AnswerFact}
use Rattle.states.proofs.Named.{eq_both}
use Rattle.states.proofs.Derived.{reading_cell, LivePlace, named_place}
use Rattle.states.specs.Move.{Move, next, Keeps, ReadsOn, TrueValues, Carries}
use Rattle.states.proofs.Stored.{stored_each}
use Rattle.states.proofs.Next.{cell_stored, messages_all}
use Rattle.states.proofs.Kept.{shown_name, reading_shown, facts_kept}
use Rattle.states.proofs.Onward.{ahead_kept, ends_kept}

module _ (𝓜 : Machine) (s : Tables) (h : Move) (F : Facts 𝓜 s) (K : Keeps 𝓜 s h) where
  F' : Facts 𝓜 (next 𝓜 s h)
  F' = facts_kept 𝓜 s h F K

  -- an EX that waits for this message names what it named
  waiting_name : (j r d : ℕ) (m : Message) → message s j ≡ m → reads_for r d m ≡ true → named_by (cell 𝓜 (next 𝓜 s h) r d) ≡ named_by (cell 𝓜 s r d)
  waiting_name j r d m q t =
      shown_name None (λ owner entr. place owner entr) (cell 𝓜 (next 𝓜 s h) r d) (cell 𝓜 s r d)
      (reading_shown 𝓜 s h F K r d (reading_cell 𝓜 s F j r d (ap (reads_for r d) q ∙ t)))

  -- ---- a message that stays: a Read stays on its chain, and an Answer true
  message_kept : (j : ℕ) (m : Message) → message s j ≡ m
      → ((n : ℕ) → ReadAhead 𝓜 s n m → ReadAhead 𝓜 (next 𝓜 s h) n m) × (AnswerFact 𝓜 s m → AnswerFact 𝓜 (next 𝓜 s h) m)
  message_kept j Empty q = ((λ n f. tt), (λ f. tt))
  message_kept j (Reference to o e w) q = ((λ n f. tt), (λ f. tt))
  message_kept j (Release o e w) q = ((λ n f. tt), (λ f. tt))
  message_kept j (Read r d o e) q =
      let same = waiting_name j r d (Read r d o e) q (eq_both r d) in
      let live = named_place 𝓜 (next 𝓜 s h) F' r d in
      ((λ n f. ahead_kept 𝓜 s h F K n (named_by (cell 𝓜 (next 𝓜 s h) r d)) o e live (ap (ahead 𝓜 s n) same ∙ f)), (λ f. tt))
  message_kept j (Answer r d v) q =
      let same = waiting_name j r d (Answer r d v) q (eq_both r d) in
      let live = named_place 𝓜 (next 𝓜 s h) F' r d in
      ((λ n f. tt), (λ f. ends_kept 𝓜 s h F K (named_by (cell 𝓜 (next 𝓜 s h) r d)) v live (rw same f)))
  message_kept j (Ask a d o e) q = ((λ n f. tt), (λ f. tt))
  message_kept j (Supply a d w) q = ((λ n f. tt), (λ f. tt))

  -- ---- what is known
  status_kept : (p : Place) (st : Status) → LivePlace 𝓜 (next 𝓜 s h) p → StatusFact 𝓜 s p st → StatusFact 𝓜 (next 𝓜 s h) p st
  status_kept p Idle l f = tt
  status_kept p Reading l f = tt
  status_kept p (Known v) l f = ends_kept 𝓜 s h F K p v l f

  -- a cell that stands in the tables after the move
  known_kept : (v d : ℕ) (k : Kind) → cell 𝓜 (next 𝓜 s h) v d ≡ k → KnownFact 𝓜 s k → KnownFact 𝓜 (next 𝓜 s h) k
  known_kept v d Free q f = tt
  known_kept v d (Var caller) q f = tt
  known_kept v d (Val n caller) q f = tt
  known_kept v d (Ref y) q f = tt
  known_kept v d (Ex o e n st a) q f =
      status_kept (place o e) st (subst (LivePlace 𝓜 (next 𝓜 s h)) (ap named_by q) (named_place 𝓜 (next 𝓜 s h) F' v d)) f

  pub reads_kept : ReadsOn 𝓜 s h → Reads 𝓜 s → Reads 𝓜 (next 𝓜 s h)
  reads_kept on old =
      messages_all 𝓜 s h F.sized K.placed (λ m. (n : ℕ) × ReadAhead 𝓜 (next 𝓜 s h) n m)
      (λ j. ((old j).0, (message_kept j (message s j) refl).0 (old j).0 (old j).1))
      on

  module _ (C : Carries 𝓜 s h) where
    answers_kept : ((j : ℕ) → AnswerFact 𝓜 s (message s j)) → (j : ℕ) → AnswerFact 𝓜 (next 𝓜 s h) (message (next 𝓜 s h) j)
    answers_kept old =
        messages_all 𝓜 s h F.sized K.placed (AnswerFact 𝓜 (next 𝓜 s h)) (λ j. (message_kept j (message s j) refl).1 (old j)) C.answer_ok

    known_after : ((v d : ℕ) → KnownFact 𝓜 s (cell 𝓜 s v d)) → (v d : ℕ) → KnownFact 𝓜 (next 𝓜 s h) (cell 𝓜 (next 𝓜 s h) v d)
    known_after old v d =
        stored_each (cell_stored 𝓜 s h F.sized K.placed) (λ v d x y. KnownFact 𝓜 s x → cell 𝓜 (next 𝓜 s h) v d ≡ y → KnownFact 𝓜 (next 𝓜 s h) y)
        (λ f q. ⊎_elim (λ g. known_kept h.w h.c h.k q (g f)) (λ g. g) C.known_ok)
        (λ v d t f q. known_kept v d (cell 𝓜 s v d) q f)
        v d (old v d) refl

    pub known_kept_all : TrueValues 𝓜 s → TrueValues 𝓜 (next 𝓜 s h)
    known_kept_all old = record { exes = known_after old.exes; answers = answers_kept old.answers }
