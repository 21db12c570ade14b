-- What is still to be delivered, measured by a rank of the entries: at most B, and lower after each delivery. Assumes nothing.
use Prim.Native.Nat.{ℕ, ◌*◌, ◌/◌, ◌%◌, ◌<◌, ◌≤◌}
use native.Mathlib.Omega.{arith}
use mathlib.Core.Path.{◌≡◌, refl, subst}
use mathlib.Core.Bool.{Bool, true}
use lib.Dec.{leb}
use Rattle.numbers.specs.Below.{bit}
use Rattle.numbers.specs.Lists.{total}
use Rattle.numbers.specs.Tests.{and_l, and_r, and_i}
use Rattle.numbers.specs.BelowLaws.{sum_mono}
use Rattle.numbers.specs.ListLaws.{total_mono}
use Rattle.tables.specs.declared.Slot.{Slot}
use Rattle.tables.specs.declared.Status.{Status}
use Rattle.tables.specs.declared.Status.TheVariants.{Idle, Reading, Known}
use Rattle.tables.specs.declared.Kind.{Kind}
use Rattle.tables.specs.declared.Kind.TheVariants.{Free, Var, Val, Ref, Ex}
use Rattle.tables.specs.declared.Message.{Message}
use Rattle.tables.specs.declared.Message.TheVariants.{Empty, Reference, Release, Read, Answer, Ask, Supply}
use Rattle.tables.specs.Machine.{Machine, Tables}
use Rattle.tables.specs.Parts.{Place, is_live}
use Rattle.tables.specs.Look.{cell, entry, live_entries, message}
use Rattle.rules.specs.Calls.{costs, B}
use Rattle.states.specs.Machines.{Laws}
use Rattle.states.specs.Chains.{EndsIn}
use Rattle.states.specs.Facts.{Facts}
use Rattle.states.proofs.Derived.{LivePlace}
use Rattle.states.specs.Move.{Move, next, Keeps, ReadsOn, TrueValues, Carries, Makes, moved, Ranked, Invariant}
use Rattle.states.proofs.Stored.{stored_each}
use Rattle.states.proofs.Next.{cell_stored, entry_stored, slots-total}
use Rattle.states.proofs.Onward.{ends_kept}
use Rattle.states.proofs.Stays.{invariant_kept, rank_kept}
use Rattle.states.proofs.Count.{stands_at, standing, standing_live, stands, bit_mono}
use Rattle.states.proofs.Moves.{Stores}

-- the rank at which a Read's entry stands
abbrev pub rank_of : (ℕ → ℕ → ℕ) → Message → ℕ
rank_of r Empty = 0
rank_of r (Reference to o e w) = 0
rank_of r (Release o e w) = 0
rank_of r (Read rd c o e) = r o e
rank_of r (Answer rd c v) = 0
rank_of r (Ask a c o e) = 0
rank_of r (Supply a c w) = 0

-- what a message may still take: a Read one for itself, and one for each live entry that stands at most as high as its own
abbrev pub spends : Machine → Tables → (ℕ → ℕ → ℕ) → Message → ℕ
spends 𝓜 s r m = costs (standing 𝓜 s r (rank_of r m)) m

costs_mono : {a b : ℕ} (m : Message) → a ≤ b → costs a m ≤ costs b m
costs_mono Empty h = omega arith
costs_mono (Reference to o e w) h = omega arith
costs_mono (Release o e w) h = omega arith
costs_mono (Read rd c o e) h = omega arith
costs_mono (Answer rd c v) h = omega arith
costs_mono (Ask a c o e) h = omega arith
costs_mono (Supply a c w) h = omega arith

unfoldable pub measure : Machine → Tables → (ℕ → ℕ → ℕ) → ℕ
measure 𝓜 s r = total (λ x. spends 𝓜 s r x.message) s.slots

pub measure_bound : (𝓜 : Machine) (L : Laws 𝓜) (s : Tables) (F : Facts 𝓜 s) (r : ℕ → ℕ → ℕ) → measure 𝓜 s r ≤ B 𝓜 s
unfolding measure B
measure_bound 𝓜 L s F r =
    total_mono (λ (x : Slot). spends 𝓜 s r x.message) (λ (x : Slot). costs (live_entries s) x.message) s.slots (record { message = Empty })
    (λ k l. costs_mono (message s k) (standing_live 𝓜 L s F.sized r (rank_of r (message s k))))

-- ---- how a delivery changes a cell: an EX that reads goes on reading or is known, and what is known stays so
abbrev pub StatusOn : Status → Status → Type 0
StatusOn Idle Idle = Unit {0}
StatusOn Idle Reading = Unit {0}
StatusOn Idle (Known u) = Unit {0}
StatusOn Reading Idle = ⊥
StatusOn Reading Reading = Unit {0}
StatusOn Reading (Known u) = Unit {0}
StatusOn (Known v) Idle = ⊥
StatusOn (Known v) Reading = ⊥
StatusOn (Known v) (Known u) = v ≡ u

pub record ExOn (o e : ℕ) (st₀ : Status) (k : Kind) : Type 0 where
  pub weight : ℕ
  pub status : Status
  pub asking : Bool
  pub is : k ≡ Ex o e weight status asking
  pub on : StatusOn st₀ status

abbrev pub KindOn : Kind → Kind → Type 0
KindOn Free k = Unit {0}
KindOn (Var caller) k = Unit {0}
KindOn (Val n caller) k = Unit {0}
KindOn (Ref d) k = Unit {0}
KindOn (Ex o e n st a) k = ExOn o e st k

pub status_same : (st : Status) → StatusOn st st
status_same Idle = tt
status_same Reading = tt
status_same (Known v) = refl

pub kind_same : (k : Kind) → KindOn k k
kind_same Free = tt
kind_same (Var caller) = tt
kind_same (Val n caller) = tt
kind_same (Ref d) = tt
kind_same (Ex o e n st a) = record { weight = n; status = st; asking = a; is = refl; on = status_same st }

-- an EX that stays one, with this status
pub ex_on : (o e n : ℕ) (st₀ st : Status) (a : Bool) → StatusOn st₀ st → ExOn o e st₀ (Ex o e n st a)
ex_on o e n st₀ st a on = record { weight = n; status = st; asking = a; is = refl; on = on }

-- a delivery is a move that makes no entry; in a reached state it keeps what is true of those, and less is left to be delivered
pub record Delivers (𝓜 : Machine) (s s' : Tables) : Type 0 where
  pub move : Move
  pub keeps : Keeps 𝓜 s move
  pub reads_on : ReadsOn 𝓜 s move
  pub none_new : is_live move.x ≡ true → is_live move.x₀ ≡ true
  pub on : KindOn move.k₀ move.k
  pub is : next 𝓜 s move ≡ s'
  pub carries : TrueValues 𝓜 s → Carries 𝓜 s move
  pub less : (r : ℕ → ℕ → ℕ) → Ranked 𝓜 s r → spends 𝓜 (next 𝓜 s move) r move.m < spends 𝓜 (next 𝓜 s move) r move.m₀

pub delivers_makes : (𝓜 : Machine) (s s' : Tables) → Delivers 𝓜 s s' → Makes 𝓜 s s'
delivers_makes 𝓜 s s' D = subst (Makes 𝓜 s) D.is (moved D.move D.keeps D.reads_on D.carries)

pub delivers_by : (𝓜 : Machine) (s : Tables) {s' : Tables} (S : Stores 𝓜 s s') → ReadsOn 𝓜 s S.move → (TrueValues 𝓜 s → Carries 𝓜 s S.move)
    → (is_live S.move.x ≡ true → is_live S.move.x₀ ≡ true) → KindOn S.move.k₀ S.move.k
    → ((r : ℕ → ℕ → ℕ) → Ranked 𝓜 s r → spends 𝓜 (next 𝓜 s S.move) r S.move.m < spends 𝓜 (next 𝓜 s S.move) r S.move.m₀) → Delivers 𝓜 s s'
delivers_by 𝓜 s S reads carries none on less =
    record { move = S.move; keeps = S.keeps; reads_on = reads; none_new = none; on = on; is = S.is; carries = carries; less = less }

-- ---- a delivery in a reached state: the invariant stays, by the same rank, and less is left to be delivered
pub record Arrived (𝓜 : Machine) (s : Tables) (r : ℕ → ℕ → ℕ) (s' : Tables) : Type 0 where
  pub invariant : Invariant 𝓜 s'
  pub ranked : Ranked 𝓜 s' r
  pub lower : measure 𝓜 s' r < measure 𝓜 s r
  pub on : (w c : ℕ) → KindOn (cell 𝓜 s w c) (cell 𝓜 s' w c)
  pub ends : (p : Place) (v : ℕ) → LivePlace 𝓜 s' p → EndsIn 𝓜 s p v → EndsIn 𝓜 s' p v

module _ (𝓜 : Machine) (L : Laws 𝓜) (s : Tables) (I : Invariant 𝓜 s) (r : ℕ → ℕ → ℕ) (R : Ranked 𝓜 s r) where
  -- where a move makes no entry, no more of them stand at a rank, and no message takes more
  no_more : (h : Move) → Keeps 𝓜 s h → (is_live h.x ≡ true → is_live h.x₀ ≡ true) → (m : Message) → spends 𝓜 (next 𝓜 s h) r m ≤ spends 𝓜 s r m
  unfolding standing
  no_more h K old m =
      let ρ = rank_of r m in
      costs_mono m
      (sum_mono (𝓜.workers * 𝓜.entries) (λ j. bit (stands_at 𝓜 (next 𝓜 s h) r ρ j)) (λ j. bit (stands_at 𝓜 s r ρ j))
      (λ j l. at ρ (j / 𝓜.entries) (j % 𝓜.entries)))
    where
      was : (a b : ℕ) → is_live (entry 𝓜 (next 𝓜 s h) a b) ≡ true → is_live (entry 𝓜 s a b) ≡ true
      was = stored_each (entry_stored 𝓜 s h I.facts.sized K.placed) (λ a b x y. is_live y ≡ true → is_live x ≡ true) old (λ a b f t. t)

      at : (ρ a b : ℕ) → bit (stands 𝓜 (next 𝓜 s h) r ρ a b) ≤ bit (stands 𝓜 s r ρ a b)
      at ρ a b =
          let live = is_live (entry 𝓜 (next 𝓜 s h) a b) in
          bit_mono (stands 𝓜 (next 𝓜 s h) r ρ a b) (stands 𝓜 s r ρ a b)
          (λ t. and_i (was a b (and_l live (leb (r a b) ρ) t)) (and_r live (leb (r a b) ρ) t))

  pub arrived : (s' : Tables) → Delivers 𝓜 s s' → Arrived 𝓜 s r s'
  unfolding measure
  arrived s' D =
      let h = D.move in
      let K = D.keeps in
      let z = I.facts.sized in
      let before : Slot → ℕ = λ x. spends 𝓜 s r x.message in
      let after : Slot → ℕ = λ x. spends 𝓜 (next 𝓜 s h) r x.message in
      let rest = total_mono after before s.slots (record { message = Empty }) (λ k l. no_more h K D.none_new (message s k)) in
      subst (Arrived 𝓜 s r) D.is
      (record {
        invariant = invariant_kept 𝓜 s h I K D.reads_on (D.carries I.known);
        ranked = rank_kept 𝓜 s h I.facts K r R D.none_new;
        lower = omega (arith, slots-total 𝓜 s h z K.placed (spends 𝓜 (next 𝓜 s h) r), rest, D.less r R);
        on = stored_each (cell_stored 𝓜 s h z K.placed) (λ w c x y. KindOn x y) D.on (λ w c f. kind_same (cell 𝓜 s w c));
        ends = ends_kept 𝓜 s h I.facts K;
      })
