-- "A proof shows that no second outcome satisfies it": of each public call, and of the soundness test, any two results that meet the contract
-- are equal. `Post` is the contract as Rattle reads it from the source: what is owed of the arguments, the result and the parameters at exit.
-- Assumes nothing.
use mathlib.Core.Path.{◌≡◌, sym, ◌∙◌}
use contract.Lifetimes.{Lfts}
use Rattle.sound.proofs.is_sound.Reads as is_sound
use Rattle.sound.proofs.first_broken.Reads as first_broken
use Rattle.sound.proofs.broken_place.Reads as broken_place
use Rattle.quiet.proofs.start.Reads as start
use Rattle.quiet.proofs.new.Reads as new
use Rattle.quiet.proofs.set.Reads as set
use Rattle.quiet.proofs.bind.Reads as bind
use Rattle.sending.proofs.export.Reads as export
use Rattle.sending.proofs.indirect.Reads as indirect
use Rattle.sending.proofs.transfer.Reads as transfer
use Rattle.sending.proofs.drop.Reads as drop
use Rattle.sending.proofs.read.Reads as read
use Rattle.sending.proofs.ask.Reads as ask
use Rattle.quiet.proofs.bound.Reads as bound
use Rattle.deliveries.proofs.deliver.Reads as deliver
use Rattle.calls.proofs.step.Reads as step

-- a contract allows one outcome: whatever the arguments a, two results that meet it are equal
abbrev pub OneOutcome : {A R E : Type 0} → (A → R → E → Type 0) → Type 0
OneOutcome {A} {R} {E} meets = (a : A) (x y : R) (e f : E) → meets a x e → meets a y f → x ≡ y

-- the same of a function that writes into what it is lent: its result and what it leaves there
abbrev pub OneOutcomeAndBuffer : {A R E L : Type 0} → (E → L) → (A → R → E → Type 0) → Type 0
OneOutcomeAndBuffer {A} {R} {E} left meets =
    (a : A) (x y : R) (e f : E) → meets a x e → meets a y f → (x ≡ y) × (left e ≡ left f)

-- so it is where the contract says what the result is
pub one : {R : Type 0} {x y z : R} → x ≡ z → y ≡ z → x ≡ y
one p q = p ∙ sym q

pub is_sound_one : (κs : Lfts 1) → OneOutcome (is_sound.Post κs)
is_sound_one κs a x y e f p q = one p q

pub first_broken_one : (κs : Lfts 1) → OneOutcome (first_broken.Post κs)
first_broken_one κs a x y e f p q = one p q

pub broken_place_one : (κs : Lfts 1) → OneOutcome (broken_place.Post κs)
broken_place_one κs a x y e f p q = one p q

pub start_one : OneOutcome (start.Post tt)
start_one a x y e f p q = one p q

pub new_one : OneOutcome (new.Post tt)
new_one a x y e f p q = one p q

pub set_one : OneOutcome (set.Post tt)
set_one a x y e f p q = one p q

pub bind_one : OneOutcome (bind.Post tt)
bind_one a x y e f p q = one p q

pub export_one : OneOutcome (export.Post tt)
export_one a x y e f p q = one p q

pub indirect_one : OneOutcome (indirect.Post tt)
indirect_one a x y e f p q = one p q

pub transfer_one : OneOutcome (transfer.Post tt)
transfer_one a x y e f p q = one p q

pub drop_one : OneOutcome (drop.Post tt)
drop_one a x y e f p q = one p q

pub read_one : OneOutcome (read.Post tt)
read_one a x y e f p q = one p q

pub ask_one : OneOutcome (ask.Post tt)
ask_one a x y e f p q = one p q

pub bound_one : OneOutcome (bound.Post tt)
bound_one a x y e f p q = one p q

pub deliver_one : OneOutcome (deliver.Post tt)
deliver_one a x y e f p q = one p q

pub step_one : OneOutcome (step.Post tt)
step_one a x y e f p q = one p q
