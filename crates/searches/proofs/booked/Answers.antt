-- `searches::booked` meets its contract: a count over the slots. Assumes nothing.
use Rattle.std.proofs.Common.{◌≡◌, ◌<◌, ◌≤◌, ◌∙◌, length, rules}
use Rattle.numbers.specs.Below.{bit}
use Rattle.numbers.specs.ListLaws.{total_below}
use Rattle.loops.specs.Searching.{count_start, count_step, count_end, byte_is_bit}
use Rattle.tables.specs.declared.Slot.{Slot}
use Rattle.tables.specs.declared.Message.TheVariants.{Empty}
use Rattle.tables.specs.Parts.{goes_to}
use Rattle.tables.specs.Look.{booked}
use Rattle.searches.proofs.booked.Goals as goal

pub loop-x-init : goal.loop-x-init
loop-x-init c = count_start _ _

pub loop-x-preserved : goal.loop-x-preserved
loop-x-preserved c =
    let l : c.loop-x.x-index < 64 = search rules in
    count_step c.loop-x.invariant l c.goes_to.ensures (c.from-n.ensures ∙ byte_is_bit c.goes_to.result)

pub returns : goal.returns
unfolding booked
returns c t e =
    let l : length c.args.slots.now ≡ 64 = search rules in
    let past : 64 ≤ c.loop-x.x-index = search rules in
    rw (e, total_below (λ (x : Slot). bit (goes_to c.args.w x.message)) c.args.slots.now (record { message = Empty }), l) (count_end c.loop-x.invariant past)
