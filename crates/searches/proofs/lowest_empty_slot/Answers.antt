-- `searches::lowest_empty_slot` meets its contract: a search of the slots by a test of what they hold. Assumes nothing.
use Rattle.std.proofs.Common.{◌≡◌, length, rules}
use Rattle.tables.specs.Machine.{eight}
use Rattle.tables.specs.Parts.{is_empty}
use Rattle.tables.specs.Look.{lowest_empty_slot}
use Rattle.rows.specs.Found.{slots_lowest}
use Rattle.searches.proofs.lowest_empty_slot.Goals as goal

pub returns : goal.returns
unfolding lowest_empty_slot
returns c t e =
    let l : length c.args.slots.now ≡ 64 = search rules in
    slots_lowest eight t is_empty e l (c.lowest.ensures (λ x. is_empty x.message) (λ x b p. search rules))
