-- `searches::lowest_free_entry` meets its contract: a search of a row of entries by a test of what they hold. Assumes nothing.
use Rattle.std.proofs.Common.{◌≡◌, length, rules}
use Rattle.tables.specs.Machine.{eight}
use Rattle.tables.specs.Parts.{is_unused}
use Rattle.tables.specs.Look.{lowest_free_entry}
use Rattle.rows.specs.Found.{entries_lowest}
use Rattle.searches.proofs.lowest_free_entry.Goals as goal

pub returns : goal.returns
unfolding lowest_free_entry
returns c t e =
    let l : length c.args.entries.now ≡ 128 = search rules in
    entries_lowest eight t c.args.w is_unused e l (c.lowest.ensures (λ x. is_unused x.holding) (λ x b p. search rules))
