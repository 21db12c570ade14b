-- `searches::entry_of` meets its contract: a search of a row of entries by a test of what they hold. Assumes nothing.
use Rattle.std.proofs.Common.{◌≡◌, length, rules}
use Rattle.tables.specs.Machine.{eight}
use Rattle.tables.specs.Parts.{entry_names}
use Rattle.tables.specs.Look.{entry_of}
use Rattle.rows.specs.Found.{entries_lowest}
use Rattle.searches.proofs.entry_of.Goals as goal

pub returns : goal.returns
unfolding entry_of
returns c t e =
    let d = c.args.c in
    let l : length c.args.entries.now ≡ 128 = search rules in
    entries_lowest eight t c.args.w (entry_names d) e l (c.lowest.ensures (λ x. entry_names d x.holding) (λ x b p. search rules))
