-- `payers::ways_of` meets its contract: each cell has its way on.
use Rattle.std.proofs.Common.{rules}
use Rattle.numbers.specs.ListLaws.{listed_is}
use Rattle.tables.specs.Machine.{eight, tables}
use Rattle.loops.specs.Filling.{made}
use Rattle.payers.specs.Ways.{end_at, way_on}
use Rattle.payers.specs.declared.Way.TheVariants.{Neither}
use Rattle.payers.proofs.ways_of.Goals as goal

pub returns : goal.returns
returns c =
    let s = tables c.args.s.now in
    let way = λ (i : _). way_on eight s (end_at eight s i) in
    listed_is way c.from_fn.result 256 Neither (search rules)
    (λ k i. made way (λ i y f k. search rules) c.from_fn.result c.from_fn.ensures.items k Neither i)
