-- `payers::payers_of` meets its contract: each cell has its payer.
use Rattle.std.proofs.Common.{refl, rules, ◌/◌, ◌%◌}
use Rattle.std.specs.Prelude.{None}
use Rattle.numbers.specs.ListLaws.{listed_is}
use Rattle.rules.specs.Payers.{payer}
use Rattle.tables.specs.Machine.{eight, tables}
use Rattle.loops.specs.Filling.{made}
use Rattle.payers.specs.Ways.{paid_by, pays_by, pays_is}
use Rattle.payers.proofs.payers_of.Goals as goal

pub returns : goal.returns
returns c =
    let s = tables c.args.s.now in
    let ways = c.ways_of-ways.result in
    let n = c.live_entries-n.result in
    listed_is (λ i. paid_by (payer eight s (i / 32) (i % 32))) c.from_fn.result 256 None (search rules)
    (λ k i. pays_is eight s ways n k c.ways_of-ways.ensures (c.live_entries-n.ensures s refl) i
    (made (pays_by ways n) (λ i y f k. search rules) c.from_fn.result c.from_fn.ensures.items k None i))
