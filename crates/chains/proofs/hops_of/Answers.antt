-- `chains::hops_of` meets its contract: the hop of each entry is the step from it. Assumes nothing.
use Rattle.std.proofs.Common.{◌≡◌, ◌+◌, ◌*◌, ◌/◌, ◌%◌, arith, rules}
use Rattle.tables.specs.Machine.{eight, tables}
use Rattle.tables.specs.Look.{holding_at}
use Rattle.states.specs.Chains.{through}
use Rattle.loops.specs.Filling.{made}
use Rattle.chains.specs.Hops.{hop}
use Rattle.chains.proofs.hops_of.Goals as goal

pub returns : goal.returns
returns c =
    let s = tables c.args.s.now in
    record {
      size = search rules;
      at = λ j b.
          let same : j ≡ j / 16 * 16 + j % 16 = omega arith in
          hop eight s j (omega arith) (omega arith) same
          (made (λ i. through eight s (i / 16) (holding_at s.entries i)) (λ i y f k. search rules) c.from_fn.result c.from_fn.ensures.items j _ b);
    }
