-- `chains::reached` meets its contract: the walk of 128 steps along the hops, and so that of document 01. Assumes nothing.
use Rattle.std.proofs.Common.{◌≡◌, ◌∙◌, rules}
use Rattle.tables.specs.Machine.{eight}
use Rattle.tables.specs.Parts.{is_at}
use Rattle.loops.specs.Walking.{walk_start, walk_met, walk_on, walk_end}
use Rattle.chains.specs.Hops.{reached_by}
use Rattle.chains.proofs.reached.Goals as goal

pub loop-init : goal.loop-init
loop-init c = walk_start _ _ _ _

pub returns-then-eq : goal.returns-then-eq
returns-then-eq c =
    let is : c.eq.result ≡ is_at c.args.to.owner c.args.to.entry c.loop.at = search rules in
    let found = walk_met c.loop.invariant c.loop-test.true is c.if-eq.true in
    record { by_table = found; by_state = λ t f. found ∙ reached_by eight t c.args.hops.now f c.args.from c.args.to.owner c.args.to.entry }

pub loop-preserved : goal.loop-preserved
loop-preserved c =
    let is : c.eq.result ≡ is_at c.args.to.owner c.args.to.entry c.loop.at = search rules in
    walk_on c.loop.invariant c.loop-test.true is c.if-eq.false c.step-at.ensures

pub returns : goal.returns
returns c =
    let ended = walk_end c.loop.invariant c.loop-test.false in
    record { by_table = ended; by_state = λ t f. ended ∙ reached_by eight t c.args.hops.now f c.args.from c.args.to.owner c.args.to.entry }
