-- `weights::total` meets its contract: a sum by a closure that computes h. Assumes nothing.
use Rattle.std.proofs.Common.{◌≡◌, refl, ap, ◌∙◌, arith, rules, take_all}
use Rattle.std.proofs.lemmas.Fn.{says_at}
use Rattle.std.proofs.lemmas.List.Sums.{sum_by_more}
use Rattle.std.specs.List.{sum_by}
use Rattle.weights.proofs.total.Goals as goal

pub loop-x-init : goal.loop-x-init
loop-x-init g c = (search rules, omega arith, λ h says. refl)

pub overflow_add-sum : goal.overflow_add-sum
overflow_add-sum g c = omega (arith, c.loop-x.invariant.1)

pub loop-x-preserved : goal.loop-x-preserved
loop-x-preserved g c =
    let x = c.x-item.result in
    let xs = c.args.table.now in (
      search rules,
      omega (arith, c.loop-x.invariant.1),
      λ h says.
          let here : c.weight.result ≡ h x = says x c.weight.result (says_at g.F.Fn c.weight.ensures refl) in
          omega (arith, c.loop-x.invariant.2 h says, here, sum_by_more h xs c.loop-x.x-index x c.loop-x-test.true, ap h c.x-item.is),
    )

pub returns-clause-value : goal.returns-clause-value
returns-clause-value g c h says =
    c.loop-x.invariant.2 h says ∙ ap (sum_by h) (take_all c.loop-x.x-index c.args.table.now c.loop-x-test.false)

pub returns-clause-small : goal.returns-clause-small
returns-clause-small g c = omega (arith, c.loop-x.invariant.1)
