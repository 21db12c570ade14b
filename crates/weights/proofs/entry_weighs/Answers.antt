-- `weights::entry_weighs` meets its contract: what is held is what the cells and the slots hold. Assumes nothing.
use Rattle.std.proofs.Common.{◌≡◌, ◌+◌, ◌∙◌, ap₂, arith, rules}
use Rattle.tables.specs.Machine.{eight, tables}
use Rattle.states.specs.Sound.{cell_holds, message_holds, held}
use Rattle.loops.specs.Chains.{summed}
use Rattle.weights.proofs.entry_weighs.Goals as goal

pub overflow_add-result : goal.overflow_add-result
overflow_add-result c = omega (arith, c.total-in_cells.ensures.small, c.total-in_slots.ensures.small)

pub returns-in-Some : goal.returns-in-Some
unfolding held
returns-in-Some c =
    let s = tables c.args.s.now in
    let o = c.args.o in
    let e = c.args.e in
    let cells = c.total-in_cells.ensures.value (λ x. cell_holds eight s o e x.kind) (λ x n p. search rules) in
    let slots = c.total-in_slots.ensures.value (λ x. message_holds eight s o e x.message) (λ x n p. search rules) in
    let sum : c.total-in_cells.result + c.total-in_slots.result ≡ held eight s o e = ap₂ ◌+◌ (cells ∙ summed _ _) (slots ∙ summed _ _) in
    rw (c.in-Some.is, c.from.ensures, sum)
