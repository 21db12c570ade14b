-- `reports::report` meets its contract: a charge that is taken is booked, and all that are taken are the report.
use Rattle.std.proofs.Common.{arith, ◌≡◌, length, take, pos, refl, sym, ap, ◌∙◌}
use Rattle.tables.specs.Machine.{eight, tables}
use Rattle.reports.specs.declared.Charge.{Charge}
use Rattle.reports.specs.Report.{taken, reported}
use Rattle.reports.specs.Charging.{finished_of}
use Rattle.reports.proofs.Laws.{within_opened, charged_next, charged_end, taken_is, taken_few, report_is}
use Rattle.reports.proofs.report.Goals as goal
use Rattle.reports.proofs.report.Goals.{After-taken-n}

-- the charges that are walked are those that are taken
walked : (c : After-taken-n) → take c.taken-n.result c.args.charges.now ≡ taken (reported eight (tables c.args.s) (length c.args.charges.now)) c.args.charges.now
walked c = taken_is (reported eight (tables c.args.s) (length c.args.charges.now)) c.args.charges.now _ (rw c.open-books.ensures at c.taken-n.ensures)

pub loop-c-init : goal.loop-c-init
loop-c-init c = rw c.open-books.ensures (within_opened eight (tables c.args.s) (length c.args.charges.now), refl)

pub charged-books-requires : goal.charged-books-requires
charged-books-requires c =
    let few = taken_few (tables c.args.s) c.args.charges.now in
    let more = rw (walked (goal.at.charged-books-requires c).After-taken-n) at c.loop-c-test.true in
    let ok = c.loop-c.invariant.0 in
    (omega (arith, ok.0), ok.1, ok.2)

pub loop-c-preserved : goal.loop-c-preserved
loop-c-preserved c =
    let s = tables c.args.s in
    let cs = c.args.charges.now in
    let zs = taken (reported eight s (length cs)) cs in
    let none : Charge = record { worker = 0; cell = 0; amount = pos 0 } in
    let are = walked (goal.at.loop-c-preserved c).After-taken-n in
    let here = rw are at c.loop-c-test.true in
    let value = rw are at c.charged-books.ensures.value in
    let ok = c.charged-books.ensures.within in
    let one = c.loop-c.invariant.0.0 in
    ((omega (arith, ok.0, one), ok.1, ok.2), rw value (charged_next eight c.loop-c.books zs c.loop-c.c-index none here ∙ c.loop-c.invariant.1))

pub returns : goal.returns
returns c =
    let s = tables c.args.s in
    let cs = c.args.charges.now in
    let zs = taken (reported eight s (length cs)) cs in
    let end = rw (walked (goal.at.returns c).After-taken-n) at c.loop-c-test.false in
    c.from.ensures ∙ ap finished_of (sym (charged_end eight c.loop-c.books zs c.loop-c.c-index end) ∙ c.loop-c.invariant.1) ∙ report_is s cs
