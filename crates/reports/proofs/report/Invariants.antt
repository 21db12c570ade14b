-- `reports::report` meets its contract: the charges that are left bring the books to what all of them do, and the books so far hold few enough of
-- them that each total fits.
use Rattle.std.proofs.Common.{◌≡◌, length, drop}
use Rattle.tables.specs.Machine.{eight, tables}
use Rattle.reports.specs.Report.{taken, reported}
use Rattle.reports.specs.Charging.{opened_of, charged_all, Within}
use Rattle.reports.proofs.report.Given as goal

abbrev pub invariant-loop-c : goal.invariant-loop-c
invariant-loop-c l =
    let s = tables l.fn.s in
    let cs = l.fn.charges in
    let zs = taken (reported eight s (length cs)) cs in
    Within l.books l.c-index × (charged_all eight l.books (drop l.c-index zs) ≡ charged_all eight (opened_of eight s (length cs)) zs)
