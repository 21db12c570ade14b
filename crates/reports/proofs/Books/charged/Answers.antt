-- `reports::Books::charged` meets its contract: one total gains the amount, and fits.
use Rattle.std.proofs.Common.{rules, SFits, w32}
use Rattle.reports.proofs.Laws.{books_placed, books_unplaced}
use Rattle.reports.proofs.Books.charged.Goals as goal

pub returns-in-Some-clause-value : goal.returns-in-Some-clause-value
returns-in-Some-clause-value c =
    let fits : SFits w32 c.args.c.amount = search rules in
    books_placed c.args.self c.args.c c.requires fits c.payer_in.ensures c.plus.result c.in-Some.is c.plus.ensures

pub returns-in_default-clause-value : goal.returns-in_default-clause-value
returns-in_default-clause-value c =
    let fits : SFits w32 c.args.c.amount = search rules in
    let added = c.plus-in_default in
    books_unplaced c.args.self c.args.c c.requires fits c.payer_in.ensures added.result c.in_default.is added.ensures
