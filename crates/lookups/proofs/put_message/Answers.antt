-- `lookups::put_message` meets its contract: what is stored in the row of slots. Assumes nothing.
use Rattle.std.proofs.Common.{ap, rules}
use Rattle.rows.specs.Laws.{slot_stored}
use Rattle.tables.specs.Machine.{eight, tables, state}
use Rattle.lookups.proofs.put_message.Goals as goal

pub returns : goal.returns
returns c = ap state (slot_stored eight (tables c.args.s) c.args.k c.args.m (search rules) c.put.ensures)
