-- `names::entries_naming` meets its contract: a count over a row of entries. Assumes nothing.
use Rattle.std.proofs.Common.{◌≡◌, length, refl, rules}
use Rattle.tables.specs.Machine.{eight, tables}
use Rattle.tables.specs.Parts.{entry_names}
use Rattle.rows.specs.Found.{entries_counted}
use Rattle.states.specs.Sound.{entries_naming}
use Rattle.names.proofs.entries_naming.Goals as goal

pub returns : goal.returns
unfolding entries_naming
returns c =
    let l : length c.args.s.now.entries ≡ 128 = search rules in
    let counts = c.count.ensures (λ x. entry_names c.args.c x.holding) (λ x b p. search rules) in
    entries_counted eight (tables c.args.s.now) c.args.w (entry_names c.args.c) refl l counts
