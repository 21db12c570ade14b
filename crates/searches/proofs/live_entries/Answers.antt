-- `searches::live_entries` meets its contract: a count over the entries. Assumes nothing.
use Rattle.std.proofs.Common.{◌≡◌, ◌∙◌, rules}
use Rattle.std.specs.List.{count_by}
use Rattle.tables.specs.declared.Entry.{Entry}
use Rattle.tables.specs.Parts.{is_live}
use Rattle.tables.specs.Look.{live_entries}
use Rattle.loops.specs.Chains.{counted}
use Rattle.searches.proofs.live_entries.Goals as goal

pub returns : goal.returns
unfolding live_entries
returns c t e =
    let n : c.count.result ≡ count_by (λ (x : Entry). is_live x.holding) c.args.entries.now = search rules in
    rw e (n ∙ counted _ _)
