-- "A proof shows that no second outcome satisfies it": any two reports that meet the contract of `report` are equal. What the contract ensures is read
-- from the source: of the arguments, the result and the parameters at exit. Assumes nothing.
use mathlib.Core.Path.{◌≡◌, refl, sym, ◌∙◌}
use seplogic.Ra.Ura.{Ura}
use base.Logic.{SProp}
use prog.Memory.{Memory}
use prog.Routine.{Routine}
use types.Logic.{Logic}
use contract.Monad.{Fun, fact}
use contract.Lifetimes.{Lfts}
use denote.Triple.Entry.{Args}
use denote.Triple.Clauses.{AtExit}
use Rattle.tables.specs.Machine.{eight, tables}
use Rattle.reports.specs.declared.CostReport.{CostReport}
use Rattle.reports.specs.Report.{report}
use Rattle.reports.specs.contracts.report as this

-- what a result must be, for these arguments
abbrev pub Meets : (κs : Lfts 1) → Args this.signature κs → CostReport → Type 0
Meets κs a r = r ≡ report eight (tables a.0) a.1.0.now

-- the contract ensures that, and nothing besides
pub report_says : {M : Type 1} {𝓤 : Ura M} (𝓛 : Logic 𝓤) (at_mem : Memory → SProp 𝓤) (run : Routine → Fun 𝓤) (κs : Lfts 1)
    (a : Args this.signature κs) (r : CostReport) (e : AtExit this.ended κs)
    → (this.clauses 𝓛 at_mem run κs a).ensures tt r e ≡ fact 𝓤 (Meets κs a r)
report_says 𝓛 at_mem run κs a r e = refl

pub report_one : (κs : Lfts 1) (a : Args this.signature κs) (x y : CostReport) → Meets κs a x → Meets κs a y → x ≡ y
report_one κs a x y p q = p ∙ sym q
