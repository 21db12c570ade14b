-- Any two outcomes of `run` that meet its contract are equal: how it went, and the buffer then. Assumes nothing.
use contract.Lifetimes.{Lfts}
use Rattle.calls.proofs.OneOutcome.{OneOutcomeAndBuffer, one}
use Rattle.text.proofs.run.Reads as run

pub run_one : (κs : Lfts 2) → OneOutcomeAndBuffer (λ e. e.1.0.now) (run.Post κs)
run_one κs a x y e f p q = (one p.0 q.0, one p.1.0 q.1.0)
