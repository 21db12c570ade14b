-- Any two outcomes of `endrusp_run` that meet its contract are equal: the number that it answers, and the buffer then. Assumes nothing.
use contract.Lifetimes.{Lfts}
use Rattle.calls.proofs.OneOutcome.{OneOutcomeAndBuffer, one}
use Rattle.foreign.proofs.endrusp_run.Reads as endrusp-run

pub endrusp_run_one : (κs : Lfts 2) → OneOutcomeAndBuffer (λ e. e.1.0.now) (endrusp-run.Post κs)
endrusp_run_one κs a x y e f p q = (one p.0 q.0, one p.1 q.1)
