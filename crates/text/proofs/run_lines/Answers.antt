-- `text::run_lines` meets its contract: what was read is the first of the lines that are left, or none is left.
use Rattle.std.proofs.Common.{◌≡◌, ◌∙◌, ap, drop, [], rules}
use Rattle.frames.specs.Lines.{lines_of}
use Rattle.reader.proofs.Laws.{Got, step_got, step_ended}
use Rattle.text.proofs.Laws.{run_room, run_turn, run_end, written_over}
use Rattle.text.proofs.run_lines.Goals.{In-Some}
use Rattle.text.proofs.run_lines.Goals as goal

-- the line that is read
got : (c : In-Some) → Got c.args.input.now c.loop-frame.frame-iterator.at c.in-Some.frame c.next.new.self.at
got c =
    let e = c.in-Some.ensures.steps in
    rw (← c.loop-frame.invariant.reads) (step_got _ _ e.0 (ap (λ r. r.at) e.1))

pub slice_bounds-answer-end : goal.slice_bounds-answer-end
slice_bounds-answer-end c =
    let r = run_room c.loop-frame.invariant.running c.requires (got (goal.at.slice_bounds-answer-end c).In-Some) in
    search rules

pub loop-frame-preserved : goal.loop-frame-preserved
loop-frame-preserved c =
    let i = c.loop-frame.invariant in
    let g = got (goal.at.loop-frame-preserved c).In-Some in
    let e = c.answer.ensures in
    record {
      reads = ap (λ r. r.text.now) c.in-Some.ensures.steps.1 ∙ i.reads;
      running = run_turn i.running c.requires g _ _ e.state_after (written_over _ _ _ _ e.line_after);
    }

pub returns : goal.returns
returns c =
    let i = c.loop-frame.invariant in
    let none : lines_of (drop c.loop-frame.frame-iterator.at c.args.input.now) ≡ [] = rw (← i.reads) (step_ended _ _ c.in-None.ensures.steps.0) in
    run_end i.running c.requires none
