-- `text::run_lines`: the reader holds the input, and the answers to the lines before its place stand in out.
use Rattle.std.proofs.Common.{◌≡◌}
use Rattle.text.proofs.Laws.{Running}
use Rattle.text.proofs.run_lines.Given as goal

abbrev pub invariant-loop-frame : goal.invariant-loop-frame
invariant-loop-frame l = record {
  reads : l.frame-iterator.text.now ≡ l.input;
  running : Running l.input l.fn.out l.s l.frame-iterator.at l.n l.out;
}
