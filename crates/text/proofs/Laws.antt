-- The run's loop: what is written so far, and what each line adds; and the run of a whole text. Assumes nothing.
use Prim.Native.Nat.{ℕ, ◌+◌, ◌-◌, ◌*◌, ◌≤◌, ◌<◌}
use mathlib.Core.Path.{◌≡◌, refl, sym, ap, ◌∙◌}
use mathlib.Core.List.{List, [], ◌++◌, append-nil, append_assoc}
use native.Mathlib.Omega.{arith}
use borrow.Author.Tests.{lt-ltb, le-ltb}
use lib.ListN.{length, take, drop, take-append-drop}
use borrow.Rule.Slice.PartMut.{put_mid, Post-is}
use lib.Seq.{length-take-le, drop-drop}
use Rattle.std.specs.Prelude.{Option, Some, None}
use Rattle.tables.specs.declared.Call.{Call}
use Rattle.tables.specs.declared.State.{State}
use Rattle.tables.specs.Machine.{Tables, eight, tables, state}
use Rattle.rules.specs.Calls.{closed}
use Rattle.frames.specs.Lines.{lines_of}
use Rattle.frames.specs.AnswerLines.{too_long_line, with_line}
use Rattle.frames.proofs.Written.{line_length, written_length, written_front, written_rest}
use Rattle.reader.proofs.Laws.{Got}
use Rattle.text.specs.Text.{printed, after, answers_from, run_text}

pub printed-length : (s : Tables) (f : Option Call) → length (printed s f) ≡ 11
printed-length s None = line_length _ _
printed-length s (Some call) = line_length _ _

-- a part of eleven bytes was written over
pub written_over : (out line : List ℕ) (at : ℕ) (now : List ℕ) → now ≡ line → put_mid at (at + 11 - at) out now ≡ with_line out at line
written_over out line at now e = rw (Post-is at (at + 11) out (omega arith), e, append_assoc)

-- the n bytes of the answers stand in out, and behind them what stood there
abbrev pub Filled : List ℕ → List ℕ → List ℕ → ℕ → Type 0
Filled answers out₀ out n = (n ≡ length answers) × (out ≡ answers ++ drop n out₀)

-- the place in the input, what stands in out up to pos, and the state then
pub record Running (input out₀ : List ℕ) (s : State) (at pos : ℕ) (out : List ℕ) : Type 0 where
  pub same : length out ≡ length out₀
  pub bound : pos ≤ 11 * at
  pub inside : pos ≤ length out
  pub rest : drop pos out ≡ drop pos out₀
  pub sofar : answers_from (closed eight) (lines_of input) ≡ take pos out ++ answers_from (tables s) (lines_of (drop at input))

pub run_start : (input out : List ℕ) (s : State) → s ≡ state (closed eight) → Running input out s 0 0 out
run_start input out s e =
    record { same = refl; bound = omega arith; inside = omega arith; rest = refl; sofar = ap (λ (x : State). answers_from (tables x) (lines_of input)) (sym e) }

module _ {input out₀ out : List ℕ} {s : State} {at pos : ℕ} (p : Running input out₀ s at pos out) (room : 11 * length input + 11 ≤ length out₀) where
  -- a line is there: it has room, and the turn
  module _ {frame : Option Call} {next : ℕ} (g : Got input at frame next) where
    pub run_room : pos + 11 ≤ length out
    run_room = omega (arith, p.same, p.bound, g.within)

    pub run_turn : (s' : State) (out' : List ℕ) → s' ≡ state (after (tables s) frame) → out' ≡ with_line out pos (printed (tables s) frame)
        → Running input out₀ s' next (pos + 11) out'
    unfolding answers_from
    run_turn s' out' e e' =
        let r = run_room in
        let l = printed-length (tables s) frame in
        let same = written_length out pos (printed (tables s) frame) r l in
        record {
          same = rw e' (same ∙ p.same);
          bound = omega (arith, p.bound, g.later);
          inside = rw (e', same) r;
          rest = rw e' (written_rest out pos _ r l ∙ sym (drop-drop 11 pos out) ∙ ap (drop 11) p.rest ∙ drop-drop 11 pos out₀);
          sofar = p.sofar ∙ rw (e', written_front out pos _ r l, e, g.lines, g.says, append_assoc);
        }

  pub run_end : lines_of (drop at input) ≡ [] → Filled (answers_from (closed eight) (lines_of input)) out₀ out pos
  unfolding answers_from
  run_end e =
      let all : answers_from (closed eight) (lines_of input) ≡ take pos out = p.sofar ∙ rw (e, append-nil) in
      rw all (sym (length-take-le pos out p.inside), sym (take-append-drop pos out) ∙ ap (λ (x : List ℕ). take pos out ++ x) p.rest)

-- the whole text: within the limit, and beyond it
module _ (input out₀ out : List ℕ) where
  pub run_short : (n : ℕ) → length input ≤ 65536 → Filled (answers_from (closed eight) (lines_of input)) out₀ out n → Filled (run_text input) out₀ out n
  unfolding run_text
  run_short n small e = rw (le-ltb _ _ small) e

  pub run_long : 65536 < length input → out ≡ with_line out₀ 0 too_long_line → Filled (run_text input) out₀ out 11
  unfolding run_text
  run_long big e = rw (lt-ltb _ _ big, e) (sym (line_length _ _), refl)
