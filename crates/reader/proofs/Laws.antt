-- What is found at a place, from the text; and what follows of the text, for a loop that reads it. Assumes nothing.
use Prim.Native.Nat.{ℕ, ◌+◌, ◌-◌, ◌≤◌, ◌<◌}
use mathlib.Core.Path.{◌≡◌, refl, sym, ap, ◌∙◌}
use mathlib.Core.Logic.{inl, inr}
use mathlib.Core.List.{List, [], ◌∷◌}
use native.Mathlib.Omega.{arith}
use native.Mathlib.Nat.{add-sub_cancel_left, eq-zero-or-pos}
use lib.ListN.{length, take, drop}
use Rattle.std.specs.Prelude.{Option, Some, None, option_map, unwrap_or}
use Rattle.tables.specs.declared.Call.{Call}
use Rattle.frames.specs.Frames.{decode}
use Rattle.frames.specs.Lines.{lines_of, to_newline, line_end}
use borrow.Author.Rules.{rules}
use Rattle.frames.proofs.Lines.{line_within, line_at, no_line_at, first_length}
use Rattle.reader.specs.Read.{read_at}
use Rattle.reader.specs.declared.Passage.{Passage}

-- A line was found. It is the first of those that stand at the place, and the others stand from the next place on.
pub record Got (s : List ℕ) (at : ℕ) (frame : Option Call) (next : ℕ) : Type 0 where
  pub line : List ℕ
  pub lines : lines_of (drop at s) ≡ line ∷ lines_of (drop next s)
  pub says : frame ≡ decode line
  pub within : at < length s
  pub later : at < next

module _ (s : List ℕ) (at : ℕ) where
  -- at the end of the text
  pub finds_end : length s ≤ at → None ≡ read_at s at
  unfolding read_at
  finds_end h = rw (no_line_at s at h)

  -- before it: the bytes up to the line's end
  pub finds_line : at < length s → Some record { frame = decode (take (line_end s at - at) (drop at s)); next = line_end s at + 1 } ≡ read_at s at
  unfolding read_at
  finds_line h = rw (line_at s at h, first_length (drop at s), add-sub_cancel_left)

  -- whose place is within the text
  pub ends_within : at < length s → line_end s at ≤ length s
  ends_within h = line_within s at (omega arith)

  pub got : (p : Passage) → read_at s at ≡ Some p → Got s at p.frame p.next
  got p e = elim (eq-zero-or-pos (length s - at)) [
    | inl z ↦ absurd (let h = finds_end (omega arith) ∙ e in let z : ◌≡◌ {A = ℕ} 0 1 = cc in omega arith)
    | inr q ↦
        let h : at < length s = omega arith in
        let f = finds_line h ∙ e in
        let n : p.next ≡ line_end s at + 1 = cc in
        record {
          line = take (to_newline (drop at s)) (drop at s);
          lines = rw n (line_at s at h);
          says = cc (ap (λ (k : ℕ). decode (take k (drop at s))) (add-sub_cancel_left at (to_newline (drop at s))));
          within = h;
          later = omega (arith, n);
        }
  ]

  pub ended : read_at s at ≡ None → lines_of (drop at s) ≡ []
  ended e = elim (eq-zero-or-pos (length s - at)) [
    | inl z ↦ no_line_at s at (omega arith)
    | inr p ↦ absurd (let h = finds_line (omega arith) ∙ e in let z : ◌≡◌ {A = ℕ} 0 1 = cc in omega arith)
  ]

  -- a line that was found is no longer left
  pub fewer : {o : Option Passage} {p : Passage} → o ≡ read_at s at → o ≡ Some p → length (lines_of (drop p.next s)) < length (lines_of (drop at s))
  fewer {p = p} e f = omega (arith, ap length (got p (sym e ∙ f)).lines)

pub ruleset finds = (rules, finds_end, finds_line, ends_within)

-- a step of a reader: its line is the first of those left, or none is left
module _ (s : List ℕ) (at : ℕ) where
  pub step_got : {frame : Option Call} {next : ℕ} → Some frame ≡ option_map (λ (p : Passage). p.frame) (read_at s at)
      → next ≡ unwrap_or (option_map (λ (p : Passage). p.next) (read_at s at)) at → Got s at frame next
  step_got {frame} {next} = go (read_at s at) refl
    where
      go : (o : Option Passage) → read_at s at ≡ o → Some frame ≡ option_map (λ (p : Passage). p.frame) o
          → next ≡ unwrap_or (option_map (λ (p : Passage). p.next) o) at → Got s at frame next
      go None e f n = absurd (let z : ◌≡◌ {A = ℕ} 0 1 = cc in omega arith)
      go (Some p) e f n = let h : frame ≡ p.frame = cc in rw (h, n) (got s at p e)

  pub step_ended : None ≡ option_map (λ (p : Passage). p.frame) (read_at s at) → lines_of (drop at s) ≡ []
  step_ended = go (read_at s at) refl
    where
      go : (o : Option Passage) → read_at s at ≡ o → None ≡ option_map (λ (p : Passage). p.frame) o → lines_of (drop at s) ≡ []
      go None e f = ended s at e
      go (Some p) e f = absurd (let z : ◌≡◌ {A = ℕ} 0 1 = cc in omega arith)
