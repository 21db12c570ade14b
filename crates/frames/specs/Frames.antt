-- "Input: one frame a line": what a line says. Assumes nothing.
use Rattle.std.specs.Prelude.{ℕ, ◌/◌, ◌%◌, ◌^◌, Bool, true, false, cond, ◌&&◌, ◌||◌, List, [], ◌∷◌, length, get_or, ltb, eqb, Option, Some, None, option_and_then}
use Rattle.tables.specs.declared.Call.{Call}
use Rattle.tables.specs.declared.Call.TheVariants.{Start, New, Set, Bind, Export, Indirect, Transfer, Drop, ReadCell, AskWeight, Deliver, Bound}
use Rattle.frames.specs.Hex.{number_in}
use Rattle.frames.specs.declared.Fields.{Fields}

-- "call, three bytes, a 32-bit number, high byte first"
abbrev pub fields_of : ℕ → Fields
fields_of v = record { call = v / 2 ^ 56; a = v / 2 ^ 48 % 256; b = v / 2 ^ 40 % 256; c = v / 2 ^ 32 % 256; n = v % 2 ^ 32 }

-- "a byte or number not used must be 0"
abbrev pub zero_unless : Bool → ℕ → Bool
zero_unless used x = used || eqb x 0

-- the same of each part of a frame, whose call uses the first so many of the bytes, and the number or not
abbrev pub unused_are_zero : Fields → ℕ → Bool → Bool
unused_are_zero f bytes number =
    (zero_unless (ltb 0 bytes) f.a && zero_unless (ltb 1 bytes) f.b) && (zero_unless (ltb 2 bytes) f.c && zero_unless number f.n)

-- the call, where that holds; no frame where it does not
abbrev pub uses_only : Fields → ℕ → Bool → Call → Option Call
uses_only f bytes number call = cond (unused_are_zero f bytes number) (Some call) None

-- "Calls: 01 start (P), 02 new, 03 set, 04 bind, 05 export, 06 indirect, 07 transfer, 08 drop, 09 read, 0a ask, 0b deliver (slot),
-- 0c bound. The bytes are the call's arguments in order, n is the number"; W-201: the caller of new is "in the frame's 32-bit field". The frame
-- by its call, from 00, which is none, on; with how many of the bytes the call uses, and whether the number
unfoldable pub by_call : Fields → List (Option Call)
by_call f =
    None
    ∷ uses_only f 1 false (Start f.a)
    ∷ uses_only f 1 true (New f.a f.n)
    ∷ uses_only f 2 true (Set f.a f.b f.n)
    ∷ uses_only f 3 false (Bind f.a f.b f.c)
    ∷ uses_only f 3 false (Export f.a f.b f.c)
    ∷ uses_only f 3 false (Indirect f.a f.b f.c)
    ∷ uses_only f 3 false (Transfer f.a f.b f.c)
    ∷ uses_only f 2 false (Drop f.a f.b)
    ∷ uses_only f 2 false (ReadCell f.a f.b)
    ∷ uses_only f 2 false (AskWeight f.a f.b)
    ∷ uses_only f 1 false (Deliver f.a)
    ∷ uses_only f 0 false Bound
    ∷ []

-- a call past the table is none either
abbrev pub frame_of : Fields → Option Call
frame_of f = get_or (by_call f) f.call None

-- "lower-case hexadecimal digits": bytes that are not all digits are no frame
abbrev pub frame_in : Option ℕ → Option Call
frame_in n = option_and_then (λ v. frame_of (fields_of v)) n

-- "one frame a line, 16 .. digits": what a line says, without its newline
unfoldable pub decode : List ℕ → Option Call
decode l = cond (eqb (length l) 16) (frame_in (number_in l)) None
