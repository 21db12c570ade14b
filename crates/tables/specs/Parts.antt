-- Tests and changes of one part of the state: what a cell, an entry or a slot holds. Assumes nothing.
use Rattle.std.specs.Prelude.{ℕ, Bool, true, false, ◌&&◌, eqb, Option, None, Some}
use Rattle.tables.specs.declared.Status.{Status}
use Rattle.tables.specs.declared.Status.TheVariants.{Idle, Reading, Known}
use Rattle.tables.specs.declared.Kind.{Kind}
use Rattle.tables.specs.declared.Kind.TheVariants.{Free, Var, Val, Ref, Ex}
use Rattle.tables.specs.declared.Live.{Live}
use Rattle.tables.specs.declared.Message.{Message}
use Rattle.tables.specs.declared.Message.TheVariants.{Empty, Reference, Release, Read, Answer, Ask, Supply}
use Rattle.tables.specs.declared.EntryName.{EntryName}

-- ---- places

-- where a walk along references stands: at the entry of this name, or nowhere
abbrev pub Place : Type 0
Place = Option EntryName

-- the entry e of worker o
abbrev pub place : ℕ → ℕ → Place
place o e = Some (record { owner = o; entry = e })

-- ---- cells

-- what f makes of an EX's fields; d of any other cell
abbrev pub on_ex : {A : Type 0} → A → (ℕ → ℕ → ℕ → Status → Bool → A) → Kind → A
on_ex d f Free = d
on_ex d f (Var caller) = d
on_ex d f (Val n caller) = d
on_ex d f (Ref c) = d
on_ex d f (Ex o e w st a) = f o e w st a

-- what f makes of the caller of a VAR; d of any other cell
abbrev pub on_var : {A : Type 0} → A → (ℕ → A) → Kind → A
on_var d f Free = d
on_var d f (Var caller) = f caller
on_var d f (Val n caller) = d
on_var d f (Ref c) = d
on_var d f (Ex o e w st a) = d

-- what f makes of the value and the caller of a VAL; d of any other cell
abbrev pub on_val : {A : Type 0} → A → (ℕ → ℕ → A) → Kind → A
on_val d f Free = d
on_val d f (Var caller) = d
on_val d f (Val n caller) = f n caller
on_val d f (Ref c) = d
on_val d f (Ex o e w st a) = d

-- what f makes of the cell that a REF names; d of any other cell
abbrev pub on_ref : {A : Type 0} → A → (ℕ → A) → Kind → A
on_ref d f Free = d
on_ref d f (Var caller) = d
on_ref d f (Val n caller) = d
on_ref d f (Ref c) = f c
on_ref d f (Ex o e w st a) = d

-- what f makes of a REF's cell, and g of an EX's fields; d of a cell that names nothing: a free one, a VAR, a VAL
abbrev pub on_names : {A : Type 0} → A → (ℕ → A) → (ℕ → ℕ → ℕ → Status → Bool → A) → Kind → A
on_names d f g k = on_ex (on_ref d f k) g k

abbrev pub is_free : Kind → Bool
is_free Free = true
is_free (Var caller) = false
is_free (Val n caller) = false
is_free (Ref c) = false
is_free (Ex o e w st a) = false

abbrev pub is_var : Kind → Bool
is_var k = on_var false (λ caller. true) k

abbrev pub is_val : Kind → Bool
is_val k = on_val false (λ n caller. true) k

-- a VAR or a VAL of this caller; "a REF or EX has none of its own"
abbrev pub has_caller : ℕ → Kind → Bool
has_caller who k = on_val (on_var false (λ caller. eqb caller who) k) (λ n caller. eqb caller who) k

-- the caller of a VAR or a VAL; of any other cell 256, which is past the last
abbrev pub caller_of : Kind → ℕ
caller_of k = on_val (on_var 256 (λ caller. caller) k) (λ n caller. caller) k

abbrev pub is_ex : Kind → Bool
is_ex k = on_ex false (λ o e w st a. true) k

abbrev pub reading_of : Status → Bool
reading_of Idle = false
reading_of Reading = true
reading_of (Known n) = false

abbrev pub known_of : Status → Bool
known_of Idle = false
known_of Reading = false
known_of (Known n) = true

-- an EX that is reading, one that is known, and one that is asking
abbrev pub is_reading : Kind → Bool
is_reading k = on_ex false (λ o e w st a. reading_of st) k

abbrev pub is_known : Kind → Bool
is_known k = on_ex false (λ o e w st a. known_of st) k

abbrev pub is_asking : Kind → Bool
is_asking k = on_ex false (λ o e w st a. a) k

-- an EX that names the entry e of worker o
abbrev pub ex_names : ℕ → ℕ → Kind → Bool
ex_names o e k = on_ex false (λ owner entry w st a. eqb owner o && eqb entry e) k

-- the entry that an EX names
abbrev pub named_by : Kind → Place
named_by k = on_ex None (λ o e w st a. place o e) k

-- the weight of an EX
abbrev pub ex_weight : Kind → ℕ
ex_weight k = on_ex 0 (λ o e w st a. w) k

-- a REF that names the cell c
abbrev pub ref_names : ℕ → Kind → Bool
ref_names c k = on_ref false (λ d. eqb d c) k

-- the number of the end of the cell c, which holds this
abbrev pub end_from : Kind → ℕ → ℕ
end_from k c = on_ref c (λ d. d) k

-- the entry e of worker o is at this place
abbrev pub is_at : ℕ → ℕ → Place → Bool
is_at o e None = false
is_at o e (Some p) = eqb p.owner o && eqb p.entry e

-- ---- entries

-- what an entry holds: it is live, or free
abbrev pub Holding : Type 0
Holding = Option Live

-- live, with this cell, weight and taint
abbrev pub live : ℕ → ℕ → Bool → Holding
live c w t = Some (record { cell = c; weight = w; tainted = t })

abbrev pub is_unused : Holding → Bool
is_unused None = true
is_unused (Some x) = false

abbrev pub is_live : Holding → Bool
is_live None = false
is_live (Some x) = true

abbrev pub is_tainted : Holding → Bool
is_tainted None = false
is_tainted (Some x) = x.tainted

-- a live entry that names the cell c
abbrev pub entry_names : ℕ → Holding → Bool
entry_names c None = false
entry_names c (Some x) = eqb x.cell c

-- the cell that an entry names, 0 where it is free
abbrev pub cell_of : Holding → ℕ
cell_of None = 0
cell_of (Some x) = x.cell

-- the weight of an entry, 0 where it is free
abbrev pub entry_weight : Holding → ℕ
entry_weight None = 0
entry_weight (Some x) = x.weight

-- ---- slots

abbrev pub is_empty : Message → Bool
is_empty Empty = true
is_empty (Reference to o e w) = false
is_empty (Release o e w) = false
is_empty (Read r c o e) = false
is_empty (Answer r c n) = false
is_empty (Ask a c o e) = false
is_empty (Supply a c w) = false

-- what f makes of a Read's fields; d of any other message
abbrev pub on_read : {A : Type 0} → A → (ℕ → ℕ → ℕ → ℕ → A) → Message → A
on_read d f Empty = d
on_read d f (Reference to o e n) = d
on_read d f (Release o e n) = d
on_read d f (Read r c o e) = f r c o e
on_read d f (Answer r c n) = d
on_read d f (Ask a c o e) = d
on_read d f (Supply a c n) = d

-- a Reference going to worker w
abbrev pub goes_to : ℕ → Message → Bool
goes_to w Empty = false
goes_to w (Reference to o e n) = eqb to w
goes_to w (Release o e n) = false
goes_to w (Read r c o e) = false
goes_to w (Answer r c n) = false
goes_to w (Ask a c o e) = false
goes_to w (Supply a c n) = false

-- the weight that a message carries
abbrev pub message_weight : Message → ℕ
message_weight Empty = 0
message_weight (Reference to o e n) = n
message_weight (Release o e n) = n
message_weight (Read r c o e) = 0
message_weight (Answer r c n) = 0
message_weight (Ask a c o e) = 0
message_weight (Supply a c n) = n
