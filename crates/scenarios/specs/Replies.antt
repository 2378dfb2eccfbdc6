-- What every command of a scenario is answered, by the records accepted before it. Assumes nothing.
use Rattle.std.specs.Prelude.{ℕ, zero, suc, List, [], ◌∷◌, ◌++◌, length, ℤ, pos, ◌+ℤ◌, Some, None, Ok, Err, Option, Result}
use Rattle.faults.specs.declared.faults.Fault.{Fault}
use Rattle.records.specs.Offsets.{Fields, wrong_fields}
use Rattle.records.specs.Reading.{no_such_record}
use Rattle.sampling.specs.Answers.{insert_answer, slot_answer, counted}
use Rattle.sampling.specs.Samples.{sample_at}
use Rattle.script.specs.declared.commands.Command.{Command}
use Rattle.script.specs.declared.commands.Command.TheVariants.{Insert, Slot, Report}

-- an answer, with every record shown as its fields
pub data Reply : Type 0 where
  inserted : Option ℕ → Reply
  found : Fields → Reply
  told : ℕ → List (ℕ × Fields) → ℤ → Reply
  refused : Fault → Reply

-- a slot with its record, if it is filled
abbrev pub row : ℕ → Option Fields → List (ℕ × Fields)
row i None = []
row i (Some x) = (i, x) ∷ []

-- the filled slots below n, ascending, each with its record
abbrev pub rows_below : ℕ → ℕ → ℕ → List Fields → List (ℕ × Fields)
rows_below zero seed size rs = []
rows_below (suc n) seed size rs = rows_below n seed size rs ++ row n (sample_at seed size rs n)

-- the sample of the records rs
abbrev pub sample_rows : ℕ → ℕ → List Fields → List (ℕ × Fields)
sample_rows seed size rs = rows_below size seed size rs

-- the exact sum of the nanoseconds
abbrev pub sum_of : List (ℕ × Fields) → ℤ
sum_of [] = pos 0
sum_of (x ∷ xs) = x.1.2 +ℤ sum_of xs

-- the slot that a record took, if any, or the refusal
abbrev pub slot_reply : Result (Option ℕ) Fault → Reply
slot_reply (Ok slot) = inserted slot
slot_reply (Err f) = refused f

-- the record in a slot, or the refusal
abbrev pub record_reply : Result Fields Fault → Reply
record_reply (Ok x) = found x
record_reply (Err f) = refused f

-- an insert of fields of which the first wrong one, if any, begins at this byte
abbrev pub insert_reply : Option ℕ → ℕ → ℕ → List Fields → Reply
insert_reply None seed size rs = slot_reply (insert_answer seed size rs)
insert_reply (Some place) seed size rs = refused (no_such_record place)

-- the answer to a command, where the records rs were accepted before it
abbrev pub reply_to : ℕ → ℕ → List Fields → Command → Reply
reply_to seed size rs (Insert second satellite nanoseconds) = insert_reply (wrong_fields (second, satellite, nanoseconds)) seed size rs
reply_to seed size rs (Slot i) = record_reply (slot_answer seed size rs i)
reply_to seed size rs Report = told (length rs) (sample_rows seed size rs) (sum_of (sample_rows seed size rs))

-- the records accepted once fields, of which the first wrong one begins at this byte, were offered
abbrev pub offered : Option ℕ → List Fields → Fields → List Fields
offered None rs x = counted rs x
offered (Some place) rs x = rs

-- the records accepted after a command
abbrev pub after : List Fields → Command → List Fields
after rs (Insert second satellite nanoseconds) = offered (wrong_fields (second, satellite, nanoseconds)) rs (second, satellite, nanoseconds)
after rs (Slot i) = rs
after rs Report = rs

-- the answers to commands in order
abbrev pub replies : ℕ → ℕ → List Fields → List Command → List Reply
replies seed size rs [] = []
replies seed size rs (c ∷ cs) = reply_to seed size rs c ∷ replies seed size (after rs c) cs
