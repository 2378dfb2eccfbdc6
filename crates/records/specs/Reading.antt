-- What making or reading a record answers: the record, or the first wrong field. Assumes nothing.
use Rattle.std.specs.Prelude.{ℕ, Bool, cond, List, [], ◌∷◌, length, Some, None, Ok, Err, Option, Result, ◌==◌}
use Rattle.faults.specs.Refusals.{fault}
use Rattle.faults.specs.declared.faults.Fault.{Fault}
use Rattle.faults.specs.declared.faults.Layer.TheVariants.{Record}
use Rattle.faults.specs.declared.faults.Reason.TheVariants.{NoSuchRecord, WrongLength}

-- of fields in order, each with whether it is right and its first byte: the first byte of the first wrong one
abbrev pub first_wrong : List (Bool × ℕ) → Option ℕ
first_wrong [] = None
first_wrong (x ∷ xs) = cond x.0 (first_wrong xs) (Some x.1)

-- the refusal of a wrong field that begins at this byte
abbrev pub no_such_record : ℕ → Fault
no_such_record place = fault NoSuchRecord Record place

-- the refusal of bytes that are not twelve
abbrev pub wrong_length : ℕ → Fault
wrong_length n = fault WrongLength Record n

-- a value, unless a field is wrong
abbrev pub judged : {A : Type 0} → Option ℕ → A → Result A Fault
judged None a = Ok a
judged (Some place) a = Err (no_such_record place)

-- what reading these bytes answers, with the record shown as its bytes
abbrev pub read_as : (List ℕ → Option ℕ) → List ℕ → Result (List ℕ) Fault
read_as wrong bs = cond (length bs == 12) (judged (wrong bs) bs) (Err (wrong_length (length bs)))

-- an answer, with the record in it shown as its fields or its bytes
abbrev pub shown_as : {R A : Type 0} → (R → A) → Result R Fault → Result A Fault
shown_as view (Ok r) = Ok (view r)
shown_as view (Err f) = Err f
