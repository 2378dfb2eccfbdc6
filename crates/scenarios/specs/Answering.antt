-- What working a scenario answers. Assumes nothing.
use Rattle.std.specs.Prelude.{◌≡◌, ℕ, true, false, List, [], map, Ok, Err, vec_items, Result}
use Rattle.std.specs.Global.{Vec}
use Rattle.failures.specs.declared.Failure.{Failure}
use Rattle.failures.specs.declared.Failure.TheVariants.{Because, Memory}
use Rattle.faults.specs.declared.faults.Fault.{Fault}
use Rattle.faults.specs.declared.faults.Reason.TheVariants.{OutOfLimits}
use Rattle.records.specs.Offsets.{Fields, offset_fields}
use Rattle.records.specs.declared.offsets.Offset.{Offset}
use Rattle.reservoir.specs.Keeps.{Keeps}
use Rattle.reservoir.specs.declared.reservoirs.Reservoir.{Reservoir}
use Rattle.sampling.specs.Answers.{is_size, refusal}
use Rattle.script.specs.declared.commands.Command.{Command}
use Rattle.scenarios.specs.Replies.{Reply, inserted, found, told, refused, reply_to, after, replies}
use Rattle.scenarios.specs.declared.answers.Answer.{Answer}
use Rattle.scenarios.specs.declared.answers.Answer.TheVariants.{Inserted, Found, Told}
use Rattle.scenarios.specs.declared.answers.Row.{Row}

-- a filled slot, and the record in it as its fields
abbrev pub row_of : Row → ℕ × Fields
row_of r = (r.slot, offset_fields r.offset)

-- what an answer or a refusal says, without the memory that it lies in
abbrev pub said : Result Answer Fault → Reply
said (Ok (Inserted slot)) = inserted slot
said (Ok (Found r)) = found (offset_fields r)
said (Ok (Told t)) = told t.count (map row_of (vec_items t.rows)) t.sum
said (Err f) = refused f

-- a reservoir that keeps the sample of the records with these fields
pub record KeepsFields (seed size : ℕ) (xs : List Fields) (r : Reservoir Offset) : Type 0 where
  pub records : List Offset
  pub keeps : Keeps seed size records r
  pub fields_are : map offset_fields records ≡ xs

-- what is so of whatever a reservoir keeps: of the seed, the size and the fields of the records
abbrev pub OfFields : Reservoir Offset → (ℕ → ℕ → List Fields → Type 0) → Type 0
OfFields r Fact = (seed size : ℕ) (xs : List Fields) → KeepsFields seed size xs r → Fact seed size xs

-- r is the reply to a command, and the reservoir is this before it and that after it
abbrev pub Replied : Command → Reservoir Offset → Reservoir Offset → Reply → Type 0
Replied command this that r = OfFields this (λ seed size xs. (r ≡ reply_to seed size xs command) × KeepsFields seed size (after xs command) that)

-- a scenario's answers, each by the records accepted before it, or why it was not worked: a size out of limits is refused,
-- and memory runs out only where the size is within them
abbrev pub ScenarioAnswered : ℕ → ℕ → List Command → Result (Vec (Result Answer Fault)) (Failure Fault) → Type 0
ScenarioAnswered seed size commands (Ok v) = (is_size size ≡ true) × (map said (vec_items v) ≡ replies seed size [] commands)
ScenarioAnswered seed size commands (Err (Because f)) = (is_size size ≡ false) × (f ≡ refusal OutOfLimits size)
ScenarioAnswered seed size commands (Err Memory) = is_size size ≡ true
