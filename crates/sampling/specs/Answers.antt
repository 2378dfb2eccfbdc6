-- What a sample answers, by the records counted so far, and which of its calls are refused. Assumes nothing.
use Rattle.std.specs.Prelude.{ℕ, ◌+◌, Bool, cond, ◌&&◌, List, [], ◌∷◌, ◌++◌, length, Ok, Err, Option, Result, nat_le, nat_lt}
use Rattle.std.specs.Option.{ok_or}
use Rattle.faults.specs.Refusals.{fault}
use Rattle.faults.specs.declared.faults.Fault.{Fault}
use Rattle.faults.specs.declared.faults.Layer.TheVariants.{Sampler}
use Rattle.faults.specs.declared.faults.Reason.{Reason}
use Rattle.faults.specs.declared.faults.Reason.TheVariants.{CountAtLimit, NoSuchSlot, EmptySlot}
use Rattle.sampling.specs.Draws.{slot_of}
use Rattle.sampling.specs.Samples.{sample_at}

-- a refusal of the sampler's layer
abbrev pub refusal : Reason → ℕ → Fault
refusal why place = fault why Sampler place

-- a sample has 1 to 672 slots
abbrev pub is_size : ℕ → Bool
is_size size = nat_le 1 size && nat_le size 672

-- records are counted up to 4,000,000,000
abbrev pub has_room : {R : Type 0} → List R → Bool
has_room rs = nat_lt (length rs) 4000000000

-- the records counted once x has been offered
abbrev pub counted : {R : Type 0} → List R → R → List R
counted rs x = cond (has_room rs) (rs ++ x ∷ []) rs

-- one more record: its slot or none
abbrev pub insert_answer : {R : Type 0} → ℕ → ℕ → List R → Result (Option ℕ) Fault
insert_answer seed size rs = cond (has_room rs) (Ok (slot_of seed size (length rs + 1))) (Err (refusal CountAtLimit (length rs)))

-- the record in slot i
abbrev pub slot_answer : {R : Type 0} → ℕ → ℕ → List R → ℕ → Result R Fault
slot_answer seed size rs i = cond (nat_lt i size) (ok_or (sample_at seed size rs i) (refusal EmptySlot i)) (Err (refusal NoSuchSlot i))
