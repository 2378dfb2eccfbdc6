-- What happened in an event, by its code. Assumes nothing.
use Rattle.std.specs.Prelude.{ℕ, Bool, ◌&&◌, [], ◌∷◌, Result, nat_le}
use Rattle.faults.specs.declared.faults.Fault.{Fault}
use Rattle.records.specs.Reading.{first_wrong, judged}
use Rattle.records.specs.declared.happenings.Happening.{Happening}
use Rattle.records.specs.declared.happenings.Happening.TheVariants.{LockLost, LockGained, Holdover}

-- the code that byte 4 has for what happened
abbrev pub happening_code : Happening → ℕ
happening_code LockLost = 1
happening_code LockGained = 2
happening_code Holdover = 3

-- whether a byte is such a code
abbrev pub is_code : ℕ → Bool
is_code what = nat_le 1 what && nat_le what 3

-- the happening with this code, shown as its code, or the refusal of byte 4
abbrev pub happening_coded : ℕ → Result ℕ Fault
happening_coded what = judged (first_wrong ((is_code what, 4) ∷ [])) what
