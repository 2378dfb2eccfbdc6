-- The number that the format gives each reason and each layer. Assumes nothing.
use Rattle.std.specs.Prelude.{ℕ}
use Rattle.faults.specs.declared.faults.Layer.{Layer}
use Rattle.faults.specs.declared.faults.Layer.TheVariants.{Device, Mirror, Sampler, Record}
use Rattle.faults.specs.declared.faults.Reason.{Reason}
use Rattle.faults.specs.declared.faults.Reason.TheVariants.{NoSuchBlock, WrongLength, OutOfLimits, StoreTooSmall, NoSuchRecord, NoSuchSlot, Off, Torn, BadHead, OtherKind, BadEntry, BadSlot, LogFull, CountAtLimit, EmptySlot}

abbrev pub reason_number : Reason → ℕ
reason_number NoSuchBlock = 1
reason_number WrongLength = 2
reason_number OutOfLimits = 3
reason_number StoreTooSmall = 4
reason_number NoSuchRecord = 5
reason_number NoSuchSlot = 6
reason_number Off = 21
reason_number Torn = 22
reason_number BadHead = 25
reason_number OtherKind = 26
reason_number BadEntry = 27
reason_number BadSlot = 28
reason_number LogFull = 29
reason_number CountAtLimit = 30
reason_number EmptySlot = 31

abbrev pub layer_number : Layer → ℕ
layer_number Device = 1
layer_number Mirror = 2
layer_number Sampler = 3
layer_number Record = 4
