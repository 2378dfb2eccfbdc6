-- What a person reads of a refusal. Assumes nothing.
use Rattle.std.specs.Prelude.{ℕ, List, ◌++◌, codes, decimal}
use Rattle.faults.specs.Numbers.{reason_number, layer_number}
use Rattle.faults.specs.declared.faults.Fault.{Fault}
use Rattle.faults.specs.declared.faults.Layer.{Layer}
use Rattle.faults.specs.declared.faults.Layer.TheVariants.{Device, Mirror, Sampler, Record}
use Rattle.faults.specs.declared.faults.Reason.{Reason}
use Rattle.faults.specs.declared.faults.Reason.TheVariants.{NoSuchBlock, WrongLength, OutOfLimits, StoreTooSmall, NoSuchRecord, NoSuchSlot, Off, Torn, BadHead, OtherKind, BadEntry, BadSlot, LogFull, CountAtLimit, EmptySlot}

abbrev pub reason_text : Reason → List ℕ
reason_text NoSuchBlock = codes "no such block"
reason_text WrongLength = codes "wrong length"
reason_text OutOfLimits = codes "out of limits"
reason_text StoreTooSmall = codes "store too small"
reason_text NoSuchRecord = codes "no such record"
reason_text NoSuchSlot = codes "no such slot"
reason_text Off = codes "off"
reason_text Torn = codes "torn"
reason_text BadHead = codes "bad head"
reason_text OtherKind = codes "other kind"
reason_text BadEntry = codes "bad entry"
reason_text BadSlot = codes "bad slot"
reason_text LogFull = codes "log full"
reason_text CountAtLimit = codes "count at its limit"
reason_text EmptySlot = codes "empty slot"

abbrev pub layer_text : Layer → List ℕ
layer_text Device = codes "device"
layer_text Mirror = codes "mirror"
layer_text Sampler = codes "sampler"
layer_text Record = codes "record"

-- as `5 (no such record)`
abbrev pub reason_shown : Reason → List ℕ
reason_shown r = decimal (reason_number r) ++ (codes " (" ++ (reason_text r ++ codes ")"))

-- as `4 (record)`
abbrev pub layer_shown : Layer → List ℕ
layer_shown l = decimal (layer_number l) ++ (codes " (" ++ (layer_text l ++ codes ")"))

-- as `refusal 5 (no such record) of layer 4 (record) at place 8`
abbrev pub fault_shown : Fault → List ℕ
fault_shown f = codes "refusal " ++ (reason_shown f.reason ++ (codes " of layer " ++ (layer_shown f.layer ++ (codes " at place " ++ decimal f.place))))

-- as `5 4 8`: its number, its layer's and its place
abbrev pub refusal_text : Fault → List ℕ
refusal_text f = decimal (reason_number f.reason) ++ (codes " " ++ (decimal (layer_number f.layer) ++ (codes " " ++ decimal f.place)))
