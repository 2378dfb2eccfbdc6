-- What is printed of a card that was refused. Assumes nothing.
use Rattle.std.specs.Prelude.{ℕ, List, ◌++◌, codes, decimal}
use Rattle.faults.specs.Texts.{fault_shown, refusal_text}
use Rattle.faults.specs.declared.faults.Fault.{Fault}
use Rattle.faults.specs.declared.faults.Reason.{Reason}
use Rattle.faults.specs.declared.faults.Reason.TheVariants.{NoSuchBlock, BadHead, OtherKind, BadEntry, BadSlot}

-- what a refusal says of the card, in words: those that mounting an image may answer, and any other as it reads
abbrev pub meaning_text : Reason → Fault → List ℕ
meaning_text NoSuchBlock f = codes "The file ends before the end of block " ++ (decimal f.place ++ codes "; a block has 504 bytes.")
meaning_text BadHead f = codes "Block 0 is no lawful head: a field is out of its limits, a byte after the fields is not zero, or the file has fewer blocks than the head asks for."
meaning_text OtherKind f = codes "The records are of kind " ++ (decimal f.place ++ codes "; the kinds known here are 1, offsets, and 2, events.")
meaning_text BadEntry f =
    codes "Entry " ++ (decimal f.place
    ++ codes " of the log, counted from 0, is wrong: its number is 0, not above the one before it, above the count, or of a record that has no slot, or its bytes are those of no record.")
meaning_text BadSlot f = codes "Slot " ++ (decimal f.place ++ codes " is filled, but its bytes are those of no record, and the log has no entry for it.")
meaning_text other f = fault_shown f

-- its three numbers, and on the next line what it says
abbrev pub refused_text : Fault → List ℕ
refused_text f = codes "refused " ++ (refusal_text f ++ (codes "\n" ++ (meaning_text f.reason f ++ codes "\n")))
