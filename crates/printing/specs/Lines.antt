-- What is printed of a command and its answer. Assumes nothing.
use Rattle.std.specs.Prelude.{ℕ, List, ◌++◌, length, ℤ, Some, None, codes, decimal}
use Rattle.std.specs.List.{flat_map}
use Rattle.faults.specs.Texts.{refusal_text}
use Rattle.records.specs.Offsets.{Fields}
use Rattle.script.specs.declared.commands.Command.{Command}
use Rattle.script.specs.declared.commands.Command.TheVariants.{Insert, Slot, Report}
use Rattle.scenarios.specs.Replies.{Reply, inserted, found, told, refused}
use Rattle.sampletexts.specs.Lines.{offset_text, slot_text, mean_line}

-- a command's first word
abbrev pub name_of : Command → List ℕ
name_of (Insert second satellite nanoseconds) = codes "insert"
name_of (Slot i) = codes "slot"
name_of Report = codes "report"

-- the line of a filled slot
abbrev pub row_text : ℕ × Fields → List ℕ
row_text x = slot_text x.0 (offset_text x.1) ++ codes "\n"

-- a line for each of them
abbrev pub rows_text : List (ℕ × Fields) → List ℕ
rows_text xs = flat_map row_text xs

-- a report's lines: how many records were accepted, the filled slots, and the mean
abbrev pub report_text : ℕ → List (ℕ × Fields) → ℤ → List ℕ
report_text count rows sum = codes "counted " ++ (decimal count ++ (codes "\n" ++ (rows_text rows ++ mean_line sum (length rows))))

-- a command's line, or a report's lines, without the line feed at the end
abbrev pub reply_text : Command → Reply → List ℕ
reply_text c (inserted (Some slot)) = name_of c ++ (codes " ok " ++ decimal slot)
reply_text c (inserted None) = name_of c ++ codes " ok none"
reply_text c (found x) = name_of c ++ (codes " ok " ++ offset_text x)
reply_text c (told count rows sum) = report_text count rows sum
reply_text c (refused f) = name_of c ++ (codes " refused " ++ refusal_text f)
