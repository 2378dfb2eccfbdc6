use Rattle.std.proofs.Common.{map, take}
use Rattle.std.specs.Fmt.{HasWritten, IsPlainFormatter}
use Rattle.records.specs.Offsets.{offset_fields}
use Rattle.sampletexts.specs.Lines.{offset_text}
use Rattle.cardtexts.specs.Texts.{slots_text}
use Rattle.cardtexts.proofs.lines.OffsetSlotsDisplay.fmt.Given as goal

abbrev pub invariant-loop-slot : goal.invariant-loop-slot
invariant-loop-slot g l = IsPlainFormatter l.initial.f → HasWritten g.W.Write.write_str_gives l.initial.f (slots_text offset_text 0 (map offset_fields (take l.slot l.offset-items))) l.f
