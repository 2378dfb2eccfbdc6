use Rattle.std.proofs.Common.{map, take}
use Rattle.std.specs.Fmt.{HasWritten, IsPlainFormatter}
use Rattle.records.specs.Events.{event_fields}
use Rattle.sampletexts.specs.Lines.{event_text}
use Rattle.cardtexts.specs.Texts.{slots_text}
use Rattle.cardtexts.proofs.lines.EventSlotsDisplay.fmt.Given as goal

abbrev pub invariant-loop-slot : goal.invariant-loop-slot
invariant-loop-slot g l = IsPlainFormatter l.initial.f → HasWritten g.W.Write.write_str_gives l.initial.f (slots_text event_text 0 (map event_fields (take l.slot l.event-items))) l.f
