use Rattle.std.proofs.Common.{sym, rules}
use Rattle.std.proofs.Output.{has_written_append, has_written_of_eq}
use Rattle.records.specs.Events.{event_fields}
use Rattle.sampletexts.specs.Lines.{event_text}
use Rattle.cardtexts.proofs.SlotTexts.{slots_text_more}
use Rattle.cardtexts.proofs.lines.EventSlotsDisplay.fmt.Goals as goal

pub loop-slot-preserved : goal.loop-slot-preserved
loop-slot-preserved g c = λ plain.
    has_written_of_eq _ _ _ _ _ (sym (slots_text_more event_fields event_text c.args.self.now.0.now c.loop-slot.slot c.event-item.result (search rules) (search rules)))
    (has_written_append _ _ _ _ _ _ (c.loop-slot.invariant plain) (search rules))
