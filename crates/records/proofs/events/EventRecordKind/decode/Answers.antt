use Rattle.std.proofs.Common.{rules}
use Rattle.records.specs.Bytes.{Twelve}
use Rattle.records.specs.Events.{event_bytes, event_wrong}
use Rattle.records.specs.EventLaws.{right, read_back}
use Rattle.records.specs.Fields.{number_of}
use Rattle.records.specs.FieldLaws.{made_of}
use Rattle.records.specs.Twelves.{reads_own, made_is}
use Rattle.records.proofs.events.EventRecordKind.decode.Goals as goal

-- An offset's answer has `t` and `second` too: a lemma for either would take these same facts, and be no shorter.
pub returns : goal.returns
returns c =
    let bs = c.args.from.now in
    let e = c.in_ok-event.event in
    let t : Twelve bs = record { long = search rules; small = λ i h. search rules } in
    let second = made_of number_of _ _ _ _ c.in_ok-second.ensures.ok_part c.new.ensures in
    let happening = made_is _ _ _ c.in_ok-try_from.ensures in
    let fields = made_is _ _ _ c.in_ok-event.ensures in
    reads_own event_bytes event_wrong e bs t.long (read_back bs t (search rules) e cc) (right e)
