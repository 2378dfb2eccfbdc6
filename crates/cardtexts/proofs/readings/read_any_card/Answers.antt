use Rattle.std.proofs.Common.{vec_items, subst}
use Rattle.failures.specs.Answers.{UnlessMemoryForOk}
use Rattle.records.specs.Events.{event_wrong}
use Rattle.records.specs.Offsets.{offset_wrong}
use Rattle.cardreads.specs.Readings.{read_of}
use Rattle.cardtexts.proofs.NamedKinds.{in_events, named_known}
use Rattle.cardtexts.proofs.readings.read_any_card.Goals as goal

-- the bytes that are read as events are those that were given
pub returns : goal.returns
returns c =
    let bytes = vec_items c.args.bytes in
    let events = subst (λ bs. UnlessMemoryForOk in_events (read_of 2 event_wrong bs) c.read_card-bytes-2.result.1) c.read_card-bytes.ensures.memory c.read_card-bytes-2.ensures.answer in
    rw c.of_named_kind.ensures (named_known bytes (read_of 1 offset_wrong bytes) c.read_card-bytes.result.1 c.read_card-bytes-2.result.1 c.read_card-bytes.ensures.answer events)
