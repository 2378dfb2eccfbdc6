use Rattle.std.proofs.Common.{◌≡◌, map, sym, ap, ◌∙◌}
use Rattle.cards.specs.Cards.{filled}
use Rattle.cards.specs.Memories.{Memory}
use Rattle.cardreads.specs.Readings.{rows_of}
use Rattle.cardreads.proofs.Records.{as_many}
use Rattle.cardreads.proofs.reading.reading.Goals as goal

pub invariant_of-result : goal.invariant_of-result
invariant_of-result g c =
    let told = c.in_ok-records.ensures in
    let rows : map g.K.RecordKind.bytes c.in_ok-records.records.items ≡ rows_of c.in-Some.sample.now = cc in
    let many = as_many g.K.RecordKind.bytes c.in_ok-records.records.items c.in-Some.sample.now rows in
    let head = ap (λ (t : Memory). filled t.head) c.sample-2.view_is in
    record { kind = c.sample-2.invariant.0; slots = c.in_ok-records.records.ok.0 ∙ many ∙ sym head }
