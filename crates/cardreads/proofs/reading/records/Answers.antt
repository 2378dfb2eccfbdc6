use Rattle.std.proofs.Common.{rules}
use Rattle.cardreads.specs.Readings.{firsts}
use Rattle.cardreads.proofs.Records.{one_more}
use Rattle.cardreads.proofs.reading.records.Goals as goal

pub loop-slot-init : goal.loop-slot-init
unfolding firsts
loop-slot-init g c = search rules

pub loop-slot-preserved : goal.loop-slot-preserved
loop-slot-preserved g c =
    (c.filled-slot-end.ensures, one_more g.K.RecordKind.bytes c.args.sample.now c.loop-slot.slot c.loop-slot.records.items _ c.in_ok-record.record (search rules) (search rules) (c.in_ok-push.ensures.items) c.loop-slot.invariant.1)
