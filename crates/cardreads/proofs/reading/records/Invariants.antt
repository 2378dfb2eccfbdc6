use Rattle.std.proofs.Common.{◌≡◌, map, slice_index_or, []}
use Rattle.cards.specs.Cards.{filled}
use Rattle.cardreads.specs.Readings.{firsts}
use Rattle.cardreads.proofs.reading.records.Given as goal

-- the records of the slots below this one
abbrev pub invariant-loop-slot : goal.invariant-loop-slot
invariant-loop-slot g l =
    (l.slot-end ≡ filled l.fn.sample.head) × (map g.K.RecordKind.bytes l.records.items ≡ firsts (λ s. slice_index_or l.fn.sample.rows s []) l.slot)
