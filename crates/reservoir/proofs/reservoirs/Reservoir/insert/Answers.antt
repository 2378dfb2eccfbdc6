use Rattle.std.proofs.Common.{refl, rules}
use Rattle.reservoir.proofs.OneMore.{inserted}
use Rattle.reservoir.proofs.reservoirs.Reservoir.insert.Goals as goal

pub returns-clause-value : goal.returns-clause-value
returns-clause-value g c = λ seed size rs h.
    inserted seed size rs c.args.kept c.args.self.now _ c.slot_of-slot.result h c.if-self-ge-COUNT_LIMIT.false (search rules)
    c.slot_of-slot.ensures.value refl refl refl c.place.ensures
