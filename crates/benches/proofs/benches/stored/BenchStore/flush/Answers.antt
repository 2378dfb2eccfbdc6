use Rattle.benches.specs.Supplies.{goes}
use Rattle.benches.proofs.Outcomes.{flush_outcome, goes_on}
use Rattle.benches.proofs.benches.stored.BenchStore.flush.Goals as goal

pub returns-clause-outcome : goal.returns-clause-outcome
returns-clause-outcome c =
    let old = c.self.inside in
    rw (← c.self.view_is)
    (flush_outcome old.supply.power c.spend.new.self.power old.disk.bytes.items c.settle.new.self.bytes.items old.disk.held.items c.settle.new.self.held.items
    (goes_on (goes old.supply.power) c.in_ok-spend.ensures.value) old.disk.inside c.spend.ensures.power c.settle.ensures.memory c.settle.ensures.held)
