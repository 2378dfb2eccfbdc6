use Rattle.benches.proofs.Fates.{restarted}
use Rattle.benches.proofs.Outcomes.{restart_outcome}
use Rattle.benches.proofs.benches.stored.BenchStore.restart.Goals as goal

pub returns-clause-outcome : goal.returns-clause-outcome
returns-clause-outcome c =
    let old = c.self.inside in
    rw (← c.self.view_is)
    (restart_outcome _ _ _ _ _ _ _ old.supply.past_the_last (restarted _ _ _ old.disk.inside c.restart.ensures.pass) c.start.ensures.power c.restart.ensures.held)
