use Rattle.std.proofs.Common.{◌≡◌, rules}
use Rattle.benches.specs.contracts.benches.Bench.{the_view}
use Rattle.benches.specs.Views.{contents_of}
use Rattle.benches.proofs.Holds.{held_response}
use Rattle.benches.proofs.Outcomes.{write_outcome}
use Rattle.benches.proofs.benches.stored.BenchStore.write.Goals as goal

same_bytes : (c : goal.After-spend) → c.unwrap-bytes.result ≡ c.args.bytes.now
same_bytes c = search rules

pub returns-clause-outcome : goal.returns-clause-outcome
returns-clause-outcome c =
    rw (← c.self.view_is, ← same_bytes c)
    (write_outcome _ _ _ _ _ _ _ _ (search rules) (search rules) c.self.inside.disk.inside c.spend.ensures.power c.hold.ensures.memory c.hold.ensures.held c.spend.ensures.value)

pub returns-clause-exact : goal.returns-clause-exact
returns-clause-exact c =
    rw (← c.self.view_is, ← same_bytes c)
    (held_response (contents_of (the_view c.self.inside)) _ c.spend.result _ _ _ _ (search rules) c.spend.ensures.value c.hold.ensures.memory c.hold.ensures.held (search rules) c.spend.ensures.power)
