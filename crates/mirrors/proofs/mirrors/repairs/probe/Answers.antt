use Rattle.std.proofs.Common.{Ok, Err, refl, rules}
use Rattle.mirrors.specs.Below.{Probes}
use Rattle.mirrors.proofs.mirrors.repairs.probe.Goals as goal

pub returns-in-Ok-clause-exact : goal.returns-in-Ok-clause-exact
unfolding Probes
returns-in-Ok-clause-exact g c =
    (record { answer = Ok tt; buffer = c.read.new.buf; next = g.S.Store.state c.read.new.self }, rw c.requires at c.in-Ok.ensures.exact, refl, refl)

pub returns-in-Err-Torn-clause-exact : goal.returns-in-Err-Torn-clause-exact
unfolding Probes
returns-in-Err-Torn-clause-exact g c =
    (record { answer = Err c.in-Err-Torn.field-0; buffer = c.read.new.buf; next = g.S.Store.state c.read.new.self }, rw c.requires at c.in-Err-Torn.ensures.exact, search rules, refl)

pub returns-in-Err : goal.returns-in-Err
unfolding Probes
returns-in-Err g c = record {
  outcome = search rules;
  exact = (record { answer = Err c.in-Err.other; buffer = c.read.new.buf; next = g.S.Store.state c.read.new.self }, rw c.requires at c.in-Err.ensures.exact, search rules, refl);
}
