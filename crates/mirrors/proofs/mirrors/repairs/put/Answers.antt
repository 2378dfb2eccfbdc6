use Rattle.std.proofs.Common.{Ok, Err, refl}
use Rattle.std.proofs.lemmas.Result.{err_from_is_err_and}
use Rattle.stores.specs.Calls.{response, flushes}
use Rattle.stores.proofs.Sequences.{one_call}
use Rattle.stores.specs.Calls.{InOrder}
use Rattle.mirrors.proofs.mirrors.repairs.put.Goals as goal

pub returns-in_err-write-clause-exact : goal.returns-in_err-write-clause-exact
unfolding InOrder
returns-in_err-write-clause-exact g c =
    let p = err_from_is_err_and c.from_residual.result c.from_residual.ensures.1 in
    rw (p.1, p.2) (response (Err c.in_err-write.field-0.0) (g.S.Store.state c.write.new.self), c.in_err-write.ensures.exact, (refl, refl))

pub returns-clause-exact : goal.returns-clause-exact
unfolding InOrder
returns-clause-exact g c =
    let written = g.S.Store.state c.write.new.self in
    let flushed = g.S.Store.state c.flush.new.self in
    (response (Ok tt) written, c.in_ok-write.ensures.exact, one_call g.S.Store.does written flushed flushes c.flush.result c.flush.ensures.exact)
