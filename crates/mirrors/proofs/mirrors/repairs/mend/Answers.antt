use Rattle.std.proofs.Common.{◌≡◌, suc, Ok, Err, arith}
use Rattle.std.proofs.lemmas.Result.{err_from_is_err_and}
use Rattle.mirrors.specs.Below.{Mends}
use Rattle.mirrors.proofs.Calls.{mends_ended}
use Rattle.mirrors.specs.Below.{Mends}
use Rattle.mirrors.proofs.mirrors.repairs.mend.Goals as goal

pub returns-in_err-repair-clause-exact : goal.returns-in_err-repair-clause-exact
unfolding Mends
returns-in_err-repair-clause-exact g c =
    let p = err_from_is_err_and c.from_residual.result c.from_residual.ensures.1 in
    let state = g.S.Store.state in
    let half = c.half-half.result in
    let here : Mends g.S.Store.does half (suc c.loop-block.block) (state c.args.below.now) (Err c.in_err-repair.field-0.0) (state c.repair.new.below) =
    (Ok tt, state c.loop-block.below, c.loop-block.invariant.2, c.in_err-repair.ensures.exact) in
    rw (p.1, p.2, ← c.half-half.ensures) (mends_ended g.S.Store.does half (state c.args.below.now) (state c.repair.new.below) c.in_err-repair.field-0.0 half (suc c.loop-block.block) (omega (arith, c.loop-block-test.true)) here)

pub returns-clause-exact : goal.returns-clause-exact
returns-clause-exact g c =
    let whole : c.loop-block.block ≡ c.half-half.result = omega (arith, c.loop-block-test.false, c.loop-block.auto.block-end) in
    rw (← c.half-half.ensures) (rw whole at c.loop-block.invariant.2)
