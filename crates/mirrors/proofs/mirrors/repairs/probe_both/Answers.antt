use Rattle.std.proofs.Common.{◌≡◌, Ok, Some, None, refl, rules}
use Rattle.std.proofs.lemmas.Result.{err_from_is_err_and}
use Rattle.std.specs.Option.{option_copied}
use Rattle.mirrors.specs.Below.{ReadsCopies}
use Rattle.mirrors.proofs.mirrors.repairs.probe_both.Goals as goal

pub returns-in-Some-clause-exact : goal.returns-in-Some-clause-exact
unfolding ReadsCopies
returns-in-Some-clause-exact g c =
    (Ok (Some c.in-Some.bytes.now), g.S.Store.state c.probe.new.below, rw c.in-Some.is at c.in_ok-bytes.ensures.exact, (refl, refl))

pub returns-in_ok-probe-in-None-clause-exact : goal.returns-in_ok-probe-in-None-clause-exact
unfolding ReadsCopies
returns-in_ok-probe-in-None-clause-exact g c =
    let same : c.copied.result ≡ option_copied c.in_ok-probe-in-None.field-0 = search rules in
    (Ok None, g.S.Store.state c.probe.new.below, rw c.in-None.is at c.in_ok-bytes.ensures.exact, rw same c.in_ok-probe-in-None.ensures.exact)

pub returns-in_err-probe-in-None-clause-exact : goal.returns-in_err-probe-in-None-clause-exact
unfolding ReadsCopies
returns-in_err-probe-in-None-clause-exact g c =
    let p = err_from_is_err_and c.from_residual-in_err-probe-in-None.result c.from_residual-in_err-probe-in-None.ensures.1 in
    (Ok None, g.S.Store.state c.probe.new.below, rw c.in-None.is at c.in_ok-bytes.ensures.exact, rw (p.1, p.2) c.in_err-probe-in-None.ensures.exact)
