use Rattle.std.proofs.Common.{rules}
use Rattle.std.proofs.lemmas.Result.{err_from_is_err_and}
use Rattle.layouts.specs.Heads.{head_fields}
use Rattle.formats.proofs.Formats.{refused_samples, head_last}
use Rattle.formats.proofs.format.Goals as goal

pub returns-in_err-fill-2-clause-calls : goal.returns-in_err-fill-2-clause-calls
returns-in_err-fill-2-clause-calls g c =
    let p = err_from_is_err_and c.from_residual-in_err-fill-2.result c.from_residual-in_err-fill-2.ensures.1 in
    let state = g.S.Store.state in
    let s = state c.args.store.now in
    rw (p.1, p.2)
    (refused_samples g.S.Store.does (g.S.Store.meaning s).size (head_fields c.args.head.now) (search rules) s (state c.fill-2.new.store)
    (state c.restart.new.self) c.in_ok-restart.ensures.exact (state c.fill.new.store) c.in_ok-fill.ensures.calls
    c.sample_blocks.result c.in_err-fill-2.field-0.0 c.in_err-fill-2.ensures.calls c.sample_blocks.ensures)

pub returns-clause-calls : goal.returns-clause-calls
returns-clause-calls g c =
    let state = g.S.Store.state in
    let s = state c.args.store.now in
    head_last g.S.Store.does (g.S.Store.meaning s).size (head_fields c.args.head.now) (search rules) s (state c.fill-3.new.store)
    (state c.restart.new.self) c.in_ok-restart.ensures.exact (state c.fill.new.store) c.in_ok-fill.ensures.calls
    c.sample_blocks.result (state c.fill-2.new.store) c.encode.result c.fill-3.result c.in_ok-fill-2.ensures.calls c.fill-3.ensures.calls c.sample_blocks.ensures c.encode.ensures
