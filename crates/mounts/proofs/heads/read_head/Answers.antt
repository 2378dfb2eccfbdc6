use Rattle.std.proofs.Common.{rules, ◌≡◌, [], Ok, Err, refl}
use Rattle.std.proofs.lemmas.Result.{err_from_is_err_and}
use Rattle.cards.specs.Verdicts.{head_of}
use Rattle.mounts.proofs.ReadCalls.{one_read, reads_stopped, reads_answered}
use Rattle.mounts.proofs.heads.read_head.Goals as goal

pub returns-in_err-read-clause-calls : goal.returns-in_err-read-clause-calls
returns-in_err-read-clause-calls g c = λ card shows.
    let p = err_from_is_err_and c.from_residual.result c.from_residual.ensures.1 in
    let check = head_of g.S.Store.own (g.S.Store.meaning (g.S.Store.state c.args.store.now)).size g.K.RecordKind.CODE card in
    rw (p.1, p.2) (reads_stopped g.S.Store.does Unit _ _ check check _ [] _ (one_read g.S.Store.does _ _ check _ _ _ (Err c.in_err-read.field-0.0) (search rules) c.in_err-read.ensures.exact) (λ h. refl) (λ h. h))

pub returns-in_err-head-clause-calls : goal.returns-in_err-head-clause-calls
returns-in_err-head-clause-calls g c = λ card shows.
    let p = err_from_is_err_and c.from_residual-in_err-head.result c.from_residual-in_err-head.ensures.1 in
    let check = head_of g.S.Store.own (g.S.Store.meaning (g.S.Store.state c.args.store.now)).size g.K.RecordKind.CODE card in
    let refused : check ≡ Err c.in_err-head.field-0.0 = search rules in
    rw (p.1, p.2) (reads_answered g.S.Store.does _ _ check check _ tt _ (one_read g.S.Store.does _ _ check _ _ _ (Ok tt) (search rules) c.in_ok-read.ensures.exact) refused)

pub returns-then-head-CODE-clause-calls : goal.returns-then-head-CODE-clause-calls
returns-then-head-CODE-clause-calls g c = λ card shows.
    let check = head_of g.S.Store.own (g.S.Store.meaning (g.S.Store.state c.args.store.now)).size g.K.RecordKind.CODE card in
    let refused : check ≡ Err c.fault.result = search rules in
    reads_answered g.S.Store.does _ _ check check _ tt _ (one_read g.S.Store.does _ _ check _ _ _ (Ok tt) (search rules) c.in_ok-read.ensures.exact) refused

pub returns-clause-calls : goal.returns-clause-calls
returns-clause-calls g c = λ card shows.
    let check = head_of g.S.Store.own (g.S.Store.meaning (g.S.Store.state c.args.store.now)).size g.K.RecordKind.CODE card in
    reads_answered g.S.Store.does _ _ check check _ tt (Ok c.in_ok-head.head) (one_read g.S.Store.does _ _ check _ _ _ (Ok tt) (search rules) c.in_ok-read.ensures.exact) tt
