use Rattle.std.proofs.lemmas.Result.{err_from_is_err_and}
use Rattle.mounts.proofs.Restarts.{sound_mounted, restart_refused, restart_first}
use Rattle.mounts.proofs.mount.Goals as goal

pub returns-in_err-restart-clause-calls : goal.returns-in_err-restart-clause-calls
returns-in_err-restart-clause-calls g c =
    let p = err_from_is_err_and c.from_residual.result c.from_residual.ensures.1 in
    rw (p.1, p.2) (restart_refused g.S.Store.own g.K.RecordKind.CODE g.K.RecordKind.wrong g.S.Store.does g.S.Store.meaning _ _ c.in_err-restart.field-0.0 c.in_err-restart.ensures.exact)

pub returns-clause-calls : goal.returns-clause-calls
returns-clause-calls g c = restart_first g.S.Store.own g.K.RecordKind.CODE g.K.RecordKind.wrong g.S.Store.does g.S.Store.meaning _ _ _ _ c.in_ok-restart.ensures.exact c.read_card.ensures.calls

pub returns-clause-sound : goal.returns-clause-sound
returns-clause-sound g c = λ _ sound. sound_mounted _ _ _ c.in_ok-restart.ensures.outcome _ _ _ _ c.read_card.result c.read_card.ensures.outcome sound
