use Rattle.std.proofs.Common.{Ok, Err, refl}
use Rattle.runs.specs.Runs.{setup}
use Rattle.runs.proofs.Turns.{awake_already}
use Rattle.runs.proofs.steps.of_waking.Goals as goal
use Rattle.runs.proofs.steps.of_waking.Goals.{in-Insert+in-Ok, in-Insert+in-Err, in-Commit+in-Ok-commit, in-Commit+in-Err-commit, in-Refresh+in-Ok-refresh, in-Refresh+in-Err-refresh, in-Slot+in-Ok-slot, in-Slot+in-Err-slot, in-Mount}

pub returns : goal.returns
returns g c =
    elim c.match-call.branch [
      | in-Insert+in-Ok w ↦ rw (w.answer-is, w.awake-is, w.in-Insert.is) (Ok w.in-Ok.slot, w.insert.new.self, refl, refl, w.in-Ok.ensures)
      | in-Insert+in-Err w ↦ rw (w.answer-is, w.awake-is, w.in-Insert.is) (Err w.in-Err.fault, w.insert.new.self, refl, refl, w.in-Err.ensures)
      | in-Commit+in-Ok-commit w ↦ rw (w.answer-is, w.awake-is, w.in-Commit.is) (Ok w.in-Ok-commit.count, w.commit.new.self, refl, refl, w.in-Ok-commit.ensures)
      | in-Commit+in-Err-commit w ↦ rw (w.answer-is, w.awake-is, w.in-Commit.is) (Err w.in-Err-commit.fault, w.commit.new.self, refl, refl, w.in-Err-commit.ensures)
      | in-Refresh+in-Ok-refresh w ↦ rw (w.answer-is, w.awake-is, w.in-Refresh.is, w.from.ensures) (Ok w.in-Ok-refresh.blocks, w.refresh.new.self, refl, refl, w.in-Ok-refresh.ensures)
      | in-Refresh+in-Err-refresh w ↦ rw (w.answer-is, w.awake-is, w.in-Refresh.is) (Err w.in-Err-refresh.fault, w.refresh.new.self, refl, refl, w.in-Err-refresh.ensures)
      | in-Slot+in-Ok-slot w ↦ rw (w.answer-is, w.awake-is, w.in-Slot.is) (Ok w.in-Ok-slot.found, c.args.awake, refl, refl, (w.in-Ok-slot.ensures, refl))
      | in-Slot+in-Err-slot w ↦ rw (w.answer-is, w.awake-is, w.in-Slot.is) (Err w.in-Err-slot.fault, c.args.awake, refl, refl, (w.in-Err-slot.ensures, refl))
      | in-Mount w ↦ rw (w.answer-is, w.awake-is) (awake_already (setup g.S.Store.state g.S.Store.meaning g.S.Store.does g.S.Store.own g.S.Store.source g.S.Store.steady g.K.RecordKind.CODE g.K.RecordKind.bytes g.K.RecordKind.wrong) c.args.awake c.args.call.now w.in-Mount.is)
    ]
