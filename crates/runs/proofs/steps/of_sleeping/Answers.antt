use Rattle.std.proofs.Common.{Ok, Err, refl}
use Rattle.runs.proofs.steps.of_sleeping.Goals as goal
use Rattle.runs.proofs.steps.of_sleeping.Goals.{in-Ok, in-Err}

pub returns-after-mount : goal.returns-after-mount
returns-after-mount g c =
    elim c.match-mount.branch [
      | in-Ok w ↦ rw (w.answer-is, c.in-Mount.is) (Ok w.in-Ok.count, c.mount.new.self, refl, refl, record { outcome = w.in-Ok.ensures.outcome; calls = w.in-Ok.ensures.calls; sound = w.in-Ok.ensures.sound; arrays = w.in-Ok.ensures.arrays })
      | in-Err w ↦ rw (w.answer-is, c.in-Mount.is) (Err w.in-Err.fault, c.mount.new.self, refl, refl, record { outcome = w.in-Err.ensures.outcome; calls = w.in-Err.ensures.calls; sound = w.in-Err.ensures.sound; arrays = w.in-Err.ensures.arrays })
    ]
