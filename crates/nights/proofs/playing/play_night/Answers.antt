use Rattle.std.proofs.Common.{arith}
use Rattle.std.proofs.lemmas.Result.{IfOk-weaker}
use Rattle.laws.proofs.Given.{LawfulSetup}
use Rattle.runs.specs.Runs.{setup}
use Rattle.script.specs.Plans.{night_plan}
use Rattle.nights.proofs.Nights.{refused_night}
use Rattle.nights.proofs.playing.play_night.Given as given
use Rattle.nights.proofs.playing.play_night.Goals as goal

-- a steady store and a kind keep what the law asks of them
lawful : (g : given.Over)
    → LawfulSetup {S = g.row.S.Denot} {State = g.S.Store.State} {K = g.row.K.Denot} (setup g.S.Store.state g.S.Store.meaning g.S.Store.does g.S.Store.own g.S.Store.source g.S.Store.steady g.K.RecordKind.CODE g.K.RecordKind.bytes g.K.RecordKind.wrong)
lawful g = record {
  steady = g.met.S.SteadyStore.is_steady;
  stores = g.met.S.Store.lawful;
  coded = g.met.K.RecordKind.coded;
  twelve = g.met.K.RecordKind.twelve;
  right = g.met.K.RecordKind.right;
  own_bytes = g.met.K.RecordKind.own;
}

pub returns-in-Ok : goal.returns-in-Ok
returns-in-Ok g c =
    IfOk-weaker c.after_format.result _ _
    (λ m after so. after c.args.asleep (record { seeded = omega arith; sound = so; outcome = c.in-Ok.ensures.outcome; steadily = c.in-Ok.ensures.sound }))
    c.after_format.ensures

pub returns-in-Err : goal.returns-in-Err
returns-in-Err g c = λ so.
    refused_night _ (lawful g) c.args.asleep c.format.new.self (night_plan c.args.night.now) c.in-Err.fault
    (record { seeded = omega arith; sound = so; outcome = c.in-Err.ensures.outcome; steadily = c.in-Err.ensures.sound })
