use Rattle.std.proofs.Common.{◌≡◌, ◌≤◌, take, length, vec_items, vec_len, vec_capacity}
use Rattle.laws.proofs.Runs.{LawSoFar}
use Rattle.laws.specs.declared.stages.Stage.TheVariants.{Sleeping}
use Rattle.runs.specs.Runs.{setup, AllWent}
use Rattle.runs.proofs.running.work.Given as goal

-- the law of the calls so far, and how each of them went
abbrev pub invariant-loop-call : goal.invariant-loop-call
invariant-loop-call g l =
    LawSoFar (setup g.S.Store.state g.S.Store.meaning g.S.Store.does g.S.Store.own g.S.Store.source g.S.Store.steady g.K.RecordKind.CODE g.K.RecordKind.bytes g.K.RecordKind.wrong)
    l.fn.asleep (take l.call-index l.calls) (vec_items l.answers) l.stage
    × (length l.calls ≤ vec_capacity l.answers)
    × (vec_len l.answers ≡ l.call-index)
    × AllWent (setup g.S.Store.state g.S.Store.meaning g.S.Store.does g.S.Store.own g.S.Store.source g.S.Store.steady g.K.RecordKind.CODE g.K.RecordKind.bytes g.K.RecordKind.wrong) (Sleeping l.fn.asleep) (take l.call-index l.calls) (vec_items l.answers) l.stage
