use Rattle.std.proofs.Common.{◌≡◌, ◌≤◌, map, take, length, vec_len, vec_capacity}
use Rattle.stores.specs.Meanings.{Sound}
use Rattle.runs.specs.Runs.{setup}
use Rattle.script.specs.Plans.{night_plan}
use Rattle.nights.specs.Nights.{NightsWent}
use Rattle.script.specs.Outcomes.{outcomes_of}
use Rattle.nights.proofs.playing.on_store.Given as goal

-- the nights so far, after which the store is sound again
abbrev pub invariant-loop-night : goal.invariant-loop-night
invariant-loop-night g l = record {
  went : Sound (g.S.Store.meaning (g.S.Store.state l.fn.store))
      → NightsWent (setup g.S.Store.state g.S.Store.meaning g.S.Store.does g.S.Store.own g.S.Store.source g.S.Store.steady g.K.RecordKind.CODE g.K.RecordKind.bytes g.K.RecordKind.wrong)
      l.fn.store (map night_plan (take l.night-index l.nights)) (outcomes_of l.outcomes) l.asleep.store
      × Sound (g.S.Store.meaning (g.S.Store.state l.asleep.store));
  room : length l.nights ≤ vec_capacity l.outcomes;
  count : vec_len l.outcomes ≡ l.night-index;
}
