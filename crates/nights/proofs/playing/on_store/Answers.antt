use Rattle.std.proofs.Common.{rules}
use Rattle.std.proofs.lemmas.List.{take_more}
use Rattle.runs.specs.Runs.{setup}
use Rattle.nights.proofs.Nights.{no_nights, one_night_more}
use Rattle.nights.proofs.Soundness.{night_sound}
use Rattle.nights.proofs.playing.on_store.Goals as goal

pub loop-night-init : goal.loop-night-init
loop-night-init g c = record {
  went = λ so. rw (c.in_ok-outcomes.ensures.items, c.new-asleep.ensures) (no_nights _ _, so);
  room = search rules;
  count = search rules;
}

pub loop-night-preserved : goal.loop-night-preserved
loop-night-preserved g c = record {
  went = λ so.
      let x = setup g.S.Store.state g.S.Store.meaning g.S.Store.does g.S.Store.own g.S.Store.source g.S.Store.steady g.K.RecordKind.CODE g.K.RecordKind.bytes g.K.RecordKind.wrong in
      let before = c.loop-night.invariant.went so in
      let night = c.in_ok-morning.ensures before.1 in (
        rw (take_more _ _ c.night-item.result c.loop-night-test.true, c.push_reserved.ensures.items, ← c.night-item.is)
            (one_night_more x _ _ _ _ _ _ _ before.0 night),
        night_sound x g.met.S.SteadyStore.is_steady _ _ _ _ night,
      );
  room = search rules;
  count = search rules;
}
