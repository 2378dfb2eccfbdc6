use Rattle.std.proofs.Common.{rules, refl}
use Rattle.std.proofs.lemmas.List.{take_more}
use Rattle.storescript.specs.declared.calls.Call.TheVariants.{Restart}
use Rattle.replays.specs.Answers.{Replayed}
use Rattle.replays.proofs.Runs.{one_more}
use Rattle.replays.proofs.replaying.replay.Goals as goal

pub loop-call-init : goal.loop-call-init
unfolding Replayed
loop-call-init g c = ((search rules, refl), search rules, search rules)

pub loop-call-preserved : goal.loop-call-preserved
loop-call-preserved g c = (
  rw (take_more _ _ Restart c.loop-call-test.true, c.push_reserved.ensures.items) (one_more g.S.Store.does _ _ _ _ _ _ _ c.loop-call.invariant.0 c.make.ensures),
  search rules,
  search rules,
)
