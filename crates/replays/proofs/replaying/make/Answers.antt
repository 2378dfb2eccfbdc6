use Rattle.std.proofs.Common.{refl, [], ◌∙◌}
use Rattle.stores.specs.Calls.{response}
use Rattle.storescript.specs.declared.calls.Call.TheVariants.{Restart, Flush, Write}
use Rattle.replays.specs.Answers.{Answered}
use Rattle.replays.proofs.Runs.{done_told}
use Rattle.replays.proofs.replaying.make.Goals as goal

pub returns-in-Restart : goal.returns-in-Restart
unfolding Answered
returns-in-Restart g c =
    rw c.in-Restart.is (response c.restart.result (g.S.Store.state c.restart.new.self), c.restart.ensures.exact, c.and.ensures ∙ done_told Restart c.restart.result [] refl, refl)

pub returns-in-Flush : goal.returns-in-Flush
unfolding Answered
returns-in-Flush g c =
    rw c.in-Flush.is (response c.flush.result (g.S.Store.state c.flush.new.self), c.flush.ensures.exact, c.and-in-Flush.ensures ∙ done_told Flush c.flush.result [] refl, refl)

pub returns-in-Write : goal.returns-in-Write
unfolding Answered
returns-in-Write g c =
    rw c.in-Write.is
    (response c.write.result (g.S.Store.state c.write.new.self), c.write.ensures.exact, c.and-in-Write.ensures ∙ done_told (Write c.in-Write.block c.in-Write.value) c.write.result [] refl, refl)
