use Rattle.nighttexts.proofs.Takings.{next_slot}
use Rattle.nighttexts.proofs.so_far.NightSoFar.take_slots.Goals as goal

pub loop-slot-preserved : goal.loop-slot-preserved
loop-slot-preserved g c = next_slot c.args.self.now c.loop-slot.self c.take_answer.new.self c.loop-slot.slot c.loop-slot.invariant c.in_ok-take_answer.ensures
