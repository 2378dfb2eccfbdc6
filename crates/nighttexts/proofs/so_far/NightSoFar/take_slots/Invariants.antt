use Rattle.std.proofs.Common.{◌≡◌}
use Rattle.script.specs.Calls.{slot_calls}
use Rattle.nighttexts.specs.Nights.{after_calls}
use Rattle.nighttexts.proofs.so_far.NightSoFar.take_slots.Given as goal

abbrev pub invariant-loop-slot : goal.invariant-loop-slot
invariant-loop-slot g l = l.self ≡ after_calls l.fn.self (slot_calls l.slot)
