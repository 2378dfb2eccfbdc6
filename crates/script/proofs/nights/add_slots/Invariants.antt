use Rattle.std.proofs.Common.{◌≡◌, ◌++◌, vec_items}
use Rattle.script.specs.Calls.{slot_calls}
use Rattle.script.proofs.nights.add_slots.Given as goal

abbrev pub invariant-loop-slot : goal.invariant-loop-slot
invariant-loop-slot g l = vec_items l.calls ≡ vec_items l.fn.calls ++ slot_calls l.slot
