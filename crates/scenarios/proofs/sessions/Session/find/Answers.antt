use Rattle.std.proofs.Common.{rules}
use Rattle.scenarios.proofs.Kept.{slot_said}
use Rattle.scenarios.proofs.sessions.Session.find.Goals as goal

pub returns : goal.returns
returns c = λ seed size xs k. (slot_said seed size xs _ _ _ c.map.result k (c.slot.ensures.value seed size) (search rules), k)
