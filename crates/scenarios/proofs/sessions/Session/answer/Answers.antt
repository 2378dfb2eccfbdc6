use Rattle.std.proofs.Common.{w32, rules}
use Rattle.std.proofs.lemmas.Int.{to_z-of_z}
use Rattle.scenarios.proofs.sessions.Session.answer.Goals as goal

pub returns-in-Insert : goal.returns-in-Insert
returns-in-Insert c = rw (c.in-Insert.is, ← to_z-of_z w32 c.in-Insert.nanoseconds (search rules)) c.insert.ensures
