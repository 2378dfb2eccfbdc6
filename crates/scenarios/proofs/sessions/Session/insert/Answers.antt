use Rattle.std.proofs.Common.{w32, rules}
use Rattle.std.proofs.lemmas.Int.{to_z-of_z}
use Rattle.scenarios.proofs.Kept.{insert_said}
use Rattle.scenarios.proofs.sessions.Session.insert.Goals as goal

pub returns : goal.returns
returns c = λ seed size xs k.
    let e = simp (to_z-of_z w32 c.args.nanoseconds c.ranges.nanoseconds) at c.in_ok-offset.ensures in
    insert_said seed size xs _ _ _ _ _ _ c.map.result e k (c.insert.ensures.value seed size) (search rules)
