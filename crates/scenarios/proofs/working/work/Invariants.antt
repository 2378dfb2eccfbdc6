use Rattle.std.proofs.Common.{◌≡◌, List, [], ◌++◌, map, drop, vec_items}
use Rattle.records.specs.Offsets.{Fields}
use Rattle.scenarios.specs.Replies.{replies}
use Rattle.scenarios.specs.Answering.{KeepsFields, said}
use Rattle.scenarios.proofs.working.work.Given as goal

abbrev pub invariant-loop-command : goal.invariant-loop-command
invariant-loop-command l =
    (xs : List Fields) × KeepsFields l.seed l.size xs l.session.sample
    × (map said (vec_items l.answers) ++ replies l.seed l.size xs (drop l.command-index l.commands) ≡ replies l.seed l.size [] l.commands)
