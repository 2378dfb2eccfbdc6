use Rattle.std.proofs.Common.{◌≡◌, ◌++◌, drop, vec_items}
use Rattle.nighttexts.specs.Reports.{records_found}
use Rattle.nighttexts.proofs.reports.records_found.Given as goal

abbrev pub invariant-loop-answer : goal.invariant-loop-answer
invariant-loop-answer g l = vec_items l.records ++ records_found (drop l.answer-index l.answers) ≡ records_found l.answers
