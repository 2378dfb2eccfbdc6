use Rattle.std.proofs.Common.{◌≡◌, ◌++◌, drop, string_bytes}
use Rattle.nighttexts.specs.Reports.{night_rows_text}
use Rattle.nighttexts.proofs.reports.write_rows.Given as goal

abbrev pub invariant-loop-slot : goal.invariant-loop-slot
invariant-loop-slot g l =
    string_bytes l.out ++ night_rows_text g.K.Worded.words l.slot-counter (drop l.slot-counter l.answers) ≡ string_bytes l.initial.out ++ night_rows_text g.K.Worded.words 0 l.answers
