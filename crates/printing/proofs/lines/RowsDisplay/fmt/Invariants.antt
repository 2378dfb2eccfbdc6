use Rattle.std.proofs.Common.{map, take}
use Rattle.std.specs.Fmt.{HasWritten, IsPlainFormatter}
use Rattle.scenarios.specs.Answering.{row_of}
use Rattle.printing.specs.Lines.{rows_text}
use Rattle.printing.proofs.lines.RowsDisplay.fmt.Given as goal

abbrev pub invariant-loop-row : goal.invariant-loop-row
invariant-loop-row g l = IsPlainFormatter l.initial.f → HasWritten g.W.Write.write_str_gives l.initial.f (rows_text (map row_of (take l.row-index l.row-items))) l.f
