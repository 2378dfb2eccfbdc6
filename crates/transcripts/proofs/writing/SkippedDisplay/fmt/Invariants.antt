use Rattle.std.proofs.Common.{take}
use Rattle.std.specs.Fmt.{HasWritten, IsPlainFormatter}
use Rattle.transcripts.specs.Transcripts.{skipped_text}
use Rattle.transcripts.proofs.writing.SkippedDisplay.fmt.Given as goal

abbrev pub invariant-loop-command : goal.invariant-loop-command
invariant-loop-command g l = IsPlainFormatter l.initial.f → HasWritten g.W.Write.write_str_gives l.initial.f (skipped_text (take l.command-index l.command-items)) l.f
