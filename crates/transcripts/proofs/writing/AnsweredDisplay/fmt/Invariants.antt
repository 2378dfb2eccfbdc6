use Rattle.std.proofs.Common.{◌++◌, codes}
use Rattle.std.specs.Fmt.{HasWritten, IsPlainFormatter}
use Rattle.std.specs.List.{flat_map}
use Rattle.printing.specs.Lines.{reply_text}
use Rattle.scenarios.specs.Answering.{said}
use Rattle.transcripts.proofs.writing.AnsweredDisplay.fmt.Given as goal

abbrev pub invariant-loop-command : goal.invariant-loop-command
invariant-loop-command g l = IsPlainFormatter l.initial.f → HasWritten g.W.Write.write_str_gives l.initial.f (flat_map (λ p. reply_text p.0.now (said p.1.now) ++ codes "\n") l.yielded) l.f
