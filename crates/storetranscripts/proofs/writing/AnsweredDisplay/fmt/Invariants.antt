use Rattle.std.proofs.Common.{◌++◌, codes}
use Rattle.std.specs.Fmt.{HasWritten, IsPlainFormatter}
use Rattle.std.specs.List.{flat_map}
use Rattle.storetranscripts.specs.Lines.{said_text}
use Rattle.storetranscripts.proofs.writing.AnsweredDisplay.fmt.Given as goal

abbrev pub invariant-loop-call : goal.invariant-loop-call
invariant-loop-call g l = IsPlainFormatter l.initial.f → HasWritten g.W.Write.write_str_gives l.initial.f (flat_map (λ p. said_text p.0.now p.1.now ++ codes "\n") l.yielded) l.f
