use Rattle.std.proofs.Common.{map, string_bytes}
use Rattle.languages.specs.Transcripts.{Printed}
use Rattle.storeparsing.specs.Scripts.{plan_of}
use Rattle.storetranscripts.specs.Transcripts.{Lines}
use Rattle.storetranscripts.proofs.transcript.Given as goal

abbrev pub invariant-loop-scenario : goal.invariant-loop-scenario
invariant-loop-scenario l = Printed Lines (map plan_of l.yielded) (string_bytes l.out)
