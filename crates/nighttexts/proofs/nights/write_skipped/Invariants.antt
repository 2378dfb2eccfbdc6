use Rattle.std.proofs.Common.{◌≡◌, ◌++◌, drop, string_bytes}
use Rattle.nighttexts.specs.Nights.{night_skipped_text}
use Rattle.nighttexts.proofs.nights.write_skipped.Given as goal

abbrev pub invariant-loop-ask : goal.invariant-loop-ask
invariant-loop-ask g l = string_bytes l.out ++ night_skipped_text (drop l.ask-index l.asks) ≡ string_bytes l.initial.out ++ night_skipped_text l.asks
