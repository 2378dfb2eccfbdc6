use Rattle.std.proofs.Common.{◌≡◌, ◌++◌, drop, string_bytes}
use Rattle.nighttexts.specs.Nights.{asks_text, night_begun}
use Rattle.nighttexts.proofs.nights.write_asks.Given as goal

abbrev pub invariant-loop-ask : goal.invariant-loop-ask
invariant-loop-ask g l =
    string_bytes l.out ++ asks_text g.K.Worded.words g.K.Worded.summary l.size l.so_far (drop l.ask-index l.asks)
    ≡ string_bytes l.initial.out ++ asks_text g.K.Worded.words g.K.Worded.summary l.size (night_begun l.answers) l.asks
