use Rattle.std.proofs.Common.{◌≡◌, false, drop}
use Rattle.parsing.specs.Asks.{awake_at_end}
use Rattle.parsing.proofs.asks.awake_at_end.Given as goal

-- those that are left end as all of them do
abbrev pub invariant-loop-ask : goal.invariant-loop-ask
invariant-loop-ask g l = awake_at_end l.awake (drop l.ask-index l.asks) ≡ awake_at_end false l.asks
