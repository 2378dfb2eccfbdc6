use Rattle.std.proofs.Common.{◌≡◌, ◌++◌, drop, vec_items}
use Rattle.script.specs.Calls.{calls_of}
use Rattle.script.proofs.cards.Night.calls.Given as goal

-- those so far and those of the asks that are left are all
abbrev pub invariant-loop-ask : goal.invariant-loop-ask
invariant-loop-ask g l = vec_items l.calls ++ calls_of l.self.size (drop l.ask-index (vec_items l.self.asks)) ≡ calls_of l.self.size (vec_items l.self.asks)
