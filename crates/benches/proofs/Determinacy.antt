-- A bench says one thing to each call. Assumes nothing.
use Rattle.std.proofs.Common.{sym, ◌∙◌}
use Rattle.stores.specs.Calls.{Determined}
use Rattle.benches.specs.Benches.{bench_does}

pub bench_one : Determined bench_does
bench_one s c w x h k = h ∙ sym k
