use Rattle.std.proofs.Common.{◌≡◌, drop}
use Rattle.benches.specs.Held.{settled_all}
use Rattle.benches.proofs.disk.settle_all.Given as goal

abbrev pub invariant-loop-h : goal.invariant-loop-h
invariant-loop-h l = settled_all l.mem (drop l.h-index l.held) ≡ settled_all l.initial.mem l.held
