use Rattle.std.proofs.Common.{◌≡◌, length}
use Rattle.benches.specs.Passes.{Pass, passed}
use Rattle.benches.specs.Views.{Allocation, allocation_of}
use Rattle.benches.proofs.disk.Disk.restart.Given as goal

abbrev pub invariant-loop-b : goal.invariant-loop-b
invariant-loop-b l =
    record {
      held : l.self.held ≡ l.initial.self.held;
      long : length l.self.bytes.items ≡ length l.initial.self.bytes.items;
      allocation : ◌≡◌ {A = Allocation} (allocation_of l.self.bytes) (allocation_of l.initial.self.bytes);
      pass : ◌≡◌ {A = Pass} (record { mem = l.self.bytes.items; left = l.choices.items }) (passed l.initial.self.held.items (record { mem = l.initial.self.bytes.items; left = l.initial.choices.items }) l.b);
    }
