-- A refusal, by its three parts. Assumes nothing.
use Rattle.std.specs.Prelude.{ℕ}
use Rattle.faults.specs.declared.faults.Fault.{Fault}
use Rattle.faults.specs.declared.faults.Layer.{Layer}
use Rattle.faults.specs.declared.faults.Reason.{Reason}

-- the refusal for this reason that arises in this layer, at this place
abbrev pub fault : Reason → Layer → ℕ → Fault
fault why layer place = record { reason = why; layer = layer; place = place }
