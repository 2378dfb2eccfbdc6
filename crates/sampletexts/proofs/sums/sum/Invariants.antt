use Rattle.std.proofs.Common.{◌≡◌, map, take}
use Rattle.records.specs.Offsets.{offset_fields}
use Rattle.sampletexts.specs.Sums.{sum_of}
use Rattle.sampletexts.proofs.sums.sum.Given as goal

abbrev pub invariant-loop-offset : goal.invariant-loop-offset
invariant-loop-offset l = l.sum ≡ sum_of (map offset_fields (take l.offset-index l.offsets))
