-- How a failure reads. Assumes nothing.
use Rattle.std.specs.Prelude.{ℕ, List, Some, Option, codes}
use Rattle.failures.specs.declared.Failure.{Failure}
use Rattle.failures.specs.declared.Failure.TheVariants.{Because, Memory}

-- as its reason reads, or that memory ran out
abbrev pub failure_text : {E : Type 0} → (E → Option (List ℕ)) → Failure E → Option (List ℕ)
failure_text text (Because reason) = text reason
failure_text text Memory = Some (codes "out of memory")
