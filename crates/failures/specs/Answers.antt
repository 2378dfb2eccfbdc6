-- What a call answers that may run out of memory. Assumes nothing.
use Rattle.std.specs.Prelude.{◌≡◌, true, is_ok, Ok, Err, Result}
use Rattle.failures.specs.declared.Failure.{Failure}
use Rattle.failures.specs.declared.Failure.TheVariants.{Because, Memory}

-- r is this answer, of which `seen` is what matters of an `Ok`; a want of memory says nothing of the answer
abbrev pub UnlessMemory : {T X E : Type 0} → (T → X) → Result X E → Result T (Failure E) → Type 0
UnlessMemory seen answer (Ok x) = answer ≡ Ok (seen x)
UnlessMemory seen answer (Err (Because reason)) = answer ≡ Err reason
UnlessMemory seen answer (Err Memory) = Unit {0}

-- the same of a call that needs memory only for what it accepts: no refusal is told as a want of memory
abbrev pub UnlessMemoryForOk : {T X E : Type 0} → (T → X) → Result X E → Result T (Failure E) → Type 0
UnlessMemoryForOk seen answer (Ok x) = answer ≡ Ok (seen x)
UnlessMemoryForOk seen answer (Err (Because reason)) = answer ≡ Err reason
UnlessMemoryForOk seen answer (Err Memory) = is_ok answer ≡ true
