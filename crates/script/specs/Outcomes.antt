-- What nights came to, without the memory that it lies in. Assumes nothing.
use Rattle.std.specs.Prelude.{List, map, Ok, Err, Result, Vec, vec_items}
use Rattle.faults.specs.declared.faults.Fault.{Fault}
use Rattle.ledgers.specs.declared.calls.Answer.{Answer}

module _ {K : Type 0} where
  -- a night: the answer to each of its calls, or why its format was refused
  abbrev pub outcome_of : {Z : Type 0} → Result (Vec (Answer K) Z) Fault → Result (List (Answer K)) Fault
  outcome_of (Ok answers) = Ok (vec_items answers)
  outcome_of (Err e) = Err e

  -- nights, one after another
  abbrev pub outcomes_of : {Y Z : Type 0} → Vec (Result (Vec (Answer K) Z) Fault) Y → List (Result (List (Answer K)) Fault)
  outcomes_of outcomes = map outcome_of (vec_items outcomes)
