-- The records that were found. Assumes nothing.
use Rattle.std.proofs.Common.{◌≤◌, List, [], ◌∷◌, length, arith}
use Rattle.std.proofs.lemmas.List.{length-append}
use Rattle.ledgers.specs.declared.calls.Answer.{Answer}
use Rattle.ledgers.specs.declared.calls.Answer.TheVariants.{Mounted, Woken, Inserted, Committed, Refreshed, Found, Closed, Refused, OutOfTurn}
use Rattle.nighttexts.specs.Reports.{found_in, records_found}

module _ {K : Type 0} where
  one_at_most : (a : Answer K) → length (found_in a) ≤ 1
  one_at_most (Mounted n) = omega arith
  one_at_most Woken = omega arith
  one_at_most (Inserted slot) = omega arith
  one_at_most (Committed n) = omega arith
  one_at_most (Refreshed n) = omega arith
  one_at_most (Found x) = omega arith
  one_at_most Closed = omega arith
  one_at_most (Refused f) = omega arith
  one_at_most OutOfTurn = omega arith

  -- no more of them than answers
  pub found_short : (answers : List (Answer K)) → length (records_found answers) ≤ length answers
  found_short [] = omega arith
  found_short (a ∷ answers) = omega (arith, one_at_most a, found_short answers, length-append (found_in a) (records_found answers))
