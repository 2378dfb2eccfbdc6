-- The ledger of a sampler: what its calls and their answers say, and nothing else. Assumes nothing.
use Rattle.std.specs.Prelude.{ℕ, Bool, true, false, cond, List, [], ◌∷◌, ◌++◌, length, take, Some, None, Option, ◌==◌}
use Rattle.faults.specs.declared.faults.Fault.{Fault}
use Rattle.faults.specs.Numbers.{reason_number}
use Rattle.ledgers.specs.declared.calls.Call.{Call}
use Rattle.ledgers.specs.declared.calls.Call.TheVariants.{Mount, Insert, Commit, Refresh, Close}
use Rattle.ledgers.specs.declared.calls.Answer.{Answer}
use Rattle.ledgers.specs.declared.calls.Answer.TheVariants.{Mounted, Inserted, Committed, Refreshed, Closed, Refused}

-- the records counted, in order; how many of them are settled, and perhaps how many are waiting to be; whether it is open;
-- and how many were counted at the last accepted format or refresh
pub record Ledger (K : Type 0) : Type 0 where
  pub counted : List K
  pub settled : ℕ
  pub waiting : Option ℕ
  pub is_open : Bool
  pub since : ℕ

-- a refusal 21: the store is off, or the sampler is dark
abbrev pub is_21 : Fault → Bool
is_21 e = reason_number e.reason == 21

module _ {K : Type 0} where
  -- an accepted format opens it: no record, 0 settled, none waiting
  abbrev pub opened : Ledger K
  opened = record { counted = []; settled = 0; waiting = None; is_open = true; since = 0 }

  -- an accepted mount that answers n opens it: the first n records, n settled, none waiting
  abbrev pub reopened : ℕ → Ledger K → Ledger K
  reopened n b = record { counted = take n b.counted; settled = n; waiting = None; is_open = true; since = b.since }

  -- an accepted insert adds its record
  abbrev pub added : K → Ledger K → Ledger K
  added x b = record { counted = b.counted ++ x ∷ []; settled = b.settled; waiting = b.waiting; is_open = b.is_open; since = b.since }

  -- an accepted commit or refresh settles the number of records, none waiting
  abbrev pub all_settled : Ledger K → Ledger K
  all_settled b = record { counted = b.counted; settled = length b.counted; waiting = None; is_open = b.is_open; since = b.since }

  -- an accepted refresh is also the last one, at so many records
  abbrev pub begun_anew : Ledger K → Ledger K
  begun_anew b = record { counted = b.counted; settled = b.settled; waiting = b.waiting; is_open = b.is_open; since = length b.counted }

  -- a refusal 21, a refused mount and a close shut it
  abbrev pub shut : Ledger K → Ledger K
  shut b = record { counted = b.counted; settled = b.settled; waiting = b.waiting; is_open = false; since = b.since }

  -- a commit or a refresh, refused 21 while it is open, leaves the number of records waiting
  abbrev pub all_waiting : Ledger K → Ledger K
  all_waiting b = record { counted = b.counted; settled = b.settled; waiting = cond b.is_open (Some (length b.counted)) b.waiting; is_open = b.is_open; since = b.since }

  -- what a refusal does to it, by the call that was refused
  abbrev pub refused : Call K → Fault → Ledger K → Ledger K
  refused Mount e b = shut b
  refused Commit e b = cond (is_21 e) (shut (all_waiting b)) b
  refused Refresh e b = cond (is_21 e) (shut (all_waiting b)) b
  refused c e b = cond (is_21 e) (shut b) b

  -- an accepted insert: the one call for which a ledger needs memory
  abbrev pub Adds : Call K → Answer K → Type 0
  Adds (Insert x) (Inserted slot) = Unit {0}
  Adds c a = ⊥

  -- THE LEDGER AFTER A CALL, by the call and its answer. Nothing else changes it.
  abbrev pub fed : Ledger K → Call K → Answer K → Ledger K
  fed b Mount (Mounted n) = reopened n b
  fed b (Insert x) (Inserted slot) = added x b
  fed b Commit (Committed n) = all_settled b
  fed b Refresh (Refreshed blocks) = begun_anew (all_settled b)
  fed b Close Closed = shut b
  fed b c (Refused e) = refused c e b
  fed b c a = b
