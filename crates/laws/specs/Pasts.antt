-- What is known of a sampler by the calls that it had. Assumes nothing.
use Rattle.std.specs.Prelude.{Bool, true, false, ◌&&◌}
use Rattle.ledgers.specs.Ledgers.{Ledger, opened, fed}
use Rattle.ledgers.specs.declared.calls.Call.{Call}
use Rattle.ledgers.specs.declared.calls.Answer.{Answer}
use Rattle.ledgers.specs.declared.calls.Answer.TheVariants.{Mounted, Woken, Closed, OutOfTurn}

-- its ledger; whether the last call was an accepted format or mount; and whether it is awake and was woken straight after
-- one, on a lasting supply
pub record Past (K : Type 0) : Type 0 where
  pub ledger : Ledger K
  pub fresh : Bool
  pub sure : Bool

module _ {K : Type 0} where
  -- after an accepted format
  abbrev pub just_formatted : Past K
  just_formatted = record { ledger = opened; fresh = true; sure = false }

  -- a call out of turn is none that the sampler had
  abbrev pub fresh_after : Bool → Answer K → Bool
  fresh_after before (Mounted n) = true
  fresh_after before OutOfTurn = before
  fresh_after before a = false

  -- by whether the supply lasted when it was woken
  abbrev pub sure_after : Bool → Past K → Answer K → Bool
  sure_after lasts p Woken = p.fresh && lasts
  sure_after lasts p Closed = false
  sure_after lasts p a = p.sure

  -- after one call more, on a supply that lasts or not
  abbrev pub past : Bool → Past K → Call K → Answer K → Past K
  past lasts p c a = record { ledger = fed p.ledger c a; fresh = fresh_after p.fresh a; sure = sure_after lasts p a }
