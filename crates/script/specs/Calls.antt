-- The calls that a night makes of the sampler, and whether it is awake after them. Assumes nothing.
use Rattle.std.specs.Prelude.{ℕ, zero, suc, Bool, true, false, List, [], ◌∷◌, ◌++◌}
use Rattle.ledgers.specs.declared.calls.Call as declared_call
use Rattle.ledgers.specs.declared.calls.Call.TheVariants.{Wake, Slot, Close}
use Rattle.script.specs.declared.cards.Ask.{Ask}
use Rattle.script.specs.declared.cards.Ask.TheVariants.{Calls, NoSuchRecord, Report}

module _ {K : Type 0} where
  -- a slot call of each slot below n, ascending
  abbrev pub slot_calls : ℕ → List (declared_call.Call K)
  slot_calls zero = []
  slot_calls (suc n) = slot_calls n ++ Slot n ∷ []

  -- what an ask calls: a report looks into each slot, and a record that cannot exist reaches no call
  abbrev pub calls_asked : ℕ → Ask K → List (declared_call.Call K)
  calls_asked size (Calls c) = c ∷ []
  calls_asked size (NoSuchRecord f) = []
  calls_asked size Report = slot_calls size

  -- all of them, in order
  abbrev pub calls_of : ℕ → List (Ask K) → List (declared_call.Call K)
  calls_of size [] = []
  calls_of size (ask ∷ asks) = calls_asked size ask ++ calls_of size asks

  -- whether the sampler is awake after a call: each wake and each close moves it, whatever else comes of the calls
  abbrev pub awake_after_call : Bool → declared_call.Call K → Bool
  awake_after_call is_awake Wake = true
  awake_after_call is_awake Close = false
  awake_after_call is_awake other = is_awake
