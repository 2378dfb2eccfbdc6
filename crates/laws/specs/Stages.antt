-- What it is that a call of a sampler went so. Assumes nothing.
use Rattle.std.specs.Prelude.{◌≡◌, ℕ, Some, Ok, Err, Result}
use Rattle.faults.specs.declared.faults.Fault.{Fault}
use Rattle.records.specs.Reading.{shown_as}
use Rattle.stores.specs.Meanings.{Steadily}
use Rattle.cards.specs.Memories.{Memory}
use Rattle.mounts.specs.Mounts.{MountOutcome, MountCalls}
use Rattle.workings.specs.Worked.{Work, Worked, insert_work, commit_work, refresh_work}
use Rattle.samples.specs.Memories.{Arrays}
use Rattle.samplers.specs.Views.{View}
use Rattle.samplers.specs.Calls.{Leaves, knows_only, sampler_slot_answer}
use Rattle.ledgers.specs.declared.calls.Call.{Call}
use Rattle.ledgers.specs.declared.calls.Call.TheVariants.{Mount, Wake, Insert, Commit, Refresh, Slot, Close}
use Rattle.ledgers.specs.declared.calls.Answer.{Answer}
use Rattle.ledgers.specs.declared.calls.Answer.TheVariants.{Mounted, Woken, Inserted, Committed, Refreshed, Found, Closed, Refused, OutOfTurn}
use Rattle.laws.specs.declared.stages.Stage.{Stage}
use Rattle.laws.specs.declared.stages.Stage.TheVariants.{Sleeping, Waking}
use Rattle.laws.specs.Setups.{Setup, meant}

-- what a caller sees of it
abbrev pub view : {S K : Type 0} → Stage S K → View S
view (Sleeping v) = v
view (Waking v) = v

-- what a call answered, as a value
abbrev pub answered : {K A : Type 0} → (A → Answer K) → Result A Fault → Answer K
answered accepted (Ok x) = accepted x
answered accepted (Err e) = Refused e

module _ {S State K : Type 0} (x : Setup S State K) where
  -- a mount of a sleeping sampler
  pub record MountWent (v : View S) (r : Result ℕ Fault) (w : View S) : Type 0 where
    pub outcome : Leaves (MountOutcome x.own x.source x.code x.wrong (meant x v.store) (meant x w.store)) r w.sample
    pub calls : Leaves (λ q. MountCalls x.own x.code x.wrong x.does x.meaning (x.state v.store) q (x.state w.store)) r w.sample
    pub sound : Steadily x.steady (meant x v.store) (meant x w.store)
    pub arrays : (t : Memory) → w.sample ≡ Some t → Arrays t

  -- an insert, a commit or a refresh of a waking one
  abbrev pub WorkWent : {A : Type 0} → (Memory → Work A) → View S → Result A Fault → View S → Type 0
  WorkWent work v r w = Worked x.does x.meaning x.own x.source x.steady work (x.state v.store) v.sample r (x.state w.store) w.sample

  -- the answer a and the stage u are such a call's
  abbrev pub Left : {A : Type 0} → (A → Answer K) → (View S → Stage S K) → (Result A Fault → View S → Type 0) → Answer K → Stage S K → Type 0
  Left {A} accepted next Went a u = (r : Result A Fault) × (w : View S) × (a ≡ answered accepted r) × (u ≡ next w) × Went r w

  -- THE CALL c OF A SAMPLER t IS ANSWERED a, AND LEAVES u. A call that a sleeping sampler does not know, or a waking one, is
  -- out of turn and changes nothing.
  abbrev pub Went : Stage S K → Call K → Answer K → Stage S K → Type 0
  Went (Sleeping v) Mount a u = Left Mounted Sleeping (MountWent v) a u
  Went (Sleeping v) Wake a u = (a ≡ Woken) × (u ≡ Waking v)
  Went (Waking v) (Insert k) a u = Left Inserted Waking (WorkWent (insert_work (x.bytes k)) v) a u
  Went (Waking v) Commit a u = Left Committed Waking (WorkWent commit_work v) a u
  Went (Waking v) Refresh a u = Left Refreshed Waking (WorkWent refresh_work v) a u
  Went (Waking v) (Slot i) a u = Left Found Waking (λ r w. (shown_as x.bytes r ≡ sampler_slot_answer v.sample i) × (w ≡ v)) a u
  Went (Waking v) Close a u = (a ≡ Closed) × (u ≡ Sleeping (knows_only v.store))
  Went t c a u = (a ≡ OutOfTurn) × (u ≡ t)
