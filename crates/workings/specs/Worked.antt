-- What it is that an insert, a commit or a refresh of a sampler went so. Assumes nothing.
use Rattle.std.specs.Prelude.{◌≡◌, ℕ, Bool, List, Some, None, Ok, Err, Option, Result}
use Rattle.faults.specs.declared.faults.Fault.{Fault}
use Rattle.faults.specs.declared.faults.Layer.{Layer}
use Rattle.faults.specs.declared.faults.Reason.TheVariants.{Off}
use Rattle.sampling.specs.Answers.{refusal}
use Rattle.stores.specs.Calls.{Call, Response}
use Rattle.stores.specs.Meanings.{Meaning}
use Rattle.stores.specs.Outcomes.{Answer}
use Rattle.cards.specs.Memories.{Memory}
use Rattle.traces.specs.Traces.{Trace}
use Rattle.workings.specs.Inserts.{next_slot, insert_test, inserted, insert_calls}
use Rattle.workings.specs.Commits.{commit_calls, all_committed}
use Rattle.workings.specs.Refreshes.{refresh_calls, refresh_answer, refreshed}

-- a call, by the memory that it meets: its tests, the calls that it makes below, and where all are accepted the memory after
-- it and its answer
pub record Work (A : Type 0) : Type 0 where
  pub test : Answer
  pub calls : List Call
  pub after : Memory
  pub answer : A

-- an insert of these bytes answers the slot or none
abbrev pub insert_work : List ℕ → Memory → Work (Option ℕ)
insert_work bytes t = record { test = insert_test t; calls = insert_calls t bytes; after = inserted t (next_slot t) bytes; answer = next_slot t }

-- a commit has no tests, and answers the count
abbrev pub commit_work : Memory → Work ℕ
commit_work t = record { test = Ok tt; calls = commit_calls t; after = all_committed t; answer = t.head.count }

-- a refresh has none either, and answers how many sample blocks it wrote
abbrev pub refresh_work : Memory → Work ℕ
refresh_work t = record { test = Ok tt; calls = refresh_calls t; after = refreshed t; answer = refresh_answer t }

-- by what the calls below were answered: the memory after it and the answer; any fault from below makes the sampler dark, and
-- comes up unchanged
abbrev pub Ends : {A : Type 0} → Work A → Answer → Result A Fault → Option Memory → Type 0
Ends w (Ok done) r after = (r ≡ Ok w.answer) × (after ≡ Some w.after)
Ends w (Err e) r after = (r ≡ Err e) × (after ≡ None)

module _ {State : Type 0} (does : State → Call → Response State → Type 0) (meaning : State → Meaning) (own source : Layer) (steady : Bool) where
  -- by its tests: a refusal changes nothing; else the calls below were made
  abbrev pub Tested : {A : Type 0} → Memory → Work A → Answer → State → Result A Fault → State → Option Memory → Type 0
  Tested before w (Ok done) s r t after = (below : Answer) × Trace does meaning own source steady s w.calls below t × Ends w below r after
  Tested before w (Err e) s r t after = (r ≡ Err e) × (t ≡ s) × (after ≡ Some before)

  -- A CALL THAT WORKS A SAMPLER, by its memory, if it has one: a dark sampler refuses it, and changes nothing
  abbrev pub Worked : {A : Type 0} → (Memory → Work A) → State → Option Memory → Result A Fault → State → Option Memory → Type 0
  Worked work s None r t after = (r ≡ Err (refusal Off 0)) × (t ≡ s) × (after ≡ None)
  Worked work s (Some before) r t after = Tested before (work before) (work before).test s r t after
