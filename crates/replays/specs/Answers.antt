-- What calls of a script are answered. Assumes nothing.
use Rattle.std.specs.Prelude.{◌≡◌, ℕ, cond, List, [], ◌∷◌, ◌==◌, slice_index, replicate, Ok, Err, Result}
use Rattle.std.specs.List.{list_all}
use Rattle.faults.specs.declared.faults.Fault.{Fault}
use Rattle.stores.specs.Outcomes as outcomes
use Rattle.stores.specs.Calls as calls
use Rattle.stores.specs.Calls.{Response, reads, writes, flushes, restarts}
use Rattle.storescript.specs.declared.calls.Call.{Call}
use Rattle.storescript.specs.declared.calls.Call.TheVariants.{Restart, Flush, Read, Write}
use Rattle.replays.specs.declared.answers.Answer.{Answer}
use Rattle.replays.specs.declared.answers.Answer.TheVariants.{Done, Filled, Mixed}

-- a block with one value in all its bytes
abbrev pub fill : ℕ → List ℕ
fill value = replicate 504 value

-- the value that fills a block
abbrev pub value_of : List ℕ → Answer
value_of block = cond (list_all (λ b. b == slice_index block 0) block) (Filled (slice_index block 0)) Mixed

-- the store's call that a script's call is; a read has a buffer of zeros
abbrev pub asked : Call → calls.Call
asked Restart = restarts
asked Flush = flushes
asked (Read b) = reads b (fill 0)
asked (Write b value) = writes b (fill value)

-- what an accepted call answers, by what a read leaves in its buffer
abbrev pub accepted : Call → List ℕ → Answer
accepted Restart buffer = Done
accepted Flush buffer = Done
accepted (Read b) buffer = value_of buffer
accepted (Write b value) buffer = Done

-- what is told of a store's answer; a refusal is told as it is
abbrev pub told : Call → outcomes.Answer → List ℕ → Result Answer Fault
told call (Ok done) buffer = Ok (accepted call buffer)
told call (Err f) buffer = Err f

module _ {S : Type 0} (does : S → calls.Call → Response S → Type 0) where
  -- a store that does so is made one call of a script
  unfoldable pub Answered : S → Call → Result Answer Fault → S → Type 0
  Answered s call r t = (w : Response S) × does s (asked call) w × (r ≡ told call w.answer w.buffer) × (t ≡ w.next)

  -- calls in order, each going on where the one before ended, accepted or refused
  unfoldable pub Replayed : S → List Call → List (Result Answer Fault) → S → Type 0
  Replayed s [] answers t = (answers ≡ []) × (t ≡ s)
  Replayed s (call ∷ more) answers t =
      (r : Result Answer Fault) × (u : S) × Answered s call r u × (rest : List (Result Answer Fault)) × (answers ≡ r ∷ rest) × Replayed u more rest t
