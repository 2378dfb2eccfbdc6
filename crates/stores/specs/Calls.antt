-- Calls of a store as values, and what is said to them. Assumes nothing.
use Rattle.std.specs.Prelude.{◌≡◌, ℕ, List, [], ◌∷◌, Ok, Err, Result}
use Rattle.faults.specs.declared.faults.Fault.{Fault}
use Rattle.stores.specs.Outcomes.{Answer}

-- a call with its arguments; a read has the caller's buffer as it was
pub data Call : Type 0 where
  reads : ℕ → List ℕ → Call
  writes : ℕ → List ℕ → Call
  flushes : Call
  restarts : Call

-- what a call is answered, what a read leaves in the caller's buffer, and what is left of the store
pub record Response (State : Type 0) : Type 0 where
  pub answer : Answer
  pub buffer : List ℕ
  pub next : State

-- a call that is refused before it is served changes nothing, and a read leaves the caller's buffer as it was
abbrev pub unless : {State : Type 0} → Answer → List ℕ → State → Response State → Response State
unless (Ok done) buffer s served = served
unless (Err e) buffer s served = record { answer = Err e; buffer = buffer; next = s }

-- a call without a buffer
abbrev pub response : {State : Type 0} → Answer → State → Response State
response r s = record { answer = r; buffer = []; next = s }

-- a fault is the last that happens: it is the answer r of the whole, and t is what it left; else the rest follows
abbrev pub Onward : {State X : Type 0} → Result X Fault → State → (X → Type 0) → Answer → State → Type 0
Onward (Ok x) s rest r t = rest x
Onward (Err e) s rest r t = (r ≡ Err e) × (t ≡ s)

-- a store that does so is made these calls in order, up to the first that is refused: they lead from s to t, and r is
-- the answer of the last that was made
unfoldable pub InOrder : {State : Type 0} → (State → Call → Response State → Type 0) → State → List Call → Answer → State → Type 0
InOrder does s [] r t = (r ≡ Ok tt) × (t ≡ s)
InOrder {State} does s (c ∷ cs) r t = (w : Response State) × does s c w × Onward w.answer w.next (λ _. InOrder does w.next cs r t) r t

-- a store that does so says one thing at most to each call
abbrev pub Determined : {State : Type 0} → (State → Call → Response State → Type 0) → Type 0
Determined {State} does = (s : State) (c : Call) (w v : Response State) → does s c w → does s c v → w ≡ v
