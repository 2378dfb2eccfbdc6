-- Calls of a store, with all that is known of each: which response the store gives, and what the rules say of it. Assumes
-- nothing.
use Rattle.std.specs.Prelude.{ℕ, Bool, List}
use Rattle.faults.specs.declared.faults.Layer.{Layer}
use Rattle.stores.specs.Calls.{Call, Response, reads, writes, flushes, restarts, InOrder}
use Rattle.stores.specs.Meanings.{Meaning, Steadily}
use Rattle.stores.specs.Outcomes.{Answer, ReadOutcome, WriteOutcome, FlushOutcome, RestartOutcome}

-- what the rules say of a call, by the meanings before and after, its answer and what it left in the caller's buffer
abbrev pub OutcomeOf : Layer → Layer → Meaning → Meaning → Call → Answer → List ℕ → Type 0
OutcomeOf own source m n (reads b before) r after = ReadOutcome 504 own source m n b before after r
OutcomeOf own source m n (writes b bytes) r after = WriteOutcome 504 own source m n b bytes r
OutcomeOf own source m n flushes r after = FlushOutcome own source m n r
OutcomeOf own source m n restarts r after = RestartOutcome source m n r

module _ {State : Type 0} (does : State → Call → Response State → Type 0) (meaning : State → Meaning) (own source : Layer) (steady : Bool) where
  -- a call that was made: its response is one that the store gives, by the rules, and a steady store stays sound
  pub record Made (s : State) (c : Call) (w : Response State) : Type 0 where
    pub gives : does s c w
    pub outcome : OutcomeOf own source (meaning s) (meaning w.next) c w.answer w.buffer
    pub sound : Steadily steady (meaning s) (meaning w.next)

  -- calls that were made in order, up to the first that was refused
  abbrev pub Trace : State → List Call → Answer → State → Type 0
  Trace s cs r t = InOrder Made s cs r t
