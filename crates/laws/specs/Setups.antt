-- What a sampler is made of: a store, and a kind of record. Assumes nothing.
use Rattle.std.specs.Prelude.{ℕ, Bool, List, Option}
use Rattle.faults.specs.declared.faults.Layer.{Layer}
use Rattle.stores.specs.Calls.{Call, Response}
use Rattle.stores.specs.Meanings.{Meaning}

-- what is said of stores S with these states and of records K
pub record Setup (S State K : Type 0) : Type 1 where
  pub state : S → State
  pub meaning : State → Meaning
  pub does : State → Call → Response State → Type 0
  pub own : Layer
  pub source : Layer
  pub steady : Bool
  pub code : ℕ
  pub bytes : K → List ℕ
  pub wrong : List ℕ → Option ℕ

module _ {S State K : Type 0} where
  -- what a store means
  abbrev pub meant : Setup S State K → S → Meaning
  meant x s = x.meaning (x.state s)
