-- What the calls of a sampler do. Assumes nothing.
use Rattle.std.specs.Prelude.{◌≡◌, ℕ, Some, None, Ok, Err, Option, Result, List, nat_le}
use Rattle.faults.specs.declared.faults.Fault.{Fault}
use Rattle.faults.specs.declared.faults.Layer.{Layer}
use Rattle.faults.specs.declared.faults.Reason.TheVariants.{StoreTooSmall, Off}
use Rattle.sampling.specs.Answers.{refusal}
use Rattle.stores.specs.Calls.{Call, Response, InOrder}
use Rattle.stores.specs.Meanings.{Meaning}
use Rattle.stores.specs.Outcomes.{Answer}
use Rattle.layouts.specs.Shapes.{blocks, shape_of}
use Rattle.cards.specs.Memories.{Memory}
use Rattle.cards.specs.Verdicts.{and_then, check}
use Rattle.formats.specs.Formats.{FormatServed, format_calls}
use Rattle.samples.specs.Memories.{new_head, blank_memory, slot_read}
use Rattle.samplers.specs.Views.{View}

-- a sampler that knows only its store
abbrev pub knows_only : {S : Type 0} → S → View S
knows_only store = record { store = store; sample = None }

-- FORMAT: its tests, in order: slots and log blocks within their limits, and then a store with enough blocks
abbrev pub format_test : ℕ → ℕ → ℕ → Answer
format_test store size log_blocks = and_then (shape_of size log_blocks) (λ shape. check (nat_le (blocks shape.0 shape.1) store) (refusal StoreTooSmall store))

-- what is in memory after a format: the sample of no records, if it was accepted
abbrev pub formatted : Answer → Memory → Option Memory
formatted (Ok done) blank = Some blank
formatted (Err e) blank = None

module _ {S State : Type 0} (state : S → State) (meaning : State → Meaning) (does : State → Call → Response State → Type 0) (source : Layer) where
  -- a format that passed its tests: what is below afterwards, by which calls, and what is in memory
  pub record Served (code size log_blocks seed : ℕ) (v w : View S) (r : Answer) : Type 0 where
    pub outcome : FormatServed source (meaning (state v.store)) (meaning (state w.store)) (new_head code size log_blocks seed) r
    pub calls : InOrder does (state v.store) (format_calls (new_head code size log_blocks seed)) r (state w.store)
    pub sample : w.sample ≡ formatted r (blank_memory code size log_blocks seed)

  -- a refusal by the tests leaves a sampler that knows only its store, and changes nothing there
  pub record Untouched (v w : View S) (r : Answer) (e : Fault) : Type 0 where
    pub answer : r ≡ Err e
    pub store : state w.store ≡ state v.store
    pub sample : w.sample ≡ None

  -- by what the tests answer
  abbrev pub FormatsBy : ℕ → ℕ → ℕ → ℕ → View S → View S → Answer → Answer → Type 0
  FormatsBy code size log_blocks seed v w r (Ok done) = Served code size log_blocks seed v w r
  FormatsBy code size log_blocks seed v w r (Err e) = Untouched v w r e

  -- A FORMAT of a store of this size, with these numbers
  abbrev pub Formats : ℕ → ℕ → ℕ → ℕ → View S → View S → Answer → Type 0
  Formats code size log_blocks seed v w r = FormatsBy code size log_blocks seed v w r (format_test (meaning (state v.store)).size size log_blocks)

-- MOUNT: where P says what a mount makes of a store, this is what the sampler answers, the count, and what it has in memory
abbrev pub Leaves : (Result Memory Fault → Type 0) → Result ℕ Fault → Option Memory → Type 0
Leaves P (Ok n) (Some t) = P (Ok t) × (n ≡ t.head.count)
Leaves P (Ok n) None = ⊥
Leaves P (Err e) None = P (Err e)
Leaves P (Err e) (Some t) = ⊥

-- SLOT: a dark sampler refuses, and else its memory answers
abbrev pub sampler_slot_answer : Option Memory → ℕ → Result (List ℕ) Fault
sampler_slot_answer None s = Err (refusal Off 0)
sampler_slot_answer (Some t) s = slot_read t s
