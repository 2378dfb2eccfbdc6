-- What formatting a store does. Assumes nothing.
use Rattle.std.specs.Prelude.{◌≡◌, ℕ, ◌+◌, ◌<◌, ◌≤◌, true, ◌⊎◌, List, ◌∷◌, ◌++◌, replicate, Ok, Err}
use Rattle.faults.specs.declared.faults.Fault.{Fault}
use Rattle.faults.specs.declared.faults.Layer.{Layer}
use Rattle.faults.specs.declared.faults.Reason.TheVariants.{StoreTooSmall}
use Rattle.sampling.specs.Answers.{refusal}
use Rattle.stores.specs.Calls.{Call, Response, restarts, InOrder}
use Rattle.stores.specs.Meanings.{whole, Meaning, Settled, Lasting, Written}
use Rattle.stores.specs.Outcomes.{Answer, Refusal, Failed}
use Rattle.layouts.specs.Shapes.{sample_blocks}
use Rattle.layouts.specs.Heads.{Fields, fields_bytes, card_blocks}
use Rattle.formats.specs.Fills.{fill_calls, Filling}

-- a block of zeros
abbrev pub zeros : List ℕ
zeros = replicate 504 0

-- THE CALLS OF A FORMAT: a restart; a zero head, settled; zero sample blocks, settled; the head, settled
abbrev pub format_calls : Fields → List Call
format_calls h =
    restarts ∷ (fill_calls 0 1 zeros ++ (fill_calls 1 (sample_blocks h.size) zeros ++ fill_calls 0 1 (fields_bytes h)))

-- a store with too few blocks is refused, and no call is made on it; else these calls are made, up to the first that is
-- refused
pub record FormatCalls {S : Type 0} (does : S → Call → Response S → Type 0) (size : ℕ) (h : Fields) (s : S) (r : Answer) (t : S) : Type 0 where
  pub small : size < card_blocks h → (r ≡ Err (refusal StoreTooSmall size)) × (t ≡ s)
  pub large : card_blocks h ≤ size → InOrder does s (format_calls h) r t

-- AN ACCEPTED FORMAT: the head stands at block 0, zeros at the sample blocks, and what the restart chose at the others
pub record Formatted (m n : Meaning) (h : Fields) : Type 0 where
  pub size : n.size ≡ m.size
  pub on : n.on ≡ true
  pub head : n.reads 0 ≡ whole (fields_bytes h)
  pub blank : (b : ℕ) → 0 < b → b < 1 + sample_blocks h.size → n.reads b ≡ whole zeros
  pub others : (b : ℕ) → 1 + sample_blocks h.size ≤ b → b < m.size → m.stands b (n.reads b)
  pub settled : Settled n
  pub lasts : Lasting m n

-- a store of this meaning once zeros are settled at its first n blocks, as a cut sees it: they alone may stand there, and
-- at the others what might stand before
abbrev pub zeroed : ℕ → Meaning → Meaning
zeroed n m = record m { stands = λ b c. ((b < n) × (c ≡ whole zeros)) ⊎ ((n ≤ b) × m.stands b c) }

-- A CUT FORMAT, by how far it had come: the zero head was not settled, the sample blocks were not, or the head was not.
-- So this head comes to stand over zero sample blocks alone, and an older one only where no sample block was written.
abbrev pub FormatFailed : Layer → Meaning → Meaning → Fields → Fault → Type 0
FormatFailed source m n h e =
    Failed source m n (Written 0 zeros) e
    ⊎ (Failed source (zeroed 1 m) n (Filling 1 (sample_blocks h.size) zeros) e
    ⊎ Failed source (zeroed (1 + sample_blocks h.size) m) n (Written 0 (fields_bytes h)) e)

-- of a store with enough blocks: accepted, or the supply failed in it
abbrev pub FormatServed : Layer → Meaning → Meaning → Fields → Answer → Type 0
FormatServed source m n h (Ok done) = Formatted m n h
FormatServed source m n h (Err e) = FormatFailed source m n h e

-- a store with too few blocks is refused, and nothing changes; one with enough only where the supply fails in the format
pub record FormatOutcome (source : Layer) (m n : Meaning) (h : Fields) (r : Answer) : Type 0 where
  pub small : m.size < card_blocks h → Refusal m n (refusal StoreTooSmall m.size) r
  pub served : card_blocks h ≤ m.size → FormatServed source m n h r
