-- Which blocks a mount reads, in which order. Assumes nothing.
use Rattle.std.specs.Prelude.{◌≡◌, ℕ, zero, suc, ◌%◌, Bool, cond, List, [], ◌∷◌, ◌++◌, map, length, All, Ok, Err, Option, Result, ◌==◌, MatchResult, ⊤}
use Rattle.faults.specs.declared.faults.Fault.{Fault}
use Rattle.faults.specs.declared.faults.Layer.{Layer}
use Rattle.stores.specs.Calls.{Call, Response, reads, InOrder}
use Rattle.stores.specs.Outcomes.{Answer}
use Rattle.layouts.specs.Heads.{Fields}
use Rattle.cards.specs.Cards.{Card, slot_block, entry_block, filled}
use Rattle.cards.specs.Verdicts.{head_of, each, entry_check, slot_check}

-- a block that is needed is read, unless the buffer has it
abbrev pub fetched : Bool → ℕ → List ℕ
fetched is_new b = cond is_new (b ∷ []) []

-- what is read once a check passed
abbrev pub if_passed : {A : Type 0} → Result A Fault → (A → List ℕ) → List ℕ
if_passed (Ok x) next = next x
if_passed (Err e) next = []

-- what is read for the checks of 0 to n - 1, up to the first that is refused
unfoldable pub each_reads : (ℕ → Answer) → (ℕ → List ℕ) → ℕ → List ℕ
each_reads checks blocks zero = []
each_reads checks blocks (suc i) = each_reads checks blocks i ++ if_passed (each checks i) (λ _. blocks i)

-- a log block is read at the first of its 31 entries
abbrev pub entry_reads : Fields → ℕ → List ℕ
entry_reads h i = fetched (i % 31 == 0) (entry_block h i)

-- and a sample block at the first of its 42 slots
abbrev pub slot_reads : ℕ → List ℕ
slot_reads s = fetched (s % 42 == 0) (slot_block s)

-- the blocks of the log, up to the first entry that is wrong
abbrev pub log_reads : Layer → (List ℕ → Option ℕ) → Fields → Card → List ℕ
log_reads own wrong h card = each_reads (entry_check own wrong h card) (entry_reads h) h.entries

-- the sample blocks that records have filled, up to the first slot that is wrong
abbrev pub sample_reads : Layer → (List ℕ → Option ℕ) → Fields → Card → List ℕ
sample_reads own wrong h card = each_reads (slot_check own wrong h card) slot_reads (filled h)

-- THE BLOCKS THAT A MOUNT READS: the head; of a right one the log; of a right log the sample blocks
abbrev pub mount_reads : Layer → ℕ → ℕ → (List ℕ → Option ℕ) → Card → List ℕ
mount_reads own store code wrong card =
    0 ∷ if_passed (head_of own store code card) (λ h. log_reads own wrong h card ++ if_passed (each (entry_check own wrong h card) h.entries) (λ _. sample_reads own wrong h card))

-- a read of a block into a buffer
abbrev pub reading : ℕ × List ℕ → Call
reading x = reads x.0 x.1

-- the buffer that a block is read into is as long as a block
abbrev pub OfBlockLength : ℕ × List ℕ → Type 0
OfBlockLength x = length x.1 ≡ 504

-- a fault that is answered is the check's
abbrev pub FaultOf : {A X : Type 0} → Result A Fault → Result X Fault → Type 0
FaultOf check (Ok x) = ⊤
FaultOf check (Err e) = check ≡ Err e

-- what refuses nothing
abbrev pub no_check : Answer
no_check = Ok tt

-- JUST THESE BLOCKS ARE READ, in order, into buffers of a block's length, up to the first read that the store refuses. That
-- fault is the answer then; else a fault that is answered is the check's.
pub record ReadsFor {S A X : Type 0} (does : S → Call → Response S → Type 0) (s : S) (blocks : List ℕ) (check : Result A Fault) (answer : Result X Fault) (t : S) : Type 0 where
  pub calls : List (ℕ × List ℕ)
  pub these : map (λ x. x.0) calls ≡ blocks
  pub fit : All OfBlockLength calls
  pub last : Answer
  pub made : InOrder does s (map reading calls) last t
  pub fault : MatchResult last (λ done. FaultOf check answer) (λ e. answer ≡ Err e)
