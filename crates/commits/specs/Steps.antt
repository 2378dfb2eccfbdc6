-- The calls of the steps that a commit, a refresh and an insert are made of. Assumes nothing.
use Rattle.std.specs.Prelude.{ℕ, ◌%◌, cond, ◌&&◌, List, [], ◌∷◌, Ok, Err, Result, ◌==◌, nat_lt}
use Rattle.faults.specs.declared.faults.Fault.{Fault}
use Rattle.stores.specs.Calls.{Call, writes}
use Rattle.stores.specs.Outcomes.{Answer}
use Rattle.layouts.specs.Shapes.{sample_blocks}
use Rattle.cards.specs.Cards.{entry_block}
use Rattle.cards.specs.Memories.{Memory}

-- an answer without what an accepted one says
abbrev pub unnumbered : {X : Type 0} → Result X Fault → Answer
unnumbered (Ok x) = Ok tt
unnumbered (Err e) = Err e

-- how many blocks the slots take
abbrev pub sample_blocks_of : Memory → ℕ
sample_blocks_of t = sample_blocks t.head.size

-- the log block in work is written if it is full, and was not when the log had so many entries
abbrev pub full_block_calls : ℕ → Memory → List Call
full_block_calls before t =
    cond (nat_lt before t.head.entries && (t.head.entries % 31 == 0)) (writes (entry_block t.head before) t.work ∷ []) []
