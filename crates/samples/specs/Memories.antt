-- A sample of no records, and what the slots of a sample answer. Assumes nothing.
use Rattle.std.specs.Prelude.{◌≡◌, ℕ, false, cond, List, length, [], Ok, Err, Result, nat_lt, slice_index_or, replicate}
use Rattle.faults.specs.declared.faults.Fault.{Fault}
use Rattle.faults.specs.declared.faults.Reason.TheVariants.{NoSuchSlot, EmptySlot}
use Rattle.sampling.specs.Answers.{refusal}
use Rattle.layouts.specs.Heads.{Fields}
use Rattle.cards.specs.Cards.{filled}
use Rattle.cards.specs.Memories.{Memory}

-- the head of a sample of no records
abbrev pub new_head : ℕ → ℕ → ℕ → ℕ → Fields
new_head code size log_blocks seed = record { kind = code; log_blocks = log_blocks; size = size; seed = seed; count = 0; entries = 0 }

-- its memory
abbrev pub blank_memory : ℕ → ℕ → ℕ → ℕ → Memory
blank_memory code size log_blocks seed = record {
  head = new_head code size log_blocks seed;
  committed = 0;
  rows = replicate 672 (replicate 12 0);
  logged = replicate 672 false;
  work = replicate 504 0;
}

-- THE RECORD IN A SLOT, as its bytes: a slot that is none is refused, and one that no record has filled
abbrev pub slot_read : Memory → ℕ → Result (List ℕ) Fault
slot_read t s =
    cond (nat_lt s t.head.size) (cond (nat_lt s (filled t.head)) (Ok (slice_index_or t.rows s [])) (Err (refusal EmptySlot s))) (Err (refusal NoSuchSlot s))

-- the lists in memory are as long as the arrays that they are
pub record Arrays (t : Memory) : Type 0 where
  pub rows : length t.rows ≡ 672
  pub flags : length t.logged ≡ 672
  pub work : length t.work ≡ 504
