-- When rows and the first entries of a log tell a sample. Assumes nothing.
use Rattle.std.specs.Prelude.{◌≡◌, ℕ, zero, suc, ◌<◌, ◌≤◌, cond, List, length, replicate, Some, None, Option, unwrap_or}
use Rattle.sampling.specs.Draws.{slot_of}
use Rattle.sampling.specs.Samples.{numbered, is_slot, sample_at}
use Rattle.layouts.specs.declared.entries.Entry.{Entry}
use Rattle.recovery.proofs.Frames.{Frame}

-- of the first c entries of a log, the record of the newest with slot s
unfoldable pub newest_in : Frame → (ℕ → Entry) → ℕ → ℕ → Option (List ℕ)
newest_in f log s zero = None
newest_in f log s (suc c) = cond (is_slot (slot_of f.seed f.size (log c).number) s) (Some (log c).bytes) (newest_in f log s c)

-- what rows and these entries say of a slot: the record of the newest entry with the slot, else the row
abbrev pub told : Frame → (ℕ → List ℕ) → (ℕ → Entry) → ℕ → ℕ → List ℕ
told f rows log c s = unwrap_or (newest_in f log s c) (rows s)

-- Algorithm R's record in a slot, and zeros where it has none
unfoldable pub sampled : Frame → List (List ℕ) → ℕ → List ℕ
sampled f rs s = unwrap_or (sample_at f.seed f.size rs s) (replicate 12 0)

-- an entry has the record that these records have at its number, a candidate newer than the frame's base
pub record Logged (f : Frame) (rs : List (List ℕ)) (e : Entry) : Type 0 where
  pub record_is : numbered rs e.number ≡ Some e.bytes
  pub slot : ℕ
  pub has_slot : slot_of f.seed f.size e.number ≡ Some slot
  pub newer : f.base < e.number

-- ROWS WITH THE FIRST c ENTRIES OF A LOG TELL THE SAMPLE OF THESE RECORDS
pub record Tells (f : Frame) (rs : List (List ℕ)) (rows : ℕ → List ℕ) (log : ℕ → Entry) (c : ℕ) : Type 0 where
  pub begun : f.base ≤ length rs
  pub logged : (j : ℕ) → j < c → Logged f rs (log j)
  pub ascend : (i j : ℕ) → i < j → j < c → (log i).number < (log j).number
  pub slots : (s : ℕ) → s < f.size → told f rows log c s ≡ sampled f rs s
