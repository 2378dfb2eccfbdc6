-- What an open sampler's memory has to do with its store and with the records counted. Assumes nothing.
use Rattle.std.specs.Prelude.{◌≡◌, ℕ, ◌/◌, ◌%◌, ◌<◌, List, length, Some, is_some, slice_get}
use Rattle.stores.specs.Meanings.{Meaning}
use Rattle.layouts.specs.Entries.{entry_at}
use Rattle.layouts.specs.declared.entries.Entry.{Entry}
use Rattle.cards.specs.Memories.{Memory}
use Rattle.recovery.proofs.Frames.{InLimits, frame}
use Rattle.recovery.proofs.Tellings.{newest_in, sampled}
use Rattle.recovery.proofs.Standings.{AtRest}

-- the lists of a memory are as long as the arrays that they are
pub record Shaped (t : Memory) : Type 0 where
  pub rows : length t.rows ≡ 672
  pub row : (s : ℕ) (bs : List ℕ) → slice_get t.rows s ≡ Some bs → length bs ≡ 12
  pub flags : length t.logged ≡ 672
  pub work : length t.work ≡ 504

-- AN OPEN SAMPLER: its store and its memory are those of the records rs, of which the first n are settled
pub record Open (base : ℕ) (m : Meaning) (t : Memory) (rs : List (List ℕ)) (n : ℕ) : Type 0 where
  -- the rows in the sample blocks, and the log
  pub rows : ℕ → List ℕ
  pub log : ℕ → Entry
  pub limits : InLimits (frame base t)
  pub rest : AtRest (frame base t) m rs n t.committed t.head.entries rows log
  pub shape : Shaped t
  pub count : t.head.count ≡ length rs
  pub held : (s : ℕ) → s < 672 → slice_get t.rows s ≡ Some (sampled (frame base t) rs s)
  pub flagged : (s : ℕ) → s < 672 → slice_get t.logged s ≡ Some (is_some (newest_in (frame base t) log s t.head.entries))
  pub working : (j : ℕ) → j < t.head.entries → j / 31 ≡ t.head.entries / 31 → entry_at t.work (j % 31) ≡ log j
