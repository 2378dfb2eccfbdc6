-- What a commit does to a sampler's memory, and which calls it makes below. Assumes nothing.
use Rattle.std.specs.Prelude.{◌*◌, ◌/◌, max, Bool, cond, List, [], ◌∷◌, ◌++◌, nat_lt}
use Rattle.stores.specs.Calls.{Call, writes, flushes}
use Rattle.layouts.specs.Heads.{Fields, fields_bytes}
use Rattle.cards.specs.Cards.{entry_block}
use Rattle.cards.specs.Memories.{Memory}

-- whether the log block in work has an entry that the head on the card does not count
abbrev pub has_uncommitted : Memory → Bool
has_uncommitted t = nat_lt (max t.committed (31 * (t.head.entries / 31))) t.head.entries

-- that block is written then
abbrev pub log_writes : Memory → List Call
log_writes t = cond (has_uncommitted t) (writes (entry_block t.head t.head.entries) t.work ∷ []) []

-- what was written is settled, and then this head
abbrev pub head_calls : Fields → List Call
head_calls h = flushes ∷ writes 0 (fields_bytes h) ∷ flushes ∷ []

-- THE CALLS OF A COMMIT: the log is settled, and then the head
abbrev pub commit_calls : Memory → List Call
commit_calls t = log_writes t ++ head_calls t.head

-- the memory after it: the head on the card counts all entries
abbrev pub all_committed : Memory → Memory
all_committed t = record { head = t.head; committed = t.head.entries; rows = t.rows; logged = t.logged; work = t.work }
