-- What a refresh does to a sampler's memory, and which calls it makes below. Assumes nothing.
use Rattle.std.specs.Prelude.{ℕ, zero, suc, ◌+◌, ◌*◌, Bool, false, cond, ◌||◌, List, [], ◌∷◌, ◌++◌, take, drop, replicate, ◌==◌}
use Rattle.stores.specs.Calls.{Call, writes}
use Rattle.layouts.specs.Shapes.{sample_blocks}
use Rattle.layouts.specs.Heads.{Fields}
use Rattle.cards.specs.Memories.{Memory}
use Rattle.workings.specs.Commits.{head_calls, commit_calls}

-- the 42 of a list that belong to a sample block, counted from 0
abbrev pub of_block : {A : Type 0} → List A → ℕ → List A
of_block xs b = take 42 (drop (42 * b) xs)

-- whether one of these slots has an entry
unfoldable pub any : List Bool → Bool
any [] = false
any (x ∷ xs) = x || any xs

-- the bytes of these rows, one after another
unfoldable pub joined : List (List ℕ) → List ℕ
joined [] = []
joined (x ∷ xs) = x ++ joined xs

-- whether a sample block holds a slot of the log
abbrev pub touched : Memory → ℕ → Bool
touched t b = any (of_block t.logged b)

-- this sample block, counted from 0, is written with its rows if it holds one
abbrev pub row_write : Memory → ℕ → List Call
row_write t b = cond (touched t b) (writes (1 + b) (joined (of_block t.rows b)) ∷ []) []

-- the first n sample blocks are written so, once each and ascending
unfoldable pub row_writes : Memory → ℕ → List Call
row_writes t zero = []
row_writes t (suc b) = row_writes t b ++ row_write t b

-- how many of them are written
unfoldable pub touched_blocks : Memory → ℕ → ℕ
touched_blocks t zero = 0
touched_blocks t (suc b) = touched_blocks t b + cond (touched t b) 1 0

-- a head with an empty log
abbrev pub emptied : Fields → Fields
emptied h = record { kind = h.kind; log_blocks = h.log_blocks; size = h.size; seed = h.seed; count = h.count; entries = 0 }

-- the log is emptied: the sample blocks that hold a slot of it are written and settled, and then the head with an empty log
abbrev pub emptying_calls : Memory → List Call
emptying_calls t = row_writes t (sample_blocks t.head.size) ++ head_calls (emptied t.head)

-- THE CALLS OF A REFRESH: a commit; and where the log has an entry, it is emptied
abbrev pub refresh_calls : Memory → List Call
refresh_calls t = commit_calls t ++ cond (t.head.entries == 0) [] (emptying_calls t)

-- its answer: how many sample blocks it wrote
abbrev pub refresh_answer : Memory → ℕ
refresh_answer t = cond (t.head.entries == 0) 0 (touched_blocks t (sample_blocks t.head.size))

-- the memory after it: the log is empty, on the card too
abbrev pub refreshed : Memory → Memory
refreshed t = record { head = emptied t.head; committed = 0; rows = t.rows; logged = replicate 672 false; work = t.work }
