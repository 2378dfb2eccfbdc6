-- What an insert does to a sampler's memory, and which call it makes below. Assumes nothing.
use Rattle.std.specs.Prelude.{◌≡◌, ℕ, ◌+◌, ◌*◌, ◌%◌, true, cond, ◌&&◌, ◌||◌, List, [], ◌∷◌, Some, None, Ok, Err, Option, Result, ◌==◌, nat_lt, is_some, is_none, slice_set}
use Rattle.faults.specs.declared.faults.Fault.{Fault}
use Rattle.faults.specs.declared.faults.Reason.TheVariants.{CountAtLimit, LogFull}
use Rattle.sampling.specs.Answers.{refusal}
use Rattle.sampling.specs.Draws.{slot_of}
use Rattle.stores.specs.Calls.{Call, writes}
use Rattle.stores.specs.Outcomes.{Answer}
use Rattle.layouts.specs.Heads.{Fields}
use Rattle.layouts.specs.Entries.{with_entry}
use Rattle.layouts.specs.declared.entries.Entry.{Entry}
use Rattle.cards.specs.Cards.{entry_block}
use Rattle.cards.specs.Memories.{Memory}
use Rattle.cards.specs.Verdicts.{and_then, check}

-- the slot of the record that is counted next, if it has one
abbrev pub next_slot : Memory → Option ℕ
next_slot t = slot_of t.head.seed t.head.size (t.head.count + 1)

-- the tests, in order: a count below its limit; and of a candidate, a log with room
abbrev pub insert_test : Memory → Answer
insert_test t =
    and_then (check (nat_lt t.head.count 4000000000) (refusal CountAtLimit t.head.count))
    (λ _. check (is_none (next_slot t) || nat_lt t.head.entries (31 * t.head.log_blocks)) (refusal LogFull t.head.entries))

-- a head that counts one record more, with so many entries more in its log
abbrev pub grown : ℕ → Fields → Fields
grown more h = record { kind = h.kind; log_blocks = h.log_blocks; size = h.size; seed = h.seed; count = h.count + 1; entries = h.entries + more }

-- the log entry of the record that is counted next
abbrev pub next_entry : Memory → List ℕ → Entry
next_entry t bytes = record { number = t.head.count + 1; bytes = bytes }

-- the memory once this record is counted: one without a slot is only counted, and a candidate has its slot's row and flag,
-- and its entry in the log block in work
abbrev pub inserted : Memory → Option ℕ → List ℕ → Memory
inserted t None bytes = record { head = grown 0 t.head; committed = t.committed; rows = t.rows; logged = t.logged; work = t.work }
inserted t (Some s) bytes = record {
  head = grown 1 t.head;
  committed = t.committed;
  rows = slice_set t.rows s bytes;
  logged = slice_set t.logged s true;
  work = with_entry t.work (t.head.entries % 31) (next_entry t bytes);
}

-- AN INSERT IN MEMORY: what it answers, and the memory afterwards. Where a test refuses it, nothing changes.
abbrev pub InsertsBy : Answer → Memory → List ℕ → Result (Option ℕ) Fault → Memory → Type 0
InsertsBy (Ok done) t bytes r u = (r ≡ Ok (next_slot t)) × (u ≡ inserted t (next_slot t) bytes)
InsertsBy (Err e) t bytes r u = (r ≡ Err e) × (u ≡ t)

-- by the tests of this memory
abbrev pub Inserts : Memory → List ℕ → Result (Option ℕ) Fault → Memory → Type 0
Inserts t bytes r u = InsertsBy (insert_test t) t bytes r u

-- THE CALLS OF AN INSERT: the log block is written when its last entry comes
abbrev pub insert_calls : Memory → List ℕ → List Call
insert_calls t bytes =
    cond (is_some (next_slot t) && (t.head.entries % 31 == 30)) (writes (entry_block t.head t.head.entries) (inserted t (next_slot t) bytes).work ∷ []) []
