-- What mounting a store does. Assumes nothing.
use Rattle.std.specs.Prelude.{◌≡◌, ℕ, ◌⊎◌, List, Ok, Err, Option, Result, MatchResult}
use Rattle.faults.specs.declared.faults.Fault.{Fault}
use Rattle.faults.specs.declared.faults.Layer.{Layer}
use Rattle.stores.specs.Calls.{Call, Response, restarts}
use Rattle.stores.specs.Meanings.{Meaning, Nothing}
use Rattle.stores.specs.Outcomes.{Failed, Restarted}
use Rattle.layouts.specs.Heads.{Fields}
use Rattle.cards.specs.Memories.{Memory, Remembers}
use Rattle.cards.specs.Verdicts.{mount_of}
use Rattle.mounts.specs.Reads.{mount_reads, ReadsFor}

-- the store was restarted, and this is what mounting the card that it now reads answers. Which of what might stand the
-- restart chose is its own.
abbrev pub CardFound : Layer → ℕ → (List ℕ → Option ℕ) → Meaning → Meaning → Result Fields Fault → Type 0
CardFound own code wrong m n r = Restarted m n × (mount_of own m.size code wrong n.reads ≡ r)

-- A MOUNT: accepted, it remembers the card; refused, the card is refused so, or the supply failed in it
abbrev pub MountOutcome : Layer → Layer → ℕ → (List ℕ → Option ℕ) → Meaning → Meaning → Result Memory Fault → Type 0
MountOutcome own source code wrong m n (Ok t) = CardFound own code wrong m n (Ok t.head) × Remembers t.head n.reads t
MountOutcome own source code wrong m n (Err e) = CardFound own code wrong m n (Err e) ⊎ Failed source m n Nothing e

-- the calls that read the card of a store
abbrev pub CardCalls : {S : Type 0} → Layer → ℕ → (List ℕ → Option ℕ) → (S → Call → Response S → Type 0) → (S → Meaning) → S → Result Memory Fault → S → Type 0
CardCalls own code wrong does meaning s answer t =
    let m = meaning s in
    ReadsFor does s (mount_reads own m.size code wrong m.reads) (mount_of own m.size code wrong m.reads) answer t

-- THE CALLS OF A MOUNT: a restart, whose fault is the mount's answer; and then, of the card that the restart left, the blocks
-- that a mount reads
abbrev pub MountCalls : {S : Type 0} → Layer → ℕ → (List ℕ → Option ℕ) → (S → Call → Response S → Type 0) → (S → Meaning) → S → Result Memory Fault → S → Type 0
MountCalls {S} own code wrong does meaning s answer t =
    (w : Response S) × does s restarts w × MatchResult w.answer (λ done. CardCalls own code wrong does meaning w.next answer t) (λ e. (answer ≡ Err e) × (t ≡ w.next))
