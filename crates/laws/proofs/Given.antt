-- What the proof of the law stands on: what each call makes of an open sampler. Assumes nothing.
use Rattle.std.proofs.Common.{◌≡◌, ℕ, ◌++◌, ◌^◌, ◌<◌, ◌≤◌, ◌⊎◌, true, List, [], ◌∷◌, length, take, slice_get, Some, None, Option, Ok, Err}
use Rattle.faults.specs.declared.faults.Fault.{Fault}
use Rattle.records.specs.Bytes.{Twelve}
use Rattle.stores.specs.Calls.{Call}
use Rattle.stores.specs.Meanings.{Meaning, Lawful, Sound}
use Rattle.stores.specs.Outcomes.{Answer}
use Rattle.layouts.specs.Shapes.{shape_of, blocks}
use Rattle.cards.specs.Memories.{Memory}
use Rattle.formats.specs.Formats.{Formatted}
use Rattle.mounts.specs.Mounts.{MountOutcome}
use Rattle.samples.specs.Memories.{new_head, blank_memory}
use Rattle.traces.specs.Traces.{Trace}
use Rattle.workings.specs.Inserts.{next_slot, insert_test, inserted, insert_calls}
use Rattle.workings.specs.Commits.{commit_calls, all_committed}
use Rattle.workings.specs.Refreshes.{refresh_calls, refreshed}
use Rattle.recovery.proofs.Frames.{Frame, frame, frame_blocks}
use Rattle.recovery.proofs.Recoveries.{Safe, Lost, Goes}
use Rattle.recovery.proofs.Opens.{Open}
use Rattle.samples.specs.Memories.{Arrays}
use Rattle.laws.specs.Setups.{Setup, meant}

-- each of these is a record's bytes
abbrev pub AllRight : (List ℕ → Option ℕ) → List (List ℕ) → Type 0
AllRight wrong rs = (i : ℕ) (bs : List ℕ) → slice_get rs i ≡ Some bs → (length bs ≡ 12) × (wrong bs ≡ None)

-- an accepted mount is of one of the two lists that the card may recover to
pub record Remounted (f : Frame) (m n : Meaning) (t : Memory) (settled waiting : List (List ℕ)) : Type 0 where
  pub records : List (List ℕ)
  pub which : (records ≡ settled) ⊎ (records ≡ waiting)
  pub opens : Open f.base n t records (length records)
  pub same : frame f.base t ≡ f
  pub goes : Goes m n

module _ {S State K : Type 0} where
  -- what holds of every steady store and of every kind
  pub record LawfulSetup (x : Setup S State K) : Type 0 where
    pub steady : x.steady ≡ true
    pub stores : (s : S) → Lawful 504 65536 (meant x s)
    pub coded : (0 < x.code) × (x.code < 256)
    pub twelve : (k : K) → Twelve (x.bytes k)
    pub right : (k : K) → x.wrong (x.bytes k) ≡ None
    pub own_bytes : (k l : K) → x.bytes k ≡ x.bytes l → k ≡ l

module _ {S State K : Type 0} (x : Setup S State K) where
  abbrev pub Made : State → List Call → Answer → State → Type 0
  Made s cs r u = Trace x.does x.meaning x.own x.source x.steady s cs r u

  -- WHAT EACH CALL MAKES of an open sampler
  pub record Given : Type 1 where
    pub safe : (base n : ℕ) (m : Meaning) (t : Memory) (rs : List (List ℕ)) → Open base m t rs n → Safe (frame base t) m (take n rs) (take n rs)
    pub committed : (base n : ℕ) (t : Memory) (rs : List (List ℕ)) (s u : State) → Open base (x.meaning s) t rs n → Sound (x.meaning s)
        → Made s (commit_calls t) (Ok tt) u → Open base (x.meaning u) (all_committed t) rs (length rs) × Goes (x.meaning s) (x.meaning u)
    pub commit_lost : (base n : ℕ) (t : Memory) (rs : List (List ℕ)) (s u : State) (e : Fault) → Open base (x.meaning s) t rs n → Sound (x.meaning s)
        → Made s (commit_calls t) (Err e) u → Lost (frame base t) x.source (x.meaning s) (x.meaning u) (take n rs) rs e
    pub emptied : (base n : ℕ) (t : Memory) (rs : List (List ℕ)) (s u : State) → Open base (x.meaning s) t rs n → Sound (x.meaning s)
        → Made s (refresh_calls t) (Ok tt) u → Open (length rs) (x.meaning u) (refreshed t) rs (length rs) × Goes (x.meaning s) (x.meaning u)
    pub refresh_lost : (base n : ℕ) (t : Memory) (rs : List (List ℕ)) (s u : State) (e : Fault) → Open base (x.meaning s) t rs n → Sound (x.meaning s)
        → Made s (refresh_calls t) (Err e) u → Lost (frame base t) x.source (x.meaning s) (x.meaning u) (take n rs) rs e
    pub added : (base n : ℕ) (t : Memory) (rs : List (List ℕ)) (s u : State) (bs : List ℕ) → Open base (x.meaning s) t rs n → Sound (x.meaning s)
        → Twelve bs → insert_test t ≡ Ok tt → Made s (insert_calls t bs) (Ok tt) u
        → Open base (x.meaning u) (inserted t (next_slot t) bs) (rs ++ bs ∷ []) n × Goes (x.meaning s) (x.meaning u)
    pub insert_lost : (base n : ℕ) (t : Memory) (rs : List (List ℕ)) (s u : State) (bs : List ℕ) (e : Fault) → Open base (x.meaning s) t rs n → Sound (x.meaning s)
        → Twelve bs → insert_test t ≡ Ok tt → Made s (insert_calls t bs) (Err e) u
        → Lost (frame base t) x.source (x.meaning s) (x.meaning u) (take n rs) (take n rs) e
    pub blank : (s u : S) (size log_blocks seed : ℕ) → shape_of size log_blocks ≡ Ok (size, log_blocks) → blocks size log_blocks ≤ (meant x s).size → seed < 2 ^ 64
        → Formatted (meant x s) (meant x u) (new_head x.code size log_blocks seed) → Sound (meant x u) → Open 0 (meant x u) (blank_memory x.code size log_blocks seed) [] 0
    pub remounted : (f : Frame) (s u : S) (t : Memory) (settled waiting : List (List ℕ)) → Safe f (meant x s) settled waiting → Sound (meant x s) → frame_blocks f ≤ (meant x s).size
        → AllRight x.wrong settled → AllRight x.wrong waiting → f.kind ≡ x.code → Arrays t → MountOutcome x.own x.source x.code x.wrong (meant x s) (meant x u) (Ok t)
        → Remounted f (meant x s) (meant x u) t settled waiting
    pub mount_lost : (f : Frame) (s u : S) (e : Fault) (settled waiting : List (List ℕ)) → Safe f (meant x s) settled waiting → Sound (meant x s) → frame_blocks f ≤ (meant x s).size
        → AllRight x.wrong settled → AllRight x.wrong waiting → f.kind ≡ x.code → MountOutcome x.own x.source x.code x.wrong (meant x s) (meant x u) (Err e)
        → Lost f x.source (meant x s) (meant x u) settled waiting e
