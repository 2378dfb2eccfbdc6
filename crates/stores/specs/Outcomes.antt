-- What each call of a store does, accepted and refused. Assumes nothing.
use Rattle.std.specs.Prelude.{◌≡◌, ℕ, ◌<◌, ◌≤◌, true, false, ◌⊎◌, List, length, Ok, Err, Result, ◌≢◌}
use Rattle.faults.specs.declared.faults.Fault.{Fault}
use Rattle.faults.specs.declared.faults.Layer.{Layer}
use Rattle.faults.specs.Refusals.{fault}
use Rattle.faults.specs.declared.faults.Reason.TheVariants.{NoSuchBlock, WrongLength, Off, Torn}
use Rattle.stores.specs.Meanings.{Content, whole, torn, Meaning, Settled, Lasting, Same, Cut, Nothing, Written}

-- what a call is answered: accepted, or refused with a fault
abbrev pub Answer : Type 0
Answer = Result (Unit {0}) Fault

-- the answer is this refusal, and nothing changed
abbrev pub Refusal : Meaning → Meaning → Fault → Answer → Type 0
Refusal m n e r = (r ≡ Err e) × Same m n

-- a store that is off says so itself
abbrev pub RefusedOff : Layer → Meaning → Meaning → (ℕ → Content → Type 0) → Answer → Type 0
RefusedOff own m n brought r = (r ≡ Err (fault Off own 0)) × Cut m n brought

-- the supply, which did not last, failed in this call at the layer `source`
pub record Failed (source : Layer) (m n : Meaning) (brought : ℕ → Content → Type 0) (e : Fault) : Type 0 where
  pub is : e ≡ fault Off source 0
  pub supply : m.lasts ≡ false
  pub left : Cut m n brought

-- READ: a block in range, with a buffer of the right length, of a store that is on
abbrev pub ReadServed : Layer → Layer → Meaning → Meaning → ℕ → List ℕ → List ℕ → Answer → Type 0
ReadServed own source m n b before after (Ok done) = (m.reads b ≡ whole after) × Same m n
ReadServed own source m n b before after (Err e) =
    (after ≡ before) × (((e ≡ fault Torn own b) × (m.reads b ≡ torn) × Same m n) ⊎ Failed source m n Nothing e)

-- A READ, by its tests in order: the block is in range, the buffer has the length of a block, the store is on
pub record ReadOutcome (unit : ℕ) (own source : Layer) (m n : Meaning) (b : ℕ) (before after : List ℕ) (r : Answer) : Type 0 where
  pub range : m.size ≤ b → Refusal m n (fault NoSuchBlock own b) r × (after ≡ before)
  pub buffer : b < m.size → (length before ≢ unit) → Refusal m n (fault WrongLength own (length before)) r × (after ≡ before)
  pub off : b < m.size → length before ≡ unit → m.on ≡ false → RefusedOff own m n Nothing r × (after ≡ before)
  pub served : b < m.size → length before ≡ unit → m.on ≡ true → ReadServed own source m n b before after r

-- WRITE: an accepted one, of these bytes to block a
pub record Wrote (m n : Meaning) (a : ℕ) (bytes : List ℕ) : Type 0 where
  pub size : n.size ≡ m.size
  pub on : n.on ≡ true
  pub here : n.reads a ≡ whole bytes
  pub others : (b : ℕ) → b < m.size → (b ≢ a) → n.reads b ≡ m.reads b
  pub stands : (b : ℕ) (c : Content) → b < m.size → n.stands b c → m.stands b c ⊎ Written a bytes b c
  pub lasts : Lasting m n

-- of a block in range, with bytes of the right length, to a store that is on
abbrev pub WriteServed : Layer → Meaning → Meaning → ℕ → List ℕ → Answer → Type 0
WriteServed source m n a bytes (Ok done) = Wrote m n a bytes
WriteServed source m n a bytes (Err e) = Failed source m n (Written a bytes) e

-- A WRITE, by the same tests
pub record WriteOutcome (unit : ℕ) (own source : Layer) (m n : Meaning) (b : ℕ) (bytes : List ℕ) (r : Answer) : Type 0 where
  pub range : m.size ≤ b → Refusal m n (fault NoSuchBlock own b) r
  pub buffer : b < m.size → (length bytes ≢ unit) → Refusal m n (fault WrongLength own (length bytes)) r
  pub off : b < m.size → length bytes ≡ unit → m.on ≡ false → RefusedOff own m n (Written b bytes) r
  pub served : b < m.size → length bytes ≡ unit → m.on ≡ true → WriteServed source m n b bytes r

-- FLUSH: an accepted one
pub record Flushed (m n : Meaning) : Type 0 where
  pub size : n.size ≡ m.size
  pub on : n.on ≡ true
  pub reads : (b : ℕ) → b < m.size → n.reads b ≡ m.reads b
  pub settled : Settled n
  pub lasts : Lasting m n

-- of a store that is on: accepted, or the supply failed
abbrev pub FlushServed : Layer → Meaning → Meaning → Answer → Type 0
FlushServed source m n (Ok done) = Flushed m n
FlushServed source m n (Err e) = Failed source m n Nothing e

-- A FLUSH, by whether the store is on
pub record FlushOutcome (own source : Layer) (m n : Meaning) (r : Answer) : Type 0 where
  pub off : m.on ≡ false → RefusedOff own m n Nothing r
  pub served : m.on ≡ true → FlushServed source m n r

-- RESTART: an accepted one, of a store on or off
pub record Restarted (m n : Meaning) : Type 0 where
  pub size : n.size ≡ m.size
  pub on : n.on ≡ true
  pub reads : (b : ℕ) → b < m.size → m.stands b (n.reads b)
  pub settled : Settled n
  pub lasts : Lasting m n

-- accepted, or the supply failed
abbrev pub RestartOutcome : Layer → Meaning → Meaning → Answer → Type 0
RestartOutcome source m n (Ok done) = Restarted m n
RestartOutcome source m n (Err e) = Failed source m n Nothing e
