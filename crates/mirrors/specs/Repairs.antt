-- How a mirror writes a block, and how its restart makes the two copies of each block alike. Assumes nothing.
use Rattle.std.specs.Prelude.{◌≡◌, ℕ, ◌+◌, ◌<◌, true, false, ◌⊎◌, List, length, Some, None, Ok, Err, Option, Result, ◌≢◌}
use Rattle.faults.specs.declared.faults.Fault.{Fault}
use Rattle.faults.specs.declared.faults.Layer.{Layer}
use Rattle.faults.specs.declared.faults.Reason.TheVariants.{Off}
use Rattle.stores.specs.Meanings.{Content, whole, torn, Meaning, Settled, Lasting, Same, Nothing, Written}
use Rattle.stores.specs.Outcomes.{Answer, Failed}
use Rattle.faults.specs.Refusals.{fault}
use Rattle.mirrors.specs.Mirrors.{either, half, Copies}

-- a write that is served, and settled by a flush
pub record Ready (m : Meaning) (a : ℕ) (bytes : List ℕ) : Type 0 where
  pub range : a < m.size
  pub buffer : length bytes ≡ 504
  pub on : m.on ≡ true

-- what such a write leaves
pub record Stored (m n : Meaning) (a : ℕ) (bytes : List ℕ) : Type 0 where
  pub size : n.size ≡ m.size
  pub on : n.on ≡ true
  pub here : n.reads a ≡ whole bytes
  pub others : (b : ℕ) → b < m.size → (b ≢ a) → n.reads b ≡ m.reads b
  pub settled : Settled n
  pub lasts : Lasting m n

-- what such a write comes to: it is settled, or the supply failed and it may stand or not
abbrev pub StoreOutcome : Layer → Meaning → Meaning → ℕ → List ℕ → Answer → Type 0
StoreOutcome source m n a bytes (Ok done) = Stored m n a bytes
StoreOutcome source m n a bytes (Err e) = Failed source m n (Written a bytes) e

-- a block that reads these bytes, or is torn where there are none
abbrev pub content_of : Option (List ℕ) → Content
content_of (Some bytes) = whole bytes
content_of None = torn

-- what a block reads; nothing changed
abbrev pub Probed : Layer → Meaning → Meaning → ℕ → Result (Option (List ℕ)) Fault → Type 0
Probed source m n b (Ok found) = (m.reads b ≡ content_of found) × Same m n
Probed source m n b (Err e) = Failed source m n Nothing e

-- what two copies read, the second where the first is torn; nothing changed
abbrev pub Both : Layer → Meaning → Meaning → ℕ → ℕ → Result (Option (List ℕ)) Fault → Type 0
Both source m n a b (Ok found) = (either (m.reads a) (m.reads b) ≡ content_of found) × Same m n
Both source m n a b (Err e) = Failed source m n Nothing e

-- the store is on and settled, and has these two blocks.
pub record Twins (m : Meaning) (a b : ℕ) : Type 0 where
  pub on : m.on ≡ true
  pub settled : Settled m
  pub first : a < m.size
  pub second : b < m.size
  pub apart : a < b

-- the two blocks are alike, and the first whole one decided.
pub record Repaired (m n : Meaning) (a b : ℕ) : Type 0 where
  pub size : n.size ≡ m.size
  pub on : n.on ≡ true
  pub settled : Settled n
  pub alike : n.reads a ≡ n.reads b
  pub kept : n.reads a ≡ either (m.reads a) (m.reads b)
  pub others : (i : ℕ) → i < m.size → (i ≢ a) → (i ≢ b) → n.reads i ≡ m.reads i
  pub lasts : Lasting m n

-- what a repair that is cut may bring about.
pub record RepairBrings (m : Meaning) (a b i : ℕ) (c : Content) : Type 0 where
  pub bytes : List ℕ
  pub at : ((m.reads a ≡ whole bytes) × Written b bytes i c) ⊎ ((m.reads a ≡ torn) × (m.reads b ≡ whole bytes) × Written a bytes i c)

-- what a repair comes to: the two blocks are alike, or the supply failed in it
abbrev pub RepairOutcome : Layer → Meaning → Meaning → ℕ → ℕ → Answer → Type 0
RepairOutcome source m n a b (Ok _) = Repaired m n a b
RepairOutcome source m n a b (Err e) = Failed source m n (RepairBrings m a b) e

-- the copies below i are alike, and each block reads in both as before.
pub record Mended (i : ℕ) (m n : Meaning) : Type 0 where
  pub size : n.size ≡ m.size
  pub on : n.on ≡ true
  pub settled : Settled n
  pub done : (b : ℕ) → b < i → n.reads b ≡ n.reads (half m + b)
  pub kept : (b : ℕ) → b < half m → either (n.reads b) (n.reads (half m + b)) ≡ either (m.reads b) (m.reads (half m + b))
  pub lasts : Lasting m n

-- the supply failed, and each block still reads as before after a restart.
pub record MendFailed (source : Layer) (m n : Meaning) (e : Fault) : Type 0 where
  pub is : e ≡ fault Off source 0
  pub supply : m.lasts ≡ false
  pub size : n.size ≡ m.size
  pub off : n.on ≡ false
  pub stands : (b : ℕ) (c : Content) → b < half m → Copies n b c → c ≡ either (m.reads b) (m.reads (half m + b))

-- what the repair of all blocks comes to
abbrev pub MendOutcome : Layer → Meaning → Meaning → Answer → Type 0
MendOutcome source m n (Ok _) = Mended (half m) m n
MendOutcome source m n (Err e) = MendFailed source m n e
