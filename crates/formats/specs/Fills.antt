-- What writing the same bytes to blocks side by side, and settling them, does. Assumes nothing.
use Rattle.std.specs.Prelude.{◌≡◌, ℕ, zero, suc, ◌+◌, ◌<◌, ◌≤◌, true, ◌⊎◌, List, [], ◌∷◌, ◌++◌, Ok, Err}
use Rattle.faults.specs.declared.faults.Layer.{Layer}
use Rattle.stores.specs.Calls.{Call, writes, flushes}
use Rattle.stores.specs.Meanings.{Content, whole, torn, Meaning, Settled, Lasting}
use Rattle.stores.specs.Outcomes.{Answer, Failed}

-- these bytes are written to n blocks, from the first on in ascending order
unfoldable pub fill_writes : ℕ → ℕ → List ℕ → List Call
fill_writes first zero bytes = []
fill_writes first (suc i) bytes = fill_writes first i bytes ++ (writes (first + i) bytes ∷ [])

-- and then settled
abbrev pub fill_calls : ℕ → ℕ → List ℕ → List Call
fill_calls first n bytes = fill_writes first n bytes ++ (flushes ∷ [])

-- what this brings if it is cut: the bytes and torn, at each of the n blocks from the first on
abbrev pub Filling : ℕ → ℕ → List ℕ → ℕ → Content → Type 0
Filling first n bytes b c = (first ≤ b) × (b < first + n) × ((c ≡ whole bytes) ⊎ (c ≡ torn))

-- the n blocks from the first on read these bytes, and the others read as before
pub record Filled (first n : ℕ) (bytes : List ℕ) (m k : Meaning) : Type 0 where
  pub size : k.size ≡ m.size
  pub on : k.on ≡ true
  pub here : (b : ℕ) → first ≤ b → b < first + n → k.reads b ≡ whole bytes
  pub below : (b : ℕ) → b < m.size → b < first → k.reads b ≡ m.reads b
  pub above : (b : ℕ) → b < m.size → first + n ≤ b → k.reads b ≡ m.reads b
  pub lasts : Lasting m k

-- accepted, they have the bytes, and all is settled; refused, the supply failed in it
abbrev pub FillOutcome : Layer → ℕ → ℕ → List ℕ → Meaning → Meaning → Answer → Type 0
FillOutcome source first n bytes m k (Ok done) = Filled first n bytes m k × Settled k
FillOutcome source first n bytes m k (Err e) = Failed source m k (Filling first n bytes) e
