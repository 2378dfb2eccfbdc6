-- What a store means. Assumes nothing.
use Rattle.std.specs.Prelude.{◌≡◌, ℕ, ◌<◌, ◌≤◌, Bool, true, false, ◌⊎◌, List, length}

-- what a block reads, or what may stand there after a cut: its bytes, or a block that a cut left half written
pub data Content : Type 0 where
  whole : List ℕ → Content
  torn : Content

-- a store's size in blocks, whether it is on, what each block reads, what may stand at each, whether the supply lasts
pub record Meaning : Type 1 where
  pub size : ℕ
  pub on : Bool
  pub reads : ℕ → Content
  pub stands : ℕ → Content → Type 0
  pub lasts : Bool

-- what holds of every value of a store's type, for blocks of `unit` bytes and at most `limit` of them
pub record Lawful (unit limit : ℕ) (m : Meaning) : Type 0 where
  pub limited : m.size ≤ limit
  -- what may stand is never an empty set
  pub some : (b : ℕ) → b < m.size → (c : Content) × m.stands b c
  pub stand_long : (b : ℕ) (bs : List ℕ) → b < m.size → m.stands b (whole bs) → length bs ≡ unit
  pub read_long : (b : ℕ) (bs : List ℕ) → b < m.size → m.reads b ≡ whole bs → length bs ≡ unit

-- torn may stand nowhere
abbrev pub Sound : Meaning → Type 0
Sound m = (b : ℕ) → b < m.size → m.stands b torn → ⊥

-- what a call leaves of soundness: a steady store stays sound once it is
abbrev pub Steadily : Bool → Meaning → Meaning → Type 0
Steadily steady m n = steady ≡ true → Sound m → Sound n

-- at each block what is read may stand, and nothing else
pub record Settled (m : Meaning) : Type 0 where
  pub holds : (b : ℕ) → b < m.size → m.stands b (m.reads b)
  pub only : (b : ℕ) (c : Content) → b < m.size → m.stands b c → c ≡ m.reads b

-- a supply that lasts goes on lasting
abbrev pub Lasting : Meaning → Meaning → Type 0
Lasting m n = m.lasts ≡ true → n.lasts ≡ true

-- nothing changed
pub record Same (m n : Meaning) : Type 0 where
  pub size : n.size ≡ m.size
  pub on : n.on ≡ m.on
  pub reads : (b : ℕ) → b < m.size → n.reads b ≡ m.reads b
  pub fewer : (b : ℕ) (c : Content) → b < m.size → n.stands b c → m.stands b c
  pub more : (b : ℕ) (c : Content) → b < m.size → m.stands b c → n.stands b c
  pub lasts : n.lasts ≡ m.lasts

-- what a call answered 21 leaves: a store that is off, where no more may stand than before and what the call brought
pub record Cut (m n : Meaning) (brought : ℕ → Content → Type 0) : Type 0 where
  pub size : n.size ≡ m.size
  pub off : n.on ≡ false
  pub stands : (b : ℕ) (c : Content) → b < m.size → n.stands b c → m.stands b c ⊎ brought b c
  pub lasts : Lasting m n

-- a call that writes no block brings nothing
abbrev pub Nothing : ℕ → Content → Type 0
Nothing b c = ⊥

-- a write of these bytes to block a brings these bytes and torn, there alone
abbrev pub Written : ℕ → List ℕ → ℕ → Content → Type 0
Written a bytes b c = (b ≡ a) × ((c ≡ whole bytes) ⊎ (c ≡ torn))
