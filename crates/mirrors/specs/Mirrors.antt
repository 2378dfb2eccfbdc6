-- What a mirror means, by what the store below it means. Assumes nothing.
use Rattle.std.specs.Prelude.{◌≡◌, ℕ, ◌+◌, ◌/◌, ◌<◌, Bool, true}
use Rattle.stores.specs.Meanings.{Content, whole, torn, Meaning, Settled}

-- the first copy, or the second if the first is torn
abbrev pub either : Content → Content → Content
either (whole bs) d = whole bs
either torn d = d

-- half of the blocks below, rounded down
abbrev pub half : Meaning → ℕ
half m = m.size / 2

-- c is what a block reads of some first and some second copy that may stand below
pub record Copies (m : Meaning) (b : ℕ) (c : Content) : Type 0 where
  pub first : Content
  pub second : Content
  pub at_first : m.stands b first
  pub at_second : m.stands (half m + b) second
  pub is : c ≡ either first second

-- a mirror over a store of this meaning: its blocks are half of those below, and what each reads is what its copies read
abbrev pub mirror_meaning : Bool → Meaning → Meaning
mirror_meaning on m = record {
  size = half m;
  on = on;
  reads = λ b. either (m.reads b) (m.reads (half m + b));
  stands = λ b c. Copies m b c;
  lasts = m.lasts;
}

-- while a mirror is on, the store below is on and settled, and both copies of each block read the same
pub record Paired (m : Meaning) : Type 0 where
  pub on : m.on ≡ true
  pub settled : Settled m
  pub agree : (b : ℕ) → b < half m → m.reads b ≡ m.reads (half m + b)
