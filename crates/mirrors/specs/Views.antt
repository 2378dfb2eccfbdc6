-- What a caller sees of a mirror. Assumes nothing.
use Rattle.std.specs.Prelude.{Bool}

-- the store below, and whether the mirror is on
pub record View (S : Type 0) : Type 0 where
  pub below : S
  pub on : Bool

-- a mirror's, by that of the store below
abbrev pub state_of : {S T : Type 0} → (S → T) → View S → View T
state_of state v = record { below = state v.below; on = v.on }
