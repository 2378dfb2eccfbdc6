-- What a caller sees of a sampler, asleep or awake. Assumes nothing.
use Rattle.std.specs.Prelude.{Option}
use Rattle.cards.specs.Memories.{Memory}

-- its store, and the sample in its memory; a sampler without one is dark, or knows only its store
pub record View (S : Type 0) : Type 0 where
  pub store : S
  pub sample : Option Memory
