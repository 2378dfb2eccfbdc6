-- Stores of zeros, as they are made. Assumes nothing.
use Rattle.std.specs.Prelude.{ℕ, ◌*◌, false, List, [], replicate}
use Rattle.images.specs.Images as images
use Rattle.benches.specs.Views.{Contents}
use Rattle.benches.specs.declared.power.Power.TheVariants.{Off}
use Rattle.mirrors.specs.Views.{View}

-- an image of zeros with room for this many blocks, off
abbrev pub zero_image : ℕ → images.View
zero_image blocks = record { bytes = replicate (504 * blocks) 0; on = false }

-- a bench of zeros with room for this many blocks, off, with these fuses and these choices
abbrev pub zero_bench : ℕ → List ℕ → List ℕ → Contents
zero_bench blocks fuses choices = record { mem = replicate (505 * blocks) 0; held = []; fuses = fuses; power = Off; left = choices }

-- a mirror over this, off
abbrev pub off_over : {S : Type 0} → S → View S
off_over below = record { below = below; on = false }

-- what is seen of a mirror, where `state` sees the store below it
abbrev pub mirror_seen : {S T : Type 0} → (S → T) → View S → View T
mirror_seen state mirror = record { below = state mirror.below; on = mirror.on }
