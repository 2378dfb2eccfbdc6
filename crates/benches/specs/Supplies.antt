-- How a supply burns its fuses. Assumes nothing.
use Rattle.std.specs.Prelude.{ℕ, ◌-◌, Bool, true, false, cond, List, [], ◌∷◌, ◌==◌, nat_lt}
use Rattle.benches.specs.declared.power.Power.{Power}
use Rattle.benches.specs.declared.power.Power.TheVariants.{Off, Fuse, Lasting}

-- whether the power is on
abbrev pub is_on : Power → Bool
is_on Off = false
is_on (Fuse n) = true
is_on Lasting = true

-- whether it lasts
abbrev pub is_lasting : Power → Bool
is_lasting Off = false
is_lasting (Fuse n) = false
is_lasting Lasting = true

-- a restart lights the next of the fuses that are left, and past the last the power lasts
abbrev pub started : List ℕ → Power
started [] = Lasting
started (n ∷ ns) = Fuse n

-- whether one more write or flush goes through
abbrev pub goes : Power → Bool
goes Off = false
goes (Fuse n) = nat_lt 0 n
goes Lasting = true

-- a write or a flush goes through, or is cut
abbrev pub spent : Power → Power
spent Off = Off
spent (Fuse n) = cond (n == 0) Off (Fuse (n - 1))
spent Lasting = Lasting
