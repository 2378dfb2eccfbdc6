-- Calls out of turn. Assumes nothing.
use Rattle.std.proofs.Common.{◌≡◌, ◌⊎◌, inl, inr, refl}
use Rattle.ledgers.specs.declared.calls.Call.{Call}
use Rattle.ledgers.specs.declared.calls.Call.TheVariants.{Mount, Wake}
use Rattle.ledgers.specs.declared.calls.Answer.TheVariants.{OutOfTurn}
use Rattle.samplers.specs.Views.{View}
use Rattle.laws.specs.Setups.{Setup}
use Rattle.laws.specs.Stages.{Went}
use Rattle.laws.specs.declared.stages.Stage.TheVariants.{Waking}

-- a mount or a wake of a sampler that is awake
pub awake_already : {S State K : Type 0} (x : Setup S State K) (v : View S) (c : Call K) → (c ≡ Mount) ⊎ (c ≡ Wake) → Went x (Waking v) c OutOfTurn (Waking v)
awake_already x v c (inl mount) = rw mount (refl, refl)
awake_already x v c (inr wake) = rw wake (refl, refl)
