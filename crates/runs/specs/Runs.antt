-- A store and a kind as what the law of a sampler is said of, and `AllWent`: calls of a sampler that went one after another.
-- Assumes nothing.
use Rattle.std.specs.Prelude.{◌≡◌, ℕ, Bool, List, [], ◌∷◌, Option}
use Rattle.faults.specs.declared.faults.Layer.{Layer}
use Rattle.stores.specs.Calls.{Call, Response}
use Rattle.stores.specs.Meanings.{Meaning}
use Rattle.ledgers.specs.declared.calls.Answer.{Answer}
use Rattle.ledgers.specs.declared.calls.Call as sampler_calls
use Rattle.laws.specs.Setups.{Setup}
use Rattle.laws.specs.Stages.{Went}
use Rattle.laws.specs.declared.stages.Stage.{Stage}

-- a store and a kind, by their ghost members
abbrev pub setup : {S State K : Type 0} → (S → State) → (State → Meaning) → (State → Call → Response State → Type 0) → Layer → Layer → Bool → ℕ → (K → List ℕ)
    → (List ℕ → Option ℕ) → Setup S State K
setup state meaning does own source steady code bytes wrong = record {
  state = state;
  meaning = meaning;
  does = does;
  own = own;
  source = source;
  steady = steady;
  code = code;
  bytes = bytes;
  wrong = wrong;
}

module _ {S State K : Type 0} (x : Setup S State K) where
  -- THE CALLS OF A SAMPLER, whoever left it, went one after another, each on where the one before ended
  unfoldable pub AllWent : Stage S K → List (sampler_calls.Call K) → List (Answer K) → Stage S K → Type 0
  AllWent t [] [] u = u ≡ t
  AllWent t (c ∷ calls) (a ∷ answers) u = (v : Stage S K) × Went x t c a v × AllWent v calls answers u
  AllWent t calls answers u = ⊥
