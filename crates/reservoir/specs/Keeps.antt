-- Which records a reservoir keeps the sample of. Assumes nothing.
use Rattle.std.specs.Prelude.{◌≡◌, ℕ, ◌<◌, cond, List, [], length, Some, None, Option, Result, MatchResult, slice_index_or, slice_set}
use Rattle.faults.specs.declared.faults.Fault.{Fault}
use Rattle.faults.specs.declared.faults.Reason.TheVariants.{OutOfLimits}
use Rattle.sampling.specs.Answers.{is_size, refusal}
use Rattle.sampling.specs.Samples.{sample_at}
use Rattle.reservoir.specs.declared.reservoirs.Reservoir.{Reservoir}

-- the rows below the size are the sample's
abbrev pub Rows : {K : Type 0} → ℕ → ℕ → List K → List (Option K) → Type 0
Rows seed size rs rows = (i : ℕ) → i < size → slice_index_or rows i None ≡ sample_at seed size rs i

-- a reservoir with this seed and size keeps the sample of just the records rs
pub record Keeps {K : Type 0} (seed size : ℕ) (rs : List K) (r : Reservoir K) : Type 0 where
  pub seed_is : r.seed ≡ seed
  pub size_is : r.size ≡ size
  pub count_is : r.count ≡ length rs
  pub rows_are : Rows seed size rs r.rows

-- what is so of whatever a reservoir keeps: of the seed, the size and the records
abbrev pub OfKept : {K : Type 0} → Reservoir K → (ℕ → ℕ → List K → Type 0) → Type 0
OfKept {K} r Fact = (seed size : ℕ) (rs : List K) → Keeps seed size rs r → Fact seed size rs

-- a new one keeps the sample of no records, and is refused a size out of limits
abbrev pub Made : {K : Type 0} → ℕ → ℕ → Result (Reservoir K) Fault → Type 0
Made seed size r = cond (is_size size) (MatchResult r (λ s. Keeps seed size [] s) (λ _. ⊥)) (MatchResult r (λ _. ⊥) (λ f. f ≡ refusal OutOfLimits size))

-- the rows with a record in its slot, if it has one
abbrev pub placed : {K : Type 0} → List (Option K) → Option ℕ → K → List (Option K)
placed rows None x = rows
placed rows (Some s) x = slice_set rows s (Some x)
