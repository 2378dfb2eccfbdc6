-- Algorithm R's sample of the records counted so far: in the words of its rule, and as a definition that computes.
-- Assumes nothing.
use Rattle.std.specs.Prelude.{◌≡◌, ℕ, zero, suc, ◌+◌, ◌<◌, ◌≤◌, min, Bool, false, cond, List, [], ◌∷◌, ◌++◌, length, Some, None, Option, ◌==◌, ◌≢◌}
use Rattle.std.specs.List.{slice_get}
use Rattle.sampling.specs.Draws.{slot_of}

-- record k of those counted; the first has number 1
abbrev pub numbered : {R : Type 0} → List R → ℕ → Option R
numbered rs zero = None
numbered rs (suc k) = slice_get rs k

-- THE RULE: of the first n records, k is the greatest number that has slot i
pub record Newest (seed size n i k : ℕ) : Type 0 where
  pub from_one : 0 < k
  pub counted : k ≤ n
  pub has_slot : slot_of seed size k ≡ Some i
  pub greatest : (j : ℕ) → k < j → j ≤ n → slot_of seed size j ≢ Some i

-- THE RULE: the sample of the records rs holds r in slot i
pub record Holds {R : Type 0} (seed size : ℕ) (rs : List R) (i : ℕ) (r : R) : Type 0 where
  pub number : ℕ
  pub newest_is : Newest seed size (length rs) i number
  pub record_is : numbered rs number ≡ Some r

-- the same as definitions that compute: whether a slot is i, the newest record with slot i, the record in slot i
abbrev pub is_slot : Option ℕ → ℕ → Bool
is_slot (Some s) i = s == i
is_slot None i = false

unfoldable pub newest : ℕ → ℕ → ℕ → ℕ → Option ℕ
newest seed size i zero = None
newest seed size i (suc n) = cond (is_slot (slot_of seed size (suc n)) i) (Some (suc n)) (newest seed size i n)

abbrev pub numbered_by : {R : Type 0} → List R → Option ℕ → Option R
numbered_by rs None = None
numbered_by rs (Some k) = numbered rs k

abbrev pub sample_at : {R : Type 0} → ℕ → ℕ → List R → ℕ → Option R
sample_at seed size rs i = numbered_by rs (newest seed size i (length rs))

-- THE LAW OF A SAMPLE: the definition says what the rule says, the slots below both the size and the count are just
-- those that are filled, and one more record changes its own slot and no other
pub record SampleLaw (R : Type 0) (seed size : ℕ) : Type 0 where
  pub holds : (rs : List R) (i : ℕ) (r : R) → sample_at seed size rs i ≡ Some r → Holds seed size rs i r
  pub held : (rs : List R) (i : ℕ) (r : R) → Holds seed size rs i r → sample_at seed size rs i ≡ Some r
  pub filled : (rs : List R) (i : ℕ) → i < min (length rs) size → (r : R) × (sample_at seed size rs i ≡ Some r)
  pub unfilled : (rs : List R) (i : ℕ) → min (length rs) size ≤ i → sample_at seed size rs i ≡ None
  pub one_more : (rs : List R) (r : R) (i : ℕ)
      → sample_at seed size (rs ++ r ∷ []) i ≡ cond (is_slot (slot_of seed size (length rs + 1)) i) (Some r) (sample_at seed size rs i)
