-- Which slots a record can have. Assumes nothing.
use Rattle.std.proofs.Common.{◌≡◌, ℕ, zero, suc, ◌-◌, ◌%◌, ◌<◌, ◌≤◌, cond, ltb, Some, None, sym, refl, ◌∙◌, arith}
use Rattle.std.proofs.lemmas.Bool.{lt-ltb}
use Rattle.std.proofs.lemmas.Bool.Decides.{nat_tests}
use Rattle.sampling.specs.Draws.{draw_of, slot_of, within}

-- no record has the number 0
pub slot_none : (seed size k : ℕ) → k ≡ 0 → slot_of seed size k ≡ None
unfolding slot_of
slot_none seed size k e = rw e refl

pub slot_suc : (seed size j : ℕ) → slot_of seed size (suc j) ≡ cond (ltb j size) (Some j) (within size (draw_of seed (suc j) % suc j))
unfolding slot_of
slot_suc seed size j = refl

-- the same by the record's number
pub slot_from_one : (seed size k : ℕ) → 0 < k → slot_of seed size k ≡ cond (ltb (k - 1) size) (Some (k - 1)) (within size (draw_of seed k % k))
slot_from_one seed size zero h = absurd (omega arith)
slot_from_one seed size (suc j) h = let e : suc j - 1 ≡ j = omega arith in slot_suc seed size j ∙ rw e refl

-- record i + 1 has slot i while the sample fills
pub slot_early : (seed size i : ℕ) → i < size → slot_of seed size (suc i) ≡ Some i
slot_early seed size i h = slot_suc seed size i ∙ rw (lt-ltb i size h) refl

below : (size j r i : ℕ) → cond (ltb j size) (Some j) (within size r) ≡ Some i → i < size
below size j r i e = grind (arith, nat_tests)

-- a record's slot is one of the sample's
pub slot_below : (seed size k i : ℕ) → slot_of seed size k ≡ Some i → i < size
slot_below seed size zero i e = cc (slot_none seed size 0 refl)
slot_below seed size (suc j) i e = below size j _ i (sym (slot_suc seed size j) ∙ e)

counted : (size j r i : ℕ) → r ≤ j → cond (ltb j size) (Some j) (within size r) ≡ Some i → i < suc j
counted size j r i h e = grind (arith, nat_tests)

-- and is below the record's number
pub slot_counted : (seed size k i : ℕ) → slot_of seed size k ≡ Some i → i < k
slot_counted seed size zero i e = cc (slot_none seed size 0 refl)
slot_counted seed size (suc j) i e = counted size j _ i (omega arith) (sym (slot_suc seed size j) ∙ e)
