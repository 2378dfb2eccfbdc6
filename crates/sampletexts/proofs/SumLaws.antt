-- The sum of offsets. Assumes nothing.
use Rattle.std.proofs.Common.{◌≡◌, ℕ, ◌+◌, ◌*◌, ◌<◌, ◌≤◌, SFits, w64, List, [], ◌∷◌, ◌++◌, map, take, length, get_or, ℤ, ◌+ℤ◌, unsigned_abs, sym, ap, ◌∙◌, arith}
use Rattle.std.proofs.lemmas.Int.{ints, fits_signed_from_abs}
use Rattle.std.proofs.lemmas.List.{map_more}
use Rattle.records.specs.Fields.{nanoseconds_of}
use Rattle.records.specs.Offsets.{Fields, offset_fields}
use Rattle.records.specs.declared.offsets.Offset.{Offset}
use Rattle.sampletexts.specs.Sums.{sum_of}

sum_of-last : (xs : List Fields) (x : Fields) → sum_of (xs ++ x ∷ []) ≡ (sum_of xs +ℤ x.2)
sum_of-last [] x = omega (arith, ints)
sum_of-last (y ∷ xs) x = ap (λ z. y.2 +ℤ z) (sum_of-last xs x) ∙ omega (arith, ints)

-- the sum of one offset more
pub sum_more : (offsets : List Offset) (i : ℕ) (o : Offset) → i < length offsets → o ≡ get_or offsets i o
    → sum_of (map offset_fields (take (i + 1) offsets)) ≡ (sum_of (map offset_fields (take i offsets)) +ℤ nanoseconds_of o.nanoseconds)
sum_more offsets i o h e =
    ap sum_of (map_more offset_fields offsets i o h) ∙ sum_of-last (map offset_fields (take i offsets)) (offset_fields (get_or offsets i o))
    ∙ ap (λ x. sum_of (map offset_fields (take i offsets)) +ℤ nanoseconds_of x.nanoseconds) (sym e)

abs_add : (a b : ℤ) → unsigned_abs (a +ℤ b) ≤ unsigned_abs a + unsigned_abs b
abs_add a b = omega (arith, ints)

abs_small : (x : Offset) → unsigned_abs (nanoseconds_of x.nanoseconds) ≤ 500000000
abs_small x = omega (arith, ints)

-- each is half a second at most, to either side
pub sum_small : (xs : List Offset) → unsigned_abs (sum_of (map offset_fields xs)) ≤ 500000000 * length xs
sum_small [] = omega arith
sum_small (x ∷ xs) = omega (arith, sum_small xs, abs_add (nanoseconds_of x.nanoseconds) (sum_of (map offset_fields xs)), abs_small x)

-- so that of 65,535 fits 64 bits
pub sum_fits : (xs : List Offset) → length xs ≤ 65535 → SFits w64 (sum_of (map offset_fields xs))
sum_fits xs h = fits_signed_from_abs w64 _ (omega (arith, sum_small xs))
