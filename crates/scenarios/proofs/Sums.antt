-- The sum of a report's rows. Assumes nothing.
use Rattle.std.proofs.Common.{◌≡◌, ℕ, ◌+◌, ◌*◌, ◌^◌, ◌<◌, ◌≤◌, List, [], ◌∷◌, map, length, ℤ, pos, ◌+ℤ◌, unsigned_abs, fold, ◌∙◌, arith, w64, SFits}
use Rattle.std.proofs.lemmas.Int.{ints, fits_signed_from_abs}
use Rattle.std.proofs.lemmas.List.Sums.{sum_by-cons}
use Rattle.std.specs.List.{sum}
use Rattle.records.specs.Fields.{nanoseconds_of}
use Rattle.scenarios.specs.Replies.{sum_of}
use Rattle.scenarios.specs.Answering.{row_of}
use Rattle.scenarios.specs.declared.answers.Row.{Row}

-- a row's nanoseconds
abbrev pub nanoseconds_in : Row → ℤ
nanoseconds_in r = nanoseconds_of r.offset.nanoseconds

abs_add : (a b : ℤ) → unsigned_abs (a +ℤ b) ≤ unsigned_abs a + unsigned_abs b
abs_add a b = omega (arith, ints)

abs_small : (r : Row) → unsigned_abs (nanoseconds_in r) ≤ 500000000
abs_small r = omega (arith, ints)

-- a signed sum is at most the sum of its terms' sizes
abs_sum : (a : ℤ) (n : ℕ) (xs : List ℤ) → unsigned_abs a ≤ n → unsigned_abs (fold ◌+ℤ◌ a xs) ≤ fold (λ m x. m + unsigned_abs x) n xs
abs_sum a n [] h = h
abs_sum a n (x ∷ xs) h = abs_sum (a +ℤ x) (n + unsigned_abs x) xs (omega (arith, abs_add a x))

pub sum_fits : (xs : List ℤ) → fold (λ m x. m + unsigned_abs x) 0 xs < 2 ^ 63 → SFits w64 (fold ◌+ℤ◌ (pos 0) xs)
sum_fits xs h = fits_signed_from_abs w64 _ (omega (arith, abs_sum (pos 0) 0 xs (omega arith)))

pub sizes_small : (rows : List Row) → sum (map (λ r. unsigned_abs (nanoseconds_in r)) rows) ≤ 500000000 * length rows
sizes_small [] = omega arith
sizes_small (r ∷ rows) = omega (arith, sizes_small rows, abs_small r, sum_by-cons (λ x. x) (unsigned_abs (nanoseconds_in r)) (map (λ x. unsigned_abs (nanoseconds_in x)) rows))

-- the rows' sum, from any start
sum_from : (a : ℤ) (rows : List Row) → fold ◌+ℤ◌ a (map nanoseconds_in rows) ≡ (a +ℤ sum_of (map row_of rows))
sum_from a [] = omega (arith, ints)
sum_from a (r ∷ rows) = sum_from (a +ℤ nanoseconds_in r) rows ∙ omega (arith, ints)

pub sum_is : (rows : List Row) → fold ◌+ℤ◌ (pos 0) (map nanoseconds_in rows) ≡ sum_of (map row_of rows)
sum_is rows = sum_from (pos 0) rows ∙ omega (arith, ints)
