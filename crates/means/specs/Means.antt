-- The mean as it is printed. Assumes nothing.
use Rattle.std.specs.Prelude.{ℕ, ◌+◌, ◌*◌, ◌/◌, ◌%◌, Bool, true, false, cond, ◌&&◌, List, ◌++◌, ℤ, pos, negsuc, codes, decimal, ◌==◌, nat_lt}

-- a number's size and whether it is below zero
abbrev pub size_of : ℤ → ℕ
size_of (pos n) = n
size_of (negsuc n) = n + 1

abbrev pub is_negative : ℤ → Bool
is_negative (pos n) = false
is_negative (negsuc n) = true

-- sum / count in thousandths, to the nearest, halves up: the greatest t with t - 1/2 ≤ 1000 × sum / count
abbrev pub thousandths_of : ℕ → ℕ → ℕ
thousandths_of sum count = (2000 * sum + count) / (2 * count)

-- a number of thousandths, with three decimals
abbrev pub pointed : ℕ → List ℕ
pointed t = decimal (t / 1000) ++ (codes "." ++ (decimal (t / 100 % 10) ++ (decimal (t / 10 % 10) ++ decimal (t % 10))))

-- halves away from zero, and no sign before zero
abbrev pub signed_text : Bool → ℕ → List ℕ
signed_text negative t = cond (negative && nat_lt 0 t) (codes "-" ++ pointed t) (pointed t)

abbrev pub mean_text : ℤ → ℕ → List ℕ
mean_text sum count = cond (count == 0) (codes "none") (signed_text (is_negative sum) (thousandths_of (size_of sum) count))
