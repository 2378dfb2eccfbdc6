-- Fields are their numbers, and the numbers in range are fields. Assumes nothing.
use Rattle.std.specs.Prelude.{◌≡◌, ℕ, Bool, true, false, cond, ℤ, pos, neg_ℤ, ◌≤ℤ◌, Some, None, Option, FitsSigned, option_map, refl}
use Rattle.std.proofs.Common.{arith, ap, negsuc}
use Rattle.std.proofs.Props.{props}
use Rattle.std.specs.Int.{w32}
use mathlib.Core.HLevel.{is_prop→PathP}
use Rattle.std.proofs.lemmas.Int.{ints}
use Rattle.std.proofs.lemmas.Bool.Decides.{nat_tests}
use Rattle.records.specs.Fields.{number_of, second_of, satellite_of, is_within, is_second, is_satellite}
use Rattle.records.specs.declared.fields.InRange.{InRange}
use Rattle.records.specs.declared.wholes.Whole.{Ghosts}
use Rattle.records.specs.contracts.wholes.I32Whole.TheImpl as i32
use Rattle.records.specs.contracts.wholes.U32Whole.TheImpl as u32
use Rattle.records.specs.contracts.wholes.U8Whole.TheImpl as u8

-- an order between whole numbers holds in one way at most
order_prop : (a b : ℤ) → IsProp (a ≤ℤ b)
order_prop a b = hlevel props

module _ {N : Type 0} {below above : ℕ} {w : Ghosts N} where
  -- two fields of one range with the same number are the same
  pub same_number : (r s : InRange N below above w) → number_of r ≡ number_of s → r ≡ s
  same_number r s e = λ i. record {
    number = e i;
    low = is_prop→PathP (λ j. neg_ℤ (pos below) ≤ℤ w.whole (e j)) (λ j. order_prop _ _) r.low s.low i;
    high = is_prop→PathP (λ j. w.whole (e j) ≤ℤ pos above) (λ j. order_prop _ _) r.high s.high i;
  }

  -- a field's number is in its range
  pub number_right : (r : InRange N below above w) → is_within below above (w.whole (number_of r)) ≡ true
  number_right r = let l = r.low in let h = r.high in grind (arith, nat_tests, ints)

-- what the test of a range says
low_range : (below above : ℕ) (z : ℤ) → is_within below above z ≡ true → neg_ℤ (pos below) ≤ℤ z
low_range below above z e = grind (arith, nat_tests, ints)

high_range : (below above : ℕ) (z : ℤ) → is_within below above z ≡ true → z ≤ℤ pos above
high_range below above z e = grind (arith, nat_tests, ints)

-- a number in range is a field's
pub a_field : {N : Type 0} {below above : ℕ} {w : Ghosts N} (n : N) → is_within below above (w.whole n) ≡ true
    → (r : InRange N below above w) × (number_of r ≡ n)
a_field {N} {below} {above} {w} n e =
    (record { number = n; low = low_range below above (w.whole n) e; high = high_range below above (w.whole n) e }, refl)

-- the same of seconds and satellites
pub second_right : (s : InRange ℕ 0 604799 u32.ghosts) → is_second (second_of s) ≡ true
second_right = number_right

pub satellite_right : (s : InRange ℕ 0 31 u8.ghosts) → is_satellite (satellite_of s) ≡ true
satellite_right = number_right

pub a_second : (n : ℕ) → is_second n ≡ true → (s : InRange ℕ 0 604799 u32.ghosts) × (second_of s ≡ n)
a_second = a_field

pub a_satellite : (n : ℕ) → is_satellite n ≡ true → (s : InRange ℕ 0 31 u8.ghosts) × (satellite_of s ≡ n)
a_satellite = a_field

-- nanoseconds fit 32 bits
fits_32 : (z : ℤ) → neg_ℤ (pos 500000000) ≤ℤ z → z ≤ℤ pos 500000000 → FitsSigned w32 z
fits_32 (pos n) l h = record { sfits = omega (arith, ints) }
fits_32 (negsuc n) l h = record { sfits = omega (arith, ints) }

pub nanoseconds_fit : (n : InRange ℤ 500000000 500000000 i32.ghosts) → FitsSigned w32 (number_of n)
nanoseconds_fit n = fits_32 n.number n.low n.high

-- a field that was made of a number has that number
pub made_of : {R A : Type 0} (view : R → A) (o : Option R) (r : R) (b : Bool) (v : A) → o ≡ Some r → option_map view o ≡ cond b (Some v) None → view r ≡ v
made_of view o r true v is e = cc (ap (option_map view) is)
made_of view o r false v is e = cc (ap (option_map view) is)
