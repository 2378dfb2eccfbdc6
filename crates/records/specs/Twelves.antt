-- Lists of twelve bytes, and what reading a record's own answers. Assumes nothing.
use Rattle.std.specs.Prelude.{◌≡◌, ℕ, ◌+◌, ◌*◌, ◌/◌, ◌%◌, ◌^◌, ◌<◌, Bool, true, List, [], ◌∷◌, length, Some, None, Ok, Option, Result, slice_index, refl}
use Rattle.std.proofs.Common.{arith, sym, ◌∙◌, ap, lit<}
use Rattle.std.proofs.lemmas.Bool.Decides.{nat_tests}
use Rattle.std.specs.List.{AllByRecursion}
use Rattle.std.proofs.lemmas.List.Elements.{All-get_or, All-from_recursion}
use Rattle.std.proofs.lemmas.List.FromFn.{fill_by_all}
use Rattle.faults.specs.declared.faults.Fault.{Fault}
use Rattle.records.specs.Bytes.{four, four_at, Twelve}
use Rattle.records.specs.Reading.{first_wrong, judged, read_as}

-- a list of twelve is its elements in a row
pub in_row : (bs : List ℕ) → length bs ≡ 12
    → slice_index bs 0 ∷ slice_index bs 1 ∷ slice_index bs 2 ∷ slice_index bs 3 ∷ slice_index bs 4 ∷ slice_index bs 5 ∷ slice_index bs 6 ∷ slice_index bs 7
    ∷ slice_index bs 8 ∷ slice_index bs 9 ∷ slice_index bs 10 ∷ slice_index bs 11 ∷ [] ≡ bs
in_row bs long = sym (fill_by_all (slice_index bs) bs 12 0 long (λ k h. refl))

-- a number's four bytes make that number
pub four_back : (n : ℕ) → n < 2 ^ 32 → (n / 16777216 % 256) * 16777216 + (n / 65536 % 256) * 65536 + (n / 256 % 256) * 256 + n % 256 ≡ n
four_back n h = omega arith

-- what four bytes make fits 32 bits, and has those bytes
pub four_lt : (a b c d : ℕ) → a < 256 → b < 256 → c < 256 → d < 256 → a * 16777216 + b * 65536 + c * 256 + d < 2 ^ 32
four_lt a b c d ha hb hc hd = omega arith

pub four_of : (a b c d : ℕ) → a < 256 → b < 256 → c < 256 → d < 256 → (rest : List ℕ)
    → four (a * 16777216 + b * 65536 + c * 256 + d) rest ≡ a ∷ b ∷ c ∷ d ∷ rest
four_of a b c d ha hb hc hd rest = grind arith

-- twelve bytes are those of the number that the first four make, and the others
pub four_first : (bs : List ℕ) → Twelve bs
    → four (four_at bs 0) (slice_index bs 4 ∷ slice_index bs 5 ∷ slice_index bs 6 ∷ slice_index bs 7 ∷ slice_index bs 8 ∷ slice_index bs 9 ∷ slice_index bs 10 ∷ slice_index bs 11 ∷ []) ≡ bs
four_first bs t = four_of _ _ _ _ (t.small 0 (lit< tt)) (t.small 1 (lit< tt)) (t.small 2 (lit< tt)) (t.small 3 (lit< tt)) _ ∙ in_row bs t.long

-- twelve bytes that are all small are a record's
pub twelve_of : (bs : List ℕ) → length bs ≡ 12 → AllByRecursion (λ b. b < 256) bs → Twelve bs
twelve_of bs long all =
    record { long = long; small = λ i l. All-get_or (λ b. b < 256) bs i 0 (rw long l) (All-from_recursion (λ b. b < 256) bs all) }

-- where none of four fields is wrong, each is right
pub each_right : (a b c d : Bool) (i j k l : ℕ) → first_wrong ((a, i) ∷ (b, j) ∷ (c, k) ∷ (d, l) ∷ []) ≡ None
    → (a ≡ true) × (b ≡ true) × (c ≡ true) × (d ≡ true)
each_right a b c d i j k l none = grind (arith, nat_tests)

-- bytes that are a record's are read as it
pub reads_own : {R : Type 0} (bytes : R → List ℕ) (wrong : List ℕ → Option ℕ) (r : R) (bs : List ℕ)
    → length bs ≡ 12 → bytes r ≡ bs → wrong (bytes r) ≡ None → ◌≡◌ {A = Result (List ℕ) Fault} (Ok (bytes r)) (read_as wrong bs)
reads_own bytes wrong r bs long e none = let n : wrong bs ≡ None = ap wrong (sym e) ∙ none in rw (long, n) (ap Ok e)

-- what was accepted is what was asked for
pub made_is : {A : Type 0} (o : Option ℕ) (x y : A) → ◌≡◌ {A = Result A Fault} (Ok x) (judged o y) → x ≡ y
made_is None x y e = cc
made_is (Some p) x y e = cc
