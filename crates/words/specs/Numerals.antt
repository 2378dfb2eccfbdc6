-- Which words are numbers. Assumes nothing.
use Rattle.std.specs.Prelude.{◌≡◌, ℕ, Bool, true, false, cond, ◌&&◌, List, [], ◌∷◌, Some, None, Option, ◌==◌, nat_le, nat_lt, Result, slice_index}
use Rattle.std.specs.Result.{result_ok}
use Rattle.std.specs.Str.Parse.{digits_value}
use Rattle.std.specs.Char.{digit_value}

-- each byte is a digit in this radix
abbrev pub all_digits : ℕ → List ℕ → Bool
all_digits radix [] = true
all_digits radix (c ∷ cs) = nat_lt (digit_value c) radix && all_digits radix cs

-- a word of digits alone: no sign, and at least one digit
abbrev pub is_numeral : ℕ → List ℕ → Bool
is_numeral radix [] = false
is_numeral radix (c ∷ cs) = all_digits radix (c ∷ cs)

-- the number that a word of digits writes, if it is at most `most`
abbrev pub read_number : ℕ → ℕ → List ℕ → Option ℕ
read_number radix most word = cond (is_numeral radix word && nat_le (digits_value radix word) most) (Some (digits_value radix word)) None

-- the word, unless it begins with a plus sign
abbrev pub plain_word : List ℕ → Option (List ℕ)
plain_word word = cond (slice_index word 0 == 43) None (Some word)

-- r is what `gives` allows for a word with no plus sign in front, and nothing for a word with one
pub record ReadsPlain {N E : Type 0} (gives : List ℕ → Result N E → Type 0) (word : List ℕ) (r : Option N) : Type 0 where
  pub plus : plain_word word ≡ None → r ≡ None
  pub plain : plain_word word ≡ Some word → (q : Result N E) × gives word q × (r ≡ result_ok q)
