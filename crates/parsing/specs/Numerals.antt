-- Which words are seeds and offsets. Assumes nothing.
use Rattle.std.specs.Prelude.{ℕ, cond, ◌&&◌, List, [], ◌∷◌, ℤ, pos, neg_ℤ, Some, None, Option, ◌==◌}
use Rattle.std.specs.Option.{option_map}
use Rattle.words.specs.Numerals.{read_number}

-- what follows 0x, in a word that begins so
abbrev pub after_hex : List ℕ → Option (List ℕ)
after_hex [] = None
after_hex (a ∷ []) = None
after_hex (a ∷ b ∷ rest) = cond (a == 48 && b == 120) (Some rest) None

-- the number in a word, by what follows its 0x, if it has one: hexadecimal there, and else decimal
abbrev pub seed_of : Option (List ℕ) → List ℕ → Option ℕ
seed_of (Some digits) word = read_number 16 0xFFFF_FFFF_FFFF_FFFF digits
seed_of None word = read_number 10 0xFFFF_FFFF_FFFF_FFFF word

-- a seed: a number below 2^64, decimal, or hexadecimal after 0x
abbrev pub read_seed : List ℕ → Option ℕ
read_seed word = seed_of (after_hex word) word

-- what follows a minus sign, in a word that begins with one
abbrev pub after_minus : List ℕ → Option (List ℕ)
after_minus [] = None
after_minus (a ∷ rest) = cond (a == 45) (Some rest) None

-- the number in a word, by what follows its minus sign, if it has one: down to -2^31, and else up to 2^31 - 1
abbrev pub signed_of : Option (List ℕ) → List ℕ → Option ℤ
signed_of (Some digits) word = option_map (λ n. neg_ℤ (pos n)) (read_number 10 0x8000_0000 digits)
signed_of None word = option_map pos (read_number 10 0x7FFF_FFFF word)

-- an offset: a decimal number that a signed number of 32 bits can be
abbrev pub read_offset : List ℕ → Option ℤ
read_offset word = signed_of (after_minus word) word
