-- What the words after `fuses` and `choices` say. Assumes nothing.
use Rattle.std.specs.Prelude.{ℕ, List, [], Result}
use Rattle.words.specs.Lists.{read_all}
use Rattle.words.specs.Numerals.{read_number}
use Rattle.storescript.specs.declared.expectations.Expected.{Expected}
use Rattle.storescript.specs.declared.expectations.Expected.TheVariants.{Fuse, Choice}

-- the words after `fuses`
abbrev pub read_fuses : List (List ℕ) → Result (List ℕ) Expected
read_fuses words = read_all (read_number 10 0xFFFF_FFFF) Fuse [] words

-- the words after `choices`
abbrev pub read_choices : List (List ℕ) → Result (List ℕ) Expected
read_choices words = read_all (read_number 10 0xFF) Choice [] words
