-- What a call's name and the words after it say. Assumes nothing.
use Rattle.std.specs.Prelude.{ℕ, cond, List, [], ◌∷◌, Ok, Err, codes, Result}
use Rattle.std.specs.Str.{bytes_eq}
use Rattle.languages.specs.Expecting.{or_else}
use Rattle.words.specs.Numerals.{read_number}
use Rattle.storescript.specs.declared.calls.Call.{Call}
use Rattle.storescript.specs.declared.calls.Call.TheVariants.{Restart, Flush, Read, Write}
use Rattle.storescript.specs.declared.expectations.Expected.{Expected}
use Rattle.storescript.specs.declared.expectations.Expected.TheVariants as expected

-- a call that no word follows
abbrev pub read_alone : Expected → Call → List (List ℕ) → Result Call Expected
read_alone e call [] = Ok call
read_alone e call (more ∷ words) = Err e

-- `read` B
abbrev pub read_of : List ℕ → Result Call Expected
read_of block = or_else (read_number 10 0xFFFF_FFFF block) expected.Block (λ b. Ok (Read b))

-- the words after `read`: one
abbrev pub read_read : List (List ℕ) → Result Call Expected
read_read [] = Err expected.ReadWords
read_read (block ∷ []) = read_of block
read_read (block ∷ more ∷ words) = Err expected.ReadWords

-- `write` B V
abbrev pub write_of : List ℕ → List ℕ → Result Call Expected
write_of block value =
    or_else (read_number 10 0xFFFF_FFFF block) expected.Block
    (λ b. or_else (read_number 10 0xFF value) expected.Value
    (λ v. Ok (Write b v)))

-- the words after `write`: two
abbrev pub read_write : List (List ℕ) → Result Call Expected
read_write [] = Err expected.WriteWords
read_write (block ∷ []) = Err expected.WriteWords
read_write (block ∷ value ∷ []) = write_of block value
read_write (block ∷ value ∷ more ∷ words) = Err expected.WriteWords

-- a call, by its name and the words after it
abbrev pub read_call : List ℕ → List (List ℕ) → Result Call Expected
read_call name words =
    cond (bytes_eq name (codes "restart")) (read_alone expected.RestartWords Restart words)
    (cond (bytes_eq name (codes "flush")) (read_alone expected.FlushWords Flush words)
    (cond (bytes_eq name (codes "read")) (read_read words)
    (cond (bytes_eq name (codes "write")) (read_write words)
    (Err expected.CommandName))))
