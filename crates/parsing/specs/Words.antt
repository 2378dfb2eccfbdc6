-- What a few words say that stand in both kinds of scenario, and what starts one. Assumes nothing.
use Rattle.std.specs.Prelude.{ℕ, cond, List, [], ◌∷◌, Ok, Err, codes, Result}
use Rattle.std.specs.Str.{bytes_eq}
use Rattle.languages.specs.Expecting.{or_else, shown}
use Rattle.parsing.specs.Numerals.{read_seed}
use Rattle.parsing.specs.Records.{read_offset_words}
use Rattle.script.specs.declared.cards.Stack.{Stack}
use Rattle.script.specs.declared.cards.Steady.{Steady}
use Rattle.script.specs.declared.cards.Steady.TheVariants.{Image, MirroredImage, MirroredBench}
use Rattle.script.specs.declared.commands.Command.{Command}
use Rattle.script.specs.declared.commands.Command.TheVariants.{Insert, Slot, Report}
use Rattle.script.specs.declared.expectations.Expected.{Expected}
use Rattle.script.specs.declared.expectations.Expected.TheVariants as expected
use Rattle.words.specs.Numerals.{read_number}

-- goes on with what was read
abbrev pub and_then : {A B : Type 0} → Result A Expected → (A → Result B Expected) → Result B Expected
and_then (Ok x) next = next x
and_then (Err e) next = Err e

-- no words, or else e is expected
abbrev pub read_none : Expected → List (List ℕ) → Result Unit Expected
read_none e [] = Ok tt
read_none e (more ∷ words) = Err e

-- I, a slot
abbrev pub read_slot : List (List ℕ) → Result ℕ Expected
read_slot [] = Err expected.SlotWords
read_slot (slot ∷ []) = or_else (read_number 10 0xFFFF slot) expected.Slot (λ i. Ok i)
read_slot (slot ∷ more ∷ words) = Err expected.SlotWords

-- what is asked of a reservoir, by its name and the words after it
abbrev pub read_command : List ℕ → List (List ℕ) → Result Command Expected
read_command name words =
    cond (bytes_eq name (codes "insert")) (shown (λ x. Insert x.0 x.1 x.2) (read_offset_words words))
    (cond (bytes_eq name (codes "slot")) (shown Slot (read_slot words))
    (cond (bytes_eq name (codes "report")) (shown (λ done. Report) (read_none expected.ReportWords words))
    (Err expected.CommandName)))

-- M SEED
abbrev pub reservoir_numbers : List ℕ → List ℕ → Result (ℕ × ℕ) Expected
reservoir_numbers size seed =
    or_else (read_number 10 0xFFFF size) expected.Size
    (λ m. or_else (read_seed seed) expected.Seed
    (λ s. Ok (m, s)))

-- the words after `reservoir`: two
abbrev pub read_reservoir : List (List ℕ) → Result (ℕ × ℕ) Expected
read_reservoir [] = Err expected.ReservoirWords
read_reservoir (size ∷ []) = Err expected.ReservoirWords
read_reservoir (size ∷ seed ∷ []) = reservoir_numbers size seed
read_reservoir (size ∷ seed ∷ more ∷ words) = Err expected.ReservoirWords

-- a stack of so many blocks of the device
abbrev pub of_blocks : Steady → List ℕ → Result Stack Expected
of_blocks steady blocks = or_else (read_number 10 65536 blocks) expected.Blocks (λ n. Ok (record { steady = steady; blocks = n }))

-- image BLOCKS
abbrev pub plain_stack : List ℕ → List ℕ → Result Stack Expected
plain_stack device blocks = cond (bytes_eq device (codes "image")) (of_blocks Image blocks) (Err expected.StackWords)

-- mirror image BLOCKS, or mirror bench BLOCKS
abbrev pub mirrored_stack : List ℕ → List ℕ → List ℕ → Result Stack Expected
mirrored_stack mirror device blocks =
    cond (bytes_eq mirror (codes "mirror"))
    (cond (bytes_eq device (codes "image")) (of_blocks MirroredImage blocks)
    (cond (bytes_eq device (codes "bench")) (of_blocks MirroredBench blocks) (Err expected.StackWords)))
    (Err expected.StackWords)

-- the words after `stack`: two or three
abbrev pub read_stack : List (List ℕ) → Result Stack Expected
read_stack [] = Err expected.StackWords
read_stack (device ∷ []) = Err expected.StackWords
read_stack (device ∷ blocks ∷ []) = plain_stack device blocks
read_stack (mirror ∷ device ∷ blocks ∷ []) = mirrored_stack mirror device blocks
read_stack (mirror ∷ device ∷ blocks ∷ more ∷ words) = Err expected.StackWords
