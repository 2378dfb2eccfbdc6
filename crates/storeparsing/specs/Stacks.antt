-- What the words after `stack` say. Assumes nothing.
use Rattle.std.specs.Prelude.{ℕ, Bool, true, false, cond, List, [], ◌∷◌, Some, None, Ok, Err, codes, Option, Result}
use Rattle.std.specs.Str.{bytes_eq}
use Rattle.languages.specs.Expecting.{or_else}
use Rattle.words.specs.Numerals.{read_number}
use Rattle.storescript.specs.declared.calls.Device.{Device}
use Rattle.storescript.specs.declared.calls.Device.TheVariants.{Image, Bench}
use Rattle.storescript.specs.declared.calls.Stack.{Stack}
use Rattle.storescript.specs.declared.expectations.Expected.{Expected}
use Rattle.storescript.specs.declared.expectations.Expected.TheVariants.{StackWords, Blocks}

-- the device that a word names
abbrev pub device_named : List ℕ → Option Device
device_named word =
    cond (bytes_eq word (codes "image")) (Some Image)
    (cond (bytes_eq word (codes "bench")) (Some Bench) None)

-- a device's name and BLOCKS
abbrev pub stack_of : Bool → List ℕ → List ℕ → Result Stack Expected
stack_of mirrored device blocks =
    or_else (device_named device) StackWords
    (λ d. or_else (read_number 10 65536 blocks) Blocks
    (λ n. Ok (record { device = d; mirrored = mirrored; blocks = n })))

-- the words after `stack`: a device and BLOCKS, perhaps with `mirror` in front of them
abbrev pub read_stack : List (List ℕ) → Result Stack Expected
read_stack [] = Err StackWords
read_stack (device ∷ []) = Err StackWords
read_stack (device ∷ blocks ∷ []) = stack_of false device blocks
read_stack (first ∷ device ∷ blocks ∷ []) =
    cond (bytes_eq first (codes "mirror")) (stack_of true device blocks) (Err StackWords)
read_stack (first ∷ device ∷ blocks ∷ more ∷ words) = Err StackWords
