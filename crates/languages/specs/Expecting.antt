-- What is made of a line's words, one after another. Assumes nothing.
use Rattle.std.specs.Prelude.{Some, None, Ok, Err, Option, Result}

-- goes on with what a word says, or else tells what was expected of it
abbrev pub or_else : {T B E : Type 0} → Option T → E → (T → Result B E) → Result B E
or_else None e next = Err e
or_else (Some x) e next = next x

-- what was read, as f has it; what was expected stays
abbrev pub shown : {A B E : Type 0} → (A → B) → Result A E → Result B E
shown f (Ok x) = Ok (f x)
shown f (Err e) = Err e
