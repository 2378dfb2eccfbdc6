-- What is printed of a call and its answer. Assumes nothing.
use Rattle.std.specs.Prelude.{ℕ, List, ◌++◌, Ok, Err, Result, codes, decimal}
use Rattle.std.specs.List.{flat_map, zip}
use Rattle.faults.specs.Texts.{refusal_text}
use Rattle.faults.specs.declared.faults.Fault.{Fault}
use Rattle.storescript.specs.declared.calls.Call.{Call}
use Rattle.storescript.specs.declared.calls.Call.TheVariants.{Restart, Flush, Read, Write}
use Rattle.replays.specs.declared.answers.Answer.{Answer}
use Rattle.replays.specs.declared.answers.Answer.TheVariants.{Done, Filled, Mixed}

-- a call's first word
abbrev pub name_of : Call → List ℕ
name_of Restart = codes "restart"
name_of Flush = codes "flush"
name_of (Read block) = codes "read"
name_of (Write block value) = codes "write"

-- a call's line, without the line feed at its end
abbrev pub said_text : Call → Result Answer Fault → List ℕ
said_text c (Ok Done) = name_of c ++ codes " ok"
said_text c (Ok (Filled value)) = name_of c ++ (codes " ok " ++ decimal value)
said_text c (Ok Mixed) = name_of c ++ codes " ok mixed"
said_text c (Err f) = name_of c ++ (codes " refused " ++ refusal_text f)

-- a line for each call with its answer
abbrev pub answers_text : List Call → List (Result Answer Fault) → List ℕ
answers_text calls answers = flat_map (λ p. said_text p.0 p.1 ++ codes "\n") (zip calls answers)
