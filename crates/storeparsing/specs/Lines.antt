-- What the words of one line say. Assumes nothing.
use Rattle.std.specs.Prelude.{ℕ, cond, List, [], ◌∷◌, Some, None, Ok, vec_items, codes, Option, Result}
use Rattle.std.specs.Str.{bytes_eq}
use Rattle.languages.specs.Expecting.{shown}
use Rattle.storescript.specs.declared.calls.Call.{Call}
use Rattle.storescript.specs.declared.calls.Stack.{Stack}
use Rattle.storescript.specs.declared.expectations.Expected.{Expected}
use Rattle.storeparsing.specs.Calls.{read_call}
use Rattle.storeparsing.specs.Lists.{read_fuses, read_choices}
use Rattle.storeparsing.specs.Stacks.{read_stack}
use Rattle.storeparsing.specs.declared.forms.Line.{Line}
use Rattle.storeparsing.specs.declared.forms.Line.TheVariants.{Starts, Goes}
use Rattle.storeparsing.specs.declared.forms.More as forms
use Rattle.storeparsing.specs.declared.forms.More.TheVariants.{Fuses, Choices, Asks}

-- what goes on with a scenario: fuses, choices, or a call
pub data More : Type 0 where
  fused : List ℕ → More
  chosen : List ℕ → More
  asked : Call → More

-- what a line says that has words: the start of a scenario, or more of the one that was started
pub data Said : Type 0 where
  start : Stack → Said
  more : More → Said

-- the same of the code's values, without the memory that they lie in
abbrev pub more_by : forms.More → More
more_by (Fuses v) = fused (vec_items v)
more_by (Choices v) = chosen (vec_items v)
more_by (Asks call) = asked call

abbrev pub said_by : Line → Said
said_by (Starts stack) = start stack
said_by (Goes goes) = more (more_by goes)

-- a command, by its name and the words after it
abbrev pub read_command : List ℕ → List (List ℕ) → Result Said Expected
read_command name words =
    cond (bytes_eq name (codes "stack")) (shown start (read_stack words))
    (cond (bytes_eq name (codes "fuses")) (shown (λ ns. more (fused ns)) (read_fuses words))
    (cond (bytes_eq name (codes "choices")) (shown (λ ns. more (chosen ns)) (read_choices words))
    (shown (λ call. more (asked call)) (read_call name words))))

-- a line, by its words: nothing where it has none
abbrev pub read_line : List (List ℕ) → Result (Option Said) Expected
read_line [] = Ok None
read_line (name ∷ words) = shown Some (read_command name words)
