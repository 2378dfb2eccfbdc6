-- What a whole script says. Assumes nothing.
use Rattle.std.specs.Prelude.{ℕ, false, cond, List, [], ◌∷◌, ◌++◌, Ok, codes, Result}
use Rattle.std.specs.Global.{Vec}
use Rattle.std.specs.Str.{bytes_eq}
use Rattle.failures.specs.declared.Failure.{Failure}
use Rattle.languages.specs.Expecting.{shown}
use Rattle.languages.specs.Scripts as any
use Rattle.languages.specs.declared.bad_lines.BadLine.{BadLine}
use Rattle.parsing.specs.Cards.{grow}
use Rattle.parsing.specs.Words.{read_command, read_reservoir, read_stack}
use Rattle.script.specs.Plans.{ReservoirPlan, of_offsets, of_reservoir, of_card}
use Rattle.script.specs.Shown.{ScriptPlan, script_plan}
use Rattle.script.specs.declared.cards.Stack.{Stack}
use Rattle.script.specs.declared.commands.Command.{Command}
use Rattle.script.specs.declared.expectations.Expected.{Expected}
use Rattle.script.specs.declared.expectations.Expected.TheVariants.{ScenarioFirst}
use Rattle.script.specs.declared.scenarios.Scenario.{Scenario}
use Rattle.words.specs.Words.{words_of}

-- a reservoir of which nothing is asked yet
abbrev pub new_reservoir : ℕ × ℕ → ScriptPlan
new_reservoir x = of_reservoir (record { size = x.0; seed = x.1; commands = [] })

-- a card with no night yet, of offsets unless it is told otherwise
abbrev pub new_card : Stack → ScriptPlan
new_card stack = of_card (record { stack = stack; fuses = []; choices = []; nights = of_offsets []; ends_with_memory = false })

-- one command more
abbrev pub with_command : ReservoirPlan → Command → ReservoirPlan
with_command p command = record { size = p.size; seed = p.seed; commands = p.commands ++ (command ∷ []) }

-- a line that goes on with a scenario
abbrev pub go_on : ScriptPlan → List ℕ → List (List ℕ) → Result ScriptPlan Expected
go_on (of_reservoir p) name words = shown (λ command. of_reservoir (with_command p command)) (read_command name words)
go_on (of_card p) name words = shown of_card (grow p name words)

-- a new plan behind those so far
abbrev pub start_plan : List ScriptPlan → Result ScriptPlan Expected → Result (List ScriptPlan) Expected
start_plan plans made = shown (λ p. plans ++ (p ∷ [])) made

-- what a line makes of the plans so far, by its name and the words after it: a new plan, or more in the last
abbrev pub add_named : List ScriptPlan → List ℕ → List (List ℕ) → Result (List ScriptPlan) Expected
add_named plans name words =
    cond (bytes_eq name (codes "reservoir")) (start_plan plans (shown new_reservoir (read_reservoir words)))
    (cond (bytes_eq name (codes "stack")) (start_plan plans (shown new_card (read_stack words)))
    (any.change_last ScenarioFirst (λ p. go_on p name words) plans))

-- the same, of a line's words: nothing new, where it has none
abbrev pub add_words : List ScriptPlan → List (List ℕ) → Result (List ScriptPlan) Expected
add_words plans [] = Ok plans
add_words plans (name ∷ words) = add_named plans name words

-- and of a line's bytes
abbrev pub add_text : List ScriptPlan → List ℕ → Result (List ScriptPlan) Expected
add_text plans line = add_words plans (words_of line)

-- a script's plans, or its first bad line
abbrev pub read_script : List ℕ → Result (List ScriptPlan) (BadLine Expected)
read_script text = any.read_script add_text text

-- r is what the script says; a want of memory says nothing of it
abbrev pub Parsed : List ℕ → Result (Vec Scenario) (Failure (BadLine Expected)) → Type 0
Parsed text r = any.Parsed script_plan add_text text r
