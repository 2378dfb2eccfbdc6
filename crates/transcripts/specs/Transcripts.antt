-- What a script is answered, from its text to the text that is printed. Assumes nothing.
use Rattle.std.specs.Prelude.{◌≡◌, ℕ, cond, List, [], ◌++◌, map, Ok, codes, Result, String}
use Rattle.std.specs.List.{flat_map, zip}
use Rattle.failures.specs.declared.Failure.{Failure}
use Rattle.faults.specs.Texts.{refusal_text}
use Rattle.faults.specs.declared.faults.Fault.{Fault}
use Rattle.faults.specs.declared.faults.Reason.TheVariants.{OutOfLimits}
use Rattle.sampling.specs.Answers.{is_size, refusal}
use Rattle.script.specs.declared.commands.Command.{Command}
use Rattle.languages.specs.Transcripts as any
use Rattle.languages.specs.Transcripts.{Printed}
use Rattle.languages.specs.declared.bad_lines.BadLine.{BadLine}
use Rattle.script.specs.declared.expectations.Expected.{Expected}
use Rattle.parsing.specs.Scripts.{read_script}
use Rattle.records.specs.Events.{event_fields}
use Rattle.records.specs.Offsets.{offset_fields}
use Rattle.records.specs.declared.events.Event.{Event}
use Rattle.records.specs.declared.offsets.Offset.{Offset}
use Rattle.script.specs.Plans.{Plan, of_reservoir, of_card}
use Rattle.script.specs.Shown.{plan_shown}
use Rattle.transcripts.specs.Cards.{CardLines}
use Rattle.scenarios.specs.Replies.{Reply, replies}
use Rattle.printing.specs.Lines.{name_of, reply_text}

-- a line for each command with its answer
abbrev pub answers_text : List Command → List Reply → List ℕ
answers_text commands answers = flat_map (λ p. reply_text p.0 p.1 ++ codes "\n") (zip commands answers)

-- a line for each command, where its reservoir was refused
abbrev pub skipped_text : List Command → List ℕ
skipped_text commands = flat_map (λ c. name_of c ++ codes " skipped\n") commands

-- the line of a reservoir that was refused
abbrev pub refused_text : Fault → List ℕ
refused_text f = codes "reservoir refused " ++ (refusal_text f ++ codes "\n")

-- the lines of a scenario of a reservoir, the reservoir's own first
abbrev pub scenario_text : ℕ → ℕ → List Command → List ℕ
scenario_text size seed commands =
    cond (is_size size) (codes "reservoir ok\n" ++ answers_text commands (replies seed size [] commands))
    (refused_text (refusal OutOfLimits size) ++ skipped_text commands)

-- a scenario's lines
abbrev pub Lines : Plan Offset Event → List ℕ → Type 0
Lines (of_reservoir p) text = text ≡ scenario_text p.size p.seed p.commands
Lines (of_card p) text = CardLines p text

-- WHAT IS PRINTED OF A SCRIPT that can be read
abbrev pub Transcript : List ℕ → List ℕ → Type 0
Transcript script text = (plans : List (Plan Offset Event)) × (read_script script ≡ Ok (map (plan_shown offset_fields event_fields) plans)) × Printed Lines plans text

-- r is what a script is answered; a want of memory says nothing of it
abbrev pub Transcribed : {Z : Type 0} → List ℕ → Result (String Z) (Failure (BadLine Expected)) → Type 0
Transcribed script r = any.Transcribed read_script Transcript script r
