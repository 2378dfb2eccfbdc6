-- What a script is answered, from its text to the text that is printed. Assumes nothing.
use Rattle.std.specs.Prelude.{◌≡◌, ℕ, List, Ok, Result, String}
use Rattle.failures.specs.declared.Failure.{Failure}
use Rattle.faults.specs.declared.faults.Fault.{Fault}
use Rattle.languages.specs.Transcripts as any
use Rattle.languages.specs.Transcripts.{Printed}
use Rattle.languages.specs.declared.bad_lines.BadLine.{BadLine}
use Rattle.storescript.specs.declared.expectations.Expected.{Expected}
use Rattle.storeparsing.specs.Scripts.{Plan, read_script}
use Rattle.replays.specs.declared.answers.Answer.{Answer}
use Rattle.replays.specs.Played.{Played}
use Rattle.storetranscripts.specs.Lines.{answers_text}

-- a scenario's lines: its calls are played on its stack, and each has a line with its answer
abbrev pub Lines : Plan → List ℕ → Type 0
Lines p text = (answers : List (Result Answer Fault)) × Played p.stack p.fuses p.choices p.calls answers × (text ≡ answers_text p.calls answers)

-- what is printed of a script that can be read
abbrev pub Transcript : List ℕ → List ℕ → Type 0
Transcript script text = (plans : List Plan) × (read_script script ≡ Ok plans) × Printed Lines plans text

-- r is what a script is answered; a want of memory says nothing of it
abbrev pub Transcribed : {Z : Type 0} → List ℕ → Result (String Z) (Failure (BadLine Expected)) → Type 0
Transcribed script r = any.Transcribed read_script Transcript script r
