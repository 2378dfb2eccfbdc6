-- What a whole script says. Assumes nothing.
use Rattle.std.specs.Prelude.{ℕ, Bool, true, false, cond, ◌&&◌, List, [], ◌∷◌, ◌++◌, Some, None, Ok, Err, vec_items, Option, Result}
use Rattle.std.specs.Global.{Vec}
use Rattle.failures.specs.declared.Failure.{Failure}
use Rattle.languages.specs.Scripts as any
use Rattle.languages.specs.declared.bad_lines.BadLine.{BadLine}
use Rattle.words.specs.Words.{words_of}
use Rattle.storescript.specs.declared.calls.Call.{Call}
use Rattle.storescript.specs.declared.calls.Device.{Device}
use Rattle.storescript.specs.declared.calls.Device.TheVariants.{Image, Bench}
use Rattle.storescript.specs.declared.calls.Scenario.{Scenario}
use Rattle.storescript.specs.declared.calls.Stack.{Stack}
use Rattle.storescript.specs.declared.expectations.Expected.{Expected}
use Rattle.storescript.specs.declared.expectations.Expected.TheVariants.{StackFirst, BenchOnly}
use Rattle.storeparsing.specs.Lines.{More, fused, chosen, asked, Said, start, more, read_line}

-- a scenario as the script has it
pub record Plan : Type 0 where
  pub stack : Stack
  pub fuses : List ℕ
  pub choices : List ℕ
  pub calls : List Call

-- what a scenario holds, without the memory that it lies in
abbrev pub plan_of : Scenario → Plan
plan_of s = record { stack = s.stack; fuses = vec_items s.fuses; choices = vec_items s.choices; calls = vec_items s.calls }

-- the plan that a `stack` line starts
abbrev pub started : Stack → Plan
started s = record { stack = s; fuses = []; choices = []; calls = [] }

-- only a bench fails as it is told
abbrev pub is_bench : Device → Bool
is_bench Image = false
is_bench Bench = true

-- no call was made yet
abbrev pub no_call : List Call → Bool
no_call [] = true
no_call (c ∷ cs) = false

-- fuses and choices may be told: to a bench, before its first call
abbrev pub is_open : Plan → Bool
is_open p = is_bench p.stack.device && no_call p.calls

-- a plan with more fuses, with more choices, with one call more
abbrev pub with_fuses : Plan → List ℕ → Plan
with_fuses p ns = record { stack = p.stack; fuses = p.fuses ++ ns; choices = p.choices; calls = p.calls }

abbrev pub with_choices : Plan → List ℕ → Plan
with_choices p ns = record { stack = p.stack; fuses = p.fuses; choices = p.choices ++ ns; calls = p.calls }

abbrev pub with_call : Plan → Call → Plan
with_call p call = record { stack = p.stack; fuses = p.fuses; choices = p.choices; calls = p.calls ++ (call ∷ []) }

-- what a line makes of the plan that it goes on with
abbrev pub grown : Plan → More → Result Plan Expected
grown p (fused ns) = cond (is_open p) (Ok (with_fuses p ns)) (Err BenchOnly)
grown p (chosen ns) = cond (is_open p) (Ok (with_choices p ns)) (Err BenchOnly)
grown p (asked call) = Ok (with_call p call)

-- the line goes on with the last of the plans
abbrev pub grow_last : List Plan → More → Result (List Plan) Expected
grow_last plans m = any.change_last StackFirst (λ p. grown p m) plans

-- what a line makes of the plans so far: nothing new, a new plan, or more in the last
abbrev pub add_line : List Plan → Option Said → Result (List Plan) Expected
add_line plans None = Ok plans
add_line plans (Some (start s)) = Ok (plans ++ (started s ∷ []))
add_line plans (Some (more m)) = grow_last plans m

-- the same, of a line's bytes
abbrev pub add_text : List Plan → List ℕ → Result (List Plan) Expected
add_text plans line = any.add_read add_line plans (read_line (words_of line))

-- a script's plans, or its first bad line
abbrev pub read_script : List ℕ → Result (List Plan) (BadLine Expected)
read_script text = any.read_script add_text text

-- r is what the script says; a want of memory says nothing of it
abbrev pub Parsed : List ℕ → Result (Vec Scenario) (Failure (BadLine Expected)) → Type 0
Parsed text r = any.Parsed plan_of add_text text r
