-- What a whole script says, by what each of its lines adds to the plans so far. Assumes nothing.
use Rattle.std.specs.Prelude.{ℕ, ◌+◌, List, [], ◌∷◌, map, Ok, Err, vec_items, Result, ◌==◌}
use Rattle.std.specs.Global.{Vec}
use Rattle.std.specs.List.{slice_split}
use Rattle.failures.specs.Answers.{UnlessMemory}
use Rattle.failures.specs.declared.Failure.{Failure}
use Rattle.failures.specs.declared.Failure.TheVariants.{Because, Memory}
use Rattle.languages.specs.Expecting.{shown}
use Rattle.languages.specs.declared.bad_lines.BadLine.{BadLine}

-- a text's lines, between line feeds
abbrev pub lines_of : List ℕ → List (List ℕ)
lines_of text = slice_split (λ b. b == 10) text

-- a line changes the last of the plans, of which there has to be one: else e is expected
abbrev pub change_last : {P E : Type 0} → E → (P → Result P E) → List P → Result (List P) E
change_last e change [] = Err e
change_last e change (p ∷ []) = shown (λ q. q ∷ []) (change p)
change_last e change (p ∷ q ∷ plans) = shown (λ more. p ∷ more) (change_last e change (q ∷ plans))

-- what a line adds to the plans so far, where it may be bad in itself
abbrev pub add_read : {P L E : Type 0} → (List P → L → Result (List P) E) → List P → Result L E → Result (List P) E
add_read add plans (Ok line) = add plans line
add_read add plans (Err e) = Err e

-- line k ends the reading where it is bad, and else the plans go on
abbrev pub onward : {P E : Type 0} → ℕ → Result (List P) E → (List P → Result (List P) (BadLine E)) → Result (List P) (BadLine E)
onward k (Ok plans) next = next plans
onward k (Err e) next = Err (record { line = k; expected = e })

-- a failure to read line k, as that of the script
abbrev pub of_line : {E : Type 0} → ℕ → Failure E → Failure (BadLine E)
of_line k (Because e) = Because (record { line = k; expected = e })
of_line k Memory = Memory

-- these lines, of which the first has the number k, after the plans so far
abbrev pub read_lines : {P E : Type 0} → (List P → List ℕ → Result (List P) E) → ℕ → List P → List (List ℕ) → Result (List P) (BadLine E)
read_lines add k plans [] = Ok plans
read_lines add k plans (line ∷ lines) = onward k (add plans line) (λ more. read_lines add (k + 1) more lines)

-- a script's plans, or its first bad line
abbrev pub read_script : {P E : Type 0} → (List P → List ℕ → Result (List P) E) → List ℕ → Result (List P) (BadLine E)
read_script add text = read_lines add 1 [] (lines_of text)

-- r is what the script says, where scenarios are seen by `plan`; a want of memory says nothing of it
abbrev pub Parsed : {S P E : Type 0} → (S → P) → (List P → List ℕ → Result (List P) E) → List ℕ → Result (Vec S) (Failure (BadLine E)) → Type 0
Parsed plan add text r = UnlessMemory (λ v. map plan (vec_items v)) (read_script add text) r

-- what a line may answer, where the plans become `made` by it, and these scenarios are left
abbrev pub Added : {S P E : Type 0} → (S → P) → Result (List P) E → List S → Result Unit (Failure E) → Type 0
Added plan made scenarios r = UnlessMemory (λ done. map plan scenarios) made r
