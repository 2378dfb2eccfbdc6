-- What a script is answered, by what the lines of its scenarios are. Assumes nothing.
use Rattle.std.specs.Prelude.{◌≡◌, ℕ, List, [], ◌∷◌, ◌++◌, Ok, Err, string_bytes, Result, String}
use Rattle.failures.specs.declared.Failure.{Failure}
use Rattle.failures.specs.declared.Failure.TheVariants.{Because, Memory}
use Rattle.languages.specs.declared.bad_lines.BadLine.{BadLine}

-- at most one value is so: any two that are so are the same
abbrev pub AtMostOne : {A : Type 0} → (A → Type 0) → Type 0
AtMostOne {A} P = (x y : A) → P x → P y → x ≡ y

module _ {P : Type 0} (Lines : P → List ℕ → Type 0) where
  -- the lines of these scenarios, one after another
  unfoldable pub Printed : List P → List ℕ → Type 0
  Printed [] text = text ≡ []
  Printed (p ∷ ps) text = (here rest : List ℕ) × Lines p here × Printed ps rest × (text ≡ here ++ rest)

  -- a scenario's lines come behind what was written; only a want of memory can end that
  abbrev pub AddsLines : {E : Type 0} → List ℕ → P → List ℕ → Result (Unit {0}) (Failure (BadLine E)) → Type 0
  AddsLines before p after (Ok done) = (here : List ℕ) × Lines p here × (after ≡ before ++ here)
  AddsLines before p after (Err (Because bad)) = ⊥
  AddsLines before p after (Err Memory) = Unit {0}

-- r is what a script is answered, by how it is read and which text is its transcript: that text, or its first bad line; a
-- want of memory says nothing of it
abbrev pub Transcribed : {P E Z : Type 0} → (List ℕ → Result (List P) (BadLine E)) → (List ℕ → List ℕ → Type 0) → List ℕ → Result (String Z) (Failure (BadLine E)) → Type 0
Transcribed read Transcript script (Ok out) = Transcript script (string_bytes out)
Transcribed read Transcript script (Err (Because bad)) = read script ≡ Err bad
Transcribed read Transcript script (Err Memory) = Unit {0}
