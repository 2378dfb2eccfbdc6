-- How a bad line reads. Assumes nothing.
use Rattle.std.specs.Prelude.{ℕ, List, ◌++◌, Option, codes, decimal}
use Rattle.std.specs.Option.{option_map}
use Rattle.languages.specs.declared.bad_lines.BadLine.{BadLine}

-- the line's number in front of what was expected there
abbrev pub bad_line_text : {E : Type 0} → (E → Option (List ℕ)) → BadLine E → Option (List ℕ)
bad_line_text text bad = option_map (λ t. codes "line " ++ (decimal bad.line ++ (codes ": " ++ t))) (text bad.expected)
