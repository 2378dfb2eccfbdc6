-- The lines of a report. Assumes nothing.
use Rattle.std.proofs.Common.{◌≡◌, ℕ, List, ◌++◌, map, length, ℤ, codes, decimal, refl}
use Rattle.std.proofs.lemmas.List.{length-map}
use Rattle.scenarios.specs.Answering.{row_of}
use Rattle.scenarios.specs.declared.answers.Row.{Row}
use Rattle.sampletexts.specs.Lines.{mean_line}
use Rattle.printing.specs.Lines.{rows_text, report_text}

-- a report, from its parts as they lie in memory; the check finds this by itself, and docs/PORT.md names it
pub report_text_lem : (count : ℕ) (slice items : List Row) (n : ℕ) (stored sum : ℤ) → slice ≡ items → n ≡ length items → stored ≡ sum
    → codes "counted " ++ (decimal count ++ (codes "\n" ++ (rows_text (map row_of slice) ++ mean_line stored n))) ≡ report_text count (map row_of items) sum
report_text_lem count slice items n stored sum e l s = rw (e, l, s, length-map items row_of) refl
