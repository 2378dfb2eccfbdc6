-- What is printed of a ledger and of the sample behind it. Assumes nothing.
use Rattle.std.specs.Prelude.{ℕ, ◌+◌, Bool, cond, ◌&&◌, List, [], ◌∷◌, ◌++◌, length, Some, None, Option, codes, decimal}
use Rattle.std.specs.List.{flat_map}
use Rattle.ledgers.specs.Ledgers.{Ledger}
use Rattle.ledgers.specs.declared.calls.Answer.{Answer}
use Rattle.ledgers.specs.declared.calls.Answer.TheVariants.{Found}
use Rattle.sampletexts.specs.Lines.{slot_text}

-- how many are waiting, if any are
abbrev pub waiting_text : Option ℕ → List ℕ
waiting_text (Some n) = decimal n
waiting_text None = codes "none"

-- whether it is open
abbrev pub open_text : Bool → List ℕ
open_text is_open = cond is_open (codes "open") (codes "shut")

module _ {K : Type 0} where
  -- a ledger's line
  abbrev pub ledger_line : Ledger K → List ℕ
  ledger_line b =
      codes "counted " ++ (decimal (length b.counted) ++ (codes " settled " ++ (decimal b.settled ++ (codes " waiting " ++ (waiting_text b.waiting
      ++ (codes " " ++ (open_text b.is_open ++ codes "\n")))))))

  -- the line of a slot, if a record was found in it
  abbrev pub night_row_text : (K → List ℕ) → ℕ → Answer K → List ℕ
  night_row_text words slot (Found x) = slot_text slot (words x) ++ codes "\n"
  night_row_text words slot other = []

  -- the lines of the slots from this one on, by the answers of their slot calls
  abbrev pub night_rows_text : (K → List ℕ) → ℕ → List (Answer K) → List ℕ
  night_rows_text words slot [] = []
  night_rows_text words slot (a ∷ answers) = night_row_text words slot a ++ night_rows_text words (slot + 1) answers

  -- the record that was found, if one was
  abbrev pub found_in : Answer K → List K
  found_in (Found x) = x ∷ []
  found_in other = []

  -- the records that were found
  abbrev pub records_found : List (Answer K) → List K
  records_found answers = flat_map found_in answers

  -- the sample: the filled slots, and what is said of all of them
  abbrev pub sample_text : (K → List ℕ) → (List K → List ℕ) → List (Answer K) → List ℕ
  sample_text words summary answers = night_rows_text words 0 answers ++ summary (records_found answers)

  -- A REPORT: the ledger, and the sample while the ledger is open and the sampler awake
  abbrev pub night_report_text : (K → List ℕ) → (List K → List ℕ) → Ledger K → Bool → List (Answer K) → List ℕ
  night_report_text words summary b is_awake answers = ledger_line b ++ cond (b.is_open && is_awake) (sample_text words summary answers) []
