-- What a line asks of a sampler, and whether the sampler is awake after it. Assumes nothing.
use Rattle.std.specs.Prelude.{ℕ, Bool, cond, List, [], ◌∷◌, Ok, Err, codes, Result}
use Rattle.std.specs.Str.{bytes_eq}
use Rattle.faults.specs.declared.faults.Fault.{Fault}
use Rattle.languages.specs.Expecting.{shown}
use Rattle.ledgers.specs.declared.calls.Call as declared_call
use Rattle.ledgers.specs.declared.calls.Call.TheVariants.{Mount, Wake, Insert, Commit, Refresh, Slot, Close}
use Rattle.parsing.specs.Words.{read_none, read_slot}
use Rattle.script.specs.Calls.{awake_after_call}
use Rattle.script.specs.declared.cards.Ask.{Ask}
use Rattle.script.specs.declared.cards.Ask.TheVariants.{Calls, NoSuchRecord, Report}
use Rattle.script.specs.declared.expectations.Expected.{Expected}
use Rattle.script.specs.declared.expectations.Expected.TheVariants.{Alone, CardCommandName}

module _ {F : Type 0} where
  -- an insert of a record, or of one that cannot exist
  abbrev pub insert_of : Result F Fault → Ask F
  insert_of (Ok x) = Calls (Insert x)
  insert_of (Err e) = NoSuchRecord e

  -- a call with no words of its own
  abbrev pub read_call : declared_call.Call F → List (List ℕ) → Result (Ask F) Expected
  read_call call words = shown (λ done. Calls call) (read_none Alone words)

  -- by its name and the words after it; a record's words are read by its kind
  abbrev pub read_ask : (List (List ℕ) → Result (Result F Fault) Expected) → List ℕ → List (List ℕ) → Result (Ask F) Expected
  read_ask read name words =
      cond (bytes_eq name (codes "mount")) (read_call Mount words)
      (cond (bytes_eq name (codes "wake")) (read_call Wake words)
      (cond (bytes_eq name (codes "insert")) (shown insert_of (read words))
      (cond (bytes_eq name (codes "commit")) (read_call Commit words)
      (cond (bytes_eq name (codes "refresh")) (read_call Refresh words)
      (cond (bytes_eq name (codes "slot")) (shown (λ i. Calls (Slot i)) (read_slot words))
      (cond (bytes_eq name (codes "close")) (read_call Close words)
      (cond (bytes_eq name (codes "report")) (shown (λ done. Report) (read_none Alone words))
      (Err CardCommandName))))))))

  -- whether the sampler is awake after an ask: a report's slot calls leave it as it is
  abbrev pub awake_after_ask : Bool → Ask F → Bool
  awake_after_ask awake (Calls call) = awake_after_call awake call
  awake_after_ask awake ask = awake

  -- whether it is awake after these asks, in order
  abbrev pub awake_at_end : Bool → List (Ask F) → Bool
  awake_at_end awake [] = awake
  awake_at_end awake (ask ∷ asks) = awake_at_end (awake_after_ask awake ask) asks
