-- What is printed of nights, by what their calls were answered. Assumes nothing.
use Rattle.std.specs.Prelude.{ℕ, Bool, false, List, [], ◌∷◌, ◌++◌, take, Ok, Err, Result, codes}
use Rattle.std.specs.List.{flat_map, zip}
use Rattle.faults.specs.Texts.{refusal_text}
use Rattle.faults.specs.declared.faults.Fault.{Fault}
use Rattle.ledgers.specs.Ledgers.{Ledger, opened, fed}
use Rattle.ledgers.specs.declared.calls.Call as declared_call
use Rattle.ledgers.specs.declared.calls.Answer.{Answer}
use Rattle.script.specs.Calls.{awake_after_call, calls_asked}
use Rattle.script.specs.Plans.{NightPlan}
use Rattle.script.specs.declared.cards.Ask.{Ask}
use Rattle.script.specs.declared.cards.Ask.TheVariants.{Calls, NoSuchRecord, Report}
use Rattle.nighttexts.specs.Lines.{call_name, call_line}
use Rattle.nighttexts.specs.Reports.{night_report_text}

-- how far a night is printed: the ledger, whether the sampler is awake, and the answers still to come
pub record NightSoFar (K : Type 0) : Type 0 where
  pub ledger : Ledger K
  pub is_awake : Bool
  pub rest : List (Answer K)

-- the line of a format that was refused
abbrev pub format_refused_text : Fault → List ℕ
format_refused_text f = codes "format refused " ++ (refusal_text f ++ codes "\n")

module _ {K : Type 0} where
  -- what a call prints, by the first of these answers; a call without an answer prints nothing
  abbrev pub called_text : (K → List ℕ) → declared_call.Call K → List (Answer K) → List ℕ
  called_text words c [] = []
  called_text words c (a ∷ rest) = call_line words c a

  -- what an ask prints: a report shows the ledger before its own slot calls
  abbrev pub ask_text : (K → List ℕ) → (List K → List ℕ) → ℕ → NightSoFar K → Ask K → List ℕ
  ask_text words summary size s (Calls c) = called_text words c s.rest
  ask_text words summary size s (NoSuchRecord f) = codes "insert refused " ++ (refusal_text f ++ codes "\n")
  ask_text words summary size s Report = night_report_text words summary s.ledger s.is_awake (take size s.rest)

  -- a call takes the first of these answers, and the ledger is fed with it
  abbrev pub after_call : NightSoFar K → declared_call.Call K → List (Answer K) → NightSoFar K
  after_call s c [] = s
  after_call s c (a ∷ rest) = record { ledger = fed s.ledger c a; is_awake = awake_after_call s.is_awake c; rest = rest }

  -- these calls take their answers in order
  abbrev pub after_calls : NightSoFar K → List (declared_call.Call K) → NightSoFar K
  after_calls s [] = s
  after_calls s (c ∷ calls) = after_calls (after_call s c s.rest) calls

  -- an ask takes the answers of the calls that it makes
  abbrev pub after_ask : ℕ → NightSoFar K → Ask K → NightSoFar K
  after_ask size s ask = after_calls s (calls_asked size ask)

  -- asks one after another
  abbrev pub asks_text : (K → List ℕ) → (List K → List ℕ) → ℕ → NightSoFar K → List (Ask K) → List ℕ
  asks_text words summary size s [] = []
  asks_text words summary size s (ask ∷ asks) = ask_text words summary size s ask ++ asks_text words summary size (after_ask size s ask) asks

  -- a night begins with an open ledger and a sampler that sleeps
  abbrev pub night_begun : List (Answer K) → NightSoFar K
  night_begun answers = record { ledger = opened; is_awake = false; rest = answers }

  -- the name of an ask
  abbrev pub asked_name : Ask K → List ℕ
  asked_name (Calls c) = call_name c
  asked_name (NoSuchRecord f) = codes "insert"
  asked_name Report = codes "report"

  -- a line for each ask, where the format was refused
  abbrev pub night_skipped_text : List (Ask K) → List ℕ
  night_skipped_text asks = flat_map (λ ask. asked_name ask ++ codes " skipped\n") asks

  -- A NIGHT, by what its calls were answered or why its format was refused
  abbrev pub night_text : (K → List ℕ) → (List K → List ℕ) → NightPlan K → Result (List (Answer K)) Fault → List ℕ
  night_text words summary plan (Ok answers) = codes "format ok\n" ++ asks_text words summary plan.size (night_begun answers) plan.asks
  night_text words summary plan (Err f) = format_refused_text f ++ night_skipped_text plan.asks

  -- nights one after another
  abbrev pub nights_text : (K → List ℕ) → (List K → List ℕ) → List (NightPlan K) → List (Result (List (Answer K)) Fault) → List ℕ
  nights_text words summary plans outcomes = flat_map (λ p. night_text words summary p.0 p.1) (zip plans outcomes)
