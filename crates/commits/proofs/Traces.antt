-- The calls of a commit, a refresh and an insert put together, each with all that is known of it. Assumes nothing.
use Rattle.std.proofs.Common.{◌≡◌, ℕ, Bool, true, false, cond, List, [], ◌∷◌, Ok, Err, refl}
use Rattle.faults.specs.declared.faults.Fault.{Fault}
use Rattle.faults.specs.declared.faults.Layer.{Layer}
use Rattle.stores.specs.Calls.{Call, Response, response, writes, flushes, InOrder}
use Rattle.stores.specs.Meanings.{Meaning, Steadily}
use Rattle.stores.specs.Outcomes.{Answer, WriteOutcome, FlushOutcome}
use Rattle.stores.proofs.Sequences.{one_call, call_first, call_last, lists_joined, list_ended}
use Rattle.layouts.specs.Heads.{Fields, fields_bytes}
use Rattle.traces.specs.Traces.{Made, Trace}
use Rattle.workings.specs.Commits.{head_calls}

module _ {State : Type 0} (does : State → Call → Response State → Type 0) (meaning : State → Meaning) (own source : Layer) (steady : Bool) where
  -- a call that was made, a write and a flush
  abbrev pub Makes : State → Call → Response State → Type 0
  Makes s c w = Made does meaning own source steady s c w

  abbrev pub Writes : State → ℕ → List ℕ → Answer → State → Type 0
  Writes s b bytes r t = Makes s (writes b bytes) (response r t)

  abbrev pub Flushes : State → Answer → State → Type 0
  Flushes s r t = Makes s flushes (response r t)

  pub write_made : (s t : State) (b : ℕ) (bytes : List ℕ) (r : Answer) → WriteOutcome 504 own source (meaning s) (meaning t) b bytes r → Steadily steady (meaning s) (meaning t)
      → does s (writes b bytes) (response r t) → Writes s b bytes r t
  write_made s t b bytes r outcome sound gives = record { gives = gives; outcome = outcome; sound = sound }

  pub flush_made : (s t : State) (r : Answer) → FlushOutcome own source (meaning s) (meaning t) r → Steadily steady (meaning s) (meaning t)
      → does s flushes (response r t) → Flushes s r t
  flush_made s t r outcome sound gives = record { gives = gives; outcome = outcome; sound = sound }

  -- a write that is made on a condition, where it holds and where it doesn't
  pub written : (s t : State) (x : Bool) (b : ℕ) (bytes : List ℕ) (r : Answer) → Writes s b bytes r t → x ≡ true → Trace does meaning own source steady s (cond x (writes b bytes ∷ []) []) r t
  written s t true b bytes r w is = one_call Makes s t (writes b bytes) r w
  written s t false b bytes r w is = absurd (cc is)

  pub unwritten : (s : State) (x : Bool) (cs : List Call) → x ≡ false → Trace does meaning own source steady s (cond x cs []) (Ok tt) s
  unfolding InOrder
  unwritten s true cs is = absurd (cc is)
  unwritten s false cs is = (refl, refl)

  -- a head is settled, or one of the calls is refused
  pub first_flush_refused : (s t : State) (h : Fields) (e : Fault) → Flushes s (Err e) t → Trace does meaning own source steady s (head_calls h) (Err e) t
  first_flush_refused s t h e w = call_last Makes s t flushes _ e w

  module _ (s u : State) (flush : Flushes s (Ok tt) u) (h : Fields) (bytes : List ℕ) (are : bytes ≡ fields_bytes h) (t : State) where
    pub head_refused : (e : Fault) → Writes u 0 bytes (Err e) t → Trace does meaning own source steady s (head_calls h) (Err e) t
    head_refused e w = call_first Makes s u t flushes _ (Err e) flush (call_last Makes u t _ _ e (rw are at w))

    pub head_settled : (v : State) (r : Answer) → Writes u 0 bytes (Ok tt) v → Flushes v r t → Trace does meaning own source steady s (head_calls h) r t
    head_settled v r w f =
        call_first Makes s u t flushes _ r flush
        (call_first Makes u v t _ _ r (rw are at w) (one_call Makes v t flushes r f))

-- what the checks go by: of a write on a condition, of a head, and of what is made of them
pub ruleset choosing = (write_made, written, unwritten)

pub ruleset heading = (write_made, flush_made, first_flush_refused, head_refused, head_settled)

pub ruleset joining = (lists_joined, list_ended)
