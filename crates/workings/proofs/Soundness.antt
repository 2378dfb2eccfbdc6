-- A steady store that was sound is sound after a call that worked its sampler. Assumes nothing.
use Rattle.std.proofs.Common.{◌≡◌, Bool, List, [], ◌∷◌, Some, None, Ok, Err, Option, Result, sym, subst}
use Rattle.faults.specs.declared.faults.Fault.{Fault}
use Rattle.faults.specs.declared.faults.Layer.{Layer}
use Rattle.stores.specs.Calls.{Call, Response, InOrder, Onward}
use Rattle.stores.specs.Meanings.{Meaning, Sound, Steadily}
use Rattle.stores.specs.Outcomes.{Answer}
use Rattle.cards.specs.Memories.{Memory}
use Rattle.traces.specs.Traces.{Trace}
use Rattle.workings.specs.Worked.{Work, Tested, Worked}

module _ {State : Type 0} (does : State → Call → Response State → Type 0) (meaning : State → Meaning) (own source : Layer) (steady : Bool) where
  same_sound : (s t : State) → t ≡ s → Steadily steady (meaning s) (meaning t)
  same_sound s t e = λ y so. subst (λ (u : State). Sound (meaning u)) (sym e) so

  onward_sound : (a r : Answer) (s v t : State) (cs : List Call) → Steadily steady (meaning s) (meaning v)
      → (Trace does meaning own source steady v cs r t → Steadily steady (meaning v) (meaning t))
      → Onward a v (λ _. Trace does meaning own source steady v cs r t) r t → Steadily steady (meaning s) (meaning t)
  onward_sound (Ok done) r s v t cs first rest h = λ y so. rest h y (first y so)
  onward_sound (Err e) r s v t cs first rest h = λ y so. same_sound v t h.1 y (first y so)

  -- of calls made in order
  pub trace_sound : (s t : State) (cs : List Call) (r : Answer) → Trace does meaning own source steady s cs r t → Steadily steady (meaning s) (meaning t)
  unfolding InOrder
  trace_sound s t [] r h = same_sound s t h.1
  trace_sound s t (c ∷ cs) r (w, made, h) = onward_sound w.answer r s w.next t cs made.sound (trace_sound w.next t cs r) h

  tested_sound : {A : Type 0} (before : Memory) (w : Work A) (test : Answer) (s t : State) (r : Result A Fault) (after : Option Memory)
      → Tested does meaning own source steady before w test s r t after → Steadily steady (meaning s) (meaning t)
  tested_sound before w (Ok done) s t r after h = trace_sound s t w.calls h.0 h.1
  tested_sound before w (Err e) s t r after h = same_sound s t h.1

  -- of a call that worked a sampler
  pub worked_sound : {A : Type 0} (work : Memory → Work A) (s t : State) (before after : Option Memory) (r : Result A Fault)
      → Worked does meaning own source steady work s before r t after → Steadily steady (meaning s) (meaning t)
  worked_sound work s t None after r h = same_sound s t h.1
  worked_sound work s t (Some x) after r h = tested_sound x (work x) (work x).test s t r after h
