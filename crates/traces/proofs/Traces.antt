-- One call taken off a trace, and one list off another, by whether it was accepted or refused. Assumes nothing.
use Rattle.std.proofs.Common.{◌≡◌, ℕ, ◌<◌, Bool, true, ◌⊎◌, inl, inr, List, [], ◌∷◌, ◌++◌, length, Ok, Err, refl}
use Rattle.faults.specs.declared.faults.Fault.{Fault}
use Rattle.faults.specs.declared.faults.Layer.{Layer}
use Rattle.stores.specs.Calls.{Call, Response, writes, flushes, Onward, InOrder}
use Rattle.stores.specs.Meanings.{Content, Meaning, Steadily, Nothing, Written}
use Rattle.stores.specs.Outcomes.{Answer, Failed, Wrote, Flushed}
use Rattle.traces.specs.Traces.{OutcomeOf, Made, Trace}

module _ {State : Type 0} (does : State → Call → Response State → Type 0) (meaning : State → Meaning) (own source : Layer) (steady : Bool) where
  abbrev Calls : State → List Call → Answer → State → Type 0
  Calls s cs r t = Trace does meaning own source steady s cs r t

  -- no call
  pub none_made : (s t : State) (r : Answer) → Calls s [] r t → (r ≡ Ok tt) × (t ≡ s)
  unfolding InOrder
  none_made s t r h = h

  -- the first call was accepted, and the rest was made
  pub record Accepted (s : State) (c : Call) (cs : List Call) (r : Answer) (t : State) : Type 0 where
    pub next : State
    pub buffer : List ℕ
    pub outcome : OutcomeOf own source (meaning s) (meaning next) c (Ok tt) buffer
    pub sound : Steadily steady (meaning s) (meaning next)
    pub rest : Calls next cs r t

  -- the first call was refused, and no other was made
  pub record Refused (s : State) (c : Call) (r : Answer) (t : State) : Type 0 where
    pub fault : Fault
    pub buffer : List ℕ
    pub is : r ≡ Err fault
    pub outcome : OutcomeOf own source (meaning s) (meaning t) c (Err fault) buffer
    pub sound : Steadily steady (meaning s) (meaning t)

  by_answer : (a : Answer) (s v t : State) (buffer : List ℕ) (c : Call) (cs : List Call) (r : Answer)
      → OutcomeOf own source (meaning s) (meaning v) c a buffer → Steadily steady (meaning s) (meaning v)
      → Onward a v (λ _. Calls v cs r t) r t → Accepted s c cs r t ⊎ Refused s c r t
  by_answer (Ok done) s v t buffer c cs r o k h = inl (record { next = v; buffer = buffer; outcome = o; sound = k; rest = h })
  by_answer (Err e) s v t buffer c cs r o k h =
      let same = h.1 in inr (record { fault = e; buffer = buffer; is = h.0; outcome = rw same o; sound = rw same k })

  pub one_made : (s t : State) (c : Call) (cs : List Call) (r : Answer) → Calls s (c ∷ cs) r t → Accepted s c cs r t ⊎ Refused s c r t
  unfolding InOrder
  one_made s t c cs r (w, made, h) = by_answer w.answer s w.next t w.buffer c cs r made.outcome made.sound h

  -- of two lists, the first was accepted whole and the second made, or a refusal ended the first
  abbrev Apart : State → List Call → List Call → Answer → State → Type 0
  Apart s cs ds r t = ((u : State) × Calls s cs (Ok tt) u × Calls u ds r t) ⊎ ((e : Fault) × (r ≡ Err e) × Calls s cs (Err e) t)

  apart_by : (s t : State) (c : Call) (cs ds : List Call) (r : Answer) (a : Answer) (v : State) (buffer : List ℕ)
      → Made does meaning own source steady s c (record { answer = a; buffer = buffer; next = v })
      → Onward a v (λ _. Calls v (cs ++ ds) r t) r t → (Calls v (cs ++ ds) r t → Apart v cs ds r t) → Apart s (c ∷ cs) ds r t
  unfolding InOrder
  apart_by s t c cs ds r (Ok done) v buffer made h f = elim (f h) [
    | inl p ↦ inl (p.0, (record { answer = Ok tt; buffer = buffer; next = v }, made, p.1), p.2)
    | inr p ↦ inr (p.0, p.1, (record { answer = Ok tt; buffer = buffer; next = v }, made, p.2))
  ]
  apart_by s t c cs ds r (Err e) v buffer made h f =
      inr (e, h.0, (record { answer = Err e; buffer = buffer; next = v }, made, (refl, h.1)))

  pub lists_apart : (s t : State) (cs ds : List Call) (r : Answer) → Calls s (cs ++ ds) r t → Apart s cs ds r t
  unfolding InOrder
  lists_apart s t [] ds r h = inl (s, (refl, refl), h)
  lists_apart s t (c ∷ cs) ds r (w, made, h) = apart_by s t c cs ds r w.answer w.next w.buffer made h (λ k. lists_apart w.next t cs ds r k)

  -- a write to a block of a store that is on: what an accepted one did, and what a refused one left
  pub record WroteOn (s : State) (b : ℕ) (bytes : List ℕ) (cs : List Call) (r : Answer) (t : State) : Type 0 where
    pub next : State
    pub done : Wrote (meaning s) (meaning next) b bytes
    pub sound : Steadily steady (meaning s) (meaning next)
    pub rest : Calls next cs r t

  pub record CutOff (s : State) (brought : ℕ → Content → Type 0) (r : Answer) (t : State) : Type 0 where
    pub fault : Fault
    pub is : r ≡ Err fault
    pub failed : Failed source (meaning s) (meaning t) brought fault
    pub sound : Steadily steady (meaning s) (meaning t)

  pub write_made : (s t : State) (b : ℕ) (bytes : List ℕ) (cs : List Call) (r : Answer) → b < (meaning s).size → length bytes ≡ 504 → (meaning s).on ≡ true
      → Calls s (writes b bytes ∷ cs) r t → WroteOn s b bytes cs r t ⊎ CutOff s (Written b bytes) r t
  write_made s t b bytes cs r in_range long on h = elim (one_made s t (writes b bytes) cs r h) [
    | inl a ↦ inl (record { next = a.next; done = a.outcome.served in_range long on; sound = a.sound; rest = a.rest })
    | inr a ↦ inr (record { fault = a.fault; is = a.is; failed = a.outcome.served in_range long on; sound = a.sound })
  ]

  -- a flush of a store that is on
  pub record FlushedOn (s : State) (cs : List Call) (r : Answer) (t : State) : Type 0 where
    pub next : State
    pub done : Flushed (meaning s) (meaning next)
    pub sound : Steadily steady (meaning s) (meaning next)
    pub rest : Calls next cs r t

  pub flush_made : (s t : State) (cs : List Call) (r : Answer) → (meaning s).on ≡ true → Calls s (flushes ∷ cs) r t
      → FlushedOn s cs r t ⊎ CutOff s Nothing r t
  flush_made s t cs r on h = elim (one_made s t flushes cs r h) [
    | inl a ↦ inl (record { next = a.next; done = a.outcome.served on; sound = a.sound; rest = a.rest })
    | inr a ↦ inr (record { fault = a.fault; is = a.is; failed = a.outcome.served on; sound = a.sound })
  ]
