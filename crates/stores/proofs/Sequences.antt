-- Calls that are made in order. Assumes nothing.
use Rattle.std.proofs.Common.{List, [], ◌∷◌, ◌++◌, Ok, Err, refl}
use Rattle.faults.specs.declared.faults.Fault.{Fault}
use Rattle.stores.specs.Outcomes.{Answer}
use Rattle.stores.specs.Calls.{Call, Response, response, Onward, InOrder}

module _ {State : Type 0} (does : State → Call → Response State → Type 0) where
  pub one_call : (s t : State) (c : Call) (r : Answer) → does s c (response r t) → InOrder does s (c ∷ []) r t
  unfolding InOrder
  one_call s t c (Ok done) h = (response (Ok tt) t, h, (refl, refl))
  one_call s t c (Err e) h = (response (Err e) t, h, (refl, refl))

  -- a call that was accepted, and the ones after it
  pub call_first : (s u t : State) (c : Call) (cs : List Call) (r : Answer) → does s c (response (Ok tt) u) → InOrder does u cs r t → InOrder does s (c ∷ cs) r t
  unfolding InOrder
  call_first s u t c cs r h rest = (response (Ok tt) u, h, rest)

  -- a call that was refused is the last
  pub call_last : (s t : State) (c : Call) (cs : List Call) (e : Fault) → does s c (response (Err e) t) → InOrder does s (c ∷ cs) (Err e) t
  unfolding InOrder
  call_last s t c cs e h = (response (Err e) t, h, (refl, refl))

  onward_joined : (a : Answer) (v u t : State) (r : Answer) (P Q : Type 0) → Onward a v (λ _. P) (Ok tt) u → (P → Q) → Onward a v (λ _. Q) r t
  onward_joined (Ok done) v u t r P Q h f = f h
  onward_joined (Err e) v u t r P Q h f = absurd (cc h.0)

  -- a list after a list that was accepted whole
  pub lists_joined : (s u t : State) (cs ds : List Call) (r : Answer) → InOrder does s cs (Ok tt) u → InOrder does u ds r t → InOrder does s (cs ++ ds) r t
  unfolding InOrder
  lists_joined s u t [] ds r h rest = rw h.1 at rest
  lists_joined s u t (c ∷ cs) ds r (w, step, h) rest =
      (w, step, onward_joined w.answer w.next u t r (InOrder does w.next cs (Ok tt) u) (InOrder does w.next (cs ++ ds) r t) h (λ k. lists_joined w.next u t cs ds r k rest))

  onward_ended : (a : Answer) (v t : State) (e : Fault) (P Q : Type 0) → Onward a v (λ _. P) (Err e) t → (P → Q) → Onward a v (λ _. Q) (Err e) t
  onward_ended (Ok done) v t e P Q h f = f h
  onward_ended (Err g) v t e P Q h f = h

  -- a list that a refusal ended, however much longer it was to be
  pub list_ended : (s t : State) (cs ds : List Call) (e : Fault) → InOrder does s cs (Err e) t → InOrder does s (cs ++ ds) (Err e) t
  unfolding InOrder
  list_ended s t [] ds e h = absurd (cc h.0)
  list_ended s t (c ∷ cs) ds e (w, step, h) =
      (w, step, onward_ended w.answer w.next t e (InOrder does w.next cs (Err e) t) (InOrder does w.next (cs ++ ds) (Err e) t) h (λ k. list_ended w.next t cs ds e k))
