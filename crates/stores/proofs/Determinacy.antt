-- Calls that are made in order of a store that says one thing at most to each. Assumes nothing.
use Rattle.std.proofs.Common.{◌≡◌, ℕ, List, [], ◌∷◌, length, Ok, Err, Result, sym, ◌∙◌}
use Rattle.faults.specs.declared.faults.Fault.{Fault}
use Rattle.stores.specs.Outcomes.{Answer}
use Rattle.stores.specs.Calls.{Call, Response, reads, Onward, InOrder, Determined}

-- to reads of one block a store says one thing, and it leaves one thing, whatever their buffers held, if these are of one length
abbrev pub Blind : {S : Type 0} → (S → Call → Response S → Type 0) → Type 0
Blind {S} does =
    (s : S) (b : ℕ) (p q : List ℕ) (w v : Response S) → length p ≡ length q → does s (reads b p) w → does s (reads b q) v → (w.answer ≡ v.answer) × (w.next ≡ v.next)

-- what goes on from one state leads to one end, if what follows does
pub onward_one : {S X : Type 0} (q : Result X Fault) (u : S) (A B : X → Type 0) (r n : Answer) (t v : S) → Onward q u A r t → Onward q u B n v → ((x : X) → A x → B x → (r ≡ n) × (t ≡ v)) → (r ≡ n) × (t ≡ v)
onward_one (Ok x) u A B r n t v h k f = f x h k
onward_one (Err e) u A B r n t v h k f = (h.0 ∙ sym k.0, h.1 ∙ sym k.1)

pub in_order_one : {S : Type 0} (does : S → Call → Response S → Type 0) → Determined does → (s : S) (cs : List Call) (r n : Answer) (t v : S) → InOrder does s cs r t → InOrder does s cs n v → (r ≡ n) × (t ≡ v)
unfolding InOrder
in_order_one does d s [] r n t v h k = (h.0 ∙ sym k.0, h.1 ∙ sym k.1)
in_order_one does d s (c ∷ cs) r n t v (w, hw, h) (x, hx, k) =
    let same = d s c x w hx hw in
    onward_one w.answer w.next (λ _. InOrder does w.next cs r t) (λ _. InOrder does w.next cs n v) r n t v h (rw same at k) (λ done a b. in_order_one does d w.next cs r n t v a b)
