-- What a mirror's calls make of the store below: which calls they make there, in which order, and what is said up.
-- Assumes nothing.
use Rattle.std.specs.Prelude.{◌≡◌, ℕ, zero, suc, ◌+◌, true, false, cond, List, [], ◌∷◌, length, replicate, Some, None, Ok, Err, Option, Result}
use Rattle.std.specs.Borrow.{Bor}
use Rattle.std.specs.Option.{option_copied}
use Rattle.std.specs.Str.{bytes_eq}
use Rattle.faults.specs.Refusals.{fault}
use Rattle.faults.specs.declared.faults.Fault.{Fault}
use Rattle.faults.specs.declared.faults.Layer.TheVariants.{Mirror as MirrorLayer}
use Rattle.faults.specs.declared.faults.Reason.{Reason}
use Rattle.faults.specs.declared.faults.Reason.TheVariants.{Torn}
use Rattle.stores.specs.Admission.{admission, powered}
use Rattle.stores.specs.Calls.{Call, Response, reads, writes, flushes, restarts, response, Onward, InOrder}
use Rattle.stores.specs.Outcomes.{Answer}
use Rattle.stores.specs.Meanings.{Meaning}
use Rattle.mirrors.specs.Mirrors.{half}
use Rattle.mirrors.specs.Views.{View}

-- what is known of a copy: its bytes, or none where it is torn; or the fault that came from below
abbrev pub Copy : Type 0
Copy = Result (Option (List ℕ)) Fault

-- a torn block is none, and any other refusal a fault
abbrev pub unless_torn : Reason → Fault → Copy
unless_torn Torn e = Ok None
unless_torn other e = Err e

-- what a read's answer and buffer tell of a copy
abbrev pub copy_of : Answer → List ℕ → Copy
copy_of (Ok done) bytes = Ok (Some bytes)
copy_of (Err e) bytes = unless_torn e.reason e

-- what is known of a copy whose bytes lie in a buffer that was lent for them
abbrev pub lent : Result (Option (Bor (List ℕ))) Fault → Copy
lent (Ok found) = Ok (option_copied found)
lent (Err e) = Err e

-- a block is written and settled
abbrev pub storing : ℕ → List ℕ → List Call
storing b bytes = writes b bytes ∷ flushes ∷ []

-- a mirror's write: the first copy, and then the second
abbrev pub storing_both : ℕ → ℕ → List ℕ → List Call
storing_both a b bytes = writes a bytes ∷ flushes ∷ writes b bytes ∷ flushes ∷ []

-- what makes two copies alike: the first that is whole is written over the other, unless that is the same already
abbrev pub mending : ℕ → ℕ → Option (List ℕ) → Option (List ℕ) → List Call
mending a b (Some one) (Some two) = cond (bytes_eq one two) [] (storing b one)
mending a b (Some one) None = storing b one
mending a b None (Some two) = storing a two
mending a b None None = []

module _ {S : Type 0} (does : S → Call → Response S → Type 0) where
  -- a block is read into the mirror's own memory, which is zero
  unfoldable pub Probes : ℕ → S → Copy → S → Type 0
  Probes b s q t = (w : Response S) × does s (reads b (replicate 504 0)) w × (q ≡ copy_of w.answer w.buffer) × (t ≡ w.next)

  -- the second copy is read where the first is torn
  abbrev pub UnlessTorn : ℕ → Copy → S → Copy → S → Type 0
  UnlessTorn b (Ok None) s q t = Probes b s q t
  UnlessTorn b (Ok (Some bytes)) s q t = (q ≡ Ok (Some bytes)) × (t ≡ s)
  UnlessTorn b (Err e) s q t = (q ≡ Err e) × (t ≡ s)

  -- the first copy is read, and the second where it is torn
  unfoldable pub ReadsCopies : ℕ → ℕ → S → Copy → S → Type 0
  ReadsCopies a b s q t = (p : Copy) × (u : S) × Probes a s p u × UnlessTorn b p u q t

  -- both copies are read, and then made alike
  unfoldable pub Repairs : ℕ → ℕ → S → Answer → S → Type 0
  Repairs a b s r t =
      (p : Copy) × (u : S) × Probes a s p u × Onward p u
      (λ one. (q : Copy) × (v : S) × Probes b u q v × Onward q v (λ two. InOrder does v (mending a b one two) r t) r t) r t

  -- the copies of the first n blocks, in ascending order
  unfoldable pub Mends : ℕ → ℕ → S → Answer → S → Type 0
  Mends half zero s r t = (r ≡ Ok tt) × (t ≡ s)
  Mends half (suc b) s r t = (q : Answer) × (u : S) × Mends half b s q u × Onward q u (λ _. Repairs b (half + b) u r t) r t

  -- a restart below, and then every block
  unfoldable pub Restarts : ℕ → S → Answer → S → Type 0
  Restarts half s r t = (w : Response S) × does s restarts w × Onward w.answer w.next (λ _. Mends half half w.next r t) r t

-- an accepted call leaves the mirror on; a fault from below turns it off, and is the mirror's answer
abbrev pub passed_up : {S : Type 0} → Answer → S → Response (View S)
passed_up (Ok done) t = response (Ok tt) (record { below = t; on = true })
passed_up (Err e) t = response (Err e) (record { below = t; on = false })

-- a read gives the bytes of a copy; of two torn copies the mirror itself answers that they are torn
abbrev pub read_up : {S : Type 0} → ℕ → List ℕ → Copy → S → Response (View S)
read_up b before (Ok (Some bytes)) t = record { answer = Ok tt; buffer = bytes; next = record { below = t; on = true } }
read_up b before (Ok None) t = record { answer = Err (fault Torn MirrorLayer b); buffer = before; next = record { below = t; on = true } }
read_up b before (Err e) t = record { answer = Err e; buffer = before; next = record { below = t; on = false } }

-- the mirror's own refusal changes nothing; else the call is served
abbrev pub OnceAdmitted : {S : Type 0} → Answer → List ℕ → View S → Response (View S) → Type 0 → Type 0
OnceAdmitted (Ok done) buffer v w served = served
OnceAdmitted (Err e) buffer v w served = w ≡ record { answer = Err e; buffer = buffer; next = v }

-- what a mirror of `half` blocks says to a call, over a store that does so
abbrev pub MirrorDoes : {S : Type 0} → (S → Call → Response S → Type 0) → ℕ → View S → Call → Response (View S) → Type 0
MirrorDoes {S} does half v (reads b before) w =
    OnceAdmitted (admission MirrorLayer half v.on b (length before)) before v w
    ((q : Copy) × (t : S) × ReadsCopies does b (half + b) v.below q t × (w ≡ read_up b before q t))
MirrorDoes {S} does half v (writes b bytes) w =
    OnceAdmitted (admission MirrorLayer half v.on b (length bytes)) [] v w
    ((r : Answer) × (t : S) × InOrder does v.below (storing_both b (half + b) bytes) r t × (w ≡ passed_up r t))
MirrorDoes {S} does half v flushes w =
    OnceAdmitted (powered MirrorLayer v.on) [] v w
    ((r : Answer) × (t : S) × InOrder does v.below (flushes ∷ []) r t × (w ≡ passed_up r t))
MirrorDoes {S} does half v restarts w = (r : Answer) × (t : S) × Restarts does half v.below r t × (w ≡ passed_up r t)

-- the same over a store of this meaning: a mirror has half of its blocks
abbrev pub mirror_does : {S : Type 0} → (S → Meaning) → (S → Call → Response S → Type 0) → View S → Call → Response (View S) → Type 0
mirror_does meaning does v c w = MirrorDoes does (half (meaning v.below)) v c w
