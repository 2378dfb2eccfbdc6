-- The calls that a mirror makes below, put together. Assumes nothing.
use Rattle.std.proofs.Common.{◌≡◌, ℕ, zero, suc, ◌≤◌, List, [], ◌∷◌, ◌+◌, length, Option, Ok, Err, refl, ⊎_elim, arith}
use Rattle.std.proofs.lemmas.Bool.{cases_eq}
use Rattle.faults.specs.declared.faults.Fault.{Fault}
use Rattle.stores.specs.Outcomes.{Answer}
use Rattle.faults.specs.declared.faults.Layer.TheVariants.{Mirror as MirrorLayer}
use Rattle.stores.specs.Admission.{admission, powered}
use Rattle.stores.specs.Calls.{Call, Response, reads, writes, flushes, restarts, response, InOrder}
use Rattle.mirrors.specs.Below.{Copy, Probes, storing_both, mending, ReadsCopies, Repairs, Mends, Restarts, passed_up, read_up, MirrorDoes}
use Rattle.mirrors.specs.Views.{View}

module _ {S : Type 0} (does : S → Call → Response S → Type 0) (a b : ℕ) (s u v t : S) where
  -- both copies were read, and what makes them alike was called
  pub repaired : (one two : Option (List ℕ)) (r : Answer) → Probes does a s (Ok one) u → Probes does b u (Ok two) v → InOrder does v (mending a b one two) r t → Repairs does a b s r t
  unfolding Repairs
  repaired one two r p q h = (Ok one, u, p, (Ok two, v, q, h))

module _ {S : Type 0} (does : S → Call → Response S → Type 0) (half : ℕ) (s t : S) (e : Fault) where
  -- a fault ends the pass over the blocks, however many were to follow
  pub mends_ended : (n k : ℕ) → k ≤ n → Mends does half k s (Err e) t → Mends does half n s (Err e) t
  unfolding Mends
  mends_ended zero k l h = let z : k ≡ 0 = omega arith in rw z at h
  mends_ended (suc n) k l h =
      ⊎_elim
      (λ same. rw same at h)
      (λ less. (Err e, t, mends_ended n k (omega arith) h, (refl, refl)))
      (cases_eq k (suc n))

-- A call that the mirror admits is served.
module _ {S : Type 0} (does : S → Call → Response S → Type 0) (half : ℕ) (v : View S) (t : S) where
  pub read_served : (b : ℕ) (before : List ℕ) (q : Copy) → ◌≡◌ {A = Answer} (Ok tt) (admission MirrorLayer half v.on b (length before)) → ReadsCopies does b (half + b) v.below q t → MirrorDoes does half v (reads b before) (read_up b before q t)
  read_served b before q a h = rw (← a) (q, t, h, refl)

  pub write_served : (b : ℕ) (bytes : List ℕ) (r : Answer) → ◌≡◌ {A = Answer} (Ok tt) (admission MirrorLayer half v.on b (length bytes)) → InOrder does v.below (storing_both b (half + b) bytes) r t → MirrorDoes does half v (writes b bytes) (passed_up r t)
  write_served b bytes r a h = rw (← a) (r, t, h, refl)

  pub flush_served : (r : Answer) → ◌≡◌ {A = Answer} (Ok tt) (powered MirrorLayer v.on) → InOrder does v.below (flushes ∷ []) r t → MirrorDoes does half v flushes (passed_up r t)
  flush_served r a h = rw (← a) (r, t, h, refl)

  pub restart_served : (r : Answer) → Restarts does half v.below r t → MirrorDoes does half v restarts (passed_up r t)
  restart_served r h = (r, t, h, refl)

module _ {S : Type 0} (does : S → Call → Response S → Type 0) (half : ℕ) (s u t : S) where
  -- a restart below that is refused is the last that happens
  pub restart_ended : (e : Fault) → does s restarts (response (Err e) t) → Restarts does half s (Err e) t
  unfolding Restarts
  restart_ended e h = (response (Err e) t, h, (refl, refl))

  pub restart_mended : (r : Answer) → does s restarts (response (Ok tt) u) → Mends does half half u r t → Restarts does half s r t
  unfolding Restarts
  restart_mended r h m = (response (Ok tt) u, h, m)
