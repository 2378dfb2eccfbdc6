-- The blocks that are read of a whole card, head, log and slots one after another. Assumes nothing.
use Rattle.std.proofs.Common.{◌≡◌, ℕ, true, List, [], ◌∷◌, ◌++◌, Ok, Err, Option, Result, refl, ap}
use Rattle.std.proofs.lemmas.List.{append-nil}
use Rattle.faults.specs.declared.faults.Fault.{Fault}
use Rattle.faults.specs.declared.faults.Layer.{Layer}
use Rattle.stores.specs.Calls.{Call, Response}
use Rattle.stores.specs.Meanings.{Meaning}
use Rattle.stores.specs.Outcomes.{Answer}
use Rattle.layouts.specs.Heads.{Fields}
use Rattle.cards.specs.Cards.{Card, filled}
use Rattle.cards.specs.Verdicts.{head_of, each, entry_check, slot_check, mount_of}
use Rattle.mounts.specs.Parts.{Shows}
use Rattle.mounts.specs.Reads.{if_passed, log_reads, sample_reads, mount_reads, no_check, ReadsFor}
use Rattle.mounts.proofs.ReadCalls.{reads_then, reads_stopped, reads_answered}

-- a store that is on shows what it reads
pub shown : (m : Meaning) → m.on ≡ true → Shows m (λ b. m.reads b)
shown m on = record { on = on; reads = λ b h. refl }

module _ {S : Type 0} (does : S → Call → Response S → Type 0) (own : Layer) (code : ℕ) (wrong : List ℕ → Option ℕ) (store : ℕ) (card : Card) (s u : S) where
  -- what follows the head
  abbrev body : Fields → List ℕ
  body h = log_reads own wrong h card ++ if_passed (each (entry_check own wrong h card) h.entries) (λ _. sample_reads own wrong h card)

  pub head_refused : {X Y : Type 0} (e : Fault) → ReadsFor {X = X} does s (0 ∷ []) (head_of own store code card) (Err e) u
      → ReadsFor {X = Y} does s (mount_reads own store code wrong card) (mount_of own store code wrong card) (Err e) u
  head_refused {X} e head =
      reads_stopped does X s u (head_of own store code card) (mount_of own store code wrong card) (0 ∷ []) (if_passed (head_of own store code card) body) e head
      (λ is. rw is refl)
      (λ is. rw is refl)

  module _ {X : Type 0} (h : Fields) (x : X) (right : head_of own store code card ≡ Ok h) (head : ReadsFor does s (0 ∷ []) (head_of own store code card) (Ok x) u) (v : S) where
    abbrev logs : Answer
    logs = each (entry_check own wrong h card) h.entries

    reads_of : mount_reads own store code wrong card ≡ (0 ∷ log_reads own wrong h card) ++ if_passed logs (λ _. sample_reads own wrong h card)
    reads_of = ap (λ (r : Result Fields Fault). 0 ∷ if_passed r body) right

    of_log : (e : Fault) → logs ≡ Err e → mount_of own store code wrong card ≡ Err e
    of_log e is = rw (right, is) refl

    -- a log that is refused, and no sample block was read
    pub log_refused : {Y Z : Type 0} (e : Fault) → ReadsFor {X = Y} does u (log_reads own wrong h card) logs (Err e) v
        → ReadsFor {X = Z} does s (mount_reads own store code wrong card) (mount_of own store code wrong card) (Err e) v
    log_refused {Y} e log =
        rw reads_of
        (reads_stopped does Y s v logs (mount_of own store code wrong card) (0 ∷ log_reads own wrong h card) (if_passed logs (λ _. sample_reads own wrong h card)) e
        (reads_then does s u v (head_of own store code card) logs (0 ∷ []) (log_reads own wrong h card) x (Err e) head log)
        (λ is. rw is refl)
        (of_log e))

    module _ {Y : Type 0} (passed : logs ≡ Ok tt) (y : Y) (log : ReadsFor does u (log_reads own wrong h card) logs (Ok y) v) (t : S) where
      abbrev slots : Answer
      slots = each (slot_check own wrong h card) (filled h)

      all_reads : mount_reads own store code wrong card ≡ (0 ∷ log_reads own wrong h card) ++ sample_reads own wrong h card
      all_reads = rw reads_of (ap (λ (r : Answer). (0 ∷ log_reads own wrong h card) ++ if_passed r (λ _. sample_reads own wrong h card)) passed)

      of_slots : (e : Fault) → slots ≡ Err e → mount_of own store code wrong card ≡ Err e
      of_slots e is = rw (right, passed, is) refl

      all_read : {Z : Type 0} (r : Result Z Fault) → ReadsFor does v (sample_reads own wrong h card) slots r t → ReadsFor does s (mount_reads own store code wrong card) slots r t
      all_read r rows =
          rw all_reads
          (reads_then does s v t logs slots (0 ∷ log_reads own wrong h card) (sample_reads own wrong h card) y r
          (reads_then does s u v (head_of own store code card) logs (0 ∷ []) (log_reads own wrong h card) x (Ok y) head log)
          rows)

      -- slots that are refused
      pub slots_refused : {Z : Type 0} (e : Fault) → ReadsFor {X = Unit} does v (sample_reads own wrong h card) slots (Err e) t
          → ReadsFor {X = Z} does s (mount_reads own store code wrong card) (mount_of own store code wrong card) (Err e) t
      slots_refused e rows =
          rw (← append-nil (mount_reads own store code wrong card))
          (reads_stopped does Unit s t slots (mount_of own store code wrong card) (mount_reads own store code wrong card) [] e (all_read (Err e) rows) (λ is. refl) (of_slots e))

      -- a whole card
      pub slots_accepted : {Z : Type 0} (z : Z) → ReadsFor does v (sample_reads own wrong h card) slots no_check t
          → ReadsFor does s (mount_reads own store code wrong card) (mount_of own store code wrong card) (Ok z) t
      slots_accepted z rows = reads_answered does s t slots (mount_of own store code wrong card) (mount_reads own store code wrong card) tt (Ok z) (all_read no_check rows) tt
