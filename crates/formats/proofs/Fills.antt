-- The calls that write blocks one after another and then settle them, put together. Assumes nothing.
use Rattle.std.proofs.Common.{ℕ, zero, suc, ◌+◌, ◌<◌, ◌⊎◌, List, Ok, Err, refl, ⊎_elim, arith, add-one}
use Rattle.std.proofs.lemmas.Bool.{cases_eq}
use Rattle.faults.specs.declared.faults.Fault.{Fault}
use Rattle.stores.specs.Calls.{Call, Response, response, writes, flushes, InOrder}
use Rattle.stores.specs.Meanings.{Content, Meaning}
use Rattle.stores.specs.Outcomes.{Answer}
use Rattle.stores.proofs.Sequences.{one_call, lists_joined, list_ended}
use Rattle.formats.specs.Fills.{fill_writes, fill_calls, Filling, Filled}

-- the n blocks from the first on read these bytes, and are not settled yet
pub record Unsettled (first n : ℕ) (bytes : List ℕ) (m k : Meaning) : Type 0 where
  pub filled : Filled first n bytes m k
  pub stands : (b : ℕ) (c : Content) → b < m.size → k.stands b c → m.stands b c ⊎ Filling first n bytes b c

module _ {S : Type 0} (does : S → Call → Response S → Type 0) (s u t : S) (first : ℕ) (bytes : List ℕ) where
  pub no_writes : InOrder does s (fill_writes first 0 bytes) (Ok tt) s
  unfolding fill_writes InOrder
  no_writes = (refl, refl)

  pub one_write : (i : ℕ) → InOrder does s (fill_writes first i bytes) (Ok tt) u → does u (writes (first + i) bytes) (response (Ok tt) t) → InOrder does s (fill_writes first (i + 1) bytes) (Ok tt) t
  unfolding fill_writes
  one_write i h w = rw add-one (lists_joined does s u t _ _ (Ok tt) h (one_call does u t _ (Ok tt) w))

  ended_early : (i n : ℕ) (e : Fault) → i < n → InOrder does s (fill_writes first i bytes) (Ok tt) u → does u (writes (first + i) bytes) (response (Err e) t) → InOrder does s (fill_writes first n bytes) (Err e) t
  unfolding fill_writes
  ended_early i zero e l h w = absurd (omega arith)
  ended_early i (suc n) e l h w =
      ⊎_elim
      (λ same. rw (← same) (lists_joined does s u t _ _ (Err e) h (one_call does u t _ (Err e) w)))
      (λ less. list_ended does s t (fill_writes first n bytes) _ e (ended_early i n e (omega arith) h w))
      (cases_eq i n)

  -- a write that was refused is the last, however many were to follow
  pub refused_write : (i n : ℕ) (e : Fault) → i < n → InOrder does s (fill_writes first i bytes) (Ok tt) u → does u (writes (first + i) bytes) (response (Err e) t) → InOrder does s (fill_calls first n bytes) (Err e) t
  refused_write i n e l h w = list_ended does s t (fill_writes first n bytes) _ e (ended_early i n e l h w)

  pub flush_last : (n : ℕ) (r : Answer) → InOrder does s (fill_writes first n bytes) (Ok tt) u → does u flushes (response r t) → InOrder does s (fill_calls first n bytes) r t
  flush_last n r h w = lists_joined does s u t _ _ r h (one_call does u t _ r w)

-- what the check of `fill` goes by
pub ruleset filling = (no_writes, one_write, refused_write, flush_last)
