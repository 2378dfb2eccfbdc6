-- The writes of the sample blocks that hold a slot of the log put together, and how many they are. Assumes nothing.
use Rattle.std.proofs.Common.{◌≡◌, ℕ, zero, suc, ◌+◌, ◌<◌, ◌≤◌, true, false, cond, Ok, Err, refl, ap, ◌∙◌, ⊎_elim, arith, add-one}
use Rattle.std.proofs.lemmas.Bool.{cases_eq}
use Rattle.faults.specs.declared.faults.Fault.{Fault}
use Rattle.stores.specs.Calls.{Call, Response, InOrder}
use Rattle.stores.proofs.Sequences.{lists_joined, list_ended}
use Rattle.cards.specs.Memories.{Memory}
use Rattle.workings.specs.Refreshes.{touched, row_write, row_writes, touched_blocks}

module _ {S : Type 0} (does : S → Call → Response S → Type 0) (s u v : S) (t : Memory) where
  pub no_writes : InOrder does s (row_writes t 0) (Ok tt) s
  unfolding row_writes InOrder
  no_writes = (refl, refl)

  pub one_block_more : (b : ℕ) → InOrder does s (row_writes t b) (Ok tt) u → InOrder does u (row_write t b) (Ok tt) v → InOrder does s (row_writes t (b + 1)) (Ok tt) v
  unfolding row_writes
  one_block_more b h w = rw add-one (lists_joined does s u v (row_writes t b) _ (Ok tt) h w)

  -- a write that was refused is the last, however many were to follow
  pub refused_block : (b n : ℕ) (e : Fault) → b < n → InOrder does s (row_writes t b) (Ok tt) u → InOrder does u (row_write t b) (Err e) v → InOrder does s (row_writes t n) (Err e) v
  unfolding row_writes
  refused_block b zero e l h w = absurd (omega arith)
  refused_block b (suc n) e l h w =
      ⊎_elim
      (λ same. rw (← same) (lists_joined does s u v (row_writes t b) _ (Err e) h w))
      (λ less. list_ended does s v (row_writes t n) _ e (refused_block b n e (omega arith) h w))
      (cases_eq b n)

pub none_touched : (t : Memory) → touched_blocks t 0 ≡ 0
unfolding touched_blocks
none_touched t = refl

pub one_touched : (t : Memory) (b : ℕ) → touched t b ≡ true → touched_blocks t (b + 1) ≡ touched_blocks t b + 1
unfolding touched_blocks
one_touched t b is = rw add-one (ap (λ x. touched_blocks t b + cond x 1 0) is)

pub not_touched : (t : Memory) (b : ℕ) → touched t b ≡ false → touched_blocks t (b + 1) ≡ touched_blocks t b
unfolding touched_blocks
not_touched t b is = rw add-one (ap (λ x. touched_blocks t b + cond x 1 0) is ∙ omega arith)

-- no more than there are
pub few_touched : (t : Memory) (b : ℕ) → touched_blocks t b ≤ b
unfolding touched_blocks
few_touched t zero = omega arith
few_touched t (suc b) = grind (arith, few_touched t b)

-- what the check of `write_rows` goes by
pub ruleset writing = (no_writes, one_block_more, refused_block, none_touched, one_touched, not_touched, few_touched)
